use Rattle.subtree_map.proofs.Common.{Entry, Hears, IsPut, Option, ListRows, ap, entry_at, get_or, heard, length, adds_row, refl, subst, sym, ◌<◌, ◌==◌, ◌∙◌}
use Rattle.subtree_map.proofs.RowLaws.{at_index, telling_room, turn_ends, turn_goes, turn_starts}
use Rattle.subtree_map.proofs.list_rows.tell.Goals as goal

pub put_row-requires : goal.put_row-requires
put_row-requires c made =
    let within : c.loop-i.i < length c.loop-i.lists = subst (λ n. c.loop-i.i < n) (sym c.loop-i.invariant.many) c.loop-i-test.true in
    let here = at_index c.loop-i.lists c.loop-i.i c.index-lists-i.result within c.index-lists-i.is in
    let row = c.heard-row.ensures ∙ ap (λ (o : Option Entry). heard o (c.loop-i.i == c.args.home) c.args.news) (c.copied.ensures ∙ c.get.ensures) in
    subst (λ (x : ListRows). 0 < x.room) c.index-lists-i.is
    (telling_room c.args.leaf c.args.home c.args.news c.args.lists.now c.loop-i.lists c.loop-i.i c.index-lists-i.result c.heard-row.result within c.loop-i.invariant here
    (row ∙ ap (λ (x : ListRows). heard (entry_at x c.args.leaf) (c.loop-i.i == c.args.home) c.args.news) (sym c.index-lists-i.is)) c.requires
    (ap (λ (x : ListRows). adds_row (entry_at x c.args.leaf) c.heard-row.result) c.index-lists-i.is ∙ made))

pub loop-i-preserved : goal.loop-i-preserved
loop-i-preserved c =
    let within : c.loop-i.i < length c.loop-i.lists = subst (λ n. c.loop-i.i < n) (sym c.loop-i.invariant.many) c.loop-i-test.true in
    let here = at_index c.loop-i.lists c.loop-i.i c.index-lists-i.result within c.index-lists-i.is in
    let row = c.heard-row.ensures ∙ ap (λ (o : Option Entry). heard o (c.loop-i.i == c.args.home) c.args.news) (c.copied.ensures ∙ c.get.ensures) in
    turn_goes (Hears c.args.leaf c.args.home c.args.news) c.args.lists.now c.loop-i.lists _ c.loop-i.i c.put_row.new.rows within c.loop-i.invariant
    (subst (λ (x : ListRows). IsPut c.args.leaf (heard (entry_at x c.args.leaf) (c.loop-i.i == c.args.home) c.args.news) x c.put_row.new.rows) (sym c.index-lists-i.is ∙ here)
    (subst (λ (o : Option Entry). IsPut c.args.leaf o (get_or c.loop-i.lists c.loop-i.i c.index-lists-i.result) c.put_row.new.rows) row c.put_row.ensures)) refl

pub loop-i-init : goal.loop-i-init
loop-i-init c = turn_starts (Hears c.args.leaf c.args.home c.args.news) c.args.lists.now

pub returns : goal.returns
returns c = turn_ends (Hears c.args.leaf c.args.home c.args.news) c.args.lists.now c.loop-i.lists c.loop-i.i c.loop-i-test.false c.loop-i.invariant
