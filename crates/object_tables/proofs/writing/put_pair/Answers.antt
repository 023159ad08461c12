use Rattle.std.proofs.Common.{◌≡◌, ◌∙◌, ap, option_copied, rules, subst, sym, Some}
use Rattle.std.proofs.lemmas.Result.{on_ok_weaker}
use Rattle.object_tables.specs.Entries.{HasNoOther, IsKeyedTable, PutsRow, texts_of}
use Rattle.object_tables.specs.Spelled.{pair_key}
use Rattle.object_tables.proofs.writing.put_pair.Goals as goal

pub returns-in-Some-clause-ok : goal.returns-in-Some-clause-ok
returns-in-Some-clause-ok g c = on_ok_weaker c.add_entry.result
    (λ done clean table right.
    let old = g.T.Store.view c.args.trees.now in
    let new = g.T.Store.view c.add_entry.new.trees in
    let rows = old.trees 1 in
    let key = pair_key c.args.spot.now.0 c.args.spot.now.1 in
    let value = c.in-Some.value.now in
    let is : c.push-2.new.self ≡ key = search rules in
    let copied : option_copied c.args.value ≡ Some value = ap option_copied c.in-Some.is in
    let only : HasNoOther rows key value = λ v row. let e : Some value ≡ Some v = sym copied ∙ right c.if-is_new.true v row in cc in
    subst (PutsRow old new 1 key) (sym copied) (subst (λ k. PutsRow old new 1 k (Some value)) is
    (done clean (subst (λ k. IsKeyedTable (texts_of k) rows) (sym is) table) (subst (λ k. HasNoOther rows k value) (sym is) only))))
    c.add_entry.ensures.ok
