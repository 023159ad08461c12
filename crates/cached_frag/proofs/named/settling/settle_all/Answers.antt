use Rattle.cached_frag.proofs.Common.{AreEntries, Stored, ap, arith, contents, key_cmp, patched, subst, sym, ◌∙◌, ◌≡◌}
use Rattle.std.specs.FinMap as map
use Rattle.cached_frag.proofs.SettledLaws.{all_settled, none_dirty}
use Rattle.cached_frag.proofs.ShownLaws.{only_below, shown_entries}
use Rattle.cached_frag.proofs.named.settling.settle_all.Goals as goal

pub make_clean-requires : goal.make_clean-requires
make_clean-requires c =
    let same : map.len (contents key_cmp c.take.result) ≡ map.len c.args.names.now = ap (λ s. map.len (contents key_cmp s)) c.take.ensures.taken ∙ ap map.len (c.are_these.ensures c.if-are_these.true) in
    omega (arith, same, c.requires.room)

pub returns-then-are_these-clause-dirty : goal.returns-then-are_these-clause-dirty
returns-then-are_these-clause-dirty c = c.take.ensures.empty ∙ sym (all_settled (contents key_cmp c.args.dirty.now) c.args.names.now (c.are_these.ensures c.if-are_these.true))

pub returns-then-are_these-clause-shown : goal.returns-then-are_these-clause-shown
returns-then-are_these-clause-shown c =
    only_below (contents key_cmp c.give_back.new.self) (contents key_cmp c.take.new.self) c.take.ensures.empty
    ∙ c.give_back.ensures.same ∙ c.make_clean.ensures ∙ ap (λ s. patched (contents key_cmp c.args.clean.now) (contents key_cmp s)) c.take.ensures.taken

pub returns-then-are_these-clause-entries : goal.returns-then-are_these-clause-entries
returns-then-are_these-clause-entries c =
    let is = c.give_back.ensures.same ∙ c.make_clean.ensures ∙ ap (λ s. patched (contents key_cmp c.args.clean.now) (contents key_cmp s)) c.take.ensures.taken in
    subst AreEntries (sym is) (shown_entries (Stored 0) (contents key_cmp c.args.clean.now) (contents key_cmp c.args.dirty.now) tt c.requires.entries c.requires.marks)

pub returns-then-are_these-clause-marks : goal.returns-then-are_these-clause-marks
returns-then-are_these-clause-marks c = none_dirty _ c.take.ensures.empty
