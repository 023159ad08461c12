use Rattle.ranked_tree.proofs.Common.{ap, false≢true, inr, is_freezing, is_imported, sym, ◌∙◌}
use Rattle.ranked_tree.proofs.ImportLaws.{given_cached, given_many, given_spelled, given_wrong}
use Rattle.ranked_tree.proofs.SendLaws.{held_here, versions_here}
use Rattle.ranked_tree.proofs.importing.sent_leaves.Goals as goal

pub spell_region-requires-clause-held : goal.spell_region-requires-clause-held
spell_region-requires-clause-held g c = held_here _ _ _ _ _ _ _ c.caches-caches.ensures c.dirs-dirs.ensures.homes c.dirs-dirs.ensures.trees c.requires.divided c.requires.stands (ap is_freezing c.requires.sent) (ap is_imported c.requires.sent)

pub spell_region-requires-clause-versions : goal.spell_region-requires-clause-versions
spell_region-requires-clause-versions g c = versions_here c.args.tree.now c.args.regions.now c.args.root.now c.args.export _ _ _ c.caches-caches.ensures c.dirs-dirs.ensures.homes c.dirs-dirs.ensures.trees c.requires.divided.owned.sound

pub returns-in_default-clause-refused : goal.returns-in_default-clause-refused
returns-in_default-clause-refused g c =
    inr (c.not_sent.ensures, given_many c.args.tree.now c.args.regions.now c.args.root.now c.args.export _ _ _ c.caches-caches.ensures c.dirs-dirs.ensures.homes c.dirs-dirs.ensures.trees _ c.in_ok-found.ensures c.args.bytes.now c.in_default.is)

pub returns-then-not-are_same-clause-refused : goal.returns-then-not-are_same-clause-refused
returns-then-not-are_same-clause-refused g c = inr (
  c.not_sent-then-not-are_same.ensures,
  given_wrong c.args.tree.now c.args.regions.now c.args.root.now c.args.export _ _ _ c.caches-caches.ensures c.dirs-dirs.ensures.homes c.dirs-dirs.ensures.trees _ c.in_ok-found.ensures c.args.bytes.now c.in-Some.field-0 c.in-Some.is
      (λ same. false≢true (sym c.if-not-are_same.true ∙ c.are_same.ensures.1 (c.as_slice.ensures.value ∙ same))),
)

pub returns-clause-cached : goal.returns-clause-cached
returns-clause-cached g c =
    given_cached c.args.tree.now c.args.regions.now c.args.root.now c.args.export _ _ _ c.caches-caches.ensures c.dirs-dirs.ensures.homes c.dirs-dirs.ensures.trees _ c.in_ok-found.ensures c.args.bytes.now c.in-Some.field-0 c.in-Some.is

pub returns-clause-spelled : goal.returns-clause-spelled
returns-clause-spelled g c =
    given_spelled c.args.tree.now c.args.regions.now c.args.root.now c.args.export _ _ _ c.caches-caches.ensures c.dirs-dirs.ensures.homes c.dirs-dirs.ensures.trees _ c.in_ok-found.ensures c.args.bytes.now c.in-Some.field-0 c.in-Some.is
    (sym (c.as_slice.ensures.value) ∙ c.are_same.ensures.0 c.if-not-are_same.false)
