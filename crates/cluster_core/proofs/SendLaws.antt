-- What Send of the tree with its ranks is to the cluster.
use Rattle.cluster_core.proofs.Common.{Core, Entry, Inboxes, IsUnseenStep, KeepsTreeAndRoots, Leaf, List, Ok, Pin, Ranked, Sends, SendsExport, Sent, Subtrees, Supply, Table, ap, core_of, refl, shown_tree, ℕ, ◌≡◌}
use Rattle.mdcache.specs.Core.{Core as TreeCore, state_of as tree_state}

module _ (old new : Ranked) (numbers : List Supply) (inboxes : Inboxes) (pins : List Pin) (sessions : Table) (past : List Entry) (leaf : Leaf) (tree : new.tree ≡ old.tree) (subtrees : new.subtrees ≡ old.subtrees) where
  abbrev was : Core
  was = core_of old.tree old.subtrees.roots old.exports numbers inboxes pins sessions

  abbrev is : Core
  is = core_of new.tree new.subtrees.roots new.exports numbers inboxes pins sessions

  keeps : KeepsTreeAndRoots was.state is.state
  keeps = record { tree = ap tree_state tree; roots = ap (λ (s : Subtrees). s.roots) subtrees }

  unseen : IsUnseenStep was.state is.state past past
  unseen = record { same = refl; tree = ap (λ (t : TreeCore). shown_tree (tree_state t)) tree; left = refl }

  pub sent_so : (bytes : List ℕ) → Sends old new leaf bytes → SendsExport was is past past leaf (Ok (Sent bytes))
  sent_so bytes sends = (bytes, refl, (sends.step, sends.region, keeps), unseen)
