-- An administrator's step over the tree, said of the cluster.
use Rattle.cluster_core.proofs.Common.{Bool, Entry, Inboxes, IsLeft, IsUnseen, List, MatchBool, Pin, Roots, Standing, Supply, Table, refl, shown_tree, state_of, subst, sym, true, ◌≡◌}
use Rattle.mdcache.specs.State.{State as TreeState}

module _ (old new : TreeState) (before after : Roots) (exports later : Standing) (still : later ≡ exports) (numbers : List Supply) (inboxes : Inboxes) (pins : List Pin) (sessions : Table) (past : List Entry) where
  -- work that keeps the shown tree is unseen
  pub worked : shown_tree new ≡ shown_tree old → IsUnseen (state_of old before exports numbers inboxes pins sessions) (state_of new after later numbers inboxes pins sessions) past past
  worked tree = record { same = refl; tree = tree; left = λ i. record { tree = new; roots = after; exports = still i; numbers = numbers; inboxes = inboxes; pins = pins; sessions = sessions } }

  -- where the tree's state and the roots are as they were all is left
  pub left : new ≡ old → after ≡ before → IsLeft (state_of old before exports numbers inboxes pins sessions) (state_of new after later numbers inboxes pins sessions) past past
  left same roots = record { same = refl; left = λ i. record { tree = same i; roots = roots i; exports = still i; numbers = numbers; inboxes = inboxes; pins = pins; sessions = sessions } }

-- a rank that is there
pub at_rank : (done other : Type 0) (here : Bool) → here ≡ true → done → MatchBool here done other
at_rank done other here is h = subst (λ b. MatchBool b done other) (sym is) h
