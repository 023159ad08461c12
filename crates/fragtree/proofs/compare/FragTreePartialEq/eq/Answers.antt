-- Whether each leaf of one is one of the other decides whether they are one, as the test of the two lists does.
use Rattle.fragtree.proofs.Common.{one_answer, refl, rules, slice_eq-Decides}
use Rattle.fragtree.proofs.compare.FragTreePartialEq.eq.Goals as goal

pub returns-then-len-clause-gives : goal.returns-then-len-clause-gives
returns-then-len-clause-gives c = one_answer _ _ c.have_same_leaves.ensures (slice_eq-Decides (λ a b. search rules) _ _ _ refl)
