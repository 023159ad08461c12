use Rattle.sorted_map.proofs.Common.{is_sorted, length, ◌∷◌, ◌≡◌}
use Rattle.sorted_map.proofs.chunked.clones.rises.Given as goal

-- all rise just where the last that was seen and those that are left do
abbrev pub invariant-loop-pair : goal.invariant-loop-pair
invariant-loop-pair g l = record { whole : is_sorted g.K.Ord.cmp (l.last ∷ l.pairs) ≡ is_sorted g.K.Ord.cmp l.fn.pairs }

abbrev pub decreases-loop-pair : goal.decreases-loop-pair
decreases-loop-pair g l = length l.pairs
