use Rattle.script_output.proofs.ObjectCommon.{List, map, ℕ, ◌≡◌}
use Rattle.script_output.proofs.objects.fragments.keys_of.Given as goal

-- the keys of the pairs passed are in the list
abbrev pub invariant-loop-key : goal.invariant-loop-key
invariant-loop-key l = l.keys.items ≡ map (λ (pair : List ℕ × List ℕ). pair.0) l.yielded
