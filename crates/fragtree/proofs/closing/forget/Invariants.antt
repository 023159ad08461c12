-- What lies elsewhere is as before, and nothing is split that wasn't.
use Rattle.fragtree.proofs.Common.{ContainsFragment, Fragment, Some, contents, frag_cmp, ℕ, ◌≡◌}
use Rattle.std.specs.FinMap as map
use Rattle.fragtree.proofs.closing.forget.Given as goal

abbrev pub invariant-loop-within : goal.invariant-loop-within
invariant-loop-within l = record {
  kept : (g : Fragment) → (ContainsFragment l.f g → ⊥) → map.get (contents frag_cmp l.splits) g ≡ map.get (contents frag_cmp l.initial.splits) g;
  fewer : (g : Fragment) (nb : ℕ) → map.get (contents frag_cmp l.splits) g ≡ Some nb → map.get (contents frag_cmp l.initial.splits) g ≡ Some nb;
}

abbrev pub decreases-loop-within : goal.decreases-loop-within
decreases-loop-within l = map.len (contents frag_cmp l.splits)
