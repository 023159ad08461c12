-- The descent to f passes the fragment of so many bits, and there is room to halve what is left.
use Rattle.fragtree.proofs.Common.{AllSome, Descends, KeepsEnds, contents, frag_cmp, splits_round, ◌*◌, ◌+◌, ◌-◌, ◌≤◌}
use Rattle.fragtree.proofs.closing.lead_to.Given as goal

abbrev pub invariant-loop-bits : goal.invariant-loop-bits
invariant-loop-bits l = record {
  some : AllSome (contents frag_cmp l.splits);
  same : KeepsEnds (contents frag_cmp l.initial.splits) (contents frag_cmp l.splits);
  passes : Descends (splits_round (contents frag_cmp l.splits) l.f.value) l.bits 0;
  within : l.bits ≤ l.f.bits;
  room : 2 * l.f.bits ≤ l.splits.room + 2 * l.bits;
}

abbrev pub decreases-loop-bits : goal.decreases-loop-bits
decreases-loop-bits l = l.f.bits - l.bits
