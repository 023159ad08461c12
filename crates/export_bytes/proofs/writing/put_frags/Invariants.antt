-- The bytes so far and those of the fragments to come are the whole.
use Rattle.export_bytes.proofs.Common.{drop, flat_map, frag_bytes, is_sent_frag, list_all, true, ◌++◌, ◌≡◌}
use Rattle.export_bytes.proofs.writing.put_frags.Given as goal

abbrev pub invariant-loop-frag : goal.invariant-loop-frag
invariant-loop-frag l = record {
  sent : list_all is_sent_frag (drop l.frag-index l.frags) ≡ true;
  parts : l.out.items ++ flat_map frag_bytes (drop l.frag-index l.frags) ≡ l.initial.out.items ++ flat_map frag_bytes l.frags;
}
