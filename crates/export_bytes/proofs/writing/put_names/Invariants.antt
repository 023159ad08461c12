-- The bytes so far and those of the names to come are the whole.
use Rattle.export_bytes.proofs.Common.{drop, flat_map, is_sent_name, list_all, name_bytes, true, ◌++◌, ◌≡◌}
use Rattle.export_bytes.proofs.writing.put_names.Given as goal

abbrev pub invariant-loop-name : goal.invariant-loop-name
invariant-loop-name l = record {
  sent : list_all is_sent_name (drop l.name-index l.names) ≡ true;
  parts : l.out.items ++ flat_map name_bytes (drop l.name-index l.names) ≡ l.initial.out.items ++ flat_map name_bytes l.names;
}
