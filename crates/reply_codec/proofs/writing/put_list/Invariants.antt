-- The bytes so far and those of the names that are left are the whole. If the names that are left are names, all are.
use Rattle.reply_codec.proofs.Common.{AllByRecursion, IsListed, drop, flat_map, listed_bytes, ◌++◌, ◌≡◌}
use Rattle.reply_codec.proofs.writing.put_list.Given as goal

abbrev pub invariant-loop-entry : goal.invariant-loop-entry
invariant-loop-entry l = record {
  known : AllByRecursion IsListed (drop l.entry-index l.list) → AllByRecursion IsListed l.list;
  parts : l.out.items ++ flat_map listed_bytes (drop l.entry-index l.list) ≡ l.initial.out.items ++ flat_map listed_bytes l.list;
}
