-- The names so far are there.
use Rattle.cold_store.proofs.Common.{contents, key_cmp, string_bytes, with_keys, ◌≡◌}
use Rattle.std.specs.Prelude.{map as each}
use Rattle.cold_store.proofs.remaining.put_names.Given as goal

abbrev pub invariant-loop-name : goal.invariant-loop-name
invariant-loop-name l = contents key_cmp l.names ≡ with_keys (contents key_cmp l.fn.names) (each string_bytes l.yielded)
