use Rattle.cold_store.proofs.Common.{contents, key_cmp, string_bytes}
use Rattle.cold_store.proofs.NameLaws.{keys_more}
use Rattle.cold_store.proofs.remaining.put_names.Goals as goal

pub loop-name-preserved : goal.loop-name-preserved
loop-name-preserved c =
    keys_more string_bytes (contents key_cmp c.args.names.now) (contents key_cmp c.loop-name.names) (contents key_cmp c.put_name.new.names) c.loop-name.yielded c.in-Some.name c.loop-name.invariant (rw (← c.as_str.ensures.value) c.in_ok-put_name.ensures)
