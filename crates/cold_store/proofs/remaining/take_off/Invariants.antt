-- What the directories to come take off is what all of them take off.
use Rattle.cold_store.proofs.Common.{contents, drop, key_cmp, texts_from, keys_without, ◌≡◌}
use Rattle.cold_store.proofs.remaining.take_off.Given as goal

abbrev pub invariant-loop-dir : goal.invariant-loop-dir
invariant-loop-dir l = keys_without (contents key_cmp l.left) (texts_from l.dirs.trees (drop l.dir-index l.queue)) ≡ keys_without (contents key_cmp l.fn.left) (texts_from l.fn.dirs.trees l.fn.queue)
