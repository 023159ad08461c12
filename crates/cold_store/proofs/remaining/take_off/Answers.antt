use Rattle.cold_store.proofs.Common.{Ino, contents, key_cmp, ◌∙◌}
use Rattle.cold_store.proofs.NameLaws.{dirs_step}
use Rattle.cold_store.proofs.remaining.take_off.Goals as goal

abbrev none : Ino
none = record { 0 = 0 }

pub loop-dir-preserved : goal.loop-dir-preserved
loop-dir-preserved c =
    dirs_step c.args.dirs.now.trees c.args.queue.now c.loop-dir.dir-index none (contents key_cmp c.loop-dir.left) (contents key_cmp c.take_off_dir.new.left) c.loop-dir-test.true c.in_ok-take_off_dir.ensures
    ∙ c.loop-dir.invariant
