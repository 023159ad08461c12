-- Each new answer is that of one of these directories, and there is room for the rest.
use Rattle.export_regions.proofs.Common.{AreNoted, contents, length, nat_cmp, ◌≤◌}
use Rattle.export_regions.proofs.known_dirs.put_all.Given as goal

abbrev pub invariant-loop-i : goal.invariant-loop-i
invariant-loop-i l = record {
  within : l.i ≤ length l.way;
  room : l.i ≤ l.answers.room;
  noted : AreNoted l.way l.told (contents nat_cmp l.fn.answers) (contents nat_cmp l.answers);
}

abbrev pub decreases-loop-i : goal.decreases-loop-i
decreases-loop-i l = l.i
