use Rattle.export_steps.proofs.Common.{contents, leaf_cmp, slice_get, ◌≡◌}
use Rattle.std.specs.FinMap as map
use Rattle.export_steps.proofs.exports.nth_row.Given as goal

abbrev pub invariant-loop-before : goal.invariant-loop-before
invariant-loop-before l = slice_get l.rest l.before ≡ slice_get (map.entries (contents leaf_cmp l.rows)) l.index

abbrev pub decreases-loop-before : goal.decreases-loop-before
decreases-loop-before l = l.before
