-- The names so far, and those to come, are all names.
use Rattle.export_regions.proofs.Common.{map, sent_names, ◌++◌, ◌≡◌}
use Rattle.export_regions.proofs.gathering.names_of.Given as goal

abbrev pub invariant-loop-name : goal.invariant-loop-name
invariant-loop-name l = l.names.items ++ map (λ e. (e.0, e.1.inode)) l.name-iterator ≡ sent_names l.fragment.dirty
