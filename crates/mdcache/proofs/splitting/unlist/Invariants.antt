use Rattle.mdcache.proofs.Common.{drop, without_objects, ◌≡◌}
use Rattle.mdcache.proofs.splitting.unlist.Given as goal

abbrev pub invariant-loop-name : goal.invariant-loop-name
invariant-loop-name l = without_objects l.purge.names (drop l.name-index l.name-items) ≡ without_objects l.initial.purge.names l.name-items
