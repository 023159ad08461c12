-- So far the first commits ended, and those to come are at hand.
use Rattle.mdcache.proofs.BatchLaws.{EndsFirst}
use Rattle.mdcache.proofs.mdcache.MdCache.end_each.Given as goal

abbrev pub invariant-loop-one : goal.invariant-loop-one
invariant-loop-one g l = EndsFirst l.fn.self l.self l.ready l.one-index
