-- So far the first leaves were begun, and those to come aren't clean.
use Rattle.mdcache.proofs.BatchLaws.{BeginsFirst}
use Rattle.mdcache.proofs.mdcache.MdCache.begin_each.Given as goal

abbrev pub invariant-loop-at : goal.invariant-loop-at
invariant-loop-at g l = BeginsFirst l.fn.self l.self l.leaves l.at-index l.begun.items
