use Rattle.mdcache.proofs.Common.{◌∙◌}
use Rattle.mdcache.proofs.EmptyLaws.{none_if_not}
use Rattle.mdcache.proofs.mdcache.MdCache.format.Goals as goal

pub new-requires-clause-empty : goal.new-requires-clause-empty
new-requires-clause-empty g c = c.in-Ok-false.ensures.same ∙ none_if_not (g.S.Store.objects c.args.store) c.in-Ok-false.field-0 c.in-Ok-false.ensures.found c.in-Ok-false.field-0-test

pub returns-in-Ok-clause-empty : goal.returns-in-Ok-clause-empty
returns-in-Ok-clause-empty g c = none_if_not (g.S.Store.objects c.args.store) c.in-Ok-false.field-0 c.in-Ok-false.ensures.found c.in-Ok-false.field-0-test
