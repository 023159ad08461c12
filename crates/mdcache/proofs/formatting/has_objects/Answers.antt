use Rattle.mdcache.proofs.EmptyLaws.{page_told}
use Rattle.mdcache.proofs.formatting.has_objects.Goals as goal

pub returns-in-Ok-clause-found : goal.returns-in-Ok-clause-found
returns-in-Ok-clause-found g c = page_told (g.S.Store.objects c.args.store.now) c.in-Ok.page c.has_names.result c.in-Ok.ensures.found c.has_names.ensures
