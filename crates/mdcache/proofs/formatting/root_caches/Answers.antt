use Rattle.mdcache.proofs.Common.{CacheMap, ap, root_leaf, ◌∙◌}
use Rattle.std.specs.FinMap as map
use Rattle.mdcache.proofs.NewLaws.{none_held}
use Rattle.mdcache.proofs.formatting.root_caches.Goals as goal

pub put_root-requires-clause-none : goal.put_root-requires-clause-none
put_root-requires-clause-none c = ap (λ (k : CacheMap). map.get k.held root_leaf) c.in_ok-caches.ensures ∙ none_held c.args.ranks c.args.places root_leaf
