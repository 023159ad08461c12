-- A store that was flushed opens with what was shown.
use Rattle.cluster_core.proofs.Common.{Objects, Tree, subst, ◌∙◌, ◌≡◌}
use Rattle.mdcache.specs.Mounted.{IsColdTree}
use Rattle.cold_store.proofs.ColdLaws.{has_one_cold_tree}

pub opens_again : (flushed kept : Objects) (tree opening found : Tree) → kept ≡ flushed → IsColdTree flushed tree → IsColdTree kept found → opening ≡ found → opening ≡ tree
opens_again flushed kept tree opening found same was is opens = opens ∙ has_one_cold_tree flushed found tree (subst (λ (objects : Objects). IsColdTree objects found) same is) was
