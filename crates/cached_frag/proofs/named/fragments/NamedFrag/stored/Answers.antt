use Rattle.cached_frag.proofs.KeptLaws.{kept_stored}
use Rattle.cached_frag.proofs.named.fragments.NamedFrag.stored.Goals as goal

pub invariant_of-result : goal.invariant_of-result
invariant_of-result c = kept_stored c.args.version _ _ _ _ _ c.requires c.new.ensures.empty c.counts_in-counts.ensures.counted c.counts_in-counts.ensures.few
