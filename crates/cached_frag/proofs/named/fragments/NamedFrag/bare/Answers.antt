use Rattle.cached_frag.proofs.KeptLaws.{kept_bare}
use Rattle.cached_frag.proofs.named.fragments.NamedFrag.bare.Goals as goal

pub invariant_of-result : goal.invariant_of-result
invariant_of-result c = kept_bare c.args.base c.args.generation _ _ _ _ c.new.ensures.empty c.new-2.ensures.empty
