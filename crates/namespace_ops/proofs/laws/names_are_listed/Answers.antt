use Rattle.mds_types.proofs.ListingLaws.{names_are_listed as law}
use Rattle.namespace_ops.proofs.laws.names_are_listed.Goals as goal

pub returns : goal.returns
returns c = law
