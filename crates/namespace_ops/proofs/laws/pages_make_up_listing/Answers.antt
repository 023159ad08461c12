use Rattle.mds_types.proofs.ListingLaws.{pages_make_up as law}
use Rattle.namespace_ops.proofs.laws.pages_make_up_listing.Goals as goal

pub returns : goal.returns
returns c = law
