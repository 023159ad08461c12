use Rattle.objstore.proofs.PageLaws.{pages_make_up as law}
use Rattle.objstore.proofs.laws.pages_make_up_whole.Goals as goal

pub returns : goal.returns
returns c = law
