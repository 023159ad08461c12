use Rattle.cold_store.proofs.TabledLaws.{walked_is_tabled}
use Rattle.cold_store.proofs.laws.walked_is_tabled.Goals as goal

pub returns : goal.returns
returns c = walked_is_tabled
