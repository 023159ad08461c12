use Rattle.fragtree.proofs.TreeLaws.{one_split_refusal}
use Rattle.fragtree.proofs.laws.split_is_refused_for_one_reason.Goals as goal

pub returns : goal.returns
returns c = one_split_refusal
