use Rattle.fragtree.proofs.TreeLaws.{one_merge_refusal}
use Rattle.fragtree.proofs.laws.merge_is_refused_for_one_reason.Goals as goal

pub returns : goal.returns
returns c = one_merge_refusal
