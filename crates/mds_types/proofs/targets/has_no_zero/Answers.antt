use Rattle.mds_types.proofs.Common.{ap, not, ◌∙◌}
use Rattle.mds_types.proofs.ZeroBytes.{no_zero}
use Rattle.mds_types.proofs.targets.has_no_zero.Goals as goal

pub returns : goal.returns
returns c = ap not c.contains.ensures.value ∙ no_zero c.args.bytes.now
