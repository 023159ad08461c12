use Rattle.script_output.proofs.ObjectLaws.{one_line}
use Rattle.script_output.proofs.objects.laws.object_has_one_line.Goals as goal

pub returns : goal.returns
returns c = one_line
