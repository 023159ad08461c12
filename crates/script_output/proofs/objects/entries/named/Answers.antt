use Rattle.script_output.proofs.KeyLaws.{name_is}
use Rattle.script_output.proofs.objects.entries.named.Goals as goal

pub returns : goal.returns
returns c = name_is c.args.key.now _ c.name_of.ensures.named
