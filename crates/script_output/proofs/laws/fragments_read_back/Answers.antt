use Rattle.script_output.proofs.PrintedFragments.{frag_of-printed}
use Rattle.script_output.proofs.laws.fragments_read_back.Goals as goal

pub returns : goal.returns
returns c = frag_of-printed
