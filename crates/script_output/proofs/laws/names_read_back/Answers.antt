use Rattle.script_output.proofs.PrintedNames.{bytes_of-escaped}
use Rattle.script_output.proofs.laws.names_read_back.Goals as goal

pub returns : goal.returns
returns c = bytes_of-escaped
