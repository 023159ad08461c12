use Rattle.dirfrag_codec.proofs.ValueLaws.{reads_header}
use Rattle.dirfrag_codec.proofs.laws.headers_are_spelled_once.Goals as goal

pub returns-clause-value : goal.returns-clause-value
returns-clause-value c = reads_header
