use Rattle.dirfrag_codec.proofs.ValueLaws.{one_key, reads_key}
use Rattle.dirfrag_codec.proofs.laws.keys_are_spelled_once.Goals as goal

pub returns-clause-meaning : goal.returns-clause-meaning
returns-clause-meaning c = one_key

pub returns-clause-value : goal.returns-clause-value
returns-clause-value c = reads_key
