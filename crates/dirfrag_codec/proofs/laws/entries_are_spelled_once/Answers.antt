use Rattle.dirfrag_codec.proofs.Common.{inr}
use Rattle.dirfrag_codec.proofs.RecordLaws.{ended, its_spellings, one_entry}
use Rattle.dirfrag_codec.proofs.ValueLaws.{reads_entry, reads_written}
use Rattle.dirfrag_codec.proofs.laws.entries_are_spelled_once.Goals as goal

pub returns-clause-meaning : goal.returns-clause-meaning
returns-clause-meaning c = one_entry

pub returns-clause-spelling : goal.returns-clause-spelling
returns-clause-spelling c = its_spellings.second

pub returns-clause-again : goal.returns-clause-again
returns-clause-again c = λ bytes inode written. inr written

pub returns-clause-ended : goal.returns-clause-ended
returns-clause-ended c = ended

pub returns-clause-value : goal.returns-clause-value
returns-clause-value c = reads_entry

pub returns-clause-written : goal.returns-clause-written
returns-clause-written c = reads_written

pub returns-clause-versions : goal.returns-clause-versions
returns-clause-versions c = its_spellings
