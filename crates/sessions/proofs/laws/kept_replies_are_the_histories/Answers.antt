use Rattle.sessions.proofs.Common.{row_in, ◌∙◌}
use Rattle.std.specs.FinMap as map
use Rattle.sessions.proofs.ReplyLaws.{kept_is, sorted_entries, sorted_replies}
use Rattle.sessions.proofs.WrittenLaws.{rows_of}
use Rattle.sessions.proofs.laws.kept_replies_are_the_histories.Goals as goal

pub returns-clause-replies : goal.returns-clause-replies
returns-clause-replies c = kept_is

pub returns-clause-order : goal.returns-clause-order
returns-clause-order c = λ history table client.
    sorted_replies history table.forgotten (row_in table client).aside (map.entries (row_in table client).kept) ∙ sorted_entries (row_in table client).kept

pub returns-clause-stored : goal.returns-clause-stored
returns-clause-stored c = rows_of
