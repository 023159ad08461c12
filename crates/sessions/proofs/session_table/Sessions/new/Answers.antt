use Rattle.sessions.proofs.Common.{ap₂, arith, rows, ◌∙◌}
use Rattle.sessions.proofs.ChangedLaws.{listed_none}
use Rattle.sessions.proofs.RowLaws.{indexed_none, rows-empty, both_behind}
use Rattle.sessions.proofs.session_table.Sessions.new.Goals as goal

pub invariant_of-result : goal.invariant_of-result
invariant_of-result c =
    (rw (c.new.ensures.empty, c.new-2.ensures.items) indexed_none, tt, omega arith, rw (c.new.ensures.empty, c.new-2.ensures.items, c.new-3.ensures.items) listed_none)

pub returns-clause-empty : goal.returns-clause-empty
returns-clause-empty c = both_behind 0 _ _ _ _ (ap₂ rows c.new.ensures.empty c.new-2.ensures.items ∙ rows-empty) c.new-3.ensures.items
