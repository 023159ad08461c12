use Rattle.sessions.proofs.Common.{false, forget_all, drop, length, take, table, ◌≡◌}
use Rattle.sessions.proofs.session_table.Sessions.forget_while.Given as goal

-- so many went, and those behind them are as they were
abbrev pub invariant-loop-i : goal.invariant-loop-i
invariant-loop-i l = record {
  left : drop l.i l.history.items ≡ drop l.i l.fn.history.items;
  long : length l.history.items ≡ length l.fn.history.items;
  stays : l.may_move ≡ false → (table l.self).rows ≡ (table l.fn.self).rows;
  aside : table l.self ≡ forget_all (table l.fn.self) (take l.i l.fn.history.items);
  changed : l.self.changed ≡ l.fn.self.changed;
}
