use Rattle.sessions.proofs.Common.{changed_at, contents, is_among, length, nat_cmp, not, row_at, take, ◌&&◌, ◌≡◌, ℕ}
use Rattle.std.proofs.Common.{vec_capacity}
use Rattle.std.specs.FinMap as map
use Rattle.sessions.proofs.session_table.clear.Given as goal

-- so many aren't changed any more
abbrev pub invariant-loop-client : goal.invariant-loop-client
invariant-loop-client l = record {
  rows : (i : ℕ) → row_at l.sessions.items i ≡ row_at l.fn.sessions.items i;
  long : length l.sessions.items ≡ length l.fn.sessions.items;
  capacity : vec_capacity l.sessions ≡ vec_capacity l.fn.sessions;
  cleared : (client : ℕ) → changed_at l.sessions.items (map.get (contents nat_cmp l.indices) client)
      ≡ (changed_at l.fn.sessions.items (map.get (contents nat_cmp l.indices) client) && not (is_among (take l.client-index l.changed) client));
}
