-- How large a run may be.
use Rattle.std.specs.Prelude.{ℕ, ◌≤◌}

-- 1 to 16 ranks, 1 to 16 workers, 1 to 64 clients, and at most 1000 files for each client
pub record IsLoad (ranks workers clients creates : ℕ) : Type 0 where
  pub some_ranks : 1 ≤ ranks
  pub most_ranks : ranks ≤ 16
  pub some_workers : 1 ≤ workers
  pub most_workers : workers ≤ 16
  pub some_clients : 1 ≤ clients
  pub most_clients : clients ≤ 64
  pub most_creates : creates ≤ 1000
