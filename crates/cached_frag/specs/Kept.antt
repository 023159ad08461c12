-- What each cached fragment keeps. Only this crate's own contracts use these words.
use Rattle.std.specs.Prelude.{◌≡◌, ℕ, ◌+◌, ◌^◌, ◌<◌, ◌≤◌}
use Rattle.cached_frag.specs.declared.bases.EntryCounts.{EntryCounts}
use Rattle.cached_frag.specs.Marks.{AreDirtyNames}
use Rattle.cached_frag.specs.Snap.{counts_of}
use Rattle.cached_frag.specs.Cached.{Cached, AreEntries, IsBased, shown_names}

-- a fragment with these counts, whose map of dirty names has such room
pub record IsCachedWith (f : Cached) (counts : EntryCounts) (places : ℕ) : Type 0 where
  pub based : IsBased f.base f.clean
  pub entries : AreEntries f.clean
  pub dirty : AreDirtyNames f.dirty
  pub counted : counts ≡ counts_of (shown_names f)
  pub few : counts.files + counts.dirs + f.room < 2 ^ 64
  pub reserved : f.room ≤ places
