-- What the calls of a cache keep: the ties of all cached fragments to their objects, and the snapshots whose commits
-- stand.
use Rattle.std.specs.Prelude.{◌≡◌, ℕ, ◌<◌, false, List, Option, Some}
use Rattle.std.specs.FinMap as map
use Rattle.objstore.specs.Omap.{Omap}
use Rattle.cached_frag.specs.declared.marks.Mark.{Mark}
use Rattle.cached_frag.specs.Marks.{Marks}
use Rattle.cached_frag.specs.Snap.{IsSnap, Snap}
use Rattle.cached_frag.specs.Cached.{Cached, is_clean, is_clean_over, marked, snapshot_of}
use Rattle.dentry_cache.specs.Ties.{Commits, IsTied}

-- these names all have versions below this
abbrev pub AreBelow : ℕ → Marks → Type 0
AreBelow version names = (name : List ℕ) (mark : Mark) → map.get names name ≡ Some mark → mark.version < version

-- a fragment with a snapshot that stands isn't clean
abbrev pub StandingIsUnclean : Type 0
StandingIsUnclean =
    (snapshot : Snap) (f : Cached) (object : Option Omap) → is_clean_over snapshot.base snapshot.names ≡ false
    → Commits snapshot f object → is_clean f ≡ false

-- the commit of a snapshot that was just taken can end
abbrev pub TakenCanEnd : Type 0
TakenCanEnd =
    (snapshot : Snap) (f : Cached) (object : Option Omap) → IsSnap snapshot → snapshot ≡ snapshot_of f → IsTied f object
    → Commits snapshot f object

-- it can still once a name has changed at a version above all of the snapshot's
abbrev pub ChangedCanEnd : Type 0
ChangedCanEnd =
    (snapshot : Snap) (f : Cached) (object : Option Omap) (name : List ℕ) (mark : Mark)
    → AreBelow mark.version snapshot.names → Commits snapshot f object → Commits snapshot (marked f name mark) object
