-- What a state is once leaves were handed over from one rank to another.
use Rattle.std.specs.Prelude.{◌≡◌, List, None}
use Rattle.std.specs.List.{AllByRecursion}
use Rattle.std.specs.FinMap as map
use Rattle.dentry_cache.specs.Cache.{Leaf}
use Rattle.dentry_cache.specs.Handing.{AreHanded}
use Rattle.mdcache.specs.Made.{IsUntouched}
use Rattle.mdcache.specs.Shown.{shown_tree}
use Rattle.mdcache.specs.Sound.{IsSound}
use Rattle.mdcache.specs.StandingJobs.{Jobs}
use Rattle.mdcache.specs.State.{State}

-- no job stands for one of these leaves
abbrev pub HaveNoJobs : Jobs → List Leaf → Type 0
HaveNoJobs jobs leaves = AllByRecursion (λ (leaf : Leaf). map.get jobs leaf ≡ None) leaves

-- what isn't clean of these leaves is of generation 0, and all else is as it was
pub record IsGivenOver (leaves : List Leaf) (old new : State) : Type 0 where
  pub unsaved : AreHanded leaves old.unsaved new.unsaved
  pub beside : new ≡ record old { unsaved = new.unsaved }

-- leaves for which no job stands were handed over: the state is sound then, its shown tree is the same, and each leaf
-- shows what it showed
abbrev pub GivenOverIsRight : Type 0
GivenOverIsRight =
    (old new : State) (leaves : List Leaf) → IsSound old → HaveNoJobs old.jobs leaves → IsGivenOver leaves old new
    → IsSound new × (shown_tree new ≡ shown_tree old) × ((leaf : Leaf) → IsUntouched old new leaf)
