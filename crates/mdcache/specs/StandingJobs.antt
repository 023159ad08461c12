-- What a contract sees of the standing jobs.
use Rattle.std.specs.Prelude.{◌≡◌, ◌⊎◌, ℕ, Bool, true, Option, Some, None, IsSome}
use Rattle.std.specs.declared.cmp.Ordering.TheVariants.{Less}
use Rattle.std.specs.Ordering.{is_lt}
use Rattle.std.specs.FinMap as map
pub use Rattle.mds_types.specs.Leaf.{Leaf, leaf_cmp}
use Rattle.cached_frag.specs.declared.jobs.Job.{Job}

-- the job that stands for a leaf, if one does
abbrev pub Jobs : Type 0
Jobs = map.FinMap leaf_cmp Job

-- the jobs, and how many more fit with no growth
pub record JobTable : Type 0 where
  pub jobs : Jobs
  pub room : ℕ

-- no job has this number
abbrev pub NoneHasNumber : Jobs → ℕ → Type 0
NoneHasNumber jobs number = (leaf : Leaf) (job : Job) → map.get jobs leaf ≡ Some job → job.number ≡ number → ⊥

-- the leaf for which a job of this number stands; none, where none has it
abbrev pub Finds : Jobs → ℕ → Option Leaf → Type 0
Finds jobs number None = NoneHasNumber jobs number
Finds jobs number (Some leaf) = (job : Job) × (map.get jobs leaf ≡ Some job) × (job.number ≡ number)

-- a leaf is greater than another one; behind none are all
abbrev pub is_behind : Option Leaf → Leaf → Bool
is_behind None leaf = true
is_behind (Some other) leaf = is_lt (leaf_cmp other leaf)

-- the least leaf behind another for which a job stands; none, where none stands for a leaf behind it
abbrev pub IsNextJob : Jobs → Option Leaf → Option Leaf → Type 0
IsNextJob jobs after None = (leaf : Leaf) → is_behind after leaf ≡ true → map.get jobs leaf ≡ None
IsNextJob jobs after (Some next) =
    (is_behind after next ≡ true) × IsSome (map.get jobs next)
    × ((leaf : Leaf) → is_behind after leaf ≡ true → IsSome (map.get jobs leaf) → (leaf ≡ next)
    ⊎ (leaf_cmp next leaf ≡ Less))
