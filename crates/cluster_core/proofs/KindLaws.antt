-- A walk over the candidates of a kind ends at the least leaf at which a rank would make a step of it.
use Rattle.cluster_core.proofs.Common.{Event, IsBehind, IsFirstStep, IsIdle, IsLargeIn, IsLeast, IsNextLeaf, IsNextOf, IsNextStep, IsSmallIn, Kind, Leaf, MatchOption, Merge, None, OfExport, OfLarge, OfSmall, Option, Sight, Some, Split, StandingExport, Would, WouldNot, child, false, is_some, leaves_of, length, one_value, refl, subst, true, ℕ, ◌<◌, ◌≡◌, ◌≤◌}
use Rattle.std.specs.FinMap as map
use Rattle.export_steps.specs.ByExporter as by
use Rattle.cluster_core.proofs.WalkLaws.{IsWalked, ended, found, passed}

-- it would make a step of a kind at a leaf
abbrev pub Passes : Sight → Kind → Leaf → Type 0
Passes s kind leaf = (event : Event) × Would s kind leaf event

module _ (s : Sight) (kind : Kind) (Candidate : Leaf → Type 0) (is : (leaf : Leaf) → Passes s kind leaf → Candidate leaf) where
  pub least_found : (after : Option Leaf) (leaf : Leaf) (event : Event) → IsWalked (Passes s kind) after → IsNextLeaf Candidate after (Some leaf) → Would s kind leaf event → IsLeast s kind event
  least_found after leaf event walked next would = record { leaf = leaf; would = would; least = λ other another w. found Candidate (Passes s kind) is after leaf walked next other (another, w) }

  pub none_left : (after : Option Leaf) → IsWalked (Passes s kind) after → IsNextLeaf Candidate after None → WouldNot s kind
  none_left after walked none leaf event would = ended Candidate (Passes s kind) is after walked none leaf (event, would)

-- an export of the rank's stands at a root
abbrev pub StandsAt : Sight → Leaf → Type 0
StandsAt s root = (export : StandingExport) × (map.get s.exports root ≡ Some export) × (export.exporter ≡ s.rank)

pub stands_where_it_goes_on : (s : Sight) (root : Leaf) → Passes s OfExport root → StandsAt s root
stands_where_it_goes_on s root (event, on) = (on.export, on.stands, on.exporter)

behind_so : (after : Option Leaf) (root : Leaf) → by.IsRootBehind after root → IsBehind after root
behind_so None root behind = tt
behind_so (Some one) root behind = behind

so_behind : (after : Option Leaf) (root : Leaf) → IsBehind after root → by.IsRootBehind after root
so_behind None root behind = tt
so_behind (Some one) root behind = behind

-- the next export is at the next root
pub next_root : (s : Sight) (after : Option Leaf) (root : Leaf) (export : StandingExport) → IsNextOf s.exports s.rank after (Some (root, export)) → IsNextLeaf (StandsAt s) after (Some root)
next_root s after root export next = record {
  is = (export, next.stands, next.exporter);
  behind = behind_so after root next.behind;
  least = λ other stands behind. next.least other stands.0 stands.1 stands.2 (so_behind after other behind);
}

pub no_root : (s : Sight) (after : Option Leaf) → IsNextOf s.exports s.rank after None → IsNextLeaf (StandsAt s) after None
no_root s after none root stands behind = none root stands.0 stands.1 stands.2 (so_behind after root behind)

-- it has a next step: the least, since none before has one
pub stepped : (s : Sight) (after : Option Leaf) (root : Leaf) (export : StandingExport) (found : Option Event) → IsWalked (Passes s OfExport) after → IsNextOf s.exports s.rank after (Some (root, export))
    → MatchOption found ((event : Event) → IsNextStep s root export.state event → ⊥) (λ event. IsNextStep s root export.state event) → is_some found ≡ true → IsFirstStep s OfExport found
stepped s after root export None walked next none is = let clash : false ≡ true = is in cc
stepped s after root export (Some event) walked next step is =
    least_found s OfExport (StandsAt s) (stands_where_it_goes_on s) after root event walked (next_root s after root export next)
    (record { export = export; stands = next.stands; exporter = next.exporter; next = step })

-- it has none, and is passed over
pub stepped_over : (s : Sight) (after : Option Leaf) (root : Leaf) (export : StandingExport) (found : Option Event) → IsWalked (Passes s OfExport) after → IsNextOf s.exports s.rank after (Some (root, export))
    → MatchOption found ((event : Event) → IsNextStep s root export.state event → ⊥) (λ event. IsNextStep s root export.state event) → is_some found ≡ false → IsWalked (Passes s OfExport) (Some root)
stepped_over s after root export (Some event) walked next step is = let clash : true ≡ false = is in cc
stepped_over s after root export None walked next none is =
    passed (StandsAt s) (Passes s OfExport) (stands_where_it_goes_on s) after root walked (next_root s after root export next)
    (λ passes. none passes.0 (subst (λ (e : StandingExport). IsNextStep s root e.state passes.0) (one_value _ passes.1.export export passes.1.stands next.stands) passes.1.next))

pub stepped_all : (s : Sight) (after : Option Leaf) → IsWalked (Passes s OfExport) after → IsNextOf s.exports s.rank after None → WouldNot s OfExport
stepped_all s after walked none = none_left s OfExport (StandsAt s) (stands_where_it_goes_on s) after walked (no_root s after none)

pub behind_next : (s : Sight) (after : Option Leaf) (root : Leaf) (export : StandingExport) → IsNextOf s.exports s.rank after (Some (root, export)) → IsBehind after root
behind_next s after root export next = behind_so after root next.behind

-- ---- large leaves

large_where : (s : Sight) (leaf : Leaf) → Passes s OfLarge leaf → IsLargeIn s.cached leaf
large_where s leaf (event, is) = is.many

-- the next one is to be split: the least, since none before is
pub split_found : (s : Sight) (after : Option Leaf) (leaf : Leaf) → IsWalked (Passes s OfLarge) after → IsNextLeaf (IsLargeIn s.cached) after (Some leaf) → (length (leaves_of s.covers leaf.0.0) ≤ 4089) × IsIdle s leaf
    → IsLeast s OfLarge (Split s.rank leaf.0 leaf.1 3)
split_found s after leaf walked next may =
    least_found s OfLarge (IsLargeIn s.cached) (large_where s) after leaf (Split s.rank leaf.0 leaf.1 3) walked next (record { many = next.is; idle = may.1; leaves = may.0; is = refl })

pub split_passed : (s : Sight) (after : Option Leaf) (leaf : Leaf) → IsWalked (Passes s OfLarge) after → IsNextLeaf (IsLargeIn s.cached) after (Some leaf) → ((length (leaves_of s.covers leaf.0.0) ≤ 4089) × IsIdle s leaf → ⊥)
    → IsWalked (Passes s OfLarge) (Some leaf)
split_passed s after leaf walked next may_not =
    passed (IsLargeIn s.cached) (Passes s OfLarge) (large_where s) after leaf walked next (λ passes. may_not (passes.1.leaves, passes.1.idle))

pub split_none : (s : Sight) (after : Option Leaf) → IsWalked (Passes s OfLarge) after → IsNextLeaf (IsLargeIn s.cached) after None → WouldNot s OfLarge
split_none s after walked none = none_left s OfLarge (IsLargeIn s.cached) (large_where s) after walked none

-- ---- small leaves

small_where : (s : Sight) (whole : Leaf) → Passes s OfSmall whole → IsSmallIn s.cached whole
small_where s whole (event, are) = are.few

pub merge_found : (s : Sight) (after : Option Leaf) (whole : Leaf) → IsWalked (Passes s OfSmall) after → IsNextLeaf (IsSmallIn s.cached) after (Some whole) → ((i : ℕ) → i < 8 → IsIdle s (child whole i))
    → IsLeast s OfSmall (Merge s.rank whole.0 whole.1)
merge_found s after whole walked next idle =
    least_found s OfSmall (IsSmallIn s.cached) (small_where s) after whole (Merge s.rank whole.0 whole.1) walked next (record { few = next.is; idle = idle; is = refl })

pub merge_passed : (s : Sight) (after : Option Leaf) (whole : Leaf) → IsWalked (Passes s OfSmall) after → IsNextLeaf (IsSmallIn s.cached) after (Some whole) → (((i : ℕ) → i < 8 → IsIdle s (child whole i)) → ⊥)
    → IsWalked (Passes s OfSmall) (Some whole)
merge_passed s after whole walked next may_not = passed (IsSmallIn s.cached) (Passes s OfSmall) (small_where s) after whole walked next (λ passes. may_not passes.1.idle)

pub merge_none : (s : Sight) (after : Option Leaf) → IsWalked (Passes s OfSmall) after → IsNextLeaf (IsSmallIn s.cached) after None → WouldNot s OfSmall
merge_none s after walked none = none_left s OfSmall (IsSmallIn s.cached) (small_where s) after walked none
