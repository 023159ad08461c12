-- For each rank a list of what it knows of leaves: what it claims, what it last heard of other ranks, and what is
-- promised to it (CephFS's subtree map of each metadata server). Only this crate's own contracts use these words.
use Rattle.std.specs.Prelude.{◌≡◌, ◌≢◌, ℕ, ◌+◌, ◌-◌, ◌<◌, ◌≤◌, ◌==◌, nat_lt, Bool, true, false, cond, List, [], ◌∷◌, ◌++◌, Option, Some, None, length, get_or}
use Rattle.std.specs.Option.{option_or}
use Rattle.std.specs.Ordering.{is_lt}
use Rattle.std.specs.FinMap as map
use Rattle.sorted_map.specs.SortedMap.{Shown, contents}
use Rattle.mds_types.specs.declared.ids.Rank.{Rank}
use Rattle.mds_types.specs.Leaf.{Leaf, leaf_cmp}
use Rattle.subtree_map.specs.declared.entries.Known.{Known}
use Rattle.subtree_map.specs.declared.entries.Known.TheVariants.{Nothing, Claim, Hint}
use Rattle.subtree_map.specs.declared.entries.Entry.{Entry}
use Rattle.subtree_map.specs.declared.entries.News.{News}
use Rattle.subtree_map.specs.declared.entries.News.TheVariants.{Claimed, Ended, Handed, Promised, Withdrawn}
use Rattle.subtree_map.specs.Authority.{Roots}

-- ---- one row

-- the rank that a row claims a leaf for, and the rank that it holds a promise for
abbrev pub claim_of : Known → Option Rank
claim_of (Claim rank) = Some rank
claim_of Nothing = None
claim_of (Hint rank) = None

abbrev pub claimed : Entry → Option Rank
claimed e = claim_of e.known

abbrev pub promised : Entry → Option Rank
promised e = e.promised

-- what a list says of a leaf that may have no row
abbrev pub said : (Entry → Option Rank) → Option Entry → Option Rank
said says None = None
said says (Some e) = says e

-- ---- news of a leaf

-- another rank's claim is a hint from then on
abbrev pub demoted : Known → Rank → Known
demoted (Claim was) rank = Hint rank
demoted Nothing rank = Nothing
demoted (Hint was) rank = Hint was

-- what a list knows after the news, where it is that of the rank named, and where it is another's
abbrev pub known_after : Known → Bool → News → Known
known_after known own (Claimed rank) = cond own (Claim rank) (demoted known rank)
known_after known own (Handed rank) = cond own (Claim rank) (demoted known rank)
known_after known own Ended = Nothing
known_after known own (Promised rank) = known
known_after known own Withdrawn = known

abbrev pub promised_after : Option Rank → Bool → News → Option Rank
promised_after was own (Claimed rank) = was
promised_after was own (Handed rank) = None
promised_after was own Ended = was
promised_after was own (Promised rank) = cond own (Some rank) None
promised_after was own Withdrawn = None

-- a row that says nothing isn't kept
abbrev pub row_by : Entry → Known → Option Rank → Option Entry
row_by e Nothing None = None
row_by e Nothing (Some rank) = Some e
row_by e (Claim rank) was = Some e
row_by e (Hint rank) was = Some e

abbrev pub row_if_told : Entry → Option Entry
row_if_told e = row_by e e.known e.promised

abbrev pub entry_or_nothing : Option Entry → Entry
entry_or_nothing (Some e) = e
entry_or_nothing None = record { known = Nothing; promised = None }

abbrev pub heard : Option Entry → Bool → News → Option Entry
heard was own news = row_if_told (record {
  known = known_after (entry_or_nothing was).known own news;
  promised =
      promised_after (entry_or_nothing was).promised own news;
})

-- ---- one list

abbrev pub ListRows : Type 0
ListRows = Shown Leaf Entry

abbrev pub no_rows : ListRows
no_rows = record { entries = []; room = 0 }

abbrev pub entry_at : ListRows → Leaf → Option Entry
entry_at rows leaf = map.get (contents leaf_cmp rows) leaf

-- whether a row comes in that wasn't there
abbrev pub adds_row : Option Entry → Option Entry → Bool
adds_row None (Some e) = true
adds_row None None = false
adds_row (Some was) now = false

-- a leaf's row is this one, each other leaf has the row that it had; a row that comes in takes one place at most
pub record IsPut (leaf : Leaf) (row : Option Entry) (old new : ListRows) : Type 0 where
  pub here : entry_at new leaf ≡ row
  pub others : (other : Leaf) → other ≢ leaf → entry_at new other ≡ entry_at old other
  pub room : old.room ≤ new.room + 1
  pub kept : adds_row (entry_at old leaf) row ≡ false → old.room ≤ new.room

-- ---- the lists of all ranks, rank 0 first. Ranks that have no list of their own share the last one

abbrev pub home_of : ℕ → ℕ → ℕ
home_of lists rank = cond (nat_lt rank lists) rank (lists - 1)

abbrev pub rows_at : List ListRows → ℕ → ListRows
rows_at lists i = get_or lists i no_rows

-- what the list of a place says of a leaf
abbrev pub says_at : (Entry → Option Rank) → List ListRows → ℕ → Leaf → Option Rank
says_at says lists i leaf = said says (entry_at (rows_at lists i) leaf)

-- what the first list says that says anything
abbrev pub first_told : (Entry → Option Rank) → List ListRows → Leaf → Option Rank
first_told says [] leaf = None
first_told says (rows ∷ more) leaf = option_or (said says (entry_at rows leaf)) (first_told says more leaf)

abbrev pub leaves_of_lists : List ListRows → List Leaf
leaves_of_lists [] = []
leaves_of_lists (rows ∷ more) = map.keys (contents leaf_cmp rows) ++ leaves_of_lists more

abbrev pub with_rank_of : Roots → Leaf → Option Rank → Roots
with_rank_of m leaf (Some rank) = map.insert m leaf rank
with_rank_of m leaf None = m

-- the map of a function on these leaves
abbrev pub ranks_of_leaves : (Leaf → Option Rank) → List Leaf → Roots
ranks_of_leaves f [] = map.empty
ranks_of_leaves f (leaf ∷ leaves) = with_rank_of (ranks_of_leaves f leaves) leaf (f leaf)

-- what the lists say, as one map
unfoldable pub told : (Entry → Option Rank) → List ListRows → Roots
told says lists = ranks_of_leaves (first_told says lists) (leaves_of_lists lists)

-- a rank's word on a leaf stands in its own list, and no two lists say different ones
pub record AreOnce (says : Entry → Option Rank) (lists : List ListRows) : Type 0 where
  pub home : (i : ℕ) (leaf : Leaf) (rank : Rank) → says_at says lists i leaf ≡ Some rank
      → i ≡ home_of (length lists) rank.0
  pub one : (i j : ℕ) (leaf : Leaf) (a b : Rank) → says_at says lists i leaf ≡ Some a
      → says_at says lists j leaf ≡ Some b → a ≡ b

-- each root is claimed in one list, that of its rank, and so is each promise; each list has room for so many more rows
pub record AreLists (room : ℕ) (lists : List ListRows) : Type 0 where
  pub some : 0 < length lists
  pub claims : AreOnce claimed lists
  pub promises : AreOnce promised lists
  pub roomy : (i : ℕ) → i < length lists → room ≤ (rows_at lists i).room

-- there are as many lists as before, and each became what it may
pub record AreEach (Becomes : ℕ → ListRows → ListRows → Type 0) (old new : List ListRows) : Type 0 where
  pub many : length new ≡ length old
  pub each : (i : ℕ) → i < length old → Becomes i (rows_at old i) (rows_at new i)

-- so many lists, none of which has a row
pub record HaveNone (count : ℕ) (lists : List ListRows) : Type 0 where
  pub many : length lists ≡ count
  pub each : (i : ℕ) (leaf : Leaf) → entry_at (rows_at lists i) leaf ≡ None

-- one of the lists claims a leaf for this rank
pub record IsClaimed (lists : List ListRows) (leaf : Leaf) (rank : Rank) : Type 0 where
  pub at : ℕ
  pub claims : says_at claimed lists at leaf ≡ Some rank

-- each list has heard the news of a leaf; it names the rank whose list has this place
abbrev pub Hears : Leaf → ℕ → News → ℕ → ListRows → ListRows → Type 0
Hears leaf home news i was now = IsPut leaf (heard (entry_at was leaf) (i == home) news) was now

-- where the news makes a row there is a place for it
abbrev pub HaveRoom : Leaf → ℕ → News → List ListRows → Type 0
HaveRoom leaf home news lists =
    (i : ℕ) → i < length lists
    → adds_row (entry_at (rows_at lists i) leaf) (heard (entry_at (rows_at lists i) leaf) (i == home) news) ≡ true
    → 0 < (rows_at lists i).room

-- a list has the rows that it had, and no less room
pub record HasSame (was now : ListRows) : Type 0 where
  pub same : contents leaf_cmp now ≡ contents leaf_cmp was
  pub more : was.room ≤ now.room

-- and room for so many
pub record HasGrown (additional : ℕ) (was now : ListRows) : Type 0 where
  pub same : contents leaf_cmp now ≡ contents leaf_cmp was
  pub more : was.room ≤ now.room
  pub enough : additional ≤ now.room

-- a list has no row of a directory, and each other one as it was
pub record HasDropped (d : ℕ) (was now : ListRows) : Type 0 where
  pub gone : (leaf : Leaf) → leaf.0.0 ≡ d → entry_at now leaf ≡ None
  pub others : (leaf : Leaf) → leaf.0.0 ≢ d → entry_at now leaf ≡ entry_at was leaf
  pub more : was.room ≤ now.room

-- a list claims what it claimed, and has the promises that it had, whatever its hints are
pub record HasHints (was now : ListRows) : Type 0 where
  pub claims : (leaf : Leaf) → said claimed (entry_at now leaf) ≡ said claimed (entry_at was leaf)
  pub promises : (leaf : Leaf) → said promised (entry_at now leaf) ≡ said promised (entry_at was leaf)
  pub more : was.room ≤ now.room

-- a hint names this rank, and what else a row says stays
abbrev pub hinted : Known → Rank → Known
hinted Nothing rank = Nothing
hinted (Claim was) rank = Claim was
hinted (Hint was) rank = Hint rank

abbrev pub corrected : Option Entry → Rank → Option Entry
corrected None rank = None
corrected (Some e) rank = Some (record { known = hinted e.known rank; promised = e.promised })

-- where a list has a hint on a leaf, it names this rank; each other row is as it was
pub record IsCorrected (leaf : Leaf) (rank : Rank) (was now : ListRows) : Type 0 where
  pub here : entry_at now leaf ≡ corrected (entry_at was leaf) rank
  pub others : (other : Leaf) → other ≢ leaf → entry_at now other ≡ entry_at was other
  pub more : was.room ≤ now.room

-- one list is corrected, and each other one is as it was
abbrev pub Corrects : Leaf → Rank → ℕ → ℕ → ListRows → ListRows → Type 0
Corrects leaf rank home i was now = (i ≡ home → IsCorrected leaf rank was now) × (i ≢ home → now ≡ was)

-- a rank hears whose a leaf is: where it doesn't claim it, it has a hint on it
abbrev pub knows : Known → Rank → Known
knows Nothing rank = Hint rank
knows (Claim was) rank = Claim was
knows (Hint was) rank = Hint rank

abbrev pub learnt : Option Entry → Rank → Entry
learnt was rank = record { known = knows (entry_or_nothing was).known rank; promised = (entry_or_nothing was).promised }

-- a list claims what it claimed, and has the promises that it had, and so many places less at most
pub record HasLearnt (count : ℕ) (was now : ListRows) : Type 0 where
  pub claims : (leaf : Leaf) → said claimed (entry_at now leaf) ≡ said claimed (entry_at was leaf)
  pub promises : (leaf : Leaf) → said promised (entry_at now leaf) ≡ said promised (entry_at was leaf)
  pub less : was.room ≤ now.room + count

-- a leaf behind another, or any where there is no other
abbrev pub is_leaf_after : Option Leaf → Leaf → Bool
is_leaf_after None leaf = true
is_leaf_after (Some other) leaf = is_lt (leaf_cmp other leaf)
