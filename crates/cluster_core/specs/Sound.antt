-- The law of every book.
use Rattle.std.specs.Prelude.{◌≡◌, ℕ, ◌<◌, ◌≤◌, ◌++◌, true, IfSome, List, Some, get_or, length}
use Rattle.std.specs.FinMap as map
use Rattle.mds_types.specs.declared.entries.Entry.{Entry}
use Rattle.mds_types.specs.declared.ids.Rank.{Rank}
use Rattle.cluster_core.specs.Opening.{Opening, after_from, IsUsedFrom, IsLegalFrom}
use Rattle.inode_table.specs.Numbers.{Supply, IsSupply, first_number, end_number}
use Rattle.cached_frag.specs.declared.jobs.Job.{Job}
use Rattle.dentry_cache.specs.Cache.{Leaf}
use Rattle.dentry_cache.specs.CacheCalls.{KeepsNone}
use Rattle.dentry_cache.specs.CacheMap.{AreCaches, CacheMap, unclean}
use Rattle.export_steps.specs.declared.exports.StandingExport.{StandingExport}
use Rattle.export_steps.specs.Standing.{is_freezing}
use Rattle.mdcache.specs.Core.{AllCachedIn as AreCachedIn}
use Rattle.mdcache.specs.Sound.{IsSound as IsSoundTree}
use Rattle.mdcache.specs.State.{State as TreeState}
use Rattle.sessions.specs.Aside.{AreSetAside}
use Rattle.sessions.specs.Table.{IsTableOf}
use Rattle.cluster_core.specs.Master.{IsFrozenAt}
use Rattle.cluster_core.specs.State.{Core, BookState, KeptState, held_roots, no_supply, shown, whole_of}
use Rattle.ranked_tree.specs.Held.{AreHeld}
use Rattle.ranked_tree.specs.Subtrees.{AreRoots}

-- of the numbers in a rank's range, only those below its next are used
abbrev pub IsFresh : Opening → List Entry → Supply → Type 0
IsFresh opening history s =
    (n : ℕ) → first_number s.rank ≤ n → n < end_number s.rank → IsUsedFrom opening history n → n < s.next

-- a rank's supply is of its own range, in which only the numbers below the next are used
pub record IsSupplied (opening : Opening) (history : List Entry) (rank : ℕ) (s : Supply) : Type 0 where
  pub supply : IsSupply s
  pub own : s.rank ≡ rank
  pub fresh : IsFresh opening history s

-- each rank has such a supply
abbrev pub AreSupplied : Opening → List Entry → List Supply → Type 0
AreSupplied opening history numbers =
    (rank : ℕ) → rank < length numbers → IsSupplied opening history rank (get_or numbers rank no_supply)

-- there are as many inboxes and caches as supplies, and at least one
pub record AreRanks (core : Core) : Type 0 where
  pub some : 0 < length core.state.numbers
  pub inboxes : length core.state.inboxes ≡ length core.state.numbers
  pub caches : length core.caches.used ≡ length core.state.numbers

-- the tree is sound; and each cached fragment is a live leaf, is tied to its object, and has a generation that was
-- given out
pub record IsSoundWith (tree : TreeState) (caches : CacheMap) : Type 0 where
  pub sound : IsSoundTree tree
  pub begun : 0 < tree.next_generation
  pub cached : AreCachedIn tree caches

-- the tree's unclean content is what the ranks' fragments have beyond their objects; each place in a cache belongs to a
-- fragment that the rank caches, so no leaf has places at two ranks; a rank caches only what it holds, and has a place
-- of no other live leaf; each fragment that a rank caches is in its order of use, in which no leaf is twice and which
-- has no more leaves than the rank has places
pub record AreCached (core : Core) : Type 0 where
  pub unsaved : core.state.tree.unsaved ≡ unclean core.caches
  pub places : KeepsNone core.caches
  pub held : AreHeld core.state.tree core.caches (held_roots core.state)
  pub orders : AreCaches core.caches

-- of each export: while it is frozen to imported, its root is a subtree root of the exporter; both its ranks exist, as
-- do those of all roots; and no commit of a frozen leaf is under way
pub record AreExported (core : Core) : Type 0 where
  pub placed : (root : Leaf) (export : StandingExport) → map.get core.state.exports root ≡ Some export
      → is_freezing export.state ≡ true → map.get core.state.roots root ≡ Some export.exporter
  pub ranked : (leaf : Leaf) (rank : Rank) → map.get core.state.roots leaf ≡ Some rank
      → rank.0 < length core.caches.used
  pub there : (root : Leaf) (export : StandingExport) → map.get core.state.exports root ≡ Some export
      → (export.exporter.0 < length core.caches.used) × (export.importer.0 < length core.caches.used)
  pub unbegun : (leaf : Leaf) (job : Job) → map.get core.state.tree.jobs leaf ≡ Some job → IsFrozenAt core.state leaf
      → ⊥

-- the history is legal from the opening tree, and the shown tree is the tree after it; the tree is sound, and each
-- cached fragment is a live leaf, tied to its object; each leaf of the root directory is a subtree root, and only
-- leaves are; each rank caches only what it holds; each export has its root and its ranks as its steps need them; no
-- number is given twice; and the sessions are those of the history
pub record IsSound (opening : Opening) (history : List Entry) (core : Core) : Type 0 where
  pub legal : IsLegalFrom core.state.tree.limit opening history
  pub replayed : shown core.state ≡ after_from core.state.tree.limit opening history
  pub tree : IsSoundWith core.state.tree core.caches
  pub subtrees : AreRoots core.state.tree core.state.roots
  pub cached : AreCached core
  pub exported : AreExported core
  pub ranks : AreRanks core
  pub supplied : AreSupplied opening history core.state.numbers
  pub kept : IsTableOf history core.state.sessions

-- a whole book is sound if its parts are
abbrev pub IsSoundBook : BookState → Type 0
IsSoundBook book = IsSound book.opening book.history book.core

-- a cluster with the kept entries goes on from this opening tree and this forgotten past: it is sound with all entries,
-- and what is kept of the past is set aside in the sessions
pub record IsSoundBehind (opening : Opening) (past history : List Entry) (core : Core) : Type 0 where
  pub sound : IsSound opening (past ++ history) core
  pub aside : AreSetAside past history core.state.sessions

-- a book goes on from them; it needn't keep the opening tree
pub record StandsBehind (opening : Opening) (past : List Entry) (book : KeptState) : Type 0 where
  pub opened : IfSome book.opening (λ tree. tree ≡ opening.tree)
  pub behind : IsSoundBehind opening past book.history book.core

-- whatever opening and forgotten past a book went on from, it goes on from them
abbrev pub GoesOnBehind : (old new : KeptState) → Type 0
GoesOnBehind old new = (opening : Opening) (past : List Entry) → StandsBehind opening past old → StandsBehind opening past new

-- whatever opening and forgotten past a book went on from, this holds of the whole book, before and after
abbrev pub OfWhole : (old new : KeptState) → (Holds : (old new : BookState) → Type 0) → Type 0
OfWhole old new Holds =
    (opening : Opening) (past : List Entry) → StandsBehind opening past old
    → Holds (whole_of opening past old) (whole_of opening past new)

-- every book goes on from some opening tree and some past
abbrev pub IsSoundKept : KeptState → Type 0
IsSoundKept book = (opening : Opening) × (past : List Entry) × StandsBehind opening past book
