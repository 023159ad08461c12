-- A cluster and a book as contracts see them.
use Rattle.std.specs.Prelude.{ℕ, zero, suc, ◌<◌, ◌+◌, ◌*◌, ◌^◌, ◌++◌, get_or, length, List, [], ◌∷◌, Option, replicate}
use Rattle.std.specs.FinMap as map
use Rattle.mds_types.specs.declared.entries.Entry.{Entry}
use Rattle.mds_types.specs.declared.ids.Rank.{Rank}
use Rattle.mds_types.specs.Tree.{Tree}
use Rattle.dentry_cache.specs.CacheMap.{CacheMap, unclean_of}
use Rattle.export_steps.specs.Holder.{holding}
use Rattle.export_steps.specs.Standing.{Standing}
use Rattle.inboxes.specs.Inboxes.{Inboxes}
use Rattle.inboxes.specs.declared.pins.Pin.{Pin}
use Rattle.inode_table.specs.Numbers.{Supply, first_number}
use Rattle.mdcache.specs.Core.{Core as TreeCore, state_of as tree_state}
pub use Rattle.mdcache.specs.New.{new_caches}
use Rattle.mdcache.specs.New.{new_tree_state as new_tree}
use Rattle.ranked_tree.specs.Ranked.{new_roots}
use Rattle.mdcache.specs.Shown.{shown_tree}
use Rattle.mdcache.specs.State.{State as TreeState}
use Rattle.sessions.specs.Rooms.{table}
use Rattle.sessions.specs.Table.{Table, no_table}
use Rattle.subtree_map.specs.Authority.{Roots}
use Rattle.cluster_core.specs.Opening.{Opening}
use Rattle.cluster_core.specs.declared.parts.Parts.{Parts}

-- all that a refused step leaves the same. The tree: its directories and their leaves, its unclean content, the objects
-- of the store, the commits under way, the purge list and the next numbers. Beside it: the subtree roots with their
-- ranks; the exports; for each rank the inode numbers that it has left and the requests that wait there; the grants;
-- and what is known of each client
pub record State : Type 0 where
  pub tree : TreeState
  pub roots : Roots
  pub exports : Standing
  pub numbers : List Supply
  pub inboxes : Inboxes
  pub pins : List Pin
  pub sessions : Table

-- a cluster: its state; and what a refused step may change, which is the caches of its ranks, with the order in which
-- each used its leaves, and the count of the store's faults
pub record Core : Type 0 where
  pub state : State
  pub caches : CacheMap
  pub faults : ℕ

-- a whole book: a cluster, the history of all that it answered, and its opening
pub record BookState : Type 0 where
  pub opening : Opening
  pub history : List Entry
  pub core : Core

-- the part of a book that is kept: the opening tree, if it is; the entries that aren't forgotten; and the cluster
pub record KeptState : Type 0 where
  pub opening : Option Tree
  pub history : List Entry
  pub core : Core

-- the whole book of a kept part, with this opening and behind this past
abbrev pub whole_of : Opening → List Entry → KeptState → BookState
whole_of opening past book = record { opening = opening; history = past ++ book.history; core = book.core }

-- how many entries a book ever had: the place of the next one
abbrev pub places_of : KeptState → ℕ
places_of book = book.core.state.sessions.forgotten + length book.history

-- a cluster with other sessions
abbrev pub with_sessions : Core → Table → Core
with_sessions core sessions = record core { state = record core.state { sessions = sessions } }

-- the roots, each with the rank that holds its region
abbrev pub held_roots : State → Roots
held_roots state = holding state.exports state.roots

-- the shown tree: the objects of the store, overlaid with what isn't clean
abbrev pub shown : State → Tree
shown state = shown_tree state.tree

-- fewer than so many places of a rank's cache are free or can become free: all others belong to fragments that aren't
-- clean
abbrev pub LacksPlacesAt : ℕ → Core → Rank → Type 0
LacksPlacesAt count core rank = core.caches.cap < map.len (unclean_of core.caches rank.0) + count

-- the supply of a rank that doesn't exist: it has nothing left
abbrev pub no_supply : Supply
no_supply = record { rank = 0; next = 2 * 2 ^ 40 }

-- the inode numbers that a rank has left
abbrev pub supply_of : State → Rank → Supply
supply_of state rank = get_or state.numbers rank.0 no_supply

-- the state of a cluster over this tree, and the cluster
abbrev pub state_of : TreeState → Roots → Standing → List Supply → Inboxes → List Pin → Table → State
state_of tree roots exports numbers inboxes pins sessions =
    record {
      tree = tree;
      roots = roots;
      exports = exports;
      numbers = numbers;
      inboxes = inboxes;
      pins =
          pins;
      sessions = sessions;
    }

abbrev pub core_of : TreeCore → Roots → Standing → List Supply → Inboxes → List Pin → Table → Core
core_of tree roots exports numbers inboxes pins sessions =
    record {
      state = state_of (tree_state tree) roots exports numbers inboxes pins sessions;
      caches =
          tree.caches;
      faults = tree.faults;
    }

-- the cluster that has these parts
abbrev pub cluster_of : {S : Type 0} → Parts S → Core
cluster_of parts =
    core_of parts.tree.tree parts.tree.subtrees.roots parts.tree.exports parts.given.numbers.items parts.waiting.inboxes
    parts.waiting.pins (table parts.given.sessions)

-- the whole range of numbers for each of so many ranks, from this one on
abbrev pub whole_supplies : ℕ → ℕ → List Supply
whole_supplies first zero = []
whole_supplies first (suc more) = record { rank = first; next = first_number first } ∷ whole_supplies (suc first) more

-- the state of a new book of so many ranks, where a directory may have so many entries: the only directory is the root,
-- with one leaf, of rank 0; there is no name, object, export, waiting request, grant or session; and each rank has all
-- its numbers
abbrev pub new_state : ℕ → ℕ → State
new_state ranks limit = record {
  tree = new_tree limit;
  roots = new_roots;
  exports = map.empty;
  numbers = whole_supplies 0 ranks;
  inboxes = replicate ranks [];
  pins = [];
  sessions = no_table;
}
