-- A book that, after a restart, goes on with what an earlier one kept of its sessions.
use Rattle.std.specs.Prelude.{◌≡◌, ℕ, suc, ◌<◌, ◌≤◌, get_or, length, List, [], ◌∷◌}
use Rattle.mds_types.specs.declared.entries.Entry.{Entry}
use Rattle.mds_types.specs.Tree.{Tree}
use Rattle.inode_table.specs.Numbers.{IsSupply, Supply, end_number}
use Rattle.sessions.specs.Aside.{AreSetAside}
use Rattle.sessions.specs.Table.{IsTableOf, Table}
use Rattle.cluster_core.specs.Opening.{Opening}
use Rattle.cluster_core.specs.State.{no_supply}

-- the numbers that ranks would give next, from this rank on
abbrev pub supplies_from : ℕ → List ℕ → List Supply
supplies_from rank [] = []
supplies_from rank (next ∷ nexts) = record { rank = rank; next = next } ∷ supplies_from (suc rank) nexts

-- the opening of a book that goes on with this tree, these stand-ins, and these next numbers of ranks
abbrev pub resumes : Tree → (told : List Entry) → (nexts : List ℕ) → Opening
resumes tree told nexts = record { tree = tree; told = length told; given = supplies_from 0 nexts }

-- the sessions tell what these stand-ins tell: all that is known of each client, and each kept reply
pub record TellsAll (told : List Entry) (sessions : Table) : Type 0 where
  pub table : IsTableOf told sessions
  pub aside : AreSetAside told [] sessions

-- a rank's supply is raised to a next number that was kept, or to the end of the rank's range if that is less
pub record IsRaised (old new : Supply) (next : ℕ) : Type 0 where
  pub same : new.rank ≡ old.rank
  pub valid : IsSupply new
  pub kept : old.next ≤ new.next
  pub raised : (n : ℕ) → n < end_number new.rank → n < next → n < new.next

-- each rank's supply is raised to the number that was kept for it, if one was
pub record AreRaised (nexts : List ℕ) (old new : List Supply) : Type 0 where
  pub as_many : length new ≡ length old
  pub each : (rank : ℕ) → rank < length old
      → IsRaised (get_or old rank no_supply) (get_or new rank no_supply) (get_or nexts rank 0)
