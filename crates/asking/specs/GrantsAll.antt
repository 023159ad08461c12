-- The grants of all ranks for one request.
use Rattle.std.specs.Prelude.{◌≡◌, ◌⊎◌, ◌<◌, ℕ, true, Result, Ok, Err}
use Rattle.std.specs.List.{Contains, list_any}
use Rattle.mds_types.specs.declared.ids.Rank.{Rank}
use Rattle.mds_types.specs.declared.operations.Op.{Op}
use Rattle.mds_types.specs.declared.refusals.Refusal.{Refusal}
use Rattle.mds_types.specs.declared.refusals.Refusal.TheVariants.{Frozen, NoMemory, NothingToEvict, StoreFault}
use Rattle.inboxes.specs.Pins.{is_for, is_same_grant, left_without}
use Rattle.subtree_map.specs.Authority.{Leaf}
use Rattle.cluster_core.specs.Master.{IsAuthority, IsFrozenAt, grant_of, would_change}
use Rattle.cluster_core.specs.State.{Core, State}
use Rattle.cluster_core.specs.Steps.{LacksPlaces}
use Rattle.asking.specs.Serves.{KeepsUnclean}

-- only grants changed, and only those for this request
pub record KeepsButGrants (old new : State) (client tid : ℕ) : Type 0 where
  pub left : new ≡ record old { pins = new.pins }
  pub others : left_without (is_for client tid) new.pins ≡ left_without (is_for client tid) old.pins

-- a leaf isn't frozen, and is granted to a request
pub record IsGrantedFor (old new : State) (client tid : ℕ) (leaf : Leaf) : Type 0 where
  pub thawed : IsFrozenAt old leaf → ⊥
  pub granted : list_any (is_same_grant (grant_of leaf client tid)) new.pins ≡ true

-- each leaf that an operation would change, and whose authority is one of these ranks, is granted
pub record GrantsSo (old new : Core) (client tid : ℕ) (op : Op) (Ranks : Rank → Type 0) : Type 0 where
  pub kept : KeepsButGrants old.state new.state client tid
  pub granted : (leaf : Leaf) (rank : Rank) → Ranks rank → Contains (would_change old.state op) leaf
      → IsAuthority old.state leaf rank → IsGrantedFor old.state new.state client tid leaf
  pub unclean : KeepsUnclean old new

-- each leaf that an operation would change is granted
pub record GrantsThem (old new : Core) (client tid : ℕ) (op : Op) : Type 0 where
  pub kept : KeepsButGrants old.state new.state client tid
  pub granted : (leaf : Leaf) → Contains (would_change old.state op) leaf
      → IsGrantedFor old.state new.state client tid leaf
  pub unclean : KeepsUnclean old new

-- a leaf that an operation would change is frozen
abbrev pub ChangesFrozen : State → Op → Type 0
ChangesFrozen state op = (leaf : Leaf) × Contains (would_change state op) leaf × IsFrozenAt state leaf

-- why grants fail: memory was refused, the store's count of faults rose, a rank lacks places, or such a leaf is frozen
abbrev pub WhyNotGranted : (old new : Core) → Op → Refusal → Type 0
WhyNotGranted old new op reason =
    (reason ≡ NoMemory) ⊎ ((reason ≡ StoreFault) × (old.faults < new.faults))
    ⊎ ((reason ≡ NothingToEvict) × LacksPlaces old op) ⊎ ((reason ≡ Frozen) × ChangesFrozen old.state op)

abbrev pub GrantsEach : (old new : Core) → (client tid : ℕ) → Op → Result (Unit {0}) Refusal → Type 0
GrantsEach old new client tid op (Ok done) = GrantsThem old new client tid op
GrantsEach old new client tid op (Err reason) =
    KeepsButGrants old.state new.state client tid × WhyNotGranted old new op reason

-- ---- words of this crate's own contracts

-- the grants of one rank
abbrev pub GrantsOf : (old new : Core) → Rank → (client tid : ℕ) → Op → Result (Unit {0}) Refusal → Type 0
GrantsOf old new rank client tid op (Ok done) =
    GrantsSo old new client tid op (λ other. other ≡ rank)
    × ((leaf : Leaf) → list_any (is_same_grant (grant_of leaf client tid)) old.state.pins ≡ true
    → list_any (is_same_grant (grant_of leaf client tid)) new.state.pins ≡ true)
GrantsOf old new rank client tid op (Err reason) =
    KeepsButGrants old.state new.state client tid × WhyNotGranted old new op reason
