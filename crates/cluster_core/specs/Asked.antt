-- What is known of a new request at its master. Only this crate's own contracts use these words.
use Rattle.std.specs.Prelude.{◌≡◌, ℕ, List}
use Rattle.mds_types.specs.declared.entries.Entry.{Entry}
use Rattle.mds_types.specs.declared.operations.Op.{Op}
use Rattle.mds_types.specs.declared.requests.Request.{Request}
use Rattle.mds_types.specs.History.{IsNew}
use Rattle.mds_types.specs.Step.{number_or, step}
use Rattle.inode_table.specs.Numbers.{offer}
use Rattle.namespace_ops.specs.Checked.{IsChecked}
use Rattle.namespace_ops.specs.Places.{AreLocated}
use Rattle.namespace_ops.specs.declared.locating.Places.{Places}
use Rattle.namespace_ops.specs.declared.plans.Change.{Change}
use Rattle.sessions.specs.Rooms.{HeldSessions, IsSessionAt}
use Rattle.sessions.specs.declared.found.SessionAt.{SessionAt}
use Rattle.cluster_core.specs.Master.{IsAtHolder, IsMaster, MayTouchAll}
use Rattle.cluster_core.specs.State.{State, shown, supply_of}
use Rattle.cluster_core.specs.declared.parts.Asked.{Asked}

-- this is where a client's session is
pub record IsSessionOf (sessions : HeldSessions) (client : ℕ) (at : SessionAt) : Type 0 where
  pub named : at.client ≡ client
  pub found : IsSessionAt sessions at

-- the rank is the request's master, a directory may have so many entries, the rank has these numbers left, and this is
-- where the client's session is
pub record IsAsked (state : State) (sessions : HeldSessions) (asked : Asked) (request : Request) : Type 0 where
  pub master : IsMaster state asked.rank request.op asked.rank
  pub limit : asked.limit ≡ state.tree.limit
  pub left : asked.supply ≡ supply_of state asked.rank
  pub session : IsSessionOf sessions request.client asked.session

-- a request is new behind these entries
abbrev pub IsNewTo : List Entry → Request → Type 0
IsNewTo history request = IsNew history request.client request.tid request.oldest

-- the names of an operation lie there, each leaf at its holder
abbrev pub AreLocatedIn : State → Op → Places → Type 0
AreLocatedIn state op places = AreLocated (shown state) state.tree.covers (IsAtHolder state) op places

-- the request may be applied with this change, which the checks found: the rank may change all leaves that it would
-- change
pub record MayApply (state : State) (sessions : HeldSessions) (asked : Asked) (change : Change) (request : Request) : Type 0 where
  pub is_asked : IsAsked state sessions asked request
  pub checked : IsChecked (shown state) state.tree.covers (IsAtHolder state) request.op (number_or (offer asked.supply))
      (step asked.limit (shown state) request.op (number_or (offer asked.supply))) change
  pub may : MayTouchAll state asked.rank request
