-- What a flush leaves, in words of the whole history.
use Rattle.admin_cli.proofs.Common.{KeptState, List, Opening, Refusal, Result, StandsBehind, after_from, subst, ◌++◌}
use Rattle.std.specs.Prelude.{OnOk}
use Rattle.std.proofs.lemmas.Result.{on_ok_weaker}
use Rattle.mds_types.specs.Tree.{Tree}
use Rattle.mds_types.specs.declared.entries.Entry.{Entry}
use Rattle.objstore.specs.Objects.{Objects}
use Rattle.cluster_core.specs.Flush.{IsColdTree}
use Rattle.cluster_core.specs.State.{shown}

-- what was shown is the tree after the history, whichever opening tree and past the book goes on from
pub cold_after : (old : KeptState) (objects : Objects) (result : Result (Unit {0}) Refusal) → OnOk result (IsColdTree objects (shown old.core.state))
    → OnOk result ((opening : Opening) (past : List Entry) → StandsBehind opening past old → IsColdTree objects (after_from old.core.state.tree.limit opening (past ++ old.history)))
cold_after old objects result cold = on_ok_weaker result (λ (is : IsColdTree objects (shown old.core.state)). (λ opening past given. subst (λ (t : Tree). IsColdTree objects t) given.behind.sound.replayed is)) cold
