use Rattle.cluster_core.proofs.Common.{NamesOnce, None, Some, changed_fragments, cluster_of, first_waiting, held_roots, shown, subst}
use Rattle.std.specs.Result.{result_err}
use Rattle.cluster_core.specs.Steps.{TreeMayRefuse}
use Rattle.cluster_core.specs.Uses.{UsesWaiting}
use Rattle.cluster_core.proofs.HeldLaws.{all_granted, none_found}
use Rattle.cluster_core.proofs.MadeReady.{only_read}
use Rattle.cluster_core.proofs.UsesLaws.{waits_told}
use Rattle.cluster_core.proofs.parts.Parts.grant_first.Goals as goal

pub returns-in-Err-clause-granted : goal.returns-in-Err-clause-granted
returns-in-Err-clause-granted g c past =
    let parts = c.args.self.now in
    let old = cluster_of parts in
    let mid = cluster_of (record parts { tree = c.changes.new.frags }) in
    let found = c.in_ok-changed.ensures in
    let request = c.in-Some.request.now in
    none_found old.state mid.state (only_read parts c.changes.new.frags request.op None found.kept.follows) past (TreeMayRefuse old mid) c.args.rank c.args.client c.args.tid request c.in-Some.ensures c.in_ok-changed.changed.items
    (subst (λ l. NamesOnce (changed_fragments l old.state.tree.covers (shown old.state) request.op) c.in_ok-changed.changed.items) c.limit-limit.ensures found.changed) c.in-Err.refusal c.in-Err.ensures.refused

pub returns-clause-granted : goal.returns-clause-granted
returns-clause-granted g c past =
    let parts = c.args.self.now in
    let old = cluster_of parts in
    let mid = cluster_of (record parts { tree = c.changes.new.frags }) in
    let found = c.in_ok-changed.ensures in
    let request = c.in-Some.request.now in
    all_granted old.state mid.state (only_read parts c.changes.new.frags request.op None found.kept.follows) past (TreeMayRefuse old mid) c.args.rank c.args.client c.args.tid request c.in-Some.ensures c.in_ok-changed.changed.items
    (subst (λ l. NamesOnce (changed_fragments l old.state.tree.covers (shown old.state) request.op) c.in_ok-changed.changed.items) c.limit-limit.ensures found.changed)
    c.in-Ok.mine.items c.in-Ok.ensures.held c.pin_all.new.pins c.in-Ok.ensures.some c.in-Ok.ensures.thawed c.in_ok-pin_all.ensures.ok

-- ---- what it makes of the caches

pub returns-in-Err-clause-uses : goal.returns-in-Err-clause-uses
returns-in-Err-clause-uses g c =
    let t = c.args.self.now.tree in
    let old = (cluster_of c.args.self.now).state in
    waits_told old.tree (held_roots t) t.tree.caches c.changes.new.frags.tree.caches (Some c.in-Err.refusal) (first_waiting c.args.client c.args.tid old.inboxes)
    (subst (UsesWaiting old.tree (held_roots t) t.tree.caches c.changes.new.frags.tree.caches None) c.in-Some.ensures c.in_ok-changed.ensures.kept.follows.reads)

pub returns-in_err-pin_all-clause-uses : goal.returns-in_err-pin_all-clause-uses
returns-in_err-pin_all-clause-uses g c =
    let t = c.args.self.now.tree in
    let old = (cluster_of c.args.self.now).state in
    waits_told old.tree (held_roots t) t.tree.caches c.changes.new.frags.tree.caches (result_err c.from_residual-in_err-pin_all.result) (first_waiting c.args.client c.args.tid old.inboxes)
    (subst (UsesWaiting old.tree (held_roots t) t.tree.caches c.changes.new.frags.tree.caches None) c.in-Some.ensures c.in_ok-changed.ensures.kept.follows.reads)
