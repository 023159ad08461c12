-- What applying made of the parts, said of the cluster's state.
use Rattle.cluster_core.proofs.Common.{AppliesRequest, AtFront, ChangesOp, Contains, Entry, Err, Ino, IsAtHolder, IsNewTo, IsNoted, IsRankNumber, IsSessionOf, Leaf, LeavesRefused, List, MayApply, Ok, Option, Request, Some, Supply, Table, TreeMayRefuse, UsesApplied, ap, changed_fragments, cluster_of, fragments_are, held_roots, length, may_change, number_or, numbered_so, offer, shown, step, subst, sym, table, waiting_at, ℕ, ◌++◌, ◌+◌, ◌∙◌}
use Rattle.mdcache.specs.Core.{state_of as tree_state}
use Rattle.cluster_core.specs.Uses.{number_answered, number_told}
use Rattle.cluster_core.proofs.Carried.{carried}
use Rattle.cluster_core.proofs.FrontLaws.{both_front, by_front, in_front}
use Rattle.cluster_core.proofs.MadeReady.{WhyUnmade, kept_state, unmade, unprepared}
use Rattle.cluster_core.proofs.Served.{IsOutcome, applied_new, noted_behind, outcome_of_change, outcome_with, refused_there}
use Rattle.cluster_core.proofs.UsesLaws.{changed_uses, refused_uses}
use Rattle.cluster_core.proofs.parts.Parts.apply.Goals as goal

pub prepare-requires : goal.prepare-requires
prepare-requires g c =
    let parts = c.args.self.now in
    let old = (cluster_of parts).state in
    let asked = c.args.asked.now in
    by_front _ (λ (q : Request) (rest : List Request). MayApply old parts.given.sessions asked c.args.change q) (waiting_at old.inboxes asked.rank) (λ q rest h. h.is_asked.session.found) c.requires.may

pub commit-requires-clause-session : goal.commit-requires-clause-session
commit-requires-clause-session g c =
    let parts = c.args.self.now in
    let old = (cluster_of parts).state in
    let asked = c.args.asked.now in
    in_front (λ (q : Request) (rest : List Request). MayApply old parts.given.sessions asked c.args.change q) (λ (q : Request) (rest : List Request). IsSessionOf c.prepare.new.given.sessions q.client asked.session) (waiting_at old.inboxes asked.rank) (λ q rest h. record { named = h.is_asked.session.named; found = c.prepare.ensures.session }) c.requires.may

pub make_change-requires-clause-may : goal.make_change-requires-clause-may
make_change-requires-clause-may g c =
    let parts = c.args.self.now in
    let old = (cluster_of parts).state in
    let asked = c.args.asked.now in
    by_front _ (λ (q : Request) (rest : List Request). MayApply old parts.given.sessions asked c.args.change q) (waiting_at old.inboxes asked.rank) (λ q rest h. may_change asked.limit _ _ _ _ (offer asked.supply) c.args.change h.checked (λ n. IsRankNumber n) c.requires.offered c.in-Ok.ensures.prepared.given) c.requires.may

pub make_change-requires-clause-held : goal.make_change-requires-clause-held
make_change-requires-clause-held g c =
    let parts = c.args.self.now in
    let old = (cluster_of parts).state in
    let asked = c.args.asked.now in
    by_front _ (λ (q : Request) (rest : List Request). MayApply old parts.given.sessions asked c.args.change q) (waiting_at old.inboxes asked.rank) (λ q rest h. h.checked.held) c.requires.may

pub make_change-requires-clause-numbered : goal.make_change-requires-clause-numbered
make_change-requires-clause-numbered g c =
    let parts = c.args.self.now in
    let old = (cluster_of parts).state in
    let asked = c.args.asked.now in
    by_front _ (λ (q : Request) (rest : List Request). MayApply old parts.given.sessions asked c.args.change q) (waiting_at old.inboxes asked.rank) (λ q rest h. numbered_so asked.limit _ _ _ _ (offer asked.supply) c.args.change h.checked (λ n. IsRankNumber n) c.requires.offered c.in-Ok.ensures.prepared.given) c.requires.may

pub make_change-requires-clause-thawed : goal.make_change-requires-clause-thawed
make_change-requires-clause-thawed g c leaf has =
    let parts = c.args.self.now in
    let old = (cluster_of parts).state in
    let asked = c.args.asked.now in
    by_front _ (λ (q : Request) (rest : List Request). MayApply old parts.given.sessions asked c.args.change q) (waiting_at old.inboxes asked.rank) (λ q rest h. (h.may leaf (subst (λ (l : ℕ). Contains (changed_fragments l old.tree.covers (shown old) q.op) leaf) h.is_asked.limit
    (subst (λ (k : List Leaf). Contains k leaf) (fragments_are asked.limit _ _ _ _ _ c.args.change h.checked) has))).0) c.requires.may

pub returns-in-Err-clause-applied : goal.returns-in-Err-clause-applied
returns-in-Err-clause-applied g c = λ before long.
    let parts = c.args.self.now in
    let old = (cluster_of parts).state in
    let asked = c.args.asked.now in
    let t = parts.tree in
    let given = c.prepare.new.given in
    let w = c.refuse.new.waiting in
    let may = TreeMayRefuse (cluster_of parts) (cluster_of (record parts { tree = t })) in
    let mid = (cluster_of (record parts { tree = t; given = given })).state in
    let after = record mid { inboxes = w.inboxes; pins = w.pins } in
    let past = before ++ c.args.history.now.items in
    let middle = before ++ c.prepare.new.history.items in
    subst (λ x. AtFront (λ (q : Request) (rest : List Request). IsNewTo past q → AppliesRequest old after past middle may asked.rank x q rest) (waiting_at old.inboxes asked.rank)) (sym c.refuse.ensures.refused)
    (both_front (λ (q : Request) (rest : List Request). MayApply old parts.given.sessions asked c.args.change q) (LeavesRefused old.inboxes w.inboxes old.pins w.pins asked.rank c.in-Err.refusal) (λ (q : Request) (rest : List Request). IsNewTo past q → AppliesRequest old after past middle may asked.rank (Err c.in-Err.refusal) q rest) (waiting_at old.inboxes asked.rank)
    (λ q rest h out new.
    let refused = unprepared parts.tree q.op c.args.change _ _ (offer asked.supply) _ c.in-Err.refusal h.checked c.in-Err.ensures.refused in
    refused_there old past asked.rank may q rest new h.is_asked.master mid (kept_state parts t given q.op (Some c.in-Err.refusal) refused.kept c.prepare.ensures.numbers c.prepare.ensures.known)
    middle w.inboxes w.pins c.in-Err.refusal (ap (λ (h : List Entry). before ++ h) c.prepare.ensures.past) h.may
    (subst (λ (s : Supply). WhyUnmade (may q.op) (outcome_with old.tree s q.op) (offer s) c.in-Err.refusal) h.is_asked.left
    (subst (λ (l : ℕ). WhyUnmade (may q.op) (step l (shown old) q.op (number_or (offer asked.supply))) (offer asked.supply) c.in-Err.refusal) h.is_asked.limit refused.because)) out) c.requires.may c.refuse.ensures.leaves)

pub returns-in-Err-make_change-clause-applied : goal.returns-in-Err-make_change-clause-applied
returns-in-Err-make_change-clause-applied g c = λ before long.
    let parts = c.args.self.now in
    let old = (cluster_of parts).state in
    let asked = c.args.asked.now in
    let t = c.make_change.new.self in
    let given = c.prepare.new.given in
    let w = c.refuse-in-Err-make_change.new.waiting in
    let may = TreeMayRefuse (cluster_of parts) (cluster_of (record parts { tree = t })) in
    let mid = (cluster_of (record parts { tree = t; given = given })).state in
    let after = record mid { inboxes = w.inboxes; pins = w.pins } in
    let past = before ++ c.args.history.now.items in
    let middle = before ++ c.prepare.new.history.items in
    subst (λ x. AtFront (λ (q : Request) (rest : List Request). IsNewTo past q → AppliesRequest old after past middle may asked.rank x q rest) (waiting_at old.inboxes asked.rank)) (sym c.refuse-in-Err-make_change.ensures.refused)
    (both_front (λ (q : Request) (rest : List Request). MayApply old parts.given.sessions asked c.args.change q) (LeavesRefused old.inboxes w.inboxes old.pins w.pins asked.rank c.in-Err-make_change.refusal) (λ (q : Request) (rest : List Request). IsNewTo past q → AppliesRequest old after past middle may asked.rank (Err c.in-Err-make_change.refusal) q rest) (waiting_at old.inboxes asked.rank)
    (λ q rest h out new.
    let refused = unmade parts.tree c.make_change.new.self q.op c.args.change h.checked.one_of c.in-Err-make_change.refusal (step asked.limit (shown old) q.op (number_or (offer asked.supply))) (offer asked.supply) c.in-Err-make_change.ensures.changed c.in-Err-make_change.ensures.followed c.in-Err-make_change.ensures.kept.stand in
    refused_there old past asked.rank may q rest new h.is_asked.master mid (kept_state parts t given q.op (Some c.in-Err-make_change.refusal) refused.kept c.prepare.ensures.numbers c.prepare.ensures.known)
    middle w.inboxes w.pins c.in-Err-make_change.refusal (ap (λ (h : List Entry). before ++ h) c.prepare.ensures.past) h.may
    (subst (λ (s : Supply). WhyUnmade (may q.op) (outcome_with old.tree s q.op) (offer s) c.in-Err-make_change.refusal) h.is_asked.left
    (subst (λ (l : ℕ). WhyUnmade (may q.op) (step l (shown old) q.op (number_or (offer asked.supply))) (offer asked.supply) c.in-Err-make_change.refusal) h.is_asked.limit refused.because)) out) c.requires.may c.refuse-in-Err-make_change.ensures.leaves)

pub returns-in-Ok-make_change-clause-applied : goal.returns-in-Ok-make_change-clause-applied
returns-in-Ok-make_change-clause-applied g c = λ before long.
    let parts = c.args.self.now in
    let old = (cluster_of parts).state in
    let asked = c.args.asked.now in
    let t = c.make_change.new.self in
    let between = table c.prepare.new.given.sessions in
    let after = cluster_of (record parts { tree = t; waiting = c.commit.new.waiting; given = c.commit.new.given }) in
    let may = TreeMayRefuse (cluster_of parts) after in
    let past = before ++ c.args.history.now.items in
    let middle = before ++ c.prepare.new.history.items in
    let now = before ++ c.commit.new.history.items in
    let prepared = c.in-Ok.prepared in
    let changed = c.in-Ok-make_change.ensures.changed in
    both_front (λ (q : Request) (rest : List Request). MayApply old parts.given.sessions asked c.args.change q)
    (λ (q : Request) (rest : List Request). IsNoted old.inboxes after.state.inboxes old.pins after.state.pins between after.state.sessions (between.forgotten + length c.prepare.new.history.items) c.prepare.new.history.items c.commit.new.history.items asked.rank prepared.number prepared.went prepared.reply prepared.answer q rest c.commit.result)
    (λ (q : Request) (rest : List Request). IsNewTo past q → AppliesRequest old after.state past now may asked.rank (Ok c.commit.result) q rest) (waiting_at old.inboxes asked.rank)
    (λ q rest h noted new. applied_new old past asked.rank may q rest new h.is_asked.master
    after.state between middle c.prepare.new.given.numbers.items c.prepare.ensures.known (ap (λ (h : List Entry). before ++ h) c.prepare.ensures.past) c.prepare.ensures.numbers c.in-Ok-make_change.ensures.kept.stand
    now (Some c.args.change) prepared c.commit.result h.may
    (subst (λ (s : Supply). IsOutcome old.tree.limit (shown old) old.tree.covers q.op (outcome_with old.tree s q.op) s (Some c.args.change) prepared) h.is_asked.left
    (subst (λ (l : ℕ). IsOutcome l (shown old) old.tree.covers q.op (step l (shown old) q.op (number_or (offer asked.supply))) asked.supply (Some c.args.change) prepared) h.is_asked.limit
    (outcome_of_change asked.limit (shown old) old.tree.covers (IsAtHolder old) q.op asked.supply c.args.change prepared h.checked c.in-Ok.ensures.prepared)))
    changed.right.tree changed.made (carried old.tree c.is_sound.ensures.owned.sound.sound _ _ changed.right.leaves) changed.right.frame c.in-Ok-make_change.ensures.followed.0
    (noted_behind old.inboxes after.state.inboxes old.pins after.state.pins between after.state.sessions before c.prepare.new.history.items c.commit.new.history.items asked.rank prepared.number prepared.went prepared.reply prepared.answer q rest c.commit.result
    (long ∙ ap (λ (t : Table). t.forgotten) (sym c.prepare.ensures.known)) noted) c.commit.ensures.drawn)
    c.requires.may c.commit.ensures.noted

-- ---- what it makes of the caches

pub returns-in-Ok-make_change-clause-uses : goal.returns-in-Ok-make_change-clause-uses
returns-in-Ok-make_change-clause-uses g c =
    let parts = c.args.self.now in
    let old = (cluster_of parts).state in
    let asked = c.args.asked.now in
    let t = c.make_change.new.self in
    let between = table c.prepare.new.given.sessions in
    let after = cluster_of (record parts { tree = t; waiting = c.commit.new.waiting; given = c.commit.new.given }) in
    let prepared = c.in-Ok.prepared in
    both_front (λ (q : Request) (rest : List Request). MayApply old parts.given.sessions asked c.args.change q)
    (λ (q : Request) (rest : List Request). IsNoted old.inboxes after.state.inboxes old.pins after.state.pins between after.state.sessions (between.forgotten + length c.prepare.new.history.items) c.prepare.new.history.items c.commit.new.history.items asked.rank prepared.number prepared.went prepared.reply prepared.answer q rest c.commit.result)
    (λ (q : Request) (rest : List Request). UsesApplied old.tree (tree_state t.tree) (held_roots parts.tree) q.op parts.tree.tree.caches t.tree.caches (Ok c.commit.result)) (waiting_at old.inboxes asked.rank)
    (λ q rest h noted.
    subst (λ (n : Option Ino). ChangesOp old.tree (tree_state t.tree) (held_roots parts.tree) q.op n parts.tree.tree.caches t.tree.caches) (sym (ap number_answered noted.answered ∙ ap number_told c.in-Ok.ensures.prepared.copied))
    (changed_uses parts.tree.tree t.tree (held_roots parts.tree) q.op c.args.change h.checked.one_of c.in-Ok-make_change.ensures.changed)) c.requires.may c.commit.ensures.noted

pub returns-in-Err-clause-uses : goal.returns-in-Err-clause-uses
returns-in-Err-clause-uses g c =
    let parts = c.args.self.now in
    let old = (cluster_of parts).state in
    let asked = c.args.asked.now in
    let t = parts.tree in
    subst (λ x. AtFront (λ (q : Request) (rest : List Request). UsesApplied old.tree (tree_state t.tree) (held_roots parts.tree) q.op parts.tree.tree.caches t.tree.caches x) (waiting_at old.inboxes asked.rank)) (sym c.refuse.ensures.refused)
    (in_front (λ (q : Request) (rest : List Request). MayApply old parts.given.sessions asked c.args.change q) (λ (q : Request) (rest : List Request). UsesApplied old.tree (tree_state t.tree) (held_roots parts.tree) q.op parts.tree.tree.caches t.tree.caches (Err c.in-Err.refusal)) (waiting_at old.inboxes asked.rank)
    (λ q rest h.
    let refused = unprepared parts.tree q.op c.args.change _ _ (offer asked.supply) _ c.in-Err.refusal h.checked c.in-Err.ensures.refused in
    refused_uses parts.tree t q.op (step asked.limit (shown old) q.op (number_or (offer asked.supply))) (offer asked.supply) c.in-Err.refusal refused) c.requires.may)

pub returns-in-Err-make_change-clause-uses : goal.returns-in-Err-make_change-clause-uses
returns-in-Err-make_change-clause-uses g c =
    let parts = c.args.self.now in
    let old = (cluster_of parts).state in
    let asked = c.args.asked.now in
    let t = c.make_change.new.self in
    subst (λ x. AtFront (λ (q : Request) (rest : List Request). UsesApplied old.tree (tree_state t.tree) (held_roots parts.tree) q.op parts.tree.tree.caches t.tree.caches x) (waiting_at old.inboxes asked.rank)) (sym c.refuse-in-Err-make_change.ensures.refused)
    (in_front (λ (q : Request) (rest : List Request). MayApply old parts.given.sessions asked c.args.change q) (λ (q : Request) (rest : List Request). UsesApplied old.tree (tree_state t.tree) (held_roots parts.tree) q.op parts.tree.tree.caches t.tree.caches (Err c.in-Err-make_change.refusal)) (waiting_at old.inboxes asked.rank)
    (λ q rest h.
    let refused = unmade parts.tree c.make_change.new.self q.op c.args.change h.checked.one_of c.in-Err-make_change.refusal (step asked.limit (shown old) q.op (number_or (offer asked.supply))) (offer asked.supply) c.in-Err-make_change.ensures.changed c.in-Err-make_change.ensures.followed c.in-Err-make_change.ensures.kept.stand in
    refused_uses parts.tree t q.op (step asked.limit (shown old) q.op (number_or (offer asked.supply))) (offer asked.supply) c.in-Err-make_change.refusal refused) c.requires.may)
