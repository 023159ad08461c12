-- What serving made of the parts, said of the cluster.
use Rattle.cluster_core.proofs.Common.{AppliesRequest, AreLocatedIn, AtFront, Bool, Checked, Checks, Deferred, Err, IsAsked, IsAtHolder, IsCheckedIn, IsNewTo, IsSessionOf, List, MatchBool, MayApply, MayTouchAll, MustWait, None, Ok, Replies, Request, ServesInbox, Some, State, TreeMayRefuse, UsesApplied, UsesFront, ap, cluster_of, held_roots, held_still, length, number_or, offer, ranked_later, refl, rotated, rules, shown, step, subst, sym, table, waiting_at, with_waiting, ◌++◌, ◌+◌, ◌∙◌, ◌≡◌}
use Rattle.mdcache.specs.Core.{state_of as tree_state}
use Rattle.cluster_core.proofs.FrontLaws.{at_front, in_front, of_front}
use Rattle.cluster_core.proofs.MadeReady.{asked_later, checked_later, only_read}
use Rattle.cluster_core.proofs.Served.{deferred, refused_early, replied, replies_behind, served_later}
use Rattle.cluster_core.proofs.UsesLaws.{applied_later, early_of, front_uses, replied_uses, unready_uses}
use Rattle.cluster_core.proofs.parts.Parts.serve_new.Goals as goal

pub check-requires : goal.check-requires
check-requires g c =
    let s = (cluster_of c.args.self.now).state in
    (of_front (λ (q : Request) (rest : List Request). AreLocatedIn s q.op c.args.places) c.in-Some.request.now (waiting_at s.inboxes c.args.asked.now.rank) c.in-Some.ensures c.requires.located).1

pub must_wait-requires : goal.must_wait-requires
must_wait-requires g c =
    let parts = c.args.self.now in
    let old = (cluster_of parts).state in
    let mid = (cluster_of (record parts { tree = c.check.new.frags })).state in
    let asked = c.args.asked.now in
    let q = c.in-Some.request.now in
    let same = only_read parts c.check.new.frags q.op None c.in-Ok.ensures.kept.follows in
    at_front (λ (l : List Request). AtFront (λ (q : Request) (rest : List Request). IsAsked old parts.given.sessions asked q) l → AtFront (λ (q : Request) (rest : List Request). IsCheckedIn mid q.op c.in-Ok.checked) l)
    q (waiting_at old.inboxes asked.rank) c.in-Some.ensures
    (λ rest is. (number_or (offer asked.supply), checked_later old mid q.op _ _ _ _ c.in-Ok.checked same (is.limit ∙ ap (λ (s : State). s.tree.limit) (sym same)) (search rules) c.in-Ok.ensures.checked)) c.requires.asked

-- the checks are refused
pub returns-in-Err-clause-served : goal.returns-in-Err-clause-served
returns-in-Err-clause-served g c = λ before long is_new.
    let parts = c.args.self.now in
    let old = cluster_of parts in
    let mid = cluster_of (record parts { tree = c.check.new.frags }) in
    let past = before ++ c.args.history.now.items in
    let asked = c.args.asked.now in
    let q = c.in-Some.request.now in
    at_front (λ (l : List Request). AtFront (λ (q : Request) (rest : List Request). IsAsked old.state parts.given.sessions asked q) l → AtFront (λ (q : Request) (rest : List Request). IsNewTo past q) l → ServesInbox old.state mid.state past past (TreeMayRefuse old mid) asked.rank (Err c.in-Err.refusal) l)
    q (waiting_at old.state.inboxes asked.rank) c.in-Some.ensures
    (λ rest h new. refused_early old.state past asked.rank (TreeMayRefuse old mid) q rest new h.master mid.state (only_read parts c.check.new.frags q.op (Some c.in-Err.refusal) c.in-Err.ensures.kept.follows)
    c.in-Err.refusal c.in-Err.ensures.numbers c.in-Err.ensures.err) c.requires.asked is_new

-- a request that has to wait goes behind the others
pub returns-then-must_wait-clause-served : goal.returns-then-must_wait-clause-served
returns-then-must_wait-clause-served g c = λ before long is_new.
    let parts = c.args.self.now in
    let old = cluster_of parts in
    let mid = cluster_of (record parts { tree = c.check.new.frags }) in
    let past = before ++ c.args.history.now.items in
    let asked = c.args.asked.now in
    let rank = asked.rank in
    let q = c.in-Some.request.now in
    let same = only_read parts c.check.new.frags q.op None c.in-Ok.ensures.kept.follows in
    let waits = subst (λ (b : Bool). MatchBool b (AtFront (λ (q : Request) (rest : List Request). MustWait mid.state rank q) (waiting_at old.state.inboxes rank)) (AtFront (λ (q : Request) (rest : List Request). MayTouchAll mid.state rank q) (waiting_at old.state.inboxes rank))) c.if-must_wait.true c.must_wait.ensures in
    at_front (λ (l : List Request). AtFront (λ (q : Request) (rest : List Request). IsAsked old.state parts.given.sessions asked q) l → AtFront (λ (q : Request) (rest : List Request). IsNewTo past q) l → AtFront (λ (q : Request) (rest : List Request). MustWait mid.state rank q) l → c.rotate.new.self ≡ with_waiting old.state.inboxes rank (rotated l)
    → ServesInbox old.state (record mid.state { inboxes = c.rotate.new.self }) past past (TreeMayRefuse old mid) rank (Ok Deferred) l)
    q (waiting_at old.state.inboxes rank) c.in-Some.ensures
    (λ rest h new lacks turned. deferred old.state past rank (TreeMayRefuse old mid) q rest new h.master mid.state same c.rotate.new.self (subst (λ (s : State). MustWait s rank q) same lacks) turned) c.requires.asked is_new waits c.rotate.ensures

pub answer-requires : goal.answer-requires
answer-requires g c =
    let parts = c.args.self.now in
    let old = cluster_of parts in
    let asked = c.args.asked.now in
    in_front (λ (q : Request) (rest : List Request). IsAsked old.state parts.given.sessions asked q) (λ (q : Request) (rest : List Request). IsSessionOf parts.given.sessions q.client asked.session) (waiting_at old.state.inboxes asked.rank) (λ q rest h. h.session) c.requires.asked

pub apply-requires-clause-may : goal.apply-requires-clause-may
apply-requires-clause-may g c =
    let parts = c.args.self.now in
    let old = cluster_of parts in
    let mid = cluster_of (record parts { tree = c.check.new.frags }) in
    let asked = c.args.asked.now in
    let rank = asked.rank in
    let q = c.in-Some.request.now in
    let n = number_or (offer asked.supply) in
    let same = only_read parts c.check.new.frags q.op None c.in-Ok.ensures.kept.follows in
    let may = subst (λ (b : Bool). MatchBool b (AtFront (λ (q : Request) (rest : List Request). MustWait mid.state rank q) (waiting_at old.state.inboxes rank)) (AtFront (λ (q : Request) (rest : List Request). MayTouchAll mid.state rank q) (waiting_at old.state.inboxes rank))) c.if-must_wait.false c.must_wait.ensures in
    at_front (λ (l : List Request). AtFront (λ (q : Request) (rest : List Request). IsAsked old.state parts.given.sessions asked q) l → AtFront (λ (q : Request) (rest : List Request). MayTouchAll mid.state rank q) l → AtFront (λ (q : Request) (rest : List Request). MayApply mid.state parts.given.sessions asked c.in-Changes.change q) l)
    q (waiting_at old.state.inboxes rank) c.in-Some.ensures
    (λ rest h all. record {
      is_asked = asked_later old.state mid.state parts.given.sessions asked q same h;
      checked = subst (λ (k : Checked). Checks (shown mid.state) mid.state.tree.covers (IsAtHolder mid.state) q.op n (step asked.limit (shown mid.state) q.op n) k) c.in-Changes.is
          (checked_later old.state mid.state q.op asked.limit _ _ n c.in-Ok.checked same refl (search rules) c.in-Ok.ensures.checked);
      may = all;
    }) c.requires.asked may

-- what was done after the checks is said of the state before them
pub returns-in-Answers-clause-served : goal.returns-in-Answers-clause-served
returns-in-Answers-clause-served g c = λ before long is_new.
    let parts = c.args.self.now in
    let old = cluster_of parts in
    let mid = cluster_of (record parts { tree = c.check.new.frags }) in
    let after = cluster_of (record parts { tree = c.check.new.frags; waiting = c.answer.new.waiting; given = c.answer.new.given }) in
    let past = before ++ c.args.history.now.items in
    let now = before ++ c.answer.new.history.items in
    let asked = c.args.asked.now in
    let rank = asked.rank in
    let q = c.in-Some.request.now in
    let n = number_or (offer asked.supply) in
    let same = only_read parts c.check.new.frags q.op None c.in-Ok.ensures.kept.follows in
    let may = subst (λ (b : Bool). MatchBool b (AtFront (λ (q : Request) (rest : List Request). MustWait mid.state rank q) (waiting_at old.state.inboxes rank)) (AtFront (λ (q : Request) (rest : List Request). MayTouchAll mid.state rank q) (waiting_at old.state.inboxes rank))) c.if-must_wait.false c.must_wait.ensures in
    at_front (λ (l : List Request). AtFront (λ (q : Request) (rest : List Request). IsAsked old.state parts.given.sessions asked q) l → AtFront (λ (q : Request) (rest : List Request). IsNewTo past q) l → AtFront (λ (q : Request) (rest : List Request). MayTouchAll mid.state rank q) l
    → AtFront (Replies old.state.inboxes after.state.inboxes old.state.pins after.state.pins old.state.sessions after.state.sessions (old.state.sessions.forgotten + length c.args.history.now.items) c.args.history.now.items c.answer.new.history.items rank c.in-Answers.reply c.answer.result) l
    → ServesInbox old.state after.state past now (TreeMayRefuse old mid) rank c.answer.result l)
    q (waiting_at old.state.inboxes rank) c.in-Some.ensures
    (λ rest h new all said.
    let is = asked_later old.state mid.state parts.given.sessions asked q same h in
    served_later old.state mid.state after.state past now (TreeMayRefuse old mid) (TreeMayRefuse old mid) rank q rest c.answer.result same (λ reason because. because)
    (replied mid.state past rank (TreeMayRefuse old mid) q rest new is.master
    (IsAtHolder mid.state) asked.limit n asked.supply c.in-Ok.checked c.in-Answers.reply is.limit refl is.left c.in-Answers.is
    (checked_later old.state mid.state q.op asked.limit _ _ n c.in-Ok.checked same refl (search rules) c.in-Ok.ensures.checked)
    after.state.inboxes after.state.pins after.state.sessions now after.state.numbers c.answer.result all c.answer.ensures.numbers
    (replies_behind old.state.inboxes after.state.inboxes old.state.pins after.state.pins old.state.sessions after.state.sessions before c.args.history.now.items c.answer.new.history.items rank c.in-Answers.reply c.answer.result q rest long said))) c.requires.asked is_new may c.answer.ensures.replies

pub returns-in-Changes-clause-served : goal.returns-in-Changes-clause-served
returns-in-Changes-clause-served g c = λ before long is_new.
    let parts = c.args.self.now in
    let old = cluster_of parts in
    let mid = cluster_of (record parts { tree = c.check.new.frags }) in
    let after = cluster_of c.apply.new.self in
    let past = before ++ c.args.history.now.items in
    let now = before ++ c.apply.new.history.items in
    let rank = c.args.asked.now.rank in
    let q = c.in-Some.request.now in
    let kept = c.in-Ok.ensures.kept.follows in
    at_front (λ (l : List Request). AtFront (λ (q : Request) (rest : List Request). IsNewTo past q → AppliesRequest mid.state after.state past now (TreeMayRefuse mid after) rank c.apply.result q rest) l → AtFront (λ (q : Request) (rest : List Request). IsNewTo past q) l
    → ServesInbox old.state after.state past now (TreeMayRefuse old after) rank c.apply.result l)
    q (waiting_at old.state.inboxes rank) c.in-Some.ensures
    (λ rest h new. served_later old.state mid.state after.state past now (TreeMayRefuse mid after) (TreeMayRefuse old after) rank q rest c.apply.result (only_read parts c.check.new.frags q.op None kept)
    (λ reason because. ranked_later parts.tree c.check.new.frags c.apply.new.self.tree q.op reason kept because) (h new)) (c.apply.ensures.applied before long) is_new

-- ---- what it makes of the caches

pub returns-in-Err-clause-uses : goal.returns-in-Err-clause-uses
returns-in-Err-clause-uses g c =
    let t = c.args.self.now.tree in
    let m = c.check.new.frags in
    let q = c.in-Some.request.now in
    front_uses (tree_state t.tree) (tree_state m.tree) (held_roots t) t.tree.caches m.tree.caches (Err c.in-Err.refusal) q (waiting_at c.args.self.now.waiting.inboxes c.args.asked.now.rank) c.in-Some.ensures
    (unready_uses (tree_state t.tree) (tree_state m.tree) (held_roots t) q.op t.tree.caches m.tree.caches c.in-Err.refusal
    (early_of t m q.op c.in-Err.refusal c.in-Err.ensures.err) c.in-Err.ensures.kept.follows.reads)

pub returns-then-must_wait-clause-uses : goal.returns-then-must_wait-clause-uses
returns-then-must_wait-clause-uses g c =
    let t = c.args.self.now.tree in
    let m = c.check.new.frags in
    front_uses (tree_state t.tree) (tree_state m.tree) (held_roots t) t.tree.caches m.tree.caches (Ok Deferred) c.in-Some.request.now (waiting_at c.args.self.now.waiting.inboxes c.args.asked.now.rank) c.in-Some.ensures c.in-Ok.ensures.kept.follows.reads

pub returns-in-Answers-clause-uses : goal.returns-in-Answers-clause-uses
returns-in-Answers-clause-uses g c =
    let t = c.args.self.now.tree in
    let m = c.check.new.frags in
    let s = (cluster_of c.args.self.now).state in
    let w = c.answer.new.waiting in
    let sessions = table c.answer.new.given.sessions in
    let past = c.args.history.now.items in
    let place = s.sessions.forgotten + length past in
    let rank = c.args.asked.now.rank in
    let q = c.in-Some.request.now in
    at_front (λ (l : List Request). AtFront (Replies s.inboxes w.inboxes s.pins w.pins s.sessions sessions place past c.answer.new.history.items rank c.in-Answers.reply c.answer.result) l → UsesFront s.tree (tree_state m.tree) (held_roots t) t.tree.caches m.tree.caches c.answer.result l)
    q (waiting_at s.inboxes rank) c.in-Some.ensures
    (λ rest said. replied_uses s.tree (tree_state m.tree) (held_roots t) q.op t.tree.caches m.tree.caches
    s.inboxes w.inboxes s.pins w.pins s.sessions sessions place past c.answer.new.history.items rank c.in-Answers.reply c.answer.result q rest said c.in-Ok.ensures.kept.follows.reads) c.answer.ensures.replies

pub returns-in-Changes-clause-uses : goal.returns-in-Changes-clause-uses
returns-in-Changes-clause-uses g c =
    let parts = c.args.self.now in
    let t = parts.tree in
    let m = c.check.new.frags in
    let n = c.apply.new.self.tree in
    let old = cluster_of parts in
    let mid = cluster_of (record parts { tree = m }) in
    let after = cluster_of c.apply.new.self in
    let past = c.requires.is_new.0 ++ c.args.history.now.items in
    let now = c.requires.is_new.0 ++ c.apply.new.history.items in
    let rank = c.args.asked.now.rank in
    let q = c.in-Some.request.now in
    let kept = c.in-Ok.ensures.kept.follows in
    at_front (λ (l : List Request). AtFront (λ (q : Request) (rest : List Request). IsNewTo past q → AppliesRequest mid.state after.state past now (TreeMayRefuse mid after) rank c.apply.result q rest) l → AtFront (λ (q : Request) (rest : List Request). IsNewTo past q) l
    → AtFront (λ (q : Request) (rest : List Request). UsesApplied mid.state.tree after.state.tree (held_roots m) q.op mid.caches after.caches c.apply.result) l → UsesFront old.state.tree after.state.tree (held_roots t) old.caches after.caches c.apply.result l)
    q (waiting_at old.state.inboxes rank) c.in-Some.ensures
    (λ rest h new uses. applied_later old.state.tree mid.state.tree after.state.tree (held_roots t) (held_roots m) q.op old.caches mid.caches after.caches
    kept.tree.state (held_still t m q.op None kept) kept.reads mid.state after.state past now (TreeMayRefuse mid after) rank c.apply.result q rest (h new) uses) (c.apply.ensures.applied c.requires.is_new.0 c.requires.is_new.1) c.requires.is_new.2 c.apply.ensures.uses
