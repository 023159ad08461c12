use Rattle.cluster_core.proofs.Common.{AtFront, Checked, Checks, IsAtHolder, IsCheckedIn, LacksOneOf, List, MatchBool, MayTouchAll, MayTouchEach, MustWait, Request, cluster_of, fragments_are, shown, step, subst, waiting_at}
use Rattle.subtree_map.specs.Authority.{Leaf}
use Rattle.cluster_core.proofs.FrontLaws.{at_front, by_front, in_front}
use Rattle.cluster_core.proofs.GrantLaws.{gone_stands, idle_may}
use Rattle.cluster_core.proofs.parts.Parts.must_wait.Goals as goal

pub lacks_one-requires-clause-gone : goal.lacks_one-requires-clause-gone
lacks_one-requires-clause-gone g c =
    let s = (cluster_of c.args.self.now).state in
    by_front _ (λ (q : Request) (rest : List Request). IsCheckedIn s q.op c.args.checked.now) (waiting_at s.inboxes c.args.rank) (λ q rest h.
    let found = subst (λ (k : Checked). Checks (shown s) s.tree.covers (IsAtHolder s) q.op h.0 (step s.tree.limit (shown s) q.op h.0) k) c.in-Changes.is h.1 in
    gone_stands (shown s) s.tree.covers c.in-Changes.change found.carries) c.requires

pub lacks_one-requires-clause-carries : goal.lacks_one-requires-clause-carries
lacks_one-requires-clause-carries g c =
    let s = (cluster_of c.args.self.now).state in
    by_front _ (λ (q : Request) (rest : List Request). IsCheckedIn s q.op c.args.checked.now) (waiting_at s.inboxes c.args.rank) (λ q rest h.
    let found = subst (λ (k : Checked). Checks (shown s) s.tree.covers (IsAtHolder s) q.op h.0 (step s.tree.limit (shown s) q.op h.0) k) c.in-Changes.is h.1 in
    found.carries) c.requires

pub lacks_one-requires-clause-held : goal.lacks_one-requires-clause-held
lacks_one-requires-clause-held g c =
    let s = (cluster_of c.args.self.now).state in
    by_front _ (λ (q : Request) (rest : List Request). IsCheckedIn s q.op c.args.checked.now) (waiting_at s.inboxes c.args.rank) (λ q rest h.
    let found = subst (λ (k : Checked). Checks (shown s) s.tree.covers (IsAtHolder s) q.op h.0 (step s.tree.limit (shown s) q.op h.0) k) c.in-Changes.is h.1 in
    found.held) c.requires

pub returns-in-Answers : goal.returns-in-Answers
returns-in-Answers g c =
    let s = (cluster_of c.args.self.now).state in
    in_front (λ (q : Request) (rest : List Request). IsCheckedIn s q.op c.args.checked.now) (λ (q : Request) (rest : List Request). MayTouchAll s c.args.rank q) (waiting_at s.inboxes c.args.rank) (λ q rest h.
    idle_may s c.args.rank q h.0 c.in-Answers.field-0 (subst (λ (k : Checked). Checks (shown s) s.tree.covers (IsAtHolder s) q.op h.0 (step s.tree.limit (shown s) q.op h.0) k) c.in-Answers.is h.1)) c.requires

pub returns-in-Some : goal.returns-in-Some
returns-in-Some g c =
    let s = (cluster_of c.args.self.now).state in
    let rank = c.args.rank in
    let waits = c.lacks_one.result in
    at_front (λ (l : List Request). AtFront (λ (q : Request) (rest : List Request). IsCheckedIn s q.op c.args.checked.now) l → MatchBool waits (AtFront (λ (q : Request) (rest : List Request). MustWait s rank q) l) (AtFront (λ (q : Request) (rest : List Request). MayTouchAll s rank q) l))
    c.in-Some.request.now (waiting_at s.inboxes rank) c.in-Some.ensures
    (λ rest h.
    let q = c.in-Some.request.now in
    let found = subst (λ (k : Checked). Checks (shown s) s.tree.covers (IsAtHolder s) q.op h.0 (step s.tree.limit (shown s) q.op h.0) k) c.in-Changes.is h.1 in
    subst (λ (ls : List Leaf). MatchBool waits (LacksOneOf s rank q ls) (MayTouchEach s rank q ls))
    (fragments_are s.tree.limit (shown s) s.tree.covers (IsAtHolder s) q.op h.0 c.in-Changes.change found) c.lacks_one.ensures) c.requires
