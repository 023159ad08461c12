use Rattle.cluster_core.proofs.Common.{AreSetAside, AtFront, Entry, Err, ForwardsTo, HasLeft, IsKeptAt, IsNewTo, IsTableOf, IsTrimmed, List, Ranked, Repeats, Request, ServesInbox, Trimmed, TreeMayRefuse, UsesFront, cluster_of, held_roots, rules, slice_index_or, subst, sym, waiting_at, ◌++◌, ◌≡◌, ◌≢◌}
use Rattle.mdcache.specs.Core.{state_of as tree_state}
use Rattle.cluster_core.specs.Steps.{ServesRank}
use Rattle.cluster_core.proofs.FrontLaws.{at_front, seen_behind}
use Rattle.cluster_core.proofs.Served.{again, ended, goes_on}
use Rattle.cluster_core.proofs.UsesLaws.{same_caches}
use Rattle.cluster_core.proofs.parts.Parts.serve_front.Goals as goal

-- a request that is trimmed leaves
pub returns-in-Trimmed-clause-served : goal.returns-in-Trimmed-clause-served
returns-in-Trimmed-clause-served g c = λ before tabled aside.
    let k = cluster_of c.args.self.now in
    let s = k.state in
    let past = before ++ c.args.history.now.items in
    let rank = c.args.rank in
    let q = c.in-Some.request.now in
    let w = c.end_front.new.self in
    at_front (λ (l : List Request). AtFront (HasLeft s.inboxes w.inboxes s.pins w.pins rank) l → ServesInbox s (record s { inboxes = w.inboxes; pins = w.pins }) past past (TreeMayRefuse k k) rank (Err Trimmed) l)
    q (waiting_at s.inboxes rank) c.in-Some.ensures
    (λ rest h. ended s past rank (TreeMayRefuse k k) q rest w.inboxes w.pins
    (seen_behind (λ (l : List Entry). IsTrimmed l q.client q.tid q.oldest) s.sessions _ _ c.deref.ensures.value c.in-Trimmed.ensures.seen before tabled aside) h) c.end_front.ensures.left

pub returns-in-Trimmed-clause-uses : goal.returns-in-Trimmed-clause-uses
returns-in-Trimmed-clause-uses g c =
    let t = c.args.self.now.tree in
    same_caches (tree_state t.tree) (tree_state t.tree) (held_roots t) t.tree.caches (Err Trimmed) (waiting_at c.args.self.now.waiting.inboxes c.args.rank)

-- one that is kept is answered again
pub returns-in-Kept-clause-served : goal.returns-in-Kept-clause-served
returns-in-Kept-clause-served g c = λ before tabled aside.
    let k = cluster_of c.args.self.now in
    let s = k.state in
    let past = before ++ c.args.history.now.items in
    let rank = c.args.rank in
    let q = c.in-Some.request.now in
    let w = c.answer_again.new.waiting in
    let its = seen_behind (λ (l : List Entry). IsKeptAt l q.client q.tid q.oldest c.in-Kept.place × ((e : Entry) → c.in-Kept.reply.now ≡ (slice_index_or l c.in-Kept.place e).reply)) s.sessions _ _ c.deref.ensures.value c.in-Kept.ensures.seen before tabled aside in
    at_front (λ (l : List Request). AtFront (Repeats s.inboxes w.inboxes s.pins w.pins rank c.in-Kept.place c.in-Kept.reply.now c.answer_again.result) l → ServesInbox s (record s { inboxes = w.inboxes; pins = w.pins }) past past (TreeMayRefuse k k) rank c.answer_again.result l)
    q (waiting_at s.inboxes rank) c.in-Some.ensures
    (λ rest h. again s past rank (TreeMayRefuse k k) q rest w.inboxes w.pins c.in-Kept.place c.in-Kept.reply.now c.answer_again.result its.0 its.1 h) c.answer_again.ensures.repeats

pub returns-in-Kept-clause-uses : goal.returns-in-Kept-clause-uses
returns-in-Kept-clause-uses g c =
    let t = c.args.self.now.tree in
    same_caches (tree_state t.tree) (tree_state t.tree) (held_roots t) t.tree.caches c.answer_again.result (waiting_at c.args.self.now.waiting.inboxes c.args.rank)

pub returns-then-not-is_same-clause-uses : goal.returns-then-not-is_same-clause-uses
returns-then-not-is_same-clause-uses g c =
    let t = c.args.self.now.tree in
    let waiting = waiting_at c.args.self.now.waiting.inboxes c.args.rank in
    subst (λ (n : Ranked). UsesFront (tree_state t.tree) (tree_state n.tree) (held_roots t) t.tree.caches n.tree.caches c.forward.result waiting) (sym c.correct_hint.ensures)
    (same_caches (tree_state t.tree) (tree_state t.tree) (held_roots t) t.tree.caches c.forward.result waiting)

-- a new request of which another rank is the master goes on; the hint that is corrected leaves all that is told of the tree
pub returns-then-not-is_same-clause-served : goal.returns-then-not-is_same-clause-served
returns-then-not-is_same-clause-served g c = λ before tabled aside.
    let parts = c.args.self.now in
    let k = cluster_of parts in
    let s = k.state in
    let past = before ++ c.args.history.now.items in
    let rank = c.args.rank in
    let q = c.in-Some.request.now in
    let i = c.forward.new.inboxes in
    let master = c.locate_master-places.result.1 in
    let other : master ≢ rank = search rules in
    subst (λ (t : Ranked). ServesRank k (cluster_of (record parts { tree = t; waiting = record parts.waiting { inboxes = i } })) past past rank c.forward.result) (sym c.correct_hint.ensures)
    (at_front (λ (l : List Request). AtFront (ForwardsTo s.inboxes i rank master c.forward.result) l → ServesInbox s (record s { inboxes = i }) past past (TreeMayRefuse k k) rank c.forward.result l)
    q (waiting_at s.inboxes rank) c.in-Some.ensures
    (λ rest h. goes_on s past rank (TreeMayRefuse k k) q rest i master c.forward.result
    (seen_behind (λ (l : List Entry). IsNewTo l q) s.sessions _ _ c.deref.ensures.value c.in-New.ensures.seen before tabled aside) c.locate_master-places.ensures.master other h) c.forward.ensures.forwards)

-- ---- what is new behind any past

pub seen-requires : goal.seen-requires
seen-requires g c =
    let sessions = (cluster_of c.args.self.now).state.sessions in (
      c.requires.known.0,
      subst (λ (h : List Entry). IsTableOf (c.requires.known.0 ++ h) sessions) (sym c.deref.ensures.value) c.requires.known.1,
      subst (λ (h : List Entry). AreSetAside c.requires.known.0 h sessions) (sym c.deref.ensures.value) c.requires.known.2,
    )

pub serve_new-requires-clause-is_new : goal.serve_new-requires-clause-is_new
serve_new-requires-clause-is_new g c =
    let s = (cluster_of c.args.self.now).state in
    let q = c.in-Some.request.now in
    let past = c.requires.known.0 ++ c.args.history.now.items in (
      c.requires.known.0,
      c.requires.known.2.before,
      at_front (λ (l : List Request). AtFront (λ (q : Request) (rest : List Request). IsNewTo past q) l) q (waiting_at s.inboxes c.args.rank) c.in-Some.ensures
          (λ rest. seen_behind (λ (l : List Entry). IsNewTo l q) s.sessions _ _ c.deref.ensures.value c.in-New.ensures.seen c.requires.known.0 c.requires.known.1 c.requires.known.2),
    )

pub returns-else-not-is_same-clause-served : goal.returns-else-not-is_same-clause-served
returns-else-not-is_same-clause-served g c = λ before tabled aside.
    let s = (cluster_of c.args.self.now).state in
    let q = c.in-Some.request.now in
    let past = before ++ c.args.history.now.items in
    c.serve_new.ensures.served before aside.before
    (at_front (λ (l : List Request). AtFront (λ (q : Request) (rest : List Request). IsNewTo past q) l) q (waiting_at s.inboxes c.args.rank) c.in-Some.ensures
    (λ rest. seen_behind (λ (l : List Entry). IsNewTo l q) s.sessions _ _ c.deref.ensures.value c.in-New.ensures.seen before tabled aside))
