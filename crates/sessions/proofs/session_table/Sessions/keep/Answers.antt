use Rattle.sessions.proofs.Common.{HeldSessions, IfSome, None, Option, Session, Some, ap, cond, contents, eq-eqb, nat_cmp, no_row, refl, rules, subst, sym, vec_capacity, vec_len, ◌<◌, ◌∙◌, ◌≡◌}
use Rattle.std.specs.FinMap as map
use Rattle.std.proofs.lemmas.Bool.{not-false, not-true}
use Rattle.sessions.proofs.ChangedLaws.{known_before, listed_first, with_known, with_other}
use Rattle.sessions.proofs.RowLaws.{get_with, indexed_more, noted_known, noted_first, both_behind}
use Rattle.sessions.proofs.session_table.Sessions.keep.Goals as goal

pub invariant_of-self-in-None : goal.invariant_of-self-in-None
invariant_of-self-in-None c =
    let none : map.get (contents nat_cmp c.self.inside.indices) c.args.at.client ≡ None = ap (λ (h : HeldSessions). map.get h.indices c.args.at.client) c.self.view_is ∙ c.requires.there ∙ c.in-None.is in (
      rw (c.add.ensures, c.push_reserved-in-None-2.ensures.items, c.len-i.ensures, c.self.inside.sessions.ok.0) (indexed_more (contents nat_cmp c.self.inside.indices) c.self.inside.sessions.items c.args.at.client c.self.invariant.0 c.keep-in-None.new.self none),
      rw c.take.ensures.after tt,
      c.self.invariant.2,
      rw (c.add.ensures, c.push_reserved-in-None.ensures.items, c.push_reserved-in-None-2.ensures.items, c.len-i.ensures, c.self.inside.sessions.ok.0) (listed_first (contents nat_cmp c.self.inside.indices) c.self.inside.sessions.items c.self.inside.changed.items c.self.invariant.3 c.args.at.client c.self.invariant.0 c.keep-in-None.new.self none c.keep-in-None.ensures.changed),
    )

pub returns-then-keep-clause-kept : goal.returns-then-keep-clause-kept
returns-then-keep-clause-kept c =
    let its : map.get (contents nat_cmp c.self.inside.indices) c.args.at.client ≡ Some c.in-Some.i = ap (λ (h : HeldSessions). map.get h.indices c.args.at.client) c.self.view_is ∙ c.requires.there ∙ c.in-Some.is in
    rw (← c.self.view_is) (both_behind c.self.inside.forgotten _ _ _ _ (noted_known (contents nat_cmp c.self.inside.indices) c.self.inside.sessions.items c.args.at.client c.self.invariant.0 c.in-Some.i its c.keep.new.self c.self.inside.forgotten c.index_mut.result.now c.index_mut.ensures.value _ _ _ c.keep.ensures.row)
    (c.push_reserved.ensures.items ∙ with_other (contents nat_cmp c.self.inside.indices) c.self.inside.sessions.items c.self.inside.changed.items c.self.invariant.3 c.args.at.client (known_before (contents nat_cmp c.self.inside.indices) c.self.inside.sessions.items c.self.inside.changed.items c.self.invariant.3 c.args.at.client c.self.invariant.0 c.in-Some.i its c.keep.new.self c.index_mut.result.now c.index_mut.ensures.value ∙ not-true _ (sym c.keep.ensures.first ∙ c.if-keep.true))))

pub returns-else-keep-clause-kept : goal.returns-else-keep-clause-kept
returns-else-keep-clause-kept c =
    let its : map.get (contents nat_cmp c.self.inside.indices) c.args.at.client ≡ Some c.in-Some.i = ap (λ (h : HeldSessions). map.get h.indices c.args.at.client) c.self.view_is ∙ c.requires.there ∙ c.in-Some.is in
    rw (← c.self.view_is) (both_behind c.self.inside.forgotten _ _ _ _ (noted_known (contents nat_cmp c.self.inside.indices) c.self.inside.sessions.items c.args.at.client c.self.invariant.0 c.in-Some.i its c.keep.new.self c.self.inside.forgotten c.index_mut.result.now c.index_mut.ensures.value _ _ _ c.keep.ensures.row)
    (with_known (contents nat_cmp c.self.inside.indices) c.self.inside.sessions.items c.self.inside.changed.items c.self.invariant.3 c.args.at.client (known_before (contents nat_cmp c.self.inside.indices) c.self.inside.sessions.items c.self.inside.changed.items c.self.invariant.3 c.args.at.client c.self.invariant.0 c.in-Some.i its c.keep.new.self c.index_mut.result.now c.index_mut.ensures.value ∙ not-false _ (sym c.keep.ensures.first ∙ c.if-keep.false))))

-- the session that was set aside knows nothing yet
pub returns-in-Some-take-clause-kept : goal.returns-in-Some-take-clause-kept
returns-in-Some-take-clause-kept c =
    let none : map.get (contents nat_cmp c.self.inside.indices) c.args.at.client ≡ None = ap (λ (h : HeldSessions). map.get h.indices c.args.at.client) c.self.view_is ∙ c.requires.there ∙ c.in-None.is in
    let spare = subst (λ (o : Option Session). IfSome o (λ s. (s.row ≡ no_row) × (0 < s.room) × (vec_len c.self.inside.sessions < vec_capacity c.self.inside.sessions))) (sym c.take.ensures.value ∙ c.in-Some-take.is) c.self.invariant.1 in
    rw (← c.self.view_is, c.add.ensures, c.push_reserved-in-None-2.ensures.items, c.len-i.ensures, c.self.inside.sessions.ok.0)
    (both_behind c.self.inside.forgotten _ _ _ _ (noted_first (contents nat_cmp c.self.inside.indices) c.self.inside.sessions.items c.args.at.client c.self.invariant.0 c.keep-in-None.new.self c.self.inside.forgotten c.in-Some-take.fresh.row _ _ _ none spare.0 c.keep-in-None.ensures.row) (search rules))

pub returns-in-Some-take-clause-session : goal.returns-in-Some-take-clause-session
returns-in-Some-take-clause-session c =
    rw c.add.ensures (get_with _ c.args.at.client c.len-i.result c.args.at.client ∙ ap (λ b. cond b (Some c.len-i.result) (map.get (contents nat_cmp c.self.inside.indices) c.args.at.client)) (eq-eqb c.args.at.client c.args.at.client refl))
