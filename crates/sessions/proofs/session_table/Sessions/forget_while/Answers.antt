use Rattle.sessions.proofs.Common.{Entry, StopsForgetting, Table, ap, arith, drop, get_or_default, length-set, set, set-get_or, slice_index_or, subst, sym, table, ◌∙◌, ◌<◌, ◌≡◌, length}
use Rattle.sessions.proofs.WalkLaws.{aside_on, first_left, left_on}
use Rattle.sessions.proofs.session_table.Sessions.forget_while.Goals as goal

pub loop-i-preserved : goal.loop-i-preserved
loop-i-preserved c =
    let h = c.loop-i.invariant in
    let i = c.loop-i.i in
    let now = c.loop-i.history.items in
    let all = c.args.history.now.items in
    let below : i < length all = omega (arith, c.loop-i-test.true, c.requires) in
    record {
      left = left_on all now i h.left c.forget_one.new.first;
      long = length-set now i c.forget_one.new.first ∙ h.long;
      stays = λ not. c.forget_one.ensures.stays not ∙ h.stays not;
      aside = aside_on all now i h.left (table c.loop-i.self) (table c.forget_one.new.self) (table c.args.self.now) c.index_mut.result.now below c.index_mut.ensures.value h.aside (c.forget_one.ensures.gone c.if-not-forget_one.false);
      changed = c.forget_one.ensures.changed ∙ h.changed;
    }

pub returns-then-not-forget_one : goal.returns-then-not-forget_one
returns-then-not-forget_one c =
    let h = c.loop-i.invariant in
    let i = c.loop-i.i in
    let now = c.loop-i.history.items in
    let all = c.args.history.now.items in
    let below : i < length all = omega (arith, c.loop-i-test.true, c.requires) in
    let not = c.if-not-forget_one.true in
    let first : Entry = c.index_mut.result.now in
    let known : table c.forget_one.new.self ≡ table c.loop-i.self = c.forget_one.ensures.left not in
    record {
      few = omega (arith, c.loop-i-test.true);
      stops = λ e _.
          let same : first ≡ slice_index_or all i e = c.index_mut.ensures.value ∙ first_left all now i h.left first ∙ get_or_default all i first e below in
          subst (λ (t : Table). StopsForgetting t (slice_index_or all i e)) (sym known) (subst (λ (x : Entry). StopsForgetting (table c.loop-i.self) x) same (c.forget_one.ensures.stops not));
      left = ap (λ (x : Entry). drop i (set now i x)) (c.forget_one.ensures.entry not ∙ c.index_mut.ensures.value) ∙ ap (drop i) (set-get_or now i first) ∙ h.left;
      long = length-set now i c.forget_one.new.first ∙ h.long;
      stays = λ still. c.forget_one.ensures.stays still ∙ h.stays still;
      aside = known ∙ h.aside;
      changed = c.forget_one.ensures.changed ∙ h.changed;
    }
