-- One reply more is taken over.
use Rattle.session_rows.proofs.Common.{Told, ap, arith, length, rules, subst, suc, ℕ, ◌≡◌, ◌∙◌}
use Rattle.sessions.specs.Restored.{TakesClient}
use Rattle.std.specs.Vec.Iter.{into_iter_items}
use Rattle.sessions.specs.Rooms.{table}
use Rattle.session_rows.proofs.TakeLaws.{next_absent, next_known, next_marked, take_none, take_one}
use Rattle.session_rows.proofs.restoring.take_row.Goals as goal

pub loop-told-init : goal.loop-told-init
loop-told-init c =
    let rest = c.into_iter-told-iterator.ensures.into_iter_gives in
    let old = table c.args.sessions.now in
    let now = table c.take_client.new.sessions in
    record {
      count = search rules;
      taken = take_none c.args.client c.args.row old now (into_iter_items c.into_iter-told-iterator.result) (subst (λ (m : ℕ). TakesClient old now c.args.client m) c.mark.ensures c.in_ok-take_client.ensures.taken)
          (rest.0 ∙ c.into_replies-told-items.ensures);
      changed = c.take_client.ensures.changed;
    }

pub take_told-requires-clause-known : goal.take_told-requires-clause-known
take_told-requires-clause-known c =
    next_known c.args.client c.args.row (table c.args.sessions.now) (table c.loop-told.sessions) (into_iter_items c.loop-told.told-iterator) (into_iter_items c.next.new.self) c.in-Some.told
    c.requires.known c.requires.absent c.loop-told.invariant.taken c.in-Some.ensures.steps.0

pub take_told-requires-clause-marked : goal.take_told-requires-clause-marked
take_told-requires-clause-marked c =
    next_marked c.args.client c.args.row (table c.args.sessions.now) (table c.loop-told.sessions) (into_iter_items c.loop-told.told-iterator) (into_iter_items c.next.new.self) c.in-Some.told
    c.requires.known c.requires.absent c.loop-told.invariant.taken c.in-Some.ensures.steps.0

pub take_told-requires-clause-absent : goal.take_told-requires-clause-absent
take_told-requires-clause-absent c =
    next_absent c.args.client c.args.row (table c.args.sessions.now) (table c.loop-told.sessions) (into_iter_items c.loop-told.told-iterator) (into_iter_items c.next.new.self) c.in-Some.told
    c.requires.known c.requires.absent c.loop-told.invariant.taken c.in-Some.ensures.steps.0

pub loop-told-preserved : goal.loop-told-preserved
loop-told-preserved c =
    let longer : length (into_iter_items c.loop-told.told-iterator) ≡ suc (length (into_iter_items c.next.new.self)) = ap (length {A = Told}) c.in-Some.ensures.steps.0 in
    record {
      count = omega (arith, c.loop-told.invariant.count, longer, c.in-Some.ensures.steps.1);
      taken = take_one c.args.client c.args.row (table c.args.sessions.now) (table c.loop-told.sessions) (into_iter_items c.loop-told.told-iterator) (into_iter_items c.next.new.self) c.in-Some.told
          c.requires.known c.requires.absent c.loop-told.invariant.taken c.in-Some.ensures.steps.0 (table c.take_told.new.sessions) c.in_ok-take_told.ensures.taken;
      changed = c.take_told.ensures.changed ∙ c.loop-told.invariant.changed;
    }
