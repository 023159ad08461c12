use Rattle.std.proofs.Common.{subst}
use Rattle.std.specs.FinMap as map
use Rattle.kept_store.proofs.NotingLaws.{NotedBut, key_noted, more_key, more_then, noted_all, noted_one}
use Rattle.kept_store.proofs.noting.note_keys.Goals as goal

pub loop-gone-preserved : goal.loop-gone-preserved
loop-gone-preserved c =
    let mid = c.loop-gone.changes in
    let new = c.note_key.new.self in
    let more = more_key mid new _ c.in_ok-note_key.ensures.ok in
    let all = map.entries c.args.keys.now in (
      more_then c.args.changes.now mid new c.loop-gone.invariant.0 more,
      noted_one mid new c.args.name.now all c.next.new.self c.in-Some.field-0.now more (key_noted mid new _ _ c.in_ok-note_key.ensures.ok)
          (subst (NotedBut mid c.args.name.now all) c.in-Some.ensures.steps c.loop-gone.invariant.1),
    )

pub returns-clause-keys : goal.returns-clause-keys
returns-clause-keys c = noted_all c.loop-gone.changes c.args.name.now c.args.keys.now c.loop-gone.left c.in_default.ensures.steps.0 c.loop-gone.invariant.1
