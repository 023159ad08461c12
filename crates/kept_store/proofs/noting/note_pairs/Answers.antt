use Rattle.std.proofs.Common.{◌∙◌, ap, subst}
use Rattle.std.specs.FinMap as map
use Rattle.object_tables.specs.Noted.{Noted}
use Rattle.kept_store.proofs.NotingLaws.{NotedBut, key_noted, more_key, more_then, noted_all, noted_one}
use Rattle.kept_store.proofs.noting.note_pairs.Goals as goal

pub loop-key-preserved : goal.loop-key-preserved
loop-key-preserved c =
    let mid = c.loop-key.changes in
    let new = c.note_key.new.self in
    let more = more_key mid new _ c.in_ok-note_key.ensures.ok in
    let all = map.entries c.args.pairs.now in (
      more_then c.args.changes.now mid new c.loop-key.invariant.0 more,
      ap (λ (n : Noted). n.names) c.in_ok-note_key.ensures.ok ∙ c.loop-key.invariant.1,
      noted_one mid new c.args.name.now all c.next.new.self c.in-Some.field-0.now more (key_noted mid new _ _ c.in_ok-note_key.ensures.ok)
          (subst (NotedBut mid c.args.name.now all) c.in-Some.ensures.steps c.loop-key.invariant.2),
    )

pub returns-clause-keys : goal.returns-clause-keys
returns-clause-keys c = noted_all c.loop-key.changes c.args.name.now c.args.pairs.now c.loop-key.left c.in_default.ensures.steps.0 c.loop-key.invariant.2
