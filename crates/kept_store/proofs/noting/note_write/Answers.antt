use Rattle.std.proofs.Common.{inl, inr}
use Rattle.std.proofs.lemmas.Result.{on_ok_weaker}
use Rattle.kept_store.proofs.NotingLaws.{agree_written, key_stays, more_name, more_then, name_noted, name_stays}
use Rattle.kept_store.proofs.noting.note_write.Goals as goal

pub returns-in_err-note_pairs-clause-more : goal.returns-in_err-note_pairs-clause-more
returns-in_err-note_pairs-clause-more c =
    more_then c.args.changes.now c.note_name.new.self _ (more_name c.args.changes.now c.note_name.new.self _ c.in_ok-note_name.ensures.ok) c.note_pairs.ensures.more

pub returns-then-op-clause-more : goal.returns-then-op-clause-more
returns-then-op-clause-more c =
    more_then c.args.changes.now c.note_pairs.new.changes _
    (more_then c.args.changes.now c.note_name.new.self _ (more_name c.args.changes.now c.note_name.new.self _ c.in_ok-note_name.ensures.ok) c.note_pairs.ensures.more)
    c.note_all.ensures.more

pub returns-then-op-clause-noted : goal.returns-then-op-clause-noted
returns-then-op-clause-noted c = on_ok_weaker c.note_all.result
    (λ keys. agree_written c.args.objects.now c.args.name.now c.args.op.now c.note_all.new.changes
    (name_stays c.note_pairs.new.changes c.note_all.new.changes _ c.note_all.ensures.more
    (name_stays c.note_name.new.self c.note_pairs.new.changes _ c.note_pairs.ensures.more (name_noted c.args.changes.now c.note_name.new.self _ c.in_ok-note_name.ensures.ok)))
    (λ k some. key_stays c.note_pairs.new.changes c.note_all.new.changes _ k c.note_all.ensures.more (c.in_ok-note_pairs.ensures.keys k some))
    (inl keys))
    c.note_all.ensures.keys

pub returns-clause-more : goal.returns-clause-more
returns-clause-more c =
    more_then c.args.changes.now c.note_pairs.new.changes _
    (more_then c.args.changes.now c.note_name.new.self _ (more_name c.args.changes.now c.note_name.new.self _ c.in_ok-note_name.ensures.ok) c.note_pairs.ensures.more)
    c.note_keys.ensures.more

pub returns-clause-noted : goal.returns-clause-noted
returns-clause-noted c = on_ok_weaker c.note_keys.result
    (λ keys. agree_written c.args.objects.now c.args.name.now c.args.op.now c.note_keys.new.changes
    (name_stays c.note_pairs.new.changes c.note_keys.new.changes _ c.note_keys.ensures.more
    (name_stays c.note_name.new.self c.note_pairs.new.changes _ c.note_pairs.ensures.more (name_noted c.args.changes.now c.note_name.new.self _ c.in_ok-note_name.ensures.ok)))
    (λ k some. key_stays c.note_pairs.new.changes c.note_keys.new.changes _ k c.note_keys.ensures.more (c.in_ok-note_pairs.ensures.keys k some))
    (inr (c.if-op.false, keys)))
    c.note_keys.ensures.keys
