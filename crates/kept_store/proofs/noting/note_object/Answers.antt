use Rattle.std.proofs.lemmas.Result.{on_ok_weaker}
use Rattle.kept_store.proofs.NotingLaws.{agree_removed, more_name, more_then, name_noted, name_stays}
use Rattle.kept_store.proofs.noting.note_object.Goals as goal

pub returns-clause-more : goal.returns-clause-more
returns-clause-more c =
    more_then c.args.changes.now c.note_name.new.self _ (more_name c.args.changes.now c.note_name.new.self _ c.in_ok-note_name.ensures.ok) c.note_all.ensures.more

pub returns-clause-noted : goal.returns-clause-noted
returns-clause-noted c = on_ok_weaker c.note_all.result
    (λ keys. agree_removed c.args.objects.now c.args.name.now c.note_all.new.changes
    (name_stays c.note_name.new.self c.note_all.new.changes _ c.note_all.ensures.more (name_noted c.args.changes.now c.note_name.new.self _ c.in_ok-note_name.ensures.ok))
    keys)
    c.note_all.ensures.keys
