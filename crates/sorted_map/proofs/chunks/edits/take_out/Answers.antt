use Rattle.sorted_map.proofs.Common.{AllSome, ap, arith, flat, load, remove, room_in, subst, sym, ◌∙◌, ◌≤◌}
use Rattle.sorted_map.proofs.FlatLaws.{flat_remove, flat_get, some_remove, remove_set}
use Rattle.sorted_map.proofs.RoomLaws.{room_kept, take_load}
use Rattle.sorted_map.proofs.chunks.edits.take_out.Goals as goal

pub tidy-requires-clause-others : goal.tidy-requires-clause-others
tidy-requires-clause-others g c =
    subst AllSome (sym (ap (λ cs. remove cs c.args.home) c.take_at-pair.ensures.lists ∙ remove_set _ c.args.home _)) (some_remove _ c.args.home c.requires.some)

pub returns-clause-value : goal.returns-clause-value
returns-clause-value g c = λ d. c.take_at-pair.ensures.value d ∙ sym (flat_get _ c.args.home c.args.at d c.requires.within)

pub returns-clause-items : goal.returns-clause-items
returns-clause-items g c = c.tidy.ensures.items ∙ ap flat c.take_at-pair.ensures.lists ∙ flat_remove _ c.args.home c.args.at c.requires.home c.requires.within

pub returns-clause-room : goal.returns-clause-room
returns-clause-room g c =
    let old = c.args.chunks.now in
    let taken = c.take_at-pair.new.self in
    let kept : room_in old ≤ room_in taken = room_kept old.spare taken.spare (load old.lists) (load taken.lists) (sym c.take_at-pair.ensures.spare)
    (omega (arith, ap load c.take_at-pair.ensures.lists, take_load old.lists c.args.home c.args.at c.requires.home c.requires.within)) in
    omega (arith, c.tidy.ensures.room, kept)
