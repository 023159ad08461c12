use Rattle.sorted_map.proofs.Common.{AllSome, [], ap, arith, flat, get_or, length-insert, load, subst, sym, ◌∙◌}
use Rattle.sorted_map.proofs.FlatLaws.{flat_insert, some_set}
use Rattle.sorted_map.proofs.RoomLaws.{room_less, put_load}
use Rattle.sorted_map.proofs.chunks.edits.put_within.Goals as goal

pub returns-clause-items : goal.returns-clause-items
returns-clause-items g c = ap flat c.put_at.ensures.lists ∙ flat_insert _ c.args.home c.args.at c.args.pair c.requires.home c.requires.within

pub returns-clause-some : goal.returns-clause-some
returns-clause-some g c =
    let len = length-insert (get_or c.args.chunks.now.lists c.args.home []) c.args.at c.args.pair c.requires.within in
    subst AllSome (sym c.put_at.ensures.lists) (some_set _ c.args.home _ c.requires.some (omega (arith, len)))

pub returns-clause-load : goal.returns-clause-load
returns-clause-load g c = omega (arith, ap load c.put_at.ensures.lists, put_load c.args.chunks.now.lists c.args.home c.args.at c.args.pair c.requires.home c.requires.within)

pub returns-clause-room : goal.returns-clause-room
returns-clause-room g c = room_less _ _ _ _ (sym c.put_at.ensures.spare) (returns-clause-load g c)
