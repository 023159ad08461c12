use Rattle.sorted_map.proofs.Common.{[], ap, arith, get_or, length, length-append, load, ◌∙◌, ◌∷◌, ◌≡◌}
use Rattle.sorted_map.proofs.FlatLaws.{get_end, put_in_new, flat_in_new, some_in_new}
use Rattle.sorted_map.proofs.RoomLaws.{last_spare, room_apart, new_load}
use Rattle.sorted_map.proofs.chunks.edits.put_behind.Goals as goal

pub open-requires : goal.open-requires
open-requires g c = last_spare c.args.chunks.now.spare c.args.chunks.now.lists c.args.home c.requires.last c.requires.half c.requires.room

pub put_at-requires-clause-home : goal.put_at-requires-clause-home
put_at-requires-clause-home g c = omega (arith, ap length c.row-next.ensures.row, ap length c.open.ensures.lists, length-append c.args.chunks.now.lists ([] ∷ []))

pub put_at-requires-clause-room : goal.put_at-requires-clause-room
put_at-requires-clause-room g c =
    let none : length (get_or c.open.new.self.lists (length c.row-next.result.now) []) ≡ 0 = ap (λ l. length (get_or l (length c.row-next.result.now) [])) c.open.ensures.lists ∙ ap length (get_end c.args.chunks.now.lists (length c.row-next.result.now) [] (ap length c.row-next.ensures.row)) in
    omega (arith, none)

pub returns-clause-items : goal.returns-clause-items
returns-clause-items g c =
    let cs = c.args.chunks.now.lists in
    flat_in_new cs _ c.args.home c.args.pair c.requires.last (put_in_new cs _ _ (length c.row-next.result.now) c.args.pair (ap length c.row-next.ensures.row) c.open.ensures.lists c.put_at.ensures.lists)

pub returns-clause-some : goal.returns-clause-some
returns-clause-some g c =
    let cs = c.args.chunks.now.lists in
    some_in_new cs _ c.args.pair c.requires.some (put_in_new cs _ _ (length c.row-next.result.now) c.args.pair (ap length c.row-next.ensures.row) c.open.ensures.lists c.put_at.ensures.lists)

pub returns-clause-room : goal.returns-clause-room
returns-clause-room g c =
    let old = c.args.chunks.now in
    let new = c.put_at.new.self in
    let is = put_in_new old.lists _ _ (length c.row-next.result.now) c.args.pair (ap length c.row-next.ensures.row) c.open.ensures.lists c.put_at.ensures.lists in
    room_apart old.spare new.spare (load old.lists) (load new.lists) (omega (arith, c.open.ensures.spare, c.put_at.ensures.spare)) (omega (arith, new_load old.lists new.lists c.args.home c.args.pair c.requires.last c.requires.half is))
