use Rattle.sorted_map.proofs.Common.{AllSome, [], ap, arith, flat, get_or, length, length-append, load, subst, sym, ◌+◌, ◌<◌, ◌∙◌}
use Rattle.sorted_map.proofs.FlatLaws.{flat_joined, some_at, some_set, some_remove}
use Rattle.sorted_map.proofs.RoomLaws.{room_joined, join_load}
use Rattle.sorted_map.proofs.chunks.edits.join.Goals as goal

pub returns-then-len-le-JOINED-clause-items : goal.returns-then-len-le-JOINED-clause-items
returns-then-len-le-JOINED-clause-items g c =
    let next : c.args.home + 1 < length c.args.chunks.now.lists = omega (arith, c.if-home-saturating_sub.true, c.saturating_sub.ensures, ap length c.row-row.ensures.row) in
    ap flat c.move_down.ensures.lists ∙ flat_joined c.args.chunks.now.lists c.args.home next

pub returns-then-len-le-JOINED-clause-some : goal.returns-then-len-le-JOINED-clause-some
returns-then-len-le-JOINED-clause-some g c =
    let cs = c.args.chunks.now.lists in
    let here : c.args.home < length cs = omega (arith, c.if-home-saturating_sub.true, c.saturating_sub.ensures, ap length c.row-row.ensures.row) in
    let both = length-append (get_or cs c.args.home []) (get_or cs (c.args.home + 1) []) in
    subst AllSome (sym c.move_down.ensures.lists) (some_set _ c.args.home _ (some_remove cs (c.args.home + 1) c.requires.some) (omega (arith, both, some_at cs c.args.home here c.requires.some)))

pub returns-then-len-le-JOINED-clause-room : goal.returns-then-len-le-JOINED-clause-room
returns-then-len-le-JOINED-clause-room g c =
    let old = c.args.chunks.now in
    let new = c.move_down.new.self in
    let row = c.row-row.result.now in
    let same = c.row-row.ensures.row in
    let next : c.args.home + 1 < length row = omega (arith, c.if-home-saturating_sub.true, c.saturating_sub.ensures) in
    let load_is = join_load old.lists c.args.home (omega (arith, next, ap length same)) in
    room_joined old.spare new.spare (load old.lists) (load new.lists) c.move_down.ensures.spare (omega (arith, ap load c.move_down.ensures.lists, load_is))
