use Rattle.sorted_map.proofs.Common.{[], ap, arith, flat, get_or, length, load, nil_from_length, sym, ◌∙◌}
use Rattle.sorted_map.proofs.FlatLaws.{flat_without, read_len, some_others}
use Rattle.sorted_map.proofs.RoomLaws.{room_joined, aside_load}
use Rattle.sorted_map.proofs.chunks.edits.tidy.Goals as goal

pub returns-then-len-eq0-clause-items : goal.returns-then-len-eq0-clause-items
returns-then-len-eq0-clause-items g c =
    let cs = c.args.chunks.now.lists in
    let len = read_len c.row.result.now cs c.args.home c.len.result c.index-row-home.result c.row.ensures.row (omega (arith, c.requires.home, ap length c.row.ensures.row)) c.index-row-home.is c.len.ensures.len in
    ap flat c.set_aside.ensures.lists ∙ flat_without cs c.args.home c.requires.home (nil_from_length (get_or cs c.args.home []) (sym len ∙ c.if-len-eq0.true))

pub returns-then-len-eq0-clause-room : goal.returns-then-len-eq0-clause-room
returns-then-len-eq0-clause-room g c =
    let old = c.args.chunks.now in
    let new = c.set_aside.new.self in
    room_joined old.spare new.spare (load old.lists) (load new.lists) c.set_aside.ensures.spare (omega (arith, ap load c.set_aside.ensures.lists, aside_load old.lists c.args.home c.requires.home))

pub join-requires : goal.join-requires
join-requires g c =
    let cs = c.args.chunks.now.lists in
    let len = read_len c.row.result.now cs c.args.home c.len.result c.index-row-home.result c.row.ensures.row (omega (arith, c.requires.home, ap length c.row.ensures.row)) c.index-row-home.is c.len.ensures.len in
    record { some = some_others cs c.args.home c.requires.others (omega (arith, len, c.if-len-eq0.false)) }
