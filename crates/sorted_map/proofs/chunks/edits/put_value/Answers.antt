use Rattle.sorted_map.proofs.Common.{AllSome, [], ap, arith, flat, get_or, length, length-set, load, room_by, set, items_before, subst, sym, ◌+◌, ◌∙◌, ◌≡◌}
use Rattle.sorted_map.proofs.ChunkLaws.{one_of}
use Rattle.sorted_map.proofs.FlatLaws.{flat_set, flat_get, some_set}
use Rattle.sorted_map.proofs.RoomLaws.{same_load}
use Rattle.sorted_map.proofs.chunks.edits.put_value.Goals as goal

pub returns-clause-items : goal.returns-clause-items
returns-clause-items g c = λ d.
    let cs = c.args.chunks.now.lists in
    ap flat (c.replaced.ensures.lists d) ∙ flat_set cs c.args.home c.args.at _ c.requires.home c.requires.within
    ∙ ap (λ x. set (flat cs) (items_before cs c.args.home + c.args.at) (x.0, c.args.value)) (sym (flat_get cs c.args.home c.args.at d c.requires.within))

pub returns-clause-value : goal.returns-clause-value
returns-clause-value g c = λ d. c.replaced.ensures.value d ∙ ap (λ x. x.1) (sym (flat_get c.args.chunks.now.lists c.args.home c.args.at d c.requires.within))

pub returns-clause-some : goal.returns-clause-some
returns-clause-some g c =
    let cs = c.args.chunks.now.lists in
    let chunk = get_or cs c.args.home [] in
    let d = one_of chunk c.args.at c.requires.within in
    let len = length-set chunk c.args.at ((get_or chunk c.args.at d).0, c.args.value) in
    subst AllSome (sym (c.replaced.ensures.lists d)) (some_set cs c.args.home _ c.requires.some (omega (arith, len, c.requires.within)))

pub returns-clause-room : goal.returns-clause-room
returns-clause-room g c =
    let cs = c.args.chunks.now.lists in
    let chunk = get_or cs c.args.home [] in
    let d = one_of chunk c.args.at c.requires.within in
    let new = set chunk c.args.at ((get_or chunk c.args.at d).0, c.args.value) in
    let len : length new ≡ length chunk = length-set chunk c.args.at ((get_or chunk c.args.at d).0, c.args.value) in
    let loads : load c.replaced.new.self.lists ≡ load cs = ap load (c.replaced.ensures.lists d) ∙ same_load cs c.args.home new len in
    (λ i. room_by (c.replaced.ensures.spare i) (loads i))
