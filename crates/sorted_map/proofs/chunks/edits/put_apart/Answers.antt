use Rattle.sorted_map.proofs.Common.{arith, insert, load, items_before, ◌+◌, ◌-◌, ◌∙◌, ◌≡◌}
use Rattle.sorted_map.proofs.RoomLaws.{split_facts, full_spare, room_apart}
use Rattle.sorted_map.proofs.chunks.edits.put_apart.Goals as goal

pub split-requires-clause-spare : goal.split-requires-clause-spare
split-requires-clause-spare g c = full_spare c.args.chunks.now.spare c.args.chunks.now.lists c.args.home c.requires.home c.requires.full c.requires.room

pub put_within-requires-clause-some : goal.put_within-requires-clause-some
put_within-requires-clause-some g c = (split_facts _ _ c.args.home c.requires.some c.requires.home c.requires.full c.split.ensures.lists).some

pub put_within-requires-clause-within : goal.put_within-requires-clause-within
put_within-requires-clause-within g c =
    let facts = split_facts _ _ c.args.home c.requires.some c.requires.home c.requires.full c.split.ensures.lists in
    omega (arith, facts.front, c.if-at-le-HALF.true)

pub put_within-requires-clause-few : goal.put_within-requires-clause-few
put_within-requires-clause-few g c =
    let facts = split_facts _ _ c.args.home c.requires.some c.requires.home c.requires.full c.split.ensures.lists in
    omega (arith, facts.front)

pub overflow_add-home : goal.overflow_add-home
overflow_add-home g c = omega (arith, c.requires.home, c.split.ensures.few)

pub put_within-requires-else-at-le-HALF-clause-some :
    goal.put_within-requires-else-at-le-HALF-clause-some
put_within-requires-else-at-le-HALF-clause-some g c = (split_facts _ _ c.args.home c.requires.some c.requires.home c.requires.full c.split.ensures.lists).some

pub put_within-requires-else-at-le-HALF-clause-within :
    goal.put_within-requires-else-at-le-HALF-clause-within
put_within-requires-else-at-le-HALF-clause-within g c =
    let facts = split_facts _ _ c.args.home c.requires.some c.requires.home c.requires.full c.split.ensures.lists in
    omega (arith, facts.back, c.requires.within)

pub put_within-requires-else-at-le-HALF-clause-few :
    goal.put_within-requires-else-at-le-HALF-clause-few
put_within-requires-else-at-le-HALF-clause-few g c =
    let facts = split_facts _ _ c.args.home c.requires.some c.requires.home c.requires.full c.split.ensures.lists in
    omega (arith, facts.back)

pub returns-then-at-le-HALF-clause-items : goal.returns-then-at-le-HALF-clause-items
returns-then-at-le-HALF-clause-items g c =
    let facts = split_facts _ _ c.args.home c.requires.some c.requires.home c.requires.full c.split.ensures.lists in
    c.put_within.ensures.items ∙ (λ i. insert (facts.same i) (facts.start_front i + c.args.at) c.args.pair)

pub returns-then-at-le-HALF-clause-room : goal.returns-then-at-le-HALF-clause-room
returns-then-at-le-HALF-clause-room g c =
    let old = c.args.chunks.now in
    let new = c.put_within.new.chunks in
    let facts = split_facts _ _ c.args.home c.requires.some c.requires.home c.requires.full c.split.ensures.lists in
    room_apart old.spare new.spare (load old.lists) (load new.lists) (omega (arith, c.split.ensures.spare, c.put_within.ensures.spare)) (omega (arith, facts.loads, c.put_within.ensures.load))

pub returns-else-at-le-HALF-clause-items : goal.returns-else-at-le-HALF-clause-items
returns-else-at-le-HALF-clause-items g c =
    let facts = split_facts _ _ c.args.home c.requires.some c.requires.home c.requires.full c.split.ensures.lists in
    let at : items_before c.split.new.self.lists (c.args.home + 1) + (c.args.at - 32) ≡ items_before c.args.chunks.now.lists c.args.home + c.args.at = omega (arith, facts.start_back, c.if-at-le-HALF.false) in
    c.put_within-else-at-le-HALF.ensures.items ∙ (λ i. insert (facts.same i) (at i) c.args.pair)

pub returns-else-at-le-HALF-clause-room : goal.returns-else-at-le-HALF-clause-room
returns-else-at-le-HALF-clause-room g c =
    let old = c.args.chunks.now in
    let new = c.put_within-else-at-le-HALF.new.chunks in
    let facts = split_facts _ _ c.args.home c.requires.some c.requires.home c.requires.full c.split.ensures.lists in
    room_apart old.spare new.spare (load old.lists) (load new.lists) (omega (arith, c.split.ensures.spare, c.put_within-else-at-le-HALF.ensures.spare)) (omega (arith, facts.loads, c.put_within-else-at-le-HALF.ensures.load))
