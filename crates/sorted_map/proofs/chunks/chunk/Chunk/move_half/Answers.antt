use Rattle.sorted_map.proofs.Common.{ap, arith, length, ◌∙◌, ◌≡◌}
use Rattle.sorted_map.proofs.ChunkLaws.{front_of, back_of}
use Rattle.sorted_map.proofs.chunks.chunk.Chunk.move_half.Goals as goal

pub returns-clause-kept : goal.returns-clause-kept
returns-clause-kept g c =
    let from = c.move_back.new.from in
    let len : length from.items ≡ 32 = omega (arith, from.ok.0, c.self.inside.pairs.ok.0, c.move_back.ensures.len, c.requires.full, ap length c.self.view_is) in
    front_of 32 _ _ _ len (c.move_back.ensures.whole ∙ c.self.view_is)

pub returns-clause-moved : goal.returns-clause-moved
returns-clause-moved g c =
    let from = c.move_back.new.from in
    let len : length from.items ≡ 32 = omega (arith, from.ok.0, c.self.inside.pairs.ok.0, c.move_back.ensures.len, c.requires.full, ap length c.self.view_is) in
    c.reverse.ensures.items ∙ back_of 32 _ _ _ len (c.move_back.ensures.whole ∙ c.self.view_is)
