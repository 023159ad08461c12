use Rattle.sorted_map.proofs.Common.{[], ap, arith, drop, flat, length, length-drop, sym, take_rest, ◌++◌, ◌+◌, ◌∙◌}
use Rattle.sorted_map.proofs.ChunkLaws.{got, total_drop}
use Rattle.sorted_map.proofs.FlatLaws.{flat_drop, not_none, some_drop}
use Rattle.sorted_map.proofs.chunked.ranges.pairs_at.Goals as goal

pub of_chunks-requires : goal.of_chunks-requires
of_chunks-requires g c =
    let cs = c.args.row.now in
    let lt = c.requires.home (not_none cs (sym c.is_empty.ensures ∙ c.if-is_empty.false)) in
    let here = c.pairs.ensures.pairs ∙ got cs c.args.home c.index-row-home.result [] lt c.index-row-home.is in
    let front = take_rest c.pairs.result.now c.args.at in
    let behind = take_rest cs (c.args.home + 1) in
    let pairs = ap length here in
    rw (front, behind) (record {
      some = some_drop cs (c.args.home + 1) c.requires.some;
      fits = omega (arith, c.requires.fits, pairs, length-drop c.args.at c.pairs.result.now, total_drop cs c.args.home lt);
    })

pub returns : goal.returns
returns g c =
    let cs = c.args.row.now in
    let lt = c.requires.home (not_none cs (sym c.is_empty.ensures ∙ c.if-is_empty.false)) in
    let here = c.pairs.ensures.pairs ∙ got cs c.args.home c.index-row-home.result [] lt c.index-row-home.is in
    let front = take_rest c.pairs.result.now c.args.at ∙ ap (drop c.args.at) here in
    let behind = take_rest cs (c.args.home + 1) in
    c.of_chunks.ensures ∙ (λ i. front i ++ flat (behind i)) ∙ sym (flat_drop cs c.args.home c.args.at lt c.requires.within)
