use Rattle.sorted_map.proofs.Common.{IsPlace, T, [], ap, arith, eqb-true, inl, inr, is_sorted, length, starts_above, subst, sym, ◌-◌, ◌<◌, ◌∙◌}
use Rattle.sorted_map.proofs.ChunkLaws.{got}
use Rattle.sorted_map.proofs.FlatLaws.{not_none, some_at}
use Rattle.sorted_map.proofs.HomeLaws.{home_found, place_home, place_none, sorted_part}
use Rattle.sorted_map.proofs.chunked.places.spot_from_end.Goals as goal

pub starts_above-requires : goal.starts_above-requires
starts_above-requires g c =
    let cs = c.args.chunks.now in
    let some = not_none cs (sym c.is_empty.ensures ∙ c.if-is_empty.false) in
    let lt : length cs - 1 < length cs = omega (arith, some) in
    subst (λ s. 0 < length s) (sym (got cs (length cs - 1) c.index-chunks-last.result [] lt c.index-chunks-last.is)) (some_at cs (length cs - 1) lt c.requires.some)

pub place_from_end-requires : goal.place_from_end-requires
place_from_end-requires g c =
    let cs = c.args.chunks.now in
    let some = not_none cs (sym c.is_empty.ensures ∙ c.if-is_empty.false) in
    let lt : length cs - 1 < length cs = omega (arith, some) in
    let here = c.pairs.ensures.pairs ∙ got cs (length cs - 1) c.index-chunks-last-2.result [] lt c.index-chunks-last-2.is in
    subst (λ s. T (is_sorted g.K.Ord.cmp s)) (sym here) (sorted_part g.K.Ord.cmp cs (length cs - 1) c.requires.sorted)

pub returns-then-is_empty-clause-place : goal.returns-then-is_empty-clause-place
returns-then-is_empty-clause-place g c = place_none g.K.Ord.cmp (g.Q.Probe.key c.args.q.now) c.args.chunks.now (eqb-true _ 0 (sym c.is_empty.ensures ∙ c.if-is_empty.true))

-- the last chunk doesn't start above the key, and none comes behind it
pub returns-clause-place : goal.returns-clause-place
returns-clause-place g c =
    let cs = c.args.chunks.now in
    let some = not_none cs (sym c.is_empty.ensures ∙ c.if-is_empty.false) in
    let lt : length cs - 1 < length cs = omega (arith, some) in
    let key = g.Q.Probe.key c.args.q.now in
    let first = got cs (length cs - 1) c.index-chunks-last.result [] lt c.index-chunks-last.is in
    let here = c.pairs.ensures.pairs ∙ got cs (length cs - 1) c.index-chunks-last-2.result [] lt c.index-chunks-last-2.is in
    let from = ap (starts_above g.K.Ord.cmp key) (sym first) ∙ sym c.starts_above.ensures ∙ c.if-starts_above.false in
    let home = home_found g.met.K.Ord.total key cs (length cs - 1) c.requires.sorted c.requires.some lt (inr from) (inl (omega (arith, some))) in
    place_home g.K.Ord.cmp key cs (length cs - 1) c.place_from_end.result home
    (subst (λ s. IsPlace g.K.Ord.cmp key s c.place_from_end.result) here c.place_from_end.ensures.place)
