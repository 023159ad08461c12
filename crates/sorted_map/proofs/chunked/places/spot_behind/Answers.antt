use Rattle.sorted_map.proofs.Common.{Err, Greater, IsGap, T, [], arith, drop, get_or, inl, inr, is_sorted, length, subst, suc, sym, zero, ◌-◌, ◌<◌, ◌∙◌, ◌≡◌}
use Rattle.std.proofs.Math.Seq.{drop-length}
use Rattle.sorted_map.proofs.ChunkLaws.{got}
use Rattle.sorted_map.proofs.FlatLaws.{not_none}
use Rattle.sorted_map.proofs.HomeLaws.{home_found, place_home, sorted_part}
use Rattle.sorted_map.proofs.PlaceLaws.{gap_behind, greater, starts_below}
use Rattle.sorted_map.proofs.chunked.places.spot_behind.Goals as goal

-- the key is above the last pair of the last chunk
pub returns-then-is_gt-clause-place : goal.returns-then-is_gt-clause-place
returns-then-is_gt-clause-place g c =
    let cs = c.args.chunks.now in
    let key = g.Q.Probe.key c.args.q.now in
    let some = not_none cs (sym c.is_empty.ensures ∙ c.if-is_empty.false) in
    let lt : length cs - 1 < length cs = omega (arith, some) in
    let es = c.pairs-pairs.result.now in
    let here = c.pairs-pairs.ensures.pairs ∙ got cs (length cs - 1) c.index-chunks-home.result [] lt c.index-chunks-home.is in
    let sorted = subst (λ s. T (is_sorted g.K.Ord.cmp s)) (sym here) (sorted_part g.K.Ord.cmp cs (length cs - 1) c.requires.sorted) in
    let i = length es - 1 in
    let next : length es ≡ suc i = omega (arith, c.if-at-gt0.true) in
    let x = c.index-pairs-at.result in
    let above : g.K.Ord.cmp key (get_or es i x).0 ≡ Greater = sym c.order.ensures ∙ greater _ (sym c.is_gt.ensures ∙ c.if-is_gt.true) in
    let rest : IsGap g.K.Ord.cmp key (drop (suc i) es) zero = subst (λ n. IsGap g.K.Ord.cmp key (drop n es) zero) next (subst (λ l. IsGap g.K.Ord.cmp key l zero) (sym (drop-length es)) tt) in
    let gap : IsGap g.K.Ord.cmp key es (length es) = subst (IsGap g.K.Ord.cmp key es) (sym next) (gap_behind g.met.K.Ord.total key es i x sorted (omega (arith, next)) above rest) in
    let there = subst (λ l. IsGap g.K.Ord.cmp key l (length es)) here gap in
    let from = starts_below g.met.K.Ord.total key (get_or cs (length cs - 1) []) i (subst (IsGap g.K.Ord.cmp key (get_or cs (length cs - 1) [])) next there) in
    let home = home_found g.met.K.Ord.total key cs (length cs - 1) c.requires.sorted c.requires.some lt (inr from) (inl (omega (arith, some))) in
    place_home g.K.Ord.cmp key cs (length cs - 1) (Err (length es)) home there
