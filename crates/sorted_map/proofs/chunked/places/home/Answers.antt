use Rattle.sorted_map.proofs.Common.{[], arith, get_or, length, starts_above, subst, sym, true, ◌+◌, ◌-◌, ◌/◌, ◌<◌, ◌≡◌, ◌⊎◌}
use Rattle.sorted_map.proofs.ChunkLaws.{got}
use Rattle.sorted_map.proofs.FlatLaws.{some_at}
use Rattle.sorted_map.proofs.HomeLaws.{home_found}
use Rattle.sorted_map.proofs.chunked.places.home.Goals as goal

pub starts_above-requires : goal.starts_above-requires
starts_above-requires g c =
    let x = c.index-chunks-middle.result in
    let lt : c.loop-high.low + (c.loop-high.high - c.loop-high.low) / 2 < length c.args.chunks.now = omega (arith, c.loop-high.invariant.within, c.loop-high-test.true) in
    subst (λ s. 0 < length s) (sym (got _ _ x [] lt c.index-chunks-middle.is)) (some_at _ _ lt c.requires.some)

pub returns-clause-home : goal.returns-clause-home
returns-clause-home g c =
    let s = c.loop-high.invariant in
    let high : c.loop-high.high ≡ c.loop-high.low + 1 = omega (arith, s.some, c.loop-high-test.false) in
    home_found g.met.K.Ord.total (g.Q.Probe.key c.args.q.now) c.args.chunks.now c.loop-high.low c.requires.sorted c.requires.some (omega (arith, s.some, s.within)) s.below
    (subst (λ n. (n ≡ length c.args.chunks.now) ⊎ (starts_above g.K.Ord.cmp (g.Q.Probe.key c.args.q.now) (get_or c.args.chunks.now n []) ≡ true)) high s.above)
