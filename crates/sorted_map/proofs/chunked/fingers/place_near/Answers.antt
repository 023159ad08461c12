use Rattle.sorted_map.proofs.Common.{Equal, Greater, Less, [], get_or, length, subst, sym, ◌-◌, ◌<◌, ◌∙◌, ◌≡◌}
use Rattle.sorted_map.proofs.ChunkLaws.{got}
use Rattle.sorted_map.proofs.FingerLaws.{near_at, near_gap}
use Rattle.sorted_map.proofs.PlaceLaws.{greater}
use Rattle.sorted_map.proofs.chunked.fingers.place_near.Goals as goal

pub returns-in-Equal-clause-place : goal.returns-in-Equal-clause-place
returns-in-Equal-clause-place g c =
    let key = g.Q.Probe.key c.args.q.now in
    let x = c.index-pairs-at.result in
    let here = c.pairs-pairs.ensures.pairs ∙ got _ _ c.index-chunks-home.result [] c.requires.home c.index-chunks-home.is in
    near_at g.met.K.Ord.total key c.args.chunks.now c.args.home c.args.at x c.requires.sorted (subst (λ s. c.args.at < length s) here c.if-at-pairs.false)
    (subst (λ s. g.K.Ord.cmp key (get_or s c.args.at x).0 ≡ Equal) here (sym c.order.ensures ∙ c.in-Equal.is))

pub returns-in-Less-clause-place : goal.returns-in-Less-clause-place
returns-in-Less-clause-place g c =
    let key = g.Q.Probe.key c.args.q.now in
    let x = c.index-pairs-at.result in
    let y = c.index-pairs-at-then-at-gt0.result in
    let here = c.pairs-pairs.ensures.pairs ∙ got _ _ c.index-chunks-home.result [] c.requires.home c.index-chunks-home.is in
    near_gap g.met.K.Ord.total key c.args.chunks.now c.args.home c.args.at x c.requires.sorted (subst (λ s. c.args.at < length s) here c.if-at-pairs.false) y c.if-at-gt0.true
    (subst (λ s. g.K.Ord.cmp key (get_or s c.args.at x).0 ≡ Less) here (sym c.order.ensures ∙ c.in-Less.is))
    (subst (λ s. g.K.Ord.cmp key (get_or s (c.args.at - 1) y).0 ≡ Greater) here (sym c.order-then-at-gt0.ensures ∙ greater _ (sym c.is_gt.ensures ∙ c.if-is_gt.true)))
