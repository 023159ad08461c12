-- One fragment more is split.
use Rattle.fragtree.proofs.Common.{IsSplitRound, FragSplits, ap, contents, frag_of_hash, frag_cmp, subst, sym, ◌+◌, ◌∙◌}
use Rattle.std.specs.FinMap as map
use Rattle.fragtree.proofs.Made.{one_more}
use Rattle.fragtree.proofs.making.split_round.Goals as goal

pub loop-bits-preserved : goal.loop-bits-preserved
loop-bits-preserved c =
    let key = c.frag_at.ensures ∙ ap (frag_of_hash c.loop-bits.bits) c.value.ensures.value in
    let put = c.insert.ensures.inserted ∙ ap (λ g. map.insert (contents frag_cmp c.reserve.new.self) g 1) key ∙ ap (λ (m : FragSplits). map.insert m (frag_of_hash c.loop-bits.bits c.args.leaf.value) 1) c.reserve.ensures.same in
    subst (λ (m : FragSplits). IsSplitRound (contents frag_cmp c.args.splits.now) m c.args.leaf (c.loop-bits.bits + 1)) (sym put) (one_more (contents frag_cmp c.args.splits.now) (contents frag_cmp c.loop-bits.splits) c.args.leaf c.loop-bits.bits c.loop-bits.invariant)
