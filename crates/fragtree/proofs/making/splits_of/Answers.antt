-- Once all leaves are taken the splits spell them.
use Rattle.fragtree.proofs.Common.{Contains-get_or, HasLeaf, arith, contents, frag_cmp, subst, sym}
use Rattle.fragtree.proofs.Made.{all_led, made_spells, none_round, on_err, several}
use Rattle.fragtree.proofs.making.splits_of.Goals as goal

pub loop-leaf-init : goal.loop-leaf-init
loop-leaf-init c = record { are = none_round (contents frag_cmp c.new-splits.result) c.args.leaves.now c.new-splits.ensures.empty; led = λ j below. absurd (omega (arith, below)) }

pub returns : goal.returns
returns c = record {
  spelled =
      made_spells (contents frag_cmp c.loop-leaf.splits) c.args.leaves.now c.requires c.loop-leaf.invariant.are
      (all_led (contents frag_cmp c.loop-leaf.splits) c.args.leaves.now (λ j below. c.loop-leaf.invariant.led j (omega (arith, below, c.loop-leaf-test.false))));
  several = tt;
}

pub returns-in_err-split_round-clause-several : goal.returns-in_err-split_round-clause-several
returns-in_err-split_round-clause-several c =
    on_err c.from_residual.result
    (several c.args.leaves.now c.leaf-item.result c.requires
    (subst (HasLeaf c.args.leaves.now) (sym c.leaf-item.is) (Contains-get_or c.args.leaves.now c.loop-leaf.leaf-index c.leaf-item.result c.loop-leaf-test.true))
    c.in_err-split_round.ensures.some)
