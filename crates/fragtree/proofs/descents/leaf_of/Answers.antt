-- Each turn goes on to a fragment of more bits, 24 at most, and at one that isn't split the descent has ended.
use Rattle.fragtree.proofs.Common.{Fragment, ap, arith, contents, frag_of_hash, frag_cmp, subst, sym, ◌+◌, ◌∙◌}
use Rattle.fragtree.proofs.Steps.{ComesBy, started, goes_on, arrived}
use Rattle.fragtree.proofs.descents.leaf_of.Goals as goal

pub loop-nb-init : goal.loop-nb-init
loop-nb-init c = started (contents frag_cmp c.args.splits.now) c.args.hash c.requires.low c.requires.ends

pub overflow_add-bits : goal.overflow_add-bits
overflow_add-bits c = omega (arith, (goes_on _ c.requires.some _ _ c.loop-nb.invariant _ c.in-Some.ensures).0, c.bits.ensures.bits)

pub frag_at-leaf-requires-clause-few : goal.frag_at-leaf-requires-clause-few
frag_at-leaf-requires-clause-few c = omega (arith, (goes_on _ c.requires.some _ _ c.loop-nb.invariant _ c.in-Some.ensures).0, c.bits.ensures.bits)

pub loop-nb-smaller : goal.loop-nb-smaller
loop-nb-smaller c =
    let w = goes_on _ c.requires.some _ _ c.loop-nb.invariant _ c.in-Some.ensures in
    omega (arith, w.0, w.1, c.bits.ensures.bits, ap (λ (f : Fragment). f.bits) c.frag_at-leaf.ensures)

pub loop-nb-preserved : goal.loop-nb-preserved
loop-nb-preserved c =
    let w = goes_on _ c.requires.some _ _ c.loop-nb.invariant _ c.in-Some.ensures in
    subst (ComesBy (contents frag_cmp c.args.splits.now) c.args.hash) (sym (c.frag_at-leaf.ensures ∙ ap (λ b. frag_of_hash (b + c.in-Some.nb.now) c.args.hash) c.bits.ensures.bits)) w.2

pub returns : goal.returns
returns c = arrived (contents frag_cmp c.args.splits.now) c.requires.some c.args.hash c.loop-nb.leaf c.loop-nb.invariant c.in_default.ensures
