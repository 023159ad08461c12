-- A split that the descent passes is led through, or halved where it passes over the fragment.
use Rattle.fragtree.proofs.Common.{AllSome, Descends, KeepsEnds, FragSplits, ap, arith, contents, frag_of_hash, frag_cmp, halved, is_some, splits_round, subst, sym, ◌+◌, ◌∙◌, ◌≡◌}
use Rattle.std.specs.FinMap as map
use Rattle.fragtree.proofs.Steps.{split_there, passes_on, halved_there}
use Rattle.fragtree.proofs.closing.lead_on.Goals as goal

pub split_at-nb-requires : goal.split_at-nb-requires
split_at-nb-requires c =
    let w = split_there (contents frag_cmp c.args.splits.now) c.requires.some c.args.f c.value.ensures.valid c.args.bits c.requires.before c.requires.passes c.requires.beyond in
    ap is_some (ap (map.get (contents frag_cmp c.args.splits.now)) (c.frag_at-passed.ensures ∙ ap (frag_of_hash c.args.bits) c.value.ensures.value) ∙ w.1)

pub returns-then-nb-bits-clause-passes : goal.returns-then-nb-bits-clause-passes
returns-then-nb-bits-clause-passes c =
    passes_on (contents frag_cmp c.args.splits.now) c.requires.some c.args.f c.value.ensures.valid c.args.bits c.requires.before c.requires.passes c.requires.beyond c.split_at-nb.result
    (ap (map.get (contents frag_cmp c.args.splits.now)) (sym (c.frag_at-passed.ensures ∙ ap (frag_of_hash c.args.bits) c.value.ensures.value)) ∙ c.split_at-nb.ensures)

-- what is halved is the split that the descent passes
led : (c : goal.After-halve)
    → KeepsEnds (contents frag_cmp c.args.splits.now) (contents frag_cmp c.halve.new.splits) × AllSome (contents frag_cmp c.halve.new.splits) × Descends (splits_round (contents frag_cmp c.halve.new.splits) c.args.f.value) (c.args.bits + 1) 0
led c =
    let old = contents frag_cmp c.args.splits.now in
    let nb = c.split_at-nb.result in
    let at : c.frag_at-passed.result ≡ frag_of_hash c.args.bits c.args.f.value = c.frag_at-passed.ensures ∙ ap (frag_of_hash c.args.bits) c.value.ensures.value in
    let is : contents frag_cmp c.halve.new.splits ≡ halved old (frag_of_hash c.args.bits c.args.f.value) nb = c.halve.ensures.halved ∙ ap (λ g. halved old g nb) at in
    let here = ap (map.get old) (sym at) ∙ c.split_at-nb.ensures in
    subst (λ (s : FragSplits). KeepsEnds old s × AllSome s × Descends (splits_round s c.args.f.value) (c.args.bits + 1) 0) (sym is)
    (halved_there old c.requires.some c.args.f c.value.ensures.valid c.args.bits c.requires.before c.requires.passes c.requires.beyond nb here (omega (arith, c.if-nb-bits.false, c.bits.ensures.bits)))

pub returns-clause-same : goal.returns-clause-same
returns-clause-same c = (led c).0

pub returns-clause-some : goal.returns-clause-some
returns-clause-some c = (led c).1

pub returns-clause-passes : goal.returns-clause-passes
returns-clause-passes c = (led c).2
