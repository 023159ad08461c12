use Rattle.cluster_core.proofs.Common.{Fragment, IsIdle, arith, cases_lt, child, child_of, false, inl, inr, is_fragment, leaves_of, refl, rules, sight_of, subst, sym, tree_of_row, true, ℕ, ◌∙◌, ◌≡◌}
use Rattle.cluster_core.proofs.regroups.may_merge.Goals as goal

pub returns-in_default : goal.returns-in_default
returns-in_default g c = λ ranks. (
  λ told. let clash : false ≡ true = told in cc,
  λ idle.
      let t = c.args.tree.now.tree in
      let cover = tree_of_row t.homes t.covers c.is_sound.ensures.owned.sound.sound.table c.args.ino.0 in
      let its = is_fragment (leaves_of t.covers c.args.ino.0) (child_of c.args.frag c.loop-i.i 3) cover (idle c.loop-i.i (omega (arith, c.loop-i-test.true))).own.live.stands in
      absurd (c.in_default.ensures (its.few_bits, omega (arith, c.loop-i-test.true))),
)

pub returns-then-not-is_idle : goal.returns-then-not-is_idle
returns-then-not-is_idle g c = λ ranks. (
  λ told. let clash : false ≡ true = told in cc,
  λ idle.
      let s = sight_of c.args.tree.now c.args.grants.now ranks c.args.rank in
      let off : c.is_idle.result ≡ false = search rules in
      let its = subst (λ (f : Fragment). IsIdle s (c.args.ino, f)) (sym c.in-Some.ensures.1) (idle c.loop-i.i (omega (arith, c.loop-i-test.true))) in
      let clash : true ≡ false = sym ((c.is_idle.ensures ranks).1 its) ∙ off in cc,
)

pub loop-i-preserved : goal.loop-i-preserved
loop-i-preserved g c = λ ranks j lt.
    let s = sight_of c.args.tree.now c.args.grants.now ranks c.args.rank in
    let on : c.is_idle.result ≡ true = search rules in
    elim (cases_lt j c.loop-i.i) [
      | inl under ↦ c.loop-i.invariant ranks j under
      | inr beyond ↦
          let same : c.loop-i.i ≡ j = omega (arith, lt, beyond) in
          subst (λ (n : ℕ). IsIdle s (child (c.args.ino, c.args.frag) n)) same (subst (λ (f : Fragment). IsIdle s (c.args.ino, f)) c.in-Some.ensures.1 ((c.is_idle.ensures ranks).0 on))
    ]

pub returns : goal.returns
returns g c = λ ranks. (λ told i lt. c.loop-i.invariant ranks i (omega (arith, lt, c.loop-i-test.false)), λ idle. refl)
