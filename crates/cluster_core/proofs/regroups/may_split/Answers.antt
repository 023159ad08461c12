use Rattle.cluster_core.proofs.Common.{Covers, arith, false, leaves_of, length, subst, sym, true, ◌≡◌, ◌≤◌}
use Rattle.cluster_core.proofs.regroups.may_split.Goals as goal

pub returns-then-leaf_count-gt-MOST_LEAVES : goal.returns-then-leaf_count-gt-MOST_LEAVES
returns-then-leaf_count-gt-MOST_LEAVES g c = λ ranks. (
  λ told. let clash : false ≡ true = told in cc,
  λ both. let few = subst (λ (t : Covers). length (leaves_of t c.args.ino.0) ≤ 4089) (sym c.dirs.ensures.trees) both.0 in absurd (omega (arith, few, c.leaf_count.ensures, c.if-leaf_count-gt-MOST_LEAVES.true)),
)

pub returns : goal.returns
returns g c = λ ranks. (
  λ told. (subst (λ (t : Covers). length (leaves_of t c.args.ino.0) ≤ 4089) c.dirs.ensures.trees (omega (arith, c.leaf_count.ensures, c.if-leaf_count-gt-MOST_LEAVES.false)), (c.is_idle.ensures ranks).0 told),
  λ both. (c.is_idle.ensures ranks).1 both.1,
)
