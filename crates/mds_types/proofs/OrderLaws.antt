-- The orders of dentries and fragments are total.
use Rattle.std.specs.Cmp.{IsTotalOrder, on_total, then_total, nat_cmp_total}
use Rattle.std.specs.Cmp.Lexicographic.{nat_list_cmp_total}
use Rattle.mds_types.specs.Tree.{dentry_cmp}
use Rattle.mds_types.specs.Frag.{frag_cmp}

pub dentry-total : IsTotalOrder dentry_cmp
dentry-total = then_total (on_total (λ p. p.dir.0) nat_cmp_total) (on_total (λ p. p.name) nat_list_cmp_total)

pub frag-total : IsTotalOrder frag_cmp
frag-total = then_total (on_total (λ f. f.value) nat_cmp_total) (on_total (λ f. f.bits) nat_cmp_total)
