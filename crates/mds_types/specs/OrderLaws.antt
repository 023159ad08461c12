-- Orders in which only equal values tie, as the types say of theirs.
use Rattle.std.specs.Prelude.{◌≡◌}
use Rattle.std.specs.Ordering.{nat_cmp}
use Rattle.std.specs.Cmp.Lexicographic.{slice_cmp}
use Rattle.std.specs.FinMap.{IsAntisymmetric, nat_cmp-IsAntisymmetric}
use Rattle.std.proofs.lemmas.Map.Lookups.{exact_unsigned, exact_bytes, exact_pairs}
use Rattle.mds_types.specs.declared.ids.Ino.{Ino}
use Rattle.mds_types.specs.Tree.{dentry_cmp}
use Rattle.mds_types.specs.Frag.{frag_cmp}

pub ino-exact : IsAntisymmetric (λ (a b : Ino). nat_cmp a.0 b.0)
ino-exact a b tied = let same = nat_cmp-IsAntisymmetric a.0 b.0 tied in λ i. record { 0 = same i }

pub name-exact : IsAntisymmetric (slice_cmp nat_cmp)
name-exact = exact_bytes

pub dentry-exact : IsAntisymmetric dentry_cmp
dentry-exact a b tied =
    let same : (a.dir.0, a.name) ≡ (b.dir.0, b.name) =
    exact_pairs nat_cmp (slice_cmp nat_cmp) exact_unsigned exact_bytes (a.dir.0, a.name) (b.dir.0, b.name) tied in
    λ i. record { dir = record { 0 = (same i).0 }; name = (same i).1 }

pub frag-exact : IsAntisymmetric frag_cmp
frag-exact a b tied =
    let same : (a.value, a.bits) ≡ (b.value, b.bits) =
    exact_pairs nat_cmp nat_cmp exact_unsigned exact_unsigned (a.value, a.bits) (b.value, b.bits) tied in
    λ i. record { bits = (same i).1; value = (same i).0 }
