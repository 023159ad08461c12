-- When two objects are one.
use Rattle.std.specs.Prelude.{◌≡◌, ◌==◌, Bool, ◌&&◌, refl}
use Rattle.std.specs.Bool.{Decides}
use Rattle.std.specs.Cmp.Lexicographic.{pointwise}
use Rattle.std.proofs.Common.{ap}
use Rattle.std.proofs.lemmas.Bool.Decides.{Decides-and}
use Rattle.std.proofs.lemmas.Slice.Eq.{bytes_eq-Decides, slice_eq-Decides}
use Rattle.std.specs.FinMap as map
use Rattle.std.specs.FinMap.{same_entries_map}
use Rattle.sorted_map.proofs.Decided.{pair_decides}
use Rattle.sorted_map.specs.SortedMap.{pairs_eq}
use Rattle.objstore.specs.Omap.{Omap, PairMap}

-- the same pairs
abbrev pub same_pairs : PairMap → PairMap → Bool
same_pairs a b = pointwise (pairs_eq (pointwise ◌==◌) (pointwise ◌==◌)) (map.entries a) (map.entries b)

-- the same header and the same pairs
abbrev pub same_omap : Omap → Omap → Bool
same_omap a b = pointwise ◌==◌ a.header b.header && same_pairs a.pairs b.pairs

pub omap_decides : (a b : Omap) → Decides (same_omap a b) (a ≡ b)
omap_decides a b =
    let told =
    slice_eq-Decides (pair_decides (pointwise ◌==◌) (pointwise ◌==◌) bytes_eq-Decides bytes_eq-Decides)
    (map.entries a.pairs) (map.entries b.pairs) (same_pairs a.pairs b.pairs) refl in
    let pairs : Decides (same_pairs a.pairs b.pairs) (a.pairs ≡ b.pairs) =
    (λ t. same_entries_map a.pairs b.pairs (told.0 t), λ e. told.1 (ap map.entries e)) in
    let both =
    Decides-and (pointwise ◌==◌ a.header b.header) (same_pairs a.pairs b.pairs)
    (bytes_eq-Decides a.header b.header) pairs in (
      λ t. let parts = both.0 t in λ i. record {
        header = parts.0 i;
        pairs =
            parts.1 i;
      },
      λ e. both.1 (ap (λ (o : Omap). o.header) e, ap (λ (o : Omap). o.pairs) e),
    )
