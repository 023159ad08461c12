-- The parts of an object after an operation.
use Rattle.std.specs.Prelude.{◌≡◌, ℕ, List, Option, Some, None, Bool, true, false, refl}
use Rattle.std.proofs.Common.{ap, sym, ◌∙◌}
use Rattle.std.specs.Option.{option_or}
use Rattle.std.specs.Cmp.Lexicographic.{nat_list_cmp_total}
use Rattle.std.specs.FinMap as map
use Rattle.std.specs.FinMap.{same_map, get-empty}
use Rattle.std.proofs.lemmas.Map.Lookups.{exact_bytes}
use Rattle.sorted_map.specs.Overlay.{overlaid, without_keys}
use Rattle.sorted_map.proofs.MapLaws.{get-overlaid}
use Rattle.objstore.specs.declared.write_ops.WriteOp.{WriteOp}
use Rattle.objstore.specs.Omap.{Omap, PairMap, key_cmp}
use Rattle.objstore.specs.Writes.{applied, header_after, pairs_before}

applied_by : (clear : Bool) (header : Option (List ℕ)) (op : WriteOp) (old : Omap) → op.clear ≡ clear → op.header ≡ header
    → applied op old ≡ record { header = header_after clear header old.header; pairs = without_keys (overlaid (pairs_before clear old.pairs) op.set) op.remove }
unfolding applied
applied_by true (Some header) op old is given = rw (is, given) refl
applied_by true None op old is given = rw (is, given) refl
applied_by false (Some header) op old is given = rw (is, given) refl
applied_by false None op old is given = rw (is, given) refl

-- the object after an operation, part by part
pub applied-parts : (op : WriteOp) (old : Omap)
    → applied op old ≡ record { header = header_after op.clear op.header old.header; pairs = without_keys (overlaid (pairs_before op.clear old.pairs) op.set) op.remove }
applied-parts op old = applied_by op.clear op.header op old refl refl

or_none : {A : Type 0} (o : Option A) → option_or o None ≡ o
or_none None = refl
or_none (Some x) = refl

-- pairs that are set in no others are the pairs
pub overlaid-empty : (set : PairMap) → overlaid map.empty set ≡ set
overlaid-empty set =
    same_map nat_list_cmp_total exact_bytes _ _ (λ q. get-overlaid nat_list_cmp_total map.empty set q ∙ ap (option_or (map.get set q)) (get-empty key_cmp q) ∙ or_none (map.get set q))

-- so an object of these parts is what the operation leaves
pub applied-by-parts : (op : WriteOp) (old : Omap) (header : List ℕ) (pairs : PairMap) → header ≡ header_after op.clear op.header old.header
    → pairs ≡ without_keys (overlaid (pairs_before op.clear old.pairs) op.set) op.remove → record { header = header; pairs = pairs } ≡ applied op old
applied-by-parts op old header pairs h p = (λ i. record { header = h i; pairs = p i }) ∙ sym (applied-parts op old)
