-- What a row of a table says, and the object or the pair that an operation makes of it.
use Rattle.std.proofs.Common.{◌≡◌, ℕ, Bool, false, cond, List, [], ◌∷◌, length, Option, Some, None, refl, sym, ap, subst, ◌∙◌, arith, is_some, option_copied, true≢false, Result, Ok, OnOk}
use Rattle.std.specs.Borrow.{Bor}
use Rattle.std.specs.Option.{option_or}
use Rattle.std.specs.Cmp.Lexicographic.{nat_list_cmp_total}
use Rattle.std.specs.FinMap as map
use Rattle.std.specs.FinMap.{get-empty, same_map}
use Rattle.std.proofs.lemmas.Map.Lookups.{exact_bytes}
use Rattle.sorted_map.specs.Overlay.{overlaid, without_keys}
use Rattle.sorted_map.proofs.MapLaws.{get-overlaid, get-without_keys}
use Rattle.objstore.specs.Omap.{PairMap, empty_omap, key_cmp}
use Rattle.objstore.specs.Objects.{Objects, written}
use Rattle.objstore.specs.Writes.{applied, nothing}
use Rattle.objstore.proofs.WriteLaws.{applied-parts}
use Rattle.sqlite_value.specs.declared.value.Value.{Value}
use Rattle.sqlite_value.specs.Order.{Row, column}

pub two_columns : (row : Row) (a b : Value) → length row ≡ 2 → column row 0 ≡ a → column row 1 ≡ b → row ≡ a ∷ b ∷ []
two_columns [] a b n p q = absurd (omega arith)
two_columns (x ∷ []) a b n p q = absurd (omega arith)
two_columns (x ∷ y ∷ []) a b n p q = let e : x ≡ a = p in let f : y ≡ b = q in cc
two_columns (x ∷ y ∷ z ∷ rest) a b n p q = absurd (omega arith)

pub three_columns : (row : Row) (a b c : Value) → length row ≡ 3 → column row 0 ≡ a → column row 1 ≡ b → column row 2 ≡ c → row ≡ a ∷ b ∷ c ∷ []
three_columns [] a b c n p q r = absurd (omega arith)
three_columns (x ∷ []) a b c n p q r = absurd (omega arith)
three_columns (x ∷ y ∷ []) a b c n p q r = absurd (omega arith)
three_columns (x ∷ y ∷ z ∷ []) a b c n p q r = let e : x ≡ a = p in let f : y ≡ b = q in let g : z ≡ c = r in cc
three_columns (x ∷ y ∷ z ∷ w ∷ rest) a b c n p q r = absurd (omega arith)

-- pairs that are laid over others, and none of which go
pub get_laid : (pairs set : PairMap) (q : List ℕ) → map.get (without_keys {W = Unit {0}} (overlaid pairs set) map.empty) q ≡ option_or (map.get set q) (map.get pairs q)
get_laid pairs set q =
    get-without_keys exact_bytes (overlaid pairs set) map.empty q
    ∙ (ap (λ (o : Option (Unit {0})). cond (is_some o) None (map.get (overlaid pairs set) q)) (get-empty key_cmp q)
    ∙ get-overlaid nat_list_cmp_total pairs set q)

pub header_applied : (header : List ℕ) → applied (record nothing { header = Some header }) empty_omap ≡ record { header = header; pairs = map.empty }
header_applied header =
    let pairs : without_keys {W = Unit {0}} (overlaid map.empty map.empty) map.empty ≡ map.empty {X = List ℕ} {R = key_cmp} =
    same_map nat_list_cmp_total exact_bytes _ _ (λ q. get_laid map.empty map.empty q ∙ rw (get-empty key_cmp) refl) in
    applied-parts (record nothing { header = Some header }) empty_omap ∙ (λ i. record { header = header; pairs = pairs i })

pub header_written : (old : Objects) (name header : List ℕ) → map.get old name ≡ None
    → written old name (record nothing { header = Some header }) ≡ map.insert old name (record { header = header; pairs = map.empty })
unfolding written
header_written old name header absent = rw absent (ap (map.insert old name) (header_applied header))

-- ---- what is known of a look

pub none_there : {X : Type 0} (o : Option (Bor X)) (p : Option X) → option_copied o ≡ p → (b : Bool) → b ≡ is_some o → b ≡ false → p ≡ None
none_there None p e b some f = sym e
none_there (Some x) p e b some f = absurd (true≢false (sym some ∙ f))

pub some_there : {X : Type 0} (o : Option (Bor X)) (x : Bor X) (p : Option X) → option_copied o ≡ p → o ≡ Some x → p ≡ Some x.now
some_there o x p e is = sym e ∙ ap option_copied is

pub on_this : {E : Type 0} (r : Result (Unit {0}) E) (P : Type 0) → r ≡ Ok tt → OnOk r P → P
on_this r P is on = subst (λ x. OnOk x P) is on
