-- Names that are none, and fragments of which all pass a test, or one fails.
use Rattle.mdcache.proofs.Common.{Bool, Fragment, HasLeaf, Inode, List, Names, None, Option, Some, [], and_parts, ap, arith, cond, false, find, get-entries, has_none, key_cmp, key_itself, later, len-entries, length, list_all, nat_tests, refl, rules, suc, sym, true, zero, ℕ, ◌&&◌, ◌∙◌, ◌∷◌, ◌≡◌}
use Rattle.std.specs.FinMap as map

-- what can have no value is none
pub none_unless : {X : Type 0} (o : Option X) → ((x : X) → o ≡ Some x → ⊥) → o ≡ None
none_unless o never = search rules

pub some_fails : (p : Fragment → Bool) (fs : List Fragment) → list_all p fs ≡ false → (f : Fragment) × HasLeaf fs f × (p f ≡ false)
some_fails p [] fails = let clash : true ≡ false = fails in absurd cc
some_fails p (f ∷ fs) fails = elim (p f) as (λ b. p f ≡ b → (b && list_all p fs) ≡ false → (g : Fragment) × HasLeaf (f ∷ fs) g × (p g ≡ false)) [
  | true ↦ λ is rest. let w = some_fails p fs rest in (w.0, later f w.0 fs w.1, w.2)
  | false ↦ λ is rest. (f, (zero, omega arith, refl), is)
] refl fails

pub all_pass : (p : Fragment → Bool) (fs : List Fragment) → list_all p fs ≡ true → (f : Fragment) → HasLeaf fs f → p f ≡ true
all_pass p [] holds f (k, within, is) = absurd (omega (arith, within))
all_pass p (g ∷ gs) holds f (zero, within, is) = ap p (sym is) ∙ (and_parts (p g) (list_all p gs) holds).0
all_pass p (g ∷ gs) holds f (suc k, within, is) = all_pass p gs (and_parts (p g) (list_all p gs) holds).1 f (k, omega (arith, within), is)

-- names that aren't none have a first
pub some_name : (names : Names) → has_none names ≡ false → (name : List ℕ) × (inode : Inode) × (map.get names name ≡ Some inode)
some_name names fails = elim (map.entries names) as (λ es. map.entries names ≡ es → (name : List ℕ) × (inode : Inode) × (map.get names name ≡ Some inode)) [
  | [] ↦ λ is.
      let none : map.len names ≡ 0 = len-entries names ∙ ap length is in
      absurd (grind (arith, nat_tests))
  | e ∷ es ↦ λ is. (e.0, e.1, get-entries names e.0 ∙ ap (find key_cmp e.0) is ∙ ap (λ (b : Bool). cond b (Some e.1) (find key_cmp e.0 es)) (key_itself e.0))
] refl

pub no_name : (names : Names) (name : List ℕ) → has_none names ≡ true → map.get names name ≡ None
no_name names name holds = elim (map.entries names) as (λ es. map.entries names ≡ es → map.get names name ≡ None) [
  | [] ↦ λ is. get-entries names name ∙ ap (find key_cmp name) is
  | e ∷ es ↦ λ is.
      let some : map.len names ≡ length (e ∷ es) = len-entries names ∙ ap length is in
      absurd (grind (arith, nat_tests))
] refl
