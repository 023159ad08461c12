-- Finite maps whose keys are strings of bytes: what one answers after a change.
use Rattle.std.proofs.Common.{◌≡◌, ℕ, Bool, true, false, cond, ◌⊎◌, List, Some, None, refl, sym, ap, ◌∙◌, inl, inr}
use Rattle.std.proofs.lemmas.Map.Lookups.{exact_bytes}
use Rattle.std.proofs.lemmas.Bool.{false_from_ne_true}
use Rattle.std.specs.Prelude.{T}
use Rattle.std.specs.Ordering.{is_eq, eq_by_cmp}
use Rattle.std.specs.Cmp.{tied_itself}
use Rattle.std.specs.Cmp.Lexicographic.{nat_list_cmp_total}
use Rattle.std.specs.FinMap as map
use Rattle.std.specs.FinMap.{find, get-insert, get-remove, same_map}
use Rattle.std.specs.FinMap.Entries.{below_all}
use Rattle.mds_types.proofs.EntrySearch.{not_found_below}
use Rattle.objstore.specs.Omap.{key_cmp}
use Rattle.sorted_map.proofs.MapLaws.{tie}

pub key_tied : (a b : List ℕ) → eq_by_cmp key_cmp a b ≡ true → a ≡ b
key_tied a b tied = exact_bytes a b (tie (key_cmp a b) tied)

pub key_itself : (a : List ℕ) → eq_by_cmp key_cmp a a ≡ true
key_itself a = ap is_eq (tied_itself nat_list_cmp_total a)

pub key_same : (a b : List ℕ) → a ≡ b → eq_by_cmp key_cmp a b ≡ true
key_same a b same = ap (λ (k : List ℕ). eq_by_cmp key_cmp a k) (sym same) ∙ key_itself a

pub key_apart : (a b : List ℕ) → (a ≡ b → ⊥) → eq_by_cmp key_cmp a b ≡ false
key_apart a b apart = false_from_ne_true _ (λ tied. apart (key_tied a b tied))

pub same_or_apart : (a b : List ℕ) → (a ≡ b) ⊎ (a ≡ b → ⊥)
same_or_apart a b = go (eq_by_cmp key_cmp a b) refl
  where
    go : (t : Bool) → eq_by_cmp key_cmp a b ≡ t → (a ≡ b) ⊎ (a ≡ b → ⊥)
    go true tied = inl (key_tied a b tied)
    go false is = inr (λ same. let clash : true ≡ false = sym (key_same a b same) ∙ is in cc)

module _ {X : Type 0} (m : map.FinMap key_cmp X) (k : List ℕ) where
  pub get_put : (x : X) → map.get (map.insert m k x) k ≡ Some x
  get_put x = get-insert nat_list_cmp_total m k x k ∙ ap (λ b. cond b (Some x) (map.get m k)) (key_itself k)

  pub get_beside : (x : X) (q : List ℕ) → (q ≡ k → ⊥) → map.get (map.insert m k x) q ≡ map.get m q
  get_beside x q apart = get-insert nat_list_cmp_total m k x q ∙ ap (λ b. cond b (Some x) (map.get m q)) (key_apart q k apart)

  pub get_removed : map.get (map.remove m k) k ≡ None
  get_removed = get-remove nat_list_cmp_total m k k ∙ ap (λ b. cond b None (map.get m k)) (key_itself k)

  pub get_left : (q : List ℕ) → (q ≡ k → ⊥) → map.get (map.remove m k) q ≡ map.get m q
  get_left q apart = get-remove nat_list_cmp_total m k q ∙ ap (λ b. cond b None (map.get m q)) (key_apart q k apart)

-- a key below all others isn't found among them
pub not_found : {X : Type 0} (k q : List ℕ) (es : List (List ℕ × X)) → q ≡ k → T (below_all key_cmp k es) → find key_cmp q es ≡ None
not_found k q es same below = ap (λ (a : List ℕ). find key_cmp a es) same ∙ not_found_below nat_list_cmp_total k es below

-- maps that answer alike are one
pub one_map : {X : Type 0} (m n : map.FinMap key_cmp X) → ((q : List ℕ) → map.get m q ≡ map.get n q) → m ≡ n
one_map m n alike = same_map nat_list_cmp_total exact_bytes m n alike
