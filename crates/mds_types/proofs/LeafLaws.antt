-- Leaves as keys: their order, when two are one, and what a finite map answers after a change.
use Rattle.std.proofs.Common.{◌≡◌, Bool, true, false, cond, ◌&&◌, ◌⊎◌, inl, inr, Some, None, refl, sym, ap, ◌∙◌}
use Rattle.std.specs.Prelude.{◌==◌}
use Rattle.std.specs.Ordering.{eq_by_cmp, is_eq, nat_cmp}
use Rattle.std.specs.Cmp.{IsEquivalence, IsTotalOrder, nat_cmp_total, on_total, then_total, tied_itself}
use Rattle.std.specs.FinMap as map
use Rattle.std.specs.FinMap.{IsAntisymmetric, get-insert, get-remove}
use Rattle.std.proofs.lemmas.Map.Lookups.{exact_pairs}
use Rattle.std.proofs.lemmas.Bool.{and_from, and_parts, false_from_ne_true, eqb-true}
use Rattle.sorted_map.proofs.MapLaws.{tie}
use Rattle.sorted_map.proofs.NatKeys.{is_same}
use Rattle.mds_types.specs.declared.ids.Ino.{Ino}
use Rattle.mds_types.specs.Frag.{frag_cmp}
use Rattle.mds_types.specs.Leaf.{Leaf, leaf_cmp, leaf_is}
use Rattle.mds_types.specs.OrderLaws.{frag-exact, ino-exact}
use Rattle.mds_types.proofs.OrderLaws.{frag-total}

pub leaf-total : IsTotalOrder leaf_cmp
leaf-total = then_total (on_total (λ (l : Leaf). l.0.0) nat_cmp_total) (on_total (λ (l : Leaf). l.1) frag-total)

pub leaf-exact : IsAntisymmetric leaf_cmp
leaf-exact = exact_pairs (λ (a b : Ino). nat_cmp a.0 b.0) frag_cmp ino-exact frag-exact

-- the test of keys by their order
pub key_itself : (k : Leaf) → eq_by_cmp leaf_cmp k k ≡ true
key_itself k = ap is_eq (tied_itself leaf-total k)

pub tied_same : (a b : Leaf) → a ≡ b → eq_by_cmp leaf_cmp a b ≡ true
tied_same a b same = ap (eq_by_cmp leaf_cmp a) (sym same) ∙ key_itself a

pub tied_apart : (a b : Leaf) → (a ≡ b → ⊥) → eq_by_cmp leaf_cmp a b ≡ false
tied_apart a b apart = false_from_ne_true _ (λ tied. apart (leaf-exact a b (tie _ tied)))

-- two leaves are one, or they differ
pub same_or_apart : (a b : Leaf) → (a ≡ b) ⊎ (a ≡ b → ⊥)
same_or_apart a b = go (eq_by_cmp leaf_cmp a b) refl
  where
    go : (t : Bool) → eq_by_cmp leaf_cmp a b ≡ t → (a ≡ b) ⊎ (a ≡ b → ⊥)
    go true tied = inl (leaf-exact a b (tie _ tied))
    go false is = inr (λ same. let clash : true ≡ false = sym (tied_same a b same) ∙ is in cc)

-- the test of keys by their parts
pub one_leaf : (a b : Leaf) → leaf_is a b ≡ true → a ≡ b
one_leaf a b is =
    let rest : ((a.1.value == b.1.value) && (a.1.bits == b.1.bits)) ≡ true = (and_parts (a.0.0 == b.0.0) ((a.1.value == b.1.value) && (a.1.bits == b.1.bits)) is).1 in
    let dir : a.0.0 ≡ b.0.0 = eqb-true a.0.0 b.0.0 (and_parts (a.0.0 == b.0.0) ((a.1.value == b.1.value) && (a.1.bits == b.1.bits)) is).0 in
    let value : a.1.value ≡ b.1.value = eqb-true a.1.value b.1.value (and_parts (a.1.value == b.1.value) (a.1.bits == b.1.bits) rest).0 in
    let bits : a.1.bits ≡ b.1.bits = eqb-true a.1.bits b.1.bits (and_parts (a.1.value == b.1.value) (a.1.bits == b.1.bits) rest).1 in
    λ i. (record { 0 = dir i }, record { bits = bits i; value = value i })

pub leaf_itself : (a : Leaf) → leaf_is a a ≡ true
leaf_itself a = and_from (a.0.0 == a.0.0) ((a.1.value == a.1.value) && (a.1.bits == a.1.bits)) (is_same a.0.0 a.0.0 refl) (and_from (a.1.value == a.1.value) (a.1.bits == a.1.bits) (is_same a.1.value a.1.value refl) (is_same a.1.bits a.1.bits refl))

pub same_leaf : (a b : Leaf) → a ≡ b → leaf_is a b ≡ true
same_leaf a b same = ap (leaf_is a) (sym same) ∙ leaf_itself a

pub leaf_or_apart : (a b : Leaf) → (a ≡ b) ⊎ (leaf_is a b ≡ false)
leaf_or_apart a b = go (leaf_is a b) refl
  where
    go : (t : Bool) → leaf_is a b ≡ t → (a ≡ b) ⊎ (leaf_is a b ≡ false)
    go true is = inl (one_leaf a b is)
    go false is = inr is

-- both tests agree
pub tied_leaf : (a b : Leaf) → eq_by_cmp leaf_cmp a b ≡ leaf_is a b
tied_leaf a b = go (leaf_is a b) refl
  where
    go : (s : Bool) → leaf_is a b ≡ s → eq_by_cmp leaf_cmp a b ≡ s
    go true is = tied_same a b (one_leaf a b is)
    go false is = tied_apart a b (λ same. let clash : true ≡ false = sym (same_leaf a b same) ∙ is in cc)

pub flips : (a b : Leaf) → leaf_is a b ≡ leaf_is b a
flips a b = go (leaf_is b a) refl
  where
    go : (s : Bool) → leaf_is b a ≡ s → leaf_is a b ≡ s
    go true is = same_leaf a b (sym (one_leaf b a is))
    go false is = false_from_ne_true _ (λ same. let clash : true ≡ false = sym (same_leaf b a (sym (one_leaf a b same))) ∙ is in cc)

pub leaf_equivalence : IsEquivalence leaf_is
leaf_equivalence = record { refl = leaf_itself; symm = flips; congr = λ x y z e. ap (λ (a : Leaf). leaf_is a z) (one_leaf x y e) }

module _ {X : Type 0} (m : map.FinMap leaf_cmp X) (k : Leaf) where
  pub get_put : (x : X) → map.get (map.insert m k x) k ≡ Some x
  get_put x = get-insert leaf-total m k x k ∙ ap (λ b. cond b (Some x) (map.get m k)) (key_itself k)

  pub get_beside : (x : X) (q : Leaf) → (q ≡ k → ⊥) → map.get (map.insert m k x) q ≡ map.get m q
  get_beside x q apart = get-insert leaf-total m k x q ∙ ap (λ b. cond b (Some x) (map.get m q)) (tied_apart q k apart)

  pub get_removed : map.get (map.remove m k) k ≡ None
  get_removed = get-remove leaf-total m k k ∙ ap (λ b. cond b None (map.get m k)) (key_itself k)

  pub get_left : (q : Leaf) → (q ≡ k → ⊥) → map.get (map.remove m k) q ≡ map.get m q
  get_left q apart = get-remove leaf-total m k q ∙ ap (λ b. cond b None (map.get m q)) (tied_apart q k apart)
