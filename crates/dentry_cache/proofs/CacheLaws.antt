-- What is cached once a place is taken, used, filled or given up.
use Rattle.std.proofs.Common.{List, ◌≡◌, Bool, true, false, cond, [], ◌∷◌, ◌++◌, Option, Some, None, refl, sym, ap, subst, ◌∙◌}
use Rattle.std.specs.List.{IsDistinct}
use Rattle.std.specs.Map.{keys_of, lookup, remove_entry}
use Rattle.std.specs.FinMap as finmap
use Rattle.std.specs.FinMap.{get-insert, get-remove}
use Rattle.std.proofs.lemmas.Map.{NonePasses, lookup-remove_entry}
use Rattle.lru.proofs.Splits.{all_left, distinct_differs}
use Rattle.lru.specs.LruCache.{lru_cache}
use Rattle.dentry_cache.specs.declared.cache.Place.{Place}
use Rattle.dentry_cache.specs.Cache.{Evicts, Held, IsOldest, Leaf, NoneGoes, Places, Unsaved, fragment_in, leaf_cmp, leaf_is, may_go, unsaved_in, with_unsaved}
use Rattle.dentry_cache.proofs.LeafLaws.{flips, leaf-total, leaf_equivalence, leaf_itself, one_leaf, tied_leaf}

-- ---- what isn't clean

pub unsaved_here : (m : finmap.FinMap leaf_cmp Unsaved) (leaf q : Leaf) (u : Option Unsaved) → finmap.get (with_unsaved m leaf u) q ≡ cond (leaf_is q leaf) u (finmap.get m q)
unsaved_here m leaf q (Some u) = get-insert leaf-total m leaf u q ∙ ap (λ (b : Bool). cond b (Some u) (finmap.get m q)) (tied_leaf q leaf)
unsaved_here m leaf q None = get-remove leaf-total m leaf q ∙ ap (λ (b : Bool). cond b None (finmap.get m q)) (tied_leaf q leaf)

either : (b : Bool) (place : Place) (rest : Option Place) → cond b (unsaved_in (fragment_in (Some place))) (unsaved_in (fragment_in rest)) ≡ unsaved_in (fragment_in (cond b (Some place) rest))
either true place rest = refl
either false place rest = refl

-- ---- a place among others

pub remove_cut : (leaf : Leaf) (place : Place) (later before : Places) → NonePasses (leaf_is leaf) later → remove_entry (leaf_is leaf) (later ++ (leaf, place) ∷ before) ≡ later ++ before
remove_cut leaf place [] before none = ap (λ (b : Bool). cond b before ((leaf, place) ∷ remove_entry (leaf_is leaf) before)) (leaf_itself leaf)
remove_cut leaf place (e ∷ later) before none =
    ap (λ (b : Bool). cond b (later ++ (leaf, place) ∷ before) (e ∷ remove_entry (leaf_is leaf) (later ++ (leaf, place) ∷ before))) none.0 ∙ ap (λ (es : Places). e ∷ es) (remove_cut leaf place later before none.1)

pub apart_later : (leaf : Leaf) (place : Place) (later before : Places) → IsDistinct leaf_is (keys_of (later ++ (leaf, place) ∷ before)) → NonePasses (leaf_is leaf) later
apart_later leaf place later before distinct =
    all_left (λ (e : Leaf × Place). leaf_is leaf e.0 ≡ false) later before (distinct_differs (λ (e : Leaf × Place). e.0) leaf_is flips later (leaf, place) before distinct)

one_class : (leaf x y : Leaf) → leaf_is leaf x ≡ true → leaf_is leaf y ≡ leaf_is x y
one_class leaf x y same = ap (λ (a : Leaf). leaf_is a y) (one_leaf leaf x same)

pub after_removal : {X : Type 0} (leaf q : Leaf) (places : List (Leaf × X)) → IsDistinct leaf_is (keys_of places) → lookup (leaf_is q) (remove_entry (leaf_is leaf) places) ≡ cond (leaf_is leaf q) None (lookup (leaf_is q) places)
after_removal leaf q places distinct = lookup-remove_entry leaf_equivalence (leaf_is leaf) (one_class leaf) q places distinct

-- ---- the oldest goes

module _ (stay : Option Leaf) (places : Places) (leaf : Leaf) (o : IsOldest stay places leaf) (distinct : IsDistinct leaf_is (keys_of places)) where
  none_later : NonePasses (leaf_is leaf) o.later
  none_later = apart_later leaf o.place o.later o.before (subst (λ (es : Places). IsDistinct leaf_is (keys_of es)) o.among distinct)

  pub oldest_removed : remove_entry (leaf_is leaf) places ≡ o.later ++ o.before
  oldest_removed = ap (remove_entry (leaf_is leaf)) o.among ∙ remove_cut leaf o.place o.later o.before none_later

module _ (stay : Option Leaf) (old mid new : Held) (leaf : Leaf) (same : mid ≡ old) (o : IsOldest stay old.entries leaf) (distinct : IsDistinct leaf_is (keys_of mid.entries))
    (is : new ≡ lru_cache (remove_entry (leaf_is leaf) mid.entries) mid.cap) where
  one_each : IsDistinct leaf_is (keys_of old.entries)
  one_each = subst (λ (h : Held). IsDistinct leaf_is (keys_of h.entries)) same distinct

  removed_now : new ≡ lru_cache (remove_entry (leaf_is leaf) old.entries) old.cap
  removed_now = is ∙ ap (λ (h : Held). lru_cache (remove_entry (leaf_is leaf) h.entries) h.cap) same

  pub evicted : Evicts stay old new
  evicted = (leaf, o, removed_now ∙ ap (λ (es : Places). lru_cache es old.cap) (oldest_removed stay old.entries leaf o one_each))

-- ---- the walk from the least recently used on

rejoined : (later : Places) (e : Leaf × Place) (walked : Places) → (later ++ e ∷ []) ++ walked ≡ later ++ e ∷ walked
rejoined [] e walked = refl
rejoined (x ∷ later) e walked = ap (λ (es : Places). x ∷ es) (rejoined later e walked)

pub oldest_found : (stay : Option Leaf) (all places rest : Places) (e : Leaf × Place) → (walked : Places) × (all ≡ places ++ walked) × NoneGoes stay walked → places ≡ rest ++ e ∷ [] → true ≡ may_go stay e → IsOldest stay all e.0
oldest_found stay all places rest e w split goes =
    record { later = rest; place = e.1; before = w.0; among = w.1 ∙ ap (λ (es : Places). es ++ w.0) split ∙ rejoined rest e w.0; goes = sym goes; last = w.2 }
