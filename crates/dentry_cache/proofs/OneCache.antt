-- What one rank's calls make of its places, as functions, and what is cached then.
use Rattle.std.proofs.Common.{◌≡◌, ◌<◌, ◌≤◌, ◌⊎◌, inl, inr, suc, Bool, true, false, cond, List, [], ◌∷◌, ◌++◌, is_some, length, nat_lt, option_map, Option, Some, None, refl, sym, ap, subst, ◌∙◌, arith}
use Rattle.std.proofs.lemmas.Bool.Decides.{nat_tests}
use Rattle.std.specs.List.{AllByRecursion, IsDistinct}
use Rattle.std.specs.Map.{keys_of, lookup, remove_entry, set_value}
use Rattle.std.proofs.lemmas.Map.{NonePasses, keys-set_value, length-set_value, lookup-set_value, none_passes_from_lookup}
use Rattle.std.proofs.lemmas.Map.Keys.{IsDistinct-cons, IsDistinct-head, IsDistinct-tail}
use Rattle.lru.specs.LruCache.{lru_cache}
use Rattle.cached_frag.specs.Cached.{Cached}
use Rattle.dentry_cache.specs.declared.cache.Place.{Place}
use Rattle.dentry_cache.specs.Cache.{Evicts, Held, IsFull, IsWritten, Leaf, MakesRoom, NoneGoes, Places, cached, fragment_in, held, leaf_is, may_go, used_as, without}
use Rattle.dentry_cache.specs.CacheMap.{last_by, or_this}
use Rattle.dentry_cache.proofs.CacheLaws.{after_removal, apart_later, remove_cut}
use Rattle.dentry_cache.proofs.UsedLaws.{after_use, freed}
use Rattle.dentry_cache.specs.Places.{IsCache}
use Rattle.dentry_cache.proofs.LeafLaws.{flips, leaf_equivalence, leaf_itself, one_leaf}

-- its fragment was changed so, where it stands
abbrev pub changed : Leaf → (Cached → Cached) → Option Cached → Held → Held
changed leaf g (Some f) old = lru_cache (set_value (leaf_is leaf) old.entries (held (g f))) old.cap
changed leaf g None old = old

-- the least recently used that may go is gone
abbrev pub dropped : Option Leaf → Held → Option Held
dropped stay old = option_map (λ (e : Leaf × Place). without e.0 old) (last_by (may_go stay) old.entries)

-- a place is free, or becomes so
abbrev pub room_made : Option Leaf → Held → Option Held
room_made stay old = cond (nat_lt (length old.entries) old.cap) (Some old) (dropped stay old)

-- a leaf has a place, or one is free
abbrev pub HasRoomFor : Leaf → Held → Type 0
HasRoomFor leaf old = (is_some (lookup (leaf_is leaf) old.entries) ≡ true) ⊎ (length old.entries < old.cap)

-- ---- look-ups

picked : (b : Bool) (place : Place) (o : Option Place) → fragment_in (cond b (Some place) o) ≡ cond b (fragment_in (Some place)) (fragment_in o)
picked true place o = refl
picked false place o = refl

pub cached_used : (leaf q : Leaf) (place : Place) (old : Held) → cached (used_as leaf place old).entries q ≡ cond (leaf_is q leaf) (fragment_in (Some place)) (cached old.entries q)
cached_used leaf q place old =
    ap (λ (o : Option Place). fragment_in o) (after_use leaf q place old) ∙ picked (leaf_is leaf q) place (lookup (leaf_is q) old.entries)
    ∙ ap (λ (b : Bool). cond b (fragment_in (Some place)) (cached old.entries q)) (flips leaf q)

pub cached_without : (leaf q : Leaf) (old : Held) → IsDistinct leaf_is (keys_of old.entries) → cached (without leaf old).entries q ≡ cond (leaf_is q leaf) None (cached old.entries q)
cached_without leaf q old distinct =
    ap (λ (o : Option Place). fragment_in o) (after_removal leaf q old.entries distinct) ∙ go (leaf_is leaf q) ∙ ap (λ (b : Bool). cond b None (cached old.entries q)) (flips leaf q)
  where
    go : (b : Bool) → fragment_in (cond b None (lookup (leaf_is q) old.entries)) ≡ cond b None (cached old.entries q)
    go true = refl
    go false = refl

pub cached_set : (leaf q : Leaf) (place : Place) (old : Held) → is_some (lookup (leaf_is leaf) old.entries) ≡ true → cached (set_value (leaf_is leaf) old.entries place) q ≡ cond (leaf_is q leaf) (fragment_in (Some place)) (cached old.entries q)
cached_set leaf q place old some =
    ap (λ (o : Option Place). fragment_in o) (lookup-set_value leaf_equivalence (leaf_is leaf) (λ x y same. ap (λ (a : Leaf). leaf_is a y) (one_leaf leaf x same)) q place old.entries some)
    ∙ picked (leaf_is leaf q) place (lookup (leaf_is q) old.entries) ∙ ap (λ (b : Bool). cond b (fragment_in (Some place)) (cached old.entries q)) (flips leaf q)

pub last_append : {A : Type 0} (test : A → Bool) (xs : List A) (ys : List A) → last_by test (xs ++ ys) ≡ or_this (last_by test ys) (last_by test xs)
last_append test [] ys = or_none (last_by test ys)
  where
    or_none : {A : Type 0} (o : Option A) → o ≡ or_this o None
    or_none (Some x) = refl
    or_none None = refl
last_append test (x ∷ xs) ys = ap (λ o. or_this o (cond (test x) (Some x) None)) (last_append test xs ys) ∙ or_assoc (last_by test ys) (last_by test xs) (cond (test x) (Some x) None)
  where
    or_assoc : {A : Type 0} (a b c : Option A) → or_this (or_this a b) c ≡ or_this a (or_this b c)
    or_assoc (Some x) b c = refl
    or_assoc None b c = refl

-- ---- what they are as functions

pub changed_by : (o : Option Cached) (g : Cached → Cached) (leaf : Leaf) (old new : Held) → IsWritten o (λ (f now : Cached). now ≡ g f) leaf old new → new ≡ changed leaf g o old
changed_by None g leaf old new c = absurd c
changed_by (Some f) g leaf old new c = c.2 ∙ ap (λ (now : Cached). lru_cache (set_value (leaf_is leaf) old.entries (held now)) old.cap) c.1

pub none_by : (stay : Option Leaf) (es : Places) → NoneGoes stay es → last_by (may_go stay) es ≡ None
none_by stay [] none = refl
none_by stay (e ∷ es) none = ap (λ (o : Option (Leaf × Place)). or_this o (cond (may_go stay e) (Some e) None)) (none_by stay es none.1) ∙ ap (λ b. cond b (Some e) None) none.0

module _ (stay : Option Leaf) (old new : Held) (distinct : IsDistinct leaf_is (keys_of old.entries)) where
  pub evicts_by : Evicts stay old new → dropped stay old ≡ Some new
  evicts_by e = ap (option_map (λ (x : Leaf × Place). without x.0 old)) last_is ∙ ap (λ (h : Held). Some h) (ap (λ (es : Places). lru_cache es old.cap) removed ∙ sym e.2)
    where
      last_is : last_by (may_go stay) old.entries ≡ Some (e.0, e.1.place)
      last_is =
          ap (last_by (may_go stay)) e.1.among ∙ last_append (may_go stay) e.1.later ((e.0, e.1.place) ∷ e.1.before)
          ∙ ap (λ (o : Option (Leaf × Place)). or_this (or_this o (cond (may_go stay (e.0, e.1.place)) (Some (e.0, e.1.place)) None)) (last_by (may_go stay) e.1.later)) (none_by stay e.1.before e.1.last)
          ∙ ap (λ b. or_this (cond b (Some (e.0, e.1.place)) None) (last_by (may_go stay) e.1.later)) e.1.goes

      removed : remove_entry (leaf_is e.0) old.entries ≡ e.1.later ++ e.1.before
      removed = ap (remove_entry (leaf_is e.0)) e.1.among ∙ remove_cut e.0 e.1.place e.1.later e.1.before (apart_later e.0 e.1.place e.1.later e.1.before (subst (λ (es : Places). IsDistinct leaf_is (keys_of es)) e.1.among distinct))

  pub makes_room_by : MakesRoom stay old new → room_made stay old ≡ Some new
  makes_room_by (inl free) = ap (λ b. cond b (Some old) (dropped stay old)) (lt_so free.0) ∙ ap (λ (h : Held). Some h) (sym free.1)
    where
      lt_so : length old.entries < old.cap → nat_lt (length old.entries) old.cap ≡ true
      lt_so lt = grind (arith, nat_tests, lt)
  makes_room_by (inr full) = ap (λ b. cond b (Some old) (dropped stay old)) (ge_so full.0) ∙ evicts_by full.1
    where
      ge_so : old.cap ≤ length old.entries → nat_lt (length old.entries) old.cap ≡ false
      ge_so le = grind (arith, nat_tests, le)

-- where a cache is full, no place becomes free
pub full_by : (stay : Option Leaf) (old : Held) → IsFull stay old → room_made stay old ≡ None
full_by stay old full =
    ap (λ b. cond b (Some old) (dropped stay old)) (ge_so full.taken) ∙ ap (option_map (λ (x : Leaf × Place). without x.0 old)) (none_by stay old.entries full.none)
  where
    ge_so : old.cap ≤ length old.entries → nat_lt (length old.entries) old.cap ≡ false
    ge_so le = grind (arith, nat_tests, le)

-- ---- no leaf has two places, and no more are taken than there are

length_removed : (leaf : Leaf) (es : Places) → is_some (lookup (leaf_is leaf) es) ≡ true → suc (length (remove_entry (leaf_is leaf) es)) ≡ length es
length_removed leaf [] some = let clash : false ≡ true = some in absurd cc
length_removed leaf (e ∷ es) some = go (λ there. length_removed leaf es there) (leaf_is leaf e.0) some
  where
    go : (is_some (lookup (leaf_is leaf) es) ≡ true → suc (length (remove_entry (leaf_is leaf) es)) ≡ length es) → (b : Bool) → is_some (cond b (Some e.1) (lookup (leaf_is leaf) es)) ≡ true
        → suc (length (cond b es (e ∷ remove_entry (leaf_is leaf) es))) ≡ suc (length es)
    go rest true some = refl
    go rest false some = ap suc (rest some)

removed_fewer : (leaf : Leaf) (es : Places) → length (remove_entry (leaf_is leaf) es) ≤ length es
removed_fewer leaf [] = omega arith
removed_fewer leaf (e ∷ es) = go (leaf_is leaf e.0) (removed_fewer leaf es)
  where
    go : (b : Bool) → length (remove_entry (leaf_is leaf) es) ≤ length es → length (cond b es (e ∷ remove_entry (leaf_is leaf) es)) ≤ suc (length es)
    go true fewer = omega arith
    go false fewer = omega (arith, fewer)

-- no leaf has two places where there are none
pub none_distinct : IsDistinct leaf_is []
unfolding IsDistinct
none_distinct = tt

all_removed : (P : Leaf → Type 0) (leaf : Leaf) (es : Places) → AllByRecursion P (keys_of es) → AllByRecursion P (keys_of (remove_entry (leaf_is leaf) es))
all_removed P leaf [] all = tt
all_removed P leaf (e ∷ es) all = go (leaf_is leaf e.0) (all_removed P leaf es all.1)
  where
    go : (b : Bool) → AllByRecursion P (keys_of (remove_entry (leaf_is leaf) es)) → AllByRecursion P (keys_of (cond b es (e ∷ remove_entry (leaf_is leaf) es)))
    go true rest = all.1
    go false rest = (all.0, rest)

distinct_removed : (leaf : Leaf) (es : Places) → IsDistinct leaf_is (keys_of es) → IsDistinct leaf_is (keys_of (remove_entry (leaf_is leaf) es))
distinct_removed leaf [] distinct = distinct
distinct_removed leaf (e ∷ es) distinct = go (leaf_is leaf e.0) (distinct_removed leaf es (IsDistinct-tail leaf_is e.0 (keys_of es) distinct))
  where
    go : (b : Bool) → IsDistinct leaf_is (keys_of (remove_entry (leaf_is leaf) es)) → IsDistinct leaf_is (keys_of (cond b es (e ∷ remove_entry (leaf_is leaf) es)))
    go true rest = IsDistinct-tail leaf_is e.0 (keys_of es) distinct
    go false rest = IsDistinct-cons leaf_is e.0 (keys_of (remove_entry (leaf_is leaf) es)) (all_removed (λ (y : Leaf). leaf_is e.0 y ≡ false) leaf es (IsDistinct-head leaf_is e.0 (keys_of es) distinct)) rest

keys_apart : (leaf : Leaf) (es : Places) → NonePasses (leaf_is leaf) es → AllByRecursion (λ (y : Leaf). leaf_is leaf y ≡ false) (keys_of es)
keys_apart leaf [] none = tt
keys_apart leaf (e ∷ es) none = (none.0, keys_apart leaf es none.1)

pub without_valid : (leaf : Leaf) (old : Held) → IsCache old → IsCache (without leaf old)
without_valid leaf old valid =
    let few = valid.fits in
    let fewer = removed_fewer leaf old.entries in
    record { distinct = distinct_removed leaf old.entries valid.distinct; fits = omega (arith, few, fewer) }

pub set_valid : (leaf : Leaf) (place : Place) (old : Held) → IsCache old → IsCache (lru_cache (set_value (leaf_is leaf) old.entries place) old.cap)
set_valid leaf place old valid =
    let few = valid.fits in
    let same : length (set_value (leaf_is leaf) old.entries place) ≡ length old.entries = length-set_value (leaf_is leaf) old.entries place in
    record { distinct = subst (IsDistinct leaf_is) (sym (keys-set_value (leaf_is leaf) old.entries place)) valid.distinct; fits = omega (arith, few, same) }

pub used_valid : (leaf : Leaf) (place : Place) (old : Held) → IsCache old → HasRoomFor leaf old → IsCache (used_as leaf place old)
used_valid leaf place old valid room = record {
  distinct = IsDistinct-cons leaf_is leaf (keys_of (remove_entry (leaf_is leaf) old.entries)) (keys_apart leaf (remove_entry (leaf_is leaf) old.entries) (none_passes_from_lookup (leaf_is leaf) (remove_entry (leaf_is leaf) old.entries) none)) (distinct_removed leaf old.entries valid.distinct);
  fits = fits room;
}
  where
    none : lookup (leaf_is leaf) (remove_entry (leaf_is leaf) old.entries) ≡ None
    none = after_removal leaf leaf old.entries valid.distinct ∙ ap (λ (b : Bool). cond b None (lookup (leaf_is leaf) old.entries)) (leaf_itself leaf)

    fits : HasRoomFor leaf old → suc (length (remove_entry (leaf_is leaf) old.entries)) ≤ old.cap
    fits (inl some) = let few = valid.fits in let one = length_removed leaf old.entries some in omega (arith, few, one)
    fits (inr free) = let fewer = removed_fewer leaf old.entries in omega (arith, free, fewer)

-- where a place became free, one is
pub room_then : (stay : Option Leaf) (old mid : Held) → MakesRoom stay old mid → length old.entries ≤ old.cap → length mid.entries < mid.cap
room_then stay old mid (inl same) few = subst (λ (h : Held). length h.entries < h.cap) (sym same.1) same.0
room_then stay old mid (inr went) few = freed stay old mid went.1 few
