-- What is in each place once one of them is used, taken or given up.
use Rattle.std.proofs.Common.{◌≡◌, ℕ, ◌+◌, ◌-◌, ◌<◌, ◌≤◌, Bool, true, false, cond, inl, inr, [], ◌∷◌, ◌++◌, List, length, take, Option, Some, None, refl, sym, ap, subst, ◌∙◌, arith}
use Rattle.std.specs.Prelude.{Result, Ok, Err, IfErr, OnOk, OnErr, is_some, ◌==◌}
use Rattle.std.specs.Option.{option_map_or}
use Rattle.std.specs.Map.{lookup, lookup_entry, remove_entry, set_value}
use Rattle.std.specs.FinMap.{len-empty}
use Rattle.std.proofs.lemmas.List.{length-append, take_all}
use Rattle.std.proofs.lemmas.Map.{NonePasses, lookup-none, none_passes_from_lookup}
use Rattle.lru.proofs.Splits.{all_both, all_left, all_right}
use Rattle.lru.specs.LruCache.{LruCache, lru_cache, promoted, put_entries}
use Rattle.mds_types.specs.Frag.{Fragment}
use Rattle.mds_types.specs.declared.refusals.Refusal.{Refusal}
use Rattle.mds_types.specs.declared.refusals.Refusal.TheVariants.{NoMemory, NothingToEvict}
use Rattle.objstore.specs.Omap.{Omap, key_cmp}
use Rattle.cached_frag.specs.declared.marks.Mark.{Mark}
use Rattle.cached_frag.specs.Cached.{Cached, is_clean}
use Rattle.dentry_cache.specs.Loading.{Loads}
use Rattle.dentry_cache.specs.declared.cache.Place.{Place}
use Rattle.dentry_cache.specs.Cache.{Evicts, Held, IsTouched, Leaf, MakesRoom, MayMakeRoom, Places, TakesPlace, fragment_in, held, is_kept, leaf_is, unsaved_in, used_as}
use Rattle.dentry_cache.specs.Fetches.{IsFetched, IsNotFetched, IsRefusedIn}
use Rattle.dentry_cache.proofs.LeafLaws.{flips, leaf_itself, one_leaf}

-- ---- look-ups

pub entry_of_lookup : {X : Type 0} (leaf : Leaf) (places : List (Leaf × X)) (place : X) → lookup (leaf_is leaf) places ≡ Some place → lookup_entry (leaf_is leaf) places ≡ Some (leaf, place)
entry_of_lookup leaf [] place is = cc
entry_of_lookup leaf (e ∷ es) place is = go (entry_of_lookup leaf es place) (leaf_is leaf e.0) refl is
  where
    go : (lookup (leaf_is leaf) es ≡ Some place → lookup_entry (leaf_is leaf) es ≡ Some (leaf, place)) → (b : Bool) → leaf_is leaf e.0 ≡ b → cond b (Some e.1) (lookup (leaf_is leaf) es) ≡ Some place
        → cond b (Some e) (lookup_entry (leaf_is leaf) es) ≡ Some (leaf, place)
    go rest true same is =
        let value : e.1 ≡ place = cc in
        let key : e.0 ≡ leaf = sym (one_leaf leaf e.0 same) in
        λ i. Some (key i, value i)
    go rest false same is = rest is

no_entry : {X : Type 0} (leaf : Leaf) (places : List (Leaf × X)) → lookup (leaf_is leaf) places ≡ None → lookup_entry (leaf_is leaf) places ≡ None
no_entry leaf [] is = refl
no_entry leaf (e ∷ es) is = go (no_entry leaf es) (leaf_is leaf e.0) is
  where
    go : (lookup (leaf_is leaf) es ≡ None → lookup_entry (leaf_is leaf) es ≡ None) → (b : Bool) → cond b (Some e.1) (lookup (leaf_is leaf) es) ≡ None → cond b (Some e) (lookup_entry (leaf_is leaf) es) ≡ None
    go rest true is = cc
    go rest false is = rest is

pub beside_removal : {X : Type 0} (leaf q : Leaf) (places : List (Leaf × X)) → leaf_is leaf q ≡ false → lookup (leaf_is q) (remove_entry (leaf_is leaf) places) ≡ lookup (leaf_is q) places
beside_removal leaf q [] apart = refl
beside_removal leaf q (e ∷ es) apart = go (beside_removal leaf q es apart) (leaf_is leaf e.0) refl
  where
    go : lookup (leaf_is q) (remove_entry (leaf_is leaf) es) ≡ lookup (leaf_is q) es → (b : Bool) → leaf_is leaf e.0 ≡ b
        → lookup (leaf_is q) (cond b es (e ∷ remove_entry (leaf_is leaf) es)) ≡ cond (leaf_is q e.0) (Some e.1) (lookup (leaf_is q) es)
    go rest true same =
        let other : leaf_is q e.0 ≡ false = ap (leaf_is q) (sym (one_leaf leaf e.0 same)) ∙ flips q leaf ∙ apart in
        sym (ap (λ (b : Bool). cond b (Some e.1) (lookup (leaf_is q) es)) other)
    go rest false same = ap (cond (leaf_is q e.0) (Some e.1)) rest

-- ---- a place that is used

pub after_use : (leaf q : Leaf) (place : Place) (old : Held) → lookup (leaf_is q) (used_as leaf place old).entries ≡ cond (leaf_is leaf q) (Some place) (lookup (leaf_is q) old.entries)
after_use leaf q place old = go (leaf_is leaf q) refl
  where
    go : (b : Bool) → leaf_is leaf q ≡ b → cond (leaf_is q leaf) (Some place) (lookup (leaf_is q) (remove_entry (leaf_is leaf) old.entries)) ≡ cond b (Some place) (lookup (leaf_is q) old.entries)
    go true is = ap (λ (b : Bool). cond b (Some place) (lookup (leaf_is q) (remove_entry (leaf_is leaf) old.entries))) (flips q leaf ∙ is)
    go false is = ap (λ (b : Bool). cond b (Some place) (lookup (leaf_is q) (remove_entry (leaf_is leaf) old.entries))) (flips q leaf ∙ is) ∙ beside_removal leaf q old.entries is

pub promoted_is : {X : Type 0} (leaf : Leaf) (place : X) (places : List (Leaf × X)) → lookup (leaf_is leaf) places ≡ Some place → promoted (leaf_is leaf) places ≡ (leaf, place) ∷ remove_entry (leaf_is leaf) places
promoted_is {X} leaf place places is = ap (λ (o : Option (Leaf × X)). option_map_or (λ e. e ∷ remove_entry (leaf_is leaf) places) o places) (entry_of_lookup leaf places place is)

pub not_promoted : {X : Type 0} (leaf : Leaf) (places : List (Leaf × X)) → lookup (leaf_is leaf) places ≡ None → promoted (leaf_is leaf) places ≡ places
not_promoted {X} leaf places is = ap (λ (o : Option (Leaf × X)). option_map_or (λ e. e ∷ remove_entry (leaf_is leaf) places) o places) (no_entry leaf places is)

-- a place is there whether it is brought to the front or not
pub found_promoted : {X : Type 0} (leaf : Leaf) (places : List (Leaf × X)) → lookup (leaf_is leaf) (promoted (leaf_is leaf) places) ≡ lookup (leaf_is leaf) places
found_promoted {X} leaf places = go (lookup (leaf_is leaf) places) refl
  where
    go : (o : Option X) → lookup (leaf_is leaf) places ≡ o → lookup (leaf_is leaf) (promoted (leaf_is leaf) places) ≡ lookup (leaf_is leaf) places
    go (Some place) is = ap (lookup (leaf_is leaf)) (promoted_is leaf place places is) ∙ ap (λ (b : Bool). cond b (Some place) (lookup (leaf_is leaf) (remove_entry (leaf_is leaf) places))) (leaf_itself leaf) ∙ sym is
    go None is = ap (lookup (leaf_is leaf)) (not_promoted leaf places is)

-- every leaf's place is found as before
pub all_promoted : {X : Type 0} (leaf q : Leaf) (places : List (Leaf × X)) → lookup (leaf_is q) (promoted (leaf_is leaf) places) ≡ lookup (leaf_is q) places
all_promoted {X} leaf q places = go (leaf_is leaf q) refl (lookup (leaf_is leaf) places) refl
  where
    go : (b : Bool) → leaf_is leaf q ≡ b → (o : Option X) → lookup (leaf_is leaf) places ≡ o → lookup (leaf_is q) (promoted (leaf_is leaf) places) ≡ lookup (leaf_is q) places
    go true same o is = subst (λ (l : Leaf). lookup (leaf_is l) (promoted (leaf_is leaf) places) ≡ lookup (leaf_is l) places) (one_leaf leaf q same) (found_promoted leaf places)
    go false apart None is = ap (lookup (leaf_is q)) (not_promoted leaf places is)
    go false apart (Some place) is =
        ap (lookup (leaf_is q)) (promoted_is leaf place places is) ∙ ap (λ (b : Bool). cond b (Some place) (lookup (leaf_is q) (remove_entry (leaf_is leaf) places))) (flips q leaf ∙ apart)
        ∙ beside_removal leaf q places apart

pub is_used : (leaf : Leaf) (old mid new : Held) (there : Bool) → mid ≡ old → there ≡ is_some (lookup (leaf_is leaf) mid.entries) → new ≡ lru_cache (promoted (leaf_is leaf) mid.entries) mid.cap
    → IsTouched (lookup (leaf_is leaf) old.entries) leaf old new there
is_used leaf old mid new there same told is = go (lookup (leaf_is leaf) old.entries) refl
  where
    now : new ≡ lru_cache (promoted (leaf_is leaf) old.entries) old.cap
    now = is ∙ ap (λ (h : Held). lru_cache (promoted (leaf_is leaf) h.entries) h.cap) same

    said : there ≡ is_some (lookup (leaf_is leaf) old.entries)
    said = told ∙ ap (λ (h : Held). is_some (lookup (leaf_is leaf) h.entries)) same

    go : (o : Option Place) → lookup (leaf_is leaf) old.entries ≡ o → IsTouched o leaf old new there
    go (Some place) found = (said ∙ ap (λ (o : Option Place). is_some o) found, now ∙ ap (λ (es : Places). lru_cache es old.cap) (promoted_is leaf place old.entries found))
    go None found = (said ∙ ap (λ (o : Option Place). is_some o) found, now ∙ ap (λ (es : Places). lru_cache es old.cap) (not_promoted leaf old.entries found))

pub was_absent : (leaf : Leaf) (old new : Held) (there : Bool) (o : Option Place) → IsTouched o leaf old new there → there ≡ false → o ≡ None
was_absent leaf old new there (Some place) u is = let clash : true ≡ false = sym u.0 ∙ is in cc
was_absent leaf old new there None u is = refl

pub was_there : (leaf : Leaf) (old new : Held) (there : Bool) (o : Option Place) → IsTouched o leaf old new there → there ≡ true → is_some o ≡ true
was_there leaf old new there (Some place) u is = refl
was_there leaf old new there None u is = let clash : false ≡ true = sym u.0 ∙ is in absurd cc

pub left_alone : (leaf : Leaf) (old new : Held) (there : Bool) (o : Option Place) → IsTouched o leaf old new there → there ≡ false → new ≡ old
left_alone leaf old new there (Some place) u is = let clash : true ≡ false = sym u.0 ∙ is in absurd cc
left_alone leaf old new there None u is = u.1

-- ---- a place that is free

pub freed : (stay : Option Leaf) (old new : Held) → Evicts stay old new → length old.entries ≤ old.cap → length new.entries < new.cap
freed stay old new e few =
    let o = e.1 in
    let was : length old.entries ≡ length o.later + length ((e.0, o.place) ∷ o.before) = ap (length {A = Leaf × Place}) o.among ∙ length-append o.later ((e.0, o.place) ∷ o.before) in
    let now : length new.entries ≡ length o.later + length o.before = ap (λ (h : Held). length h.entries) e.2 ∙ length-append o.later o.before in
    let cap : new.cap ≡ old.cap = ap (λ (h : Held). h.cap) e.2 in
    omega (arith, was, now, cap, few)

absent_then : (stay : Option Leaf) (old mid : Held) (leaf : Leaf) → Evicts stay old mid → lookup (leaf_is leaf) old.entries ≡ None → lookup (leaf_is leaf) mid.entries ≡ None
absent_then stay old mid leaf e none =
    let o = e.1 in
    let passes : NonePasses (leaf_is leaf) (o.later ++ (e.0, o.place) ∷ o.before) = subst (NonePasses (leaf_is leaf)) o.among (none_passes_from_lookup (leaf_is leaf) old.entries none) in
    let P : Leaf × Place → Type 0 = λ x. leaf_is leaf x.0 ≡ false in
    ap (λ (h : Held). lookup (leaf_is leaf) h.entries) e.2
    ∙ lookup-none (leaf_is leaf) (o.later ++ o.before) (all_both P o.later o.before (all_left P o.later ((e.0, o.place) ∷ o.before) passes) (all_right P o.later ((e.0, o.place) ∷ o.before) passes).1)

pub still_absent : (stay : Option Leaf) (old mid : Held) (leaf : Leaf) → MakesRoom stay old mid → lookup (leaf_is leaf) old.entries ≡ None → lookup (leaf_is leaf) mid.entries ≡ None
still_absent stay old mid leaf (inl same) none = ap (λ (h : Held). lookup (leaf_is leaf) h.entries) same.1 ∙ none
still_absent stay old mid leaf (inr gone) none = absent_then stay old mid leaf gone.1 none

pub same_cap : (stay : Option Leaf) (old mid : Held) → MakesRoom stay old mid → mid.cap ≡ old.cap
same_cap stay old mid (inl same) = ap (λ (h : Held). h.cap) same.1
same_cap stay old mid (inr gone) = ap (λ (h : Held). h.cap) gone.1.2

pub placed : {X : Type 0} (leaf : Leaf) (place : X) (old mid new : LruCache Leaf X) → mid ≡ old → lookup (leaf_is leaf) old.entries ≡ None → length old.entries < old.cap
    → new ≡ lru_cache (put_entries leaf_is mid leaf place) mid.cap → new ≡ lru_cache ((leaf, place) ∷ old.entries) old.cap
placed {X} leaf place old mid new same none room is =
    is ∙ ap (λ (h : LruCache Leaf X). lru_cache (put_entries leaf_is h leaf place) h.cap) same
    ∙ ap (λ (o : Option (Leaf × X)). lru_cache (option_map_or (λ e. (e.0, place) ∷ remove_entry (leaf_is leaf) old.entries) o ((leaf, place) ∷ take (old.cap - 1) old.entries)) old.cap) (no_entry leaf old.entries none)
    ∙ ap (λ (es : List (Leaf × X)). lru_cache ((leaf, place) ∷ es) old.cap) (take_all (old.cap - 1) old.entries (omega (arith, room)))

pub takes : (stay : Option Leaf) (leaf : Leaf) (place : Place) (old mid new : Held) → MakesRoom stay old mid → new ≡ lru_cache ((leaf, place) ∷ mid.entries) mid.cap → TakesPlace stay leaf place old new
takes stay leaf place old mid new room is = (mid, room, is ∙ ap (λ (n : ℕ). lru_cache ((leaf, place) ∷ mid.entries) n) (same_cap stay old mid room))

pub left_with : (stay : Option Leaf) (old mid new : Held) → MakesRoom stay old mid → new ≡ mid → MayMakeRoom stay old new
left_with stay old mid new room is = inr (subst (MakesRoom stay old) (sym is) room)

-- ---- a clean fragment changes nothing of what isn't clean

pub loaded_clean : (frag : Fragment) (object : Option Omap) (f : Cached) → Loads frag object (Some f) → unsaved_in (fragment_in (Some (held f))) ≡ None
loaded_clean frag None f h = absurd h
loaded_clean frag (Some object) f h =
    let clean : is_clean f ≡ true = ap is_clean h.3 ∙ ap (λ (n : ℕ). no_names n) (len-empty key_cmp Mark) in
    ap (λ (b : Bool). cond b None (Some (record { base = f.base; generation = f.generation; dirty = f.dirty }))) clean
  where
    no_names : ℕ → Bool
    no_names n = n == 0

-- ---- a fetch

module _ (stay : Option Leaf) (leaf : Leaf) (object : Option Omap) (old mid new : Held) (same : mid ≡ old) (o : Option Place) (none : o ≡ None) where
  pub fetched_from : {A E : Type 0} (r : Result A E) → OnOk r (IsFetched stay mid leaf object None new) → OnOk r (IsFetched stay old leaf object o new)
  fetched_from r h =
      subst (λ (p : Option Place). OnOk r (IsFetched stay old leaf object p new)) (sym none) (subst (λ (m : Held). OnOk r (IsFetched stay m leaf object None new)) same h)

  pub left_from : {A E : Type 0} (r : Result A E) → OnErr r (IsNotFetched stay mid None new) → OnErr r (IsNotFetched stay old o new)
  left_from r h = subst (λ (p : Option Place). OnErr r (IsNotFetched stay old p new)) (sym none) (subst (λ (m : Held). OnErr r (IsNotFetched stay m None new)) same h)

-- ---- a place that is filled

pub filled : (leaf : Leaf) (old mid : Held) → mid ≡ old → is_kept (lookup (leaf_is leaf) old.entries) ≡ true → (place : Place)
    → lru_cache (set_value (leaf_is leaf) (promoted (leaf_is leaf) mid.entries) place) mid.cap ≡ used_as leaf place old
filled leaf old mid same kept place = ap (λ (h : Held). lru_cache (set_value (leaf_is leaf) (promoted (leaf_is leaf) h.entries) place) h.cap) same ∙ go (lookup (leaf_is leaf) old.entries) refl kept
  where
    go : (o : Option Place) → lookup (leaf_is leaf) old.entries ≡ o → is_kept o ≡ true → lru_cache (set_value (leaf_is leaf) (promoted (leaf_is leaf) old.entries) place) old.cap ≡ used_as leaf place old
    go (Some was) is h =
        ap (λ (es : Places). lru_cache (set_value (leaf_is leaf) es place) old.cap) (promoted_is leaf was old.entries is)
        ∙ ap (λ (b : Bool). lru_cache (cond b ((leaf, place) ∷ remove_entry (leaf_is leaf) old.entries) ((leaf, was) ∷ set_value (leaf_is leaf) (remove_entry (leaf_is leaf) old.entries) place)) old.cap) (leaf_itself leaf)
    go None is h = let clash : false ≡ true = h in cc

-- ---- what a refusal leaves

-- want of memory comes after a place was free or became so
pub refused_after : {A : Type 0} (r : Result A Refusal) (stay : Option Leaf) (old mid new : Held) → MakesRoom stay old mid → OnErr r (new ≡ mid) → IfErr r (λ reason. reason ≡ NoMemory) → IfErr r (IsRefusedIn stay old new)
refused_after (Ok a) stay old mid new room same memory = tt
refused_after (Err reason) stay old mid new room same memory = inr ((λ other. let clash : NoMemory ≡ NothingToEvict = sym memory ∙ other in absurd cc), subst (MakesRoom stay old) (sym same) room)
