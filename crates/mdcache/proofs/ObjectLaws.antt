-- A purge and a commit of a directory's tree change no object of a live leaf.
use Rattle.mdcache.proofs.Common.{AllCachedIn, Bool, CacheMap, Fragment, Ino, IsLive, HasOwner, IsSound, Keys, Leaf, List, None, Objects, Omap, Option, PairMap, Some, State, WriteOp, [], ap, applied-by-parts, cond, cond_both, empty_omap, eq_by_cmp, exact_bytes, false, find, first_name, get-empty, get-entries, get-without_keys, get_beside, get_left, get_put, get_removed, inl, inr, is_known, is_some, key_cmp, key_itself, key_or_apart, leaves_of, length, ltb-true, nat_list_cmp_total, nat_lt, object_of, option_map, overlaid-empty, purged, refl, rules, same_Some, same_map, shown_tree, slice_get, subst, sym, text_of, tree_object, tree_saved, tree_text, true, unwrap_or, with_tree_at, without_keys, ℕ, ⊎_elim, ◌<◌, ◌∙◌, ◌∷◌, ◌≡◌}
use Rattle.std.specs.FinMap as map
use Rattle.objstore.specs.Objects.{written}
use Rattle.mdcache.proofs.CoverRows.{several_in_row}
use Rattle.mdcache.proofs.SoundLaws.{other_objects, other_objects_kept, other_objects_tree}
use Rattle.mdcache.proofs.TextLaws.{no_tree_text}

-- ---- the first name of a list

pub first_stands : (names : Keys) (name : List ℕ) → first_name names ≡ Some name → is_some (map.get names name) ≡ true
first_stands names name is = ap is_some (get-entries names name) ∙ elim (map.entries names) as (λ es. option_map (λ (e : List ℕ × Unit {0}). e.0) (slice_get es 0) ≡ Some name → is_some (find key_cmp name es) ≡ true) [
  | [] ↦ λ h. let clash : None ≡ Some name = h in cc
  | e ∷ es ↦ λ h. ap (λ (b : Bool). is_some (cond b (Some e.1) (find key_cmp name es))) (ap (eq_by_cmp key_cmp name) (same_Some e.0 name h) ∙ key_itself name)
] is

-- ---- an object changes that no live leaf has, and its name leaves the list

-- the objects of live leaves stay, and the tree
pub record KeepsLeaves (old new : State) : Type 0 where
  pub objects : (leaf : Leaf) → IsLive old.homes old.covers leaf → object_of new.objects leaf.0 leaf.1 ≡ object_of old.objects leaf.0 leaf.1
  pub tree : shown_tree new ≡ shown_tree old
  pub sound : IsSound new
  pub cached : (caches : CacheMap) → AllCachedIn old caches → AllCachedIn new caches

module _ (s : State) (name : List ℕ) (objects : Objects) (sound : IsSound s) (beside : (q : List ℕ) → (q ≡ name → ⊥) → map.get objects q ≡ map.get s.objects q)
    (not_live : (leaf : Leaf) → IsLive s.homes s.covers leaf → text_of leaf ≡ name → ⊥) where
  abbrev after : State
  after = record s { objects = objects; purge = map.remove s.purge name }

  -- what owns another object owns it still
  owned_beside : (q : List ℕ) → (q ≡ name → ⊥) → HasOwner s q → HasOwner after q
  owned_beside q apart owned = ⊎_elim (λ leaf. inl leaf) (λ rest. ⊎_elim (λ tree. inr (inl tree)) (λ listed. inr (inr (ap is_some (get_left s.purge name q apart) ∙ listed))) rest) owned

  other_changed : (is_some (map.get objects name) ≡ true → HasOwner after name) → KeepsLeaves s after
  other_changed owned =
      let same : (leaf : Leaf) → IsLive s.homes s.covers leaf → object_of objects leaf.0 leaf.1 ≡ object_of s.objects leaf.0 leaf.1 = λ leaf live. beside (text_of leaf) (not_live leaf live) in
      record {
        objects = same;
        tree = other_objects_tree s objects (map.remove s.purge name) sound same;
        sound = other_objects s objects (map.remove s.purge name) sound same
            (λ q has. ⊎_elim (λ one. subst (HasOwner after) (sym one) (owned (subst (λ (n : List ℕ). is_some (map.get objects n) ≡ true) one has)))
            (λ apart. owned_beside q apart (sound.owned q (ap is_some (sym (beside q apart)) ∙ has))) (key_or_apart q name))
            (λ leaf live. get_left s.purge name (text_of leaf) (not_live leaf live) ∙ sound.listed leaf live);
        cached = other_objects_kept s objects (map.remove s.purge name) sound same;
      }

-- an object is purged
pub purged_right : (s : State) (name : List ℕ) → IsSound s → first_name s.purge ≡ Some name → KeepsLeaves s (purged s name)
purged_right s name sound first = other_changed s name (map.remove s.objects name) sound (get_left s.objects name)
    (λ leaf live same.
    let clash : true ≡ false = sym (first_stands s.purge name first) ∙ ap (λ (k : List ℕ). is_some (map.get s.purge k)) (sym same) ∙ ap is_some (sound.listed leaf live) in
    cc)
    (λ has. let clash : false ≡ true = ap is_some (sym (get_removed s.objects name)) ∙ has in absurd cc)

-- the object that a tree has afterwards, and each other
pub tree_here : (objects : Objects) (name : List ℕ) (leaves : List Fragment) → map.get (with_tree_at objects name leaves) name ≡ cond (nat_lt 1 (length leaves)) (Some (tree_object leaves)) None
tree_here objects name leaves = search (rules, get_put, get_removed)

pub tree_beside : (objects : Objects) (name : List ℕ) (leaves : List Fragment) (q : List ℕ) → (q ≡ name → ⊥) → map.get (with_tree_at objects name leaves) q ≡ map.get objects q
tree_beside objects name leaves q apart = search (rules, get_beside, get_left)

-- the object of a directory's tree is written or removed
pub tree_saved_right : (s : State) (dir : Ino) → IsSound s → is_known s.homes dir.0 ≡ true → KeepsLeaves s (tree_saved s dir)
tree_saved_right s dir sound known = other_changed s (tree_text dir) (with_tree_at s.objects (tree_text dir) leaves) sound (tree_beside s.objects (tree_text dir) leaves)
    (λ leaf live. no_tree_text s.homes s.covers sound.table sound.numbered leaf dir live known)
    (λ has.
    let several = cond_both (nat_lt 1 (length leaves)) (Some (tree_object leaves)) None (λ (o : Option Omap). is_some o ≡ true → 1 < length leaves) (λ more some. ltb-true 1 (length leaves) more) (λ few some. absurd cc) in
    inr (inl (dir, several_in_row s.covers dir.0 (several (sym (ap is_some (tree_here s.objects (tree_text dir) leaves)) ∙ has)), refl)))
  where
    leaves : List Fragment
    leaves = leaves_of s.covers dir.0

-- the write of a tree's object: its header, and no pairs
pub tree_written : (objects : Objects) (name header : List ℕ)
    → written objects name (record { clear = true; header = Some header; set = map.empty; remove = map.empty }) ≡ map.insert objects name (record { header = header; pairs = map.empty })
unfolding written
tree_written objects name header =
    let op : WriteOp = record { clear = true; header = Some header; set = map.empty; remove = map.empty } in
    let nothing_left : without_keys op.set op.remove ≡ op.set = same_map nat_list_cmp_total exact_bytes (without_keys op.set op.remove) op.set (λ q. get-without_keys exact_bytes op.set op.remove q
    ∙ elim (map.contains_key op.remove q) as (λ b. cond b None (map.get op.set q) ≡ map.get op.set q) [ true ↦ sym (get-empty key_cmp q) | false ↦ refl ]) in
    ap (map.insert objects name) (sym (applied-by-parts op (unwrap_or (map.get objects name) empty_omap) header op.set refl (sym (ap (λ (pairs : PairMap). without_keys pairs op.remove) (overlaid-empty op.set) ∙ nothing_left))))
