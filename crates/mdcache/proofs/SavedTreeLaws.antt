-- The trees of directories are saved, one after the other.
use Rattle.mdcache.proofs.Common.{Covers, Err, HasTree, HasTrees, Ino, IsAsBefore, IsSound, List, MayRefuse, None, Ok, Option, Refusal, SavesTree, SavesTrees, Some, State, [], ap, arith, eq_by_cmp, eqb-true, false, first_has_tree, first_tree_known, get-empty, get_left, get_removed, inl, inr, is_some, leaves_of, length, list_any, nat_cmp, next_tree_after, or_cases, refl, same_or_apart, shown_tree, slice_get, subst, sym, texts_differ, tree_saved, tree_text, trees_after, true, unsigned_tied, ℕ, ⊎_elim, ◌<◌, ◌^◌, ◌∙◌, ◌∷◌, ◌≡◌, ◌⊎◌}
use Rattle.std.specs.FinMap as map
use Rattle.mds_types.specs.declared.object_names.ObjName.TheVariants.{Tree}
use Rattle.mdcache.proofs.CoverRows.{known_by_row}
use Rattle.mdcache.proofs.ObjectLaws.{tree_beside, tree_here}

-- a directory's leaves were ever set
abbrev HasRow : State → ℕ → Type 0
HasRow s d = is_some (map.get s.covers d) ≡ true

-- each such directory is to come, or its tree is saved
abbrev IsLater : State → Option Ino → ℕ → Type 0
IsLater s after d = list_any (eq_by_cmp nat_cmp d) (trees_after s.homes s.covers after) ≡ true

abbrev AreDone : State → Option Ino → Type 0
AreDone s after = (d : Ino) → HasRow s d.0 → IsLater s after d.0 ⊎ HasTree s d

pub saved_none : (s : State) → SavesTrees s s
saved_none s = record { left = refl; tree = refl; others = λ name none. (refl, refl); each = λ dir row. inr (refl, refl) }

-- directories whose tree objects have one name are one
pub one_tree_text : (a b : Ino) → a.0 < 2 ^ 64 → b.0 < 2 ^ 64 → tree_text a ≡ tree_text b → a.0 ≡ b.0
one_tree_text a b p q same =
    let trees : Tree a ≡ Tree b = texts_differ (Tree a) (Tree b) p q same in
    let one : a ≡ b = cc in
    ap (λ (d : Ino). d.0) one

-- a directory's tree is saved
module _ (now : State) (numbered : (d : ℕ) → HasRow now d → d < 2 ^ 64) (dir : Ino) (row : HasRow now dir.0) where
  abbrev new : State
  new = tree_saved now dir

  has_it : (d : Ino) → d.0 ≡ dir.0 → HasTree new d
  has_it d same = subst (HasTree new) (λ i. record { 0 = sym same i }) (record { object = tree_here now.objects (tree_text dir) (leaves_of now.covers dir.0); listed = get_removed now.purge (tree_text dir) })

  beside : (q : List ℕ) → (q ≡ tree_text dir → ⊥) → IsAsBefore now new q
  beside q apart = (tree_beside now.objects (tree_text dir) (leaves_of now.covers dir.0) q apart, get_left now.purge (tree_text dir) q apart)

  -- each other tree is as it was
  other_tree : (d : Ino) → HasRow now d.0 → (d.0 ≡ dir.0 → ⊥) → IsAsBefore now new (tree_text d)
  other_tree d there apart = beside (tree_text d) (λ same. apart (one_tree_text d dir (numbered d.0 there) (numbered dir.0 row) same))

  -- and what is so of a tree stays so where its object does
  stays_so : (d : Ino) → HasTree now d → IsAsBefore now new (tree_text d) → HasTree new d
  stays_so d has same = record { object = same.0 ∙ has.object; listed = same.1 ∙ has.listed }

  saved_more : (old : State) → SavesTrees old now → shown_tree new ≡ shown_tree now → SavesTrees old new
  saved_more old so_far tree = record {
    left = ap (λ (s : State). record s { objects = new.objects; purge = new.purge }) so_far.left;
    tree = tree ∙ so_far.tree;
    others = λ q none. let was = so_far.others q none in let is = beside q (none dir (sym (same_row dir.0) ∙ row)) in (is.0 ∙ was.0, is.1 ∙ was.1);
    each = λ d there. ⊎_elim (λ same. inl (has_it d same))
        (λ apart.
        let is = other_tree d (same_row d.0 ∙ there) apart in
        ⊎_elim (λ has. inl (stays_so d has is)) (λ was. inr (is.0 ∙ was.0, is.1 ∙ was.1)) (so_far.each d there)) (same_or_apart d.0 dir.0);
  }
    where
      same_row : (d : ℕ) → is_some (map.get now.covers d) ≡ is_some (map.get old.covers d)
      same_row d = ap (λ (s : State). is_some (map.get s.covers d)) so_far.left

  -- those that are left are one less
  fewer_left : (after : Option Ino) → map.get now.homes 1 ≡ None → slice_get (trees_after now.homes now.covers after) 0 ≡ Some dir.0 → AreDone now after → (d : Ino) → HasRow now d.0 → IsLater now (Some dir) d.0 ⊎ HasTree new d
  fewer_left after rootless first so_far d there = ⊎_elim (λ same. inr (has_it d same))
      (λ apart. ⊎_elim
      (λ listed. ⊎_elim (λ this. absurd (apart (eqb-true d.0 dir.0 (sym (unsigned_tied d.0 dir.0) ∙ this)))) (λ later. inl later)
      (or_cases (eq_by_cmp nat_cmp d.0 dir.0) _ (sym (ap (list_any (eq_by_cmp nat_cmp d.0)) (next_tree_after now.homes now.covers rootless after dir first)) ∙ listed)))
      (λ has. inr (stays_so d has (other_tree d there apart))) (so_far d there)) (same_or_apart d.0 dir.0)

-- without rows there is no turn
pub no_first : (s : State) (after : Option Ino) (dir : Ino) → slice_get (trees_after s.homes s.covers after) 0 ≡ Some dir.0 → s.covers ≡ map.empty → ⊥
no_first s after dir first none =
    let clash : false ≡ true = ap is_some (sym (ap (λ (c : Covers). map.get c dir.0) none ∙ get-empty _ dir.0)) ∙ first_has_tree s.homes s.covers after dir.0 first in
    cc

-- ---- a turn of the loop

module _ (now : State) (sound : IsSound now) (after : Option Ino) (dir : Ino) (first : slice_get (trees_after now.homes now.covers after) 0 ≡ Some dir.0) (new : State) (before later : ℕ) where
  numbered : (d : ℕ) → HasRow now d → d < 2 ^ 64
  numbered d row = sound.numbered d (known_by_row now.homes now.covers sound.table d row)

  -- all that a turn does: more is saved, and less is to come
  pub turn : SavesTree now new before later dir (Ok tt) → (old : State) → SavesTrees old now → AreDone now after
      → SavesTrees old new × AreDone new (Some dir) × (length (trees_after new.homes new.covers (Some dir)) < length (trees_after now.homes now.covers after))
  turn saves old so_far done = subst (λ (s : State). SavesTrees old s × AreDone s (Some dir) × (length (trees_after s.homes s.covers (Some dir)) < length (trees_after now.homes now.covers after))) (sym saves.1) (
    saved_more now numbered dir (first_has_tree now.homes now.covers after dir.0 first) old so_far (subst (λ (s : State). shown_tree s ≡ shown_tree now) saves.1 saves.2),
    fewer_left now numbered dir (first_has_tree now.homes now.covers after dir.0 first) after sound.table.rooted.rootless first done,
    let all : length (trees_after now.homes now.covers after) ≡ length (dir.0 ∷ trees_after now.homes now.covers (Some dir)) = ap length (next_tree_after now.homes now.covers sound.table.rooted.rootless after dir first) in
        omega (arith, all),
  )

  -- the directory is there, so only the store refuses
  pub turn_refused : (reason : Refusal) → SavesTree now new before later dir (Err reason) → MayRefuse before later reason
  turn_refused reason (inl (is, unknown), same) = let clash : true ≡ false = sym (first_tree_known now.homes now.covers sound.table.rooted.rootless after dir.0 first) ∙ unknown in absurd cc
  turn_refused reason (inr (known, may), same) = may

nothing_listed : (d : ℕ) (ks : List ℕ) → slice_get ks 0 ≡ None → list_any (eq_by_cmp nat_cmp d) ks ≡ true → ⊥
nothing_listed d [] none listed = let clash : false ≡ true = listed in cc
nothing_listed d (k ∷ ks) none listed = let clash : Some k ≡ None = none in cc

-- where none is to come all have their objects
pub all_saved : (s : State) (after : Option Ino) → slice_get (trees_after s.homes s.covers after) 0 ≡ None → AreDone s after → HasTrees s
all_saved s after none done d row = ⊎_elim (λ listed. absurd (nothing_listed d.0 (trees_after s.homes s.covers after) none listed)) (λ has. has) (done d row)
