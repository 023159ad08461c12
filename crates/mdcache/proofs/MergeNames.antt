-- The names of leaves that are merged are those that the joined fragment contains.
use Rattle.mdcache.proofs.Common.{CanMerge, Contains-get_or, Fragment, HasLeaf, Ino, Inode, IsMerge, IsPick, IsSound, IsTree, Leaf, List, Mark, Names, None, Option, Some, State, [], ap, arith, between, both_ways, cond, cond_both, dentry_of, each, false, first_or_later, get_or, hash_of, holds, holds_contains, in_directory, inl, inr, is_known, is_same, later, leaves_inside, leaves_of, lies_inside, marked_as, merged_after_merge, name_joined, names_of, one_of_hash, one_or_other, pick_after_merge, range_from_inside, refl, shown_tree, span, span_pos, subst, sym, tree_of_row, true, true_from_ne_false, zero, ℕ, ⊎_elim, ◌%◌, ◌/◌, ◌^◌, ◌∙◌, ◌∷◌, ◌≡◌, ◌⊎◌}
use Rattle.std.specs.FinMap as map
use Rattle.mdcache.proofs.NamedLaws.{pick_at, sound_leaves, stands_at}
use Rattle.mdcache.proofs.NoNames.{none_unless}
use Rattle.mdcache.proofs.SplitLaws.{has_inside, inside_has}

-- ---- the fragment of a merge

-- the fragment is no leaf before the merge
pub merged_is_new : (row : List Fragment) (frag : Fragment) → IsTree row → CanMerge row frag → HasLeaf row frag → ⊥
merged_is_new row frag tree can has =
    let g = get_or (leaves_inside frag row) 0 frag in
    let both = has_inside frag g row (Contains-get_or (leaves_inside frag row) 0 frag can.some) in
    let within = range_from_inside frag g (between 0 16777216 row frag tree.tiles has).0 both.1 in
    let positive = span_pos g.bits in
    let one : frag ≡ g = one_of_hash row frag g g.value tree has both.0 within.1 within.2 (omega arith) (omega (arith, positive)) in
    let bits : frag.bits ≡ g.bits = ap (λ (f : Fragment). f.bits) one in
    omega (arith, bits, within.0)

-- the pick of a hash is merged if and only if the fragment contains the hash
pub pick_inside : (row cover : List Fragment) (frag : Fragment) → IsTree row → IsTree cover → CanMerge row frag → IsMerge row cover frag → (hash : ℕ) (p : Fragment) → IsPick row hash p → lies_inside frag p ≡ holds frag hash
pick_inside row cover frag tree whole can merged hash p pick = both_ways (lies_inside frag p) (holds frag hash)
    (λ inside. is_same ((hash % 2 ^ 24) / span frag.bits) (frag.value / span frag.bits) (merged_after_merge row cover frag whole hash p pick tree merged inside).contains)
    (λ has. true_from_ne_false (lies_inside frag p) (λ outside.
    let one : frag ≡ p = (pick_after_merge row cover frag whole hash p pick merged outside).alone frag ((merged.leaves frag).1 (inr refl)) (holds_contains frag hash has) in
    merged_is_new row frag tree can (subst (HasLeaf row) (sym one) pick.stands)))

-- ---- a name of the leaves that were merged

module _ (s : State) (sound : IsSound s) (dir : Ino) (known : is_known s.homes dir.0 ≡ true) (name : List ℕ) where
  abbrev row : List Fragment
  row = leaves_of s.covers dir.0

  abbrev names : Leaf → Names
  names = names_of s.unsaved s.objects

  pick : (f : Fragment) × IsPick row (hash_of name) f
  pick = pick_at s (sound_leaves s sound) (dentry_of dir.0 name)

  abbrev found : Option Inode
  found = map.get (shown_tree s) (dentry_of dir.0 name)

  -- of all leaves the pick alone has it, if the tree has it
  none_beside : (f : Fragment) → HasLeaf row f → (f ≡ pick.0 → ⊥) → map.get (names (dir, f)) name ≡ None
  none_beside f has apart = none_unless (map.get (names (dir, f)) name) (λ inode is. apart (pick.1.alone f has (sound.placed (dir, f) name inode (record { known = known; stands = has }) is).contains))

  here : map.get (names (dir, pick.0)) name ≡ found
  here = sym (stands_at s (sound_leaves s sound) (dentry_of dir.0 name) pick.0 known pick.1)

  its : (f : Fragment) → HasLeaf row f → (map.get (names (dir, f)) name ≡ found) ⊎ (map.get (names (dir, f)) name ≡ None)
  its f has = ⊎_elim (λ same. inl (ap (λ (g : Fragment). map.get (names (dir, g)) name) same ∙ here)) (λ apart. inr (none_beside f has apart)) (one_or_other f pick.0)

  module _ (version : ℕ) where
    abbrev joined : List Fragment → Option Mark → Option Mark
    joined fs was = name_joined names version (each (in_directory dir.0) fs) name was

    -- what each of these leaves leaves, all leave
    joined_same : (fs : List Fragment) (was : Option Mark) → ((f : Fragment) → HasLeaf fs f → marked_as version (map.get (names (dir, f)) name) was ≡ was) → joined fs was ≡ was
    joined_same [] was same = refl
    joined_same (f ∷ fs) was same = ap (joined fs) (same f (zero, omega arith, refl)) ∙ joined_same fs was (λ g has. same g (later f g fs has))

    -- that of the tree, once it is there
    abbrev mark : Option Mark
    mark = marked_as version found None

    stays : (fs : List Fragment) → ((f : Fragment) → HasLeaf fs f → HasLeaf row f) → joined fs mark ≡ mark
    stays fs within = joined_same fs mark (λ f has. ⊎_elim (λ is. ap (λ (o : Option Inode). marked_as version o mark) is
        ∙ elim found as (λ o. marked_as version o (marked_as version o None) ≡ marked_as version o None) [ None ↦ refl | Some inode ↦ refl ])
        (λ none. ap (λ (o : Option Inode). marked_as version o mark) none) (its f (within f has)))

    comes : (fs : List Fragment) → ((f : Fragment) → HasLeaf fs f → HasLeaf row f) → HasLeaf fs pick.0 → joined fs None ≡ mark
    comes [] within has = let none = has.1 in absurd (omega (arith, none))
    comes (f ∷ fs) within has =
        let rest : (g : Fragment) → HasLeaf fs g → HasLeaf row g = λ g h. within g (later f g fs h) in
        let found_in : map.get (names (dir, f)) name ≡ found → joined (f ∷ fs) None ≡ mark = λ is. ap (λ (o : Option Inode). joined fs (marked_as version o None)) is ∙ stays fs rest in
        ⊎_elim (λ same. found_in (ap (λ (g : Fragment). map.get (names (dir, g)) name) same ∙ here))
        (λ more. ⊎_elim found_in (λ none. ap (λ (o : Option Inode). joined fs (marked_as version o None)) none ∙ comes fs rest more) (its f (within f (zero, omega arith, refl)))) (first_or_later f pick.0 fs has)

    -- a name of the leaves that are merged is dirty in the joined fragment, if this contains it
    module _ (cover : List Fragment) (frag : Fragment) (whole : IsTree cover) (can : CanMerge row frag) (merged : IsMerge row cover frag) where
      abbrev gone : List Fragment
      gone = leaves_inside frag row

      told : lies_inside frag pick.0 ≡ holds frag (hash_of name)
      told = pick_inside row cover frag (tree_of_row s.homes s.covers sound.table dir.0) whole can merged (hash_of name) pick.0 pick.1

      within : (f : Fragment) → HasLeaf gone f → HasLeaf row f
      within f has = (has_inside frag f row has).0

      pub joined_is : joined gone None ≡ marked_as version (cond (holds frag (hash_of name)) found None) None
      joined_is = cond_both (holds frag (hash_of name)) found None (λ o. joined gone None ≡ marked_as version o None) (λ has. comes gone within (inside_has frag pick.0 row pick.1.stands (told ∙ has)))
          (λ out. joined_same gone None (λ f has. ap (λ (o : Option Inode). marked_as version o None) (none_beside f (within f has) (λ same.
          let clash : true ≡ false = sym (has_inside frag f row has).1 ∙ ap (lies_inside frag) same ∙ told ∙ out in cc))))
