-- The names that are rows_gathered from all leaves of a directory are those that the shown tree lists.
use Rattle.mdcache.proofs.Common.{Contains, Fragment, Gathered, Ino, Inode, IsPageOf, IsPick, IsSound, List, Names, None, Option, NamedInode, Some, State, T, [], ap, arith, cond, dentry_of, entries_sorted, eq_by_cmp, exact_bytes, false, find-put, find-where_key, rows_gathered, get-entries, hash_of, inl, inr, is_after, is_known, is_sorted-put, is_sorted-where_key, key_cmp, key_tied, leaves_of, left_of, names_after, names_are_listed, names_of, nat_list_cmp_total, none_either, not_found, option_or, put, puts, refl, right_of, rows_after, same_entries, shown_tree, some_pick, subst, suc, sym, tree_of_row, true, zero, ℕ, ⊎_elim, ◌∙◌, ◌∷◌, ◌≡◌, ◌⊎◌}
use Rattle.std.specs.FinMap as map
use Rattle.std.specs.FinMap.Entries.{find, is_sorted}
use Rattle.fragtree.proofs.TreeLaws.{first as first_has, later as later_has}
use Rattle.mdcache.proofs.NamedLaws.{sound_leaves, stands_at}

-- ---- names put to others

puts_sorted : (es fs : List NamedInode) → T (is_sorted key_cmp es) → T (is_sorted key_cmp (puts key_cmp es fs))
puts_sorted es [] sorted = sorted
puts_sorted es (f ∷ fs) sorted = puts_sorted (put key_cmp f.0 f.1 es) fs (is_sorted-put key_cmp nat_list_cmp_total f.0 f.1 es sorted)

find-puts : (es fs : List NamedInode) (q : List ℕ) → T (is_sorted key_cmp fs) → find key_cmp q (puts key_cmp es fs) ≡ option_or (find key_cmp q fs) (find key_cmp q es)
find-puts es [] q sorted = refl
find-puts es (f ∷ fs) q sorted =
    find-puts (put key_cmp f.0 f.1 es) fs q (right_of _ _ sorted)
    ∙ ap (option_or (find key_cmp q fs)) (find-put key_cmp nat_list_cmp_total q f.0 f.1 es)
    ∙ elim (eq_by_cmp key_cmp q f.0) as (λ b. eq_by_cmp key_cmp q f.0 ≡ b → option_or (find key_cmp q fs) (cond b (Some f.1) (find key_cmp q es)) ≡ option_or (cond b (Some f.1) (find key_cmp q fs)) (find key_cmp q es)) [
      | true ↦ λ same. ap (λ l. option_or l (Some f.1)) (not_found f.0 q fs (key_tied q f.0 same) (left_of _ _ sorted))
      | false ↦ λ apart. refl
    ] refl

-- ---- leaf by leaf

-- nothing is told, or what is true
abbrev Tells : Option Inode → Option Inode → Type 0
Tells v o = (o ≡ None) ⊎ (o ≡ v)

module _ (names : Fragment → Names) (after : Option (List ℕ)) where
  abbrev rows : Fragment → List NamedInode
  rows f = rows_after after (map.entries (names f))

  gathered_sorted : (es : List NamedInode) (fs : List Fragment) → T (is_sorted key_cmp es) → T (is_sorted key_cmp (rows_gathered names after es fs))
  gathered_sorted es [] sorted = sorted
  gathered_sorted es (f ∷ fs) sorted = gathered_sorted (puts key_cmp es (rows f)) fs (puts_sorted es (rows f) sorted)

  row_found : (f : Fragment) (q : List ℕ) → find key_cmp q (rows f) ≡ cond (is_after after q) (map.get (names f) q) None
  row_found f q =
      find-where_key key_cmp (is_after after) q (λ x tied. ap (is_after after) (sym (exact_bytes q x tied))) (map.entries (names f))
      ∙ ap (λ o. cond (is_after after q) o None) (sym (get-entries (names f) q))

  module _ (q : List ℕ) (v : Option Inode) where
    or_is : (a b : Option Inode) → a ≡ v → Tells v b → option_or a b ≡ v
    or_is a b is tells = ap (λ o. option_or o b) is ∙ elim v as (λ w. Tells w b → option_or w b ≡ w) [ None ↦ ⊎_elim (λ none. none) (λ same. same) | Some x ↦ λ tells. refl ] tells

    or_was : (a b : Option Inode) → Tells v a → b ≡ v → option_or a b ≡ v
    or_was a b told was = ⊎_elim (λ none. ap (λ o. option_or o b) none ∙ was) (λ is. or_is a b is (inr was)) told

    or_told : (a b : Option Inode) → Tells v a → Tells v b → Tells v (option_or a b)
    or_told a b told tells = ⊎_elim (λ none. subst (Tells v) (sym (ap (λ o. option_or o b) none)) tells) (λ is. inr (or_is a b is tells)) told

    after_leaf : (es : List NamedInode) (f : Fragment) → find key_cmp q (puts key_cmp es (rows f)) ≡ option_or (find key_cmp q (rows f)) (find key_cmp q es)
    after_leaf es f = find-puts es (rows f) q (is_sorted-where_key key_cmp (is_after after) (map.entries (names f)) (entries_sorted (names f)))

    -- what is found stays, and what one leaf has is found
    found : (es : List NamedInode) (fs : List Fragment) → ((f : Fragment) → Contains fs f → Tells v (find key_cmp q (rows f))) → Tells v (find key_cmp q es)
        → (find key_cmp q es ≡ v) ⊎ ((at : Fragment) × Contains fs at × (find key_cmp q (rows at) ≡ v)) → find key_cmp q (rows_gathered names after es fs) ≡ v
    found es [] each told (inl is) = is
    found es [] each told (inr (at, (k, within, there), is)) = absurd (omega (arith, within))
    found es (f ∷ fs) each told has = found (puts key_cmp es (rows f)) fs (λ g has. each g (later_has f g fs has)) (subst (Tells v) (sym (after_leaf es f)) (or_told _ _ (each f (first_has f fs)) told)) (now has)
      where
        now : (find key_cmp q es ≡ v) ⊎ ((at : Fragment) × Contains (f ∷ fs) at × (find key_cmp q (rows at) ≡ v)) → (find key_cmp q (puts key_cmp es (rows f)) ≡ v) ⊎ ((at : Fragment) × Contains fs at × (find key_cmp q (rows at) ≡ v))
        now (inl is) = inl (after_leaf es f ∙ or_was _ _ (each f (first_has f fs)) is)
        now (inr (at, (zero, within, there), is)) = inl (after_leaf es f ∙ or_is _ _ (ap (λ (g : Fragment). find key_cmp q (rows g)) there ∙ is) told)
        now (inr (at, (suc k, within, there), is)) = inr (at, (k, omega (arith, within), there), is)

-- ---- pages

-- a leaf's names are in order
pub leaf_taken : (after : Option (List ℕ)) (names : Names) (left : List NamedInode) (page new : Gathered) → left ≡ rows_after after (map.entries names)
    → ((whole : List NamedInode) → IsPageOf whole page → T (is_sorted key_cmp left) → IsPageOf (puts key_cmp whole left) new) → (whole : List NamedInode) → IsPageOf whole page → IsPageOf (puts key_cmp whole (rows_after after (map.entries names))) new
leaf_taken after names left page new is takes =
    subst (λ rows. (whole : List NamedInode) → IsPageOf whole page → IsPageOf (puts key_cmp whole rows) new) is
    (λ whole p. takes whole p (subst (λ rows. T (is_sorted key_cmp rows)) (sym is) (is_sorted-where_key key_cmp (is_after after) (map.entries names) (entries_sorted names))))

-- the names of the next leaf are taken in, and other leaves are left
pub leaf_more : (names : Fragment → Names) (after : Option (List ℕ)) (f : Fragment) (fs rest all : List Fragment) (now whole : List NamedInode) (page new : Gathered) (shown : Names) → shown ≡ names f → rest ≡ f ∷ fs → IsPageOf now page
    → rows_gathered names after now rest ≡ rows_gathered names after whole all → ((w : List NamedInode) → IsPageOf w page → IsPageOf (puts key_cmp w (rows_after after (map.entries shown))) new)
    → (x : List NamedInode) × IsPageOf x new × (rows_gathered names after x fs ≡ rows_gathered names after whole all)
leaf_more names after f fs rest all now whole page new shown same steps is whole_is takes = (
  puts key_cmp now (rows_after after (map.entries (names f))),
  subst (λ (n : Names). IsPageOf (puts key_cmp now (rows_after after (map.entries n))) new) same (takes now is),
  ap (rows_gathered names after now) (sym steps) ∙ whole_is,
)

-- ---- all leaves of a directory

module _ (s : State) (sound : IsSound s) (dir : Ino) (known : is_known s.homes dir.0 ≡ true) (after : Option (List ℕ)) where
  abbrev names_in : Fragment → Names
  names_in f = names_of s.unsaved s.objects (dir, f)

  abbrev leaves : List Fragment
  leaves = leaves_of s.covers dir.0

  -- what a leaf tells of a name
  abbrev told : List ℕ → Fragment → Option Inode
  told q f = find key_cmp q (rows_after after (map.entries (names_in f)))

  -- no leaf tells of it but the one that it picks
  alone : (q : List ℕ) (at : Fragment) → IsPick leaves (hash_of q) at → (g : Fragment) → Contains leaves g → Tells (told q at) (told q g)
  alone q at pick g stands = elim (map.get (names_in g) q) as (λ o. map.get (names_in g) q ≡ o → Tells (told q at) (told q g)) [
    | None ↦ λ is. inl (row_found names_in after g q ∙ ap (λ o. cond (is_after after q) o None) is ∙ none_either (is_after after q))
    | Some inode ↦ λ is.
        let placed = sound.placed (dir, g) q inode (record { known = known; stands = stands }) is in
        inr (ap (told q) (pick.alone g placed.stands placed.contains))
  ] refl

  all_found : (q : List ℕ) → find key_cmp q (rows_gathered names_in after [] leaves) ≡ find key_cmp q (names_after (shown_tree s) dir.0 after)
  all_found q =
      let w = some_pick leaves (hash_of q) (tree_of_row s.homes s.covers sound.table dir.0) in
      found names_in after q (told q w.0) [] leaves (alone q w.0 w.1) (inl refl) (inr (w.0, w.1.stands, refl))
      ∙ row_found names_in after w.0 q
      ∙ ap (λ o. cond (is_after after q) o None) (sym (stands_at s (sound_leaves s sound) (dentry_of dir.0 q) w.0 known w.1))
      ∙ sym ((names_are_listed (shown_tree s) dir.0 after).exact q)

  -- the names rows_gathered from all leaves of a directory are those that the tree lists
  pub gathers_listed : rows_gathered names_in after [] leaves ≡ names_after (shown_tree s) dir.0 after
  gathers_listed =
      same_entries key_cmp nat_list_cmp_total exact_bytes (rows_gathered names_in after [] leaves) (names_after (shown_tree s) dir.0 after) (gathered_sorted names_in after [] leaves tt) (names_are_listed (shown_tree s) dir.0 after).rises all_found
