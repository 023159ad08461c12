-- What stands in the shown tree: a name of a directory of the table stands for what the leaf has that its hash picks.
use Rattle.mdcache.proofs.Common.{Bool, Covers, Dentry, Fragment, HasLeaf, Homes, Inode, Leaf, List, Names, None, Option, Some, [], ap, append_assoc, arith, cond, contains_key-keys, dentry-total, dentry_cmp, dentry_of, directories, dentries_in, entries_of, entries_under, eq_by_cmp, eqb-true, false, find, first_or_later, get-entries, get-from_entries, inl, inr, is_apart, is_known, is_same, key_cmp, later, leaves_of, list_any, nat_cmp, option_or, refl, rules, sym, tied_dentry, true, unsigned_tied, zero, ℕ, ⊎_elim, ◌&&◌, ◌++◌, ◌==◌, ◌||◌, ◌∙◌, ◌∷◌, ◌≡◌, ◌⊎◌}
use Rattle.std.specs.FinMap as finmap
use Rattle.mdcache.specs.Shown.{tree_of}

-- an entry of a directory's names is found by its name
found_row : (d e : ℕ) (name : List ℕ) (rows : List (List ℕ × Inode)) (rest : List (Dentry × Inode)) (b : Bool) → (e == d) ≡ b
    → find dentry_cmp (dentry_of d name) (entries_of e rows ++ rest) ≡ option_or (cond b (find key_cmp name rows) None) (find dentry_cmp (dentry_of d name) rest)
found_row d e name [] rest true here = refl
found_row d e name [] rest false here = refl
found_row d e name (row ∷ rows) rest b here =
    ap (λ c. cond c (Some row.1) (find dentry_cmp (dentry_of d name) (entries_of e rows ++ rest))) (tied_dentry d name (dentry_of e row.0) b here)
    ∙ ap (cond (b && eq_by_cmp key_cmp name row.0) (Some row.1)) (found_row d e name rows rest b here)
    ∙ joined b (eq_by_cmp key_cmp name row.0)
  where
    joined : (b c : Bool) → cond (b && c) (Some row.1) (option_or (cond b (find key_cmp name rows) None) (find dentry_cmp (dentry_of d name) rest))
        ≡ option_or (cond b (cond c (Some row.1) (find key_cmp name rows)) None) (find dentry_cmp (dentry_of d name) rest)
    joined b c = search rules

module _ (names : Leaf → Names) where
  -- the first of some leaves of a directory that has a name tells what it stands for
  abbrev pub first_of : ℕ → List ℕ → List Fragment → Option Inode
  first_of d name [] = None
  first_of d name (f ∷ fs) = option_or (finmap.get (names (record { 0 = d }, f)) name) (first_of d name fs)

  found_under : (d e : ℕ) (name : List ℕ) (fs : List Fragment) (rest : List (Dentry × Inode)) (b : Bool) → (e == d) ≡ b
      → find dentry_cmp (dentry_of d name) (entries_under names e fs ++ rest) ≡ option_or (cond b (first_of e name fs) None) (find dentry_cmp (dentry_of d name) rest)
  found_under d e name [] rest true here = refl
  found_under d e name [] rest false here = refl
  found_under d e name (f ∷ fs) rest b here =
      ap (find dentry_cmp (dentry_of d name)) (append_assoc (entries_of e (finmap.entries (names (record { 0 = e }, f)))) (entries_under names e fs) rest)
      ∙ found_row d e name (finmap.entries (names (record { 0 = e }, f))) (entries_under names e fs ++ rest) b here
      ∙ ap (λ o. option_or (cond b o None) (find dentry_cmp (dentry_of d name) (entries_under names e fs ++ rest))) (sym (get-entries (names (record { 0 = e }, f)) name))
      ∙ ap (option_or (cond b (finmap.get (names (record { 0 = e }, f)) name) None)) (found_under d e name fs rest b here)
      ∙ joined b (finmap.get (names (record { 0 = e }, f)) name)
    where
      joined : (b : Bool) (o : Option Inode) → option_or (cond b o None) (option_or (cond b (first_of e name fs) None) (find dentry_cmp (dentry_of d name) rest))
          ≡ option_or (cond b (option_or o (first_of e name fs)) None) (find dentry_cmp (dentry_of d name) rest)
      joined b o = search rules

  found_in : (covers : Covers) (d : ℕ) (name : List ℕ) (dirs : List ℕ)
      → find dentry_cmp (dentry_of d name) (dentries_in names covers dirs) ≡ cond (list_any (eq_by_cmp nat_cmp d) dirs) (first_of d name (leaves_of covers d)) None
  found_in covers d name [] = refl
  found_in covers d name (e ∷ dirs) =
      found_under d e name (leaves_of covers e) (dentries_in names covers dirs) (e == d) refl
      ∙ ap (option_or (cond (e == d) (first_of e name (leaves_of covers e)) None)) (found_in covers d name dirs)
      ∙ go (e == d) refl
    where
      x : Option Inode
      x = first_of d name (leaves_of covers d)

      twice : (c : Bool) (o : Option Inode) → option_or o (cond c o None) ≡ o
      twice c o = search rules

      go : (b : Bool) → (e == d) ≡ b → option_or (cond b (first_of e name (leaves_of covers e)) None) (cond (list_any (eq_by_cmp nat_cmp d) dirs) x None) ≡ cond (eq_by_cmp nat_cmp d e || list_any (eq_by_cmp nat_cmp d) dirs) x None
      go true is =
          let same : e ≡ d = eqb-true e d is in
          ap (λ k. option_or (first_of k name (leaves_of covers k)) (cond (list_any (eq_by_cmp nat_cmp d) dirs) x None)) same
          ∙ twice (list_any (eq_by_cmp nat_cmp d) dirs) x
          ∙ ap (λ b. cond (b || list_any (eq_by_cmp nat_cmp d) dirs) x None) (sym (unsigned_tied d e ∙ is_same d e (sym same)))
      go false is = ap (λ b. cond (b || list_any (eq_by_cmp nat_cmp d) dirs) x None) (sym (unsigned_tied d e ∙ is_apart d e (λ same. let clash : true ≡ false = sym (is_same e d (sym same)) ∙ is in cc)))

  found : (homes : Homes) (covers : Covers) (d : ℕ) (name : List ℕ) → finmap.get (tree_of homes covers names) (dentry_of d name) ≡ cond (is_known homes d) (first_of d name (leaves_of covers d)) None
  unfolding tree_of
  found homes covers d name =
      get-from_entries dentry-total (dentries_in names covers (directories homes)) (dentry_of d name)
      ∙ found_in covers d name (directories homes)
      ∙ ap (λ b. cond b (first_of d name (leaves_of covers d)) None) (λ i. unsigned_tied d 1 i || sym (contains_key-keys homes d) i)

  -- what no other leaf has, the one leaf tells
  only_one : (d : ℕ) (name : List ℕ) (f : Fragment) (fs : List Fragment) → ((g : Fragment) (inode : Inode) → HasLeaf fs g → finmap.get (names (record { 0 = d }, g)) name ≡ Some inode → g ≡ f)
      → HasLeaf fs f ⊎ (finmap.get (names (record { 0 = d }, f)) name ≡ None) → first_of d name fs ≡ finmap.get (names (record { 0 = d }, f)) name
  only_one d name f [] only (inl (k, stands, is)) = absurd (omega (arith, stands))
  only_one d name f [] only (inr none) = sym none
  only_one d name f (g ∷ gs) only has = elim (finmap.get (names (record { 0 = d }, g)) name) as (λ o. finmap.get (names (record { 0 = d }, g)) name ≡ o → option_or o (first_of d name gs) ≡ finmap.get (names (record { 0 = d }, f)) name) [
    | None ↦ λ is. only_one d name f gs (λ h inode stands. only h inode (later g h gs stands)) (⊎_elim
        (λ stands. ⊎_elim (λ same. inr (ap (λ (h : Fragment). finmap.get (names (record { 0 = d }, h)) name) (sym same) ∙ is)) (λ more. inl more) (first_or_later g f gs stands)) (λ nothing. inr nothing) has)
    | Some i ↦ λ is. sym is ∙ ap (λ (h : Fragment). finmap.get (names (record { 0 = d }, h)) name) (only g i (zero, omega arith, refl) is)
  ] refl

  -- a name of a directory that is known stands for what its leaf has
  pub found_at : (homes : Homes) (covers : Covers) (d : ℕ) (name : List ℕ) (f : Fragment) → is_known homes d ≡ true → HasLeaf (leaves_of covers d) f
      → ((g : Fragment) (inode : Inode) → HasLeaf (leaves_of covers d) g → finmap.get (names (record { 0 = d }, g)) name ≡ Some inode → g ≡ f)
      → finmap.get (tree_of homes covers names) (dentry_of d name) ≡ finmap.get (names (record { 0 = d }, f)) name
  found_at homes covers d name f known stands only =
      found homes covers d name
      ∙ ap (λ b. cond b (first_of d name (leaves_of covers d)) None) known
      ∙ only_one d name f (leaves_of covers d) only (inl stands)

  -- of any other nothing stands
  pub found_nowhere : (homes : Homes) (covers : Covers) (d : ℕ) (name : List ℕ) → is_known homes d ≡ false → finmap.get (tree_of homes covers names) (dentry_of d name) ≡ None
  found_nowhere homes covers d name unknown = found homes covers d name ∙ ap (λ b. cond b (first_of d name (leaves_of covers d)) None) unknown
