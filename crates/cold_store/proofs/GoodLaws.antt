-- Directories in which nothing is bad, and the rows of leaves that they leave.
use Rattle.std.proofs.Common.{◌≡◌, ◌⊎◌, inl, inr, ℕ, true, List, [], ◌∷◌, ◌++◌, Option, Some, None, refl, sym, subst, ◌∙◌}
use Rattle.std.specs.FinMap as map
use Rattle.sorted_map.proofs.NatKeys.{after_put, get_put, get_beside, same_or_apart}
use Rattle.mds_types.specs.Frag.{Fragment}
use Rattle.mds_types.specs.declared.ids.Ino.{Ino}
use Rattle.objstore.specs.Objects.{Objects}
use Rattle.fragtree.specs.FragTree.{HasLeaf}
use Rattle.fragtree.proofs.TreeLaws.{first_or_later}
use Rattle.dentry_cache.specs.Loading.{IsSaved, object_of}
use Rattle.inode_table.specs.Dirs.{Covers}
use Rattle.std.proofs.Common.{arith}
use Rattle.cold_store.specs.ColdTree.{tree_object_of}
use Rattle.cold_store.specs.Rows.{AreGoodDirs, AreGoodLeaves, IsGoodDir, IsGoodTree, IsIn, Walked, are_new, cover_in, covers_from, stored_leaves, records_at, records_from, rows_in, rows_under, with_cover, with_rows}
use Rattle.cold_store.proofs.RowLaws.{are_new-append, with_rows-append}

module _ (objects : Objects) where
  pub leaves_new : (s : Walked) (d : Ino) (fs : List Fragment) → AreGoodLeaves objects s d fs → are_new s (rows_under objects d fs) ≡ true
  leaves_new s d [] good = refl
  leaves_new s d (f ∷ fs) good = are_new-append s (records_at objects (d, f)) (rows_under objects d fs) good.0.new (leaves_new (with_rows s (records_at objects (d, f))) d fs good.1)

  pub leaves_whole : (s : Walked) (d : Ino) (fs : List Fragment) (f : Fragment) → AreGoodLeaves objects s d fs → HasLeaf fs f → IsSaved f (object_of objects d f)
  leaves_whole s d [] f good (k, less, is) = absurd (omega (arith, less))
  leaves_whole s d (g ∷ fs) f good has = go (leaves_whole (with_rows s (records_at objects (d, g))) d fs f good.1) (first_or_later g f fs has)
    where
      go : (HasLeaf fs f → IsSaved f (object_of objects d f)) → (g ≡ f) ⊎ HasLeaf fs f → IsSaved f (object_of objects d f)
      go more (inl same) = subst (λ k. IsSaved k (object_of objects d k)) same good.0.whole
      go more (inr rest) = more rest

  pub good-snoc : (s : Walked) (ds : List Ino) (d : Ino) → AreGoodDirs objects s ds → IsGoodDir objects (with_rows s (records_from objects ds)) d → AreGoodDirs objects s (ds ++ d ∷ [])
  good-snoc s [] d good last = (last, tt)
  good-snoc s (e ∷ ds) d good last =
      (good.0, good-snoc (with_rows s (rows_in objects e)) ds d good.1 (subst (λ t. IsGoodDir objects t d) (with_rows-append s (rows_in objects e) (records_from objects ds)) last))

  pub all_new : (s : Walked) (ds : List Ino) → AreGoodDirs objects s ds → are_new s (records_from objects ds) ≡ true
  all_new s [] good = refl
  all_new s (d ∷ ds) good = are_new-append s (rows_in objects d) (records_from objects ds) (leaves_new s d (stored_leaves objects d) good.0.leaves) (all_new (with_rows s (rows_in objects d)) ds good.1)

  -- what stands whatever was found before
  pub record IsGood (d : Ino) : Type 0 where
    pub tree : IsGoodTree (tree_object_of objects d) (cover_in objects d)
    pub whole : (f : Fragment) → HasLeaf (stored_leaves objects d) f → IsSaved f (object_of objects d f)

  pub each_good : (s : Walked) (ds : List Ino) (d : Ino) → AreGoodDirs objects s ds → IsIn d ds → IsGood d
  each_good s [] d good h = absurd h
  each_good s (e ∷ ds) d good (inl same) = subst (λ k. IsGood k) same (record { tree = good.0.tree; whole = λ f has. leaves_whole s e (stored_leaves objects e) f good.0.leaves has })
  each_good s (e ∷ ds) d good (inr rest) = each_good (with_rows s (rows_in objects e)) ds d good.1 rest

  -- ---- rows of leaves

  pub covers_from-snoc : (covers : Covers) (ds : List Ino) (d : Ino) → covers_from objects covers (ds ++ d ∷ []) ≡ with_cover (covers_from objects covers ds) d (cover_in objects d)
  covers_from-snoc covers [] d = refl
  covers_from-snoc covers (e ∷ ds) d = covers_from-snoc (with_cover covers e (cover_in objects e)) ds d

  -- a row is that of one of the directories, or was there before
  row_from : (covers : Covers) (d : Ino) (o : Option (List Fragment)) (k : ℕ) (leaves : List Fragment) → map.get (with_cover covers d o) k ≡ Some leaves → (map.get covers k ≡ Some leaves) ⊎ (k ≡ d.0)
  row_from covers d None k leaves is = inl is
  row_from covers d (Some row) k leaves is = go (after_put covers d.0 row k leaves is)
    where
      go : ((k ≡ d.0) × (row ≡ leaves)) ⊎ ((k ≡ d.0 → ⊥) × (map.get covers k ≡ Some leaves)) → (map.get covers k ≡ Some leaves) ⊎ (k ≡ d.0)
      go (inl here) = inr here.0
      go (inr before) = inl before.1

  pub row_among : (covers : Covers) (ds : List Ino) (k : ℕ) (leaves : List Fragment) → map.get (covers_from objects covers ds) k ≡ Some leaves → (map.get covers k ≡ Some leaves) ⊎ IsIn (record { 0 = k }) ds
  row_among covers [] k leaves is = inl is
  row_among covers (d ∷ ds) k leaves is = go (row_among (with_cover covers d (cover_in objects d)) ds k leaves is)
    where
      last : (map.get covers k ≡ Some leaves) ⊎ (k ≡ d.0) → (map.get covers k ≡ Some leaves) ⊎ IsIn (record { 0 = k }) (d ∷ ds)
      last (inl before) = inl before
      last (inr same) = inr (inl (λ i. record { 0 = sym same i }))

      go : (map.get (with_cover covers d (cover_in objects d)) k ≡ Some leaves) ⊎ IsIn (record { 0 = k }) ds → (map.get covers k ≡ Some leaves) ⊎ IsIn (record { 0 = k }) (d ∷ ds)
      go (inl before) = last (row_from covers d (cover_in objects d) k leaves before)
      go (inr rest) = inr (inr rest)

  -- a directory has the row that its tree object gives, or none yet
  abbrev IsSettled : Covers → Ino → Type 0
  IsSettled covers d = map.get covers d.0 ≡ cover_in objects d

  abbrev IsOpen : Covers → Ino → Type 0
  IsOpen covers d = IsSettled covers d ⊎ (map.get covers d.0 ≡ None)

  settles : (covers : Covers) (d : Ino) → IsOpen covers d → IsSettled (with_cover covers d (cover_in objects d)) d
  settles covers d free = go (cover_in objects d) refl free
    where
      go : (o : Option (List Fragment)) → cover_in objects d ≡ o → (map.get covers d.0 ≡ o) ⊎ (map.get covers d.0 ≡ None) → map.get (with_cover covers d o) d.0 ≡ o
      go None is (inl settled) = settled
      go None is (inr none) = none
      go (Some row) is h = get_put covers d.0 row

  beside : (covers : Covers) (e : Ino) (o : Option (List Fragment)) (k : ℕ) → (k ≡ e.0 → ⊥) → map.get (with_cover covers e o) k ≡ map.get covers k
  beside covers e None k apart = refl
  beside covers e (Some row) k apart = get_beside covers e.0 row k apart

  stays_settled : (covers : Covers) (d e : Ino) → IsSettled covers d → IsSettled (with_cover covers e (cover_in objects e)) d
  stays_settled covers d e settled = go (same_or_apart d.0 e.0)
    where
      go : (d.0 ≡ e.0) ⊎ (d.0 ≡ e.0 → ⊥) → IsSettled (with_cover covers e (cover_in objects e)) d
      go (inl same) = let one : d ≡ e = λ i. record { 0 = same i } in subst (λ k. IsSettled (with_cover covers k (cover_in objects k)) d) one (settles covers d (inl settled))
      go (inr apart) = beside covers e (cover_in objects e) d.0 apart ∙ settled

  stays_open : (covers : Covers) (d e : Ino) → IsOpen covers d → IsOpen (with_cover covers e (cover_in objects e)) d
  stays_open covers d e (inl settled) = inl (stays_settled covers d e settled)
  stays_open covers d e (inr none) = go (same_or_apart d.0 e.0)
    where
      go : (d.0 ≡ e.0) ⊎ (d.0 ≡ e.0 → ⊥) → IsOpen (with_cover covers e (cover_in objects e)) d
      go (inl same) = let one : d ≡ e = λ i. record { 0 = same i } in inl (subst (λ k. IsSettled (with_cover covers k (cover_in objects k)) d) one (settles covers d (inr none)))
      go (inr apart) = inr (beside covers e (cover_in objects e) d.0 apart ∙ none)

  all_settled : (covers : Covers) (ds : List Ino) (d : Ino) → IsSettled covers d → IsSettled (covers_from objects covers ds) d
  all_settled covers [] d settled = settled
  all_settled covers (e ∷ ds) d settled = all_settled (with_cover covers e (cover_in objects e)) ds d (stays_settled covers d e settled)

  pub row_settled : (covers : Covers) (ds : List Ino) (d : Ino) → (map.get covers d.0 ≡ cover_in objects d) ⊎ (map.get covers d.0 ≡ None) → IsIn d ds → map.get (covers_from objects covers ds) d.0 ≡ cover_in objects d
  row_settled covers [] d free h = absurd h
  row_settled covers (e ∷ ds) d free (inl same) =
      all_settled (with_cover covers e (cover_in objects e)) ds d (subst (λ k. IsSettled (with_cover covers k (cover_in objects k)) d) (sym same) (settles covers d free))
  row_settled covers (e ∷ ds) d free (inr rest) = row_settled (with_cover covers e (cover_in objects e)) ds d (stays_open covers d e free) rest
