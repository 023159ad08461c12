-- The records that a walk adds are those of the reached directories.
use Rattle.std.proofs.Common.{◌≡◌, ◌⊎◌, inl, inr, ℕ, T, List, [], ◌∷◌, ◌++◌, Option, Some, None, refl, sym, ap, subst, ◌∙◌, arith}
use Rattle.std.specs.Prelude.{◌+◌}
use Rattle.std.specs.Option.{unwrap_or}
use Rattle.std.proofs.lemmas.List.{append_assoc, append-nil}
use Rattle.std.proofs.lemmas.Map.Lookups.{exact_bytes}
use Rattle.std.specs.Cmp.Lexicographic.{nat_list_cmp_total}
use Rattle.std.specs.FinMap as map
use Rattle.std.specs.FinMap.{get-empty, is_sorted}
use Rattle.sorted_map.proofs.Bools.{left_of, right_of}
use Rattle.mds_types.specs.Frag.{Fragment}
use Rattle.mds_types.specs.Leaf.{Leaf}
use Rattle.mds_types.specs.declared.ids.Ino.{Ino}
use Rattle.mds_types.specs.declared.inodes.Inode.{Inode}
use Rattle.objstore.specs.Omap.{Omap, key_cmp}
use Rattle.objstore.specs.Objects.{Objects}
use Rattle.fragtree.specs.FragTree.{HasLeaf, Tiles}
use Rattle.fragtree.proofs.Ranges.{span_pos}
use Rattle.fragtree.proofs.Tilings.{between}
use Rattle.fragtree.proofs.TreeLaws.{first, first_or_later, later}
use Rattle.dirfrag_codec.specs.EntryRecord.{IsRecordable}
use Rattle.dentry_cache.specs.Loading.{object_of}
use Rattle.dentry_cache.specs.Ties.{names_at}
use Rattle.mds_types.specs.Frag.{span}
use Rattle.cold_store.specs.ColdTree.{IsColdLeaf, IsRecord, Record, SaysLeaves, tree_object_of}
use Rattle.cold_store.specs.Rows.{IsIn, stored_leaves, leaves_said, stored_names, name_record, records_at, records_from, rows_in, rows_of, rows_under}
use Rattle.cold_store.proofs.Members.{below_apart, entry_of, get_entry, in_either, in_left, in_right}
use Rattle.cold_store.proofs.ObjectLaws.{recordable, said_by, says_by}

module _ (leaf : Leaf) where
  pub in_rows : (es : List (List ℕ × Inode)) (r : Record) → IsIn r (rows_of leaf es) → (e : List ℕ × Inode) × IsIn e es × (name_record leaf e ≡ r)
  in_rows [] r h = absurd h
  in_rows (e ∷ es) r (inl same) = (e, inl refl, same)
  in_rows (e ∷ es) r (inr rest) = let w = in_rows es r rest in (w.0, inr w.1, w.2)

  pub rows_have : (es : List (List ℕ × Inode)) (e : List ℕ × Inode) → IsIn e es → IsIn (name_record leaf e) (rows_of leaf es)
  rows_have [] e h = absurd h
  rows_have (x ∷ es) e (inl same) = inl (ap (name_record leaf) same)
  rows_have (x ∷ es) e (inr rest) = inr (rows_have es e rest)

  -- a record that stands before another has another name
  pub names_apart : (es : List (List ℕ × Inode)) (before : List Record) (r : Record) (behind : List Record) (q : Record) → T (is_sorted key_cmp es) → rows_of leaf es ≡ before ++ r ∷ behind → IsIn q before → q.name ≡ r.name → ⊥
  names_apart es [] r behind q sorted is h same = h
  names_apart [] (x ∷ before) r behind q sorted is h same = absurd cc
  names_apart (e ∷ es) (x ∷ before) r behind q sorted is (inl here) same =
      let tail : rows_of leaf es ≡ before ++ r ∷ behind = cc in
      let w = in_rows es r (subst (λ rs. IsIn r rs) (sym tail) (in_right r before (r ∷ behind) (inl refl))) in
      let head : name_record leaf e ≡ x = cc in
      below_apart nat_list_cmp_total e.0 es w.0 (left_of _ _ sorted) w.1 (ap (λ (p : Record). p.name) w.2 ∙ sym same ∙ ap (λ (p : Record). p.name) (sym here) ∙ ap (λ (p : Record). p.name) (sym head))
  names_apart (e ∷ es) (x ∷ before) r behind q sorted is (inr rest) same =
      let tail : rows_of leaf es ≡ before ++ r ∷ behind = cc in
      names_apart es before r behind q (right_of _ _ sorted) tail rest same

-- the first of leaves isn't among the others
pub leaf_apart : (low high : ℕ) (f : Fragment) (fs : List Fragment) → Tiles low high (f ∷ fs) → HasLeaf fs f → ⊥
leaf_apart low high f fs tiles has = absurd (omega (arith, (between (low + span f.bits) high fs f tiles.2 has).1, tiles.1, span_pos f.bits))

module _ (objects : Objects) where
  -- what an object shows at a record's name
  abbrev pub IsHeld : Record → Type 0
  IsHeld r = map.get (names_at (object_of objects r.leaf.0 r.leaf.1)) r.name ≡ Some r.inode

  pub held_of : (r : Record) → IsRecord objects r → IsHeld r
  held_of r rec = ap (λ (o : Option Omap). map.get (names_at o) r.name) rec.there ∙ rec.stands

  pub record_of : (r : Record) → IsColdLeaf objects r.leaf → IsHeld r → IsRecord objects r
  record_of r cold held = go (object_of objects r.leaf.0 r.leaf.1) refl held
    where
      go : (o : Option Omap) → object_of objects r.leaf.0 r.leaf.1 ≡ o → map.get (names_at o) r.name ≡ Some r.inode → IsRecord objects r
      go None is stands = let clash : None ≡ Some r.inode = sym (get-empty key_cmp r.name) ∙ stands in absurd cc
      go (Some object) is stands = record { leaf = cold; object = object; there = is; stands = stands }

  -- a record allows its inode
  pub allowed : (r : Record) → IsRecord objects r → IsRecordable r.inode
  allowed r rec = recordable rec.object.pairs r.name r.inode rec.stands

  -- ---- a leaf

  pub record IsRowAt (leaf : Leaf) (r : Record) : Type 0 where
    pub at : r.leaf ≡ leaf
    pub held : IsHeld r

  pub at_leaf : (leaf : Leaf) (r : Record) → IsIn r (records_at objects leaf) → IsRowAt leaf r
  at_leaf leaf r h =
      let w = in_rows leaf (stored_names objects leaf) r h in
      subst (λ (q : Record). IsRowAt leaf q) w.2 (record { at = refl; held = get_entry nat_list_cmp_total (names_at (object_of objects leaf.0 leaf.1)) w.0 w.1 })

  pub leaf_has : (r : Record) → IsRecord objects r → IsIn r (records_at objects r.leaf)
  leaf_has r rec = rows_have r.leaf (stored_names objects r.leaf) (r.name, r.inode) (entry_of exact_bytes (names_at (object_of objects r.leaf.0 r.leaf.1)) r.name r.inode (held_of r rec))

  pub cold_leaf_of : (leaf : Leaf) → HasLeaf (stored_leaves objects leaf.0) leaf.1 → IsColdLeaf objects leaf
  cold_leaf_of leaf has = go (leaves_said (tree_object_of objects leaf.0)) refl has
    where
      go : (o : Option (List Fragment)) → leaves_said (tree_object_of objects leaf.0) ≡ o → HasLeaf (unwrap_or o []) leaf.1 → IsColdLeaf objects leaf
      go None is (k, less, at) = absurd (omega (arith, less))
      go (Some leaves) is has = (leaves, says_by (tree_object_of objects leaf.0) leaves is, has)

  pub leaves_are : (d : Ino) (leaves : List Fragment) → SaysLeaves (tree_object_of objects d) leaves → stored_leaves objects d ≡ leaves
  leaves_are d leaves says = ap (λ (o : Option (List Fragment)). unwrap_or o []) (said_by (tree_object_of objects d) leaves says)

  pub of_cold_leaf : (leaf : Leaf) → IsColdLeaf objects leaf → HasLeaf (stored_leaves objects leaf.0) leaf.1
  of_cold_leaf leaf (leaves, says, has) = subst (λ ls. HasLeaf ls leaf.1) (sym (leaves_are leaf.0 leaves says)) has

  -- a record of one of its directory's leaves is one of the store
  pub of_leaf : (leaf : Leaf) (r : Record) → IsColdLeaf objects leaf → IsIn r (records_at objects leaf) → IsRecord objects r
  of_leaf leaf r cold h = let w = at_leaf leaf r h in record_of r (subst (IsColdLeaf objects) (sym w.at) cold) w.held

  -- ---- leaves of a directory

  pub record IsRowUnder (d : Ino) (fs : List Fragment) (r : Record) : Type 0 where
    pub frag : Fragment
    pub of : HasLeaf fs frag
    pub at : IsRowAt (d, frag) r

  pub under : (d : Ino) (fs : List Fragment) (r : Record) → IsIn r (rows_under objects d fs) → IsRowUnder d fs r
  under d [] r h = absurd h
  under d (f ∷ fs) r h = go (under d fs r) (in_either r (records_at objects (d, f)) (rows_under objects d fs) h)
    where
      go : (IsIn r (rows_under objects d fs) → IsRowUnder d fs r) → IsIn r (records_at objects (d, f)) ⊎ IsIn r (rows_under objects d fs) → IsRowUnder d (f ∷ fs) r
      go more (inl here) = record { frag = f; of = first f fs; at = at_leaf (d, f) r here }
      go more (inr rest) = let w = more rest in record { frag = w.frag; of = later f w.frag fs w.of; at = w.at }

  pub under_has : (d : Ino) (fs : List Fragment) (f : Fragment) (r : Record) → HasLeaf fs f → IsIn r (records_at objects (d, f)) → IsIn r (rows_under objects d fs)
  under_has d [] f r (k, less, is) at = absurd (omega (arith, less))
  under_has d (g ∷ fs) f r has at = go (under_has d fs f r) (first_or_later g f fs has)
    where
      go : (HasLeaf fs f → IsIn r (records_at objects (d, f)) → IsIn r (rows_under objects d fs)) → (g ≡ f) ⊎ HasLeaf fs f → IsIn r (rows_under objects d (g ∷ fs))
      go more (inl same) = in_left r _ _ (subst (λ k. IsIn r (records_at objects (d, k))) (sym same) at)
      go more (inr rest) = in_right r (records_at objects (d, g)) _ (more rest at)

  -- ---- directories

  pub in_dir : (d : Ino) (r : Record) → IsIn r (rows_in objects d) → (r.leaf.0 ≡ d) × IsRecord objects r
  in_dir d r h =
      let w = under d (stored_leaves objects d) r h in
      (ap (λ (l : Leaf). l.0) w.at.at, record_of r (subst (IsColdLeaf objects) (sym w.at.at) (cold_leaf_of (d, w.frag) w.of)) w.at.held)

  pub in_dirs : (ds : List Ino) (r : Record) → IsIn r (records_from objects ds) → IsIn r.leaf.0 ds × IsRecord objects r
  in_dirs [] r h = absurd h
  in_dirs (d ∷ ds) r h = go (in_dirs ds r) (in_either r (rows_in objects d) (records_from objects ds) h)
    where
      go : (IsIn r (records_from objects ds) → IsIn r.leaf.0 ds × IsRecord objects r) → IsIn r (rows_in objects d) ⊎ IsIn r (records_from objects ds) → IsIn r.leaf.0 (d ∷ ds) × IsRecord objects r
      go more (inl here) = let w = in_dir d r here in (inl (sym w.0), w.1)
      go more (inr rest) = let w = more rest in (inr w.0, w.1)

  pub dirs_have : (ds : List Ino) (r : Record) → IsIn r.leaf.0 ds → IsRecord objects r → IsIn r (records_from objects ds)
  dirs_have [] r h rec = absurd h
  dirs_have (d ∷ ds) r (inl same) rec =
      in_left r _ _ (subst (λ k. IsIn r (rows_in objects k)) (sym same) (under_has r.leaf.0 (stored_leaves objects r.leaf.0) r.leaf.1 r (of_cold_leaf r.leaf rec.leaf) (leaf_has r rec)))
  dirs_have (d ∷ ds) r (inr rest) rec = in_right r (rows_in objects d) _ (dirs_have ds r rest rec)

  pub rows_from-snoc : (ds : List Ino) (d : Ino) → records_from objects (ds ++ d ∷ []) ≡ records_from objects ds ++ rows_in objects d
  rows_from-snoc [] d = append-nil (rows_in objects d)
  rows_from-snoc (e ∷ ds) d = ap (λ rs. rows_in objects e ++ rs) (rows_from-snoc ds d) ∙ sym (append_assoc (rows_in objects e) (records_from objects ds) (rows_in objects d))
