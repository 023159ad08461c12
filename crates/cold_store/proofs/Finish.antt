-- What a walk has found once all directories that it found are walked.
use Rattle.std.proofs.Common.{◌≡◌, ◌⊎◌, inl, inr, ℕ, true, is_some, List, ◌∷◌, Some, refl, sym, ap, subst, ◌∙◌}
use Rattle.std.specs.Prelude.{◌==◌}
use Rattle.std.proofs.lemmas.Bool.{eqb-true, or_cases, or_right}
use Rattle.std.proofs.lemmas.Option.{same_Some}
use Rattle.std.specs.Ordering.{nat_cmp}
use Rattle.std.specs.FinMap as map
use Rattle.std.specs.FinMap.{get-empty}
use Rattle.mds_types.specs.Frag.{Contains, Fragment}
use Rattle.mds_types.specs.Leaf.{Leaf}
use Rattle.mds_types.specs.Tree.{dentry_cmp, dentry_of, is_dir_kind}
use Rattle.mds_types.specs.declared.dentries.Dentry.{Dentry}
use Rattle.mds_types.specs.declared.ids.Ino.{Ino}
use Rattle.mds_types.specs.declared.inodes.Inode.{Inode}
use Rattle.objstore.specs.Omap.{Omap}
use Rattle.objstore.specs.Objects.{Objects}
use Rattle.namehash.specs.Rjenkins.{hash_of}
use Rattle.fragtree.specs.FragTree.{HasLeaf, IsTree}
use Rattle.fragtree.proofs.TreeLaws.{pick_from_leaf}
use Rattle.dentry_cache.specs.Loading.{IsSaved, object_of}
use Rattle.dentry_cache.specs.Ties.{names_at}
use Rattle.inode_table.specs.declared.dirs.Home.{Home}
use Rattle.inode_table.specs.Dirs.{Covers, is_known, leaves_of, or_whole}
use Rattle.inode_table.specs.TreeTable.{HoldsHomes, home_at}
use Rattle.cold_store.specs.ColdTree.{HasRecords, IsColdLeaf, IsReached, IsRecord, IsSamePlace, Record, SaysLeaves, tree_object_of}
use Rattle.cold_store.specs.Rows.{AreGoodDirs, IsIn, Walked, cover_in, covers_from, stored_leaves, records_from, root_alone, with_rows}
use Rattle.cold_store.proofs.Members.{in_empty, value_of}
use Rattle.cold_store.proofs.ObjectLaws.{belongs, good_bare, good_says, said_tree}
use Rattle.cold_store.proofs.RowLaws.{IsEntryOf, IsHomeOf, dentry_at, dir_among, dirs_of, entry_among, home_among, homes_stand, in_dirs_of, is_dir, one_row, rows_stand}
use Rattle.cold_store.proofs.StoreRows.{dirs_have, held_of, in_dirs, leaves_are, of_cold_leaf}
use Rattle.cold_store.proofs.GoodLaws.{IsGood, all_new, each_good, row_among, row_settled}

module _ (objects : Objects) (queue : List Ino) (good : AreGoodDirs objects root_alone queue) (reached : (d : Ino) → IsIn d queue → IsReached objects d.0)
    (whole : queue ≡ record { 0 = 1 } ∷ dirs_of (records_from objects queue)) where
  abbrev rows : List Record
  rows = records_from objects queue

  abbrev end : Walked
  end = with_rows root_alone rows

  -- each reached directory was found
  pub found : (d : ℕ) → IsReached objects d → IsIn (record { 0 = d }) queue
  found _ IsReached.root = subst (λ q. IsIn (record { 0 = 1 }) q) (sym whole) (inl refl)
  found _ (IsReached.named r above rec dir) =
      subst (λ q. IsIn r.inode.ino q) (sym whole) (inr (in_dirs_of r rows (dirs_have objects queue r (found r.leaf.0.0 above) rec) dir))

  row_of : (r : Record) → IsReached objects r.leaf.0.0 → IsRecord objects r → IsIn r rows
  row_of r above rec = dirs_have objects queue r (found r.leaf.0.0 above) rec

  good_at : (d : Ino) → IsReached objects d.0 → IsGood objects d
  good_at d above = each_good objects root_alone queue d good (found d.0 above)

  pub whole_leaf : (leaf : Leaf) → IsReached objects leaf.0.0 → IsColdLeaf objects leaf → IsSaved leaf.1 (object_of objects leaf.0 leaf.1)
  whole_leaf leaf above cold = (good_at leaf.0 above).whole leaf.1 (of_cold_leaf objects leaf cold)

  pub once : (r q : Record) → IsReached objects r.leaf.0.0 → IsRecord objects r → IsReached objects q.leaf.0.0 → IsRecord objects q → r.inode.ino ≡ q.inode.ino → IsSamePlace r q
  once r q ra rr qa qr same =
      let one : r ≡ q = one_row root_alone rows r q (all_new objects root_alone queue good) (row_of r ra rr) (row_of q qa qr) (ap (λ (n : Ino). n.0) same) in
      (ap (λ (x : Record). x.leaf) one, ap (λ (x : Record). x.name) one)

  -- two records at one dentry are one, since a leaf has only its own names
  one_place : (r q : Record) → IsIn r rows → IsIn q rows → r.leaf.0 ≡ q.leaf.0 → r.name ≡ q.name → r.inode ≡ q.inode
  one_place r q h k dir name =
      let a = in_dirs objects queue r h in
      let b = in_dirs objects queue q k in
      let ra = reached r.leaf.0 a.0 in
      let qa = reached q.leaf.0 b.0 in
      let x = belongs r.leaf.1 _ r.name r.inode (whole_leaf r.leaf ra a.1.leaf) (held_of objects r a.1) in
      let y = belongs q.leaf.1 _ q.name q.inode (whole_leaf q.leaf qa b.1.leaf) (held_of objects q b.1) in
      let tree : IsTree (stored_leaves objects q.leaf.0) = subst IsTree (sym (leaves_are objects q.leaf.0 b.1.leaf.0 b.1.leaf.1)) (said_tree (tree_object_of objects q.leaf.0) b.1.leaf.0 b.1.leaf.1) in
      let mine : HasLeaf (stored_leaves objects q.leaf.0) r.leaf.1 = subst (λ d. HasLeaf (stored_leaves objects d) r.leaf.1) dir (of_cold_leaf objects r.leaf a.1.leaf) in
      let pick = pick_from_leaf (stored_leaves objects q.leaf.0) (hash_of q.name) q.leaf.1 tree (of_cold_leaf objects q.leaf b.1.leaf) y in
      let frag : r.leaf.1 ≡ q.leaf.1 = pick.alone r.leaf.1 mine (subst (λ n. Contains r.leaf.1 (hash_of n)) name x) in
      let there : Some r.inode ≡ Some q.inode = sym (held_of objects r a.1) ∙ (λ i. map.get (names_at (object_of objects (dir i) (frag i))) (name i)) ∙ held_of objects q b.1 in
      same_Some r.inode q.inode there

  -- ---- the entries

  entry : (q : Dentry) (i : Inode) → map.get end.tree q ≡ Some i → IsEntryOf rows q i
  entry q i stands = go (entry_among root_alone rows q i stands)
    where
      go : (map.get (map.empty {R = dentry_cmp}) q ≡ Some i) ⊎ IsEntryOf rows q i → IsEntryOf rows q i
      go (inl none) = in_empty dentry_cmp q i none
      go (inr w) = w

  row_stands : (r : Record) → IsIn r rows → map.get end.tree (dentry_at r) ≡ Some r.inode
  row_stands r h =
      let v = value_of (map.get end.tree (dentry_at r)) (rows_stand root_alone rows r h) in
      let w = entry (dentry_at r) v.0 v.1 in
      let one : w.row.inode ≡ r.inode = one_place w.row r w.among h (ap (λ (p : Dentry). p.dir) w.at) (ap (λ (p : Dentry). p.name) w.at) in
      v.1 ∙ ap Some (sym w.is ∙ one)

  pub records : HasRecords objects end.tree
  records = record { only = only; all = λ r above rec. row_stands r (row_of r above rec) }
    where
      only : (d : ℕ) (name : List ℕ) (inode : Inode) → map.get end.tree (dentry_of d name) ≡ Some inode → (f : Fragment) × IsReached objects d × IsRecord objects (record { leaf = (record { 0 = d }, f); name = name; inode = inode })
      only d name inode stands =
          let w = entry (dentry_of d name) inode stands in
          let rec = in_dirs objects queue w.row w.among in
          let same : w.row ≡ record { leaf = (record { 0 = d }, w.row.leaf.1); name = name; inode = inode } = λ i. record { leaf = ((w.at i).dir, w.row.leaf.1); name = (w.at i).name; inode = w.is i } in
          (w.row.leaf.1, subst (λ (k : Dentry). IsReached objects k.dir.0) w.at (reached w.row.leaf.0 rec.0), subst (λ (r : Record). IsRecord objects r) same rec.1)

  -- ---- the homes

  home : (k : ℕ) (h : Home) → map.get end.homes k ≡ Some h → IsHomeOf rows k h
  home k h is = go (home_among root_alone rows k h is)
    where
      go : (map.get (map.empty {R = nat_cmp}) k ≡ Some h) ⊎ IsHomeOf rows k h → IsHomeOf rows k h
      go (inl none) = in_empty nat_cmp k h none
      go (inr w) = w

  row_home : (r : Record) → IsIn r rows → is_dir r ≡ true → map.get end.homes r.inode.ino.0 ≡ Some (home_at (dentry_at r))
  row_home r h dir =
      let v = value_of (map.get end.homes r.inode.ino.0) (homes_stand root_alone rows r h dir) in
      let w = home r.inode.ino.0 v.0 v.1 in
      let one : w.row ≡ r = one_row root_alone rows w.row r (all_new objects root_alone queue good) w.among h w.number in
      v.1 ∙ ap Some (sym w.is ∙ ap (λ (y : Record). home_at (dentry_at y)) one)

  pub homes_held : HoldsHomes end.tree end.homes
  homes_held = record { listed = listed; stands = stands }
    where
      listed : (q : Dentry) (i : Inode) → map.get end.tree q ≡ Some i → is_dir_kind i.kind ≡ true → map.get end.homes i.ino.0 ≡ Some (home_at q)
      listed q i there dir =
          let w = entry q i there in
          ap (λ (x : Inode). map.get end.homes x.ino.0) (sym w.is) ∙ row_home w.row w.among (ap (λ (x : Inode). is_dir_kind x.kind) w.is ∙ dir) ∙ ap (λ (p : Dentry). Some (home_at p)) w.at

      stands : (k : ℕ) (h : Home) → map.get end.homes k ≡ Some h → (inode : Inode) × (map.get end.tree (dentry_of h.parent.0 h.name) ≡ Some inode) × (inode.ino.0 ≡ k) × (is_dir_kind inode.kind ≡ true)
      stands k h is =
          let w = home k h is in
          (w.row.inode, ap (λ (x : Home). map.get end.tree (dentry_of x.parent.0 x.name)) (sym w.is) ∙ row_stands w.row w.among, w.number, w.dir)

  -- what is known was found, and what was found is known
  pub known_found : (d : ℕ) → is_known end.homes d ≡ true → IsIn (record { 0 = d }) queue
  known_found d known = go (or_cases (d == 1) (is_some (map.get end.homes d)) known)
    where
      of_home : (h : Home) → map.get end.homes d ≡ Some h → IsIn (record { 0 = d }) queue
      of_home h is =
          let w = home d h is in
          let same : w.row.inode.ino ≡ record { 0 = d } = λ i. record { 0 = w.number i } in
          subst (λ q. IsIn (record { 0 = d }) q) (sym whole) (inr (subst (λ (n : Ino). IsIn n (dirs_of rows)) same (in_dirs_of w.row rows w.among w.dir)))

      go : ((d == 1) ≡ true) ⊎ (is_some (map.get end.homes d) ≡ true) → IsIn (record { 0 = d }) queue
      go (inl root) = subst (λ q. IsIn (record { 0 = d }) q) (sym whole) (inl (λ i. record { 0 = sym (eqb-true d 1 root) i }))
      go (inr some) = let h = value_of (map.get end.homes d) some in of_home h.0 h.1

  pub found_known : (d : Ino) → IsIn d queue → is_known end.homes d.0 ≡ true
  found_known d h = go (subst (IsIn d) whole h)
    where
      go : (record { 0 = 1 } ≡ d) ⊎ IsIn d (dirs_of rows) → is_known end.homes d.0 ≡ true
      go (inl root) = subst (λ (k : Ino). is_known end.homes k.0 ≡ true) root refl
      go (inr more) =
          let w = dir_among d rows more in
          subst (λ (k : Ino). is_known end.homes k.0 ≡ true) w.is (or_right (w.row.inode.ino.0 == 1) _ (homes_stand root_alone rows w.row w.among w.dir))

  -- ---- the leaves

  abbrev no_rows : Covers
  no_rows = map.empty

  abbrev covers : Covers
  covers = covers_from objects no_rows queue

  pub row_known : (d : ℕ) (leaves : List Fragment) → map.get covers d ≡ Some leaves → is_known end.homes d ≡ true
  row_known d leaves is = go (row_among objects no_rows queue d leaves is)
    where
      go : (map.get no_rows d ≡ Some leaves) ⊎ IsIn (record { 0 = d }) queue → is_known end.homes d ≡ true
      go (inl none) = in_empty nat_cmp d leaves none
      go (inr h) = found_known (record { 0 = d }) h

  leaves_as : (d : Ino) → IsIn d queue → leaves_of covers d.0 ≡ or_whole (cover_in objects d)
  leaves_as d h = ap or_whole (row_settled objects no_rows queue d (inr (get-empty nat_cmp d.0)) h)

  pub found_says : (d : Ino) → IsIn d queue → SaysLeaves (tree_object_of objects d) (leaves_of covers d.0)
  found_says d h = subst (SaysLeaves (tree_object_of objects d)) (sym (leaves_as d h)) (good_says (tree_object_of objects d) (cover_in objects d) (each_good objects root_alone queue d good h).tree)

  pub bare : (d : Ino) (object : Omap) → IsIn d queue → tree_object_of objects d ≡ Some object → object.pairs ≡ map.empty
  bare d object h there = good_bare (tree_object_of objects d) (cover_in objects d) object (each_good objects root_alone queue d good h).tree there
