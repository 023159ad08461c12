-- What a walk found is what the definition asks.
use Rattle.std.proofs.Common.{◌≡◌, ◌⊎◌, inl, inr, ℕ, true, is_some, List, [], ◌∷◌, length, take, Some, None, refl, sym, ap, subst, ◌∙◌, arith}
use Rattle.std.specs.Prelude.{◌==◌}
use Rattle.std.proofs.lemmas.Bool.{or_right}
use Rattle.std.proofs.lemmas.List.{take_all}
use Rattle.std.specs.FinMap as map
use Rattle.std.specs.FinMap.{get-empty}
use Rattle.mds_types.specs.Frag.{Fragment}
use Rattle.mds_types.specs.ObjectText.{object_text}
use Rattle.mds_types.specs.Tree.{Tree, dentry_of}
use Rattle.mds_types.specs.declared.ids.Ino.{Ino}
use Rattle.mds_types.specs.declared.object_names.ObjName.TheVariants.{Frag as FragOf}
use Rattle.objstore.specs.Omap.{Keys}
use Rattle.objstore.specs.Objects.{Objects}
use Rattle.fragtree.specs.FragTree.{HasLeaf}
use Rattle.fragtree.proofs.TreeLaws.{first, first_or_later, later, some_pick}
use Rattle.dentry_cache.specs.Loading.{Loads, object_of}
use Rattle.inode_table.specs.Dirs.{Covers, Homes, is_known, leaves_of}
use Rattle.inode_table.specs.TreeTable.{HoldsHomes}
use Rattle.cold_store.specs.ColdTree.{HasNoFault, HasRecords, IsColdTree, IsFaulty, IsReached, SaysLeaves, tree_object_of}
use Rattle.cold_store.specs.Left.{AreAllBut, leaf_texts, texts_from, texts_in}
use Rattle.cold_store.specs.Rows.{AreGoodDirs, Finding, IsIn, IsWalkedTo, Walked, covers_from, records_from, root_alone, with_rows}
use Rattle.cold_store.specs.Walked.{IsReachedObject, IsWalked}
use Rattle.cold_store.proofs.Members.{in_either, in_left, in_right}
use Rattle.cold_store.proofs.ObjectLaws.{said_tree, whole_loads}
use Rattle.cold_store.proofs.RowLaws.{dirs_of, queue_after}
use Rattle.cold_store.proofs.StoreRows.{leaves_are, of_cold_leaf}
use Rattle.cold_store.proofs.Finish.{bare, found, found_says, homes_held, known_found, once, records, row_known, whole_leaf}

-- ---- the names of the objects of directories

in_texts : (d : Ino) (leaves : List Fragment) (f : Fragment) → HasLeaf leaves f → IsIn (object_text (FragOf d f)) (leaf_texts d leaves)
in_texts d [] f (k, less, is) = absurd (omega (arith, less))
in_texts d (g ∷ leaves) f has = go (first_or_later g f leaves has) (in_texts d leaves f)
  where
    go : (g ≡ f) ⊎ HasLeaf leaves f → (HasLeaf leaves f → IsIn (object_text (FragOf d f)) (leaf_texts d leaves)) → IsIn (object_text (FragOf d f)) (leaf_texts d (g ∷ leaves))
    go (inl same) more = inl (ap (λ h. object_text (FragOf d h)) same)
    go (inr rest) more = inr (more rest)

text_of : (d : Ino) (leaves : List Fragment) (name : List ℕ) → IsIn name (leaf_texts d leaves) → (f : Fragment) × HasLeaf leaves f × (name ≡ object_text (FragOf d f))
text_of d [] name h = absurd h
text_of d (g ∷ leaves) name (inl same) = (g, first g leaves, sym same)
text_of d (g ∷ leaves) name (inr rest) = let w = text_of d leaves name rest in (w.0, later g w.0 leaves w.1, w.2)

texts_have : (covers : Covers) (ds : List Ino) (d : Ino) (name : List ℕ) → IsIn d ds → IsIn name (texts_in covers d) → IsIn name (texts_from covers ds)
texts_have covers [] d name h at = absurd h
texts_have covers (e ∷ ds) d name (inl same) at = in_left name (texts_in covers e) (texts_from covers ds) (subst (λ k. IsIn name (texts_in covers k)) (sym same) at)
texts_have covers (e ∷ ds) d name (inr rest) at = in_right name (texts_in covers e) (texts_from covers ds) (texts_have covers ds d name rest at)

text_among : (covers : Covers) (ds : List Ino) (name : List ℕ) → IsIn name (texts_from covers ds) → (d : Ino) × IsIn d ds × IsIn name (texts_in covers d)
text_among covers [] name h = absurd h
text_among covers (d ∷ ds) name h = go (in_either name (texts_in covers d) (texts_from covers ds) h) (text_among covers ds name)
  where
    go : IsIn name (texts_in covers d) ⊎ IsIn name (texts_from covers ds) → (IsIn name (texts_from covers ds) → (k : Ino) × IsIn k ds × IsIn name (texts_in covers k)) → (k : Ino) × IsIn k (d ∷ ds) × IsIn name (texts_in covers k)
    go (inl here) more = (d, inl refl, here)
    go (inr rest) more = let w = more rest in (w.0, inr w.1, w.2)

-- ---- what was found

module _ (objects : Objects) (finding : Finding) (left : Keys) (w : IsWalkedTo objects finding (length finding.shape.queue)) (rest : AreAllBut objects (texts_from finding.covers finding.shape.queue) left) where
  abbrev queue : List Ino
  queue = finding.shape.queue

  all : take (length queue) queue ≡ queue
  all = take_all (length queue) queue (omega arith)

  good : AreGoodDirs objects root_alone queue
  good = subst (λ ds. AreGoodDirs objects root_alone ds) all w.good

  walked : finding.shape ≡ with_rows root_alone (records_from objects queue)
  walked = w.walked ∙ ap (λ ds. with_rows root_alone (records_from objects ds)) all

  covered : finding.covers ≡ covers_from objects map.empty queue
  covered = w.covered ∙ ap (λ ds. covers_from objects map.empty ds) all

  whole : queue ≡ record { 0 = 1 } ∷ dirs_of (records_from objects queue)
  whole = ap (λ (t : Walked). t.queue) walked ∙ queue_after root_alone (records_from objects queue)

  says : (d : Ino) → IsIn d queue → SaysLeaves (tree_object_of objects d) (leaves_of finding.covers d.0)
  says d h = subst (λ c. SaysLeaves (tree_object_of objects d) (leaves_of c d.0)) (sym covered) (found_says objects queue good w.reached whole d h)

  reached_text : (name : List ℕ) → IsReachedObject objects name → IsIn name (texts_from finding.covers queue)
  reached_text name (inl (leaf, above, cold, is)) =
      let h = found objects queue good w.reached whole leaf.0.0 above in
      let has : HasLeaf (leaves_of finding.covers leaf.0.0) leaf.1 = subst (λ ls. HasLeaf ls leaf.1) (leaves_are objects leaf.0 (leaves_of finding.covers leaf.0.0) (says leaf.0 h)) (of_cold_leaf objects leaf cold) in
      texts_have finding.covers queue leaf.0 name h (inr (subst (λ n. IsIn n (leaf_texts leaf.0 (leaves_of finding.covers leaf.0.0))) (sym is) (in_texts leaf.0 (leaves_of finding.covers leaf.0.0) leaf.1 has)))
  reached_text name (inr (dir, above, is)) = texts_have finding.covers queue dir name (found objects queue good w.reached whole dir.0 above) (inl (sym is))

  text_reached : (name : List ℕ) → IsIn name (texts_from finding.covers queue) → IsReachedObject objects name
  text_reached name h = go (text_among finding.covers queue name h)
    where
      pick : (d : Ino) → IsIn d queue → IsIn name (texts_in finding.covers d) → IsReachedObject objects name
      pick d here (inl same) = inr (d, w.reached d here, sym same)
      pick d here (inr more) = let t = text_of d (leaves_of finding.covers d.0) name more in inl ((d, t.0), w.reached d here, (leaves_of finding.covers d.0, says d here, t.1), t.2)

      go : (d : Ino) × IsIn d queue × IsIn name (texts_in finding.covers d) → IsReachedObject objects name
      go (d, here, at) = pick d here at

  reached_or_left : (name : List ℕ) → is_some (map.get objects name) ≡ true → IsReachedObject objects name ⊎ (is_some (map.get left name) ≡ true)
  reached_or_left name some = go (rest.others name some)
    where
      go : IsIn name (texts_from finding.covers queue) ⊎ (map.contains_key left name ≡ true) → IsReachedObject objects name ⊎ (is_some (map.get left name) ≡ true)
      go (inl among) = inl (text_reached name among)
      go (inr stays) = inr stays

  known_in : (d : ℕ) → is_known finding.shape.homes d ≡ true → IsIn (record { 0 = d }) queue
  known_in d known = known_found objects queue good w.reached whole d (subst (λ (t : Walked). is_known t.homes d ≡ true) walked known)

  pub is_walked : IsWalked objects finding.shape.tree finding.shape.homes finding.covers left
  is_walked = record {
    whole = whole_leaf objects queue good w.reached whole;
    once = once objects queue good w.reached whole;
    records = subst (λ (t : Walked). HasRecords objects t.tree) (sym walked) (records objects queue good w.reached whole);
    homes_held = subst (λ (t : Walked). HoldsHomes t.tree t.homes) (sym walked) (homes_held objects queue good w.reached whole);
    rows = λ d leaves is. subst (λ (t : Walked). is_known t.homes d ≡ true) (sym walked) (row_known objects queue good w.reached whole d leaves (subst (λ c. map.get c d ≡ Some leaves) covered is));
    leaves = λ dir known. says dir (known_in dir.0 known);
    bare = λ dir object known there. bare objects queue good w.reached whole dir object (known_in dir.0 known) there;
    reached_or_left = reached_or_left;
    not_reached = λ name some is. rest.apart name some (reached_text name is);
    there = rest.there;
  }

-- the same of equal parts
pub walked_as : (objects now : Objects) (finding : Finding) (left keys : Keys) (tree : Tree) (homes : Homes) (covers : Covers) → IsWalkedTo objects finding (length finding.shape.queue) → now ≡ objects
    → AreAllBut now (texts_from finding.covers finding.shape.queue) left → tree ≡ finding.shape.tree → homes ≡ finding.shape.homes → covers ≡ finding.covers → keys ≡ left → IsWalked objects tree homes covers keys
walked_as objects now finding left keys tree homes covers w same rest t h c k =
    let parts : ◌≡◌ {A = Tree × Homes × Covers × Keys} (finding.shape.tree, finding.shape.homes, finding.covers, left) (tree, homes, covers, keys) = λ i. (sym t i, sym h i, sym c i, sym k i) in
    subst (λ (p : Tree × Homes × Covers × Keys). IsWalked objects p.0 p.1 p.2 p.3) parts (is_walked objects finding left w (subst (λ o. AreAllBut o (texts_from finding.covers finding.shape.queue) left) same rest))

-- ---- what was walked is the cold tree

module _ (objects : Objects) (tree : Tree) (homes : Homes) (covers : Covers) (left : Keys) (w : IsWalked objects tree homes covers left) where
  pub known_there : (d : ℕ) → IsReached objects d → is_known homes d ≡ true
  known_there _ IsReached.root = refl
  known_there _ (IsReached.named r above rec dir) =
      or_right (r.inode.ino.0 == 1) _ (ap is_some (w.homes_held.listed (dentry_of r.leaf.0.0 r.name) r.inode (w.records.all r above rec) dir))

  no_fault : HasNoFault objects
  no_fault _ (IsFaulty.bad_tree dir object above there off) =
      let known = known_there dir.0 above in
      off (leaves_of covers dir.0) (record { header = subst (λ o. SaysLeaves o (leaves_of covers dir.0)) there (w.leaves dir known); pairs = w.bare dir object known there })
  no_fault _ (IsFaulty.bad_leaf leaf above of off) = whole_loads leaf.1 (object_of objects leaf.0 leaf.1) (w.whole leaf above of) off
  no_fault _ (IsFaulty.repeated r q ra rr qa qr same apart) = apart (w.once r q ra rr qa qr same)

  some_object : objects ≡ map.empty → ⊥
  some_object none =
      let says = w.leaves (record { 0 = 1 }) refl in
      let p = some_pick (leaves_of covers 1) 0 (said_tree (tree_object_of objects (record { 0 = 1 })) (leaves_of covers 1) says) in
      whole_loads p.0 (object_of objects (record { 0 = 1 }) p.0) (w.whole (record { 0 = 1 }, p.0) IsReached.root (leaves_of covers 1, says, p.1.stands))
      (subst (λ o. Loads p.0 o None) (sym (ap (λ m. object_of m (record { 0 = 1 }) p.0) none ∙ get-empty _ _)) tt)

  pub is_cold : IsColdTree objects tree
  is_cold = inr (some_object, no_fault, w.records)
