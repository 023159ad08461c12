-- The cold tree of a state of which all is saved is the shown tree, and once all is purged its objects are exact.
use Rattle.mdcache.proofs.Common.{FlushedIsCold, Fragment, HasLeaf, HasNoFault, HasRecords, Ino, Inode, IsColdLeaf, IsColdTree, IsFaulty, IsFlushed, IsLive, IsPick, IsReached, IsRecord, IsSaved, IsSound, IsTabled, IsTree, List, Names, None, Omap, Option, PurgedAreExact, Reaches, Record, SaysLeaves, Some, SpellsTreeObject, State, [], ap, arith, cond, cond_both, dentry_of, eqb-true, false, get-empty, hash_of, in_empty, inl, inr, is_known, is_some, key_cmp, known_by, leaves_of, length, lt-ltb, ltb-false, ltb-true, names_at, nat_lt, object_of, one_pick, or_cases, pow-lt, refl, root_fragment, said_by, same_Some, same_or_apart, shown_at, shown_tree, subst, suc, sym, tree_object, tree_object_of, tree_of_row, true, value_of, whole_loads, zero, ℕ, ⊎_elim, ◌-◌, ◌<◌, ◌==◌, ◌^◌, ◌∙◌, ◌∷◌, ◌≡◌, ◌⊎◌}
use Rattle.std.specs.FinMap as map
use Rattle.mds_types.specs.Leaf.{Leaf}
use Rattle.mdcache.specs.Shown.{names_of as shown_names}
use Rattle.mdcache.proofs.CoverRows.{known_by_row}
use Rattle.mdcache.proofs.NamedLaws.{HasSoundLeaves, known_or_not, pick_at, sound_leaves, stands_at, stands_nowhere}

-- a tree of fewer than two leaves is `*` alone
one_leaf : (leaves : List Fragment) → IsTree leaves → nat_lt 1 (length leaves) ≡ false → leaves ≡ root_fragment ∷ []
one_leaf [] tree few = absurd (omega (arith, tree.tiles))
one_leaf (f ∷ []) tree few = ⊎_elim (λ none. λ i. record { bits = none i; value = tree.tiles.1 i } ∷ [])
    (λ some.
    let less : 24 - f.bits < 24 = omega (arith, some, tree.tiles.0.few_bits) in
    let clash : 2 ^ (24 - f.bits) < 2 ^ 24 = pow-lt less in
    absurd (omega (arith, clash, tree.tiles.2))) (same_or_apart f.bits 0)
one_leaf (f ∷ g ∷ fs) tree few = let most = ltb-false 1 (length (f ∷ g ∷ fs)) few in absurd (omega (arith, most))

-- what an object shows tells that it is there
object_with : (o : Option Omap) (name : List ℕ) (inode : Inode) → map.get (names_at o) name ≡ Some inode → (object : Omap) × (o ≡ Some object) × (map.get (names_at (Some object)) name ≡ Some inode)
object_with None name inode has = in_empty key_cmp name inode has
object_with (Some object) name inode has = (object, refl, has)

-- ---- a state of which nothing is unsaved, and whose directories have the leaves that their objects say

module _ (s : State) (clean : s.unsaved ≡ map.empty) (says : (dir : Ino) → is_known s.homes dir.0 ≡ true → SaysLeaves (tree_object_of s.objects dir) (leaves_of s.covers dir.0)) where
  pub none_unsaved : (leaf : Leaf) → map.get s.unsaved leaf ≡ None
  none_unsaved leaf = ap (λ m. map.get m leaf) clean ∙ get-empty _ leaf

  -- what a leaf shows is what its object shows
  pub shown_as : (leaf : Leaf) → shown_names s.unsaved s.objects leaf ≡ names_at (object_of s.objects leaf.0 leaf.1)
  unfolding shown_names
  shown_as leaf = ap (λ u. shown_at u (object_of s.objects leaf.0 leaf.1)) (none_unsaved leaf)

  -- a leaf in the store, of a known directory, is live, and the other way round
  pub live_leaf : (leaf : Leaf) → is_known s.homes leaf.0.0 ≡ true → IsColdLeaf s.objects leaf → IsLive s.homes s.covers leaf
  live_leaf leaf known (leaves, said, has) =
      let same : leaves ≡ leaves_of s.covers leaf.0.0 = same_Some _ _ (sym (said_by (tree_object_of s.objects leaf.0) leaves said) ∙ said_by (tree_object_of s.objects leaf.0) (leaves_of s.covers leaf.0.0) (says leaf.0 known)) in
      record { known = known; stands = subst (λ ls. HasLeaf ls leaf.1) same has }

  pub cold_leaf : (leaf : Leaf) → IsLive s.homes s.covers leaf → IsColdLeaf s.objects leaf
  cold_leaf leaf live = (leaves_of s.covers leaf.0.0, says leaf.0 live.known, live.stands)

  module _ (sound : HasSoundLeaves s) where
    -- a record of a known directory stands in the leaf that its name picks,
    record_at : (r : Record) → IsRecord s.objects r → map.get (shown_names s.unsaved s.objects r.leaf) r.name ≡ Some r.inode
    record_at r rec = ap (λ (n : Names). map.get n r.name) (shown_as r.leaf ∙ ap names_at rec.there) ∙ rec.stands

    record_pick : (r : Record) → is_known s.homes r.leaf.0.0 ≡ true → IsRecord s.objects r → IsPick (leaves_of s.covers r.leaf.0.0) (hash_of r.name) r.leaf.1
    record_pick r known rec = sound.placed r.leaf r.name r.inode (live_leaf r.leaf known rec.leaf) (record_at r rec)

    -- and in the shown tree,
    record_shown : (r : Record) → is_known s.homes r.leaf.0.0 ≡ true → IsRecord s.objects r → map.get (shown_tree s) (dentry_of r.leaf.0.0 r.name) ≡ Some r.inode
    record_shown r known rec = stands_at s sound (dentry_of r.leaf.0.0 r.name) r.leaf.1 known (record_pick r known rec) ∙ record_at r rec

    -- each of whose entries has its record
    shown_record : (d : ℕ) (name : List ℕ) (inode : Inode) → map.get (shown_tree s) (dentry_of d name) ≡ Some inode
        → (f : Fragment) × (is_known s.homes d ≡ true) × IsRecord s.objects (record { leaf = (record { 0 = d }, f); name = name; inode = inode })
    shown_record d name inode stands = ⊎_elim
        (λ known.
        let w = pick_at s sound (dentry_of d name) in
        let leaf : Leaf = (record { 0 = d }, w.0) in
        let has = object_with (object_of s.objects leaf.0 leaf.1) name inode (ap (λ (n : Names). map.get n name) (sym (shown_as leaf)) ∙ sym (stands_at s sound (dentry_of d name) w.0 known w.1) ∙ stands) in
        (w.0, known, record { leaf = cold_leaf leaf (record { known = known; stands = w.1.stands }); object = has.0; there = has.1; stands = has.2 }))
        (λ unknown. let clash : None ≡ Some inode = sym (stands_nowhere s sound (dentry_of d name) unknown) ∙ stands in absurd cc) (known_or_not s.homes d)

    -- so it has all records, where the known directories are those that are reached
    pub has_records : ((d : ℕ) → is_known s.homes d ≡ true → IsReached s.objects d) → ((d : ℕ) → IsReached s.objects d → is_known s.homes d ≡ true) → HasRecords s.objects (shown_tree s)
    has_records reached there = record {
      only = λ d name inode stands. let w = shown_record d name inode stands in (w.0, reached d w.1, w.2);
      all = λ r above rec. record_shown r (there r.leaf.0.0 above) rec;
    }

    -- the root's leaf has an object
    pub some_object : s.objects ≡ map.empty → ⊥
    some_object none =
        let w = pick_at s sound (dentry_of 1 []) in
        subst (IsSaved w.0) (ap (λ objects. object_of objects (record { 0 = 1 }) w.0) none ∙ get-empty _ _) (sound.saved (record { 0 = 1 }, w.0) (record { known = refl; stands = w.1.stands }) (none_unsaved (record { 0 = 1 }, w.0)))

    -- with the table of the tree, and tree objects without pairs, no object is faulty
    module _ (tabled : IsTabled (shown_tree s) s.homes) (spelled : (dir : Ino) (object : Omap) → is_known s.homes dir.0 ≡ true → tree_object_of s.objects dir ≡ Some object → SpellsTreeObject object (leaves_of s.covers dir.0)) where
      -- each reached directory is known
      known_there : (d : ℕ) → IsReached s.objects d → is_known s.homes d ≡ true
      known_there _ IsReached.root = refl
      known_there _ (IsReached.named r above rec dir) =
          known_by s.homes r.inode.ino.0 _ (tabled.holds.listed (dentry_of r.leaf.0.0 r.name) r.inode (record_shown r (known_there r.leaf.0.0 above) rec) dir) refl

      -- each known directory is reached
      reached_by : (n d : ℕ) → Reaches s.homes n d → IsReached s.objects d
      reached_by zero d root = subst (IsReached s.objects) (sym root) IsReached.root
      reached_by (suc n) d (home, is, more) =
          let e = tabled.holds.stands d home is in
          let w = shown_record home.parent.0 home.name e.0 e.1 in
          subst (IsReached s.objects) e.2 (IsReached.named _ (reached_by n home.parent.0 more) w.2 e.3)

      reached_there : (d : ℕ) → is_known s.homes d ≡ true → IsReached s.objects d
      reached_there d known = ⊎_elim (λ root. reached_by zero d (eqb-true d 1 root))
          (λ some. let h = value_of (map.get s.homes d) some in let w = sound.table.rooted.rooted d h.0 h.1 in reached_by w.0 d w.1) (or_cases (d == 1) (is_some (map.get s.homes d)) known)

      no_fault : HasNoFault s.objects
      no_fault _ (IsFaulty.bad_tree dir object above there off) = off (leaves_of s.covers dir.0) (spelled dir object (known_there dir.0 above) there)
      no_fault _ (IsFaulty.bad_leaf leaf above of off) =
          whole_loads leaf.1 (object_of s.objects leaf.0 leaf.1) (sound.saved leaf (live_leaf leaf (known_there leaf.0.0 above) of) (none_unsaved leaf)) off
      no_fault _ (IsFaulty.repeated r q ra rr qa qr same apart) =
          let rk = known_there r.leaf.0.0 ra in
          let qk = known_there q.leaf.0.0 qa in
          let w = tabled.whole.once r.leaf.0.0 q.leaf.0.0 r.name q.name r.inode q.inode (record_shown r rk rr) (record_shown q qk qr) same in
          let mine = subst (λ (p : ℕ × List ℕ). IsPick (leaves_of s.covers p.0) (hash_of p.1) r.leaf.1) (λ i. (w.0 i, w.1 i)) (record_pick r rk rr) in
          let frag = one_pick (leaves_of s.covers q.leaf.0.0) (hash_of q.name) r.leaf.1 q.leaf.1 mine (record_pick q qk qr) in
          apart (λ i. (record { 0 = w.0 i }, frag i), w.1)

      pub shows_cold : IsColdTree s.objects (shown_tree s)
      shows_cold = inr (some_object, no_fault, has_records reached_there known_there)

-- ---- all is saved

module _ (s : State) (sound : IsSound s) (saved : IsFlushed s) where
  abbrev leaves : Ino → List Fragment
  leaves dir = leaves_of s.covers dir.0

  -- a directory has one leaf and no tree object, or several leaves and the object that says so
  abbrev OneOrSeveral : Ino → Type 0
  OneOrSeveral dir = ((tree_object_of s.objects dir ≡ None) × (leaves dir ≡ root_fragment ∷ [])) ⊎ ((tree_object_of s.objects dir ≡ Some (tree_object (leaves dir))) × SpellsTreeObject (tree_object (leaves dir)) (leaves dir))

  one_or_several : (dir : Ino) → is_known s.homes dir.0 ≡ true → OneOrSeveral dir
  one_or_several dir known =
      let tree = tree_of_row s.homes s.covers sound.table dir.0 in
      cond_both (nat_lt 1 (length (leaves dir))) (Some (tree_object (leaves dir))) None (λ o. tree_object_of s.objects dir ≡ o → OneOrSeveral dir)
      (λ more is. inr (is, record { header = record { tree = tree; several = ltb-true 1 _ more; spelled = refl }; pairs = refl })) (λ few is. inl (is, one_leaf (leaves dir) tree few)) (saved.trees dir known)

  -- so its leaves in the store are those of the table
  says : (dir : Ino) → is_known s.homes dir.0 ≡ true → SaysLeaves (tree_object_of s.objects dir) (leaves dir)
  says dir known = ⊎_elim (λ one. subst (λ o. SaysLeaves o (leaves dir)) (sym one.0) one.1) (λ several. subst (λ o. SaysLeaves o (leaves dir)) (sym several.0) several.1.header) (one_or_several dir known)

-- the cold tree is the shown tree
pub flushed_is_cold : FlushedIsCold
flushed_is_cold s sound saved = shows_cold s saved.clean (says s sound saved) (sound_leaves s sound) sound.tabled (λ dir object known there. ⊎_elim (λ one. let clash : None ≡ Some object = sym one.0 ∙ there in absurd cc)
    (λ several. subst (λ o. SpellsTreeObject o (leaves_of s.covers dir.0)) (same_Some (tree_object (leaves_of s.covers dir.0)) object (sym several.0 ∙ there)) several.1) (one_or_several s sound saved dir known))

-- once all is purged its objects are exact
pub purged_are_exact : PurgedAreExact
purged_are_exact s sound saved purged = record {
  only = λ name some. ⊎_elim (λ leaf. inl leaf) (λ rest. ⊎_elim
      (λ dir.
      let known = known_by_row s.homes s.covers sound.table dir.0.0 dir.1 in
      ⊎_elim (λ one. let clash : false ≡ true = ap is_some (sym one.0) ∙ subst (λ n. is_some (map.get s.objects n) ≡ true) dir.2 some in absurd cc)
      (λ several. inr (dir.0, known, several.1.header.several, dir.2)) (one_or_several s sound saved dir.0 known))
      (λ listed. let clash : false ≡ true = ap is_some (sym (ap (λ p. map.get p name) purged ∙ get-empty _ name)) ∙ listed in absurd cc) rest) (sound.owned name some);
  leaves = λ leaf live.
      elim (object_of s.objects leaf.0 leaf.1) as (λ o. IsSaved leaf.1 o → is_some o ≡ true) [ None ↦ λ has. absurd has | Some object ↦ λ has. refl ] (sound.saved leaf live (none_unsaved s saved.clean (says s sound saved) leaf));
  trees = λ dir known more. ap is_some (saved.trees dir known ∙ ap (λ b. cond b (Some (tree_object (leaves_of s.covers dir.0))) None) (lt-ltb 1 (length (leaves_of s.covers dir.0)) more));
}
