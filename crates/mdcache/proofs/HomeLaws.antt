-- Directories come, go and move: the leaves are sound as before, and the tree stays.
use Rattle.mdcache.proofs.Common.{Covers, Dentry, Fragment, HasLeaf, Home, Homes, IfSome, Ino, Inode, IsLive, IsPick, IsSound, IsTable, IsUnsaved, Leaf, List, MayChange, MayCome, MayGo, MayMove, Names, None, Option, Some, Spot, State, Unsaved, [], adopted_table, ap, arith, cond_both, dentry-exact, dentry-total, dentry_at, directory_at, false, first_leaf, get-empty, get_left, get_removed, hash_of, home_at, in_empty, inl, inr, is_apart, is_dir_kind, is_known, is_some, just_made, key_cmp, key_or_apart, known_by, leaves_of, may_drop, may_relocate, may_replace, moved_table, moves, object_of, only_below, only_leaf, or_whole, refl, removes, root_fragment, rules, same_Some, same_map, shown_at, shown_tree, still_known, subst, sym, text_of, true, with_directory, with_home, zero, ℕ, ⊎_elim, ◌<◌, ◌==◌, ◌^◌, ◌||◌, ◌∙◌, ◌∷◌, ◌≡◌, ◌⊎◌}
use Rattle.std.specs.FinMap as map
use Rattle.mds_types.proofs.LeafLaws.{get_beside, get_put, same_or_apart as leaf_or_other}
use Rattle.sorted_map.proofs.NatKeys.{get_beside as get_other_home, get_put as get_home, same_or_apart as same_number}
use Rattle.mdcache.specs.Shown.{names_of}
use Rattle.mdcache.proofs.CoverRows.{known_by_row}
use Rattle.mdcache.proofs.NoNames.{none_unless}
use Rattle.mdcache.proofs.NamedLaws.{HasSoundLeaves, known_or_not, pick_at, stands_at, stands_nowhere}
use Rattle.mdcache.proofs.SoundLaws.{names_alike}

-- a dentry stands for what it stood for where its directory is known as before, with its leaves, and each of them shows what it showed
pub shows_alike : (s t : State) → HasSoundLeaves s → HasSoundLeaves t → (q : Dentry) → is_known t.homes q.dir.0 ≡ is_known s.homes q.dir.0 → leaves_of t.covers q.dir.0 ≡ leaves_of s.covers q.dir.0
    → ((f : Fragment) → IsLive s.homes s.covers (q.dir, f) → names_of t.unsaved t.objects (q.dir, f) ≡ names_of s.unsaved s.objects (q.dir, f)) → map.get (shown_tree t) q ≡ map.get (shown_tree s) q
shows_alike s t old new q known covers names = ⊎_elim
    (λ is.
    let p = pick_at s old q in
    stands_at t new q p.0 (known ∙ is) (subst (λ (fs : List Fragment). IsPick fs (hash_of q.name) p.0) (sym covers) p.1)
    ∙ ap (λ (n : Names). map.get n q.name) (names p.0 (record { known = is; stands = p.1.stands }))
    ∙ sym (stands_at s old q p.0 is p.1))
    (λ none. stands_nowhere t new q (known ∙ none) ∙ sym (stands_nowhere s old q none)) (known_or_not s.homes q.dir.0)

-- ---- a directory moves

module _ (s : State) (homes : Homes) (sound : HasSoundLeaves s) (table : IsTable homes s.covers) (same : (d : ℕ) → is_known homes d ≡ is_known s.homes d) where
  abbrev pub rehomed : State
  rehomed = record s { homes = homes }

  back : (leaf : Leaf) → IsLive homes s.covers leaf → IsLive s.homes s.covers leaf
  back leaf live = record { known = sym (same leaf.0.0) ∙ live.known; stands = live.stands }

  pub rehomed_live : (leaf : Leaf) → IsLive s.homes s.covers leaf → IsLive homes s.covers leaf
  rehomed_live leaf live = record { known = same leaf.0.0 ∙ live.known; stands = live.stands }

  pub rehomed_leaves : HasSoundLeaves rehomed
  rehomed_leaves = record {
    table = table;
    numbered = λ d known. sound.numbered d (sym (same d) ∙ known);
    placed = λ leaf name inode live has. sound.placed leaf name inode (back leaf live) has;
    unsaved = λ leaf u is. let old = sound.unsaved leaf u is in record { live = rehomed_live leaf old.live; made = old.made; young = old.young };
    saved = λ leaf live clean. sound.saved leaf (back leaf live) clean;
    owned = λ name there. ⊎_elim (λ leaf. inl (leaf.0, rehomed_live leaf.0 leaf.1, leaf.2)) (λ rest. inr rest) (sound.owned name there);
    listed = λ leaf live. sound.listed leaf (back leaf live);
    standing = λ leaf job is. let old = sound.standing leaf job is in record { mine = old.mine; given = old.given; young = old.young; unsaved = old.unsaved; beside = old.beside; taken = old.taken };
    once = sound.once;
  }

  pub rehomed_tree : shown_tree rehomed ≡ shown_tree s
  rehomed_tree = same_map dentry-total dentry-exact (shown_tree rehomed) (shown_tree s) (λ q. shows_alike s rehomed sound rehomed_leaves q (same q.dir.0) refl (λ f live. refl))

-- another directory is known as before where one comes
known_beside : (homes : Homes) (d : ℕ) (home : Home) (x : ℕ) → (x ≡ d → ⊥) → is_known (map.insert homes d home) x ≡ is_known homes x
known_beside homes d home x apart = ap (λ (o : Option Home). (x == 1) || is_some o) (get_other_home homes d home x apart)

-- the directories that are known stay those where one moves, or where what moves is none
module _ (homes : Homes) (covers : Covers) (table : IsTable homes covers) (to : Dentry) (inode : Inode) (may : is_dir_kind inode.kind ≡ true → MayMove homes inode.ino.0 (home_at to)) where
  pub moved_known : (d : ℕ) → is_known (with_home homes to inode) d ≡ is_known homes d
  moved_known d = cond_both (is_dir_kind inode.kind) (map.insert homes inode.ino.0 (home_at to)) homes (λ (h : Homes). is_known h d ≡ is_known homes d)
      (λ kinded. ⊎_elim
      (λ here.
      let there = known_by homes d (map.get homes inode.ino.0) (ap (map.get homes) here) (may kinded).there in
      still_known homes inode.ino.0 (home_at to) d there ∙ sym there)
      (known_beside homes inode.ino.0 (home_at to) d) (same_number d inode.ino.0)) (λ file. refl)

  pub moved_home : IsTable (with_home homes to inode) covers
  moved_home = cond_both (is_dir_kind inode.kind) (map.insert homes inode.ino.0 (home_at to)) homes (λ (h : Homes). IsTable h covers) (λ kinded. moved_table homes covers inode.ino.0 (home_at to) table (may kinded)) (λ file. table)

-- what holds of a directory holds of what is found, if it is one
if_directory : (P : Ino → Type 0) (found : Option Inode) → ((i : Inode) → found ≡ Some i → is_dir_kind i.kind ≡ true → P i.ino) → IfSome (directory_at found) P
if_directory P found so = search rules

-- a directory that goes with an entry may go
pub may_go : (s : State) (spot : Spot) (went : Option Ino) → IsSound s → MayChange (shown_tree s) s.covers (removes spot went) → IfSome went (λ (dir : Ino). MayGo s.homes dir.0)
may_go s spot went sound may = subst (λ (d : Option Ino). IfSome d (λ (dir : Ino). MayGo s.homes dir.0)) (sym may.carries.gone)
    (if_directory _ (map.get (shown_tree s) (dentry_at spot)) (λ i is kinded. may_drop (shown_tree s) s.homes (dentry_at spot) (Some i) is sound.tabled may.takes i refl kinded))

-- where a rename may be made
module _ (s : State) (sound : IsSound s) (source target : Spot) (inode : Inode) (went : Option Ino) (may : MayChange (shown_tree s) s.covers (moves source target inode went)) where
  -- a directory may have its home there,
  pub relocates : is_dir_kind inode.kind ≡ true → MayMove s.homes inode.ino.0 (home_at (dentry_at target))
  relocates kinded = may_relocate (shown_tree s) s.homes (dentry_at source) (dentry_at target) inode sound.tabled may.takes kinded

  -- and one that is replaced may go then
  pub replaces : IfSome went (λ (dir : Ino). MayGo (with_home s.homes (dentry_at target) inode) dir.0)
  replaces = subst (λ (d : Option Ino). IfSome d (λ (dir : Ino). MayGo (with_home s.homes (dentry_at target) inode) dir.0)) (sym may.carries.gone)
      (if_directory _ (map.get (shown_tree s) (dentry_at target)) (λ i is kinded. may_replace (shown_tree s) s.homes (dentry_at source) (dentry_at target) inode sound.tabled may.takes i is))

-- ---- a directory comes

module _ (s : State) (sound : HasSoundLeaves s) (dentry : Dentry) (dir : Ino) (come : MayCome s.homes dir.0 (home_at dentry)) (fits : dir.0 < 2 ^ 64) where
  abbrev first : Leaf
  first = first_leaf dir

  abbrev grown : State
  grown = with_directory s dentry dir

  unknown : is_known s.homes dir.0 ≡ false
  unknown = (λ i. is_apart dir.0 1 come.other i || is_some (come.fresh i))

  no_row : leaves_of s.covers dir.0 ≡ root_fragment ∷ []
  no_row = ap or_whole (none_unless (map.get s.covers dir.0) (λ fs is. let clash : true ≡ false = sym (known_by_row s.homes s.covers sound.table dir.0 (ap is_some is)) ∙ unknown in cc))

  known_new : (d : ℕ) → is_known grown.homes d ≡ true → (d ≡ dir.0) ⊎ (is_known s.homes d ≡ true)
  known_new d known = ⊎_elim (λ same. inl same) (λ apart. inr (sym (known_beside s.homes dir.0 (home_at dentry) d apart) ∙ known)) (same_number d dir.0)

  pub grown_live : (leaf : Leaf) → IsLive s.homes s.covers leaf → IsLive grown.homes s.covers leaf
  grown_live leaf live = record { known = still_known s.homes dir.0 (home_at dentry) leaf.0.0 live.known; stands = live.stands }

  pub first_live : IsLive grown.homes s.covers first
  first_live = record {
    known = known_by grown.homes dir.0 (Some (home_at dentry)) (get_home s.homes dir.0 (home_at dentry)) refl;
    stands = subst (λ (fs : List Fragment). HasLeaf fs root_fragment) (sym no_row) (zero, omega arith, refl);
  }

  -- a leaf of the new directory is its first
  its_first : (leaf : Leaf) → leaf.0.0 ≡ dir.0 → HasLeaf (leaves_of s.covers leaf.0.0) leaf.1 → leaf ≡ first
  its_first leaf same has =
      let one = only_leaf root_fragment leaf.1 (subst (λ (fs : List Fragment). HasLeaf fs leaf.1) (ap (leaves_of s.covers) same ∙ no_row) has) in
      λ i. (record { 0 = same i }, one i)

  live_new : (leaf : Leaf) → IsLive grown.homes s.covers leaf → (leaf ≡ first) ⊎ IsLive s.homes s.covers leaf
  live_new leaf live = ⊎_elim (λ same. inl (its_first leaf same live.stands)) (λ known. inr (record { known = known; stands = live.stands })) (known_new leaf.0.0 live.known)

  -- a leaf that stood is another
  other : (leaf : Leaf) → IsLive s.homes s.covers leaf → leaf ≡ first → ⊥
  other leaf live same = let clash : true ≡ false = sym live.known ∙ ap (λ (l : Leaf). is_known s.homes l.0.0) same ∙ unknown in cc

  unsaved_beside : (q : Leaf) → (q ≡ first → ⊥) → map.get grown.unsaved q ≡ map.get s.unsaved q
  unsaved_beside q apart = get_beside s.unsaved first (just_made s.next_generation) q apart

  pub grown_names : (leaf : Leaf) → IsLive s.homes s.covers leaf → names_of grown.unsaved grown.objects leaf ≡ names_of s.unsaved s.objects leaf
  grown_names leaf live = names_alike s grown leaf (unsaved_beside leaf (other leaf live)) refl

  first_names : names_of grown.unsaved grown.objects first ≡ map.empty
  unfolding names_of
  first_names = ap (λ o. shown_at o (object_of s.objects dir root_fragment)) (get_put s.unsaved first (just_made s.next_generation)) ∙ only_below map.empty map.empty refl

  pub grown_leaves : HasSoundLeaves grown
  grown_leaves = record {
    table = adopted_table s.homes s.covers dir.0 (home_at dentry) sound.table come;
    numbered = λ d known. ⊎_elim (λ same. subst (λ (n : ℕ). n < 2 ^ 64) (sym same) fits) (sound.numbered d) (known_new d known);
    placed = λ leaf name inode live has. ⊎_elim
        (λ same.
        let clash : None ≡ Some inode = sym (ap (λ (n : Names). map.get n name) (ap (names_of grown.unsaved grown.objects) same ∙ first_names) ∙ get-empty key_cmp name) ∙ has in
        absurd cc)
        (λ old. sound.placed leaf name inode old (ap (λ (n : Names). map.get n name) (sym (grown_names leaf old)) ∙ has)) (live_new leaf live);
    unsaved = λ q u is. ⊎_elim
        (λ same.
        let its = same_Some (just_made s.next_generation) u (sym (get_put s.unsaved first (just_made s.next_generation)) ∙ ap (map.get grown.unsaved) (sym same) ∙ is) in
        subst (λ (p : Leaf × Unsaved). IsUnsaved grown p.0 p.1) (λ i. (sym same i, its i)) (record { live = first_live; made = omega arith; young = λ name mark has. in_empty key_cmp name mark has }))
        (λ apart.
        let old = sound.unsaved q u (sym (unsaved_beside q apart) ∙ is) in
        let made = old.made in
        record { live = grown_live q old.live; made = omega (arith, made); young = old.young }) (leaf_or_other q first);
    saved = λ leaf live clean. ⊎_elim (λ same. let clash : None ≡ Some (just_made s.next_generation) = sym clean ∙ ap (map.get grown.unsaved) same ∙ get_put s.unsaved first (just_made s.next_generation) in absurd cc)
        (λ old. sound.saved leaf old (sym (unsaved_beside leaf (other leaf old)) ∙ clean)) (live_new leaf live);
    owned = λ name there. ⊎_elim (λ leaf. inl (leaf.0, grown_live leaf.0 leaf.1, leaf.2)) (λ rest. ⊎_elim (λ row. inr (inl row))
        (λ listed. ⊎_elim (λ same. inl (first, first_live, same)) (λ apart. inr (inr (ap is_some (get_left s.purge (text_of first) name apart) ∙ listed))) (key_or_apart name (text_of first))) rest) (sound.owned name there);
    listed = λ leaf live. ⊎_elim (λ same. ap (map.get grown.purge) same ∙ get_removed s.purge (text_of first))
        (λ apart. get_left s.purge (text_of first) (text_of leaf) apart ∙ ⊎_elim (λ same. absurd (apart (ap text_of same))) (sound.listed leaf) (live_new leaf live)) (key_or_apart (text_of leaf) (text_of first));
    standing = λ leaf job is.
        let old = sound.standing leaf job is in
        let beside = unsaved_beside leaf (other leaf (sound.unsaved leaf old.unsaved old.beside).live) ∙ old.beside in
        record { mine = old.mine; given = old.given; young = old.young; unsaved = old.unsaved; beside = beside; taken = old.taken };
    once = sound.once;
  }

  pub grown_tree : shown_tree grown ≡ shown_tree s
  grown_tree = same_map dentry-total dentry-exact (shown_tree grown) (shown_tree s) (λ q. ⊎_elim
      (λ same.
      let p = pick_at s sound q in
      stands_at grown grown_leaves q p.0 (ap (is_known grown.homes) same ∙ first_live.known) p.1
      ∙ ap (λ (l : Leaf). map.get (names_of grown.unsaved grown.objects l) q.name) (its_first (q.dir, p.0) same p.1.stands)
      ∙ ap (λ (n : Names). map.get n q.name) first_names
      ∙ get-empty key_cmp q.name
      ∙ sym (stands_nowhere s sound q (ap (is_known s.homes) same ∙ unknown)))
      (λ apart. shows_alike s grown sound grown_leaves q (known_beside s.homes dir.0 (home_at dentry) q.dir.0 apart) refl (λ f live. grown_names (q.dir, f) live)) (same_number q.dir.0 dir.0))
