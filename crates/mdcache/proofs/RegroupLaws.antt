-- A directory gets another cover: the state is sound then, and shows the same tree.
use Rattle.mdcache.proofs.Common.{AllCachedIn, AreYoung, At, Base, Bool, CacheMap, Comes, Fragment, Fresh, HasLeaf, HasUnsaved, Holds, Ino, Inode, IsConcerned, IsCounted, IsLive, IsNewLeaf, HasOwner, IsRegrouped, IsSound, IsTable, IsTabled, IsTied, IsUnsaved, Job, Leaf, List, Mark, Marks, Names, None, Option, Some, State, Stored, Tree, Unsaved, [], ap, are_empty, arith, cond, cond_both, dentry-exact, dentry-total, dentry_of, each, false, false_from_ne_true, first_or_later, get-empty, get-patched, has_none, hash_of, holds, holds_contains, in_directory, inl, inode_or, inr, is_known, is_same, is_some, key_cmp, key_or_apart, later, leaf_is, leaves_of, list_any, marked_as, names_at, object_of, one_or_other, or_whole, pick_from_leaf, refl, regrouped, rules, same_Some, same_map, set_table, shown_at, shown_over, shown_tree, span, subst, sym, text_of, tree_of_row, true, zero, ℕ, ⊎_elim, ◌%◌, ◌+◌, ◌/◌, ◌<◌, ◌^◌, ◌∙◌, ◌∷◌, ◌≡◌, ◌⊎◌}
use Rattle.std.specs.FinMap as map
use Rattle.sorted_map.proofs.NatKeys.{get_beside as get_other_cover, get_put as get_cover, same_or_apart as same_number}
use Rattle.mdcache.specs.Shown.{names_of}
use Rattle.mdcache.specs.Splits.{KeepsShownTree}
use Rattle.mdcache.proofs.CoverRows.{row_stays}
use Rattle.mdcache.proofs.GoneLaws.{among, get_without, one_of_those}
use Rattle.mdcache.proofs.NamedLaws.{HasSoundLeaves, known_or_not, pick_at, sound_again, sound_leaves, stands_at, stands_nowhere}
use Rattle.mdcache.proofs.NoNames.{all_pass, no_name}
use Rattle.mdcache.proofs.SoundLaws.{names_alike}
use Rattle.mdcache.proofs.TextLaws.{one_text}

-- ---- leaves of a list

-- of some leaves there is one of which this holds, or none
some_or_none : (P : Fragment → Type 0) → ((f : Fragment) → P f ⊎ (P f → ⊥)) → (fs : List Fragment) → ((f : Fragment) × HasLeaf fs f × P f) ⊎ ((f : Fragment) → HasLeaf fs f → P f → ⊥)
some_or_none P holds_or_not [] = inr (λ f has is. let within = has.1 in absurd (omega (arith, within)))
some_or_none P holds_or_not (g ∷ fs) = ⊎_elim (λ is. inl (g, (zero, omega arith, refl), is))
    (λ other. ⊎_elim (λ found. inl (found.0, later g found.0 fs found.1, found.2))
    (λ none. inr (λ f has is. ⊎_elim (λ same. other (subst P (sym same) is)) (λ more. none f more is) (first_or_later g f fs has))) (some_or_none P holds_or_not fs)) (holds_or_not g)

-- a fragment is one of some leaves, or isn't
pub has_or_not : (fs : List Fragment) (f : Fragment) → HasLeaf fs f ⊎ (HasLeaf fs f → ⊥)
has_or_not fs f = ⊎_elim (λ found. inl (subst (HasLeaf fs) found.2 found.1)) (λ none. inr (λ has. none f has refl)) (some_or_none (λ g. g ≡ f) (λ g. one_or_other g f) fs)

-- ---- names of a leaf that came

-- a name that became dirty is shown with the inode that it has
pub dirty_shows : (base : Base) (below : Names) (u : Unsaved) (version : ℕ) (name : List ℕ) (inode : Option Inode) → base ≡ Fresh → map.get u.dirty name ≡ marked_as version inode None → map.get (shown_over base below u.dirty) name ≡ inode
dirty_shows (Stored v) below u version name inode fresh is = let clash : Stored v ≡ Fresh = fresh in absurd cc
dirty_shows Fresh below u version name None fresh is = get-patched map.empty u.dirty name ∙ ap (λ (m : Option Mark). inode_or m (map.get {R = key_cmp} map.empty name)) is ∙ get-empty key_cmp name
dirty_shows Fresh below u version name (Some i) fresh is = get-patched map.empty u.dirty name ∙ ap (λ (m : Option Mark). inode_or m (map.get {R = key_cmp} map.empty name)) is

-- a mark that was made has the version, and the inode
marked_is : (version : ℕ) (o : Option Inode) (mark : Mark) → marked_as version o None ≡ Some mark → (i : Inode) × (o ≡ Some i) × (mark.version ≡ version)
marked_is version o mark is = search rules

-- what is found under a test passes it
pub holds_or_none : (b : Bool) (o : Option Inode) (i : Inode) → cond b o None ≡ Some i → (b ≡ true) × (o ≡ Some i)
holds_or_none b o i is = search rules

-- what isn't clean of a leaf of which some is
its_unsaved : (P : Unsaved → Type 0) (o : Option Unsaved) → HasUnsaved o P → (u : Unsaved) × (o ≡ Some u) × P u
its_unsaved P None has = absurd has
its_unsaved P (Some u) has = (u, refl, has)

-- some of these leaves end, and each other one is in the cover
pub record Replaces (row gone cover : List Fragment) : Type 0 where
  pub ends : (f : Fragment) → HasLeaf row f → HasLeaf gone f ⊎ HasLeaf cover f
  pub stood : (f : Fragment) → HasLeaf gone f → HasLeaf row f × (HasLeaf cover f → ⊥)

-- ---- the state

module _ (s : State) (sound : IsSound s) (dir : Ino) (gone cover : List Fragment) (count : ℕ) (t : State) (r : IsRegrouped s t dir gone cover count)
    (cut : Replaces (leaves_of s.covers dir.0) gone cover) where
  abbrev pub n : State
  n = regrouped s dir gone cover count r.unsaved r.purge

  abbrev pub row : List Fragment
  row = leaves_of s.covers dir.0

  -- the leaf isn't concerned
  abbrev pub Apart : Leaf → Type 0
  Apart leaf = leaf.0.0 ≡ dir.0 → IsConcerned row cover gone leaf.1 → ⊥

  cover_here : leaves_of n.covers dir.0 ≡ cover
  cover_here = ap or_whole (get_cover s.covers dir.0 cover)

  cover_on : (d : ℕ) → (d ≡ dir.0 → ⊥) → leaves_of n.covers d ≡ leaves_of s.covers d
  cover_on d apart = ap or_whole (get_other_cover s.covers dir.0 cover d apart)

  table : IsTable n.homes n.covers
  table = set_table s.homes s.covers dir.0 cover sound.table r.known r.whole

  its : (leaf : Leaf) → leaf.0.0 ≡ dir.0 → (dir, leaf.1) ≡ leaf
  its leaf same = λ i. (record { 0 = sym same i }, leaf.1)

  -- a leaf ended, or came, or is not concerned
  pub which : (leaf : Leaf) → ((leaf.0.0 ≡ dir.0) × HasLeaf gone leaf.1) ⊎ (((leaf.0.0 ≡ dir.0) × Comes row cover leaf.1) ⊎ Apart leaf)
  which leaf = ⊎_elim (λ same. ⊎_elim (λ ended. inl (same, ended)) (λ stays. ⊎_elim
      (λ stands. ⊎_elim (λ old. inr (inr (λ here concerned. ⊎_elim stays (λ came. came.1 old) concerned))) (λ fresh. inr (inl (same, (stands, fresh)))) (has_or_not row leaf.1))
      (λ out. inr (inr (λ here concerned. ⊎_elim stays (λ came. out came.0) concerned))) (has_or_not cover leaf.1)) (has_or_not gone leaf.1)) (λ apart. inr (inr (λ same concerned. apart same))) (same_number leaf.0.0 dir.0)

  pub came_live : (leaf : Leaf) → leaf.0.0 ≡ dir.0 → HasLeaf cover leaf.1 → IsLive n.homes n.covers leaf
  came_live leaf same stands = record { known = ap (is_known s.homes) same ∙ r.known; stands = subst (λ (fs : List Fragment). HasLeaf fs leaf.1) (sym (ap (leaves_of n.covers) same ∙ cover_here)) stands }

  -- a leaf that isn't concerned lives after as before
  pub apart_live : (leaf : Leaf) → Apart leaf → IsLive s.homes s.covers leaf → IsLive n.homes n.covers leaf
  apart_live leaf apart live = ⊎_elim
      (λ same. ⊎_elim (λ ended. absurd (apart same (inl ended))) (came_live leaf same) (cut.ends leaf.1 (subst (λ (d : ℕ). HasLeaf (leaves_of s.covers d) leaf.1) same live.stands)))
      (λ other. record { known = live.known; stands = subst (λ (fs : List Fragment). HasLeaf fs leaf.1) (sym (cover_on leaf.0.0 other)) live.stands }) (same_number leaf.0.0 dir.0)

  in_cover : (leaf : Leaf) → leaf.0.0 ≡ dir.0 → IsLive n.homes n.covers leaf → HasLeaf cover leaf.1
  in_cover leaf same live = subst (λ (fs : List Fragment). HasLeaf fs leaf.1) (ap (leaves_of n.covers) same ∙ cover_here) live.stands

  -- a leaf of the cover came, or isn't concerned
  live_which : (leaf : Leaf) → IsLive n.homes n.covers leaf → ((leaf.0.0 ≡ dir.0) × Comes row cover leaf.1) ⊎ (Apart leaf × IsLive s.homes s.covers leaf)
  live_which leaf live = ⊎_elim (λ same. ⊎_elim
      (λ old. inr (
        (λ here concerned. ⊎_elim (λ ended. (cut.stood leaf.1 ended).1 (in_cover leaf same live)) (λ came. came.1 old) concerned),
        record { known = live.known; stands = subst (λ (d : ℕ). HasLeaf (leaves_of s.covers d) leaf.1) (sym same) old },
      ))
      (λ fresh. inl (same, (in_cover leaf same live, fresh))) (has_or_not row leaf.1))
      (λ other. inr ((λ same concerned. other same), record { known = live.known; stands = subst (λ (fs : List Fragment). HasLeaf fs leaf.1) (cover_on leaf.0.0 other) live.stands })) (same_number leaf.0.0 dir.0)

  -- ---- names

  -- what isn't clean of a leaf that came
  came_is : (leaf : Leaf) → leaf.0.0 ≡ dir.0 → Comes row cover leaf.1 → (u : Unsaved) × (map.get r.unsaved leaf ≡ Some u) × IsNewLeaf s dir leaf.1 count u
  came_is leaf same comes = its_unsaved (IsNewLeaf s dir leaf.1 count) (map.get r.unsaved leaf) (subst (λ (l : Leaf). HasUnsaved (map.get r.unsaved l) (IsNewLeaf s dir leaf.1 count)) (its leaf same) (r.came leaf.1 comes))

  came_names : (leaf : Leaf) → leaf.0.0 ≡ dir.0 → Comes row cover leaf.1 → (name : List ℕ) → map.get (names_of n.unsaved n.objects leaf) name ≡ cond (holds leaf.1 (hash_of name)) (map.get (shown_tree s) (dentry_of dir.0 name)) None
  unfolding names_of
  came_names leaf same comes name =
      let w = came_is leaf same comes in
      ap (λ (o : Option Unsaved). map.get (shown_at o (object_of s.objects leaf.0 leaf.1)) name) w.1
      ∙ dirty_shows w.0.base (names_at (object_of s.objects leaf.0 leaf.1)) w.0 s.next_version name (cond (holds leaf.1 (hash_of name)) (map.get (shown_tree s) (dentry_of dir.0 name)) None) w.2.fresh (w.2.dirty name)

  apart_names : (leaf : Leaf) → Apart leaf → names_of n.unsaved n.objects leaf ≡ names_of s.unsaved s.objects leaf
  apart_names leaf apart = names_alike s n leaf (r.others leaf apart) refl

  -- ---- soundness

  -- a name that went to a leaf that came stood in one that ended
  some_went : (f : Fragment) → Comes row cover f → (name : List ℕ) (inode : Inode) → Holds f (hash_of name) → map.get (shown_tree s) (dentry_of dir.0 name) ≡ Some inode → are_empty s dir gone ≡ false
  some_went f comes name inode contains found =
      let p = pick_at s (sound_leaves s sound) (dentry_of dir.0 name) in
      let here : map.get (names_of s.unsaved s.objects (dir, p.0)) name ≡ Some inode = sym (stands_at s (sound_leaves s sound) (dentry_of dir.0 name) p.0 r.known p.1) ∙ found in
      let ended : HasLeaf gone p.0 = ⊎_elim (λ ended. ended) (λ stands. absurd (comes.1 (subst (HasLeaf row) ((pick_from_leaf cover (hash_of name) f r.whole comes.0 contains).alone p.0 stands p.1.contains) p.1.stands))) (cut.ends p.0 p.1.stands) in
      false_from_ne_true (are_empty s dir gone) (λ all.
      let none = all_pass (λ (g : Fragment). has_none (names_of s.unsaved s.objects (dir, g))) gone all p.0 ended in
      let clash : None ≡ Some inode = sym (no_name (names_of s.unsaved s.objects (dir, p.0)) name none) ∙ here in
      cc)

  came_young : (leaf : Leaf) (same : leaf.0.0 ≡ dir.0) (comes : Comes row cover leaf.1) → AreYoung (came_is leaf same comes).0.dirty n.next_version
  came_young leaf same comes name mark is =
      let w = marked_is s.next_version (cond (holds leaf.1 (hash_of name)) (map.get (shown_tree s) (dentry_of dir.0 name)) None) mark (sym ((came_is leaf same comes).2.dirty name) ∙ is) in
      let found = holds_or_none (holds leaf.1 (hash_of name)) (map.get (shown_tree s) (dentry_of dir.0 name)) w.0 w.1 in
      let raised : n.next_version ≡ s.next_version + 1 = ap (λ (e : Bool). s.next_version + cond e 0 1) (some_went leaf.1 comes name w.0 (holds_contains leaf.1 (hash_of name) found.0) found.1) in
      omega (arith, w.2, raised)

  still_young : (marks : Marks) → AreYoung marks s.next_version → AreYoung marks n.next_version
  still_young marks young name mark there = let was = young name mark there in omega (arith, was)

  owned_now : (name : List ℕ) → HasOwner s name → HasOwner n name
  owned_now name (inl leaf) = ⊎_elim (λ ended. inr (inr (ap is_some (ap (map.get r.purge) (leaf.2 ∙ ap text_of (sym (its leaf.0 ended.0))) ∙ r.listed.ended leaf.0.1 ended.1))))
      (⊎_elim (λ came. inl (leaf.0, came_live leaf.0 came.0 came.1.0, leaf.2)) (λ apart. inl (leaf.0, apart_live leaf.0 apart leaf.1, leaf.2))) (which leaf.0)
  owned_now name (inr (inl d)) = inr (inl (d.0, row_stays s.covers dir.0 cover d.0.0 d.1, d.2))
  owned_now name (inr (inr listed)) = ⊎_elim (λ stands. inl ((dir, stands.0), came_live (dir, stands.0) refl stands.1, stands.2))
      (λ none. inr (inr (⊎_elim (λ ended. ap is_some (ap (map.get r.purge) ended.2 ∙ r.listed.ended ended.0 ended.1))
      (λ other. ap is_some (r.listed.others name (λ f concerned same. ⊎_elim (λ ended. other f ended same) (λ came. none f came.0 same) concerned)) ∙ listed)
      (some_or_none (λ f. name ≡ text_of (dir, f)) (λ f. key_or_apart name (text_of (dir, f))) gone)))) (some_or_none (λ f. name ≡ text_of (dir, f)) (λ f. key_or_apart name (text_of (dir, f))) cover)

  -- what stood isn't concerned where it didn't end
  apart_from_gone : (leaf : Leaf) → IsLive s.homes s.covers leaf → (leaf.0.0 ≡ dir.0 → HasLeaf gone leaf.1 → ⊥) → Apart leaf
  apart_from_gone leaf live stays same concerned = ⊎_elim (stays same) (λ came. came.1 (subst (λ (d : ℕ). HasLeaf (leaves_of s.covers d) leaf.1) same live.stands)) concerned

  -- a job that stands stood before, of a leaf that is not concerned
  job_back : (leaf : Leaf) (job : Job) → map.get n.jobs leaf ≡ Some job → Apart leaf × (map.get s.jobs leaf ≡ Some job)
  job_back leaf job is = cond_both (list_any (leaf_is leaf) (each (in_directory dir.0) gone)) None (map.get s.jobs leaf) (λ o. o ≡ Some job → Apart leaf × (map.get s.jobs leaf ≡ Some job))
      (λ ended h. let clash : None ≡ Some job = h in absurd cc)
      (λ stays h.
      let j = sound.standing leaf job h in
      let apart : leaf.0.0 ≡ dir.0 → HasLeaf gone leaf.1 → ⊥ = λ same ended. (let clash : true ≡ false = sym (among dir.0 leaf gone same ended) ∙ stays in cc) in
      (apart_from_gone leaf (sound.unsaved leaf j.unsaved j.beside).live apart, h)) (sym (get_without s.jobs (each (in_directory dir.0) gone) leaf) ∙ is)

  -- the name of a leaf that isn't concerned is that of no other
  not_named : (leaf : Leaf) → IsLive n.homes n.covers leaf → Apart leaf × IsLive s.homes s.covers leaf → (f : Fragment) → HasLeaf gone f ⊎ Comes row cover f → text_of leaf ≡ text_of (dir, f) → ⊥
  not_named leaf live old f concerned same =
      let one : leaf ≡ (dir, f) = ⊎_elim (λ ended. one_text s.homes s.covers sound.table sound.numbered leaf (dir, f) old.1 (record { known = r.known; stands = (cut.stood f ended).0 }) same)
      (λ came. one_text s.homes n.covers table sound.numbered leaf (dir, f) live (came_live (dir, f) refl came.0) same) concerned in
      old.0 (ap (λ (l : Leaf). l.0.0) one) (subst (IsConcerned row cover gone) (ap (λ (l : Leaf). l.1) (sym one)) concerned)

  leaves_now : HasSoundLeaves n
  leaves_now = record {
    table = table;
    numbered = sound.numbered;
    placed = λ leaf name inode live has. pick_from_leaf (leaves_of n.covers leaf.0.0) (hash_of name) leaf.1 (tree_of_row n.homes n.covers table leaf.0.0) live.stands (⊎_elim
        (λ came. holds_contains leaf.1 (hash_of name) (holds_or_none (holds leaf.1 (hash_of name)) (map.get (shown_tree s) (dentry_of dir.0 name)) inode (sym (came_names leaf came.0 came.1 name) ∙ has)).0)
        (λ old. (sound.placed leaf name inode old.1 (ap (λ (m : Names). map.get m name) (sym (apart_names leaf old.0)) ∙ has)).contains) (live_which leaf live));
    unsaved = λ leaf u is. ⊎_elim (λ ended. let clash : None ≡ Some u = sym (ap (map.get r.unsaved) (sym (its leaf ended.0)) ∙ r.ended leaf.1 ended.1) ∙ is in absurd cc) (⊎_elim
        (λ came.
        let w = came_is leaf came.0 came.1 in
        subst (IsUnsaved n leaf) (same_Some w.0 u (sym w.1 ∙ is)) (record { live = came_live leaf came.0 came.1.0; made = w.2.last; young = came_young leaf came.0 came.1 }))
        (λ apart.
        let old = sound.unsaved leaf u (sym (r.others leaf apart) ∙ is) in
        let made = old.made in
        record { live = apart_live leaf apart old.live; made = omega (arith, made); young = still_young u.dirty old.young })) (which leaf);
    saved = λ leaf live clean. ⊎_elim (λ came. let w = came_is leaf came.0 came.1 in let clash : None ≡ Some w.0 = sym clean ∙ w.1 in absurd cc)
        (λ old. sound.saved leaf old.1 (sym (r.others leaf old.0) ∙ clean)) (live_which leaf live);
    owned = λ name there. owned_now name (sound.owned name there);
    listed = λ leaf live. ⊎_elim (λ came. ap (λ (l : Leaf). map.get r.purge (text_of l)) (sym (its leaf came.0)) ∙ r.listed.came leaf.1 came.1)
        (λ old. r.listed.others (text_of leaf) (not_named leaf live old) ∙ sound.listed leaf old.1) (live_which leaf live);
    standing = λ leaf job is.
        let b = job_back leaf job is in
        let old = sound.standing leaf job b.1 in
        record { mine = old.mine; given = old.given; young = still_young job.snapshot.names old.young; unsaved = old.unsaved; beside = r.others leaf b.0 ∙ old.beside; taken = old.taken };
    once = λ a b i j p q same. sound.once a b i j (job_back a i p).1 (job_back b j q).1 same;
  }

  -- ---- the tree

  tree_now : shown_tree n ≡ shown_tree s
  tree_now = same_map dentry-total dentry-exact (shown_tree n) (shown_tree s) (λ q. ⊎_elim
      (λ known.
      let p = pick_at n leaves_now q in
      stands_at n leaves_now q p.0 known p.1 ∙ ⊎_elim
      (λ came. came_names (q.dir, p.0) came.0 came.1 q.name
      ∙ ap (λ (b : Bool). cond b (map.get (shown_tree s) (dentry_of dir.0 q.name)) None) (is_same ((hash_of q.name % 2 ^ 24) / span p.0.bits) (p.0.value / span p.0.bits) p.1.contains)
      ∙ (λ i. map.get (shown_tree s) (record { dir = record { 0 = sym came.0 i }; name = q.name })))
      (λ old. ap (λ (m : Names). map.get m q.name) (apart_names (q.dir, p.0) old.0)
      ∙ sym (stands_at s (sound_leaves s sound) q p.0 known (pick_from_leaf (leaves_of s.covers q.dir.0) (hash_of q.name) p.0 (tree_of_row s.homes s.covers sound.table q.dir.0) old.1.stands p.1.contains)))
      (live_which (q.dir, p.0) (record { known = known; stands = p.1.stands })))
      (λ none. stands_nowhere n leaves_now q none ∙ sym (stands_nowhere s (sound_leaves s sound) q none)) (known_or_not s.homes q.dir.0))

  pub regroup_right : KeepsShownTree s t dir gone
  regroup_right = subst (λ (u : State). KeepsShownTree s u dir gone) (sym r.left) (record {
    sound = sound_again n leaves_now (subst (λ (tree : Tree). IsTabled tree s.homes) (sym tree_now) sound.tabled) (subst (λ (tree : Tree). IsCounted tree s.counts s.pins) (sym tree_now) sound.counted);
    tree = tree_now;
    frame = λ leaf none live.
        let apart = apart_from_gone leaf live (λ same ended. none (one_of_those dir.0 leaf gone same ended)) in
        record { live = apart_live leaf apart live; names = apart_names leaf apart };
  })

  -- so are its caches, where fragments of leaves that came are tied and have one of the new numbers, and those of leaves that aren't concerned are as they were
  pub regroup_cached : (old new : CacheMap) → AllCachedIn s old → ((q : Leaf) → q.0.0 ≡ dir.0 → HasLeaf gone q.1 → (b : At) → map.get new.held q ≡ Some b → ⊥)
      → ((q : Leaf) → q.0.0 ≡ dir.0 → Comes row cover q.1 → (b : At) → map.get new.held q ≡ Some b → IsTied b.frag (object_of s.objects q.0 q.1) × (b.frag.generation < s.next_generation + count))
      → ((q : Leaf) → Apart q → (b : At) → map.get new.held q ≡ Some b → map.get old.held q ≡ Some b) → AllCachedIn t new
  regroup_cached old new cached ended fresh others = subst (λ (u : State). AllCachedIn u new) (sym r.left) (λ q b is. ⊎_elim (λ end. absurd (ended q end.0 end.1 b is)) (⊎_elim
      (λ came. let its = fresh q came.0 came.1 b is in record { live = came_live q came.0 came.1.0; tied = its.0; made = its.1 })
      (λ apart. let was = cached q b (others q apart b is) in let given = was.made in record { live = apart_live q apart was.live; tied = was.tied; made = omega (arith, given) })) (which q))
