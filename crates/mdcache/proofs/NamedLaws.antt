-- A name of a leaf gets an inode, or is removed: all but the table of directories is sound as before, and the tree has the name so.
use Rattle.mdcache.proofs.Common.{AreYoung, Bool, Dentry, Fragment, Fresh, Homes, Inode, IsAsItStands, IsCounted, IsDentryLeaf, IsLive, HasOwner, IsPick, IsSaved, IsSound, IsStandingJob, IsTable, IsTabled, IsUnsaved, Job, Keeps, Leaf, List, Mark, Marks, Names, None, Omap, Option, Some, State, Stored, Tree, Unsaved, ap, arith, cond, dentry-exact, dentry-total, dirtied, false, false_from_ne_true, get-empty, get-insert, get_beside, get_put, hash_of, inl, inr, is_known, is_some, key_cmp, key_or_apart, leaf-total, leaf_is, leaf_itself, leaf_or_apart, leaves_of, marked_beside, marked_here, names_at, object_of, one_leaf, only_below, refl, rules, same_Some, same_leaf, same_map, shown_at, shown_over, shown_put, shown_tree, some_pick, subst, sym, text_of, tied_leaf, tree_of_row, true, with_changed_name, with_name, ℕ, ⊎_elim, ◌<◌, ◌^◌, ◌∙◌, ◌≡◌, ◌⊎◌}
use Rattle.std.specs.FinMap as map
use Rattle.mds_types.proofs.EntryLaws.{get_put as get_dentry, get_beside as get_other_dentry, get_removed, get_left as get_left_dentry, same_or_apart}
use Rattle.dentry_cache.specs.Ties.{IsStillDirty}
use Rattle.mdcache.specs.Changes.{IsCountedObject}
use Rattle.mdcache.specs.Shown.{names_of}
use Rattle.mdcache.proofs.ShownLaws.{found_at, found_nowhere}
use Rattle.mdcache.proofs.SoundLaws.{names_alike}

-- all that every state keeps, but that the table is that of the tree
pub record HasSoundLeaves (s : State) : Type 0 where
  pub table : IsTable s.homes s.covers
  pub numbered : (d : ℕ) → is_known s.homes d ≡ true → d < 2 ^ 64
  pub placed : (leaf : Leaf) (name : List ℕ) (inode : Inode) → IsLive s.homes s.covers leaf → map.get (names_of s.unsaved s.objects leaf) name ≡ Some inode → IsPick (leaves_of s.covers leaf.0.0) (hash_of name) leaf.1
  pub unsaved : (leaf : Leaf) (u : Unsaved) → map.get s.unsaved leaf ≡ Some u → IsUnsaved s leaf u
  pub saved : (leaf : Leaf) → IsLive s.homes s.covers leaf → map.get s.unsaved leaf ≡ None → IsSaved leaf.1 (object_of s.objects leaf.0 leaf.1)
  pub owned : (name : List ℕ) → is_some (map.get s.objects name) ≡ true → HasOwner s name
  pub listed : (leaf : Leaf) → IsLive s.homes s.covers leaf → map.get s.purge (text_of leaf) ≡ None
  pub standing : (leaf : Leaf) (job : Job) → map.get s.jobs leaf ≡ Some job → IsStandingJob s leaf job
  pub once : (a b : Leaf) (i j : Job) → map.get s.jobs a ≡ Some i → map.get s.jobs b ≡ Some j → i.number ≡ j.number → a ≡ b

pub sound_leaves : (s : State) → IsSound s → HasSoundLeaves s
sound_leaves s sound = search rules

pub sound_again : (s : State) → HasSoundLeaves s → IsTabled (shown_tree s) s.homes → IsCounted (shown_tree s) s.counts s.pins → IsSound s
sound_again s leaves tabled counted = search rules

-- ---- what stands in a tree whose leaves are sound

module _ (s : State) (sound : HasSoundLeaves s) where
  pub pick_at : (q : Dentry) → (f : Fragment) × IsPick (leaves_of s.covers q.dir.0) (hash_of q.name) f
  pick_at q = some_pick (leaves_of s.covers q.dir.0) (hash_of q.name) (tree_of_row s.homes s.covers sound.table q.dir.0)

  -- a dentry of a directory that is known
  pub stands_at : (q : Dentry) (f : Fragment) → is_known s.homes q.dir.0 ≡ true → IsDentryLeaf s.covers q f → map.get (shown_tree s) q ≡ map.get (names_of s.unsaved s.objects (q.dir, f)) q.name
  stands_at q f known pick = found_at (names_of s.unsaved s.objects) s.homes s.covers q.dir.0 q.name f known pick.stands (λ g inode stands has.
      pick.alone g stands (sound.placed (q.dir, g) q.name inode (record { known = known; stands = stands }) has).contains)

  pub stands_nowhere : (q : Dentry) → is_known s.homes q.dir.0 ≡ false → map.get (shown_tree s) q ≡ None
  stands_nowhere q unknown = found_nowhere (names_of s.unsaved s.objects) s.homes s.covers q.dir.0 q.name unknown

-- a directory is known or isn't
pub known_or_not : (homes : Homes) (d : ℕ) → (is_known homes d ≡ true) ⊎ (is_known homes d ≡ false)
known_or_not homes d = search rules

-- the tree with an inode at a dentry, or with none
abbrev pub with_at : Tree → Dentry → Option Inode → Tree
with_at tree dentry (Some inode) = map.insert tree dentry inode
with_at tree dentry None = map.remove tree dentry

get_here : (tree : Tree) (p : Dentry) (o : Option Inode) → map.get (with_at tree p o) p ≡ o
get_here tree p o = search (rules, get_removed, get_dentry)

get_elsewhere : (tree : Tree) (p : Dentry) (o : Option Inode) (q : Dentry) → (q ≡ p → ⊥) → map.get (with_at tree p o) q ≡ map.get tree q
get_elsewhere tree p o q apart = search (rules, get_left_dentry, get_other_dentry)

-- ---- one name

-- a fragment as it stands shows what its leaf shows
as_it_shows : (o : Option Unsaved) (object : Option Omap) (next : ℕ) (u : Unsaved) → IsAsItStands o object next u → shown_over u.base (names_at object) u.dirty ≡ shown_at o object
as_it_shows (Some v) object next u is = ap (λ (w : Unsaved). shown_over w.base (names_at object) w.dirty) is
as_it_shows None object next u is = elim u.base as (λ b. IsCountedObject b object → shown_over b (names_at object) u.dirty ≡ names_at object) [ Fresh ↦ λ h. absurd h | Stored version ↦ λ h. only_below (names_at object) u.dirty is.1 ] is.0

module _ (s : State) (sound : HasSoundLeaves s) (dentry : Dentry) (f : Fragment) (inode : Option Inode) (live : IsLive s.homes s.covers (dentry.dir, f)) (pick : IsDentryLeaf s.covers dentry f)
    (u : Unsaved) (stands : IsAsItStands (map.get s.unsaved (dentry.dir, f)) (object_of s.objects dentry.dir f) s.next_generation u) where
  abbrev pub leaf : Leaf
  leaf = (dentry.dir, f)

  abbrev pub t : State
  t = with_name s leaf u dentry.name inode

  abbrev v : Unsaved
  v = dirtied u dentry.name s.next_version inode

  unsaved_at : (q : Leaf) → map.get t.unsaved q ≡ cond (leaf_is q leaf) (Some v) (map.get s.unsaved q)
  unsaved_at q = get-insert leaf-total s.unsaved leaf v q ∙ ap (λ (b : Bool). cond b (Some v) (map.get s.unsaved q)) (tied_leaf q leaf)

  unsaved_here : map.get t.unsaved leaf ≡ Some v
  unsaved_here = unsaved_at leaf ∙ ap (λ (b : Bool). cond b (Some v) (map.get s.unsaved leaf)) (leaf_itself leaf)

  unsaved_beside : (q : Leaf) → leaf_is q leaf ≡ false → map.get t.unsaved q ≡ map.get s.unsaved q
  unsaved_beside q apart = unsaved_at q ∙ ap (λ (b : Bool). cond b (Some v) (map.get s.unsaved q)) apart

  -- what is shown

  shows_here : names_of t.unsaved t.objects leaf ≡ with_changed_name (names_of s.unsaved s.objects leaf) dentry.name inode
  unfolding names_of
  shows_here =
      ap (λ o. shown_at o (object_of s.objects dentry.dir f)) unsaved_here
      ∙ shown_put u.base (names_at (object_of s.objects dentry.dir f)) u.dirty v.dirty dentry.name (record { version = s.next_version; inode = inode }) refl
      ∙ ap (λ (n : Names). with_changed_name n dentry.name inode) (as_it_shows (map.get s.unsaved leaf) (object_of s.objects dentry.dir f) s.next_generation u stands)

  pub shows_beside : (q : Leaf) → leaf_is q leaf ≡ false → names_of t.unsaved t.objects q ≡ names_of s.unsaved s.objects q
  shows_beside q apart = names_alike s t q (unsaved_beside q apart) refl

  -- a name of a leaf that isn't this one stands for what it stood for
  same_name : (q : Leaf) (name : List ℕ) → (q ≡ leaf → name ≡ dentry.name → ⊥) → map.get (names_of t.unsaved t.objects q) name ≡ map.get (names_of s.unsaved s.objects q) name
  same_name q name other = ⊎_elim
      (λ same.
      ap (λ (l : Leaf). map.get (names_of t.unsaved t.objects l) name) same ∙ ap (λ (n : Names). map.get n name) shows_here
      ∙ marked_beside (names_of s.unsaved s.objects leaf) dentry.name inode name (other same) ∙ ap (λ (l : Leaf). map.get (names_of s.unsaved s.objects l) name) (sym same))
      (λ apart. ap (λ (n : Names). map.get n name) (shows_beside q apart)) (leaf_or_apart q leaf)

  placed_still : (q : Leaf) (name : List ℕ) (i : Inode) → IsLive s.homes s.covers q → map.get (names_of t.unsaved t.objects q) name ≡ Some i → IsPick (leaves_of s.covers q.0.0) (hash_of name) q.1
  placed_still q name i is has = go (leaf_or_apart q leaf) (key_or_apart name dentry.name)
    where
      other : (q ≡ leaf → name ≡ dentry.name → ⊥) → IsPick (leaves_of s.covers q.0.0) (hash_of name) q.1
      other apart = sound.placed q name i is (sym (same_name q name apart) ∙ has)

      go : (q ≡ leaf) ⊎ (leaf_is q leaf ≡ false) → (name ≡ dentry.name) ⊎ (name ≡ dentry.name → ⊥) → IsPick (leaves_of s.covers q.0.0) (hash_of name) q.1
      go (inl one) (inl same) = subst (λ (n : List ℕ). IsPick (leaves_of s.covers q.0.0) (hash_of n) q.1) (sym same) (subst (λ (l : Leaf). IsPick (leaves_of s.covers l.0.0) (hash_of dentry.name) l.1) (sym one) pick)
      go (inl one) (inr apart) = other (λ o n. apart n)
      go (inr apart) either = other (λ one n. let clash : true ≡ false = sym (same_leaf q leaf one) ∙ apart in cc)

  -- what isn't clean

  before : (o : Option Unsaved) → map.get s.unsaved leaf ≡ o → IsAsItStands o (object_of s.objects dentry.dir f) s.next_generation u → (u.generation < s.next_generation) × AreYoung u.dirty s.next_version
  before (Some w) is h = let old = sound.unsaved leaf w is in subst (λ (x : Unsaved). (x.generation < s.next_generation) × AreYoung x.dirty s.next_version) (sym h) (old.made, old.young)
  before None is h = (h.2, λ name mark has. let clash : None ≡ Some mark = sym (ap (λ (m : Marks). map.get m name) h.1 ∙ get-empty key_cmp name) ∙ has in absurd cc)

  younger : AreYoung v.dirty t.next_version
  younger name mark has = ⊎_elim
      (λ same.
      let its = same_Some (record { version = s.next_version; inode = inode }) mark (sym (ap (map.get v.dirty) same ∙ get_put u.dirty dentry.name _) ∙ has) in
      omega (arith, ap (λ (m : Mark). m.version) its))
      (λ apart. omega (arith, (before (map.get s.unsaved leaf) refl stands).1 name mark (sym (get_beside u.dirty dentry.name _ name apart) ∙ has))) (key_or_apart name dentry.name)

  raised : (marks : Marks) → AreYoung marks s.next_version → AreYoung marks t.next_version
  raised marks young name mark has = omega (arith, young name mark has)

  unsaved_still : (q : Leaf) (w : Unsaved) → map.get t.unsaved q ≡ Some w → IsUnsaved t q w
  unsaved_still q w is = ⊎_elim
      (λ same.
      let its = same_Some v w (sym unsaved_here ∙ ap (map.get t.unsaved) (sym same) ∙ is) in
      subst (IsUnsaved t q) its (subst (λ (l : Leaf). IsUnsaved t l v) (sym same) (record { live = live; made = (before (map.get s.unsaved leaf) refl stands).0; young = younger })))
      (λ apart. let old = sound.unsaved q w (sym (unsaved_beside q apart) ∙ is) in record { live = old.live; made = old.made; young = raised w.dirty old.young }) (leaf_or_apart q leaf)

  -- jobs

  keeps : (job : Job) → Keeps u.dirty job.snapshot.names → AreYoung job.snapshot.names s.next_version → Keeps v.dirty job.snapshot.names
  keeps job old young name = ⊎_elim
      (λ same. subst (λ o. IsStillDirty o (map.get job.snapshot.names name)) (sym (ap (map.get v.dirty) same ∙ get_put u.dirty dentry.name _)) (new (map.get job.snapshot.names name) refl))
      (λ apart. subst (λ o. IsStillDirty o (map.get job.snapshot.names name)) (sym (get_beside u.dirty dentry.name _ name apart)) (old name)) (key_or_apart name dentry.name)
    where
      new : (o : Option Mark) → map.get job.snapshot.names name ≡ o → IsStillDirty (Some (record { version = s.next_version; inode = inode })) o
      new None is = tt
      new (Some then) is = λ same. absurd (omega (arith, young name then is, same))

  standing_here : (job : Job) → IsStandingJob s leaf job → IsStandingJob t leaf job
  standing_here job old =
      let its : old.unsaved ≡ u = sym (subst (λ o. IsAsItStands o (object_of s.objects dentry.dir f) s.next_generation u) old.beside stands) in
      record {
        mine = old.mine;
        given = old.given;
        young = raised job.snapshot.names old.young;
        unsaved = v;
        beside = unsaved_here;
        taken = record {
          valid = old.taken.valid;
          base = old.taken.base ∙ ap (λ (x : Unsaved). x.base) its;
          generation = old.taken.generation ∙ ap (λ (x : Unsaved). x.generation) its;
          keeps = keeps job (subst (λ (x : Unsaved). Keeps x.dirty job.snapshot.names) its old.taken.keeps) old.young;
          counted = old.taken.counted;
        };
      }

  standing_still : (q : Leaf) (job : Job) → IsStandingJob s q job → IsStandingJob t q job
  standing_still q job old = ⊎_elim (λ same. subst (λ (l : Leaf). IsStandingJob t l job) (sym same) (standing_here job (subst (λ (l : Leaf). IsStandingJob s l job) same old)))
      (λ apart. record { mine = old.mine; given = old.given; young = raised job.snapshot.names old.young; unsaved = old.unsaved; beside = unsaved_beside q apart ∙ old.beside; taken = old.taken }) (leaf_or_apart q leaf)

  pub named_leaves : HasSoundLeaves t
  named_leaves =
      let saved : (q : Leaf) → IsLive s.homes s.covers q → map.get t.unsaved q ≡ None → IsSaved q.1 (object_of s.objects q.0 q.1) = λ q is clean.
      (let apart = false_from_ne_true (leaf_is q leaf) (λ same. let clash : None ≡ Some v = sym clean ∙ ap (map.get t.unsaved) (one_leaf q leaf same) ∙ unsaved_here in cc) in
      sound.saved q is (sym (unsaved_beside q apart) ∙ clean)) in
      let standing : (q : Leaf) (job : Job) → map.get s.jobs q ≡ Some job → IsStandingJob t q job = λ q job is. standing_still q job (sound.standing q job is) in
      search (rules, placed_still, unsaved_still, sound.owned)

  -- the tree

  pub named_tree : shown_tree t ≡ with_at (shown_tree s) dentry inode
  named_tree = same_map dentry-total dentry-exact (shown_tree t) (with_at (shown_tree s) dentry inode) (λ q. go q (same_or_apart q dentry) (known_or_not s.homes q.dir.0))
    where
      go : (q : Dentry) → (q ≡ dentry) ⊎ (q ≡ dentry → ⊥) → (is_known s.homes q.dir.0 ≡ true) ⊎ (is_known s.homes q.dir.0 ≡ false) → map.get (shown_tree t) q ≡ map.get (with_at (shown_tree s) dentry inode) q
      go q (inl same) either = ap (map.get (shown_tree t)) same ∙ stands_at t named_leaves dentry f live.known pick ∙ ap (λ (n : Names). map.get n dentry.name) shows_here ∙ marked_here (names_of s.unsaved s.objects leaf) dentry.name inode ∙ sym (ap (map.get (with_at (shown_tree s) dentry inode)) same ∙ get_here (shown_tree s) dentry inode)
      go q (inr apart) (inl known) =
          let p = pick_at s sound q in
          stands_at t named_leaves q p.0 known p.1
          ∙ same_name (q.dir, p.0) q.name (λ one n. apart (λ i. record { dir = (one i).0; name = n i }))
          ∙ sym (stands_at s sound q p.0 known p.1)
          ∙ sym (get_elsewhere (shown_tree s) dentry inode q apart)
      go q (inr apart) (inr unknown) = stands_nowhere t named_leaves q unknown ∙ sym (stands_nowhere s sound q unknown) ∙ sym (get_elsewhere (shown_tree s) dentry inode q apart)
