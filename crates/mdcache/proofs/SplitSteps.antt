-- What a split makes of the whole, once all was ready for it.
use Rattle.mdcache.proofs.Common.{AllCachedIn, At, Bool, Cached, Came, CanSplit, Comes, Core, Dirfrag, Fragment, Fresh, HasCached, HasLeaf, HasUnsaved, Ino, Inode, IsChild, IsChildAt, IsConcerned, IsDistinct, IsFamilyAt, IsFreeFor, IsListedAnew, IsNewLeaf, IsNoChild, IsReadyToSplit, IsRegrouped, IsSound, IsSoundCore, IsSplit, IsSplitInto, IsSplitReady, IsTied, IsTree, HasNoKeptPlace, Leaf, List, MayHold, Names, None, Option, Part, ReadsCore, Some, Split, SplitsAt, SplitsInto, State, Unsaved, [], ap, are_empty, arith, lies_by, between, child_of, cond, dentry_of, false, fresh_tied, get-names_in, has_none, hash_of, here, here_free, holds, holds_contains, inl, inr, is_known, is_some, leaf_is, leaf_of, leaf_or_apart, leaves_of, length, marked_as, mul-le-mul_right, names_in, names_of, object_of, one_of_hash, one_or_other, order, pick_after_split, reads_came, refl, rules, same_Some, shown_names, shown_tree, span, span-split, span_pos, split_beside, split_came, split_child, split_gone, split_in, split_unclean_beside, split_unclean_child, split_unclean_gone, split_whole, state_of, subst, sym, tree_of_row, true, unclean, without_objects, zero, ℕ, ⊎_elim, ◌*◌, ◌+◌, ◌<◌, ◌^◌, ◌∙◌, ◌∷◌, ◌≡◌, ◌≤◌, ◌⊎◌}
use Rattle.std.proofs.Math.Bool.{and-true}
use Rattle.std.specs.List.{slice_index_or}
use Rattle.std.specs.FinMap as map
use Rattle.mdcache.specs.Splits.{KeepsShownTree}
use Rattle.mdcache.proofs.ChangeSteps.{cached_there, its}
use Rattle.mdcache.proofs.CoreLaws.{reads_cached_so, reads_state, shows_so, there_after}
use Rattle.mdcache.proofs.JoinSteps.{cached_nowhere, family_live}
use Rattle.mdcache.proofs.ListedLaws.{listed_anew}
use Rattle.mdcache.proofs.NamedLaws.{pick_at, sound_leaves, stands_at}
use Rattle.mdcache.proofs.RegroupLaws.{Replaces, regroup_cached}
use Rattle.mdcache.proofs.SplitLaws.{only_one, split_replaces, splits_right}

-- a child is no leaf of a tree that has the fragment
pub no_leaf_yet : (leaves : List Fragment) (frag : Fragment) (nb i : ℕ) → IsTree leaves → HasLeaf leaves frag → 1 ≤ nb → frag.bits + nb ≤ 24 → i < 2 ^ nb → HasLeaf leaves (child_of frag i nb) → ⊥
no_leaf_yet leaves frag nb i tree stands some few below child =
    let t = span (frag.bits + nb) in
    let whole : span frag.bits ≡ 2 ^ nb * t = span-split frag.bits nb few in
    let steps : (i + 1) * t ≤ 2 ^ nb * t = mul-le-mul_right t (omega (arith, below)) in
    let positive = span_pos (frag.bits + nb) in
    let one : frag ≡ child_of frag i nb = one_of_hash leaves frag (child_of frag i nb) (frag.value + i * t) tree stands child (omega arith) (omega (arith, whole, steps, positive)) (omega arith) (omega (arith, positive)) in
    let bits : frag.bits ≡ frag.bits + nb = ap (λ (g : Fragment). g.bits) one in
    omega (arith, bits, some)

-- a leaf that came is a child, and the other way round
is_child : (row cover : List Fragment) (frag : Fragment) (nb : ℕ) → IsSplit row cover frag nb → (g : Fragment) → Comes row cover g → IsChild frag nb g
is_child row cover frag nb divided g came = ⊎_elim (λ old. absurd (came.1 old.0)) (λ child. child) ((divided.leaves g).0 came.0)

child_comes : (row cover : List Fragment) (frag : Fragment) (nb : ℕ) → IsTree row → CanSplit row frag nb → IsSplit row cover frag nb → (i : ℕ) → i < 2 ^ nb → Comes row cover (child_of frag i nb)
child_comes row cover frag nb tree can divided i below = ((divided.leaves (child_of frag i nb)).1 (inr (i, below, refl)), no_leaf_yet row frag nb i tree can.stands can.fits.some can.fits.in_all below)

-- no child of a leaf is cached anywhere
pub no_child_cached : (c : Core) → IsSoundCore c → (dir : Ino) (frag : Fragment) (nb : ℕ) → CanSplit (leaves_of c.covers dir.0) frag nb → (i : ℕ) → i < 2 ^ nb → map.get c.caches.held (dir, child_of frag i nb) ≡ None
no_child_cached c sound dir frag nb can i below = cached_nowhere c sound (dir, child_of frag i nb) (λ live.
    no_leaf_yet (leaves_of c.covers dir.0) frag nb i (tree_of_row c.homes c.covers sound.sound.table dir.0) can.stands can.fits.some can.fits.in_all below live.stands)

-- under a test it is enough that they are alike where it passes
holds_alike : (b : Bool) (x y : Option Inode) → (b ≡ true → x ≡ y) → cond b x None ≡ cond b y None
holds_alike b x y same = search rules

-- what a split leaves of the whole
pub record HasSplit (old new : Core) (a : Dirfrag) (nb : ℕ) : Type 0 where
  pub split : IsSplitInto (state_of old) (state_of new) a.dir a.frag nb
  pub tree : KeepsShownTree (state_of old) (state_of new) a.dir (a.frag ∷ [])
  pub came : Came (IsFamilyAt a.rank.0 a.dir a.frag nb) (IsFamilyAt a.rank.0 a.dir a.frag nb) old.caches new.caches
  pub sound : IsSoundCore new

module _ (old mid : Core) (sound : IsSoundCore old) (a : Dirfrag) (nb : ℕ) (split : Split) (may : MayHold old.caches a.rank (leaf_of a)) (known : is_known old.homes a.dir.0 ≡ true)
    (can : CanSplit (leaves_of old.covers a.dir.0) a.frag nb) (reads : ReadsCore (IsFamilyAt a.rank.0 a.dir a.frag nb) (IsFamilyAt a.rank.0 a.dir a.frag nb) old mid) (distinct : IsDistinct leaf_is (order mid.caches a.rank.0))
    (only : (r : ℕ) (q : Leaf) → HasNoKeptPlace mid.caches r q ⊎ IsChildAt a.rank.0 a.dir a.frag nb r q) (ready : IsSplitReady mid a nb split)
    (new : Core) (divided : IsSplit (leaves_of mid.covers a.dir.0) (leaves_of new.covers a.dir.0) a.frag nb) (whole : IsTree (leaves_of new.covers a.dir.0)) (places : SplitsInto a.rank.0 a.dir a.frag nb split.parts mid.next_version mid.caches new.caches)
    (left : (empty : Bool) × HasCached (here mid.caches a.rank.0 (leaf_of a)) (λ (f : Cached). empty ≡ has_none (shown_names f)) × (new ≡ split_in mid a nb split.plan (leaves_of new.covers a.dir.0) empty new.caches new.room)) where
  abbrev leaf : Leaf
  leaf = leaf_of a

  abbrev cover : List Fragment
  cover = leaves_of new.covers a.dir.0

  abbrev Family : ℕ → Leaf → Type 0
  Family = IsFamilyAt a.rank.0 a.dir a.frag nb

  abbrev s : State
  s = state_of mid

  -- what is left, in its own words
  abbrev t : State
  t = state_of (split_in mid a nb split.plan cover left.0 new.caches new.room)

  was : s ≡ state_of old
  was = reads_state Family Family old mid reads

  -- the state is sound still, and the leaf can change as before
  still : IsSound s × (is_known s.homes a.dir.0 ≡ true) × CanSplit (leaves_of s.covers a.dir.0) a.frag nb
  still = subst (λ (u : State). IsSound u × (is_known u.homes a.dir.0 ≡ true) × CanSplit (leaves_of u.covers a.dir.0) a.frag nb) (sym was) (sound.sound, known, can)

  -- cached leaves are sound still
  cached : AllCachedIn s mid.caches
  cached = reads_cached_so Family Family old mid reads sound (family_live old a nb known can mid.caches (λ i below. (ready.kept i below).1))

  abbrev row : List Fragment
  row = leaves_of s.covers a.dir.0

  tree : IsTree row
  tree = tree_of_row s.homes s.covers still.0.table a.dir.0

  -- the fragment that splits
  it : (g : Cached) × (here mid.caches a.rank.0 leaf ≡ Some g)
  it = its (here mid.caches a.rank.0 leaf) (cached_there (SplitsAt a.rank.0 a.dir a.frag nb split.parts mid.next_version mid.caches new.caches) (here mid.caches a.rank.0 leaf) places)

  abbrev f : Cached
  f = it.0

  so : (P : Cached → Type 0) → HasCached (here mid.caches a.rank.0 leaf) P → P f
  so P h = subst (λ (o : Option Cached). HasCached o P) it.1 h

  done : SplitsAt a.rank.0 a.dir a.frag nb split.parts mid.next_version mid.caches new.caches f
  done = so (SplitsAt a.rank.0 a.dir a.frag nb split.parts mid.next_version mid.caches new.caches) places

  count : length split.parts ≡ 2 ^ nb
  count = (so (IsReadyToSplit a.frag nb split.parts) ready.ready).1.count

  free : IsFreeFor mid.caches a.rank.0 leaf
  free = here_free a.rank.0 (map.get mid.caches.held leaf) (ap (λ (o : Option Cached). is_some o) it.1)

  any : Part
  any = record { frag = a.frag; fragment = f }

  -- ---- its names

  leaf_shows : names_of s.unsaved s.objects leaf ≡ shown_names f
  leaf_shows = shows_so mid cached a.rank.0 leaf f it.1

  -- a child has the names of the tree that it contains
  child_names : (g : Fragment) → Comes row cover g → (name : List ℕ) → map.get (names_in g (shown_names f)) name ≡ cond (holds g (hash_of name)) (map.get (shown_tree s) (dentry_of a.dir.0 name)) None
  child_names g came name = get-names_in g (shown_names f) name ∙ holds_alike (holds g (hash_of name)) (map.get (shown_names f) name) (map.get (shown_tree s) (dentry_of a.dir.0 name)) (λ has.
      let p = pick_at s (sound_leaves s still.0) (dentry_of a.dir.0 name) in
      let one : a.frag ≡ p.0 = ⊎_elim (λ same. sym same) (λ other.
      let after = pick_after_split row cover a.frag whole (hash_of name) p.0 p.1 nb divided other in
      absurd (came.1 (subst (HasLeaf row) (sym (after.alone g came.0 (holds_contains g (hash_of name) has))) p.1.stands))) (one_or_other p.0 a.frag) in
      ap (λ (m : Names). map.get m name) (sym leaf_shows) ∙ ap (λ (h : Fragment). map.get (names_of s.unsaved s.objects (a.dir, h)) name) one ∙ sym (stands_at s (sound_leaves s still.0) (dentry_of a.dir.0 name) p.0 still.1 p.1))

  -- what isn't clean of a child
  unclean_child : (i : ℕ) → i < 2 ^ nb
      → map.get (unclean new.caches) (a.dir, child_of a.frag i nb) ≡ Some (record { base = Fresh; generation = (slice_index_or split.parts i any).fragment.generation; dirty = (slice_index_or done.0 i any).fragment.dirty })
  unclean_child i below = split_unclean_child a.rank.0 a.dir a.frag nb split.parts mid.next_version mid.caches new.caches f can.fits.some count done i any below

  -- and its number
  numbered : (i : ℕ) → i < 2 ^ nb → (i < length done.0) × ((slice_index_or split.parts i any).fragment.generation ≡ s.next_generation + i)
  numbered i below = let same = done.1.count in (omega (arith, below, count, same), ready.numbered i any (omega (arith, below, count)))

  abbrev Apart : Leaf → Type 0
  Apart q = q.0.0 ≡ a.dir.0 → IsConcerned row cover (a.frag ∷ []) q.1 → ⊥

  -- a leaf that isn't concerned is neither the one that split nor a child
  beside : (q : Leaf) → Apart q → (leaf_is leaf q ≡ false) × IsNoChild a.dir a.frag nb q
  beside q apart = (
    ⊎_elim (λ same. absurd (apart (ap (λ (l : Leaf). l.0.0) (sym same)) (inl (zero, omega arith, ap (λ (l : Leaf). l.1) same)))) (λ other. other) (leaf_or_apart leaf q),
    λ i below. ⊎_elim
        (λ same. absurd (apart (ap (λ (l : Leaf). l.0.0) (sym same)) (inr (subst (Comes row cover) (ap (λ (l : Leaf). l.1) same) (child_comes row cover a.frag nb tree still.2 divided i below)))))
        (λ other. other) (leaf_or_apart (a.dir, child_of a.frag i nb) q),
  )

  -- ---- all of it

  is_regrouped : IsRegrouped s t a.dir (a.frag ∷ []) cover (2 ^ nb)
  is_regrouped = record {
    known = still.1;
    whole = whole;
    unsaved = unclean new.caches;
    purge = t.purge;
    left =
        (let empty : left.0 ≡ are_empty s a.dir (a.frag ∷ []) = so (λ (g : Cached). left.0 ≡ has_none (shown_names g)) left.1 ∙ ap has_none (sym leaf_shows) ∙ sym (and-true (has_none (names_of s.unsaved s.objects leaf))) in
        λ i. record t { next_version = s.next_version + cond (empty i) 0 1 });
    came = λ g came.
        let child = is_child row cover a.frag nb divided g came in
        let i = child.0 in
        let below = child.1 in
        let given = (numbered i below).1 in
        subst (λ (h : Fragment). HasUnsaved (map.get (unclean new.caches) (a.dir, h)) (IsNewLeaf s a.dir h (2 ^ nb))) (sym child.2)
        (subst (λ (o : Option Unsaved). HasUnsaved o (IsNewLeaf s a.dir (child_of a.frag i nb) (2 ^ nb))) (sym (unclean_child i below)) (record {
          fresh = refl;
          first = omega (arith, given);
          last = omega (arith, given, below);
          dirty = λ name.
              (done.1.each i any (numbered i below).0).dirty name
              ∙ ap (λ (o : Option Inode). marked_as s.next_version o None) (child_names (child_of a.frag i nb) (child_comes row cover a.frag nb tree still.2 divided i below) name);
        }));
    ended = λ g has. subst (λ (h : Fragment). map.get (unclean new.caches) (a.dir, h) ≡ None) (only_one a.frag g has)
        (split_unclean_gone a.rank.0 a.dir a.frag nb split.parts mid.next_version mid.caches new.caches f can.fits.some count done free);
    others = λ q apart. split_unclean_beside a.rank.0 a.dir a.frag nb split.parts mid.next_version mid.caches new.caches f can.fits.some count done q (beside q apart).0 (beside q apart).1;
    listed = subst (λ (o : List ℕ). IsListedAnew s.purge (without_objects (map.insert s.purge o tt) split.plan.children.items) a.dir (a.frag ∷ []) (Comes row cover)) (sym ready.planned.object)
        (listed_anew s.purge a.dir a.frag nb split.plan.children.items (Comes row cover) (still.0.numbered a.dir.0 still.1) (between 0 16777216 row a.frag tree.tiles still.2.stands).0 can.fits.some still.2.fits.in_all
        ready.planned.children (is_child row cover a.frag nb divided) (child_comes row cover a.frag nb tree still.2 divided));
  }

  is_split : IsSplitInto s t a.dir a.frag nb
  is_split = record {
    can = still.2;
    cover = cover;
    divided = divided;
    regrouped = is_regrouped;
    numbered = λ i below. subst (λ (o : Option Unsaved). HasUnsaved o (λ u. u.generation ≡ s.next_generation + i)) (sym (unclean_child i below)) (numbered i below).1;
  }

  cut : Replaces row (a.frag ∷ []) cover
  cut = split_replaces row cover a.frag nb can.fits.some still.2.stands divided

  -- ---- of what was before

  split_made : IsSplitInto (state_of old) (state_of new) a.dir a.frag nb
  split_made = subst (λ (u : State). IsSplitInto u (state_of new) a.dir a.frag nb) was (subst (λ (k : Core). IsSplitInto s (state_of k) a.dir a.frag nb) (sym left.2) is_split)

  pub split_right : HasSplit old new a nb
  split_right = record {
    split = split_made;
    tree = splits_right (state_of old) (state_of new) a.dir a.frag nb sound.sound split_made;
    came = split_came a.rank.0 a.dir a.frag nb split.parts mid.next_version mid.caches new.caches f can.fits.some count done Family Family old.caches (reads_came Family Family old.objects old.caches mid.caches reads.caches) (inl (refl, refl)) (λ i below. inr (refl, i, below, refl));
    sound = subst IsSoundCore (sym left.2) (record {
      sound = (splits_right s t a.dir a.frag nb still.0 is_split).sound;
      begun = (let before : 0 < s.next_generation = subst (λ (u : State). 0 < u.next_generation) (sym was) sound.begun in omega (arith, before));
      cached = regroup_cached s still.0 a.dir (a.frag ∷ []) cover (2 ^ nb) t is_regrouped cut mid.caches new.caches cached
          (λ q same has b is.
          let its : q ≡ leaf = (λ i. (record { 0 = same i }, sym (only_one a.frag q.1 has) i)) in
          let clash : None ≡ Some b = sym (ap (map.get new.caches.held) its ∙ split_gone a.rank.0 a.dir a.frag nb split.parts mid.next_version mid.caches new.caches f can.fits.some count done free) ∙ is in cc)
          (λ q same came b is.
          let child = is_child row cover a.frag nb divided q.1 came in
          let below = child.1 in
          let held : map.get new.caches.held q ≡ Some (lies_by a.rank.0 (slice_index_or done.0 child.0 any).fragment) = ap (map.get new.caches.held) ((λ i. (record { 0 = same i }, q.1)) ∙ ap (λ (h : Fragment). (a.dir, h)) child.2)
          ∙ split_child a.rank.0 a.dir a.frag nb split.parts mid.next_version mid.caches new.caches f can.fits.some count done child.0 any below in
          let each_is = done.1.each child.0 any (numbered child.0 below).0 in
          let given : (slice_index_or done.0 child.0 any).fragment.generation ≡ s.next_generation + child.0 = each_is.numbered ∙ (numbered child.0 below).1 in
          subst (λ (k : At). IsTied k.frag (object_of s.objects q.0 q.1) × (k.frag.generation < s.next_generation + 2 ^ nb)) (same_Some (lies_by a.rank.0 (slice_index_or done.0 child.0 any).fragment) b (sym held ∙ is))
          (fresh_tied (slice_index_or done.0 child.0 any).fragment (object_of s.objects q.0 q.1) each_is.fresh, omega (arith, given, below)))
          (λ q apart b is. sym (split_beside a.rank.0 a.dir a.frag nb split.parts mid.next_version mid.caches new.caches f can.fits.some count done q (beside q apart).0 (beside q apart).1) ∙ is);
      none = split_whole a.rank.0 a.dir a.frag nb split.parts mid.next_version mid.caches new.caches f can.fits.some count done (there_after Family Family old mid a.rank.0 reads may.there) distinct free ready.kept only;
    });
  }
