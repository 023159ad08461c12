-- What a merge makes of the whole, once all was ready for it.
use Rattle.mdcache.proofs.Common.{AllCachedIn, At, Base, Bool, CacheMap, Came, CanMerge, Comes, Contains, Contains-from_any, Core, Dirfrag, Frag, Fragment, HasLeaf, HasUnsaved, Inode, IsAmongOr, IsConcerned, IsListedAnew, IsLive, IsMergeReady, IsMergedInto, IsNewLeaf, IsRegrouped, IsSound, IsSoundCore, IsTied, IsTree, KeepsNone, Keys, Leaf, List, Merge, None, NoneEnds, Option, ReadsCore, Some, State, Unsaved, ap, are_empty, arith, lies_by, between, both_ways, cond, dentry_of, each, ending_at, false, false_from_ne_true, fresh_tied, get_left, get_removed, get_with_frag, has_none, hash_of, holds, in_directory, inl, inr, is_clean_over, is_known, leaf_is, leaf_itself, leaf_of, leaves_in, leaves_inside, leaves_of, list_all, list_any, marked_as, merged_in, merged_leaves, names_of, object_of, one_leaf, reads_came, reads_weaker, refl, same_Some, same_leaf, shown_names, shown_tree, state_of, subst, sym, text_of, texts_differ, tree_of_row, true, true_from_ne_false, unclean, unclean_with, unsaved_here_at, unsaved_of, value_of, with_frag, with_objects, without_leaves, ℕ, ⊎_elim, ◌+◌, ◌<◌, ◌∙◌, ◌≡◌}
use Rattle.std.specs.FinMap as map
use Rattle.dentry_cache.specs.Came.Came.{has as arrives}
use Rattle.mdcache.specs.Splits.{KeepsShownTree}
use Rattle.mdcache.proofs.ChangeSteps.{ends_came_so, still_held, unclean_ended}
use Rattle.mdcache.proofs.CoreLaws.{reads_cached_so, reads_state}
use Rattle.mdcache.proofs.GoneLaws.{among, beside_on, get_without, leaf_listed, one_of_those}
use Rattle.mdcache.proofs.JoinLaws.{from_mapped}
use Rattle.mdcache.proofs.JoinSteps.{cached_nowhere}
use Rattle.mdcache.proofs.MergeNames.{joined_is, merged_is_new, pick_inside}
use Rattle.mdcache.proofs.NamedLaws.{pick_at, sound_leaves, stands_at}
use Rattle.mdcache.proofs.NoNames.{all_pass, no_name, some_fails, some_name}
use Rattle.mdcache.proofs.RegroupLaws.{Replaces, dirty_shows, holds_or_none, regroup_cached}
use Rattle.mdcache.proofs.SplitLaws.{has_inside, inside_has, merge_replaces, merges_right, not_itself}

-- the fragment of a merge is cached nowhere before, and the leaves that end are live
module _ (c : Core) (sound : IsSoundCore c) (a : Dirfrag) (known : is_known c.homes a.dir.0 ≡ true) (can : CanMerge (leaves_of c.covers a.dir.0) a.frag) where
  pub ending_live : (q : Leaf) → Contains (ending_at c a) q → IsLive c.homes c.covers q
  ending_live q has =
      let w = from_mapped a.dir (leaves_inside a.frag (leaves_of c.covers a.dir.0)) q has in
      subst (IsLive c.homes c.covers) (sym w.2) (record { known = known; stands = (has_inside a.frag w.0 (leaves_of c.covers a.dir.0) w.1).0 })

  pub merged_nowhere : map.get c.caches.held (leaf_of a) ≡ None
  merged_nowhere = cached_nowhere c sound (leaf_of a) (λ live. merged_is_new (leaves_of c.covers a.dir.0) a.frag (tree_of_row c.homes c.covers sound.sound.table a.dir.0) can live.stands)

  -- leaves that end are live where they are cached, as long as the fragment that comes isn't cached
  pub ending_or_it : (caches : CacheMap) → map.get caches.held (leaf_of a) ≡ None → (r : ℕ) (q : Leaf) → IsAmongOr a.rank.0 (ending_at c a) (leaf_of a) r q → (b : At) → map.get caches.held q ≡ Some b → IsLive c.homes c.covers q
  ending_or_it caches absent r q (inl among) b is = ending_live q among.1
  ending_or_it caches absent r q (inr it) b is = let clash : None ≡ Some b = sym absent ∙ ap (map.get caches.held) (sym it.1) ∙ is in absurd cc

-- what a merge leaves of the whole
pub record HasMerged (old new : Core) (a : Dirfrag) : Type 0 where
  pub merged : IsMergedInto (state_of old) (state_of new) a.dir a.frag
  pub tree : KeepsShownTree (state_of old) (state_of new) a.dir (merged_leaves old a.dir a.frag)
  pub came : Came (IsAmongOr a.rank.0 (ending_at old a) (leaf_of a)) (λ r q. Contains (ending_at old a) q) old.caches new.caches
  pub sound : IsSoundCore new

module _ (old mid : Core) (sound : IsSoundCore old) (a : Dirfrag) (merge : Merge) (known : is_known old.homes a.dir.0 ≡ true) (can : CanMerge (leaves_of old.covers a.dir.0) a.frag)
    (reads : ReadsCore (IsAmongOr a.rank.0 (ending_at old a) (leaf_of a)) NoneEnds old mid) (ready : IsMergeReady mid a merge)
    (new : Core) (left : new ≡ merged_in mid a merge.plan merge.joined new.room) (none : KeepsNone new.caches) where
  abbrev leaf : Leaf
  leaf = leaf_of a

  abbrev Uses : ℕ → Leaf → Type 0
  Uses = IsAmongOr a.rank.0 (ending_at old a) leaf

  -- what is left, in its own words
  abbrev made : Core
  made = merged_in mid a merge.plan merge.joined new.room

  abbrev s : State
  s = state_of mid

  abbrev t : State
  t = state_of made

  was : s ≡ state_of old
  was = reads_state Uses NoneEnds old mid reads

  -- the state is sound still, and the leaf can change as before
  still : IsSound s × (is_known s.homes a.dir.0 ≡ true) × CanMerge (leaves_of s.covers a.dir.0) a.frag
  still = subst (λ (u : State). IsSound u × (is_known u.homes a.dir.0 ≡ true) × CanMerge (leaves_of u.covers a.dir.0) a.frag) (sym was) (sound.sound, known, can)

  -- cached leaves are sound still
  cached : AllCachedIn s mid.caches
  cached = reads_cached_so Uses NoneEnds old mid reads sound (ending_or_it old sound a known can mid.caches ready.kept.1)

  abbrev row : List Fragment
  row = leaves_of s.covers a.dir.0

  abbrev gone : List Fragment
  gone = leaves_inside a.frag row

  abbrev ending : List Leaf
  ending = each (in_directory a.dir.0) gone

  ended_are : leaves_in a.dir merge.plan.leaves.items ≡ ending
  ended_are = ap (leaves_in a.dir) ready.planned.leaves

  tree : IsTree row
  tree = tree_of_row s.homes s.covers still.0.table a.dir.0

  -- the joined fragment alone comes
  comes : Comes row merge.plan.cover a.frag
  comes = ((ready.planned.cover.leaves a.frag).1 (inr refl), merged_is_new row a.frag tree still.2)

  is_it : (g : Fragment) → Comes row merge.plan.cover g → g ≡ a.frag
  is_it g came = ⊎_elim (λ old. absurd (came.1 old.0)) (λ same. same) ((ready.planned.cover.leaves g).0 came.0)

  not_gone : HasLeaf gone a.frag → ⊥
  not_gone has = let clash : true ≡ false = sym (has_inside a.frag a.frag row has).1 ∙ not_itself a.frag in cc

  -- ---- its names

  dirty_is : (name : List ℕ) → map.get merge.joined.dirty name ≡ marked_as s.next_version (cond (holds a.frag (hash_of name)) (map.get (shown_tree s) (dentry_of a.dir.0 name)) None) None
  dirty_is name = ready.joined.dirty name ∙ joined_is s still.0 a.dir still.1 name s.next_version merge.plan.cover a.frag ready.planned.whole still.2 ready.planned.cover

  shown_is : (name : List ℕ) → map.get (shown_names merge.joined) name ≡ cond (holds a.frag (hash_of name)) (map.get (shown_tree s) (dentry_of a.dir.0 name)) None
  shown_is name =
      dirty_shows merge.joined.base merge.joined.clean (record { base = merge.joined.base; generation = merge.joined.generation; dirty = merge.joined.dirty }) s.next_version name (cond (holds a.frag (hash_of name)) (map.get (shown_tree s) (dentry_of a.dir.0 name)) None)
      ready.joined.fresh (dirty_is name)

  -- none of the leaves shows a name, if and only if the joined fragment shows none
  found_in : (f : Fragment) (name : List ℕ) (inode : Inode) → HasLeaf gone f → map.get (names_of s.unsaved s.objects (a.dir, f)) name ≡ Some inode → map.get (shown_names merge.joined) name ≡ Some inode
  found_in f name inode has is =
      let both = has_inside a.frag f row has in
      let pick = still.0.placed (a.dir, f) name inode (record { known = still.1; stands = both.0 }) is in
      let tree_has : map.get (shown_tree s) (dentry_of a.dir.0 name) ≡ Some inode = stands_at s (sound_leaves s still.0) (dentry_of a.dir.0 name) f still.1 pick ∙ is in
      shown_is name
      ∙ ap (λ (b : Bool). cond b (map.get (shown_tree s) (dentry_of a.dir.0 name)) None) (sym (pick_inside row merge.plan.cover a.frag tree ready.planned.whole still.2 ready.planned.cover (hash_of name) f pick) ∙ both.1) ∙ tree_has

  comes_from : (name : List ℕ) (inode : Inode) → map.get (shown_names merge.joined) name ≡ Some inode → (f : Fragment) × HasLeaf gone f × (map.get (names_of s.unsaved s.objects (a.dir, f)) name ≡ Some inode)
  comes_from name inode is =
      let found = holds_or_none (holds a.frag (hash_of name)) (map.get (shown_tree s) (dentry_of a.dir.0 name)) inode (sym (shown_is name) ∙ is) in
      let p = pick_at s (sound_leaves s still.0) (dentry_of a.dir.0 name) in (
        p.0,
        inside_has a.frag p.0 row p.1.stands (pick_inside row merge.plan.cover a.frag tree ready.planned.whole still.2 ready.planned.cover (hash_of name) p.0 p.1 ∙ found.0),
        sym (stands_at s (sound_leaves s still.0) (dentry_of a.dir.0 name) p.0 still.1 p.1) ∙ found.1,
      )

  abbrev is_empty : Fragment → Bool
  is_empty f = has_none (names_of s.unsaved s.objects (a.dir, f))

  empty_is : has_none (shown_names merge.joined) ≡ are_empty s a.dir gone
  empty_is = both_ways (has_none (shown_names merge.joined)) (list_all is_empty gone)
      (λ none. true_from_ne_false (list_all is_empty gone) (λ fails.
      let f = some_fails is_empty gone fails in
      let w = some_name (names_of s.unsaved s.objects (a.dir, f.0)) f.2 in
      let clash : None ≡ Some w.1 = sym (no_name (shown_names merge.joined) w.0 none) ∙ found_in f.0 w.0 w.1 f.1 w.2 in
      cc))
      (λ all. true_from_ne_false (has_none (shown_names merge.joined)) (λ some.
      let w = some_name (shown_names merge.joined) some in
      let f = comes_from w.0 w.1 w.2 in
      let clash : None ≡ Some w.1 = sym (no_name (names_of s.unsaved s.objects (a.dir, f.0)) w.0 (all_pass is_empty gone all f.0 f.1)) ∙ f.2 in
      cc))

  -- ---- what isn't clean

  abbrev filled : CacheMap
  filled = with_frag mid.caches a.rank.0 leaf merge.joined

  abbrev beyond : Unsaved
  beyond = record { base = merge.joined.base; generation = merge.joined.generation; dirty = merge.joined.dirty }

  get_now : (q : Leaf) → map.get (unclean made.caches) q ≡ cond (list_any (leaf_is q) ending) None (cond (leaf_is q leaf) (Some beyond) (map.get (unclean mid.caches) q))
  get_now q =
      ap (λ u. map.get u q) (unclean_ended filled (leaves_in a.dir merge.plan.leaves.items) ∙ ap (without_leaves (unclean filled)) ended_are) ∙ get_without (unclean filled) ending q
      ∙ ap (cond (list_any (leaf_is q) ending) None) (ap (λ u. map.get u q) (unclean_with mid.caches a.rank.0 leaf merge.joined) ∙ unsaved_here_at (unclean mid.caches) leaf q (unsaved_of merge.joined)
      ∙ ap (λ (b : Base). cond (leaf_is q leaf) (cond (is_clean_over b merge.joined.dirty) None (Some beyond)) (map.get (unclean mid.caches) q)) ready.joined.fresh)

  -- of a leaf that doesn't end
  get_still : (q : Leaf) (y : Bool) → (q.0.0 ≡ a.dir.0 → HasLeaf gone q.1 → ⊥) → leaf_is q leaf ≡ y → map.get (unclean made.caches) q ≡ cond y (Some beyond) (map.get (unclean mid.caches) q)
  get_still q y stays is =
      let apart = false_from_ne_true (list_any (leaf_is q) ending) (λ among. let w = from_mapped a.dir gone q (Contains-from_any one_leaf q ending among) in stays (ap (λ (l : Leaf). l.0.0) w.2) (subst (HasLeaf gone) (sym (ap (λ (l : Leaf). l.1) w.2)) w.1)) in
      get_now q ∙ (λ i. cond (apart i) None (cond (is i) (Some beyond) (map.get (unclean mid.caches) q)))

  apart_it : (q : Leaf) → (q.0.0 ≡ a.dir.0 → IsConcerned row merge.plan.cover gone q.1 → ⊥) → leaf_is q leaf ≡ false
  apart_it q apart = false_from_ne_true (leaf_is q leaf) (λ is.
      let same = one_leaf q leaf is in
      apart (ap (λ (l : Leaf). l.0.0) same) (inr (subst (Comes row merge.plan.cover) (sym (ap (λ (l : Leaf). l.1) same)) comes)))

  -- ---- the purge list

  abbrev on : Keys
  on = with_objects s.purge (each text_of ending)

  -- ---- all of it

  is_regrouped : IsRegrouped s t a.dir gone merge.plan.cover 1
  is_regrouped = record {
    known = still.1;
    whole = ready.planned.whole;
    unsaved = unclean made.caches;
    purge = t.purge;
    left = λ i. record t { jobs = without_leaves s.jobs (ended_are i); next_version = s.next_version + cond (empty_is i) 0 1 };
    came = λ g came.
        let number = ready.joined.numbered in
        subst (λ (h : Fragment). HasUnsaved (map.get (unclean made.caches) (a.dir, h)) (IsNewLeaf s a.dir h 1)) (sym (is_it g came))
        (subst (λ (o : Option Unsaved). HasUnsaved o (IsNewLeaf s a.dir a.frag 1)) (sym (get_still leaf true (λ same. not_gone) (leaf_itself leaf))) (record { fresh = ready.joined.fresh; first = omega (arith, number); last = omega (arith, number); dirty = dirty_is }));
    ended = λ g has. get_now (a.dir, g) ∙ ap (λ (b : Bool). cond b None (cond (leaf_is (a.dir, g) leaf) (Some beyond) (map.get (unclean mid.caches) (a.dir, g)))) (among a.dir.0 (a.dir, g) gone refl has);
    others = λ q apart. get_still q false (λ same has. apart same (inl has)) (apart_it q apart);
    listed = subst (λ (names : Keys). IsListedAnew s.purge names a.dir gone (Comes row merge.plan.cover)) (λ i. map.remove (with_objects s.purge (each text_of (sym ended_are i))) (text_of (leaf_of a))) (record {
      ended = λ g has. get_left on (text_of (a.dir, a.frag)) (text_of (a.dir, g)) (λ same.
          let small = still.0.numbered a.dir.0 still.1 in
          let names : Frag a.dir g ≡ Frag a.dir a.frag = texts_differ (Frag a.dir g) (Frag a.dir a.frag) (small, (between 0 16777216 row g tree.tiles (has_inside a.frag g row has).0).0) (small, (between 0 16777216 merge.plan.cover a.frag ready.planned.whole.tiles comes.0).0) same in
          let one : g ≡ a.frag = cc in
          not_gone (subst (HasLeaf gone) one has)) ∙ (value_of (map.get on (text_of (a.dir, g))) (leaf_listed s.purge ending (a.dir, g) (one_of_those a.dir.0 (a.dir, g) gone refl has))).1;
      came = λ g came. ap (λ (h : Fragment). map.get (map.remove on (text_of (a.dir, a.frag))) (text_of (a.dir, h))) (is_it g came) ∙ get_removed on (text_of (a.dir, a.frag));
      others = λ name none. get_left on (text_of (a.dir, a.frag)) name (none a.frag (inr comes)) ∙ beside_on s.purge a.dir gone name (λ g has. none g (inl has));
    });
  }

  is_merged : IsMergedInto s t a.dir a.frag
  is_merged = record { can = still.2; cover = merge.plan.cover; merged = ready.planned.cover; regrouped = is_regrouped }

  cut : Replaces row gone merge.plan.cover
  cut = merge_replaces row merge.plan.cover a.frag ready.planned.cover

  -- ---- what is cached

  filled_at : (q : Leaf) (y : Bool) (b : At) → leaf_is q leaf ≡ y → map.get made.caches.held q ≡ Some b → cond y (Some (lies_by a.rank.0 merge.joined)) (map.get mid.caches.held q) ≡ Some b
  filled_at q y b same is =
      ap (λ (y : Bool). cond y (Some (lies_by a.rank.0 merge.joined)) (map.get mid.caches.held q)) (sym same) ∙ sym (get_with_frag mid.caches a.rank.0 leaf merge.joined q)
      ∙ (still_held filled (leaves_in a.dir merge.plan.leaves.items) q b is).1

  -- ---- of what was before

  merge_made : IsMergedInto (state_of old) (state_of new) a.dir a.frag
  merge_made = subst (λ (u : State). IsMergedInto u (state_of new) a.dir a.frag) was (subst (λ (k : Core). IsMergedInto s (state_of k) a.dir a.frag) (sym left) is_merged)

  abbrev Ends : ℕ → Leaf → Type 0
  Ends n q = Contains (ending_at old a) q

  pub merge_right : HasMerged old new a
  merge_right = record {
    merged = merge_made;
    tree = merges_right (state_of old) (state_of new) a.dir a.frag sound.sound merge_made;
    came = subst (λ (k : Core). Came Uses Ends old.caches k.caches) (sym left)
        (ends_came_so Uses Ends old.caches filled (leaves_in a.dir merge.plan.leaves.items) (λ n q among. subst (λ (ls : List Leaf). Contains ls q) (ended_are ∙ ap (λ (u : State). each (in_directory a.dir.0) (leaves_inside a.frag (leaves_of u.covers a.dir.0))) was) among)
        (arrives mid.caches a.rank.0 leaf merge.joined (reads_came Uses Ends old.objects old.caches mid.caches (reads_weaker Uses NoneEnds Uses Ends (λ n q is. is) (λ n q no_end. absurd no_end) old.objects old.caches mid.caches reads.caches)) (inr (refl, refl))));
    sound = subst IsSoundCore (sym left) (record {
      sound = (merges_right s t a.dir a.frag still.0 is_merged).sound;
      begun = (let before : 0 < s.next_generation = subst (λ (u : State). 0 < u.next_generation) (sym was) sound.begun in omega (arith, before));
      cached = regroup_cached s still.0 a.dir gone merge.plan.cover 1 t is_regrouped cut mid.caches made.caches cached
          (λ q same has b is. let clash : true ≡ false = sym (among a.dir.0 q gone same has) ∙ sym (ap (list_any (leaf_is q)) ended_are) ∙ (still_held filled (leaves_in a.dir merge.plan.leaves.items) q b is).0 in cc)
          (λ q same came b is.
          let number = ready.joined.numbered in
          subst (λ (k : At). IsTied k.frag (object_of s.objects q.0 q.1) × (k.frag.generation < s.next_generation + 1))
          (same_Some (lies_by a.rank.0 merge.joined) b (filled_at q true b (same_leaf q leaf (λ i. (record { 0 = same i }, is_it q.1 came i))) is))
          (fresh_tied merge.joined (object_of s.objects q.0 q.1) ready.joined.fresh, omega (arith, number)))
          (λ q apart b is. filled_at q false b (apart_it q apart) is);
      none = subst (λ (k : Core). KeepsNone k.caches) left none;
    });
  }
