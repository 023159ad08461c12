-- What a change of one name leaves.
use Rattle.mdcache.proofs.Common.{AllCachedIn, At, Base, Bool, CacheMap, Cached, Core, Dirfrag, Fresh, Inode, IsAsItStands, IsCachedIn, IsFree, IsFreeFor, IsNamed, IsThere, IsTied, IsTiedAt, KeepsOnlyAt, Leaf, List, Mark, Marks, None, Omap, Option, Rank, Some, State, Stored, Unsaved, ap, lies_by, at_rank, changed_are_tied, cond, cond_both, dirtied, edited_as, empty_of_len, eqb-true, false, false_from_ne_true, get-empty, get_put, get_unclean, get_with_frag, here, here_beside, here_is, here_put, inl, inr, is_clean, is_clean_over, key_cmp, leaf_is, leaf_of, leaf_or_apart, marked, named, now_unclean, object_of, one_leaf, placed_used, refl, rewritten, same_Some, state_of, subst, sym, true, true_from_ne_false, unclean, unsaved_at, unsaved_of, whole_rewritten, with_frag, with_unsaved, ℕ, ⊎_elim, ◌+◌, ◌<◌, ◌==◌, ◌∙◌, ◌≡◌, ◌⊎◌}
use Rattle.std.specs.FinMap as map
use Rattle.mdcache.specs.Changes.{IsCountedObject}

-- ---- one fragment

-- no names are dirty where their number is 0
none_dirty : (marks : Marks) → (map.len marks == 0) ≡ true → marks ≡ map.empty
none_dirty marks h = empty_of_len marks (eqb-true (map.len marks) 0 h)

-- a fragment in which a name was marked isn't clean
marked_unclean : (base : Base) (dirty : Marks) (name : List ℕ) (mark : Mark) → is_clean_over base (map.insert dirty name mark) ≡ false
marked_unclean Fresh dirty name mark = refl
marked_unclean (Stored version) dirty name mark = false_from_ne_true _ (λ none.
    let clash : None ≡ Some mark = sym (ap (λ (m : Marks). map.get m name) (none_dirty (map.insert dirty name mark) none) ∙ get-empty key_cmp name) ∙ get_put dirty name mark in
    cc)

-- of a clean fragment the object counts, and no name is dirty
clean_counts : (base : Base) (f : Cached) (object : Option Omap) → is_clean_over base f.dirty ≡ true → IsTiedAt base f object → IsCountedObject base object × (f.dirty ≡ map.empty)
clean_counts Fresh f object clean tie = let clash : false ≡ true = clean in cc
clean_counts (Stored version) f None clean tie = absurd tie
clean_counts (Stored version) f (Some object) clean tie = (tie.0, none_dirty f.dirty clean)

-- what a fragment has beyond its object, be it clean or not
abbrev pub beyond : Cached → Unsaved
beyond f = record { base = f.base; generation = f.generation; dirty = f.dirty }

as_it_stands : (f : Cached) (object : Option Omap) (next : ℕ) → IsTied f object → f.generation < next → IsAsItStands (unsaved_of f) object next (beyond f)
as_it_stands f object next tie given =
    cond_both (is_clean f) None (Some (beyond f)) (λ o. IsAsItStands o object next (beyond f)) (λ clean. let c = clean_counts f.base f object clean tie in (c.0, c.1, given)) (λ dirty. refl)

-- ---- a fragment comes to a place, or in place of another

-- each cached fragment is sound once one is, which comes
pub cached_with : (s : State) (c : CacheMap) (r : ℕ) (leaf : Leaf) (f : Cached) → AllCachedIn s c → IsCachedIn s leaf f → AllCachedIn s (with_frag c r leaf f)
cached_with s c r leaf f cached mine q a is = cond_both (leaf_is q leaf) (Some (lies_by r f)) (map.get c.held q) (λ o. o ≡ Some a → IsCachedIn s q a.frag)
    (λ one h. subst (λ (l : Leaf). IsCachedIn s l a.frag) (sym (one_leaf q leaf one)) (subst (IsCachedIn s leaf) (ap (λ (x : At). x.frag) (same_Some (lies_by r f) a h)) mine)) (λ apart h. cached q a h) (sym (get_with_frag c r leaf f q) ∙ is)

-- where the leaf of a fragment that comes had a place kept at its rank alone, the places that are kept stay so
pub with_only : (kept : Option (Rank × Leaf)) (c : CacheMap) (r : ℕ) (leaf : Leaf) (f : Cached) → IsFreeFor c r leaf → ((s : ℕ) → map.get c.held leaf ≡ None → kept ≡ Some (record { 0 = s }, leaf) → s ≡ r) → KeepsOnlyAt kept c
    → KeepsOnlyAt kept (with_frag c r leaf f)
with_only kept c r leaf f free its only s q placed = ⊎_elim (λ was. on (leaf_or_apart q leaf) (only s q was)) (λ same. inl (there same.0 same.1)) (placed_used c r leaf s q placed)
  where
    there : s ≡ r → q ≡ leaf → IsThere (here (with_frag c r leaf f) s q)
    there rank same = subst IsThere (sym ((λ i. here (with_frag c r leaf f) (rank i) (same i)) ∙ here_put c r leaf f)) tt

    of_rank : (o : Option At) → IsFree r o → IsThere (at_rank s o) → s ≡ r
    of_rank None free is = absurd is
    of_rank (Some a) free is = sym (eqb-true a.rank s (true_from_ne_false _ (λ apart. subst IsThere (ap (λ b. cond b (Some a.frag) None) apart) is))) ∙ free

    on : (q ≡ leaf) ⊎ (leaf_is q leaf ≡ false) → IsThere (here c s q) ⊎ ((map.get c.held q ≡ None) × (kept ≡ Some (record { 0 = s }, q)))
        → IsThere (here (with_frag c r leaf f) s q) ⊎ ((map.get (with_frag c r leaf f).held q ≡ None) × (kept ≡ Some (record { 0 = s }, q)))
    on (inl one) (inl is) = inl (there (of_rank (map.get c.held leaf) free (subst (λ (l : Leaf). IsThere (here c s l)) one is)) one)
    on (inl one) (inr none) = inl (there (its s (ap (map.get c.held) (sym one) ∙ none.0) (subst (λ (l : Leaf). kept ≡ Some (record { 0 = s }, l)) one none.1)) one)
    on (inr apart) (inl is) = inl (subst IsThere (sym (here_beside c r leaf f s q apart)) is)
    on (inr apart) (inr none) = inr (get_with_frag c r leaf f q ∙ ap (λ (b : Bool). cond b (Some (lies_by r f)) (map.get c.held q)) apart ∙ none.0, none.1)

-- ---- one name changed

-- a fragment that is there is another where it stands
pub rewritten_only : (kept : Option (Rank × Leaf)) (c : CacheMap) (r : ℕ) (leaf : Leaf) (f now : Cached) → here c r leaf ≡ Some f → KeepsOnlyAt kept c → KeepsOnlyAt kept (rewritten c r leaf now)
rewritten_only kept c r leaf f now seen only s q placed = ⊎_elim (λ there. inl (whole_rewritten c r leaf f now s q seen (λ p. there) placed)) (λ none. inr (absent none.0, none.1)) (only s q placed)
  where
    absent : map.get c.held q ≡ None → map.get (rewritten c r leaf now).held q ≡ None
    absent none =
        get_with_frag c r leaf now q ∙ ap (λ (b : Bool). cond b (Some (lies_by r now)) (map.get c.held q))
        (false_from_ne_true _ (λ one. let clash : None ≡ Some (lies_by r f) = sym none ∙ ap (map.get c.held) (one_leaf q leaf one) ∙ here_is r (map.get c.held leaf) f seen in cc)) ∙ none

module _ (c : Core) (a : Dirfrag) (name : List ℕ) (inode : Option Inode) (f : Cached) (there : here c.caches a.rank.0 (leaf_of a) ≡ Some f) (cached : AllCachedIn (state_of c) c.caches) where
  abbrev pub mark : Mark
  mark = record { version = c.next_version; inode = inode }

  abbrev new : Core
  new = named c a name inode

  held : map.get c.caches.held (leaf_of a) ≡ Some (lies_by a.rank.0 f)
  held = here_is a.rank.0 (map.get c.caches.held (leaf_of a)) f there

  mine : IsCachedIn (state_of c) (leaf_of a) f
  mine = cached (leaf_of a) (lies_by a.rank.0 f) held

  unclean_now : unclean new.caches ≡ map.insert (unclean c.caches) (leaf_of a) (dirtied (beyond f) name c.next_version inode)
  unclean_now =
      now_unclean c.caches new.caches a.rank.0 (leaf_of a) name mark f there refl
      ∙ ap (λ (b : Bool). with_unsaved (unclean c.caches) (leaf_of a) (cond b None (Some (dirtied (beyond f) name c.next_version inode)))) (marked_unclean f.base f.dirty name mark)

  pub put_named : IsNamed (state_of c) (state_of new) (leaf_of a) name inode
  put_named = record {
    before = beyond f;
    stands = subst (λ o. IsAsItStands o (object_of c.objects a.dir a.frag) c.next_generation (beyond f)) (sym (get_unclean c.caches (leaf_of a) ∙ ap unsaved_at held))
        (as_it_stands f (object_of c.objects a.dir a.frag) c.next_generation mine.tied mine.made);
    left = λ i. record (state_of c) { unsaved = unclean_now i; next_version = c.next_version + 1 };
  }

  pub marked_is : new.caches ≡ rewritten c.caches a.rank.0 (leaf_of a) (marked f name mark)
  marked_is = ap (edited_as c.caches a.rank.0 (leaf_of a) (λ (g : Cached). marked g name mark)) there

  pub put_cached : AllCachedIn (state_of c) new.caches
  put_cached = subst (AllCachedIn (state_of c)) (sym marked_is) (cached_with (state_of c) c.caches a.rank.0 (leaf_of a) (marked f name mark) cached (record {
    live = mine.live;
    tied = changed_are_tied f (object_of c.objects a.dir a.frag) name mark mine.tied;
    made = mine.made;
  }))

  pub put_only : (kept : Option (Rank × Leaf)) → KeepsOnlyAt kept c.caches → KeepsOnlyAt kept new.caches
  put_only kept only = subst (KeepsOnlyAt kept) (sym marked_is) (rewritten_only kept c.caches a.rank.0 (leaf_of a) f (marked f name mark) there only)
