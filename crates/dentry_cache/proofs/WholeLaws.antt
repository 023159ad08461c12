-- A place in which its fragment is stays so: where no place is kept, reads keep none.
use Rattle.std.proofs.Common.{◌≡◌, ℕ, ◌<◌, Bool, true, false, cond, ◌&&◌, ◌⊎◌, inl, inr, List, length, is_some, Option, Some, None, refl, sym, ap, subst, ◌∙◌}
use Rattle.std.specs.Prelude.{◌==◌}
use Rattle.std.specs.List.{IsDistinct}
use Rattle.std.specs.FinMap as finmap
use Rattle.sorted_map.proofs.NatKeys.{is_apart, is_same, same_or_apart}
use Rattle.mds_types.specs.declared.ids.Ino.{Ino}
use Rattle.mds_types.specs.Frag.{Fragment}
use Rattle.objstore.specs.Objects.{Objects}
use Rattle.objstore.specs.Omap.{Omap}
use Rattle.cached_frag.specs.declared.marks.Mark.{Mark}
use Rattle.cached_frag.specs.Cached.{Cached, marked}
use Rattle.dentry_cache.specs.Cache.{IsThere, Leaf, leaf_is}
use Rattle.dentry_cache.specs.CacheCalls.{Edits, FetchesAt, HasNoKeptPlace, KeepsNone, MakesRoomAt, Rewrites}
use Rattle.dentry_cache.specs.CacheMap.{AreCaches, At, CacheMap, IsFree, IsFreeFor, at_rank, edited_as, given_up, has_place, here, order, rewritten, roomy, used_at, with_frag, with_mark}
use Rattle.dentry_cache.specs.CacheSplits.{AreAbsent, IsChildAt, IsFamilyAt}
use Rattle.dentry_cache.specs.Reads.{Reads}
use Rattle.dentry_cache.specs.Reads.Reads.{stays as it_stays, uses, grows, loads, room, frees}
use Rattle.dentry_cache.proofs.FrameLaws.{came_ranks}
use Rattle.dentry_cache.proofs.LacksLaws.{reads_placed, there_mid}
use Rattle.dentry_cache.proofs.MapCalls.{free_roomy}
use Rattle.dentry_cache.proofs.MapLaws.{here_free}
use Rattle.dentry_cache.proofs.ReadsLaws.{reads_came}
use Rattle.dentry_cache.proofs.StepLaws.{by_edits, by_rewrites, by_room, has_given_up, here_given_up, here_put, here_with_frag, placed_given_up, placed_used}
use Rattle.dentry_cache.proofs.LeafLaws.{leaf_or_apart, one_leaf, same_leaf}

-- a leaf that is used, and is there
pub whole_used : (c : CacheMap) (r : ℕ) (leaf : Leaf) (s : ℕ) (q : Leaf) → IsThere (here c r leaf) → HasNoKeptPlace c s q → HasNoKeptPlace (used_at c r leaf) s q
whole_used c r leaf s q there whole placed = go (placed_used c r leaf s q placed)
  where
    go : (has_place c s q ≡ true) ⊎ ((s ≡ r) × (q ≡ leaf)) → IsThere (here c s q)
    go (inl before) = whole before
    go (inr one) = subst (λ (k : ℕ). IsThere (here c k q)) (sym one.0) (subst (λ (l : Leaf). IsThere (here c r l)) (sym one.1) there)

-- a fragment is at one rank
at_one_rank : (o : Option At) (r s : ℕ) (f : Cached) → at_rank r o ≡ Some f → IsThere (at_rank s o) → r ≡ s
at_one_rank None r s f seen is = absurd is
at_one_rank (Some a) r s f seen is = by (same_or_apart a.rank s)
  where
    by : (a.rank ≡ s) ⊎ (a.rank ≡ s → ⊥) → r ≡ s
    by (inl same) = sym (here_free r (Some a) (ap (λ (o : Option Cached). is_some o) seen)) ∙ same
    by (inr apart) = absurd (subst IsThere (ap (λ b. cond b (Some a.frag) None) (is_apart a.rank s apart)) is)

pub whole_with_frag : (c : CacheMap) (r : ℕ) (leaf : Leaf) (f : Cached) (s : ℕ) (q : Leaf) → IsFreeFor c r leaf → HasNoKeptPlace c s q → HasNoKeptPlace (with_frag c r leaf f) s q
whole_with_frag c r leaf f s q free whole placed = go (placed_used c r leaf s q placed)
  where
    of_rank : (o : Option At) → IsFree r o → IsThere (at_rank s o) → r ≡ s
    of_rank None free is = absurd is
    of_rank (Some a) free is = by (same_or_apart a.rank s)
      where
        by : (a.rank ≡ s) ⊎ (a.rank ≡ s → ⊥) → r ≡ s
        by (inl same) = sym free ∙ same
        by (inr apart) = absurd (subst IsThere (ap (λ b. cond b (Some a.frag) None) (is_apart a.rank s apart)) is)

    still : (b : Bool) → leaf_is q leaf ≡ b → IsThere (here c s q) → IsThere (cond b (cond (r == s) (Some f) None) (here c s q))
    still true one is =
        let same : r ≡ s = of_rank (finmap.get c.held leaf) free (subst (λ (l : Leaf). IsThere (here c s l)) (one_leaf q leaf one) is) in
        subst (λ (b : Bool). IsThere (cond b (Some f) None)) (sym (is_same r s same)) tt
    still false one is = is

    go : (has_place c s q ≡ true) ⊎ ((s ≡ r) × (q ≡ leaf)) → IsThere (here (with_frag c r leaf f) s q)
    go (inl before) = subst IsThere (sym (here_with_frag c r leaf f s q)) (still (leaf_is q leaf) refl (whole before))
    go (inr one) = subst (λ (k : ℕ). IsThere (here (with_frag c r leaf f) k q)) (sym one.0) (subst (λ (l : Leaf). IsThere (here (with_frag c r leaf f) r l)) (sym one.1) (subst IsThere (sym (here_put c r leaf f)) tt))

pub whole_given_up : (c : CacheMap) (r : ℕ) (leaf : Leaf) (s : ℕ) (q : Leaf) → r < length c.used → IsDistinct leaf_is (order c r) → HasNoKeptPlace c s q → HasNoKeptPlace (given_up c r leaf) s q
whole_given_up c r leaf s q there distinct whole placed =
    subst IsThere (sym (here_given_up c r leaf s q))
    (still (r == s) (leaf_is q leaf) (sym (has_given_up c r leaf s q there distinct) ∙ placed) (whole (placed_given_up c r leaf s q placed)))
  where
    still : (a b : Bool) → cond (a && b) false (has_place c s q) ≡ true → IsThere (here c s q) → IsThere (cond (b && a) None (here c s q))
    still true true is whole = let clash : false ≡ true = is in absurd cc
    still true false is whole = whole
    still false true is whole = whole
    still false false is whole = whole

pub whole_roomy : (c mid : CacheMap) (r : ℕ) (stay : Option Leaf) (s : ℕ) (q : Leaf) → r < length c.used → IsDistinct leaf_is (order c r) → roomy c r stay ≡ Some mid → HasNoKeptPlace c s q → HasNoKeptPlace mid s q
whole_roomy c mid r stay s q there distinct made whole = by_room c mid r stay made (λ (k : CacheMap). HasNoKeptPlace k s q) whole (λ v passes. whole_given_up c r v s q there distinct whole)

-- a fragment that is there is another where it stands
pub whole_rewritten : (c : CacheMap) (r : ℕ) (leaf : Leaf) (f now : Cached) (s : ℕ) (q : Leaf) → here c r leaf ≡ Some f → HasNoKeptPlace c s q → HasNoKeptPlace (rewritten c r leaf now) s q
whole_rewritten c r leaf f now s q seen whole placed = subst IsThere (sym (here_with_frag c r leaf now s q)) (still (leaf_is q leaf) refl (whole placed))
  where
    still : (b : Bool) → leaf_is q leaf ≡ b → IsThere (here c s q) → IsThere (cond b (cond (r == s) (Some now) None) (here c s q))
    still true one is =
        let same : r ≡ s = at_one_rank (finmap.get c.held leaf) r s f seen (subst (λ (l : Leaf). IsThere (here c s l)) (one_leaf q leaf one) is) in
        subst (λ (b : Bool). IsThere (cond b (Some now) None)) (sym (is_same r s same)) tt
    still false one is = is

-- ---- no place is kept

pub none_used : (c new : CacheMap) (r : ℕ) (leaf : Leaf) → IsThere (here c r leaf) → KeepsNone c → new ≡ used_at c r leaf → KeepsNone new
none_used c new r leaf there none is = subst KeepsNone (sym is) (λ s q. whole_used c r leaf s q there (none s q))

pub none_with_frag : (c new : CacheMap) (r : ℕ) (leaf : Leaf) (f : Cached) → IsFreeFor c r leaf → KeepsNone c → new ≡ with_frag c r leaf f → KeepsNone new
none_with_frag c new r leaf f free none is = subst KeepsNone (sym is) (λ s q. whole_with_frag c r leaf f s q free (none s q))

pub none_edits : (old new : CacheMap) (r : ℕ) (leaf : Leaf) (Change : Cached → Cached → Type 0) → KeepsNone old → Edits Change r leaf old new → KeepsNone new
none_edits old new r leaf Change none e =
    by_edits r leaf Change old new e KeepsNone (λ f now seen change s q. whole_with_frag old r leaf now s q (here_free r (finmap.get old.held leaf) (ap (λ (o : Option Cached). is_some o) seen)) (none s q))

pub none_rewrites : (old new : CacheMap) (r : ℕ) (leaf : Leaf) (Change : Cached → Cached → Type 0) → KeepsNone old → Rewrites Change r leaf old new → KeepsNone new
none_rewrites old new r leaf Change none e = by_rewrites r leaf Change old new e KeepsNone (λ f now seen change s q. whole_rewritten old r leaf f now s q seen (none s q))

pub none_with_mark : (c new : CacheMap) (r : ℕ) (leaf : Leaf) (name : List ℕ) (mark : Mark) → KeepsNone c → new ≡ with_mark c r leaf name mark → KeepsNone new
none_with_mark c new r leaf name mark none is = subst KeepsNone (sym is) (go (here c r leaf) refl)
  where
    go : (o : Option Cached) → here c r leaf ≡ o → KeepsNone (edited_as c r leaf (λ (f : Cached). marked f name mark) o)
    go None seen s q = none s q
    go (Some f) seen s q = whole_rewritten c r leaf f (marked f name mark) s q seen (none s q)

pub none_given_up : (c new : CacheMap) (r : ℕ) (leaf : Leaf) → r < length c.used → AreCaches c → KeepsNone c → new ≡ given_up c r leaf → KeepsNone new
none_given_up c new r leaf there valid none is = subst KeepsNone (sym is) (λ s q. whole_given_up c r leaf s q there (valid.distinct r) (none s q))

-- a place is free, or became so
pub none_roomy : (c new : CacheMap) (r : ℕ) (stay : Option Leaf) → r < length c.used → AreCaches c → KeepsNone c → roomy c r stay ≡ Some new → KeepsNone new
none_roomy c new r stay there valid none made s q = whole_roomy c new r stay s q there (valid.distinct r) made (none s q)

pub none_room : (old new : CacheMap) (r : ℕ) (stay : Option Leaf) → r < length old.used → AreCaches old → KeepsNone old → MakesRoomAt r stay old new → KeepsNone new
none_room old new r stay there valid none (inl same) = subst KeepsNone (sym same) none
none_room old new r stay there valid none (inr made) = none_roomy old new r stay there valid none made

-- a fetch
pub none_fetched : (old new : CacheMap) (r : ℕ) (leaf : Leaf) (stay : Option Leaf) (object : Option Omap) (b : Bool) → r < length old.used → AreCaches old → KeepsNone old → has_place old r leaf ≡ b → FetchesAt r leaf stay object b old new → KeepsNone new
none_fetched old new r leaf stay object true there valid none seen is = none_used old new r leaf (none r leaf seen) none is
none_fetched old new r leaf stay object false there valid none seen f =
    none_with_frag f.3 new r leaf f.1 (free_roomy old f.3 r stay leaf f.4 (subst (IsFree r) (sym f.0) tt)) (none_roomy old f.3 r stay there valid none f.4) f.5

-- ---- reads keep places for leaves alone that they name

module _ (Uses Ends : ℕ → Leaf → Type 0) (objects : Objects) (old : CacheMap) (valid : AreCaches old) (ranks : (r : ℕ) (leaf : Leaf) → Uses r leaf → r < length old.used) (ended : (r : ℕ) (leaf : Leaf) → Ends r leaf → r < length old.used)
    (whole : (s : ℕ) (q : Leaf) → HasNoKeptPlace old s q ⊎ Uses s q) where
  -- where one of the steps leaves what is whole, or names it
  then_whole : (c new : CacheMap) (s : ℕ) (q : Leaf) → (HasNoKeptPlace c s q → HasNoKeptPlace new s q) → HasNoKeptPlace c s q ⊎ Uses s q → HasNoKeptPlace new s q ⊎ Uses s q
  then_whole c new s q so (inl is) = inl (so is)
  then_whole c new s q so (inr named) = inr named

  pub reads_whole : (new : CacheMap) → Reads Uses Ends objects old new → (s : ℕ) (q : Leaf) → HasNoKeptPlace new s q ⊎ Uses s q
  reads_whole _ it_stays s q = whole s q
  reads_whole _ (uses mid r leaf before named) s q = go (same_or_apart s r) (leaf_or_apart q leaf) (reads_whole mid before s q)
    where
      beside : ((s ≡ r) × (q ≡ leaf) → ⊥) → HasNoKeptPlace mid s q → HasNoKeptPlace (used_at mid r leaf) s q
      beside apart is placed = by (placed_used mid r leaf s q placed)
        where
          by : (has_place mid s q ≡ true) ⊎ ((s ≡ r) × (q ≡ leaf)) → IsThere (here mid s q)
          by (inl was) = is was
          by (inr one) = absurd (apart one)

      go : (s ≡ r) ⊎ (s ≡ r → ⊥) → (q ≡ leaf) ⊎ (leaf_is q leaf ≡ false) → HasNoKeptPlace mid s q ⊎ Uses s q → HasNoKeptPlace (used_at mid r leaf) s q ⊎ Uses s q
      go (inl rank) (inl one) was = inr (subst (λ (k : ℕ). Uses k q) (sym rank) (subst (Uses r) (sym one) named))
      go (inl rank) (inr apart) was = then_whole mid (used_at mid r leaf) s q (beside (λ both. let clash : true ≡ false = sym (same_leaf q leaf both.1) ∙ apart in absurd cc)) was
      go (inr other) either was = then_whole mid (used_at mid r leaf) s q (beside (λ both. other both.0)) was
  reads_whole _ (grows mid r leaf f now before named seen same) s q =
      then_whole mid (rewritten mid r leaf now) s q (whole_rewritten mid r leaf f now s q seen) (reads_whole mid before s q)
  reads_whole _ (loads mid r leaf f before named none spelt) s q = then_whole mid (with_frag mid r leaf f) s q (whole_with_frag mid r leaf f s q (subst (IsFree r) (sym none) tt)) (reads_whole mid before s q)
  reads_whole _ (room mid new r leaf stay before named none kept is) s q =
      then_whole mid new s q
      (whole_roomy mid new r stay s q (there_mid Uses Ends objects old valid ranks mid before r leaf named) ((reads_placed Uses Ends objects old valid ranks mid before).distinct r) is) (reads_whole mid before s q)
  reads_whole _ (frees mid r leaf before named none) s q =
      then_whole mid (given_up mid r leaf) s q
      (whole_given_up mid r leaf s q (subst (λ (n : ℕ). r < n) (sym (came_ranks Uses Ends old mid (reads_came Uses Ends objects old mid before))) (ended r leaf named)) ((reads_placed Uses Ends objects old valid ranks mid before).distinct r))
      (reads_whole mid before s q)

-- ---- what is made ready for a split

module _ (r : ℕ) (dir : Ino) (frag : Fragment) (bits : ℕ) (objects : Objects) (old new : CacheMap) (there : r < length old.used) (valid : AreCaches old) (none : KeepsNone old)
    (reads : Reads (IsFamilyAt r dir frag bits) (IsChildAt r dir frag bits) objects old new) (stays : IsThere (here new r (dir, frag))) where
  family_ranks : (s : ℕ) (q : Leaf) → IsFamilyAt r dir frag bits s q → s < length old.used
  family_ranks s q (inl it) = subst (λ (k : ℕ). k < length old.used) (sym it.0) there
  family_ranks s q (inr child) = subst (λ (k : ℕ). k < length old.used) (sym child.0) there

  child_ranks : (s : ℕ) (q : Leaf) → IsChildAt r dir frag bits s q → s < length old.used
  child_ranks s q child = subst (λ (k : ℕ). k < length old.used) (sym child.0) there

  -- places are kept for the children alone
  pub readies_whole : (s : ℕ) (q : Leaf) → HasNoKeptPlace new s q ⊎ IsChildAt r dir frag bits s q
  readies_whole s q = go (reads_whole (IsFamilyAt r dir frag bits) (IsChildAt r dir frag bits) objects old valid family_ranks child_ranks (λ s q. inl (none s q)) new reads s q)
    where
      go : HasNoKeptPlace new s q ⊎ IsFamilyAt r dir frag bits s q → HasNoKeptPlace new s q ⊎ IsChildAt r dir frag bits s q
      go (inl is) = inl is
      go (inr (inl it)) = inl (λ placed. subst (λ (k : ℕ). IsThere (here new k q)) (sym it.0) (subst (λ (l : Leaf). IsThere (here new r l)) (sym it.1) stays))
      go (inr (inr child)) = inr child

  -- and for none, where that was refused
  pub refused_whole : AreAbsent new r dir frag bits → KeepsNone new
  refused_whole absent s q placed = go (readies_whole s q)
    where
      go : HasNoKeptPlace new s q ⊎ IsChildAt r dir frag bits s q → IsThere (here new s q)
      go (inl is) = is placed
      go (inr child) =
          let clash : true ≡ false = sym placed ∙ ap (λ (k : ℕ). has_place new k q) child.0 ∙ ap (has_place new r) child.3 ∙ (absent child.1 child.2).0 in absurd cc
