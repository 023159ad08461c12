-- What a split at a rank leaves of each leaf, and of what isn't clean.
use Rattle.std.proofs.Common.{◌≡◌, ℕ, zero, suc, ◌+◌, ◌<◌, ◌≤◌, ◌^◌, Bool, true, false, cond, ◌&&◌, ◌⊎◌, inl, inr, List, [], ◌∷◌, length, Option, Some, None, refl, sym, ap, subst, ◌∙◌, arith}
use Rattle.std.specs.Prelude.{◌==◌}
use Rattle.std.specs.List.{IsDistinct, slice_index_or}
use Rattle.std.specs.FinMap as finmap
use Rattle.sorted_map.proofs.NatKeys.{is_apart, is_same, same_or_apart}
use Rattle.mds_types.specs.declared.ids.Ino.{Ino}
use Rattle.mds_types.specs.Frag.{Fragment, child_of}
use Rattle.cached_frag.specs.declared.bases.Base.{Base}
use Rattle.cached_frag.specs.declared.bases.Base.TheVariants.{Fresh}
use Rattle.cached_frag.specs.Cached.{Cached, is_clean_over, shown_names}
use Rattle.dentry_cache.specs.declared.parts.Part.{Part}
use Rattle.dentry_cache.specs.Cache.{HasCached, IsThere, Leaf, Unsaved, leaf_is, unsaved_in}
use Rattle.dentry_cache.specs.CacheCalls.{HasNoKeptPlace}
use Rattle.dentry_cache.specs.CacheMap.{At, CacheMap, IsFree, IsFreeFor, lies_by, at_rank, given_up, has_place, here, order, unclean, unsaved_at, with_frag}
use Rattle.dentry_cache.specs.CacheSplits.{HaveKeptPlaces, IsChildAt, SplitsAt, with_parts}
use Rattle.dentry_cache.specs.Came.{Came}
use Rattle.dentry_cache.specs.Came.Came.{has, ends}
use Rattle.dentry_cache.specs.Divided.{IsCachedChild, IsNoChild}
use Rattle.dentry_cache.specs.Parting.{AreKeptApart}
use Rattle.dentry_cache.proofs.NameParts.{no_child, one_child}
use Rattle.dentry_cache.proofs.SplitShows.{apart_from}
use Rattle.dentry_cache.proofs.StepLaws.{get_beside, get_given_up, get_with_frag, has_given_up, has_with_frag, placed_given_up, placed_used, ranks_given_up, ranks_with_frag}
use Rattle.dentry_cache.proofs.UncleanLaws.{get_unclean}
use Rattle.dentry_cache.proofs.LeafLaws.{flips, leaf_itself, one_leaf}

-- ---- fragments that come in

-- as many ranks
pub ranks_with_parts : (dir : Ino) (r : ℕ) (parts : List Part) (c : CacheMap) → length (with_parts dir r parts c).used ≡ length c.used
ranks_with_parts dir r [] c = refl
ranks_with_parts dir r (part ∷ parts) c = ranks_with_parts dir r parts (with_frag c r (dir, part.frag) part.fragment) ∙ ranks_with_frag c r (dir, part.frag) part.fragment

-- any other leaf's fragment is where it was
pub get_beside_parts : (dir : Ino) (r : ℕ) (parts : List Part) (c : CacheMap) (q : Leaf) → AreKeptApart q dir parts → finmap.get (with_parts dir r parts c).held q ≡ finmap.get c.held q
get_beside_parts dir r [] c q apart = refl
get_beside_parts dir r (part ∷ parts) c q apart =
    get_beside_parts dir r parts (with_frag c r (dir, part.frag) part.fragment) q apart.1
    ∙ get_with_frag c r (dir, part.frag) part.fragment q ∙ ap (λ b. cond b (Some (lies_by r part.fragment)) (finmap.get c.held q)) apart.0

-- so is its place
pub has_beside_parts : (dir : Ino) (r : ℕ) (parts : List Part) (c : CacheMap) (s : ℕ) (q : Leaf) → r < length c.used → AreKeptApart q dir parts → has_place (with_parts dir r parts c) s q ≡ has_place c s q
has_beside_parts dir r [] c s q there apart = refl
has_beside_parts dir r (part ∷ parts) c s q there apart =
    has_beside_parts dir r parts (with_frag c r (dir, part.frag) part.fragment) s q (subst (λ (n : ℕ). r < n) (sym (ranks_with_frag c r (dir, part.frag) part.fragment)) there) apart.1
    ∙ has_with_frag c r (dir, part.frag) part.fragment s q there ∙ ap (λ (b : Bool). cond ((r == s) && b) true (has_place c s q)) apart.0 ∙ beside (r == s)
  where
    beside : (b : Bool) → cond (b && false) true (has_place c s q) ≡ has_place c s q
    beside true = refl
    beside false = refl

-- each place was there, where each of them had one
placed_with_parts : (dir : Ino) (r : ℕ) (parts : List Part) (c old : CacheMap) → ((s : ℕ) (q : Leaf) → has_place c s q ≡ true → has_place old s q ≡ true) → ((i : ℕ) (d : Part) → i < length parts → has_place old r (dir, (slice_index_or parts i d).frag) ≡ true)
    → (s : ℕ) (q : Leaf) → has_place (with_parts dir r parts c) s q ≡ true → has_place old s q ≡ true
placed_with_parts dir r [] c old was kept s q is = was s q is
placed_with_parts dir r (part ∷ parts) c old was kept s q is = placed_with_parts dir r parts (with_frag c r (dir, part.frag) part.fragment) old now (λ i d within. kept (suc i) d (omega (arith, within))) s q is
  where
    now : (s : ℕ) (q : Leaf) → has_place (with_frag c r (dir, part.frag) part.fragment) s q ≡ true → has_place old s q ≡ true
    now s q is = go (placed_used c r (dir, part.frag) s q is)
      where
        go : (has_place c s q ≡ true) ⊎ ((s ≡ r) × (q ≡ (dir, part.frag))) → has_place old s q ≡ true
        go (inl before) = was s q before
        go (inr one) = ap (λ (k : ℕ). has_place old k q) one.0 ∙ ap (has_place old r) one.1 ∙ kept 0 part (omega arith)

-- no two of them are one leaf
abbrev pub AreDifferent : Ino → List Part → Type 0
AreDifferent dir [] = Unit {0}
AreDifferent dir (part ∷ parts) = AreKeptApart (dir, part.frag) dir parts × AreDifferent dir parts

-- each of them is there
pub get_of_parts : (dir : Ino) (r : ℕ) (parts : List Part) (c : CacheMap) → AreDifferent dir parts → (i : ℕ) (d : Part) → i < length parts
    → finmap.get (with_parts dir r parts c).held (dir, (slice_index_or parts i d).frag) ≡ Some (lies_by r (slice_index_or parts i d).fragment)
get_of_parts dir r [] c different i d within = absurd (omega (arith, within))
get_of_parts dir r (part ∷ parts) c different zero d within =
    get_beside_parts dir r parts (with_frag c r (dir, part.frag) part.fragment) (dir, part.frag) different.0
    ∙ get_with_frag c r (dir, part.frag) part.fragment (dir, part.frag) ∙ ap (λ b. cond b (Some (lies_by r part.fragment)) (finmap.get c.held (dir, part.frag))) (leaf_itself (dir, part.frag))
get_of_parts dir r (part ∷ parts) c different (suc i) d within = get_of_parts dir r parts (with_frag c r (dir, part.frag) part.fragment) different.1 i d (omega (arith, within))

-- steps that bring them in
parts_came : (Uses Ends : ℕ → Leaf → Type 0) (start : CacheMap) (dir : Ino) (r : ℕ) (parts : List Part) (c : CacheMap) → Came Uses Ends start c → ((i : ℕ) (d : Part) → i < length parts → Uses r (dir, (slice_index_or parts i d).frag)) → Came Uses Ends start (with_parts dir r parts c)
parts_came Uses Ends start dir r [] c came named = came
parts_came Uses Ends start dir r (part ∷ parts) c came named =
    parts_came Uses Ends start dir r parts (with_frag c r (dir, part.frag) part.fragment) (has c r (dir, part.frag) part.fragment came (named 0 part (omega arith))) (λ i d within. named (suc i) d (omega (arith, within)))

different_from : (dir : Ino) (frag : Fragment) (bits n : ℕ) (parts : List Part) → ((i : ℕ) (d : Part) → i < length parts → (slice_index_or parts i d).frag ≡ child_of frag (n + i) bits) → AreDifferent dir parts
different_from dir frag bits n [] are = tt
different_from dir frag bits n (part ∷ parts) are =
    let first : part.frag ≡ child_of frag (n + 0) bits = are 0 part (omega arith) in
    let rest : (i : ℕ) (d : Part) → i < length parts → (slice_index_or parts i d).frag ≡ child_of frag (n + 1 + i) bits = λ i d within. are (suc i) d (omega (arith, within)) ∙ next i in (
      subst (λ (f : Fragment). AreKeptApart (dir, f) dir parts) (sym first) (apart_from (dir, child_of frag (n + 0) bits) dir frag bits (n + 1) parts rest (λ i within. one_child dir frag bits (n + 0) (n + 1 + i) (λ same. omega (arith, same)))),
      different_from dir frag bits (n + 1) parts rest,
    )
  where
    next : (i : ℕ) → child_of frag (n + suc i) bits ≡ child_of frag (n + 1 + i) bits
    next i = let same : n + suc i ≡ n + 1 + i = omega arith in ap (λ (m : ℕ). child_of frag m bits) same

-- a fragment of which something holds is there
has_there_so : (o : Option Cached) (P : Cached → Type 0) → HasCached o P → IsThere o
has_there_so (Some f) P is = tt
has_there_so None P is = absurd is

-- a leaf that is free for a rank, and at one, is there
of_rank : (s r : ℕ) (o : Option At) → IsFree r o → IsThere (at_rank s o) → s ≡ r
of_rank s r None free is = absurd is
of_rank s r (Some a) free is = by (same_or_apart a.rank s)
  where
    by : (a.rank ≡ s) ⊎ (a.rank ≡ s → ⊥) → s ≡ r
    by (inl same) = sym same ∙ free
    by (inr apart) = absurd (subst IsThere (ap (λ b. cond b (Some a.frag) None) (is_apart a.rank s apart)) is)

-- ---- a split

module _ (r : ℕ) (dir : Ino) (frag : Fragment) (bits : ℕ) (parts : List Part) (version : ℕ) (old new : CacheMap) (f : Cached) (some : 1 ≤ bits) (count : length parts ≡ 2 ^ bits) (split : SplitsAt r dir frag bits parts version old new f) where
  -- the children as they came in
  abbrev pub made : List Part
  made = split.0

  abbrev one : Leaf
  one = (dir, frag)

  abbrev child : ℕ → Leaf
  child i = (dir, child_of frag i bits)

  its_place : (i : ℕ) (d : Part) → i < length made → (slice_index_or made i d).frag ≡ child_of frag (0 + i) bits
  its_place i d within = let same : i ≡ 0 + i = omega arith in split.1.child i d within ∙ ap (λ (k : ℕ). child_of frag k bits) same

  within_made : (i : ℕ) → i < 2 ^ bits → i < length made
  within_made i among = omega (arith, among, split.1.count, count)

  among_children : (i : ℕ) → i < length made → i < 2 ^ bits
  among_children i within = omega (arith, within, split.1.count, count)

  pub split_ranks : length new.used ≡ length old.used
  split_ranks = ap (λ (k : CacheMap). length k.used) split.2 ∙ ranks_with_parts dir r made (given_up old r one) ∙ ranks_given_up old r one

  -- each child is there
  pub split_child : (i : ℕ) (d : Part) → i < 2 ^ bits → finmap.get new.held (child i) ≡ Some (lies_by r (slice_index_or made i d).fragment)
  split_child i d among =
      ap (λ (k : CacheMap). finmap.get k.held (child i)) split.2 ∙ ap (λ (g : Fragment). finmap.get (with_parts dir r made (given_up old r one)).held (dir, g)) (sym (split.1.child i d (within_made i among)))
      ∙ get_of_parts dir r made (given_up old r one) (different_from dir frag bits 0 made its_place) i d (within_made i among)

  -- with the names that its hash picks
  pub split_is_child : (i : ℕ) (d : Part) → i < 2 ^ bits → HasCached (here new r (child i)) (IsCachedChild (child_of frag i bits) (shown_names f) (slice_index_or parts i d).fragment.generation version)
  split_is_child i d among =
      subst (λ (o : Option Cached). HasCached o (IsCachedChild (child_of frag i bits) (shown_names f) (slice_index_or parts i d).fragment.generation version))
      (sym (ap (at_rank r) (split_child i d among) ∙ ap (λ b. cond b (Some (slice_index_or made i d).fragment) None) (is_same r r refl)))
      (split.1.each i d (within_made i among))

  apart_of : (q : Leaf) → IsNoChild dir frag bits q → AreKeptApart q dir made
  apart_of q none = apart_from q dir frag bits 0 made its_place (λ i within. flips q (dir, child_of frag (0 + i) bits) ∙ none (0 + i) (among_children (0 + i) (omega (arith, within))))

  one_apart : AreKeptApart one dir made
  one_apart = apart_from one dir frag bits 0 made its_place (λ i within. no_child dir frag bits (0 + i) some)

  -- the fragment is gone
  pub split_gone : IsFreeFor old r one → finmap.get new.held one ≡ None
  split_gone free =
      ap (λ (k : CacheMap). finmap.get k.held one) split.2 ∙ get_beside_parts dir r made (given_up old r one) one one_apart ∙ get_given_up old r one one free
      ∙ ap (λ b. cond b None (finmap.get old.held one)) (leaf_itself one)

  -- with its place
  pub split_no_place : r < length old.used → IsDistinct leaf_is (order old r) → has_place new r one ≡ false
  split_no_place there distinct =
      ap (λ (k : CacheMap). has_place k r one) split.2
      ∙ has_beside_parts dir r made (given_up old r one) r one (subst (λ (n : ℕ). r < n) (sym (ranks_given_up old r one)) there) one_apart
      ∙ has_given_up old r one r one there distinct ∙ ap (λ (b : Bool). cond (b && leaf_is one one) false (has_place old r one)) (is_same r r refl) ∙ ap (λ (b : Bool). cond b false (has_place old r one)) (leaf_itself one)

  -- any other leaf is as it was
  pub split_beside : (q : Leaf) → leaf_is one q ≡ false → IsNoChild dir frag bits q → finmap.get new.held q ≡ finmap.get old.held q
  split_beside q apart none =
      ap (λ (k : CacheMap). finmap.get k.held q) split.2 ∙ get_beside_parts dir r made (given_up old r one) q (apart_of q none) ∙ get_beside old r one q (flips q one ∙ apart)

  -- each place was there, where one was kept for each child
  pub split_placed : HaveKeptPlaces old r dir frag bits → (s : ℕ) (q : Leaf) → has_place new s q ≡ true → has_place old s q ≡ true
  split_placed kept s q is =
      placed_with_parts dir r made (given_up old r one) old (λ s q was. placed_given_up old r one s q was)
      (λ i d within. ap (λ (g : Fragment). has_place old r (dir, g)) (split.1.child i d within) ∙ (kept i (among_children i within)).0) s q (ap (λ (k : CacheMap). has_place k s q) (sym split.2) ∙ is)

  -- no child is clean
  pub split_unclean_child : (i : ℕ) (d : Part) → i < 2 ^ bits
      → finmap.get (unclean new) (child i) ≡ Some (record { base = Fresh; generation = (slice_index_or parts i d).fragment.generation; dirty = (slice_index_or made i d).fragment.dirty })
  split_unclean_child i d among =
      get_unclean new (child i) ∙ ap unsaved_at (split_child i d among) ∙ go (slice_index_or made i d).fragment (split.1.each i d (within_made i among)).fresh
      ∙ ap (λ (n : ℕ). Some (record { base = Fresh; generation = n; dirty = (slice_index_or made i d).fragment.dirty })) (split.1.each i d (within_made i among)).numbered
    where
      of_base : Base → Cached → Option Unsaved
      of_base base g = cond (is_clean_over base g.dirty) None (Some (record { base = base; generation = g.generation; dirty = g.dirty }))

      go : (g : Cached) → g.base ≡ Fresh → unsaved_in (Some g) ≡ Some (record { base = Fresh; generation = g.generation; dirty = g.dirty })
      go g fresh = ap (λ (b : Base). of_base b g) fresh

  pub split_unclean_gone : IsFreeFor old r one → finmap.get (unclean new) one ≡ None
  split_unclean_gone free = get_unclean new one ∙ ap unsaved_at (split_gone free)

  pub split_unclean_beside : (q : Leaf) → leaf_is one q ≡ false → IsNoChild dir frag bits q → finmap.get (unclean new) q ≡ finmap.get (unclean old) q
  split_unclean_beside q apart none = get_unclean new q ∙ ap unsaved_at (split_beside q apart none) ∙ sym (get_unclean old q)

  -- the steps of it
  pub split_came : (Uses Ends : ℕ → Leaf → Type 0) (start : CacheMap) → Came Uses Ends start old → Ends r one → ((i : ℕ) → i < 2 ^ bits → Uses r (child i)) → Came Uses Ends start new
  split_came Uses Ends start came ended named =
      subst (Came Uses Ends start) (sym split.2)
      (parts_came Uses Ends start dir r made (given_up old r one) (ends old r one came ended) (λ i d within. subst (λ (g : Fragment). Uses r (dir, g)) (sym (split.1.child i d within)) (named i (among_children i within))))

  -- where places were kept for the children alone, none is kept then
  pub split_whole : r < length old.used → IsDistinct leaf_is (order old r) → IsFreeFor old r one → HaveKeptPlaces old r dir frag bits → ((s : ℕ) (q : Leaf) → HasNoKeptPlace old s q ⊎ IsChildAt r dir frag bits s q) → (s : ℕ) (q : Leaf) → HasNoKeptPlace new s q
  split_whole there distinct free kept either s q placed = go (either s q)
    where
      -- a fragment that is there is no child's
      not_child : IsThere (here old s q) → IsNoChild dir frag bits q
      not_child is i among = by (leaf_is (child i) q) refl
        where
          by : (b : Bool) → leaf_is (child i) q ≡ b → b ≡ false
          by false seen = refl
          by true seen = absurd (subst IsThere (ap (at_rank s) (ap (finmap.get old.held) (sym (one_leaf (child i) q seen)) ∙ (kept i among).1)) is)

      -- and not the one that was split
      not_it : IsThere (here old s q) → leaf_is one q ≡ false
      not_it is = by (leaf_is one q) refl
        where
          by : (b : Bool) → leaf_is one q ≡ b → b ≡ false
          by false seen = refl
          by true seen =
              let at_it : s ≡ r = of_rank s r (finmap.get old.held one) free (subst (λ (l : Leaf). IsThere (here old s l)) (sym (one_leaf one q seen)) is) in
              sym (sym (split_no_place there distinct) ∙ ap (has_place new r) (one_leaf one q seen) ∙ ap (λ (k : ℕ). has_place new k q) (sym at_it) ∙ placed)

      go : HasNoKeptPlace old s q ⊎ IsChildAt r dir frag bits s q → IsThere (here new s q)
      go (inl whole) =
          let was : IsThere (here old s q) = whole (split_placed kept s q placed) in
          subst (λ o. IsThere (at_rank s o)) (sym (split_beside q (not_it was) (not_child was))) was
      go (inr at_child) =
          subst (λ (k : ℕ). IsThere (here new k q)) (sym at_child.0)
          (subst (λ (l : Leaf). IsThere (here new r l)) (sym at_child.3) (has_there_so (here new r (child at_child.1)) (IsCachedChild (child_of frag at_child.1 bits) (shown_names f) (slice_index_or parts at_child.1 (record { frag = frag; fragment = f })).fragment.generation version) (split_is_child at_child.1 (record { frag = frag; fragment = f }) at_child.2)))
