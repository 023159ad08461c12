-- What a step leaves of a leaf that it doesn't name, and of the order of a rank that it doesn't name.
use Rattle.std.proofs.Common.{◌≡◌, ℕ, Bool, true, false, cond, not, ◌⊎◌, inl, inr, length, nat_lt, option_map, Option, Some, None, refl, sym, ap, subst, ◌∙◌}
use Rattle.std.specs.FinMap as finmap
use Rattle.std.specs.FinMap.{get-remove}
use Rattle.std.proofs.lemmas.Option.{same_Some}
use Rattle.cached_frag.specs.Cached.{Cached}
use Rattle.dentry_cache.specs.Cache.{Leaf, leaf_is, is_to_stay}
use Rattle.dentry_cache.specs.CacheMap.{At, CacheMap, lies_by, moved_first, given_up, goes, here, order, removed, roomy, unsaved_at, victim, with_frag}
use Rattle.dentry_cache.specs.Came.{Came, StaysNamed}
use Rattle.dentry_cache.specs.Came.Came.{stays as it_stays, uses, has, alters, room, ends}
use Rattle.dentry_cache.proofs.StepLaws.{cap_roomy, get_with_frag, held_given_up, held_roomy, ranks_given_up, ranks_roomy, ranks_used, ranks_with_frag}
use Rattle.dentry_cache.proofs.UncleanLaws.{clean_there, last_passes}
use Rattle.dentry_cache.proofs.LeafLaws.{leaf-total, one_leaf, tied_leaf}

-- it is where it was, as it was; or it was clean, and is given_up
abbrev pub IsLeft : Option At → Option At → Type 0
IsLeft was now = (now ≡ was) ⊎ ((now ≡ None) × (unsaved_at was ≡ None))

pub roomy_left : (c new : CacheMap) (r : ℕ) (stay : Option Leaf) (q : Leaf) → roomy c r stay ≡ Some new → IsLeft (finmap.get c.held q) (finmap.get new.held q)
roomy_left c new r stay q is = go (nat_lt (length (order c r)) c.cap) (victim c r stay) refl is
  where
    on : (v : Leaf) → victim c r stay ≡ Some v → (b : Bool) → leaf_is q v ≡ b → IsLeft (finmap.get c.held q) (cond b None (finmap.get c.held q))
    on v seen true same = inr (refl, ap (λ (l : Leaf). unsaved_at (finmap.get c.held l)) (one_leaf q v same) ∙ clean_there r (finmap.get c.held v) (not (is_to_stay stay v)) (last_passes (goes c r stay) (order c r) v seen))
    on v seen false apart = inl refl

    by : (v : Leaf) → victim c r stay ≡ Some v → (o : Option Cached) → IsLeft (finmap.get c.held q) (finmap.get (removed c.held v o) q)
    by v seen None = inl refl
    by v seen (Some f) = subst (IsLeft (finmap.get c.held q)) (sym (get-remove leaf-total c.held v q ∙ ap (λ b. cond b None (finmap.get c.held q)) (tied_leaf q v))) (on v seen (leaf_is q v) refl)

    go : (b : Bool) (v : Option Leaf) → victim c r stay ≡ v → cond b (Some c) (option_map (given_up c r) v) ≡ Some new → IsLeft (finmap.get c.held q) (finmap.get new.held q)
    go true v seen is = inl (ap (λ (k : CacheMap). finmap.get k.held q) (sym (same_Some c new is)))
    go false None seen is = let clash : None ≡ Some new = is in absurd cc
    go false (Some v) seen is = subst (λ (k : CacheMap). IsLeft (finmap.get c.held q) (finmap.get k.held q)) (same_Some (given_up c r v) new is) (by v seen (here c r v))

-- ---- sizes, places and fragments after steps

module _ (Uses Ends : ℕ → Leaf → Type 0) (old : CacheMap) where
  -- as many ranks
  pub came_ranks : (new : CacheMap) → Came Uses Ends old new → length new.used ≡ length old.used
  came_ranks _ it_stays = refl
  came_ranks _ (uses mid r leaf before named) = ranks_used mid r leaf ∙ came_ranks mid before
  came_ranks _ (has mid r leaf f before named) = ranks_with_frag mid r leaf f ∙ came_ranks mid before
  came_ranks _ (alters mid r leaf f now before named seen) = came_ranks mid before
  came_ranks _ (room mid new r leaf stay before named none kept is) = ranks_roomy mid new r stay is ∙ came_ranks mid before
  came_ranks _ (ends mid r leaf before named) = ranks_given_up mid r leaf ∙ came_ranks mid before

  -- as many places of each
  pub came_cap : (new : CacheMap) → Came Uses Ends old new → new.cap ≡ old.cap
  came_cap _ it_stays = refl
  came_cap _ (uses mid r leaf before named) = came_cap mid before
  came_cap _ (has mid r leaf f before named) = came_cap mid before
  came_cap _ (alters mid r leaf f now before named seen) = came_cap mid before
  came_cap _ (room mid new r leaf stay before named none kept is) = cap_roomy mid new r stay is ∙ came_cap mid before
  came_cap _ (ends mid r leaf before named) = came_cap mid before

  -- where a rank was given a fragment
  given : (mid : CacheMap) (r : ℕ) (leaf : Leaf) (f : Cached) → Uses r leaf → (q : Leaf) (a : At) → (finmap.get mid.held q ≡ Some a → (finmap.get old.held q ≡ Some a) ⊎ Uses a.rank q) → finmap.get (with_frag mid r leaf f).held q ≡ Some a
      → (finmap.get old.held q ≡ Some a) ⊎ Uses a.rank q
  given mid r leaf f named q a rest is = go (leaf_is q leaf) refl (sym (get_with_frag mid r leaf f q) ∙ is)
    where
      go : (b : Bool) → leaf_is q leaf ≡ b → cond b (Some (lies_by r f)) (finmap.get mid.held q) ≡ Some a → (finmap.get old.held q ≡ Some a) ⊎ Uses a.rank q
      go true one is = inr (subst (λ (k : ℕ). Uses k q) (ap (λ (x : At). x.rank) (same_Some (lies_by r f) a is)) (subst (Uses r) (sym (one_leaf q leaf one)) named))
      go false one is = rest is

  -- each fragment was there, as it is, or its leaf is used at its rank
  pub came_held : (new : CacheMap) → Came Uses Ends old new → (q : Leaf) (a : At) → finmap.get new.held q ≡ Some a → (finmap.get old.held q ≡ Some a) ⊎ Uses a.rank q
  came_held _ it_stays q a is = inl is
  came_held _ (uses mid r leaf before named) q a is = came_held mid before q a is
  came_held _ (has mid r leaf f before named) q a is = given mid r leaf f named q a (λ was. came_held mid before q a was) is
  came_held _ (alters mid r leaf f now before named seen) q a is = given mid r leaf now named q a (λ was. came_held mid before q a was) is
  came_held _ (room mid new r leaf stay before named none kept is) q a there = came_held mid before q a (held_roomy mid new r stay q a is there)
  came_held _ (ends mid r leaf before named) q a is = came_held mid before q a (held_given_up mid r leaf q a is)

-- steps after others
pub came_then : (Uses Ends : ℕ → Leaf → Type 0) (old mid new : CacheMap) → Came Uses Ends old mid → Came Uses Ends mid new → Came Uses Ends old new
came_then Uses Ends old mid _ moved_first it_stays = moved_first
came_then Uses Ends old mid _ moved_first (uses next r leaf before named) = uses next r leaf (came_then Uses Ends old mid next moved_first before) named
came_then Uses Ends old mid _ moved_first (has next r leaf f before named) = has next r leaf f (came_then Uses Ends old mid next moved_first before) named
came_then Uses Ends old mid _ moved_first (alters next r leaf f now before named seen) = alters next r leaf f now (came_then Uses Ends old mid next moved_first before) named seen
came_then Uses Ends old mid _ moved_first (room next new r leaf stay before named none kept is) = room next new r leaf stay (came_then Uses Ends old mid next moved_first before) named none kept is
came_then Uses Ends old mid _ moved_first (ends next r leaf before named) = ends next r leaf (came_then Uses Ends old mid next moved_first before) named

pub staying_named : (Uses More : ℕ → Leaf → Type 0) → ((r : ℕ) (leaf : Leaf) → Uses r leaf → More r leaf) → (stay : Option Leaf) → StaysNamed Uses stay → StaysNamed More stay
staying_named Uses More so None named = tt
staying_named Uses More so (Some one) named = (named.0, so named.0 one named.1)

-- steps that name no more than others
module _ (Uses Ends More Other : ℕ → Leaf → Type 0) (used : (r : ℕ) (leaf : Leaf) → Uses r leaf → More r leaf) (ended : (r : ℕ) (leaf : Leaf) → Ends r leaf → Other r leaf) (old : CacheMap) where
  pub came_weaker : (new : CacheMap) → Came Uses Ends old new → Came More Other old new
  came_weaker _ it_stays = it_stays
  came_weaker _ (uses mid r leaf before named) = uses mid r leaf (came_weaker mid before) (used r leaf named)
  came_weaker _ (has mid r leaf f before named) = has mid r leaf f (came_weaker mid before) (used r leaf named)
  came_weaker _ (alters mid r leaf f now before named seen) = alters mid r leaf f now (came_weaker mid before) (used r leaf named) seen
  came_weaker _ (room mid new r leaf stay before named none kept is) = room mid new r leaf stay (came_weaker mid before) (used r leaf named) none (staying_named Uses More used stay kept) is
  came_weaker _ (ends mid r leaf before named) = ends mid r leaf (came_weaker mid before) (ended r leaf named)
