-- Fragments that go from one rank to another, and where each is then.
use Rattle.std.proofs.Common.{◌≡◌, ◌≢◌, ℕ, ◌<◌, Bool, true, false, cond, ◌&&◌, ◌||◌, ◌⊎◌, inl, inr, List, [], ◌∷◌, length, is_some, Option, Some, None, refl, sym, ap, subst, ◌∙◌, get_or-set_other}
use Rattle.std.specs.Prelude.{◌==◌}
use Rattle.std.specs.List.{list_any}
use Rattle.std.specs.FinMap as finmap
use Rattle.sorted_map.proofs.NatKeys.{is_apart, is_same, same_or_apart}
use Rattle.cached_frag.specs.Cached.{Cached, imported}
use Rattle.dentry_cache.specs.Cache.{Leaf, leaf_is}
use Rattle.dentry_cache.specs.CacheCalls.{unclean_in}
use Rattle.dentry_cache.specs.CacheMap.{At, CacheMap, IsFree, lies_by, at_rank, given_up, has_place, here, less, order, removed, with_frag}
use Rattle.dentry_cache.specs.Handing.{moved, moved_all, moved_as, without_all}
use Rattle.dentry_cache.proofs.LeafLaws.{leaf_itself, one_leaf}
use Rattle.dentry_cache.proofs.MapLaws.{at_other, here_free}
use Rattle.dentry_cache.proofs.ReadsLaws.{here_is}
use Rattle.dentry_cache.proofs.StepLaws.{get_given_up, get_with_frag, has_with_frag, ranks_given_up, ranks_with_frag}

-- a leaf that a rank has is at no other
pub none_beside : (c : CacheMap) (from to : ℕ) (leaf : Leaf) → from ≢ to → unclean_in (here c from leaf) ≡ true → here c to leaf ≡ None
none_beside c from to leaf apart dirty = at_other from to (finmap.get c.held leaf) (here_free from (finmap.get c.held leaf) (some (here c from leaf) dirty)) (λ (e : to ≡ from). apart (sym e))
  where
    some : (o : Option Cached) → unclean_in o ≡ true → is_some o ≡ true
    some None is = is
    some (Some f) is = refl

-- ---- one that goes

module _ (c : CacheMap) (from to : ℕ) (leaf : Leaf) where
  pub ranks_moved : length (moved c from to leaf).used ≡ length c.used
  ranks_moved = go (here c from leaf)
    where
      go : (o : Option Cached) → length (moved_as (given_up c from leaf) to leaf o).used ≡ length c.used
      go None = ranks_given_up c from leaf
      go (Some f) = ranks_with_frag (given_up c from leaf) to leaf (imported f) ∙ ranks_given_up c from leaf

  -- no other rank's order changes where a place is given up
  pub still_placed : from ≢ to → (q : Leaf) → has_place (given_up c from leaf) to q ≡ has_place c to q
  still_placed apart q = ap (list_any (leaf_is q)) (get_or-set_other c.used from to (less leaf (order c from)) [] (λ (e : to ≡ from). apart (sym e)))

  pub placed_moved : from ≢ to → to < length c.used → (q : Leaf) → has_place c to q ≡ true → has_place (moved c from to leaf) to q ≡ true
  placed_moved apart other q placed = go (here c from leaf)
    where
      then : has_place (given_up c from leaf) to q ≡ true
      then = still_placed apart q ∙ placed

      either : (b : Bool) → cond b true (has_place (given_up c from leaf) to q) ≡ true
      either true = refl
      either false = then

      go : (o : Option Cached) → has_place (moved_as (given_up c from leaf) to leaf o) to q ≡ true
      go None = then
      go (Some f) = has_with_frag (given_up c from leaf) to leaf (imported f) to q (subst (λ (n : ℕ). to < n) (sym (ranks_given_up c from leaf)) other) ∙ either ((to == to) && leaf_is q leaf)

  -- a fragment that was taken out is at no rank
  pub none_left : (f : Cached) → here c from leaf ≡ Some f → finmap.get (given_up c from leaf).held leaf ≡ None
  none_left f seen =
      get_given_up c from leaf leaf (here_free from (finmap.get c.held leaf) (ap (λ (o : Option Cached). is_some o) seen))
      ∙ ap (λ (b : Bool). cond b None (finmap.get c.held leaf)) (leaf_itself leaf)

  -- what a call makes of it
  pub moved_some : (f : Cached) → here c from leaf ≡ Some f → moved c from to leaf ≡ with_frag (given_up c from leaf) to leaf (imported f)
  moved_some f seen = ap (moved_as (given_up c from leaf) to leaf) seen

  pub moved_none : here c from leaf ≡ None → moved c from to leaf ≡ given_up c from leaf
  moved_none none = ap (moved_as (given_up c from leaf) to leaf) none

-- ---- where each is

-- a rank's fragment is at another
abbrev pub sent : ℕ → ℕ → Option At → Option At
sent from to None = None
sent from to (Some a) = cond (a.rank == from) (Some (lies_by to (imported a.frag))) (Some a)

sent_again : (from to : ℕ) → from ≢ to → (o : Option At) → sent from to (sent from to o) ≡ sent from to o
sent_again from to apart None = refl
sent_again from to apart (Some a) = go (a.rank == from) refl
  where
    go : (b : Bool) → (a.rank == from) ≡ b → sent from to (cond b (Some (lies_by to (imported a.frag))) (Some a)) ≡ cond b (Some (lies_by to (imported a.frag))) (Some a)
    go true same = ap (λ b. cond b (Some (lies_by to (imported (imported a.frag)))) (Some (lies_by to (imported a.frag)))) (is_apart to from (λ (e : to ≡ from). apart (sym e)))
    go false differs = ap (λ b. cond b (Some (lies_by to (imported a.frag))) (Some a)) differs

-- none of it is left at a rank
abbrev pub left_by : ℕ → Option At → Option At
left_by r None = None
left_by r (Some a) = cond (a.rank == r) None (Some a)

left_again : (r : ℕ) (o : Option At) → left_by r (left_by r o) ≡ left_by r o
left_again r None = refl
left_again r (Some a) = go (a.rank == r) refl
  where
    go : (b : Bool) → (a.rank == r) ≡ b → left_by r (cond b None (Some a)) ≡ cond b None (Some a)
    go true same = refl
    go false differs = ap (λ b. cond b None (Some a)) differs

module _ (c : CacheMap) (r : ℕ) (leaf q : Leaf) where
  alone : (o : Option At) → finmap.get c.held leaf ≡ o → (b : Bool) → leaf_is q leaf ≡ b → finmap.get c.held q ≡ cond b o (finmap.get c.held q)
  alone o seen true same = ap (finmap.get c.held) (one_leaf q leaf same) ∙ seen
  alone o seen false apart = refl

  -- a place given up
  pub given_up_at : finmap.get (given_up c r leaf).held q ≡ cond (leaf_is q leaf) (left_by r (finmap.get c.held leaf)) (finmap.get c.held q)
  given_up_at = go (finmap.get c.held leaf) refl
    where
      by : (a : At) → finmap.get c.held leaf ≡ Some a → (a.rank ≡ r) ⊎ (a.rank ≡ r → ⊥) → finmap.get (given_up c r leaf).held q ≡ cond (leaf_is q leaf) (left_by r (Some a)) (finmap.get c.held q)
      by a seen (inl same) =
          get_given_up c r leaf q (subst (IsFree r) (sym seen) same) ∙ ap (λ (o : Option At). cond (leaf_is q leaf) o (finmap.get c.held q)) (sym (ap (λ b. cond b None (Some a)) (is_same a.rank r same)))
      by a seen (inr apart) =
          ap (λ (o : Option Cached). finmap.get (removed c.held leaf o) q) (ap (at_rank r) seen ∙ ap (λ b. cond b (Some a.frag) None) (is_apart a.rank r apart))
          ∙ alone (Some a) seen (leaf_is q leaf) refl ∙ ap (λ (o : Option At). cond (leaf_is q leaf) o (finmap.get c.held q)) (sym (ap (λ b. cond b None (Some a)) (is_apart a.rank r apart)))

      go : (o : Option At) → finmap.get c.held leaf ≡ o → finmap.get (given_up c r leaf).held q ≡ cond (leaf_is q leaf) (left_by r o) (finmap.get c.held q)
      go None seen = get_given_up c r leaf q (subst (IsFree r) (sym seen) tt)
      go (Some a) seen = by a seen (same_or_apart a.rank r)

  -- a fragment that goes
  pub moved_at : (to : ℕ) → finmap.get (moved c r to leaf).held q ≡ cond (leaf_is q leaf) (sent r to (finmap.get c.held leaf)) (finmap.get c.held q)
  moved_at to = go (here c r leaf) refl
    where
      twice : (o : Option At) (b : Bool) → cond b o (cond b None (finmap.get c.held q)) ≡ cond b o (finmap.get c.held q)
      twice o true = refl
      twice o false = refl

      none_sent : (o : Option At) → at_rank r o ≡ None → left_by r o ≡ sent r to o
      none_sent None none = refl
      none_sent (Some a) none = on (a.rank == r) none
        where
          on : (b : Bool) → cond b (Some a.frag) None ≡ None → cond b None (Some a) ≡ cond b (Some (lies_by to (imported a.frag))) (Some a)
          on true none = let clash : Some a.frag ≡ None = none in absurd cc
          on false none = refl

      go : (o : Option Cached) → here c r leaf ≡ o → finmap.get (moved c r to leaf).held q ≡ cond (leaf_is q leaf) (sent r to (finmap.get c.held leaf)) (finmap.get c.held q)
      go None seen =
          ap (λ (k : CacheMap). finmap.get k.held q) (moved_none c r to leaf seen) ∙ given_up_at
          ∙ ap (λ (o : Option At). cond (leaf_is q leaf) o (finmap.get c.held q)) (none_sent (finmap.get c.held leaf) seen)
      go (Some f) seen =
          let there : finmap.get c.held leaf ≡ Some (lies_by r f) = here_is r (finmap.get c.held leaf) f seen in
          ap (λ (k : CacheMap). finmap.get k.held q) (moved_some c r to leaf f seen) ∙ get_with_frag (given_up c r leaf) to leaf (imported f) q
          ∙ ap (cond (leaf_is q leaf) (Some (lies_by to (imported f)))) (get_given_up c r leaf q (here_free r (finmap.get c.held leaf) (ap (λ (o : Option Cached). is_some o) seen)))
          ∙ twice (Some (lies_by to (imported f))) (leaf_is q leaf)
          ∙ ap (λ (o : Option At). cond (leaf_is q leaf) o (finmap.get c.held q)) (sym (ap (sent r to) there ∙ ap (λ b. cond b (Some (lies_by to (imported f))) (Some (lies_by r f))) (is_same r r refl)))

-- a function that is its own twice, at each of these leaves
again : (g : Option At → Option At) → ((o : Option At) → g (g o) ≡ g o) → (o : Option At) (t : Bool) → g (cond t (g o) o) ≡ g o
again g twice o true = twice o
again g twice o false = refl

pub all_moved_at : (c : CacheMap) (from to : ℕ) → from ≢ to → (leaves : List Leaf) (q : Leaf) → finmap.get (moved_all c from to leaves).held q ≡ cond (list_any (leaf_is q) leaves) (sent from to (finmap.get c.held q)) (finmap.get c.held q)
all_moved_at c from to apart [] q = refl
all_moved_at c from to apart (leaf ∷ leaves) q = moved_at (moved_all c from to leaves) from leaf q to ∙ go (all_moved_at c from to apart leaves q) (leaf_is q leaf) refl
  where
    then : CacheMap
    then = moved_all c from to leaves

    go : finmap.get then.held q ≡ cond (list_any (leaf_is q) leaves) (sent from to (finmap.get c.held q)) (finmap.get c.held q) → (b : Bool) → leaf_is q leaf ≡ b
        → cond b (sent from to (finmap.get then.held leaf)) (finmap.get then.held q) ≡ cond (b || list_any (leaf_is q) leaves) (sent from to (finmap.get c.held q)) (finmap.get c.held q)
    go rest true same = ap (λ (l : Leaf). sent from to (finmap.get then.held l)) (sym (one_leaf q leaf same)) ∙ ap (sent from to) rest ∙ again (sent from to) (sent_again from to apart) (finmap.get c.held q) (list_any (leaf_is q) leaves)
    go rest false differs = rest

pub all_left_at : (c : CacheMap) (r : ℕ) (leaves : List Leaf) (q : Leaf) → finmap.get (without_all c r leaves).held q ≡ cond (list_any (leaf_is q) leaves) (left_by r (finmap.get c.held q)) (finmap.get c.held q)
all_left_at c r [] q = refl
all_left_at c r (leaf ∷ leaves) q = given_up_at (without_all c r leaves) r leaf q ∙ go (all_left_at c r leaves q) (leaf_is q leaf) refl
  where
    then : CacheMap
    then = without_all c r leaves

    go : finmap.get then.held q ≡ cond (list_any (leaf_is q) leaves) (left_by r (finmap.get c.held q)) (finmap.get c.held q) → (b : Bool) → leaf_is q leaf ≡ b
        → cond b (left_by r (finmap.get then.held leaf)) (finmap.get then.held q) ≡ cond (b || list_any (leaf_is q) leaves) (left_by r (finmap.get c.held q)) (finmap.get c.held q)
    go rest true same = ap (λ (l : Leaf). left_by r (finmap.get then.held l)) (sym (one_leaf q leaf same)) ∙ ap (left_by r) rest ∙ again (left_by r) (left_again r) (finmap.get c.held q) (list_any (leaf_is q) leaves)
    go rest false differs = rest

-- ---- sizes and places of all

pub ranks_moved_all : (c : CacheMap) (from to : ℕ) (leaves : List Leaf) → length (moved_all c from to leaves).used ≡ length c.used
ranks_moved_all c from to [] = refl
ranks_moved_all c from to (leaf ∷ leaves) = ranks_moved (moved_all c from to leaves) from to leaf ∙ ranks_moved_all c from to leaves

pub placed_moved_all : (c : CacheMap) (from to : ℕ) → from ≢ to → to < length c.used → (leaves : List Leaf) (q : Leaf) → has_place c to q ≡ true → has_place (moved_all c from to leaves) to q ≡ true
placed_moved_all c from to apart other [] q placed = placed
placed_moved_all c from to apart other (leaf ∷ leaves) q placed =
    placed_moved (moved_all c from to leaves) from to leaf apart (subst (λ (n : ℕ). to < n) (sym (ranks_moved_all c from to leaves)) other) q (placed_moved_all c from to apart other leaves q placed)
