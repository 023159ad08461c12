-- A book begins sound.
use Rattle.cluster_core.proofs.Common.{AreCached, AreExported, AreSupplied, Core, IsSoundWith, IsSound, IsSupplied, IsUsedFrom, Leaf, None, Rank, Roots, Some, Standing, StandingExport, State, [], ap, arith, entries-empty, first_number, fresh, get-empty, get_or, inl, inr, leaf_cmp, length, length-replicate, length-set, map, new_are_roots, new_caches, new_state, new_tree, no_caches, no_supply, none_stand, numbers, order, refl, replicate, root_leaf, shown, subst, suc, sym, table-none, whole_supplies, zero, ℕ, ◌+◌, ◌<◌, ◌^◌, ◌∙◌, ◌≡◌, ◌≤◌}
use Rattle.std.specs.FinMap as finmap
use Rattle.dentry_cache.specs.CacheMap.{moved_first}

-- no number of a rank is used in an empty book
unused-empty : (n : ℕ) → 2 ^ 40 ≤ n → IsUsedFrom (fresh finmap.empty) [] n → ⊥
unused-empty n low (inl (s, (k, below, is), from, to, less)) = omega (arith, below)
unused-empty n low (inr (inl one)) = omega arith
unused-empty n low (inr (inr (inl (k, below, is)))) =
    let none : length (numbers finmap.empty) ≡ 0 = ap (λ es. length (map (λ (e : _). e.1.ino.0) es)) entries-empty in
    omega arith
unused-empty n low (inr (inr (inr (k, x, below, is, took)))) = omega arith

-- ---- supplies

as_many : (moved_first count : ℕ) → length (whole_supplies moved_first count) ≡ count
as_many moved_first zero = refl
as_many moved_first (suc more) = ap suc (as_many (suc moved_first) more)

found_at : (moved_first count k : ℕ) → k < count → get_or (whole_supplies moved_first count) k no_supply ≡ record { rank = moved_first + k; next = first_number (moved_first + k) }
found_at moved_first zero k below = absurd (omega arith)
found_at moved_first (suc more) zero below = let same : moved_first ≡ moved_first + 0 = omega arith in ap (λ (r : ℕ). record { rank = r; next = first_number r }) same
found_at moved_first (suc more) (suc k) below =
    let same : suc moved_first + k ≡ moved_first + suc k = omega arith in
    found_at (suc moved_first) more k (omega arith) ∙ ap (λ (r : ℕ). record { rank = r; next = first_number r }) same

all_supplied : (ranks : ℕ) → ranks ≤ 16 → AreSupplied (fresh finmap.empty) [] (whole_supplies 0 ranks)
all_supplied ranks most k below =
    let there : k < ranks = omega (arith, below, as_many 0 ranks) in
    subst (IsSupplied (fresh finmap.empty) [] k) (sym (found_at 0 ranks k there)) (record {
      supply = record { ranked = omega (arith, there, most); started = omega arith; ended = omega arith };
      own = omega arith;
      fresh = λ n low high used. absurd (unused-empty n (omega (arith, low)) used);
    })

-- no export stands
pub stand_alone : (core : Core) → core.state.exports ≡ finmap.empty → ((leaf : Leaf) (rank : Rank) → finmap.get core.state.roots leaf ≡ Some rank → rank.0 < length core.caches.used) → AreExported core
stand_alone core none ranked = record {
  placed = λ root export stands freezing. absurd (gone root export stands);
  ranked = ranked;
  there = λ root export stands. absurd (gone root export stands);
  unbegun = λ leaf job is frozen. gone frozen.root frozen.export frozen.stands;
}
  where
    gone : (root : Leaf) (export : StandingExport) → finmap.get core.state.exports root ≡ Some export → ⊥
    gone root export stands = let clash : None ≡ Some export = sym (get-empty leaf_cmp root) ∙ ap (λ (e : Standing). finmap.get e root) (sym none) ∙ stands in cc

-- a new book is sound
pub sound-empty : (core : Core) (ranks limit : ℕ) → 1 ≤ ranks → ranks ≤ 16 → core.state ≡ new_state ranks limit → IsSoundWith core.state.tree core.caches → AreCached core → length core.caches.used ≡ ranks → IsSound (fresh finmap.empty) [] core
sound-empty core ranks limit some most is tree cached count = record {
  legal = record { begins = omega arith; next = λ k e from below. absurd (omega arith) };
  replayed = ap shown is ∙ new_tree limit;
  tree = tree;
  subtrees = rw is (new_are_roots limit);
  cached = cached;
  exported = stand_alone core (ap (λ (s : State). s.exports) is) (λ leaf rank has. cached.held.ranks leaf rank (ap (λ (r : Roots). finmap.get r leaf) (none_stand core.state.exports core.state.roots (ap (λ (s : State). s.exports) is)) ∙ has));
  ranks = record {
    some = rw is (omega (arith, some, as_many 0 ranks));
    inboxes = rw is (length-replicate ranks [] ∙ sym (as_many 0 ranks));
    caches = count ∙ rw is (sym (as_many 0 ranks));
  };
  supplied = rw is (all_supplied ranks most);
  kept = rw is table-none;
}

-- the caches of a new book are as many as its ranks
pub new_count : (ranks places : ℕ) → length (new_caches ranks places).used ≡ ranks
new_count ranks places = length-set (replicate ranks []) 0 (moved_first root_leaf (order (no_caches ranks places) 0)) ∙ length-replicate ranks []
