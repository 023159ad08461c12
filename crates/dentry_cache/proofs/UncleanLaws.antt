-- What isn't clean, of the caches of all ranks, after each step.
use Rattle.std.proofs.Common.{◌≡◌, ℕ, Bool, true, false, cond, not, ◌&&◌, ◌||◌, List, [], ◌∷◌, length, nat_lt, is_some, option_map, Option, Some, None, refl, sym, ap, ◌∙◌}
use Rattle.std.specs.Prelude.{◌==◌}
use Rattle.std.specs.List.{list_any}
use Rattle.std.specs.Ordering.{eq_by_cmp}
use Rattle.std.specs.FinMap as finmap
use Rattle.std.specs.FinMap.{contains_key-keys, get-insert, get-remove, same_map}
use Rattle.std.proofs.lemmas.Option.{same_Some}
use Rattle.sorted_map.proofs.NatKeys.{is_same}
use Rattle.cached_frag.specs.Cached.{Cached, is_clean}
use Rattle.dentry_cache.specs.Cache.{Leaf, leaf_cmp, leaf_is, is_to_stay, unsaved_in, with_unsaved}
use Rattle.dentry_cache.specs.CacheMap.{At, CacheMap, IsFree, IsFreeFor, lies_by, at_rank, clean_in, given_up, goes, here, last_by, or_this, order, removed, roomy, unclean, unsaved_at, victim, with_frag}
use Rattle.dentry_cache.proofs.CacheLaws.{unsaved_here}
use Rattle.dentry_cache.proofs.MapLaws.{get_tabulate}
use Rattle.dentry_cache.proofs.LeafLaws.{leaf-exact, leaf-total, one_leaf, tied_leaf}

-- ---- what isn't clean

pub any_tied : (q : Leaf) (ks : List Leaf) → list_any (leaf_is q) ks ≡ list_any (eq_by_cmp leaf_cmp q) ks
any_tied q [] = refl
any_tied q (k ∷ ks) = ap (λ b. b || list_any (leaf_is q) ks) (sym (tied_leaf q k)) ∙ ap (λ b. eq_by_cmp leaf_cmp q k || b) (any_tied q ks)

pub get_unclean : (c : CacheMap) (q : Leaf) → finmap.get (unclean c) q ≡ unsaved_at (finmap.get c.held q)
unfolding unclean
get_unclean c q =
    get_tabulate (λ (q : Leaf). unsaved_at (finmap.get c.held q)) (finmap.keys c.held) q ∙ ap (λ b. cond b (unsaved_at (finmap.get c.held q)) None) (any_tied q (finmap.keys c.held) ∙ sym (contains_key-keys c.held q)) ∙ go (finmap.get c.held q)
  where
    go : (o : Option At) → cond (is_some o) (unsaved_at o) None ≡ unsaved_at o
    go (Some a) = refl
    go None = refl

pub unclean_alike : (c d : CacheMap) → ((q : Leaf) → unsaved_at (finmap.get c.held q) ≡ unsaved_at (finmap.get d.held q)) → unclean c ≡ unclean d
unclean_alike c d alike = same_map leaf-total leaf-exact (unclean c) (unclean d) (λ q. get_unclean c q ∙ alike q ∙ sym (get_unclean d q))

-- a fragment that a rank was given
pub unclean_with : (c : CacheMap) (r : ℕ) (leaf : Leaf) (f : Cached) → unclean (with_frag c r leaf f) ≡ with_unsaved (unclean c) leaf (unsaved_in (Some f))
unclean_with c r leaf f = same_map leaf-total leaf-exact _ _ (λ q.
    get_unclean (with_frag c r leaf f) q ∙ ap unsaved_at (get-insert leaf-total c.held leaf (lies_by r f) q ∙ ap (λ b. cond b (Some (lies_by r f)) (finmap.get c.held q)) (tied_leaf q leaf)) ∙ go q (leaf_is q leaf)
    ∙ ap (cond (leaf_is q leaf) (unsaved_in (Some f))) (sym (get_unclean c q)) ∙ sym (unsaved_here (unclean c) leaf q (unsaved_in (Some f))))
  where
    go : (q : Leaf) (b : Bool) → unsaved_at (cond b (Some (lies_by r f)) (finmap.get c.held q)) ≡ cond b (unsaved_in (Some f)) (unsaved_at (finmap.get c.held q))
    go q true = refl
    go q false = refl

-- one whose like was there, or a clean one that comes where none was
pub unclean_same : (c : CacheMap) (r : ℕ) (leaf : Leaf) (f : Cached) → unsaved_at (finmap.get c.held leaf) ≡ unsaved_in (Some f) → unclean (with_frag c r leaf f) ≡ unclean c
unclean_same c r leaf f was = unclean_alike (with_frag c r leaf f) c (λ q. ap unsaved_at (get-insert leaf-total c.held leaf (lies_by r f) q ∙ ap (λ b. cond b (Some (lies_by r f)) (finmap.get c.held q)) (tied_leaf q leaf)) ∙ go q (leaf_is q leaf) refl)
  where
    go : (q : Leaf) (b : Bool) → leaf_is q leaf ≡ b → unsaved_at (cond b (Some (lies_by r f)) (finmap.get c.held q)) ≡ unsaved_at (finmap.get c.held q)
    go q true one = sym was ∙ ap (λ (l : Leaf). unsaved_at (finmap.get c.held l)) (sym (one_leaf q leaf one))
    go q false one = refl

-- a fragment goes that is clean, or that the rank hasn't
pub unclean_gone : (c : CacheMap) (r : ℕ) (leaf : Leaf) → (is_some (here c r leaf) ≡ true → unsaved_at (finmap.get c.held leaf) ≡ None) → unclean (given_up c r leaf) ≡ unclean c
unclean_gone c r leaf clean = go (here c r leaf) refl
  where
    went : Option Cached → CacheMap
    went o = record { held = removed c.held leaf o; used = (given_up c r leaf).used; cap = c.cap }

    go : (o : Option Cached) → here c r leaf ≡ o → unclean (went o) ≡ unclean c
    go None lies_by = unclean_alike (went None) c (λ q. refl)
    go (Some f) lies_by = unclean_alike (went (Some f)) c (λ q. ap unsaved_at (get-remove leaf-total c.held leaf q ∙ ap (λ b. cond b None (finmap.get c.held q)) (tied_leaf q leaf)) ∙ on q (leaf_is q leaf) refl)
      where
        on : (q : Leaf) (b : Bool) → leaf_is q leaf ≡ b → unsaved_at (cond b None (finmap.get c.held q)) ≡ unsaved_at (finmap.get c.held q)
        on q true one = sym (ap (λ (l : Leaf). unsaved_at (finmap.get c.held l)) (one_leaf q leaf one) ∙ clean (ap (λ (o : Option Cached). is_some o) lies_by))
        on q false one = refl

-- a leaf whose place is given up, which no other rank has
pub unclean_given_up : (c : CacheMap) (r : ℕ) (leaf : Leaf) → IsFreeFor c r leaf → unclean (given_up c r leaf) ≡ finmap.remove (unclean c) leaf
unclean_given_up c r leaf free = same_map leaf-total leaf-exact _ _ (λ q. get_unclean (given_up c r leaf) q ∙ went q (here c r leaf) refl ∙ sym (unsaved_here (unclean c) leaf q None ∙ ap (cond (leaf_is q leaf) None) (get_unclean c q)))
  where
    none : (o : Option At) → IsFree r o → at_rank r o ≡ None → o ≡ None
    none None free is = refl
    none (Some a) free is = let clash : None ≡ Some a.frag = sym is ∙ ap (λ b. cond b (Some a.frag) None) (is_same a.rank r free) in absurd cc

    on : (q : Leaf) (b : Bool) → unsaved_at (cond b None (finmap.get c.held q)) ≡ cond b None (unsaved_at (finmap.get c.held q))
    on q true = refl
    on q false = refl

    went : (q : Leaf) (o : Option Cached) → here c r leaf ≡ o → unsaved_at (finmap.get (removed c.held leaf o) q) ≡ cond (leaf_is q leaf) None (unsaved_at (finmap.get c.held q))
    went q (Some f) is = ap unsaved_at (get-remove leaf-total c.held leaf q ∙ ap (λ b. cond b None (finmap.get c.held q)) (tied_leaf q leaf)) ∙ on q (leaf_is q leaf)
    went q None is = go (leaf_is q leaf) refl
      where
        go : (b : Bool) → leaf_is q leaf ≡ b → unsaved_at (finmap.get c.held q) ≡ cond b None (unsaved_at (finmap.get c.held q))
        go true one = ap (λ (l : Leaf). unsaved_at (finmap.get c.held l)) (one_leaf q leaf one) ∙ ap unsaved_at (none (finmap.get c.held leaf) free is)
        go false one = refl

pub last_passes : (t : Leaf → Bool) (xs : List Leaf) (x : Leaf) → last_by t xs ≡ Some x → t x ≡ true
last_passes t [] x is = let clash : None ≡ Some x = is in absurd cc
last_passes t (y ∷ ys) x is = go (λ lies_by. last_passes t ys x lies_by) (last_by t ys) refl (t y) refl is
  where
    go : (last_by t ys ≡ Some x → t x ≡ true) → (o : Option Leaf) → last_by t ys ≡ o → (b : Bool) → t y ≡ b → or_this o (cond b (Some y) None) ≡ Some x → t x ≡ true
    go rest (Some z) lies_by b passes is = rest (lies_by ∙ is)
    go rest None lies_by true passes is = ap t (sym (same_Some y x is)) ∙ passes
    go rest None lies_by false passes is = let clash : None ≡ Some x = is in absurd cc

pub clean_there : (r : ℕ) (o : Option At) (b : Bool) → (clean_in (at_rank r o) && b) ≡ true → unsaved_at o ≡ None
clean_there r None b passes = refl
clean_there r (Some a) b passes = go (is_clean a.frag) refl (a.rank == r) passes
  where
    go : (k : Bool) → is_clean a.frag ≡ k → (t : Bool) → (clean_in (cond t (Some a.frag) None) && b) ≡ true → unsaved_at (Some a) ≡ None
    go true clean t passes = ap (λ b. cond b None (Some (record { base = a.frag.base; generation = a.frag.generation; dirty = a.frag.dirty }))) clean
    go false clean true passes = let clash : false ≡ true = sym (ap (λ k. k && b) clean) ∙ passes in absurd cc
    go false clean false passes = let clash : false ≡ true = passes in absurd cc

pub unclean_roomy : (c mid : CacheMap) (r : ℕ) (stay : Option Leaf) → roomy c r stay ≡ Some mid → unclean mid ≡ unclean c
unclean_roomy c mid r stay is = go (nat_lt (length (order c r)) c.cap) (victim c r stay) refl is
  where
    go : (b : Bool) (v : Option Leaf) → victim c r stay ≡ v → cond b (Some c) (option_map (given_up c r) v) ≡ Some mid → unclean mid ≡ unclean c
    go true v lies_by is = ap unclean (sym (same_Some c mid is))
    go false None lies_by is = let clash : None ≡ Some mid = is in absurd cc
    go false (Some v) lies_by is =
        ap unclean (sym (same_Some (given_up c r v) mid is))
        ∙ unclean_gone c r v (λ some. clean_there r (finmap.get c.held v) (not (is_to_stay stay v)) (last_passes (goes c r stay) (order c r) v lies_by))
