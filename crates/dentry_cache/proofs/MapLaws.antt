-- What is seen of the caches of all ranks once one rank has another cache.
use Rattle.std.proofs.Common.{◌≡◌, ◌≢◌, ℕ, zero, suc, ◌+◌, ◌<◌, Bool, true, false, cond, not, ◌&&◌, ◌||◌, ◌⊎◌, inl, inr, List, [], ◌∷◌, set, get_or, length, nat_lt, is_some, option_map, Option, Some, None, refl, sym, ap, subst, ◌∙◌, arith, get_or-set_same, get_or-set_other, length-set, filter}
use Rattle.std.specs.List.{AllByRecursion, IsDistinct, list_any}
use Rattle.std.specs.Map.{keys_of, lookup, remove_entry, set_value}
use Rattle.lru.specs.LruCache.{lru_cache}
use Rattle.std.proofs.lemmas.Map.{keys-set_value}
use Rattle.std.specs.FinMap as finmap
use Rattle.std.specs.FinMap.{get-empty, get-insert, get-remove, same_map}
use Rattle.std.proofs.lemmas.List.{get_or-map, map-set, set-get_or}
use Rattle.std.proofs.lemmas.List.Folds.{list_any-append}
use Rattle.std.proofs.lemmas.Map.Keys.{IsDistinct-head, IsDistinct-tail}
use Rattle.std.proofs.lemmas.Map.Entries.{length-keys_of}
use Rattle.sorted_map.proofs.NatKeys.{is_apart, is_same, same_or_apart}
use Rattle.cached_frag.specs.Cached.{Cached, is_clean}
use Rattle.dentry_cache.specs.declared.cache.Place.{Place}
use Rattle.dentry_cache.specs.Cache.{Held, Leaf, Places, cached, fragment_in, held, leaf_cmp, leaf_is, may_go, is_to_stay, used_as, without}
use Rattle.dentry_cache.specs.CacheCalls.{going_at}
use Rattle.dentry_cache.specs.CacheMap.{AreAtOneRank, At, CacheMap, IsFree, IsFreeFor, lies_by, at_rank, cache_map, clean_in, edited, edited_as, evicted, moved_first, flat, found, frag_at, given_up, goes, held_of, here, last_by, less, no_cache, or_later, or_this, order, orders, removed, rewritten, roomy, tabulate, used_at, victim, with_frag, with_some}
use Rattle.dentry_cache.proofs.OneCache.{HasRoomFor, cached_set, cached_used, cached_without, changed, dropped, room_made, set_valid, used_valid, without_valid}
use Rattle.dentry_cache.specs.Places.{IsCache}
use Rattle.dentry_cache.proofs.LeafLaws.{flips, leaf-exact, leaf-total, leaf_itself, one_leaf, tied_leaf}

-- a fragment that is cached has a place
pub cached_placed : (leaf : Leaf) (es : Places) → is_some (cached es leaf) ≡ true → is_some (lookup (leaf_is leaf) es) ≡ true
cached_placed leaf es some = go (lookup (leaf_is leaf) es) some
  where
    go : (o : Option Place) → is_some (fragment_in o) ≡ true → is_some o ≡ true
    go None some = some
    go (Some p) some = refl

-- ---- the map of a function

module _ {X : Type 0} (f : Leaf → Option X) where
  put_some : (m : finmap.FinMap leaf_cmp X) (k q : Leaf) (o : Option X) → finmap.get (with_some m k o) q ≡ cond (leaf_is q k && is_some o) o (finmap.get m q)
  put_some m k q (Some x) = get-insert leaf-total m k x q ∙ ap (λ b. cond b (Some x) (finmap.get m q)) (tied_leaf q k) ∙ go (leaf_is q k)
    where
      go : (b : Bool) → cond b (Some x) (finmap.get m q) ≡ cond (b && true) (Some x) (finmap.get m q)
      go true = refl
      go false = refl
  put_some m k q None = go (leaf_is q k)
    where
      go : (b : Bool) → finmap.get m q ≡ cond (b && false) None (finmap.get m q)
      go true = refl
      go false = refl

  pub get_tabulate : (ks : List Leaf) (q : Leaf) → finmap.get (tabulate f ks) q ≡ cond (list_any (leaf_is q) ks) (f q) None
  get_tabulate [] q = get-empty leaf_cmp q
  get_tabulate (k ∷ ks) q = put_some (tabulate f ks) k q (f k) ∙ ap (cond (leaf_is q k && is_some (f k)) (f k)) (get_tabulate ks q) ∙ go (leaf_is q k) refl (f k) refl (list_any (leaf_is q) ks)
    where
      same : leaf_is q k ≡ true → f k ≡ f q
      same is = ap f (sym (one_leaf q k is))

      go : (b : Bool) → leaf_is q k ≡ b → (o : Option X) → f k ≡ o → (t : Bool) → cond (b && is_some o) o (cond t (f q) None) ≡ cond (b || t) (f q) None
      go false is o lies_by t = refl
      go true is (Some x) lies_by t = sym lies_by ∙ same is
      go true is None lies_by t = go2 t (f q) (sym (same is) ∙ lies_by)
        where
          go2 : (t : Bool) (o : Option X) → o ≡ None → cond t o None ≡ o
          go2 true o none = refl
          go2 false o none = sym none

-- ---- where a fragment is found

none_cached : (es : Places) (q : Leaf) → list_any (leaf_is q) (keys_of es) ≡ false → lookup (leaf_is q) es ≡ None
none_cached [] q none = refl
none_cached (e ∷ es) q none = go (none_cached es q) (leaf_is q e.0) none
  where
    go : (list_any (leaf_is q) (keys_of es) ≡ false → lookup (leaf_is q) es ≡ None) → (b : Bool) → (b || list_any (leaf_is q) (keys_of es)) ≡ false → cond b (Some e.1) (lookup (leaf_is q) es) ≡ None
    go rest true none = let clash : true ≡ false = none in absurd cc
    go rest false none = rest none

split_or : (a b : Bool) → (a || b) ≡ false → (a ≡ false) × (b ≡ false)
split_or true b is = let clash : true ≡ false = is in absurd cc
split_or false b is = (refl, is)

found_none : (n : ℕ) (cs : List Held) (q : Leaf) → list_any (leaf_is q) (flat (orders cs)) ≡ false → found n cs q ≡ None
found_none n [] q none = refl
found_none n (c ∷ cs) q none =
    let parts = split_or _ _ (sym (list_any-append (leaf_is q) (keys_of c.entries) (flat (orders cs))) ∙ none) in
    ap (λ (o : Option Place). or_later n (fragment_in o) (found (suc n) cs q)) (none_cached c.entries q parts.0) ∙ found_none (suc n) cs q parts.1

pub get_held : (cs : List Held) (q : Leaf) → finmap.get (held_of cs) q ≡ found 0 cs q
unfolding held_of
get_held cs q = get_tabulate (found 0 cs) (flat (orders cs)) q ∙ go (list_any (leaf_is q) (flat (orders cs))) refl
  where
    go : (b : Bool) → list_any (leaf_is q) (flat (orders cs)) ≡ b → cond b (found 0 cs q) None ≡ found 0 cs q
    go true is = refl
    go false is = sym (found_none 0 cs q is)

nowhere : (n : ℕ) (cs : List Held) (q : Leaf) → ((r : ℕ) → frag_at cs r q ≡ None) → found n cs q ≡ None
nowhere n [] q none = refl
nowhere n (c ∷ cs) q none = ap (λ (o : Option Cached). or_later n o (found (suc n) cs q)) (none zero) ∙ nowhere (suc n) cs q (λ r. none (suc r))

only_at : (n : ℕ) (cs : List Held) (r : ℕ) (q : Leaf) (f : Cached) → frag_at cs r q ≡ Some f → ((b : ℕ) → b ≢ r → frag_at cs b q ≡ None) → found n cs q ≡ Some (lies_by (n + r) f)
only_at n [] r q f is none = let clash : None ≡ Some f = is in absurd cc
only_at n (c ∷ cs) zero q f is none = ap (λ (o : Option Cached). or_later n o (found (suc n) cs q)) is ∙ ap (λ (k : ℕ). Some (lies_by k f)) (omega arith)
only_at n (c ∷ cs) (suc r) q f is none =
    ap (λ (o : Option Cached). or_later n o (found (suc n) cs q)) (none zero (λ (e : zero ≡ suc r). omega (arith, e)))
    ∙ only_at (suc n) cs r q f is (λ b apart. none (suc b) (λ (e : suc b ≡ suc r). apart (omega (arith, e)))) ∙ ap (λ (k : ℕ). Some (lies_by k f)) (omega arith)

-- what each rank has of a leaf tells where it is found
found_is : (cs : List Held) (q : Leaf) (o : Option At) → ((r : ℕ) → frag_at cs r q ≡ at_rank r o) → found 0 cs q ≡ o
found_is cs q None each = nowhere 0 cs q each
found_is cs q (Some a) each =
    only_at 0 cs a.rank q a.frag (each a.rank ∙ ap (λ b. cond b (Some a.frag) None) (is_same a.rank a.rank refl))
    (λ b apart. each b ∙ ap (λ t. cond t (Some a.frag) None) (is_apart a.rank b (λ (e : a.rank ≡ b). apart (sym e))))
    ∙ ap (λ (k : ℕ). Some (lies_by k a.frag)) (omega arith)

pub at_other : (r b : ℕ) (o : Option At) → IsFree r o → b ≢ r → at_rank b o ≡ None
at_other r b None free apart = refl
at_other r b (Some a) free apart = ap (λ t. cond t (Some a.frag) None) (is_apart a.rank b (λ (e : a.rank ≡ b). apart (sym e ∙ free)))

-- a leaf that a rank has is free for it
pub here_free : (r : ℕ) (o : Option At) → is_some (at_rank r o) ≡ true → IsFree r o
here_free r None is = let clash : false ≡ true = is in absurd cc
here_free r (Some a) is = go (same_or_apart a.rank r)
  where
    go : (a.rank ≡ r) ⊎ (a.rank ≡ r → ⊥) → a.rank ≡ r
    go (inl same) = same
    go (inr apart) = let clash : false ≡ true = sym (ap (λ t. is_some (cond t (Some a.frag) None)) (is_apart a.rank r apart)) ∙ is in absurd cc

-- ---- the order of use

pub keys_removed : (leaf : Leaf) (es : Places) → keys_of (remove_entry (leaf_is leaf) es) ≡ less leaf (keys_of es)
keys_removed leaf [] = refl
keys_removed leaf (e ∷ es) = go (keys_removed leaf es) (leaf_is leaf e.0)
  where
    go : keys_of (remove_entry (leaf_is leaf) es) ≡ less leaf (keys_of es) → (b : Bool) → keys_of (cond b es (e ∷ remove_entry (leaf_is leaf) es)) ≡ cond b (keys_of es) (e.0 ∷ less leaf (keys_of es))
    go rest true = refl
    go rest false = ap (λ (ks : List Leaf). e.0 ∷ ks) rest

-- ---- one rank has another cache

module _ (cs : List Held) (cap r : ℕ) (sound : AreAtOneRank cap cs) (there : r < length cs) where
  abbrev was : Held
  was = get_or cs r no_cache

  abbrev seen : CacheMap
  seen = cache_map cs cap

  pub each_at : (b : ℕ) (q : Leaf) → frag_at cs b q ≡ at_rank b (finmap.get (held_of cs) q)
  each_at b q = sound.one b q ∙ ap (at_rank b) (sym (get_held cs q))

  pub order_is : order seen r ≡ keys_of was.entries
  order_is = get_or-map (λ (c : Held). keys_of c.entries) cs r no_cache [] there

  module _ (now : Held) where
    abbrev then : List Held
    then = set cs r now

    then_there : get_or then r no_cache ≡ now
    then_there = get_or-set_same cs r now no_cache there

    -- it is enough to know what the rank has of each leaf, and what the others have
    raised : (m : finmap.FinMap leaf_cmp At) → IsCache now → now.cap ≡ was.cap → ((q : Leaf) → cached now.entries q ≡ at_rank r (finmap.get m q)) → ((b : ℕ) (q : Leaf) → b ≢ r → frag_at cs b q ≡ at_rank b (finmap.get m q))
        → (held_of then ≡ m) × AreAtOneRank cap then
    raised m fits size mine others = (
      same_map leaf-total leaf-exact (held_of then) m (λ q. get_held then q ∙ found_then q),
      record { most = sound.most; one = λ b q. each b q ∙ ap (at_rank b) (sym (found_then q)); each = λ b lt. caps b lt (same_or_apart b r); valid = λ b lt. valids b lt (same_or_apart b r) },
    )
      where
        each_so : (b : ℕ) (q : Leaf) → (b ≡ r) ⊎ (b ≡ r → ⊥) → frag_at then b q ≡ at_rank b (finmap.get m q)
        each_so b q (inl same) = ap (λ (k : ℕ). frag_at then k q) same ∙ ap (λ (c : Held). cached c.entries q) then_there ∙ mine q ∙ ap (λ (k : ℕ). at_rank k (finmap.get m q)) (sym same)
        each_so b q (inr apart) = ap (λ (c : Held). cached c.entries q) (get_or-set_other cs r b now no_cache apart) ∙ others b q apart

        each : (b : ℕ) (q : Leaf) → frag_at then b q ≡ at_rank b (finmap.get m q)
        each b q = each_so b q (same_or_apart b r)

        found_then : (q : Leaf) → found 0 then q ≡ finmap.get m q
        found_then q = found_is then q (finmap.get m q) (λ b. each b q)

        count : length then ≡ length cs
        count = length-set cs r now

        valids : (b : ℕ) → b < length then → (b ≡ r) ⊎ (b ≡ r → ⊥) → IsCache (get_or then b no_cache)
        valids b lt (inl same) = subst IsCache (sym (ap (λ (k : ℕ). get_or then k no_cache) same ∙ then_there)) fits
        valids b lt (inr apart) = subst IsCache (sym (get_or-set_other cs r b now no_cache apart)) (sound.valid b (subst (λ (n : ℕ). b < n) count lt))

        caps : (b : ℕ) → b < length then → (b ≡ r) ⊎ (b ≡ r → ⊥) → (get_or then b no_cache).cap ≡ cap
        caps b lt (inl same) = ap (λ (k : ℕ). (get_or then k no_cache).cap) same ∙ ap (λ (c : Held). c.cap) then_there ∙ size ∙ sound.each r there
        caps b lt (inr apart) = ap (λ (c : Held). c.cap) (get_or-set_other cs r b now no_cache apart) ∙ sound.each b (subst (λ (n : ℕ). b < n) count lt)

    orders_then : (ks : List Leaf) → keys_of now.entries ≡ ks → orders then ≡ set (orders cs) r ks
    orders_then ks is = map-set (λ (c : Held). keys_of c.entries) cs r now ∙ ap (set (orders cs) r) is

    first_then : (leaf : Leaf) (place : Place) → now ≡ used_as leaf place was → orders then ≡ set (orders cs) r (moved_first leaf (order seen r))
    first_then leaf place is =
        orders_then (moved_first leaf (order seen r)) (ap (λ (h : Held). keys_of h.entries) is ∙ ap (λ (ks : List Leaf). leaf ∷ ks) (keys_removed leaf was.entries ∙ ap (less leaf) (sym order_is)))

    -- the rank has this fragment of a leaf now
    has_frag : (leaf : Leaf) (f : Cached) → IsCache now → now.cap ≡ was.cap → ((q : Leaf) → cached now.entries q ≡ cond (leaf_is q leaf) (Some f) (at_rank r (finmap.get (held_of cs) q))) → IsFreeFor seen r leaf
        → (held_of then ≡ finmap.insert (held_of cs) leaf (lies_by r f)) × AreAtOneRank cap then
    has_frag leaf f fits size mine_now free =
        raised (finmap.insert (held_of cs) leaf (lies_by r f)) fits size (λ q. mine_now q ∙ mine q (leaf_is q leaf) ∙ sym (ap (at_rank r) (got q))) (λ b q apart. other b q apart (leaf_is q leaf) refl ∙ sym (ap (at_rank b) (got q)))
      where
        got : (q : Leaf) → finmap.get (finmap.insert (held_of cs) leaf (lies_by r f)) q ≡ cond (leaf_is q leaf) (Some (lies_by r f)) (finmap.get (held_of cs) q)
        got q = get-insert leaf-total (held_of cs) leaf (lies_by r f) q ∙ ap (λ b. cond b (Some (lies_by r f)) (finmap.get (held_of cs) q)) (tied_leaf q leaf)

        mine : (q : Leaf) (b : Bool) → cond b (Some f) (at_rank r (finmap.get (held_of cs) q)) ≡ at_rank r (cond b (Some (lies_by r f)) (finmap.get (held_of cs) q))
        mine q true = sym (ap (λ t. cond t (Some f) None) (is_same r r refl))
        mine q false = refl

        other : (b : ℕ) (q : Leaf) → b ≢ r → (t : Bool) → leaf_is q leaf ≡ t → frag_at cs b q ≡ at_rank b (cond t (Some (lies_by r f)) (finmap.get (held_of cs) q))
        other b q apart true one =
            each_at b q ∙ ap (λ (l : Leaf). at_rank b (finmap.get (held_of cs) l)) (one_leaf q leaf one) ∙ at_other r b (finmap.get (held_of cs) leaf) free apart ∙ sym (at_other r b (Some (lies_by r f)) refl apart)
        other b q apart false one = each_at b q

    module _ (leaf : Leaf) (place : Place) (is : now ≡ used_as leaf place was) (room : HasRoomFor leaf was) where
      fits_now : IsCache now
      fits_now = subst IsCache (sym is) (used_valid leaf place was (sound.valid r there) room)

      mine_now : (q : Leaf) → cached now.entries q ≡ cond (leaf_is q leaf) (fragment_in (Some place)) (at_rank r (finmap.get (held_of cs) q))
      mine_now q = ap (λ (h : Held). cached h.entries q) is ∙ cached_used leaf q place was ∙ ap (cond (leaf_is q leaf) (fragment_in (Some place))) (each_at r q)

      -- the place is used, and has what it had
      pub used_so : fragment_in (Some place) ≡ here seen r leaf → (cache_map then cap ≡ used_at seen r leaf) × AreAtOneRank cap then
      used_so same = let up = raised (held_of cs) fits_now (ap (λ (h : Held). h.cap) is) (λ q. mine_now q ∙ go q (leaf_is q leaf) refl) (λ b q apart. each_at b q) in
          ((λ i. record { held = up.0 i; used = first_then leaf place is i; cap = cap }), up.1)
        where
          go : (q : Leaf) (b : Bool) → leaf_is q leaf ≡ b → cond b (fragment_in (Some place)) (at_rank r (finmap.get (held_of cs) q)) ≡ at_rank r (finmap.get (held_of cs) q)
          go q true one = same ∙ ap (λ (l : Leaf). here seen r l) (sym (one_leaf q leaf one))
          go q false one = refl

      -- the place has this fragment now
      pub frag_so : (f : Cached) → place ≡ held f → IsFreeFor seen r leaf → (cache_map then cap ≡ with_frag seen r leaf f) × AreAtOneRank cap then
      frag_so f has free =
          let up = has_frag leaf f fits_now (ap (λ (h : Held). h.cap) is) (λ q. mine_now q ∙ ap (λ (p : Place). cond (leaf_is q leaf) (fragment_in (Some p)) (at_rank r (finmap.get (held_of cs) q))) has) free in
          ((λ i. record { held = up.0 i; used = first_then leaf place is i; cap = cap }), up.1)

    -- a place has this fragment now, where it stands
    pub rewritten_so : (leaf : Leaf) (f : Cached) → now ≡ lru_cache (set_value (leaf_is leaf) was.entries (held f)) was.cap → is_some (lookup (leaf_is leaf) was.entries) ≡ true → IsFreeFor seen r leaf
        → (cache_map then cap ≡ rewritten seen r leaf f) × AreAtOneRank cap then
    rewritten_so leaf f is some free =
        let up = has_frag leaf f (subst IsCache (sym is) (set_valid leaf (held f) was (sound.valid r there))) (ap (λ (h : Held). h.cap) is)
        (λ q. ap (λ (h : Held). cached h.entries q) is ∙ cached_set leaf q (held f) was some ∙ ap (cond (leaf_is q leaf) (Some f)) (each_at r q)) free in
        ((λ i. record { held = up.0 i; used = same_order i; cap = cap }), up.1)
      where
        same_order : orders then ≡ orders cs
        same_order =
            orders_then (keys_of was.entries) (ap (λ (h : Held). keys_of h.entries) is ∙ keys-set_value (leaf_is leaf) was.entries (held f)) ∙ ap (set (orders cs) r) (sym order_is) ∙ set-get_or (orders cs) r []

    -- the place is given up
    pub given_up_so : (leaf : Leaf) → now ≡ without leaf was → (cache_map then cap ≡ given_up seen r leaf) × AreAtOneRank cap then
    given_up_so leaf is = let up = raised (removed (held_of cs) leaf (here seen r leaf)) (subst IsCache (sym is) (without_valid leaf was (sound.valid r there))) (ap (λ (h : Held). h.cap) is) (λ q. mine_now q ∙ mine q (here seen r leaf) refl) (λ b q apart. other b q apart (here seen r leaf) refl) in
        ((λ i. record { held = up.0 i; used = order_now i; cap = cap }), up.1)
      where
        order_now : orders then ≡ set (orders cs) r (less leaf (order seen r))
        order_now = orders_then (less leaf (order seen r)) (ap (λ (h : Held). keys_of h.entries) is ∙ keys_removed leaf was.entries ∙ ap (less leaf) (sym order_is))

        mine_now : (q : Leaf) → cached now.entries q ≡ cond (leaf_is q leaf) None (at_rank r (finmap.get (held_of cs) q))
        mine_now q = ap (λ (h : Held). cached h.entries q) is ∙ cached_without leaf q was (sound.valid r there).distinct ∙ ap (cond (leaf_is q leaf) None) (each_at r q)

        got : (q : Leaf) → finmap.get (finmap.remove (held_of cs) leaf) q ≡ cond (leaf_is q leaf) None (finmap.get (held_of cs) q)
        got q = get-remove leaf-total (held_of cs) leaf q ∙ ap (λ b. cond b None (finmap.get (held_of cs) q)) (tied_leaf q leaf)

        mine : (q : Leaf) (o : Option Cached) → here seen r leaf ≡ o → cond (leaf_is q leaf) None (at_rank r (finmap.get (held_of cs) q)) ≡ at_rank r (finmap.get (removed (held_of cs) leaf o) q)
        mine q (Some f) lies_by = go (leaf_is q leaf) ∙ sym (ap (at_rank r) (got q))
          where
            go : (b : Bool) → cond b None (at_rank r (finmap.get (held_of cs) q)) ≡ at_rank r (cond b None (finmap.get (held_of cs) q))
            go true = refl
            go false = refl
        mine q None lies_by = go (leaf_is q leaf) refl
          where
            go : (b : Bool) → leaf_is q leaf ≡ b → cond b None (at_rank r (finmap.get (held_of cs) q)) ≡ at_rank r (finmap.get (held_of cs) q)
            go true one = sym (ap (λ (l : Leaf). here seen r l) (one_leaf q leaf one) ∙ lies_by)
            go false one = refl

        other : (b : ℕ) (q : Leaf) → b ≢ r → (o : Option Cached) → here seen r leaf ≡ o → frag_at cs b q ≡ at_rank b (finmap.get (removed (held_of cs) leaf o) q)
        other b q apart None lies_by = each_at b q
        other b q apart (Some f) lies_by = each_at b q ∙ go (leaf_is q leaf) refl ∙ sym (ap (at_rank b) (got q))
          where
            go : (t : Bool) → leaf_is q leaf ≡ t → at_rank b (finmap.get (held_of cs) q) ≡ at_rank b (cond t None (finmap.get (held_of cs) q))
            go true one = ap (λ (l : Leaf). at_rank b (finmap.get (held_of cs) l)) (one_leaf q leaf one) ∙ at_other r b (finmap.get (held_of cs) leaf) (here_free r (finmap.get (held_of cs) leaf) (ap (λ (o : Option Cached). is_some o) lies_by)) apart
            go false one = refl

    -- a fragment is changed
    pub changed_so : (leaf : Leaf) (g : Cached → Cached) → is_some (here seen r leaf) ≡ true → now ≡ changed leaf g (cached was.entries leaf) was
        → (cache_map then cap ≡ edited seen r leaf g) × AreAtOneRank cap then
    changed_so leaf g some is = go (here seen r leaf) refl some
      where
        go : (o : Option Cached) → here seen r leaf ≡ o → is_some o ≡ true → (cache_map then cap ≡ edited_as seen r leaf g o) × AreAtOneRank cap then
        go None lies_by some = let clash : false ≡ true = some in absurd cc
        go (Some f) lies_by some =
            rewritten_so leaf (g f) (is ∙ ap (λ (o : Option Cached). changed leaf g o was) (each_at r leaf ∙ lies_by)) (cached_placed leaf was.entries (ap (λ (o : Option Cached). is_some o) (each_at r leaf ∙ lies_by))) (here_free r (finmap.get (held_of cs) leaf) (ap (λ (o : Option Cached). is_some o) lies_by))

-- ---- the least recently used that may go

last_keys : (p : Leaf × Place → Bool) (t : Leaf → Bool) (es : Places) → AllByRecursion (λ (e : Leaf × Place). t e.0 ≡ p e) es → last_by t (keys_of es) ≡ option_map (λ (e : Leaf × Place). e.0) (last_by p es)
last_keys p t [] all = refl
last_keys p t (e ∷ es) all =
    ap (λ (o : Option Leaf). or_this o (cond (t e.0) (Some e.0) None)) (last_keys p t es all.1) ∙ ap (λ b. or_this (option_map (λ (e : Leaf × Place). e.0) (last_by p es)) (cond b (Some e.0) None)) all.0 ∙ go (last_by p es) (p e)
  where
    go : (o : Option (Leaf × Place)) (b : Bool) → or_this (option_map (λ (e : Leaf × Place). e.0) o) (cond b (Some e.0) None) ≡ option_map (λ (e : Leaf × Place). e.0) (or_this o (cond b (Some e) None))
    go (Some x) b = refl
    go None true = refl
    go None false = refl

abbrev IsOwn : Places → Leaf × Place → Type 0
IsOwn es x = lookup (leaf_is x.0) es ≡ Some x.1

own : (es : Places) → IsDistinct leaf_is (keys_of es) → AllByRecursion (IsOwn es) es
own [] distinct = tt
own (e ∷ es) distinct =
    (ap (λ b. cond b (Some e.1) (lookup (leaf_is e.0) es)) (leaf_itself e.0), shift es (own es (IsDistinct-tail leaf_is e.0 (keys_of es) distinct)) (IsDistinct-head leaf_is e.0 (keys_of es) distinct))
  where
    shift : (xs : Places) → AllByRecursion (IsOwn es) xs → AllByRecursion (λ (y : Leaf). leaf_is e.0 y ≡ false) (keys_of xs) → AllByRecursion (IsOwn (e ∷ es)) xs
    shift [] mine apart = tt
    shift (x ∷ xs) mine apart = (ap (λ b. cond b (Some e.1) (lookup (leaf_is x.0) es)) (flips x.0 e.0 ∙ apart.0) ∙ mine.0, shift xs mine.1 apart.1)

all_so : {P Q : Leaf × Place → Type 0} → ((x : Leaf × Place) → P x → Q x) → (xs : Places) → AllByRecursion P xs → AllByRecursion Q xs
all_so so [] all = tt
all_so so (x ∷ xs) all = (so x all.0, all_so so xs all.1)

-- as many leaves pass a test as places
filter_keys : (p : Leaf × Place → Bool) (t : Leaf → Bool) (es : Places) → AllByRecursion (λ (e : Leaf × Place). t e.0 ≡ p e) es → length (filter t (keys_of es)) ≡ length (filter p es)
filter_keys p t [] all = refl
filter_keys p t (e ∷ es) all = ap (λ b. length (cond b (e.0 ∷ filter t (keys_of es)) (filter t (keys_of es)))) all.0 ∙ go (p e) (filter_keys p t es all.1)
  where
    go : (b : Bool) → length (filter t (keys_of es)) ≡ length (filter p es) → length (cond b (e.0 ∷ filter t (keys_of es)) (filter t (keys_of es))) ≡ length (cond b (e ∷ filter p es) (filter p es))
    go true rest = ap suc rest
    go false rest = rest

module _ (cs : List Held) (cap r : ℕ) (sound : AreAtOneRank cap cs) (there : r < length cs) (stay : Option Leaf) where
  distinct : IsDistinct leaf_is (keys_of (get_or cs r no_cache).entries)
  distinct = (sound.valid r there).distinct

  abbrev had : Held
  had = get_or cs r no_cache

  abbrev saw : CacheMap
  saw = cache_map cs cap

  goes_so : (x : Leaf × Place) → IsOwn had.entries x → goes saw r stay x.0 ≡ may_go stay x
  goes_so x is = ap (λ (o : Option Cached). clean_in o && not (is_to_stay stay x.0)) (sym (each_at cs cap r sound there r x.0) ∙ ap (λ (o : Option Place). fragment_in o) is) ∙ ap (λ b. b && not (is_to_stay stay x.0)) (go x.1.kept)
    where
      go : (k : Bool) → clean_in (cond k None (Some x.1.frag)) ≡ (not k && is_clean x.1.frag)
      go true = refl
      go false = refl

  victim_is : victim saw r stay ≡ option_map (λ (e : Leaf × Place). e.0) (last_by (may_go stay) had.entries)
  victim_is = ap (last_by (goes saw r stay)) (order_is cs cap r sound there) ∙ last_keys (may_go stay) (goes saw r stay) had.entries (all_so goes_so had.entries (own had.entries distinct))

  pub going_so : length (going_at saw r stay) ≡ length (filter (may_go stay) had.entries)
  going_so =
      ap (λ (xs : List Leaf). length (filter (goes saw r stay) xs)) (order_is cs cap r sound there)
      ∙ filter_keys (may_go stay) (goes saw r stay) had.entries (all_so goes_so had.entries (own had.entries distinct))

  pub evicted_so : (now : Held) → dropped stay had ≡ Some now → (evicted saw r stay ≡ Some (cache_map (set cs r now) cap)) × AreAtOneRank cap (set cs r now)
  evicted_so now is = go (last_by (may_go stay) had.entries) refl is
    where
      go : (o : Option (Leaf × Place)) → last_by (may_go stay) had.entries ≡ o → option_map (λ (e : Leaf × Place). without e.0 had) o ≡ Some now → (evicted saw r stay ≡ Some (cache_map (set cs r now) cap)) × AreAtOneRank cap (set cs r now)
      go None lies_by is = let clash : None ≡ Some now = is in absurd cc
      go (Some e) lies_by is =
          let one : without e.0 had ≡ now = cc in
          let up = given_up_so cs cap r sound there now e.0 (sym one) in
          (ap (option_map (given_up saw r)) (victim_is ∙ ap (option_map (λ (e : Leaf × Place). e.0)) lies_by) ∙ ap (λ (c : CacheMap). Some c) (sym up.0), up.1)

  pub none_evicted : dropped stay had ≡ None → evicted saw r stay ≡ None
  none_evicted is = go (last_by (may_go stay) had.entries) refl is
    where
      go : (o : Option (Leaf × Place)) → last_by (may_go stay) had.entries ≡ o → option_map (λ (e : Leaf × Place). without e.0 had) o ≡ None → evicted saw r stay ≡ None
      go None lies_by is = ap (option_map (given_up saw r)) (victim_is ∙ ap (option_map (λ (e : Leaf × Place). e.0)) lies_by)
      go (Some e) lies_by is = let clash : Some (without e.0 had) ≡ None = is in absurd cc

  full_so : nat_lt (length (order saw r)) cap ≡ nat_lt (length had.entries) had.cap
  full_so = ap (λ (n : ℕ). nat_lt n cap) (ap (λ (ks : List Leaf). length ks) (order_is cs cap r sound there) ∙ length-keys_of had.entries) ∙ ap (nat_lt (length had.entries)) (sym (sound.each r there))

  pub roomy_so : (now : Held) → room_made stay had ≡ Some now → (roomy saw r stay ≡ Some (cache_map (set cs r now) cap)) × AreAtOneRank cap (set cs r now)
  roomy_so now is = go (nat_lt (length had.entries) had.cap) refl is
    where
      go : (b : Bool) → nat_lt (length had.entries) had.cap ≡ b → cond b (Some had) (dropped stay had) ≡ Some now → (roomy saw r stay ≡ Some (cache_map (set cs r now) cap)) × AreAtOneRank cap (set cs r now)
      go true free is =
          let one : had ≡ now = cc in
          let same : set cs r now ≡ cs = ap (set cs r) (sym one) ∙ set-get_or cs r no_cache in
          (ap (λ b. cond b (Some saw) (evicted saw r stay)) (full_so ∙ free) ∙ ap (λ (xs : List Held). Some (cache_map xs cap)) (sym same), subst (AreAtOneRank cap) (sym same) sound)
      go false free is = let up = evicted_so now is in (ap (λ b. cond b (Some saw) (evicted saw r stay)) (full_so ∙ free) ∙ up.0, up.1)

  pub none_roomy : room_made stay had ≡ None → roomy saw r stay ≡ None
  none_roomy is = go (nat_lt (length had.entries) had.cap) refl is
    where
      go : (b : Bool) → nat_lt (length had.entries) had.cap ≡ b → cond b (Some had) (dropped stay had) ≡ None → roomy saw r stay ≡ None
      go true free is = let clash : Some had ≡ None = is in absurd cc
      go false free is = ap (λ b. cond b (Some saw) (evicted saw r stay)) (full_so ∙ free) ∙ none_evicted is
