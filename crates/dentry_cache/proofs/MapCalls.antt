-- What a call at one rank makes of the caches of all.
use Rattle.std.proofs.Common.{◌≡◌, ℕ, zero, suc, ◌<◌, ◌≤◌, ◌⊎◌, inl, inr, Bool, true, false, cond, ◌||◌, List, [], ◌∷◌, set, get_or, length, nat_lt, is_some, option_map, Option, Some, None, Result, Ok, Err, OnOk, OnErr, refl, sym, ap, subst, ◌∙◌, set-set, get_or-set_same, length-set, arith, filter, ◌+◌}
use Rattle.std.specs.List.{IsDistinct, list_any}
use Rattle.std.specs.Map.{keys_of, lookup, remove_entry, set_value}
use Rattle.lru.specs.LruCache.{lru_cache}
use Rattle.std.specs.Ordering.{eq_by_cmp}
use Rattle.std.specs.FinMap as finmap
use Rattle.std.specs.FinMap.{get-remove}
use Rattle.std.proofs.lemmas.List.{get_or_read_under, length-map, set-get_or}
use Rattle.std.proofs.lemmas.Map.Entries.{length-keys_of}
use Rattle.std.proofs.lemmas.Option.{same_Some}
use Rattle.sorted_map.proofs.NatKeys.{is_same}
use Rattle.mds_types.specs.declared.refusals.Refusal.{Refusal}
use Rattle.mds_types.specs.declared.refusals.Refusal.TheVariants.{NoMemory, StoreFault, NoInodes, Trimmed, NotAuthority, Frozen, Pinned, NoSuchFrag, BadSplit, TooManyFrags, StaleJob, JobOutstanding, WrongExportState, InboxEmpty, InboxFull, NothingToEvict, Damaged, NotClean}
use Rattle.objstore.specs.Omap.{Omap}
use Rattle.cached_frag.specs.Cached.{Cached}
use Rattle.dentry_cache.specs.declared.cache.Place.{Place}
use Rattle.dentry_cache.specs.Cache.{Evicts, HasRoom, Held, IsChanged, IsFull, IsThere, IsWritten, Leaf, MakesRoom, MayMakeRoom, NoneGoes, Places, TakesPlace, cached, fragment_in, held, is_kept, kept_place, leaf_cmp, leaf_is, may_go, used_as, without}
use Rattle.dentry_cache.specs.CacheMap.{AreAtOneRank, AreCaches, At, CacheMap, IsFree, IsFreeFor, at_rank, cache_map, edited, evicted, given_up, has_place, here, no_cache, order, orders, removed, rewritten, roomy, used_at, victim, with_frag}
use Rattle.dentry_cache.specs.Places.{IsCache}
use Rattle.dentry_cache.specs.CacheCalls.{CanKeep, CanNotKeep, Edits, FetchesAt, IsAbsent, IsEdited, IsRefusedAt, IsRewritten, HasNoKeptPlace, KeepsAt, MakesRoomAt, MayNotFetchAt, MayNotKeepAt, Rewrites, going_at}
use Rattle.dentry_cache.specs.Fetches.{IsFetched, IsNotFetched, IsRefusedIn, MayNotFetch}
use Rattle.dentry_cache.proofs.MapLaws.{cached_placed, changed_so, each_at, evicted_so, frag_so, get_held, given_up_so, going_so, here_free, none_evicted, none_roomy, order_is, rewritten_so, roomy_so, used_so}
use Rattle.dentry_cache.proofs.OneCache.{HasRoomFor, none_distinct, room_then, changed, changed_by, dropped, evicts_by, full_by, makes_room_by, none_by, room_made}
use Rattle.dentry_cache.proofs.StepLaws.{here_put}
use Rattle.dentry_cache.proofs.UsedLaws.{same_cap, still_absent}
use Rattle.dentry_cache.proofs.LeafLaws.{leaf-total}

not_removed : (leaf : Leaf) (places : Places) → lookup (leaf_is leaf) places ≡ None → remove_entry (leaf_is leaf) places ≡ places
not_removed leaf [] none = refl
not_removed leaf (e ∷ es) none = go (not_removed leaf es) (leaf_is leaf e.0) none
  where
    go : (lookup (leaf_is leaf) es ≡ None → remove_entry (leaf_is leaf) es ≡ es) → (b : Bool) → cond b (Some e.1) (lookup (leaf_is leaf) es) ≡ None → cond b es (e ∷ remove_entry (leaf_is leaf) es) ≡ e ∷ es
    go rest true h = let clash : Some e.1 ≡ None = h in cc
    go rest false h = ap (λ (xs : Places). e ∷ xs) (rest h)

-- a fragment that has room is there
pub has_there : (o : Option Cached) → HasRoom o → IsThere o
has_there (Some f) room = tt
has_there None room = absurd room

-- ---- a leaf's place, and the order of its rank

any_key : (q : Leaf) (es : Places) → list_any (leaf_is q) (keys_of es) ≡ is_some (lookup (leaf_is q) es)
any_key q [] = refl
any_key q (e ∷ es) = go (any_key q es) (leaf_is q e.0)
  where
    go : list_any (leaf_is q) (keys_of es) ≡ is_some (lookup (leaf_is q) es) → (b : Bool) → (b || list_any (leaf_is q) (keys_of es)) ≡ is_some (cond b (Some e.1) (lookup (leaf_is q) es))
    go rest true = refl
    go rest false = rest

no_place : (o : Option Place) → is_some o ≡ false → o ≡ None
no_place None is = refl
no_place (Some p) is = let clash : true ≡ false = is in absurd cc

-- a leaf that is free for a rank stays so where another goes
free_removed : (m : finmap.FinMap leaf_cmp At) (r : ℕ) (v leaf : Leaf) (o : Option Cached) → IsFree r (finmap.get m leaf) → IsFree r (finmap.get (removed m v o) leaf)
free_removed m r v leaf None free = free
free_removed m r v leaf (Some f) free = subst (IsFree r) (sym (get-remove leaf-total m v leaf)) (go (eq_by_cmp leaf_cmp leaf v))
  where
    go : (b : Bool) → IsFree r (cond b None (finmap.get m leaf))
    go true = tt
    go false = free

pub free_roomy : (c mid : CacheMap) (r : ℕ) (stay : Option Leaf) (leaf : Leaf) → roomy c r stay ≡ Some mid → IsFreeFor c r leaf → IsFreeFor mid r leaf
free_roomy c mid r stay leaf is free = go (nat_lt (length (order c r)) c.cap) (victim c r stay) is
  where
    go : (b : Bool) (v : Option Leaf) → cond b (Some c) (option_map (given_up c r) v) ≡ Some mid → IsFreeFor mid r leaf
    go true v is = subst (λ (k : CacheMap). IsFreeFor k r leaf) (same_Some c mid is) free
    go false None is = let clash : None ≡ Some mid = is in absurd cc
    go false (Some v) is = subst (λ (k : CacheMap). IsFreeFor k r leaf) (same_Some (given_up c r v) mid is) (free_removed c.held r v leaf (here c r v) free)

-- a leaf that is free for a rank which hasn't its fragment is at none
not_there : (r : ℕ) (o : Option At) → IsFree r o → at_rank r o ≡ None → o ≡ None
not_there r None free none = refl
not_there r (Some a) free none = let clash : None ≡ Some a.frag = sym none ∙ ap (λ b. cond b (Some a.frag) None) (is_same a.rank r free) in absurd cc

-- ---- all ranks

pub ranks_are : (cs : List Held) (cap : ℕ) (old : CacheMap) → cache_map cs cap ≡ old → length old.used ≡ length cs
ranks_are cs cap old view = ap (λ (o : CacheMap). length o.used) (sym view) ∙ length-map cs (λ (c : Held). keys_of c.entries)

nothing_past : (cs : List Held) (r : ℕ) → length cs ≤ r → get_or cs r no_cache ≡ no_cache
nothing_past [] r far = refl
nothing_past (c ∷ cs) zero far = absurd (omega (arith, far))
nothing_past (c ∷ cs) (suc r) far = nothing_past cs r (omega (arith, far))

pub below_or_past : (r n : ℕ) → (r < n) ⊎ (n ≤ r)
below_or_past r zero = inr (omega arith)
below_or_past zero (suc n) = inl (omega arith)
below_or_past (suc r) (suc n) = go (below_or_past r n)
  where
    go : (r < n) ⊎ (n ≤ r) → (suc r < suc n) ⊎ (suc n ≤ suc r)
    go (inl lt) = inl (omega (arith, lt))
    go (inr le) = inr (omega (arith, le))

pub all_caches : (cs : List Held) (cap : ℕ) (old : CacheMap) → cache_map cs cap ≡ old → AreAtOneRank cap cs → AreCaches old
all_caches cs cap old view sound = subst AreCaches view (record {
  placed = λ r leaf some. go r leaf (below_or_past r (length cs)) some;
  distinct = λ r. apart r (below_or_past r (length cs));
  few = λ r. some r (below_or_past r (length cs));
})
  where
    past : (r : ℕ) → length cs ≤ r → order (cache_map cs cap) r ≡ []
    past r far = none cs r far
      where
        none : (cs : List Held) (r : ℕ) → length cs ≤ r → get_or (orders cs) r [] ≡ []
        none [] r far = refl
        none (c ∷ cs) zero far = absurd (omega (arith, far))
        none (c ∷ cs) (suc r) far = none cs r (omega (arith, far))

    apart : (r : ℕ) → (r < length cs) ⊎ (length cs ≤ r) → IsDistinct leaf_is (order (cache_map cs cap) r)
    apart r (inl lt) = subst (IsDistinct leaf_is) (sym (order_is cs cap r sound lt)) (sound.valid r lt).distinct
    apart r (inr far) = subst (IsDistinct leaf_is) (sym (past r far)) none_distinct

    some : (r : ℕ) → (r < length cs) ⊎ (length cs ≤ r) → length (order (cache_map cs cap) r) ≤ cap
    some r (inl lt) =
        let size : (get_or cs r no_cache).cap ≡ cap = sound.each r lt in
        let fits = (sound.valid r lt).fits in
        let taken : length (order (cache_map cs cap) r) ≡ length (get_or cs r no_cache).entries = ap (λ (ks : List Leaf). length ks) (order_is cs cap r sound lt) ∙ length-keys_of (get_or cs r no_cache).entries in
        omega (arith, size, taken, fits)
    some r (inr far) = let none : length (order (cache_map cs cap) r) ≡ 0 = ap (λ (ks : List Leaf). length ks) (past r far) in omega (arith, none)

    go : (r : ℕ) (leaf : Leaf) → (r < length cs) ⊎ (length cs ≤ r) → is_some (here (cache_map cs cap) r leaf) ≡ true → has_place (cache_map cs cap) r leaf ≡ true
    go r leaf (inl lt) some =
        ap (list_any (leaf_is leaf)) (order_is cs cap r sound lt) ∙ any_key leaf (get_or cs r no_cache).entries
        ∙ cached_placed leaf (get_or cs r no_cache).entries (ap (λ (o : Option Cached). is_some o) (each_at cs cap r sound lt r leaf) ∙ some)
    go r leaf (inr far) some =
        let clash : false ≡ true = ap (λ (h : Held). is_some (cached h.entries leaf)) (sym (nothing_past cs r far)) ∙ ap (λ (o : Option Cached). is_some o) (sound.one r leaf ∙ ap (at_rank r) (sym (get_held cs leaf))) ∙ some in
        absurd cc

-- ---- a call at a rank

module _ (cs : List Held) (cap r : ℕ) (old : CacheMap) (view : cache_map cs cap ≡ old) (sound : AreAtOneRank cap cs) (lt : r < length old.used) where
  count : length old.used ≡ length cs
  count = ap (λ (o : CacheMap). length o.used) (sym view) ∙ length-map cs (λ (c : Held). keys_of c.entries)

  pub there : r < length cs
  there = subst (λ (n : ℕ). r < n) count lt

  module _ (x : Held) (value : x ≡ get_or cs r x) where
    x_is : x ≡ get_or cs r no_cache
    x_is = get_or_read_under cs r (length cs) x no_cache value there refl

    pub valid_at : IsCache x
    valid_at = subst IsCache (sym x_is) (sound.valid r there)

    pub cached_is : (leaf : Leaf) → cached x.entries leaf ≡ here old r leaf
    cached_is leaf = ap (λ (h : Held). cached h.entries leaf) x_is ∙ each_at cs cap r sound there r leaf ∙ ap (λ (o : CacheMap). here o r leaf) view

    pub there_too : (leaf : Leaf) (P : Option Cached → Type 0) → P (here old r leaf) → P (cached x.entries leaf)
    there_too leaf P is = subst P (sym (cached_is leaf)) is

    pub placed_is : (leaf : Leaf) → has_place old r leaf ≡ is_some (lookup (leaf_is leaf) x.entries)
    placed_is leaf =
        ap (λ (o : CacheMap). has_place o r leaf) (sym view) ∙ ap (list_any (leaf_is leaf)) (order_is cs cap r sound there)
        ∙ any_key leaf (get_or cs r no_cache).entries ∙ ap (λ (h : Held). is_some (lookup (leaf_is leaf) h.entries)) (sym x_is)

    pub keys_are : order old r ≡ keys_of x.entries
    keys_are = ap (λ (o : CacheMap). order o r) (sym view) ∙ order_is cs cap r sound there ∙ ap (λ (h : Held). keys_of h.entries) (sym x_is)

    pub taken_is : length (order old r) ≡ length x.entries
    taken_is = ap (λ (o : CacheMap). length (order o r)) (sym view) ∙ ap (λ (ks : List Leaf). length ks) (order_is cs cap r sound there) ∙ length-keys_of (get_or cs r no_cache).entries ∙ ap (λ (h : Held). length h.entries) (sym x_is)

    -- how many of its places are free or can become so
    pub cap_is : x.cap ≡ old.cap
    cap_is = ap (λ (h : Held). h.cap) x_is ∙ sound.each r there ∙ ap (λ (o : CacheMap). o.cap) view

    pub going_is : (stay : Option Leaf) → length (going_at old r stay) ≡ length (filter (may_go stay) x.entries)
    going_is stay =
        ap (λ (o : CacheMap). length (going_at o r stay)) (sym view) ∙ going_so cs cap r sound there stay
        ∙ ap (λ (h : Held). length (filter (may_go stay) h.entries)) (sym x_is)

    module _ (stay : Option Leaf) (places count : ℕ) (same : places ≡ count) where
      pub can_keep_is : length x.entries + places ≤ x.cap + length (filter (may_go stay) x.entries) → CanKeep count old r stay
      can_keep_is can = let cap = cap_is in let taken = taken_is in let going = going_is stay in omega (arith, can, cap, taken, going, same)

      pub can_not_keep_is : x.cap + length (filter (may_go stay) x.entries) < length x.entries + places → CanNotKeep count old r stay
      can_not_keep_is lacks = let cap = cap_is in let taken = taken_is in let going = going_is stay in omega (arith, lacks, cap, taken, going, same)

    pub no_place_is : (leaf : Leaf) → has_place old r leaf ≡ false → lookup (leaf_is leaf) x.entries ≡ None
    no_place_is leaf none = no_place (lookup (leaf_is leaf) x.entries) (sym (placed_is leaf) ∙ none)

    module _ (now : Held) where
      abbrev new : CacheMap
      new = cache_map (set cs r now) cap

      abbrev Now : Type 0
      Now = AreAtOneRank cap (set cs r now)

      used_now : (leaf : Leaf) (place : Place) → now ≡ used_as leaf place x → HasRoomFor leaf x → fragment_in (Some place) ≡ here old r leaf → (new ≡ used_at old r leaf) × Now
      used_now leaf place is room same =
          subst (λ (o : CacheMap). fragment_in (Some place) ≡ here o r leaf → (new ≡ used_at o r leaf) × Now) view (used_so cs cap r sound there now leaf place (is ∙ ap (used_as leaf place) x_is) (subst (HasRoomFor leaf) x_is room)) same

      pub frag_now : (leaf : Leaf) (f : Cached) → now ≡ used_as leaf (held f) x → HasRoomFor leaf x → IsFreeFor old r leaf → (new ≡ with_frag old r leaf f) × Now
      frag_now leaf f is room free =
          subst (λ (o : CacheMap). IsFreeFor o r leaf → (new ≡ with_frag o r leaf f) × Now) view (frag_so cs cap r sound there now leaf (held f) (is ∙ ap (used_as leaf (held f)) x_is) (subst (HasRoomFor leaf) x_is room) f refl) free

      pub rewritten_now : (leaf : Leaf) (f : Cached) → now ≡ lru_cache (set_value (leaf_is leaf) x.entries (held f)) x.cap → is_some (lookup (leaf_is leaf) x.entries) ≡ true → IsFreeFor old r leaf → (new ≡ rewritten old r leaf f) × Now
      rewritten_now leaf f is some free =
          subst (λ (o : CacheMap). IsFreeFor o r leaf → (new ≡ rewritten o r leaf f) × Now) view
          (rewritten_so cs cap r sound there now leaf f (is ∙ ap (λ (h : Held). lru_cache (set_value (leaf_is leaf) h.entries (held f)) h.cap) x_is) (subst (λ (h : Held). is_some (lookup (leaf_is leaf) h.entries) ≡ true) x_is some)) free

      pub given_up_now : (leaf : Leaf) → now ≡ without leaf x → (new ≡ given_up old r leaf) × Now
      given_up_now leaf is =
          subst (λ (o : CacheMap). (new ≡ given_up o r leaf) × Now) view (given_up_so cs cap r sound there now leaf (is ∙ ap (without leaf) x_is))

      -- what the rank has of a leaf then
      pub here_now : Now → (leaf : Leaf) → here new r leaf ≡ cached now.entries leaf
      here_now sound leaf =
          sym (each_at (set cs r now) cap r sound (subst (λ (n : ℕ). r < n) (sym (length-set cs r now)) there) r leaf)
          ∙ ap (λ (h : Held). cached h.entries leaf) (get_or-set_same cs r now no_cache there)

      has_room : (leaf : Leaf) → is_some (cached x.entries leaf) ≡ true → HasRoomFor leaf x
      has_room leaf some = inl (cached_placed leaf x.entries some)

      there_some : (leaf : Leaf) → IsThere (here old r leaf) → is_some (here old r leaf) ≡ true
      there_some leaf is = go (here old r leaf) is
        where
          go : (o : Option Cached) → IsThere o → is_some o ≡ true
          go (Some f) is = refl
          go None is = absurd is

      pub edits_now : (leaf : Leaf) (Change : Cached → Cached → Type 0) → IsChanged (cached x.entries leaf) Change leaf x now → Edits Change r leaf old new × Now
      edits_now leaf Change c = go (here old r leaf) refl (subst (λ (o : Option Cached). IsChanged o Change leaf x now) (cached_is leaf) c)
        where
          go : (o : Option Cached) → here old r leaf ≡ o → IsChanged o Change leaf x now → IsEdited Change r leaf o old new × Now
          go None seen c = absurd c
          go (Some f) seen c =
              let up = frag_now leaf c.0 c.2 (has_room leaf (ap (λ (o : Option Cached). is_some o) (cached_is leaf ∙ seen))) (here_free r (finmap.get old.held leaf) (ap (λ (o : Option Cached). is_some o) seen)) in
              ((c.0, c.1, up.0), up.1)

      pub rewrites_now : (leaf : Leaf) (Change : Cached → Cached → Type 0) → IsWritten (cached x.entries leaf) Change leaf x now → Rewrites Change r leaf old new × Now
      rewrites_now leaf Change c = go (here old r leaf) refl (subst (λ (o : Option Cached). IsWritten o Change leaf x now) (cached_is leaf) c)
        where
          go : (o : Option Cached) → here old r leaf ≡ o → IsWritten o Change leaf x now → IsRewritten Change r leaf o old new × Now
          go None seen c = absurd c
          go (Some f) seen c =
              let up = rewritten_now leaf c.0 c.2 (cached_placed leaf x.entries (ap (λ (o : Option Cached). is_some o) (cached_is leaf ∙ seen))) (here_free r (finmap.get old.held leaf) (ap (λ (o : Option Cached). is_some o) seen)) in
              ((c.0, c.1, up.0), up.1)

      pub changed_now : (leaf : Leaf) (g : Cached → Cached) → IsThere (here old r leaf) → IsWritten (cached x.entries leaf) (λ (f then : Cached). then ≡ g f) leaf x now → (new ≡ edited old r leaf g) × Now
      changed_now leaf g is c =
          subst (λ (o : CacheMap). is_some (here o r leaf) ≡ true → (new ≡ edited o r leaf g) × Now) view
          (λ some. changed_so cs cap r sound there now leaf g some (changed_by (cached x.entries leaf) g leaf x now c ∙ ap (λ (h : Held). changed leaf g (cached h.entries leaf) h) x_is)) (there_some leaf is)

      pub looked_now : (leaf : Leaf) → IsChanged (cached x.entries leaf) (λ (f then : Cached). then ≡ f) leaf x now → (new ≡ used_at old r leaf) × Now
      looked_now leaf c = go (cached x.entries leaf) refl c
        where
          go : (o : Option Cached) → cached x.entries leaf ≡ o → IsChanged o (λ (f then : Cached). then ≡ f) leaf x now → (new ≡ used_at old r leaf) × Now
          go None seen c = absurd c
          go (Some f) seen c = used_now leaf (held f) (c.2 ∙ ap (λ (then : Cached). used_as leaf (held then) x) c.1) (has_room leaf (ap (λ (o : Option Cached). is_some o) seen)) (sym seen ∙ cached_is leaf)

      pub edits_either : {A E : Type 0} (res : Result A E) (leaf : Leaf) (P Q : Cached → Cached → Type 0) → OnOk res (IsChanged (cached x.entries leaf) P leaf x now) → OnErr res (IsChanged (cached x.entries leaf) Q leaf x now) → Now
      edits_either (Ok a) leaf P Q ok err = (edits_now leaf P ok).1
      edits_either (Err e) leaf P Q ok err = (edits_now leaf Q err).1

      -- a place that is kept is there, and no fragment is in it
      pub kept_here : (leaf : Leaf) → has_place old r leaf ≡ true → finmap.get old.held leaf ≡ None → is_kept (lookup (leaf_is leaf) x.entries) ≡ true
      kept_here leaf placed none = go (lookup (leaf_is leaf) x.entries) (sym (placed_is leaf) ∙ placed) (cached_is leaf ∙ ap (at_rank r) none)
        where
          in_place : (k : Bool) (f : Cached) → cond k None (Some f) ≡ None → k ≡ true
          in_place true f is = refl
          in_place false f is = let clash : Some f ≡ None = is in absurd cc

          go : (o : Option Place) → is_some o ≡ true → fragment_in o ≡ None → is_kept o ≡ true
          go (Some p) some is = in_place p.kept p.frag is
          go None some is = let clash : false ≡ true = some in absurd cc

      pub filled_now : (leaf : Leaf) (f : Cached) → now ≡ used_as leaf (held f) x → has_place old r leaf ≡ true → finmap.get old.held leaf ≡ None → (new ≡ with_frag old r leaf f) × Now
      filled_now leaf f is placed none = frag_now leaf f is (inl (sym (placed_is leaf) ∙ placed)) (subst (IsFree r) (sym none) tt)

      -- nothing changed
      pub same_now : now ≡ x → (new ≡ old) × Now
      same_now is =
          let same : set cs r now ≡ cs = ap (set cs r) (is ∙ x_is) ∙ set-get_or cs r no_cache in
          (ap (λ (xs : List Held). cache_map xs cap) same ∙ view, subst (AreAtOneRank cap) (sym same) sound)

      module _ (stay : Option Leaf) where
        pub evicted_now : Evicts stay x now → (evicted old r stay ≡ Some new) × Now
        evicted_now is = subst (λ (o : CacheMap). (evicted o r stay ≡ Some new) × Now) view (evicted_so cs cap r sound there stay now (ap (dropped stay) (sym x_is) ∙ evicts_by stay x now valid_at.distinct is))

        pub none_now : NoneGoes stay x.entries → evicted old r stay ≡ None
        none_now is = subst (λ (o : CacheMap). evicted o r stay ≡ None) view (none_evicted cs cap r sound there stay (ap (dropped stay) (sym x_is) ∙ ap (option_map (λ (e : Leaf × Place). without e.0 x)) (none_by stay x.entries is)))

        pub evicted_sound : {A E : Type 0} (res : Result A E) → OnOk res (Evicts stay x now) → OnErr res (now ≡ x) → Now
        evicted_sound (Ok a) ok err = (evicted_now ok).1
        evicted_sound (Err e) ok err = (same_now err).1

        pub roomy_now : MakesRoom stay x now → (roomy old r stay ≡ Some new) × Now
        roomy_now is = subst (λ (o : CacheMap). (roomy o r stay ≡ Some new) × Now) view (roomy_so cs cap r sound there stay now (ap (room_made stay) (sym x_is) ∙ makes_room_by stay x now valid_at.distinct is))

        pub full_now : IsFull stay x → roomy old r stay ≡ None
        full_now is = subst (λ (o : CacheMap). roomy o r stay ≡ None) view (none_roomy cs cap r sound there stay (ap (room_made stay) (sym x_is) ∙ full_by stay x is))

        pub refused_now : (reason : Refusal) → IsRefusedIn stay x now reason → IsRefusedAt r stay old new reason
        refused_now reason (inl none) = inl (none.0, (same_now none.1).0)
        refused_now reason (inr after) = inr (after.0, (roomy_now after.1).0)

        pub may_room : MayMakeRoom stay x now → MakesRoomAt r stay old new × Now
        may_room (inl is) = let same = same_now is in (inl same.0, same.1)
        may_room (inr made) = let room = roomy_now made in (inr room.0, room.1)

-- ---- a place that is taken, after another went

module _ (cs : List Held) (cap r : ℕ) (old : CacheMap) (view : cache_map cs cap ≡ old) (sound : AreAtOneRank cap cs) (lt : r < length old.used) (x : Held) (value : x ≡ get_or cs r x) (now mid : Held)
    (stay : Option Leaf) (room : MakesRoom stay x mid) where
  lt_cs : r < length cs
  lt_cs = there cs cap r old view sound lt

  abbrev between : List Held
  between = set cs r mid

  up : (roomy old r stay ≡ Some (cache_map between cap)) × AreAtOneRank cap between
  up = roomy_now cs cap r old view sound lt x value mid stay room

  lt_between : r < length between
  lt_between = subst (λ (n : ℕ). r < n) (sym (length-set cs r mid)) lt_cs

  mid_at : get_or between r no_cache ≡ mid
  mid_at = get_or-set_same cs r mid no_cache lt_cs

  again : set between r now ≡ set cs r now
  again = set-set cs r mid now

  then_frag : (leaf : Leaf) (f : Cached) → IsFreeFor old r leaf → now ≡ used_as leaf (held f) mid → (cache_map (set cs r now) cap ≡ with_frag (cache_map between cap) r leaf f) × AreAtOneRank cap (set cs r now)
  then_frag leaf f free is =
      subst (λ (xs : List Held). (cache_map xs cap ≡ with_frag (cache_map between cap) r leaf f) × AreAtOneRank cap xs) again
      (frag_so between cap r up.1 lt_between now leaf (held f) (is ∙ ap (used_as leaf (held f)) (sym mid_at)) (subst (HasRoomFor leaf) (sym mid_at) (inr (room_then stay x mid room (valid_at cs cap r old view sound lt x value).fits))) f refl (free_roomy old (cache_map between cap) r stay leaf up.0 free))

  then_kept : (leaf : Leaf) → lookup (leaf_is leaf) x.entries ≡ None → now ≡ used_as leaf kept_place mid → (cache_map (set cs r now) cap ≡ used_at (cache_map between cap) r leaf) × AreAtOneRank cap (set cs r now)
  then_kept leaf none is =
      subst (λ (xs : List Held). (cache_map xs cap ≡ used_at (cache_map between cap) r leaf) × AreAtOneRank cap xs) again
      (used_so between cap r up.1 lt_between now leaf kept_place (is ∙ ap (used_as leaf kept_place) (sym mid_at)) (subst (HasRoomFor leaf) (sym mid_at) (inr (room_then stay x mid room (valid_at cs cap r old view sound lt x value).fits)))
      (sym (sym (each_at between cap r up.1 lt_between r leaf) ∙ ap (λ (h : Held). cached h.entries leaf) mid_at ∙ ap (λ (o : Option Place). fragment_in o) (still_absent stay x mid leaf room none))))

  taken_as : (leaf : Leaf) (place : Place) → lookup (leaf_is leaf) x.entries ≡ None → now ≡ lru_cache ((leaf, place) ∷ mid.entries) x.cap → now ≡ used_as leaf place mid
  taken_as leaf place none is =
      is ∙ ap (λ (es : Places). lru_cache ((leaf, place) ∷ es) x.cap) (sym (not_removed leaf mid.entries (still_absent stay x mid leaf room none)))
      ∙ ap (λ (n : ℕ). lru_cache ((leaf, place) ∷ remove_entry (leaf_is leaf) mid.entries) n) (sym (same_cap stay x mid room))

module _ (cs : List Held) (cap r : ℕ) (old : CacheMap) (view : cache_map cs cap ≡ old) (sound : AreAtOneRank cap cs) (lt : r < length old.used) (x : Held) (value : x ≡ get_or cs r x) (now : Held)
    (stay : Option Leaf) (leaf : Leaf) where
  abbrev after : CacheMap
  after = cache_map (set cs r now) cap

  abbrev After : Type 0
  After = AreAtOneRank cap (set cs r now)

  pub kept_now : lookup (leaf_is leaf) x.entries ≡ None → TakesPlace stay leaf kept_place x now → KeepsAt r leaf stay old after × After
  kept_now none t =
      let room = roomy_now cs cap r old view sound lt x value t.0 stay t.1 in
      let done = then_kept cs cap r old view sound lt x value now t.0 stay t.1 leaf none (taken_as cs cap r old view sound lt x value now t.0 stay t.1 leaf kept_place none t.2) in
      ((cache_map (set cs r t.0) cap, room.0, done.0), done.1)

  pub keep_sound : {A : Type 0} (res : Result A Refusal) → lookup (leaf_is leaf) x.entries ≡ None → OnOk res (TakesPlace stay leaf kept_place x now) → OnErr res (MayMakeRoom stay x now) → After
  keep_sound (Ok a) none ok err = (kept_now none ok).1
  keep_sound (Err e) none ok err = (may_room cs cap r old view sound lt x value now stay err).1

  pub keep_refused : (refusal : Refusal) → (refusal ≡ NoMemory) ⊎ ((refusal ≡ NothingToEvict) × IsFull stay x) → MayNotKeepAt r stay old refusal
  keep_refused refusal (inl memory) = inl memory
  keep_refused refusal (inr (is, full)) = inr (is, full_now cs cap r old view sound lt x value now stay full)

  module _ (object : Option Omap) (free : IsFreeFor old r leaf) where
    fetched_as : (o : Option Place) → lookup (leaf_is leaf) x.entries ≡ o → IsFetched stay x leaf object o now → FetchesAt r leaf stay object (is_some o) old after × After
    fetched_as (Some place) seen is = used_now cs cap r old view sound lt x value now leaf place is (inl (ap (λ (o : Option Place). is_some o) seen)) (ap (λ (o : Option Place). fragment_in o) (sym seen) ∙ cached_is cs cap r old view sound lt x value leaf)
    fetched_as None seen (f, loads, t) =
        let none = not_there r (finmap.get old.held leaf) free (sym (cached_is cs cap r old view sound lt x value leaf) ∙ ap (λ (o : Option Place). fragment_in o) seen) in
        let room = roomy_now cs cap r old view sound lt x value t.0 stay t.1 in
        let done = then_frag cs cap r old view sound lt x value now t.0 stay t.1 leaf f free (taken_as cs cap r old view sound lt x value now t.0 stay t.1 leaf (held f) seen t.2) in
        ((none, f, loads, cache_map (set cs r t.0) cap, room.0, done.0), done.1)

    pub fetched_now : IsFetched stay x leaf object (lookup (leaf_is leaf) x.entries) now → FetchesAt r leaf stay object (has_place old r leaf) old after × After
    fetched_now is =
        subst (λ (b : Bool). FetchesAt r leaf stay object b old after × After) (sym (placed_is cs cap r old view sound lt x value leaf)) (fetched_as (lookup (leaf_is leaf) x.entries) refl is)

    not_fetched : (o : Option Place) → lookup (leaf_is leaf) x.entries ≡ o → IsNotFetched stay x o now → IsAbsent old r leaf × MakesRoomAt r stay old after × After
    not_fetched (Some place) seen is = absurd is
    not_fetched None seen is =
        let room = may_room cs cap r old view sound lt x value now stay is in (
          (
            placed_is cs cap r old view sound lt x value leaf ∙ ap (λ (o : Option Place). is_some o) seen,
            not_there r (finmap.get old.held leaf) free (sym (cached_is cs cap r old view sound lt x value leaf) ∙ ap (λ (o : Option Place). fragment_in o) seen),
          ),
          room.0,
          room.1,
        )

    pub unfetched_now : IsNotFetched stay x (lookup (leaf_is leaf) x.entries) now → IsAbsent old r leaf × MakesRoomAt r stay old after × After
    unfetched_now is = not_fetched (lookup (leaf_is leaf) x.entries) refl is

    pub fetch_sound : {A : Type 0} (res : Result A Refusal) → OnOk res (IsFetched stay x leaf object (lookup (leaf_is leaf) x.entries) now) → OnErr res (IsNotFetched stay x (lookup (leaf_is leaf) x.entries) now) → After
    fetch_sound (Ok a) ok err = (fetched_now ok).1
    fetch_sound (Err e) ok err = (unfetched_now err).2

    pub fetch_refused : (before then : ℕ) (refusal : Refusal) → MayNotFetch stay x leaf object before then refusal → MayNotFetchAt r leaf stay object old refusal
    fetch_refused before then NoMemory why = inl refl
    fetch_refused before then StoreFault why = inr (inl refl)
    fetch_refused before then (Damaged name) why = inr (inr (inl (ap Damaged why.0, why.1)))
    fetch_refused before then NothingToEvict why = inr (inr (inr (refl, full_now cs cap r old view sound lt x value now stay why)))
    fetch_refused before then NoInodes why = absurd why
    fetch_refused before then Trimmed why = absurd why
    fetch_refused before then NotAuthority why = absurd why
    fetch_refused before then Frozen why = absurd why
    fetch_refused before then Pinned why = absurd why
    fetch_refused before then NoSuchFrag why = absurd why
    fetch_refused before then BadSplit why = absurd why
    fetch_refused before then TooManyFrags why = absurd why
    fetch_refused before then StaleJob why = absurd why
    fetch_refused before then JobOutstanding why = absurd why
    fetch_refused before then WrongExportState why = absurd why
    fetch_refused before then InboxEmpty why = absurd why
    fetch_refused before then InboxFull why = absurd why
    fetch_refused before then NotClean why = absurd why

-- a leaf that is fetched is there, if no place was kept for it
pub fetched_there : (r : ℕ) (leaf : Leaf) (stay : Option Leaf) (object : Option Omap) (old now : CacheMap) → HasNoKeptPlace old r leaf → (b : Bool) → has_place old r leaf ≡ b → FetchesAt r leaf stay object b old now → IsThere (here now r leaf)
fetched_there r leaf stay object old now whole true seen is = subst (λ (c : CacheMap). IsThere (here c r leaf)) (sym is) (whole seen)
fetched_there r leaf stay object old now whole false seen f = subst IsThere (sym (ap (λ (c : CacheMap). here c r leaf) f.5 ∙ here_put f.3 r leaf f.1)) tt
