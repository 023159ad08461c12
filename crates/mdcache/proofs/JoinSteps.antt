-- What leaves leave in the fragment that joins their names.
use Rattle.mdcache.proofs.Common.{At, CacheMap, Cached, CanSplit, Core, Dirfrag, HasCached, HasJoined, IsFamilyAt, IsJoined, IsLive, IsSoundCore, IsThat, Leaf, List, Mark, MayHold, Names, None, NoneEnds, Option, ReadsCore, Some, State, TakesIn, [], ap, child_of, get-empty, here, inl, inr, is_known, key_cmp, leaf_of, leaves_of, made_frag, name_joined, names_of, shown_names, state_of, subst, sym, true, unclean, ℕ, ◌<◌, ◌^◌, ◌∙◌, ◌∷◌, ◌≡◌}
use Rattle.std.specs.FinMap as map
use Rattle.mdcache.proofs.CoreLaws.{may_fetch, may_fetch_on, of_names, reads_state}
use Rattle.mdcache.proofs.JoinLaws.{one_joined}
use Rattle.mdcache.proofs.NoNames.{none_unless}

-- what isn't live is cached nowhere
pub cached_nowhere : (c : Core) → IsSoundCore c → (q : Leaf) → (IsLive c.homes c.covers q → ⊥) → map.get c.caches.held q ≡ None
cached_nowhere c sound q dead = none_unless (map.get c.caches.held q) (λ a is. dead (sound.cached q a is).live)

-- the leaf of a split, and its children, are live where they are cached, as long as no child is
pub family_live : (c : Core) (a : Dirfrag) (nb : ℕ) → is_known c.homes a.dir.0 ≡ true → CanSplit (leaves_of c.covers a.dir.0) a.frag nb → (caches : CacheMap)
    → ((i : ℕ) → i < 2 ^ nb → map.get caches.held (a.dir, child_of a.frag i nb) ≡ None) → (r : ℕ) (q : Leaf) → IsFamilyAt a.rank.0 a.dir a.frag nb r q → (b : At) → map.get caches.held q ≡ Some b → IsLive c.homes c.covers q
family_live c a nb known can caches absent r q (inl it) b is = subst (IsLive c.homes c.covers) (sym it.1) (record { known = known; stands = can.stands })
family_live c a nb known can caches absent r q (inr child) b is = let clash : None ≡ Some b = sym (absent child.1 child.2) ∙ ap (map.get caches.held) (sym child.3) ∙ is in absurd cc

-- the names of a leaf that was fetched
pub join_told : (old mid view : Core) → view ≡ mid → (a : Dirfrag) → ReadsCore (IsThat a.rank.0 (leaf_of a)) NoneEnds old mid → IsSoundCore mid → (was now : Cached)
    → HasCached (here view.caches a.rank.0 (leaf_of a)) (λ (f : Cached). TakesIn was now (shown_names f) view.next_version) → HasJoined (names_of (unclean old.caches) old.objects) old.next_version (leaf_of a ∷ []) was now
join_told old mid view is a reads sound was now taken =
    one_joined (names_of (unclean old.caches) old.objects) old.next_version (leaf_of a) was now
    (subst (λ (s : State). TakesIn was now (names_of s.unsaved s.objects (leaf_of a)) s.next_version) (reads_state (IsThat a.rank.0 (leaf_of a)) NoneEnds old mid reads)
    (of_names mid sound (λ (names : Names). TakesIn was now names mid.next_version) a.rank.0 (leaf_of a)
    (subst (λ (k : Core). HasCached (here k.caches a.rank.0 (leaf_of a)) (λ (f : Cached). TakesIn was now (shown_names f) k.next_version)) is taken)))

-- a rank may hold a leaf still once others were read
pub hold_on : (Uses Ends : ℕ → Leaf → Type 0) (old new : Core) → ReadsCore Uses Ends old new → IsSoundCore old → (a : Dirfrag) → ((r : ℕ) → Uses r (leaf_of a) → r ≡ a.rank.0) → IsLive old.homes old.covers (leaf_of a) → MayHold old.caches a.rank (leaf_of a)
    → MayHold new.caches a.rank (leaf_of a)
hold_on Uses Ends old new reads sound a mine live holds = let m = may_fetch_on Uses Ends old new reads a mine (may_fetch old sound a holds live) in record { there = m.there; alone = m.free }

-- and it is live still
pub live_on : (Uses Ends : ℕ → Leaf → Type 0) (old new : Core) → ReadsCore Uses Ends old new → (q : Leaf) → IsLive old.homes old.covers q → IsLive new.homes new.covers q
live_on Uses Ends old new reads q live = subst (λ (s : State). IsLive s.homes s.covers q) (sym (reads_state Uses Ends old new reads)) live

-- a fragment that was made, and has taken the names of leaves in
pub joined_of : (Uses Ends : ℕ → Leaf → Type 0) (old new : Core) → ReadsCore Uses Ends old new → (leaves : List Leaf) (fresh joined : Cached) → fresh ≡ made_frag old.next_generation
    → HasJoined (names_of (unclean old.caches) old.objects) old.next_version leaves fresh joined → IsJoined new leaves joined
joined_of Uses Ends old new reads leaves fresh joined made has =
    let same : state_of new ≡ state_of old = reads_state Uses Ends old new reads in
    record {
      fresh = has.base ∙ ap (λ (f : Cached). f.base) made;
      numbered = has.generation ∙ ap (λ (f : Cached). f.generation) made ∙ ap (λ (s : State). s.next_generation) (sym same);
      dirty = λ name. subst (λ (s : State). map.get joined.dirty name ≡ name_joined (names_of s.unsaved s.objects) s.next_version leaves name None) (sym same)
          (has.dirty name ∙ ap (λ (o : Option Mark). name_joined (names_of (unclean old.caches) old.objects) old.next_version leaves name o) (ap (λ (f : Cached). map.get f.dirty name) made ∙ get-empty key_cmp name));
    }
