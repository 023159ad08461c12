-- Where what isn't clean of a region lies, and what of it can be sent.
use Rattle.export_regions.proofs.Common.{AllByRecursion, AnyTooMany, AreAtTheirRank, AreCaches, At, Bool, CacheMap, Cached, HasCached, HasTooMany, HaveVersions, IsFree, Leaf, List, MaySend, MaySendAll, None, Option, Picks, Some, Unsaved, [], ap, arith, at_rank, cond, false, get_unclean, here, here_is, inl, inr, is_apart, is_clean, is_fresh, is_same, is_some, is_too_long, leaf_is, list_any, map, nat_lt, nat_tests, not, one_leaf, order, places_at, refl, same_Some, subst, sym, true, unclean, unclean_in, unsaved_at, ℕ, ◌&&◌, ◌<◌, ◌^◌, ◌||◌, ◌↔◌, ◌∙◌, ◌∷◌, ◌≡◌, ◌≤◌}
use Rattle.std.specs.FinMap as finmap
use Rattle.export_regions.proofs.PickLaws.{each_passes}

abbrev pub unsaved_so : Cached → Unsaved
unsaved_so f = record { base = f.base; generation = f.generation; dirty = f.dirty }

-- a fragment that isn't clean is unsaved as it stands
pub unsaved_here : (c : CacheMap) (r : ℕ) (leaf : Leaf) (f : Cached) → here c r leaf ≡ Some f → is_clean f ≡ false → finmap.get (unclean c) leaf ≡ Some (unsaved_so f)
unsaved_here c r leaf f seen dirty =
    get_unclean c leaf ∙ ap unsaved_at (here_is r (finmap.get c.held leaf) f seen) ∙ ap (λ (b : Bool). cond b None (Some (unsaved_so f))) dirty

-- what is unsaved is that of a fragment that isn't clean
record IsOfFrag (o : Option At) (u : Unsaved) : Type 0 where
  a : At
  held : o ≡ Some a
  dirty : is_clean a.frag ≡ false
  same : u ≡ unsaved_so a.frag

of_frag : (o : Option At) (u : Unsaved) → unsaved_at o ≡ Some u → IsOfFrag o u
of_frag None u is = let clash : None ≡ Some u = is in absurd cc
of_frag (Some a) u is = go (is_clean a.frag) refl is
  where
    go : (b : Bool) → is_clean a.frag ≡ b → cond b None (Some (unsaved_so a.frag)) ≡ Some u → IsOfFrag (Some a) u
    go true clean is = let clash : None ≡ Some u = is in absurd cc
    go false dirty is = record { a = a; held = refl; dirty = dirty; same = sym (same_Some (unsaved_so a.frag) u is) }

at_itself : (r : ℕ) (a : At) → IsFree r (Some a) → at_rank r (Some a) ≡ Some a.frag
at_itself r a free = ap (λ (b : Bool). cond b (Some a.frag) None) (is_same a.rank r free)

module _ (In : Leaf → Type 0) (c : CacheMap) (r : ℕ) (home : AreAtTheirRank In c r) where
  -- what is unsaved in the region is that of a fragment of the rank
  pub record IsHere (leaf : Leaf) (u : Unsaved) : Type 0 where
    pub frag : Cached
    pub seen : here c r leaf ≡ Some frag
    pub dirty : is_clean frag ≡ false
    pub same : u ≡ unsaved_so frag

  pub here_of : (leaf : Leaf) (u : Unsaved) → In leaf → finmap.get (unclean c) leaf ≡ Some u → IsHere leaf u
  here_of leaf u within is = go (of_frag (finmap.get c.held leaf) u (sym (get_unclean c leaf) ∙ is))
    where
      go : IsOfFrag (finmap.get c.held leaf) u → IsHere leaf u
      go i = record {
        frag = i.a.frag;
        seen = ap (at_rank r) i.held ∙ at_itself r i.a (subst (IsFree r) i.held (home leaf (ap (λ (o : Option Unsaved). is_some o) is) within));
        dirty = i.dirty;
        same = i.same;
      }

  -- ---- too many dirty names

  many : (n : ℕ) → not (nat_lt n (2 ^ 32)) ≡ true → 2 ^ 32 ≤ n
  many n long = grind (arith, nat_tests, long)

  long : (n : ℕ) → 2 ^ 32 ≤ n → not (nat_lt n (2 ^ 32)) ≡ true
  long n many = grind (arith, nat_tests, many)

  some_dirty : (f : Cached) → 2 ^ 32 ≤ finmap.len f.dirty → is_clean f ≡ false
  some_dirty f many = ap (λ (b : Bool). not (is_fresh f.base) && b) (is_apart (finmap.len f.dirty) 0 (λ (none : finmap.len f.dirty ≡ 0). omega (arith, many, none))) ∙ none (not (is_fresh f.base))
    where
      none : (b : Bool) → (b && false) ≡ false
      none true = refl
      none false = refl

  too_long : (leaf : Leaf) (o : Option Cached) → here c r leaf ≡ o → is_too_long o ≡ true → In leaf → HasTooMany In (unclean c)
  too_long leaf None seen is within = let clash : false ≡ true = is in absurd cc
  too_long leaf (Some f) seen is within = let so = many (finmap.len f.dirty) is in
      record { leaf = leaf; within = within; unsaved = unsaved_so f; beside = unsaved_here c r leaf f seen (some_dirty f so); many = so }

  any_has : (xs : List Leaf) → AnyTooMany In (map (λ (leaf : Leaf). (leaf, here c r leaf)) xs) → HasTooMany In (unclean c)
  any_has [] any = absurd any
  any_has (x ∷ xs) (inl (is, within)) = too_long x (here c r x) refl is within
  any_has (x ∷ xs) (inr any) = any_has xs any

  has_any : (leaf : Leaf) → is_too_long (here c r leaf) ≡ true → In leaf → (xs : List Leaf) → list_any (leaf_is leaf) xs ≡ true → AnyTooMany In (map (λ (leaf : Leaf). (leaf, here c r leaf)) xs)
  has_any leaf is within [] among = let clash : false ≡ true = among in absurd cc
  has_any leaf is within (x ∷ xs) among = go (λ so. has_any leaf is within xs so) (leaf_is leaf x) refl among
    where
      go : (list_any (leaf_is leaf) xs ≡ true → AnyTooMany In (map (λ (leaf : Leaf). (leaf, here c r leaf)) xs)) → (b : Bool) → leaf_is leaf x ≡ b → (b || list_any (leaf_is leaf) xs) ≡ true → AnyTooMany In (map (λ (leaf : Leaf). (leaf, here c r leaf)) (x ∷ xs))
      go behind true one among = inl (ap (λ (l : Leaf). is_too_long (here c r l)) (sym (one_leaf leaf x one)) ∙ is, subst In (one_leaf leaf x one) within)
      go behind false one among = inr (behind among)

  pub any_is : AreCaches c → AnyTooMany In (places_at c r) ↔ HasTooMany In (unclean c)
  any_is valid = (any_has (order c r), λ has. from has (here_of has.leaf has.unsaved has.within has.beside))
    where
      from : (has : HasTooMany In (unclean c)) → IsHere has.leaf has.unsaved → AnyTooMany In (places_at c r)
      from has h =
          let counted : 2 ^ 32 ≤ finmap.len h.frag.dirty = subst (λ (u : Unsaved). 2 ^ 32 ≤ finmap.len u.dirty) h.same has.many in
          has_any has.leaf (ap is_too_long h.seen ∙ long (finmap.len h.frag.dirty) counted) has.within (order c r) (valid.placed r has.leaf (ap (λ (o : Option Cached). is_some o) h.seen))

  -- ---- each that was picked may be sent

  one_may : HaveVersions (unclean c) → (HasTooMany In (unclean c) → ⊥) → (leaf : Leaf) (o : Option Cached) → here c r leaf ≡ o → unclean_in o ≡ true → In leaf → HasCached o MaySend
  one_may versions none leaf None seen is within = let clash : false ≡ true = is in absurd cc
  one_may versions none leaf (Some f) seen is within = record { unclean = dirty; few = few (nat_lt (finmap.len f.dirty) (2 ^ 32)) refl; version = versions leaf (unsaved_so f) (unsaved_here c r leaf f seen dirty) }
    where
      flip : (b : Bool) → not b ≡ true → b ≡ false
      flip false is = refl
      flip true is = let clash : false ≡ true = is in absurd cc

      dirty : is_clean f ≡ false
      dirty = flip (is_clean f) is

      few : (b : Bool) → nat_lt (finmap.len f.dirty) (2 ^ 32) ≡ b → finmap.len f.dirty < 2 ^ 32
      few true is = grind (arith, nat_tests, is)
      few false is = absurd (none (record { leaf = leaf; within = within; unsaved = unsaved_so f; beside = unsaved_here c r leaf f seen dirty; many = many (finmap.len f.dirty) (ap not is) }))

  pub picked_may : HaveVersions (unclean c) → (HasTooMany In (unclean c) → ⊥) → (leaves : List Leaf) → Picks In unclean_in (places_at c r) leaves → MaySendAll c r leaves
  picked_may versions none leaves picks = each leaves (each_passes In unclean_in c r (order c r) leaves picks)
    where
      each : (leaves : List Leaf) → AllByRecursion (λ (leaf : Leaf). (unclean_in (here c r leaf) ≡ true) × In leaf) leaves → MaySendAll c r leaves
      each [] all = tt
      each (leaf ∷ rest) all = (one_may versions none leaf (here c r leaf) refl all.0.0 all.0.1, each rest all.1)
