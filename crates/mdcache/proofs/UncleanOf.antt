-- What isn't clean of one rank, after reads and preparations; and where places lack.
use Rattle.mdcache.proofs.Common.{All-filter, All-from_recursion, AllByRecursion, AreCaches, At, Bool, CacheMap, Cached, CanNotKeep, IsDistinct, IsDistinct-cons, IsDistinct-head, IsDistinct-tail, IsThere, KeepsNone, Leaf, List, None, Objects, Option, Reads, Some, Unsaved, [], all_from, all_of, all_unclean, any_tied, ap, arith, at_rank, clean_in, cond, contains_key-keys, false, filter, filter_passes, get_tabulate, get_unclean, goes, going_at, here, inl, inr, is_clean, is_some, leaf-total, leaf_is, len-entries, length, loaded_clean, not, not-true, object_of, order, reads_held, reads_unclean, recursion_from_All, refl, room_unsaved, roomy, rules, same_map, staying, sym, true, unclean_at, unclean_in, unsaved_at, unsaved_in, ℕ, ◌&&◌, ◌+◌, ◌<◌, ◌==◌, ◌∙◌, ◌∷◌, ◌≡◌, ◌≤◌, ◌⊎◌}
use Rattle.std.proofs.lemmas.Map.Entries.{length-keys_of}
use Rattle.std.proofs.lemmas.Map.Made.{length-le_from_is_member}
use Rattle.std.specs.FinMap as finmap
use Rattle.dentry_cache.specs.CacheMap.{unclean_of}
use Rattle.dentry_cache.proofs.LeafLaws.{leaf-exact, leaf_equivalence}

pub get_unclean_of : (c : CacheMap) (r : ℕ) (q : Leaf) → finmap.get (unclean_of c r) q ≡ unsaved_in (here c r q)
unfolding unclean_of
get_unclean_of c r q =
    get_tabulate (λ (q : Leaf). unsaved_in (here c r q)) (finmap.keys c.held) q
    ∙ ap (λ (b : Bool). cond b (unsaved_in (here c r q)) None) (any_tied q (finmap.keys c.held) ∙ sym (contains_key-keys c.held q))
    ∙ elim (finmap.get c.held q) as (λ o. cond (is_some o) (unsaved_in (at_rank r o)) None ≡ unsaved_in (at_rank r o)) [ Some a ↦ refl | None ↦ refl ]

-- ---- reads leave it

-- what isn't clean nowhere isn't at a rank
clean_at : (s : ℕ) (o : Option At) → unsaved_at o ≡ None → unsaved_in (at_rank s o) ≡ None
clean_at s o clean = search rules

module _ (Uses Ends : ℕ → Leaf → Type 0) (objects : Objects) (old : CacheMap) where
  reads_beyond : (s : ℕ) (q : Leaf) (new : CacheMap) → Reads Uses Ends objects old new → unsaved_in (here new s q) ≡ unsaved_in (here old s q)
  reads_beyond s q new reads = elim (finmap.get new.held q) as (λ o. finmap.get new.held q ≡ o → unsaved_in (here new s q) ≡ unsaved_in (here old s q)) [
    | None ↦ λ is. both_clean (ap unsaved_at is)
    | Some a ↦ λ is. elim (reads_held Uses Ends objects old new reads q a is) [
      | inl was ↦ ap (λ (o : Option At). unsaved_in (at_rank s o)) is ∙ elim (a.rank == s) as (λ b. unsaved_in (cond b (Some a.frag) None) ≡ unsaved_in (cond b (Some was.0) None)) [ true ↦ room_unsaved was.0 a.frag was.2 | false ↦ refl ] ∙ sym (ap (λ (o : Option At). unsaved_in (at_rank s o)) was.1)
      | inr came ↦ both_clean (ap unsaved_at is ∙ room_unsaved came.1 a.frag came.3 ∙ loaded_clean q.1 (object_of objects q.0 q.1) came.1 came.2)
    ]
  ] refl
    where
      both_clean : unsaved_at (finmap.get new.held q) ≡ None → unsaved_in (here new s q) ≡ unsaved_in (here old s q)
      both_clean clean =
          clean_at s (finmap.get new.held q) clean
          ∙ sym (clean_at s (finmap.get old.held q) (sym (get_unclean old q) ∙ ap (λ m. finmap.get m q) (sym (reads_unclean Uses Ends objects old new reads)) ∙ get_unclean new q ∙ clean))

  pub reads_unclean_of : (new : CacheMap) → Reads Uses Ends objects old new → (r : ℕ) → unclean_of new r ≡ unclean_of old r
  reads_unclean_of new reads r = same_map leaf-total leaf-exact (unclean_of new r) (unclean_of old r) (λ q. get_unclean_of new r q ∙ reads_beyond r q new reads ∙ sym (get_unclean_of old r q))

-- ---- where places lack

-- those that pass a test are apart too
filtered_distinct : (p : Leaf → Bool) (xs : List Leaf) → IsDistinct leaf_is xs → IsDistinct leaf_is (filter p xs)
filtered_distinct p [] distinct = distinct
filtered_distinct p (x ∷ xs) distinct =
    let rest = filtered_distinct p xs (IsDistinct-tail leaf_is x xs distinct) in
    let Apart : Leaf → Type 0 = λ y. leaf_is x y ≡ false in
    let apart = recursion_from_All Apart (filter p xs) (All-filter p Apart xs (All-from_recursion Apart xs (IsDistinct-head leaf_is x xs distinct))) in
    elim (p x) as (λ b. IsDistinct leaf_is (cond b (x ∷ filter p xs) (filter p xs))) [ true ↦ IsDistinct-cons leaf_is x (filter p xs) apart rest | false ↦ rest ]

-- the places of fragments that aren't clean are no more than those fragments
pub unclean_few : (c : CacheMap) (r : ℕ) → IsDistinct leaf_is (order c r) → length (unclean_at c r) ≤ finmap.len (unclean_of c r)
unclean_few c r distinct =
    let few = length-le_from_is_member leaf_equivalence (unclean_at c r) (finmap.keys (unclean_of c r)) (filtered_distinct unclean (order c r) distinct) (λ q among.
    any_tied q (finmap.keys (unclean_of c r)) ∙ sym (contains_key-keys (unclean_of c r) q) ∙ ap is_some (get_unclean_of c r q)
    ∙ some (here c r q) (all_of (λ (x : Leaf). unclean x ≡ true) q (unclean_at c r) (recursion_from_All (λ (x : Leaf). unclean x ≡ true) (unclean_at c r) (filter_passes unclean (order c r))) among)) in
    let keys = length-keys_of (finmap.entries (unclean_of c r)) in
    let all = len-entries (unclean_of c r) in
    omega (arith, few, keys, all)
  where
    unclean : Leaf → Bool
    unclean leaf = unclean_in (here c r leaf)

    some : (o : Option Cached) → unclean_in o ≡ true → is_some (unsaved_in o) ≡ true
    some None is = let clash : false ≡ true = is in absurd cc
    some (Some f) is = ap (λ (b : Bool). is_some {T = Unsaved} (cond b None (Some (record { base = f.base; generation = f.generation; dirty = f.dirty })))) (not-true (is_clean f) is)

-- where no place of a rank is free and none can become so, and none is kept, they lack
pub full_lacks : (c : CacheMap) (r : ℕ) (stay : Option Leaf) → AreCaches c → KeepsNone c → roomy c r stay ≡ None → c.cap < finmap.len (unclean_of c r) + (1 + staying stay)
full_lacks c r stay valid none full =
    let lacks = all_unclean c r stay valid (none r) full in
    let few : length (unclean_at c r) ≤ finmap.len (unclean_of c r) = unclean_few c r (valid.distinct r) in
    omega (arith, lacks, few)

-- each passes one of two tests
two : (g t : Leaf → Bool) (xs : List Leaf) → AllByRecursion (λ (x : Leaf). (g x ≡ true) ⊎ (t x ≡ true)) xs → length xs ≤ length (filter g xs) + length (filter t xs)
two g t [] all = omega arith
two g t (x ∷ xs) all =
    let either = all.0 in
    let rest = two g t xs all.1 in
    grind (arith, either, rest)

-- where fewer places than so many are free or can become so, and none is kept, they lack
pub few_lack : (count : ℕ) (c : CacheMap) (r : ℕ) → AreCaches c → KeepsNone c → CanNotKeep count c r None → c.cap < finmap.len (unclean_of c r) + count
few_lack count c r valid none lacks =
    let all : length (order c r) ≤ length (going_at c r None) + length (unclean_at c r) =
    two (goes c r None) (λ (x : Leaf). unclean_in (here c r x)) (order c r) (all_from (λ (x : Leaf). (goes c r None x ≡ true) ⊎ (unclean_in (here c r x) ≡ true)) (order c r) (λ q among. on (here c r q) (none r q among))) in
    let few : length (unclean_at c r) ≤ finmap.len (unclean_of c r) = unclean_few c r (valid.distinct r) in
    omega (arith, lacks, all, few)
  where
    on : (o : Option Cached) → IsThere o → ((clean_in o && not false) ≡ true) ⊎ (unclean_in o ≡ true)
    on None h = absurd h
    on (Some f) h = elim (is_clean f) as (λ b. ((b && not false) ≡ true) ⊎ (not b ≡ true)) [ true ↦ inl refl | false ↦ inr refl ]
