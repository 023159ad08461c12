-- Places that a rank keeps for several leaves, one after the other.
use Rattle.std.proofs.Common.{◌≡◌, ℕ, zero, suc, ◌-◌, ◌<◌, ◌≤◌, Bool, true, false, cond, ◌&&◌, ◌||◌, inl, inr, List, [], ◌∷◌, drop, get_or, length, option_map, Option, Some, None, refl, sym, ap, subst, ◌∙◌, arith, drop-cons}
use Rattle.std.specs.Prelude.{◌==◌}
use Rattle.std.specs.List.{AllByRecursion, IsDistinct, list_any}
use Rattle.std.specs.FinMap as finmap
use Rattle.std.proofs.lemmas.List.{drop_all}
use Rattle.std.proofs.lemmas.Map.Keys.{IsDistinct-head, IsDistinct-tail}
use Rattle.std.proofs.lemmas.Option.{same_Some}
use Rattle.sorted_map.proofs.NatKeys.{is_same}
use Rattle.cached_frag.specs.Cached.{Cached}
use Rattle.dentry_cache.specs.Cache.{Leaf, leaf_is}
use Rattle.dentry_cache.specs.CacheCalls.{CanKeep, KeepsAt, MakesRoomAt}
use Rattle.dentry_cache.specs.CacheMap.{At, CacheMap, at_rank, clean_in, goes, has_place, here, order, roomy, unclean, used_at}
use Rattle.dentry_cache.specs.Handing.{and_kept, kept_all, without_all}
use Rattle.dentry_cache.proofs.KeptLaws.{first_distinct, order_given_up, order_used, roomy_distinct}
use Rattle.dentry_cache.proofs.LeafLaws.{leaf_itself, one_leaf}
use Rattle.dentry_cache.proofs.RoomLaws.{CanKeepOn, first_can, kept_left, room_left}
use Rattle.dentry_cache.proofs.StepLaws.{by_room, any_less, get_beside, has_used, held_roomy, placed_roomy, ranks_given_up, ranks_roomy, ranks_used}
use Rattle.dentry_cache.proofs.UncleanLaws.{unclean_alike, unclean_roomy}

-- ---- lists of leaves

-- the leaf at an index, and those behind it
module _ (leaves : List Leaf) (i : ℕ) (leaf : Leaf) (some : 0 < i) (few : i ≤ length leaves) (is : leaf ≡ get_or leaves (i - 1) leaf) where
  pub this_drop : drop (i - 1) leaves ≡ leaf ∷ drop i leaves
  this_drop =
      let back : suc (i - 1) ≡ i = omega (arith, some) in
      drop-cons leaves (i - 1) leaf (omega (arith, some, few)) ∙ ap (λ (k : ℕ). get_or leaves (i - 1) leaf ∷ drop k leaves) back ∙ ap (λ (l : Leaf). l ∷ drop i leaves) (sym is)

  pub this_of : (P : Leaf → Type 0) → AllByRecursion P leaves → P leaf
  this_of P all = (subst (AllByRecursion P) this_drop (dropped P (i - 1) leaves all)).0
    where
      dropped : (P : Leaf → Type 0) (n : ℕ) (xs : List Leaf) → AllByRecursion P xs → AllByRecursion P (drop n xs)
      dropped P zero xs all = all
      dropped P (suc n) [] all = tt
      dropped P (suc n) (x ∷ xs) all = dropped P n xs all.1

  pub this_apart : IsDistinct leaf_is leaves → AllByRecursion (λ (x : Leaf). leaf_is leaf x ≡ false) (drop i leaves)
  this_apart distinct = IsDistinct-head leaf_is leaf (drop i leaves) (subst (IsDistinct leaf_is) this_drop (dropped (i - 1) leaves distinct))
    where
      dropped : (n : ℕ) (xs : List Leaf) → IsDistinct leaf_is xs → IsDistinct leaf_is (drop n xs)
      dropped zero xs distinct = distinct
      dropped (suc n) [] distinct = distinct
      dropped (suc n) (x ∷ xs) distinct = dropped n xs (IsDistinct-tail leaf_is x xs distinct)

pub all_dropped : (leaves : List Leaf) → drop (length leaves) leaves ≡ []
all_dropped leaves = drop_all (length leaves) leaves (omega arith)

pub all_of : (P : Leaf → Type 0) (q : Leaf) (xs : List Leaf) → AllByRecursion P xs → list_any (leaf_is q) xs ≡ true → P q
all_of P q [] all is = let clash : false ≡ true = is in absurd cc
all_of P q (x ∷ xs) all is = go (λ among. all_of P q xs all.1 among) (leaf_is q x) refl is
  where
    go : (list_any (leaf_is q) xs ≡ true → P q) → (b : Bool) → leaf_is q x ≡ b → (b || list_any (leaf_is q) xs) ≡ true → P q
    go behind true one is = subst P (sym (one_leaf q x one)) all.0
    go behind false one is = behind is

pub all_from : (P : Leaf → Type 0) (xs : List Leaf) → ((q : Leaf) → list_any (leaf_is q) xs ≡ true → P q) → AllByRecursion P xs
all_from P [] each = tt
all_from P (x ∷ xs) each = (each x (ap (λ (b : Bool). b || list_any (leaf_is x) xs) (leaf_itself x)), all_from P xs (λ q is. each q (later (leaf_is q x) is)))
  where
    later : {c : Bool} (b : Bool) → c ≡ true → (b || c) ≡ true
    later true is = refl
    later false is = is

-- ---- one place more

pub one_kept : (r : ℕ) (leaf : Leaf) (old new : CacheMap) → KeepsAt r leaf None old new → and_kept (Some old) r leaf ≡ Some new
one_kept r leaf old new k = ap (option_map (λ (mid : CacheMap). used_at mid r leaf)) k.1 ∙ ap Some (sym k.2)

-- the caches before it, and those with the place free
pub record IsOneMore (c : CacheMap) (r : ℕ) (leaf : Leaf) (leaves : List Leaf) (new : CacheMap) : Type 0 where
  pub before : CacheMap
  pub mid : CacheMap
  pub kept : kept_all c r leaves ≡ Some before
  pub room : roomy before r None ≡ Some mid
  pub used : new ≡ used_at mid r leaf

pub one_more : (c : CacheMap) (r : ℕ) (leaf : Leaf) (leaves : List Leaf) (new : CacheMap) → kept_all c r (leaf ∷ leaves) ≡ Some new → IsOneMore c r leaf leaves new
one_more c r leaf leaves new is = go (kept_all c r leaves) refl is
  where
    then : (before : CacheMap) → kept_all c r leaves ≡ Some before → (o : Option CacheMap) → roomy before r None ≡ o → option_map (λ (mid : CacheMap). used_at mid r leaf) o ≡ Some new → IsOneMore c r leaf leaves new
    then before kept None room is = let clash : None ≡ Some new = is in absurd cc
    then before kept (Some mid) room is = record { before = before; mid = mid; kept = kept; room = room; used = sym (same_Some (used_at mid r leaf) new is) }

    go : (o : Option CacheMap) → kept_all c r leaves ≡ o → and_kept o r leaf ≡ Some new → IsOneMore c r leaf leaves new
    go None kept is = let clash : None ≡ Some new = is in absurd cc
    go (Some before) kept is = then before kept (roomy before r None) refl is

-- a leaf that a rank hasn't is where it was, where a place of the rank became free
pub room_held : (r : ℕ) (q : Leaf) (before mid : CacheMap) → roomy before r None ≡ Some mid → here before r q ≡ None → finmap.get mid.held q ≡ finmap.get before.held q
room_held r q before mid made none = by_room before mid r None made (λ (k : CacheMap). finmap.get k.held q ≡ finmap.get before.held q) refl (λ v passes. get_beside before r v q (apart v passes (leaf_is q v) refl))
  where
    apart : (v : Leaf) → goes before r None v ≡ true → (b : Bool) → leaf_is q v ≡ b → b ≡ false
    apart v passes false one = refl
    apart v passes true one = let clash : false ≡ true = ap (λ (o : Option Cached). clean_in o && true) (sym (sym (ap (here before r) (one_leaf q v one)) ∙ none)) ∙ passes in absurd cc

module _ (c : CacheMap) (r : ℕ) where
  -- how a statement of the caches before and after is proved
  pub by_keeping : (Q : Leaf → Type 0) (P : CacheMap → Type 0) → P c → ((before mid : CacheMap) → roomy before r None ≡ Some mid → P before → P mid) → ((mid : CacheMap) (leaf : Leaf) → Q leaf → P mid → P (used_at mid r leaf))
      → (leaves : List Leaf) → AllByRecursion Q leaves → (new : CacheMap) → kept_all c r leaves ≡ Some new → P new
  by_keeping Q P first room useit [] all new is = subst P (same_Some c new is) first
  by_keeping Q P first room useit (leaf ∷ leaves) all new is =
      let m = one_more c r leaf leaves new is in
      subst P (sym m.used) (useit m.mid leaf all.0 (room m.before m.mid m.room (by_keeping Q P first room useit leaves all.1 m.before m.kept)))

  any_leaves : (leaves : List Leaf) → AllByRecursion (λ (leaf : Leaf). Unit {0}) leaves
  any_leaves [] = tt
  any_leaves (leaf ∷ leaves) = (tt, any_leaves leaves)

  module _ (leaves : List Leaf) (new : CacheMap) (kept : kept_all c r leaves ≡ Some new) where
    pub kept_ranks : length new.used ≡ length c.used
    kept_ranks = by_keeping (λ (leaf : Leaf). Unit {0}) (λ (k : CacheMap). length k.used ≡ length c.used) refl (λ before mid made so. ranks_roomy before mid r None made ∙ so) (λ mid leaf any so. ranks_used mid r leaf ∙ so) leaves (any_leaves leaves) new kept

    -- what isn't clean is as it was
    pub kept_unclean : unclean new ≡ unclean c
    kept_unclean = by_keeping (λ (leaf : Leaf). Unit {0}) (λ (k : CacheMap). unclean k ≡ unclean c) refl (λ before mid made so. unclean_roomy before mid r None made ∙ so) (λ mid leaf any so. unclean_alike (used_at mid r leaf) mid (λ q. refl) ∙ so) leaves (any_leaves leaves) new kept

    -- a leaf that the rank hasn't is where it was, as it was
    pub kept_held : (q : Leaf) → here c r q ≡ None → finmap.get new.held q ≡ finmap.get c.held q
    kept_held q none = by_keeping (λ (leaf : Leaf). Unit {0}) (λ (k : CacheMap). finmap.get k.held q ≡ finmap.get c.held q) refl (λ before mid made so. room_held r q before mid made (ap (at_rank r) so ∙ none) ∙ so) (λ mid leaf any so. so) leaves (any_leaves leaves) new kept

    -- each fragment was there before
    pub kept_from : (q : Leaf) (a : At) → finmap.get new.held q ≡ Some a → finmap.get c.held q ≡ Some a
    kept_from q a =
        by_keeping (λ (leaf : Leaf). Unit {0}) (λ (k : CacheMap). finmap.get k.held q ≡ Some a → finmap.get c.held q ≡ Some a) (λ is. is) (λ before mid made so is. so (held_roomy before mid r None q a made is)) (λ mid leaf any so is. so is) leaves (any_leaves leaves) new kept

  module _ (there : r < length c.used) where
    -- its order has no leaf twice
    pub kept_distinct : IsDistinct leaf_is (order c r) → (leaves : List Leaf) (new : CacheMap) → kept_all c r leaves ≡ Some new → (r < length new.used) × IsDistinct leaf_is (order new r)
    kept_distinct distinct leaves new kept = by_keeping (λ (leaf : Leaf). Unit {0}) (λ (k : CacheMap). (r < length k.used) × IsDistinct leaf_is (order k r)) (there, distinct)
        (λ before mid made so. (subst (λ (n : ℕ). r < n) (sym (ranks_roomy before mid r None made)) so.0, roomy_distinct before mid r None so.0 made so.1))
        (λ mid leaf any so. (subst (λ (n : ℕ). r < n) (sym (ranks_used mid r leaf)) so.0, subst (IsDistinct leaf_is) (sym (order_used mid r so.0 leaf)) (first_distinct leaf (order mid r) so.1)))
        leaves (any_leaves leaves) new kept

    -- a leaf that is none of them and had no place has none
    pub kept_absent : (q : Leaf) → has_place c r q ≡ false → (leaves : List Leaf) → AllByRecursion (λ (leaf : Leaf). leaf_is q leaf ≡ false) leaves → (new : CacheMap) → kept_all c r leaves ≡ Some new → has_place new r q ≡ false
    kept_absent q none leaves apart new kept = (by_keeping (λ (leaf : Leaf). leaf_is q leaf ≡ false) (λ (k : CacheMap). (r < length k.used) × (has_place k r q ≡ false)) (there, none)
        (λ before mid made so. (subst (λ (n : ℕ). r < n) (sym (ranks_roomy before mid r None made)) so.0, still before mid made so.1 (has_place mid r q) refl))
        (λ mid leaf other so. (subst (λ (n : ℕ). r < n) (sym (ranks_used mid r leaf)) so.0, has_used mid r leaf r q so.0 ∙ ap (λ (b : Bool). cond ((r == r) && b) true (has_place mid r q)) other ∙ no (r == r) (has_place mid r q) so.1))
        leaves apart new kept).1
      where
        still : (before mid : CacheMap) → roomy before r None ≡ Some mid → has_place before r q ≡ false → (b : Bool) → has_place mid r q ≡ b → b ≡ false
        still before mid made none false seen = refl
        still before mid made none true seen = let clash : true ≡ false = sym (placed_roomy before mid r None r q made seen) ∙ none in absurd cc

        no : (a b : Bool) → b ≡ false → cond (a && false) true b ≡ false
        no true b is = is
        no false b is = is

    -- a place is free for each that is to come, or can become so
    pub kept_can : (count : ℕ) → IsDistinct leaf_is (order c r) → CanKeep count c r None → (leaves : List Leaf) (new : CacheMap) → kept_all c r leaves ≡ Some new → CanKeepOn (length leaves) count new r None
    kept_can count distinct can [] new kept = subst (λ (k : CacheMap). CanKeepOn 0 count k r None) (same_Some c new kept) (first_can count c r None can)
    kept_can count distinct can (leaf ∷ leaves) new kept =
        let m = one_more c r leaf leaves new kept in
        let d = kept_distinct distinct leaves m.before m.kept in
        let at_mid : r < length m.mid.used = subst (λ (n : ℕ). r < n) (sym (ranks_roomy m.before m.mid r None m.room)) d.0 in
        subst (λ (k : CacheMap). CanKeepOn (suc (length leaves)) count k r None) (sym m.used) (kept_left m.mid r None at_mid (length leaves) count
        (room_left m.before r None d.0 (length leaves) count (kept_can count distinct can leaves m.before m.kept) d.1 m.mid m.room) leaf)

    -- each of them has its place, if the rank hadn't its fragment
    pub kept_placed : (q : Leaf) → here c r q ≡ None → (leaves : List Leaf) (new : CacheMap) → kept_all c r leaves ≡ Some new → IsDistinct leaf_is (order c r) → list_any (leaf_is q) leaves ≡ true → has_place new r q ≡ true
    kept_placed q none [] new kept distinct among = let clash : false ≡ true = among in absurd cc
    kept_placed q none (leaf ∷ leaves) new kept distinct among =
        let m = one_more c r leaf leaves new kept in
        let d = kept_distinct distinct leaves m.before m.kept in
        let at_mid : r < length m.mid.used = subst (λ (n : ℕ). r < n) (sym (ranks_roomy m.before m.mid r None m.room)) d.0 in
        ap (λ (k : CacheMap). has_place k r q) m.used ∙ has_used m.mid r leaf r q at_mid ∙ ap (λ (b : Bool). cond (b && leaf_is q leaf) true (has_place m.mid r q)) (is_same r r refl)
        ∙ go m.before m.mid m.room d.0 (ap (at_rank r) (kept_held leaves m.before m.kept q none) ∙ none) (λ so. kept_placed q none leaves m.before m.kept distinct so) (leaf_is q leaf) among
      where
        go : (before mid : CacheMap) → roomy before r None ≡ Some mid → r < length before.used → here before r q ≡ None → (list_any (leaf_is q) leaves ≡ true → has_place before r q ≡ true) → (b : Bool) → (b || list_any (leaf_is q) leaves) ≡ true → cond b true (has_place mid r q) ≡ true
        go before mid made lt absent behind true among = refl
        go before mid made lt absent behind false among = placed_stays before mid lt made absent (behind among)
          where
            placed_stays : (before mid : CacheMap) → r < length before.used → roomy before r None ≡ Some mid → here before r q ≡ None → has_place before r q ≡ true → has_place mid r q ≡ true
            placed_stays before mid lt made absent placed = by_room before mid r None made (λ (k : CacheMap). has_place k r q ≡ true) placed (λ v passes. ap (list_any (leaf_is q)) (order_given_up before r lt v) ∙ any_less q v (order before r) (apart v passes (leaf_is q v) refl) ∙ placed)
              where
                apart : (v : Leaf) → goes before r None v ≡ true → (b : Bool) → leaf_is q v ≡ b → b ≡ false
                apart v passes false one = refl
                apart v passes true one = let clash : false ≡ true = ap (λ (o : Option Cached). clean_in o && true) (sym (sym (ap (here before r) (one_leaf q v one)) ∙ absent)) ∙ passes in absurd cc

-- a place became free at most
pub ranks_left : (r : ℕ) (stay : Option Leaf) (old new : CacheMap) → MakesRoomAt r stay old new → length new.used ≡ length old.used
ranks_left r stay old new (inl same) = ap (λ (k : CacheMap). length k.used) same
ranks_left r stay old new (inr made) = ranks_roomy old new r stay made

-- ---- places that are given up

pub ranks_without_all : (c : CacheMap) (r : ℕ) (leaves : List Leaf) → length (without_all c r leaves).used ≡ length c.used
ranks_without_all c r [] = refl
ranks_without_all c r (leaf ∷ leaves) = ranks_given_up (without_all c r leaves) r leaf ∙ ranks_without_all c r leaves
