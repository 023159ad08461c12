-- Places of a fragment's children: kept one after the other, and given up.
use Rattle.dentry_cache.proofs.Common.{AreAbsent, Bool, CacheMap, Cached, Fragment, Ino, IsAbsent, IsChildAt, IsDistinct, IsFamilyAt, IsKeptFor, Leaf, MakesRoomAt, None, NoneEnds, Objects, Option, Reads, Some, ap, arith, at_rank, child_of, cond, false, frees, given_up, has_place, here, inl, inr, is_same, leaf_is, length, less, order, refl, removed, room, roomy, subst, suc, sym, true, used_at, uses, without_children, zero, ℕ, ◌&&◌, ◌<◌, ◌^◌, ◌∙◌, ◌≡◌, ◌≤◌, ◌⊎◌}
use Rattle.std.specs.FinMap as finmap
use Rattle.dentry_cache.specs.Reads.Reads.{stays as it_stays}
use Rattle.dentry_cache.proofs.KeptLaws.{first_distinct, just_kept, less_distinct, order_given_up, order_used, roomy_absent, roomy_distinct, roomy_kept, roomy_stays, used_absent, used_kept}
use Rattle.dentry_cache.proofs.NameParts.{one_child}
use Rattle.dentry_cache.proofs.ReadsLaws.{reads_then, reads_weaker}
use Rattle.dentry_cache.proofs.SplitShows.{below_or_it}
use Rattle.dentry_cache.proofs.MapCalls.{below_or_past}
use Rattle.dentry_cache.proofs.StepLaws.{has_given_up, placed_given_up, ranks_given_up, ranks_roomy, ranks_used}
use Rattle.dentry_cache.proofs.LeafLaws.{leaf_itself}

-- as many ranks where places are given up
pub ranks_without : (r : ℕ) (dir : Ino) (frag : Fragment) (bits n : ℕ) (c : CacheMap) → length (without_children r dir frag bits n c).used ≡ length c.used
ranks_without r dir frag bits zero c = refl
ranks_without r dir frag bits (suc n) c = ranks_given_up (without_children r dir frag bits n c) r (dir, child_of frag n bits) ∙ ranks_without r dir frag bits n c

-- a place in which there is no fragment
held_freed : (c : CacheMap) (r : ℕ) (leaf : Leaf) → finmap.get c.held leaf ≡ None → (given_up c r leaf).held ≡ c.held
held_freed c r leaf none = ap (λ (o : Option Cached). removed c.held leaf o) (ap (at_rank r) none)

module _ (r : ℕ) (dir : Ino) (frag : Fragment) (bits : ℕ) where
  abbrev child : ℕ → Leaf
  child i = (dir, child_of frag i bits)

  -- what holds once so many places were kept
  pub record AreKeeping (n : ℕ) (old now : CacheMap) : Type 0 where
    pub there : r < length now.used
    pub distinct : IsDistinct leaf_is (order now r)
    pub kept : (i : ℕ) → i < n → IsKeptFor now r (child i)
    pub absent : (i : ℕ) → n ≤ i → i < 2 ^ bits → IsAbsent now r (child i)
    pub stays : finmap.get now.held (dir, frag) ≡ finmap.get old.held (dir, frag)
    pub reads : (objects : Objects) → Reads (IsFamilyAt r dir frag bits) NoneEnds objects old now

  named : (n : ℕ) → n < 2 ^ bits → IsFamilyAt r dir frag bits r (child n)
  named n below = inr (refl, n, below, refl)

  -- none yet
  pub none_kept : (old : CacheMap) → r < length old.used → IsDistinct leaf_is (order old r) → AreAbsent old r dir frag bits → AreKeeping 0 old old
  none_kept old there distinct absent = record {
    there = there;
    distinct = distinct;
    kept = λ i less. absurd (omega (arith, less));
    absent = λ i from less. absent i less;
    stays = refl;
    reads = λ objects. it_stays;
  }

  module _ (n : ℕ) (below : n < 2 ^ bits) (old mid : CacheMap) (k : AreKeeping n old mid) where
    -- a place is free for one more, or became so
    pub room_kept : (now : CacheMap) → roomy mid r (Some (dir, frag)) ≡ Some now → AreKeeping n old now
    room_kept now made =
        record {
          there = subst (λ (m : ℕ). r < m) (sym (ranks_roomy mid now r (Some (dir, frag)) made)) k.there;
          distinct = roomy_distinct mid now r (Some (dir, frag)) k.there made k.distinct;
          kept = λ i among. roomy_kept mid now r (Some (dir, frag)) k.there made (child i) (k.kept i among);
          absent = λ i from among. roomy_absent mid now r (Some (dir, frag)) k.there made (child i) (k.absent i from among);
          stays = roomy_stays mid now r (dir, frag) k.there made ∙ k.stays;
          reads = λ objects. room mid now r (child n) (Some (dir, frag)) (k.reads objects) (named n below) (k.absent n (omega arith) below).0 (r, inl (refl, refl)) made;
        }

    -- it is kept
    pub one_kept : (now : CacheMap) → now ≡ used_at mid r (child n) → AreKeeping (suc n) old now
    one_kept now is = subst (AreKeeping (suc n) old) (sym is) (
        let none = k.absent n (omega arith) below in
        record {
          there = subst (λ (m : ℕ). r < m) (sym (ranks_used mid r (child n))) k.there;
          distinct = subst (IsDistinct leaf_is) (sym (order_used mid r k.there (child n))) (first_distinct (child n) (order mid r) k.distinct);
          kept = λ i among. kept_then i (below_or_it i n (omega (arith, among)));
          absent = λ i from among. used_absent mid r (child n) (child i) k.there (one_child dir frag bits i n (λ same. omega (arith, same, from))) (k.absent i (omega (arith, from)) among);
          stays = k.stays;
          reads = λ objects. uses mid r (child n) (k.reads objects) (named n below);
        })
      where
        kept_then : (i : ℕ) → (i < n) ⊎ (i ≡ n) → IsKeptFor (used_at mid r (child n)) r (child i)
        kept_then i (inl less) = used_kept mid r (child n) (child i) k.there (k.kept i less)
        kept_then i (inr same) = subst (λ (m : ℕ). IsKeptFor (used_at mid r (child n)) r (child m)) (sym same) (just_kept mid r (child n) k.there (k.absent n (omega arith) below).1)

  -- so no name is changed, and no fragment ends
  pub kept_reads : (n : ℕ) (old now : CacheMap) → AreKeeping n old now → (objects : Objects) → Reads (IsFamilyAt r dir frag bits) (IsChildAt r dir frag bits) objects old now
  kept_reads n old now k objects = reads_weaker (IsFamilyAt r dir frag bits) NoneEnds (IsFamilyAt r dir frag bits) (IsChildAt r dir frag bits) (λ s q named. named) (λ s q none. absurd none) objects old now (k.reads objects)

  -- ---- given up

  -- what holds once so many places were given up of children that have no fragments
  pub record AreDropped (n : ℕ) (old now : CacheMap) : Type 0 where
    pub there : r < length now.used
    pub distinct : IsDistinct leaf_is (order now r)
    pub held : now.held ≡ old.held
    pub none : (i : ℕ) → i < n → has_place now r (child i) ≡ false
    pub reads : (objects : Objects) → Reads (IsFamilyAt r dir frag bits) (IsChildAt r dir frag bits) objects old now

  pub are_dropped : (n : ℕ) (old : CacheMap) → n ≤ 2 ^ bits → r < length old.used → IsDistinct leaf_is (order old r) → ((i : ℕ) → i < 2 ^ bits → finmap.get old.held (child i) ≡ None) → AreDropped n old (without_children r dir frag bits n old)
  are_dropped zero old most there distinct vacant = record { there = there; distinct = distinct; held = refl; none = λ i less. absurd (omega (arith, less)); reads = λ objects. it_stays }
  are_dropped (suc n) old most there distinct vacant = step (are_dropped n old (omega (arith, most)) there distinct vacant)
    where
      mid : CacheMap
      mid = without_children r dir frag bits n old

      step : AreDropped n old mid → AreDropped (suc n) old (given_up mid r (child n))
      step d =
          let vacant_still : finmap.get mid.held (child n) ≡ None = ap (λ m. finmap.get m (child n)) d.held ∙ vacant n (omega (arith, most)) in
          record {
            there = subst (λ (m : ℕ). r < m) (sym (ranks_given_up mid r (child n))) d.there;
            distinct = subst (IsDistinct leaf_is) (sym (order_given_up mid r d.there (child n))) (less_distinct (child n) (order mid r) d.distinct);
            held = held_freed mid r (child n) vacant_still ∙ d.held;
            none = λ i less. gone i (below_or_it i n (omega (arith, less)));
            reads = λ objects. frees mid r (child n) (d.reads objects) (refl, n, omega (arith, most), refl) vacant_still;
          }
        where
          still : (i : ℕ) → (b : Bool) → has_place (given_up mid r (child n)) r (child i) ≡ b → has_place mid r (child i) ≡ false → b ≡ false
          still i false is none = refl
          still i true is none = let clash : true ≡ false = sym (placed_given_up mid r (child n) r (child i) is) ∙ none in absurd cc

          gone : (i : ℕ) → (i < n) ⊎ (i ≡ n) → has_place (given_up mid r (child n)) r (child i) ≡ false
          gone i (inl less) = still i (has_place (given_up mid r (child n)) r (child i)) refl (d.none i less)
          gone i (inr same) =
              ap (λ (m : ℕ). has_place (given_up mid r (child n)) r (child m)) same ∙ has_given_up mid r (child n) r (child n) d.there d.distinct
              ∙ ap (λ (b : Bool). cond b false (has_place mid r (child n))) (ap (λ (b : Bool). b && leaf_is (child n) (child n)) (is_same r r refl) ∙ leaf_itself (child n))

  -- ---- where a place isn't kept

  module _ (n : ℕ) (below : n < 2 ^ bits) (old mid now : CacheMap) (k : AreKeeping n old mid) (left : MakesRoomAt r (Some (dir, frag)) mid now) where
    abbrev last : CacheMap
    last = without_children r dir frag bits (2 ^ bits) now

    then_keeping : AreKeeping n old now
    then_keeping = by left
      where
        by : MakesRoomAt r (Some (dir, frag)) mid now → AreKeeping n old now
        by (inl same) = subst (AreKeeping n old) (sym same) k
        by (inr made) = room_kept n below old mid k now made

    vacant : (i : ℕ) → i < 2 ^ bits → finmap.get now.held (child i) ≡ None
    vacant i among = by (below_or_past i n)
      where
        by : (i < n) ⊎ (n ≤ i) → finmap.get now.held (child i) ≡ None
        by (inl less) = (then_keeping.kept i less).1
        by (inr from) = (then_keeping.absent i from among).1

    dropped : AreDropped (2 ^ bits) now last
    dropped = are_dropped (2 ^ bits) now (omega arith) then_keeping.there then_keeping.distinct vacant

    -- no place is kept then
    pub none_then : AreAbsent last r dir frag bits
    none_then i among = (dropped.none i among, ap (λ m. finmap.get m (child i)) dropped.held ∙ vacant i among)

    pub stays_then : here last r (dir, frag) ≡ here old r (dir, frag)
    stays_then = ap (λ m. at_rank r (finmap.get m (dir, frag))) dropped.held ∙ ap (at_rank r) then_keeping.stays

    pub reads_so : (objects : Objects) → Reads (IsFamilyAt r dir frag bits) (IsChildAt r dir frag bits) objects old last
    reads_so objects = reads_then (IsFamilyAt r dir frag bits) (IsChildAt r dir frag bits) objects old now last (kept_reads n old now then_keeping objects) (dropped.reads objects)
