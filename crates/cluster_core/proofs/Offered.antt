-- The number that a rank offers next is unused in the tree that a sound cluster shows, and in a rank's range.
use Rattle.cluster_core.proofs.Common.{AreMastersThere, AreRanks, Bool, Core, Entry, Ino, IsAuthority, IsOffered, IsRankNumber, IsSound, IsSupplied, IsUnused, List, MatchBool, None, Opening, Option, Rank, Some, Supply, ap, arith, cond, dentry_of, destination_of, end_number, false, is_directory, length, ltb-true, main_leaf, nat_lt, nat_tests, offer, refl, shown, supply_of, sym, true, ◌<◌, ◌∙◌, ◌≡◌}
use Rattle.std.specs.FinMap as map
use Rattle.cluster_core.proofs.OpeningLaws.{numbers_from}

-- a rank that is there has its supply
pub there_of : (core : Core) → AreRanks core → (rank : Rank) → nat_lt rank.0 (length core.state.inboxes) ≡ true → rank.0 < length core.state.numbers
there_of core ranks rank here = omega (arith, ltb-true rank.0 (length core.state.inboxes) here, ranks.inboxes)

module _ (opening : Opening) (past : List Entry) (core : Core) (sound : IsSound opening past core) (rank : Rank) (there : rank.0 < length core.state.numbers) where
  abbrev mine : Supply
  mine = supply_of core.state rank

  has : IsSupplied opening past rank.0 mine
  has = sound.supplied rank.0 there

  next_unused : mine.next < end_number mine.rank → IsUnused (shown core.state) mine.next
  next_unused below = record {
    not_root = λ one. omega (arith, one, has.supply.started);
    not_there = λ d name inode stands same.
        let used = numbers_from core.state.tree.limit opening past sound.legal (dentry_of d name) inode (ap (λ t. map.get t (dentry_of d name)) (sym sound.replayed) ∙ stands) in
        let low : _ = has.fresh inode.ino.0 (omega (arith, same, has.supply.started)) (omega (arith, same, below)) used in
        omega (arith, same, low);
  }

  next_in_range : mine.next < end_number mine.rank → IsRankNumber mine.next
  next_in_range below = record { least = omega (arith, has.supply.started); most = omega (arith, below, has.supply.ranked) }

  pub offer_unused : IsOffered (shown core.state) (λ n. IsRankNumber n) (offer mine)
  offer_unused = go (nat_lt mine.next (end_number mine.rank)) (λ e. grind (arith, nat_tests))
    where
      go : (left : Bool) → (left ≡ true → mine.next < end_number mine.rank)
          → IsOffered (shown core.state) (λ n. IsRankNumber n) (cond {A = Option Ino} left (Some (record { 0 = mine.next })) None)
      go true below = (next_unused (below refl), next_in_range (below refl))
      go false below = tt

  -- the master of each operation is one of the ranks: the rank itself, or that of a root
  pub masters_there : AreMastersThere core.state rank
  masters_there op master h = go (is_directory (shown core.state) (destination_of op)) h
    where
      go : (b : Bool) → MatchBool b (IsAuthority core.state (main_leaf core.state.tree.covers op) master) (master ≡ rank) → master.0 < length core.state.inboxes
      go true rules = omega (arith, sound.exported.ranked rules.root master rules.ranked, sound.ranks.caches, sound.ranks.inboxes)
      go false same = omega (arith, ap (λ (r : Rank). r.0) same, there, sound.ranks.inboxes)
