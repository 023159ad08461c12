-- The refusals of a split and of a merge are the first of their checks that holds.
use Rattle.cluster_core.proofs.Common.{Bool, CanMerge, CanSplit, Core, Err, Fragment, Ino, List, Rank, Refusal, [], ap, arith, false, inl, inr, leaves_inside, length, refl, sym, true, ℕ, ◌+◌, ◌^◌, ◌∙◌, ◌≡◌, ◌≢◌, ◌⊎◌}
use Rattle.mds_types.specs.declared.refusals.Refusal.TheVariants as why
use Rattle.fragtree.specs.FragTree.{RefusesMerge, RefusesSplit}
use Rattle.inode_table.specs.Dirs.{is_known, leaves_of}
use Rattle.mdcache.specs.Reads.{MayNotFind}
use Rattle.mdcache.specs.Ready.{MayNotBeReady}
use Rattle.mdcache.specs.Regroups.{LacksCounts, MayNotRegroup}
use Rattle.cluster_core.specs.Administers.{HasFrozenInside, HasPinnedInside, HoldsInside, IsPinned, MergesLeaves, SplitsLeaf}
use Rattle.cluster_core.specs.Checks.{MergeChecks, MergesByChecks, SplitChecks, SplitsByChecks}
use Rattle.cluster_core.specs.Exporting.{Check}
use Rattle.cluster_core.specs.Master.{IsAuthority, IsFrozenAt}
use Rattle.cluster_core.specs.State.{LacksPlacesAt}

clash : (b : Bool) → b ≡ true → b ≡ false → ⊥
clash b is isnt = let both : true ≡ false = sym is ∙ isnt in cc

-- leaves that can be split don't refuse it
can_split : (leaves : List Fragment) (f : Fragment) (nb : ℕ) (reason : Refusal) → CanSplit leaves f nb → reason ≢ why.NoMemory → RefusesSplit leaves f nb reason → ⊥
can_split leaves f nb why.NoSuchFrag can other h = h can.stands
can_split leaves f nb why.BadSplit can other h = h.1 can.fits
can_split leaves f nb why.TooManyFrags can other h = let few = can.few in let many = h.2 in omega (arith, few, many)
can_split leaves f nb why.NoMemory can other h = other refl
can_split leaves f nb _ can other h = h

can_merge : (leaves : List Fragment) (f : Fragment) (reason : Refusal) → CanMerge leaves f → reason ≢ why.NoMemory → RefusesMerge leaves f reason → ⊥
can_merge leaves f why.NoSuchFrag can other h = let some = can.some in let none : length (leaves_inside f leaves) ≡ 0 = ap length h in omega (arith, some, none)
can_merge leaves f why.TooManyFrags can other h = let few = can.few in omega (arith, few, h)
can_merge leaves f why.NoMemory can other h = other refl
can_merge leaves f _ can other h = h

module _ (old new : Core) (rank : Rank) (dir : Ino) (f : Fragment) (nb : ℕ) where
  leaves : List Fragment
  leaves = leaves_of old.state.tree.covers dir.0

  abbrev Mine : Refusal → Type 0
  Mine = Check why.NotAuthority (IsAuthority old.state (dir, f) rank → ⊥) (Check why.Frozen (IsFrozenAt old.state (dir, f)) (Check why.Pinned (IsPinned old.state (dir, f)) (Check why.NoInodes (LacksCounts (2 ^ nb) old.state.tree) (MayNotFind (LacksPlacesAt (2 ^ nb + 1) old rank) old.faults new.faults))))

  -- the leaves don't refuse it
  past_leaves : (reason : Refusal) → is_known old.state.tree.homes dir.0 ≡ true → CanSplit (leaves_of old.state.tree.covers dir.0) f nb → Mine reason → SplitChecks old new rank dir f nb reason
  past_leaves reason known can h = inr (λ none. none (record { known = known; stands = can.stands }), inr (λ unfit. unfit can.fits, inr (λ many. let few = can.few in omega (arith, few, many), h)))

  by_leaves : (reason : Refusal) → is_known old.state.tree.homes dir.0 ≡ true → reason ≢ why.NoMemory → RefusesSplit (leaves_of old.state.tree.covers dir.0) f nb reason → SplitChecks old new rank dir f nb reason
  by_leaves why.NoSuchFrag known other h = inl (refl, λ live. h live.stands)
  by_leaves why.BadSplit known other h = inr (λ none. none (record { known = known; stands = h.0 }), inl (refl, h.1))
  by_leaves why.TooManyFrags known other h = inr (λ none. none (record { known = known; stands = h.0 }), inr (λ unfit. unfit h.1, inl (refl, h.2)))
  by_leaves why.NoMemory known other h = absurd (other refl)
  by_leaves _ known other h = absurd h

  ready : (reason : Refusal) → is_known old.state.tree.homes dir.0 ≡ true → CanSplit (leaves_of old.state.tree.covers dir.0) f nb
      → MayNotRegroup (CanSplit (leaves_of old.state.tree.covers dir.0) f nb) (RefusesSplit (leaves_of old.state.tree.covers dir.0) f nb) old.state.tree dir (2 ^ nb) (LacksPlacesAt (2 ^ nb + 1) old rank) old.faults new.faults reason
      → MayNotBeReady (LacksCounts (2 ^ nb) old.state.tree) (LacksPlacesAt (2 ^ nb + 1) old rank) old.faults new.faults reason
  ready reason known can (inl (is, unknown)) = absurd (clash _ known unknown)
  ready reason known can (inr (inl (_, other, refuses))) = absurd (can_split _ f nb reason can other refuses)
  ready reason known can (inr (inr (_, _, h))) = h

  split_by : (reason : Refusal) → SplitsLeaf old new rank dir f nb (Err reason) → SplitChecks old new rank dir f nb reason
  split_by reason (inl (is, unknown)) = inl (is, λ live. clash _ live.known unknown)
  split_by reason (inr (inl (known, other, refuses))) = by_leaves reason known other refuses
  split_by reason (inr (inr (inl (known, can, is, not)))) = past_leaves reason known can (inl (is, not))
  split_by reason (inr (inr (inr (inl (known, can, mine, is, frozen))))) = past_leaves reason known can (inr (λ not. not mine, inl (is, frozen)))
  split_by reason (inr (inr (inr (inr (inl (known, can, mine, thawed, is, pinned)))))) = past_leaves reason known can (inr (λ not. not mine, inr (thawed, inl (is, pinned))))
  split_by reason (inr (inr (inr (inr (inr (known, can, mine, thawed, free, h)))))) = past_leaves reason known can (inr (λ not. not mine, inr (thawed, inr (free, ready reason known can h))))

pub splits_by_checks : SplitsByChecks
splits_by_checks old new rank dir f nb reason h = split_by old new rank dir f nb reason h

module _ (old new : Core) (rank : Rank) (dir : Ino) (f : Fragment) where
  abbrev MineInside : Refusal → Type 0
  MineInside = Check why.NotAuthority (HoldsInside old.state rank dir f → ⊥) (Check why.Frozen (HasFrozenInside old.state dir f) (Check why.Pinned (HasPinnedInside old.state dir f) (Check why.NoInodes (LacksCounts 1 old.state.tree) (MayNotFind (LacksPlacesAt 1 old rank) old.faults new.faults))))

  past_inside : (reason : Refusal) → is_known old.state.tree.homes dir.0 ≡ true → CanMerge (leaves_of old.state.tree.covers dir.0) f → MineInside reason → MergeChecks old new rank dir f reason
  past_inside reason known can h = inr (some, inr (λ many. let few = can.few in omega (arith, few, many), h))
    where
      some : (is_known old.state.tree.homes dir.0 ≡ false) ⊎ (leaves_inside f (leaves_of old.state.tree.covers dir.0) ≡ []) → ⊥
      some (inl unknown) = clash _ known unknown
      some (inr none) = let at_least = can.some in let length_none : length (leaves_inside f (leaves_of old.state.tree.covers dir.0)) ≡ 0 = ap length none in omega (arith, at_least, length_none)

  by_inside : (reason : Refusal) → is_known old.state.tree.homes dir.0 ≡ true → reason ≢ why.NoMemory → RefusesMerge (leaves_of old.state.tree.covers dir.0) f reason → MergeChecks old new rank dir f reason
  by_inside why.NoSuchFrag known other h = inl (refl, inr h)
  by_inside why.TooManyFrags known other h = inr (some, inl (refl, h))
    where
      some : (is_known old.state.tree.homes dir.0 ≡ false) ⊎ (leaves_inside f (leaves_of old.state.tree.covers dir.0) ≡ []) → ⊥
      some (inl unknown) = clash _ known unknown
      some (inr none) = let length_none : length (leaves_inside f (leaves_of old.state.tree.covers dir.0)) ≡ 0 = ap length none in omega (arith, h, length_none)
  by_inside why.NoMemory known other h = absurd (other refl)
  by_inside _ known other h = absurd h

  ready_inside : (reason : Refusal) → is_known old.state.tree.homes dir.0 ≡ true → CanMerge (leaves_of old.state.tree.covers dir.0) f
      → MayNotRegroup (CanMerge (leaves_of old.state.tree.covers dir.0) f) (RefusesMerge (leaves_of old.state.tree.covers dir.0) f) old.state.tree dir 1 (LacksPlacesAt 1 old rank) old.faults new.faults reason
      → MayNotBeReady (LacksCounts 1 old.state.tree) (LacksPlacesAt 1 old rank) old.faults new.faults reason
  ready_inside reason known can (inl (is, unknown)) = absurd (clash _ known unknown)
  ready_inside reason known can (inr (inl (_, other, refuses))) = absurd (can_merge _ f reason can other refuses)
  ready_inside reason known can (inr (inr (_, _, h))) = h

  merge_by : (reason : Refusal) → MergesLeaves old new rank dir f (Err reason) → MergeChecks old new rank dir f reason
  merge_by reason (inl (is, unknown)) = inl (is, inl unknown)
  merge_by reason (inr (inl (known, other, refuses))) = by_inside reason known other refuses
  merge_by reason (inr (inr (inl (known, can, is, not)))) = past_inside reason known can (inl (is, not))
  merge_by reason (inr (inr (inr (inl (known, can, mine, is, frozen))))) = past_inside reason known can (inr (λ not. not mine, inl (is, frozen)))
  merge_by reason (inr (inr (inr (inr (inl (known, can, mine, thawed, is, pinned)))))) = past_inside reason known can (inr (λ not. not mine, inr (thawed, inl (is, pinned))))
  merge_by reason (inr (inr (inr (inr (inr (known, can, mine, thawed, free, h)))))) = past_inside reason known can (inr (λ not. not mine, inr (thawed, inr (free, ready_inside reason known can h))))

pub merges_by_checks : MergesByChecks
merges_by_checks old new rank dir f reason h = merge_by old new rank dir f reason h
