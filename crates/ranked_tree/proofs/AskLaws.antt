-- Why a read is refused, in the words of all ranks, and of a call that ends with the read.
use Rattle.ranked_tree.proofs.Common.{AreHeldAt, AsksFor, Change, Concerns, Core, Fragment, HasLeaf, HoldsAt, IfErr, IfErr-weaker, IfSome, Ino, Inode, IsLive, IsOwned, IsSound, IsSoundCore, IsThat, KeepsState, LacksPlacesAsked, LacksPlacesAt, LacksPlacesBy, LacksPlacesDir, LacksPlacesFor, LacksPlacesOf, List, MayNotBeReady, MayNotFind, MayRefuse, NamesBy, NamesDir, None, NoneEnds, Op, Option, Rank, Ranked, ReadsCore, ReadsDir, Refusal, Result, Roots, Rules, Spot, ap, arith, faults_told, held_roots, inl, inr, is_directory, known_is, leaves, leaves_of, not_found_weaker, reads_keeps, reads_weaker, refl, result_err, rules, shown_tree, state_of, subst, sym, true, ℕ, ⊎_elim, ◌+◌, ◌∙◌, ◌≡◌, State, Leaf, MayChange, NoneComes, shape_of, leaf_of, Some}
use Rattle.ranked_tree.proofs.HeldLaws.{is_that, owned_reads}
use Rattle.ranked_tree.proofs.HolderLaws.{named_live}
pub use Rattle.ranked_tree.proofs.LaterLaws.{held_still, lacks_still, ranked_later}

-- what is known of a read of one leaf at the rank that holds it
pub record IsReadOf {X : Type 0} (old new : Core) (roots : Roots) (leaf : Leaf) (result : Result X Refusal) : Type 0 where
  pub kept : KeepsState old new (result_err result)
  pub reads : ReadsDir roots leaf.0 old new
  pub owned : IsOwned new roots
  pub refused : IfErr result (MayNotFind (LacksPlacesFor 1 old roots leaf) old.faults new.faults)

pub read_of : {X : Type 0} (old new : Core) (roots : Roots) (leaf : Leaf) (rank : Rank) (result : Result X Refusal) → IsOwned old roots → IsLive old.homes old.covers leaf → Rules (state_of old) roots leaf rank → ReadsCore (IsThat rank.0 leaf) NoneEnds old new → IsSoundCore new
    → new.faults ≡ old.faults + faults_told (result_err result) → IfErr result (MayNotFind (LacksPlacesAt 1 old rank) old.faults new.faults) → IsReadOf old new roots leaf result
read_of {X} old new roots leaf rank result owned live rules reads sound counted because = record {
  kept = reads_keeps (IsThat rank.0 leaf) NoneEnds old new reads (result_err result) counted;
  reads = reads_weaker (IsThat rank.0 leaf) NoneEnds (AsksFor (state_of old) roots (λ (d : ℕ). d ≡ leaf.0.0) NoneComes) NoneEnds
      (λ r q that. inl (ap (λ (l : Leaf). l.0.0) that.1, subst (IsLive old.homes old.covers) (sym that.1) live, is_that (state_of old) roots leaf rank rules r q that)) (λ r q none. none) old.objects old.caches new.caches reads.caches;
  owned = owned_reads (IsThat rank.0 leaf) NoneEnds old new roots reads sound (λ r q that live. is_that (state_of old) roots leaf rank rules r q that) owned;
  refused = IfErr-weaker result _ _ (λ reason. not_found_weaker _ _ old.faults new.faults reason (λ lacks. (rank, rules, lacks))) because;
}

-- why a read of one leaf of a directory is refused, after reads of others
pub refused_before : (a b : Core) (roots : Roots) (leaf : Leaf) (after : ℕ) (reason : Refusal) → KeepsState a b None → IsLive a.homes a.covers leaf → MayNotFind (LacksPlacesFor 1 b roots leaf) b.faults after reason
    → MayNotFind (LacksPlacesDir 1 a roots leaf.0) a.faults after reason
refused_before a b roots leaf after reason kept live (inl memory) = inl memory
refused_before a b roots leaf after reason kept live (inr (inl (is, rose))) = let counted = kept.counted in inr (inl (is, omega (arith, counted, rose)))
refused_before a b roots leaf after reason kept live (inr (inr (is, lacks))) = inr (inr (is, (leaf, refl, live, lacks_still 1 a b roots leaf kept lacks)))

-- ---- why an operation is refused

-- where places lack at a leaf of a directory that it concerns
pub asked : (old new : Ranked) (op : Op) (reason : Refusal) (Lacks : Type 0) → (Lacks → LacksPlacesAsked 1 old.tree (held_roots old) (Concerns op)) → MayNotFind Lacks old.tree.faults new.tree.faults reason → MayRefuse old new op reason
asked old new op reason Lacks so (inl memory) = inl memory
asked old new op reason Lacks so (inr (inl fault)) = inr (inl fault)
asked old new op reason Lacks so (inr (inr (is, lacks))) = let (leaf, concerns, live, (rank, rules, few)) = so lacks in inr (inr (inl (is, (leaf, concerns, live, (rank, rules, omega (arith, few))))))

-- ---- why a change isn't made ready

-- what lacks at the ranks that hold the leaves of a change
lacks_asked : (old : Core) (roots : Roots) (takes : Option Spot) (puts : Option (Spot × Inode)) → IfSome takes (λ spot. IsLive old.homes old.covers (leaf_of spot.at)) → IfSome puts (λ put. IsLive old.homes old.covers (leaf_of put.0.at))
    → IfSome takes (λ spot. HoldsAt (state_of old) roots spot.at) → IfSome puts (λ put. HoldsAt (state_of old) roots put.0.at) → LacksPlacesBy old takes puts → LacksPlacesAsked 2 old roots (NamesBy takes puts)
lacks_asked old roots None None live_here live_there here there lacks = absurd lacks
lacks_asked old roots None (Some put) live_here live_there here there lacks = (leaf_of put.0.at, refl, live_there, (put.0.at.rank, there, lacks))
lacks_asked old roots (Some spot) None live_here live_there here there lacks = (leaf_of spot.at, refl, live_here, (spot.at.rank, here, lacks))
lacks_asked old roots (Some spot) (Some put) live_here live_there here there (inl lacks) = (leaf_of spot.at, inl refl, live_here, (spot.at.rank, here, lacks))
lacks_asked old roots (Some spot) (Some put) live_here live_there here there (inr lacks) = (leaf_of put.0.at, inr refl, live_there, (put.0.at.rank, there, lacks))

pub told_change : (X Lacks : Type 0) (result : Result X Refusal) (old : Core) (roots : Roots) (change : Change) (after : ℕ) → IsSound (state_of old) → MayChange (shown_tree (state_of old)) old.covers change → AreHeldAt (state_of old) roots change → IfErr result (MayNotBeReady Lacks (LacksPlacesOf old change) old.faults after)
    → IfErr result (MayNotBeReady Lacks (LacksPlacesAsked 2 old roots (NamesDir change)) old.faults after)
told_change X Lacks result old roots change after sound may held =
    let live = named_live (state_of old) sound change (shape_of (shown_tree (state_of old)) old.covers change may) may in
    IfErr-weaker result _ _ (λ reason. ⊎_elim (λ numbers. inl numbers) (λ other. inr (other.0, not_found_weaker _ _ old.faults after reason (lacks_asked old roots change.takes change.puts live.0 live.1 held.taken held.put) other.1)))

-- ---- what is still so

-- a leaf is live still
pub live_still : (a b : Core) (leaf : Leaf) → KeepsState a b None → IsLive a.homes a.covers leaf → IsLive b.homes b.covers leaf
live_still a b leaf kept live = subst (λ (s : State). IsLive s.homes s.covers leaf) (sym kept.state) live

-- the leaves of a directory of the tree are live
pub leaf_live : (s : State) → IsSound s → (dir : Ino) → is_directory (shown_tree s) dir.0 ≡ true → (leaves : List Fragment) → leaves ≡ leaves_of s.covers dir.0 → (f : Fragment) → HasLeaf leaves f → IsLive s.homes s.covers (dir, f)
leaf_live s sound dir is leaves are f has = record { known = known_is (shown_tree s) s.homes sound.tabled dir.0 ∙ is; stands = subst (λ (fs : List Fragment). HasLeaf fs f) are has }
