-- A directory goes that is no one's parent: the leaves of the others keep their authority.
use Rattle.subtree_map.proofs.Common.{AreGone, Covers, DropsSoundly, HasAuthority, HasLeaf, Home, Homes, Ino, IsChildless, IsLive, IsPick, IsSome, IsSubtrees, IsTable, KeepAuthority, Leaf, NearestRoot, Option, Roots, StaysElsewhere, ap, hash_of, inherited, inl, inr, is_some, itself, leaf_in_dir, subst, sym, ℕ, ◌==◌, ◌||◌, ◌∙◌, ◌≡◌, ◌≢◌, ◌⊎◌}
use Rattle.std.specs.FinMap as map
use Rattle.sorted_map.proofs.NatKeys as nat
use Rattle.subtree_map.proofs.Options.{not_none, value_of}
use Rattle.subtree_map.proofs.Covers.{leaves_left}

module _ (old new : Roots) (d : ℕ) (is : AreGone old new d) (homes : Homes) (covers : Covers) (table : IsTable homes covers) (valid : IsSubtrees old homes covers) (childless : IsChildless homes d) (below : d ≢ 1) where
  way : (leaf root : Leaf) → leaf.0.0 ≢ d → NearestRoot old homes covers leaf root → NearestRoot new (map.remove homes d) (map.remove covers d) leaf root × (root.0.0 ≢ d)
  way _ _ apart (itself root rank has) = (itself root rank (is.others root apart ∙ has), apart)
  way _ _ apart (inherited leaf holder root home none stands holds rest) =
      let parent : home.parent.0 ≢ d = childless leaf.0.0 home stands in
      let up = way holder root (λ same. parent (ap (λ (p : Ino). p.0) (sym holds.parent) ∙ same)) rest in (
        inherited leaf holder root home (is.others leaf apart ∙ none) (nat.get_left homes d leaf.0.0 apart ∙ stands) (record {
          parent = holds.parent;
          pick = subst (λ ls. IsPick ls (hash_of home.name) holder.1) (sym (leaves_left covers d home.parent.0 parent)) holds.pick;
        }) up.0,
        up.1,
      )

  keeps : KeepAuthority old new homes (map.remove homes d) covers (map.remove covers d) (StaysElsewhere d)
  keeps leaf after rank stood (apart, same) has =
      let up = way leaf has.root apart has.nearest in
      subst (λ k. HasAuthority new (map.remove homes d) (map.remove covers d) k rank) (sym same) (record { root = has.root; nearest = up.0; ranked = is.others has.root up.1 ∙ has.ranked })

  still_live : (root : Leaf) → IsSome (map.get new root) → IsLive (map.remove homes d) (map.remove covers d) root
  still_live root there = go (nat.same_or_apart root.0.0 d)
    where
      go : (root.0.0 ≡ d) ⊎ (root.0.0 ≢ d) → IsLive (map.remove homes d) (map.remove covers d) root
      go (inl at) = let gone = value_of _ there in absurd (not_none _ gone.0 (is.gone root at) gone.1)
      go (inr apart) =
          let live = valid.live root (ap is_some (sym (is.others root apart)) ∙ there) in
          record {
            known = ap (λ (o : Option Home). (root.0.0 == 1) || is_some o) (nat.get_left homes d root.0.0 apart) ∙ live.known;
            stands = subst (λ ls. HasLeaf ls root.1) (sym (leaves_left covers d root.0.0 apart)) live.stands;
          }

  pub sound : KeepAuthority old new homes (map.remove homes d) covers (map.remove covers d) (StaysElsewhere d) × IsSubtrees new (map.remove homes d) (map.remove covers d)
  sound = (
    keeps,
    record {
      top = λ f has. ap is_some (is.others (leaf_in_dir 1 f) (λ same. below (sym same))) ∙ valid.top f (subst (λ ls. HasLeaf ls f) (leaves_left covers d 1 (λ same. below (sym same))) has);
      live = still_live;
    },
  )

pub drops_soundly : (old new : Roots) (d : ℕ) → AreGone old new d → DropsSoundly old new d
drops_soundly old new d is homes covers table valid childless below = sound old new d is homes covers table valid childless below
