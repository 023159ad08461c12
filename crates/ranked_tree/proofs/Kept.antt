-- Where the tree and its roots stay, each leaf keeps its authority.
use Rattle.ranked_tree.proofs.Common.{AreRoots, KeepsRoots, Roots, Standing, ap, sym, ◌∙◌, ◌≡◌, State}
use Rattle.std.specs.FinMap as map

-- where directories, leaves and roots stay
pub keeps_tables : (old new : State) (before after : Roots) (exports later : Standing) → new.homes ≡ old.homes → new.covers ≡ old.covers → after ≡ before → later ≡ exports → AreRoots old before → KeepsRoots old new before after exports later
keeps_tables old new before after exports later homes covers still stand valid = record {
  authorities = λ leaf rank was is rules. rw (still, homes, covers) rules;
  holders = λ leaf rank was is rules. rw (stand, still, homes, covers) rules;
  ranks = λ leaf rank is. (leaf, ap (λ m. map.get m leaf) (sym still) ∙ is);
  valid = rw (still, homes, covers) valid;
  stand = stand;
}

-- where the tree and its roots stay
pub keeps_same : (old new : State) (before after : Roots) (exports later : Standing) → new ≡ old → after ≡ before → later ≡ exports → AreRoots old before → KeepsRoots old new before after exports later
keeps_same old new before after exports later same still stand valid = keeps_tables old new before after exports later (ap (λ (s : State). s.homes) same) (ap (λ (s : State). s.covers) same) still stand valid
