-- Which leaves a directory's move makes roots.
use Rattle.subtree_map.proofs.Common.{AreFilled, Covers, HasAuthority, HasLeaf, HoldsDentry, Home, Homes, IsInheritedAt, IsLive, IsLostRank, KeepsRanksOf, IsSome, Leaf, MayMove, NearestRoot, None, Option, Rank, Roots, Some, ap, inherited, inl, inr, is_known, is_some, itself, known_by, leaf_in_dir, leaves_of, refl, subst, sym, true, ℕ, ◌∙◌, ◌≡◌, ◌⊎◌}
use Rattle.std.specs.FinMap as map
use Rattle.subtree_map.proofs.Options.{not_none, one_value}
use Rattle.subtree_map.proofs.Nearest.{one_authority, one_holder}

-- one rank is inherited at a place
pub one_inherited : (roots : Roots) (homes : Homes) (covers : Covers) (home : Home) (a b : Rank) → IsInheritedAt roots homes covers home a → IsInheritedAt roots homes covers home b → a ≡ b
one_inherited roots homes covers home a b p q =
    one_authority roots homes covers q.holder a b (subst (λ k. HasAuthority roots homes covers k a) (one_holder covers home p.holder q.holder p.holds q.holds) p.has) q.has

-- a leaf that inherits has the rank that is inherited where its directory stands
pub inherits : (roots : Roots) (homes : Homes) (covers : Covers) (leaf : Leaf) (was : Home) (rank : Rank) → map.get roots leaf ≡ None → map.get homes leaf.0.0 ≡ Some was → HasAuthority roots homes covers leaf rank → IsInheritedAt roots homes covers was rank
inherits roots homes covers leaf was rank none stands has = go leaf has.root none stands has.nearest has.ranked
  where
    go : (k root : Leaf) → map.get roots k ≡ None → map.get homes k.0.0 ≡ Some was → NearestRoot roots homes covers k root → map.get roots root ≡ Some rank → IsInheritedAt roots homes covers was rank
    go _ _ gone at (itself root r own) ranked = absurd (not_none _ r gone own)
    go _ _ gone at (inherited k holder root home other there holds rest) ranked = record {
      holder = holder;
      holds = subst (λ (h : Home). HoldsDentry covers h holder) (one_value _ home was there at) holds;
      has = record { root = root; nearest = rest; ranked = ranked };
    }

module _ (old : Roots) (homes : Homes) (covers : Covers) (d : ℕ) (home : Home) where
  -- where the rank stays nothing changes
  pub settled_none : (new : Roots) → new ≡ old → IsLostRank old homes covers d home None → KeepsRanksOf old new homes covers d home
  settled_none new is (was, kept, stands, before, after) = record {
    elsewhere = λ leaf apart. ap (λ m. map.get m leaf) is;
    kept = λ leaf some. ap (λ m. map.get m leaf) is;
    made = λ leaf some. inl (ap (λ m. is_some (map.get m leaf)) (sym is) ∙ some);
    same = λ leaf rank stood at none has there. ap (λ m. map.get m leaf) is ∙ none;
    lost = λ leaf rank other stood at none has there apart.
        absurd (
        let own : rank ≡ kept = one_inherited old homes covers was rank kept (inherits old homes covers leaf was rank none (ap (map.get homes) at ∙ stands) has) before in
        apart (own ∙ one_inherited old homes covers home kept other after there)
        );
  }

  -- where it would be lost the leaves that inherit it get it
  pub settled_filled : (new : Roots) (rank : Rank) → MayMove homes d home → IsLostRank old homes covers d home (Some rank) → AreFilled old new d (leaves_of covers d) rank → KeepsRanksOf old new homes covers d home
  settled_filled new rank may (was, other, stands, before, after, apart) filled = record {
    elsewhere = filled.elsewhere;
    kept = filled.there;
    made = λ leaf some. made leaf (map.get old leaf) refl some;
    same = λ leaf r stood at none has there.
        absurd (
        let own = is_own leaf r at none has in
        apart (sym own ∙ one_inherited old homes covers home r other there after)
        );
    lost = λ leaf r another stood at none has there differs.
        let own = is_own leaf r at none has in
        let key : ◌≡◌ {A = Leaf} leaf (leaf_in_dir d leaf.1) = λ i. (record { 0 = at i }, leaf.1) in
        let here : HasLeaf (leaves_of covers d) leaf.1 = subst (λ e. HasLeaf (leaves_of covers e) leaf.1) at stood.stands in
        ap (map.get new) key ∙ filled.absent leaf.1 here (ap (map.get old) (sym key) ∙ none) ∙ ap (λ (q : Rank). Some q) (sym own);
  }
    where
      is_own : (leaf : Leaf) (r : Rank) → leaf.0.0 ≡ d → map.get old leaf ≡ None → HasAuthority old homes covers leaf r → r ≡ rank
      is_own leaf r at none has = one_inherited old homes covers was r rank (inherits old homes covers leaf was r none (ap (map.get homes) at ∙ stands) has) before

      made : (leaf : Leaf) (o : Option Rank) → map.get old leaf ≡ o → IsSome (map.get new leaf) → IsSome (map.get old leaf) ⊎ IsLive homes covers leaf
      made leaf (Some r) has some = inl (ap is_some has)
      made leaf None none some =
          let row = filled.made leaf none some in
          inr (record {
            known = subst (λ e. is_known homes e ≡ true) (sym row.0) (known_by homes d (map.get homes d) refl may.there);
            stands = subst (λ e. HasLeaf (leaves_of covers e) leaf.1) (sym row.0) row.1;
          })
