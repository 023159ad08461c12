-- What an export of another root sent is as it was, while one is taken on.
use Rattle.asking.proofs.Common.{Covers, Leaf, List, None, Rank, Roots, Some, State, TreeState, ap, inl, inr, subst, sym, ℕ, ◌∙◌, ◌≡◌, ◌⊎◌}
use Rattle.std.specs.FinMap as map
use Rattle.std.specs.Option.{option_map}
use Rattle.inode_table.specs.Dirs.{Homes}
use Rattle.mds_types.proofs.LeafLaws.{get_beside, get_put, same_or_apart}
use Rattle.subtree_map.specs.Authority.{NearestRoot}
use Rattle.subtree_map.specs.Authority.NearestRoot.{inherited, itself}
use Rattle.subtree_map.proofs.Nearest.{one_root}
use Rattle.export_steps.specs.declared.exports.StandingExport.{StandingExport}
use Rattle.ranked_tree.proofs.Common.{sent_of}
use Rattle.ranked_tree.specs.Importing.{IsRenewed}
use Rattle.ranked_tree.specs.Sending.{IsInRegionOf, SpellsRegion}
use Rattle.cluster_core.specs.Exporting.{KeepsTreeAndRoots}
use Rattle.asking.specs.Ending.{KeepsSpelled}

pub spelled_same : (old new : State) (root : Leaf) → new ≡ old → KeepsSpelled old new root
spelled_same old new root same = subst (λ (s : State). KeepsSpelled old s root) (sym same) (λ other export bytes apart spells. spells)

pub spelled_kept : (old new : State) (root : Leaf) → KeepsTreeAndRoots old new → KeepsSpelled old new root
spelled_kept old new root keeps other export bytes apart spells =
    subst (λ (t : TreeState). SpellsRegion t new.roots other export bytes) (sym keeps.tree) (subst (λ (r : Roots). SpellsRegion old.tree r other export bytes) (sym keeps.roots) spells)

-- ---- a region that is imported

module _ (roots : Roots) (old new : TreeState) (root : Leaf) (renewed : IsRenewed (IsInRegionOf old roots root) old new) where
  to_old : (other leaf : Leaf) → IsInRegionOf new roots other leaf → IsInRegionOf old roots other leaf
  to_old other leaf = subst (λ (t : TreeState). IsInRegionOf t roots other leaf) renewed.left

  from_old : (other leaf : Leaf) → IsInRegionOf old roots other leaf → IsInRegionOf new roots other leaf
  from_old other leaf = subst (λ (t : TreeState). IsInRegionOf t roots other leaf) (sym renewed.left)

  -- no leaf is in two regions
  beside : (other leaf : Leaf) → (other ≡ root → ⊥) → IsInRegionOf old roots other leaf → map.get new.unsaved leaf ≡ map.get old.unsaved leaf
  beside other leaf apart within = renewed.others leaf (λ inside. apart (one_root roots old.homes old.covers leaf other root within inside))

  renewed_spells : (other : Leaf) (export : StandingExport) (bytes : List ℕ) → (other ≡ root → ⊥) → SpellsRegion old roots other export bytes → SpellsRegion new roots other export bytes
  renewed_spells other export bytes apart its = record {
    export = its.export;
    spelled = its.spelled;
    handed = record {
      ino = its.handed.ino;
      frag = its.handed.frag;
      exporter = its.handed.exporter;
      importer = its.handed.importer;
      sent = its.handed.sent;
      are = record {
        all = λ leaf within. its.handed.are.all leaf (to_old other leaf within) ∙ ap (λ u. option_map (sent_of leaf) u) (sym (beside other leaf apart (to_old other leaf within)));
        only = λ leaf frag is. from_old other leaf (its.handed.are.only leaf frag is);
      };
      frags = its.handed.frags;
    };
  }

pub spelled_imported : (old new : State) (root : Leaf) → IsRenewed (IsInRegionOf old.tree old.roots root) old.tree new.tree → new.roots ≡ old.roots → KeepsSpelled old new root
spelled_imported old new root renewed same other export bytes apart spells =
    subst (λ (r : Roots). SpellsRegion new.tree r other export bytes) (sym same) (renewed_spells old.roots old.tree new.tree root renewed other export bytes apart spells)

-- ---- a region whose root gets another rank

module _ (m : Roots) (root : Leaf) (was now : Rank) (there : map.get m root ≡ Some was) (homes : Homes) (covers : Covers) where
  is_none : (leaf : Leaf) → map.get m leaf ≡ None → map.get (map.insert m root now) leaf ≡ None
  is_none leaf none = go (same_or_apart leaf root)
    where
      go : (leaf ≡ root) ⊎ (leaf ≡ root → ⊥) → map.get (map.insert m root now) leaf ≡ None
      go (inl same) = let clash : None ≡ Some was = sym none ∙ (ap (λ (l : Leaf). map.get m l) same ∙ there) in absurd cc
      go (inr apart) = get_beside m root now leaf apart ∙ none

  was_none : (leaf : Leaf) → map.get (map.insert m root now) leaf ≡ None → map.get m leaf ≡ None
  was_none leaf none = go (same_or_apart leaf root)
    where
      go : (leaf ≡ root) ⊎ (leaf ≡ root → ⊥) → map.get m leaf ≡ None
      go (inl same) = let clash : None ≡ Some now = sym none ∙ (ap (λ (l : Leaf). map.get (map.insert m root now) l) same ∙ get_put m root now) in absurd cc
      go (inr apart) = sym (get_beside m root now leaf apart) ∙ none

  is_root : (leaf : Leaf) (rank : Rank) → map.get m leaf ≡ Some rank → NearestRoot (map.insert m root now) homes covers leaf leaf
  is_root leaf rank is = go (same_or_apart leaf root)
    where
      go : (leaf ≡ root) ⊎ (leaf ≡ root → ⊥) → NearestRoot (map.insert m root now) homes covers leaf leaf
      go (inl same) = itself leaf now (ap (λ (l : Leaf). map.get (map.insert m root now) l) same ∙ get_put m root now)
      go (inr apart) = itself leaf rank (get_beside m root now leaf apart ∙ is)

  was_root : (leaf : Leaf) (rank : Rank) → map.get (map.insert m root now) leaf ≡ Some rank → NearestRoot m homes covers leaf leaf
  was_root leaf rank is = go (same_or_apart leaf root)
    where
      go : (leaf ≡ root) ⊎ (leaf ≡ root → ⊥) → NearestRoot m homes covers leaf leaf
      go (inl same) = itself leaf was (ap (λ (l : Leaf). map.get m l) same ∙ there)
      go (inr apart) = itself leaf rank (sym (get_beside m root now leaf apart) ∙ is)

  near_to : (leaf near : Leaf) → NearestRoot m homes covers leaf near → NearestRoot (map.insert m root now) homes covers leaf near
  near_to _ _ (itself near rank has) = is_root near rank has
  near_to _ _ (inherited leaf holder near home none stands holds rest) = inherited leaf holder near home (is_none leaf none) stands holds (near_to holder near rest)

  near_from : (leaf near : Leaf) → NearestRoot (map.insert m root now) homes covers leaf near → NearestRoot m homes covers leaf near
  near_from _ _ (itself near rank has) = was_root near rank has
  near_from _ _ (inherited leaf holder near home none stands holds rest) = inherited leaf holder near home (was_none leaf none) stands holds (near_from holder near rest)

put_spells : (tree : TreeState) (m : Roots) (root : Leaf) (was now : Rank) → map.get m root ≡ Some was → (other : Leaf) (export : StandingExport) (bytes : List ℕ) → SpellsRegion tree m other export bytes → SpellsRegion tree (map.insert m root now) other export bytes
put_spells tree m root was now there other export bytes its = record {
  export = its.export;
  spelled = its.spelled;
  handed = record {
    ino = its.handed.ino;
    frag = its.handed.frag;
    exporter = its.handed.exporter;
    importer = its.handed.importer;
    sent = its.handed.sent;
    are = record {
      all = λ leaf within. its.handed.are.all leaf (near_from m root was now there tree.homes tree.covers leaf other within);
      only = λ leaf frag is. near_to m root was now there tree.homes tree.covers leaf other (its.handed.are.only leaf frag is);
    };
    frags = its.handed.frags;
  };
}

pub spelled_finished : (old new : State) (root : Leaf) (was now : Rank) → map.get old.roots root ≡ Some was → new.roots ≡ map.insert old.roots root now → new.tree ≡ old.tree → KeepsSpelled old new root
spelled_finished old new root was now there roots tree other export bytes apart spells =
    subst (λ (t : TreeState). SpellsRegion t new.roots other export bytes) (sym tree)
    (subst (λ (r : Roots). SpellsRegion old.tree r other export bytes) (sym roots) (put_spells old.tree old.roots root was now there other export bytes spells))
