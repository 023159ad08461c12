-- What the steps of a flush end in.
use Rattle.mdcache.proofs.Common.{ArePurged, Fragment, HasTrees, Ino, HasOwner, IsSound, List, None, Omap, Option, PurgedAreFlushed, Some, State, ap, cond, false, get-empty, inl, inr, is_known, is_some, length, nat_lt, or_whole, refl, sym, tree_object, tree_text, true, ◌∙◌, ◌≡◌}
use Rattle.std.specs.FinMap as map
use Rattle.mdcache.proofs.CoverRows.{known_by_row}
use Rattle.mdcache.proofs.NoNames.{none_unless}
use Rattle.mdcache.proofs.SavedTreeLaws.{one_tree_text}
use Rattle.mdcache.proofs.TextLaws.{no_tree_text}

-- the object that a directory's tree has by the leaves of its row
abbrev its_object : Option (List Fragment) → Option Omap
its_object row = cond (nat_lt 1 (length (or_whole row))) (Some (tree_object (or_whole row))) None

-- where nothing is left to be removed, a directory whose leaves were never set has no tree object
module _ (s : State) (sound : IsSound s) (none : s.purge ≡ map.empty) (dir : Ino) (known : is_known s.homes dir.0 ≡ true)
    (unset : map.get s.covers dir.0 ≡ None) where
  not_owned : HasOwner s (tree_text dir) → ⊥
  not_owned (inl (leaf, live, same)) = no_tree_text s.homes s.covers sound.table sound.numbered leaf dir live known (sym same)
  not_owned (inr (inl (d, row, same))) =
      let one = one_tree_text dir d (sound.numbered dir.0 known) (sound.numbered d.0 (known_by_row s.homes s.covers sound.table d.0 row)) same in
      let clash : false ≡ true = ap is_some (sym unset ∙ ap (map.get s.covers) one) ∙ row in
      cc
  not_owned (inr (inr listed)) =
      let clash : false ≡ true = ap is_some (sym (ap (λ p. map.get p (tree_text dir)) none ∙ get-empty _ (tree_text dir))) ∙ listed in
      cc

  pub no_object : map.get s.objects (tree_text dir) ≡ None
  no_object = none_unless (map.get s.objects (tree_text dir)) (λ o is. not_owned (sound.owned (tree_text dir) (ap is_some is)))

module _ (mid new : State) (clean : mid.unsaved ≡ map.empty) (trees : HasTrees mid) (purged : ArePurged mid new)
    (sound : IsSound new) (none : new.purge ≡ map.empty) where
  tree_there : (dir : Ino) → is_known new.homes dir.0 ≡ true
      → map.get new.objects (tree_text dir) ≡ its_object (map.get new.covers dir.0)
  tree_there dir known = elim (map.get new.covers dir.0) as (λ row. map.get new.covers dir.0 ≡ row → map.get new.objects (tree_text dir) ≡ its_object row) [
    | None ↦ λ unset. no_object new sound none dir known unset
    | Some leaves ↦ λ set.
        let was : map.get mid.covers dir.0 ≡ Some leaves = sym (ap (λ (s : State). map.get s.covers dir.0) purged.left) ∙ set in
        let has = trees dir (ap is_some was) in
        (purged.others (tree_text dir) has.listed).0 ∙ has.object ∙ ap its_object was
  ] refl

pub purged_are_flushed : PurgedAreFlushed
purged_are_flushed old new clean trees purged sound none = record { clean = ap (λ (s : State). s.unsaved) purged.left ∙ clean; trees = tree_there old new clean trees purged sound none }
