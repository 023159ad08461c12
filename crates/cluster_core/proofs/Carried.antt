-- A change of a sound tree carries the leaves of its directories on.
use Rattle.cluster_core.proofs.Common.{Bool, CarryLeaves, Covers, Fragment, KeepLeaves, List, None, Option, Some, Tree, [], ap, cond, false, is_directory, is_known, known_is, leaves_of, or_whole, refl, root_fragment, shown_tree, sym, true, ℕ, ◌∙◌, ◌∷◌, ◌≡◌}
use Rattle.std.specs.FinMap as map
use Rattle.mdcache.specs.Sound.{IsSound}
use Rattle.mdcache.specs.State.{State}

module _ (s : State) (sound : IsSound s) where
  -- a directory that comes had no leaves of its own before
  no_row : (d : ℕ) → is_known s.homes d ≡ false → map.get s.covers d ≡ None
  no_row d unknown = go (map.get s.covers d) refl
    where
      go : (row : Option (List Fragment)) → map.get s.covers d ≡ row → row ≡ None
      go None is = refl
      go (Some leaves) is = let clash : true ≡ false = sym (sound.table.known d leaves is) ∙ unknown in cc

  -- where directories keep their leaves, one that came has the leaf `*`
  pub carried : (tree : Tree) (later : Covers) → KeepLeaves tree s.covers later → CarryLeaves (shown_tree s) tree s.covers later
  carried tree later keep d stands = keep d stands ∙ go (is_directory (shown_tree s) d) refl
    where
      go : (b : Bool) → is_directory (shown_tree s) d ≡ b → leaves_of s.covers d ≡ cond b (leaves_of s.covers d) (root_fragment ∷ [])
      go true is = refl
      go false is = ap or_whole (no_row d (known_is (shown_tree s) s.homes sound.tabled d ∙ is))
