-- The invariant of a directory table, and what a change leaves of it.
use Rattle.std.proofs.Common.{⊎_elim, arith, ◌≡◌, ◌==◌, ◌||◌, ℕ, true, is_some, Option, Some, None, List, refl, sym, ap, subst, ◌∙◌}
use Rattle.std.proofs.lemmas.Bool.{or_right}
use Rattle.std.specs.Ordering.{nat_cmp}
use Rattle.std.specs.FinMap as map
use Rattle.std.specs.FinMap.{get-empty, gets}
use Rattle.mds_types.specs.Frag.{Fragment}
use Rattle.fragtree.specs.FragTree.{IsTree}
use Rattle.fragtree.proofs.Kept.{whole_tree}
use Rattle.sorted_map.proofs.NatKeys.{get_left, after_put, after_removal}
use Rattle.inode_table.specs.declared.dirs.Home.{Home}
use Rattle.inode_table.specs.Dirs.{Homes, Covers, IsTable, MayCome, MayMove, IsChildless, is_known, leaves_of, or_whole}
use Rattle.inode_table.proofs.Chains.{empty_rooted, adopted_rooted, moved_rooted, dropped_rooted}

-- the table of the root alone
pub empty_table : IsTable map.empty map.empty
empty_table = record {
  rooted = empty_rooted;
  known = λ d leaves is. let clash : None ≡ Some leaves = sym (get-empty nat_cmp d) ∙ is in absurd cc;
  covers = λ d leaves is. let clash : None ≡ Some leaves = sym (get-empty nat_cmp d) ∙ is in absurd cc;
}

-- the leaves of every directory are those of a tree
pub tree_of_row : (homes : Homes) (covers : Covers) → IsTable homes covers → (d : ℕ) → IsTree (leaves_of covers d)
tree_of_row homes covers table d = go (map.get covers d) refl
  where
    go : (row : Option (List Fragment)) → map.get covers d ≡ row → IsTree (or_whole row)
    go None is = whole_tree
    go (Some leaves) is = table.covers d leaves is

-- what has a home is a directory, and so is the root
pub known_by : (homes : Homes) (d : ℕ) (o : Option Home) → map.get homes d ≡ o → is_some o ≡ true → is_known homes d ≡ true
known_by homes d o is some = or_right (d == 1) _ (ap is_some is ∙ some)

-- a directory stays one when another gets a home
pub still_known : (homes : Homes) (d : ℕ) (home : Home) (x : ℕ) → is_known homes x ≡ true → is_known (map.insert homes d home) x ≡ true
still_known homes d home x known = grind (arith, gets, known)

-- a new directory comes in
pub adopted_table : (homes : Homes) (trees : Covers) (d : ℕ) (home : Home) → IsTable homes trees → MayCome homes d home → IsTable (map.insert homes d home) trees
adopted_table homes trees d home table may = record {
  rooted = adopted_rooted homes d home table.rooted may;
  known = λ x leaves is. still_known homes d home x (table.known x leaves is);
  covers = table.covers;
}

-- a directory moves
pub moved_table : (homes : Homes) (trees : Covers) (d : ℕ) (home : Home) → IsTable homes trees → MayMove homes d home → IsTable (map.insert homes d home) trees
moved_table homes trees d home table may = record {
  rooted = moved_rooted homes d home table.rooted may;
  known = λ x leaves is. still_known homes d home x (table.known x leaves is);
  covers = table.covers;
}

-- a directory goes with its leaves
pub dropped_table : (homes : Homes) (trees : Covers) (d : ℕ) → IsTable homes trees → IsChildless homes d → IsTable (map.remove homes d) (map.remove trees d)
dropped_table homes trees d table childless = record {
  rooted = dropped_rooted homes d table.rooted childless;
  known = λ x leaves is. let before = after_removal trees d x leaves is in ap (λ (o : Option Home). (x == 1) || is_some o) (get_left homes d x before.0) ∙ table.known x leaves before.1;
  covers = λ x leaves is. table.covers x leaves (after_removal trees d x leaves is).1;
}

-- a directory gets other leaves
pub set_table : (homes : Homes) (trees : Covers) (d : ℕ) (leaves : List Fragment) → IsTable homes trees → is_known homes d ≡ true → IsTree leaves → IsTable homes (map.insert trees d leaves)
set_table homes trees d leaves table known tree = record {
  rooted = table.rooted;
  known = λ x ls is. ⊎_elim (λ w. subst (λ k. is_known homes k ≡ true) (sym w.0) known) (λ w. table.known x ls w.1) (after_put trees d leaves x ls is);
  covers = λ x ls is. ⊎_elim (λ w. subst IsTree w.1 tree) (λ w. table.covers x ls w.1) (after_put trees d leaves x ls is);
}
