-- A store has at most one cold tree.
use Rattle.cold_store.proofs.Common.{Dentry, HasOneColdTree, HasRecords, Inode, None, Objects, Option, Some, Tree, dentry-exact, dentry-total, inl, inr, refl, same_map, sym, ◌∙◌, ◌≡◌}
use Rattle.std.specs.FinMap as map

-- what one tree with all records has, another has
shared : (objects : Objects) (a b : Tree) → HasRecords objects a → HasRecords objects b → (q : Dentry) (inode : Inode) → map.get a q ≡ Some inode → map.get b q ≡ Some inode
shared objects a b x y q inode stands = let r = x.only q.dir.0 q.name inode stands in y.all _ r.1 r.2

same_records : (objects : Objects) (a b : Tree) → HasRecords objects a → HasRecords objects b → a ≡ b
same_records objects a b x y = same_map dentry-total dentry-exact a b (λ q. go q (map.get a q) (map.get b q) refl refl)
  where
    go : (q : Dentry) (o p : Option Inode) → map.get a q ≡ o → map.get b q ≡ p → map.get a q ≡ map.get b q
    go q (Some inode) p here there = here ∙ sym (shared objects a b x y q inode here)
    go q None (Some inode) here there = shared objects b a y x q inode there ∙ sym there
    go q None None here there = here ∙ sym there

pub has_one_cold_tree : HasOneColdTree
has_one_cold_tree objects a b (inl (none, empty)) (inl (_, other)) = empty ∙ sym other
has_one_cold_tree objects a b (inl (none, empty)) (inr (some, _, _)) = absurd (some none)
has_one_cold_tree objects a b (inr (some, _, _)) (inl (none, other)) = absurd (some none)
has_one_cold_tree objects a b (inr (_, _, x)) (inr (_, _, y)) = same_records objects a b x y
