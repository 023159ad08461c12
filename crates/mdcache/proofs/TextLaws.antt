-- No two objects of leaves and trees have one name.
use Rattle.mdcache.proofs.Common.{Covers, Frag, Homes, Ino, IsFragment, IsLive, IsTable, Leaf, between, is_known, leaves_of, text_of, texts_differ, tree_of_row, tree_text, true, ℕ, ◌<◌, ◌^◌, ◌≡◌}
use Rattle.mds_types.specs.declared.object_names.ObjName.TheVariants.{Tree}

module _ (homes : Homes) (covers : Covers) (table : IsTable homes covers) (numbered : (d : ℕ) → is_known homes d ≡ true → d < 2 ^ 64) where
  is_fragment : (leaf : Leaf) → IsLive homes covers leaf → IsFragment leaf.1
  is_fragment leaf live = (between 0 16777216 (leaves_of covers leaf.0.0) leaf.1 (tree_of_row homes covers table leaf.0.0).tiles live.stands).0

  -- leaves whose objects have one name are one
  pub one_text : (a b : Leaf) → IsLive homes covers a → IsLive homes covers b → text_of a ≡ text_of b → a ≡ b
  one_text a b p q same =
      let names : Frag a.0 a.1 ≡ Frag b.0 b.1 = texts_differ (Frag a.0 a.1) (Frag b.0 b.1) (numbered a.0.0 p.known, is_fragment a p) (numbered b.0.0 q.known, is_fragment b q) same in
      let inos : a.0 ≡ b.0 = cc in
      let frags : a.1 ≡ b.1 = cc in
      λ i. (inos i, frags i)

  -- no object of a leaf is that of a tree
  pub no_tree_text : (leaf : Leaf) (dir : Ino) → IsLive homes covers leaf → is_known homes dir.0 ≡ true → text_of leaf ≡ tree_text dir → ⊥
  no_tree_text leaf dir live known same =
      let clash : Frag leaf.0 leaf.1 ≡ Tree dir = texts_differ (Frag leaf.0 leaf.1) (Tree dir) (numbered leaf.0.0 live.known, is_fragment leaf live) (numbered dir.0 known) same in
      cc
