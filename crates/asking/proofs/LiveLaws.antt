-- Each leaf that an operation would change is live, so it has an authority, which is one of the ranks.
use Rattle.asking.proofs.Common.{Bool, Contains, Core, Dentry, Entry, Fragment, HasLeaf, Inode, IsLive, IsSound, IsSoundTree, Leaf, List, Lists, Looks, Makes, Moves, None, Op, Opening, Option, Rank, Removes, Rules, Sets, Shape, Some, TreeState, Unlinks, [], and_parts, ap, arith, cond, destination_in, directory_in, done_in, entry_stands, false, first, first_or_later, fragment_of, in_directory, inl, inr, is_dir_kind, is_directory, is_errno, later, leaf_live, leaves, leaves_at, leaves_of, length, none_in, picked, refl, shape, shown_tree, some_authority, some_pick, step, step_in, subst, sym, touched_in, tree_of_row, true, unless_errno, would_change_in, ℕ, ◌&&◌, ◌<◌, ◌∙◌, ◌∷◌, ◌≡◌}
use Rattle.std.specs.FinMap as map
use Rattle.std.proofs.Common.{map as map_list}
use Rattle.std.specs.Ordering.{eq_by_cmp}
use Rattle.mds_types.specs.Tree.{dentry_cmp}
use Rattle.mds_types.specs.Step.{answers}
use Rattle.mds_types.specs.declared.replies.Reply.{Reply as Replied}
use Rattle.mds_types.specs.declared.replies.Reply.TheVariants.{Errno}

-- a leaf among those of a directory is one of that directory
among : (d : ℕ) (fs : List Fragment) (leaf : Leaf) → Contains (map_list (in_directory d) fs) leaf → (leaf.0.0 ≡ d) × HasLeaf fs leaf.1
among d [] leaf has = absurd (none_in leaf has)
among d (f ∷ fs) leaf has = elim (first_or_later (in_directory d f) leaf (map_list (in_directory d) fs) has) [
  | inl same ↦ (ap (λ (l : Leaf). l.0.0) (sym same), subst (λ (l : Leaf). HasLeaf (f ∷ fs) l.1) same (first f fs))
  | inr rest ↦ let w = among d fs leaf rest in (w.0, later f leaf.1 fs w.1)
]

module _ (s : TreeState) (sound : IsSoundTree s) where
  -- the leaf of a dentry is live, where its directory stands
  of_dentry : (dentry : Dentry) → is_directory (shown_tree s) dentry.dir.0 ≡ true → IsLive s.homes s.covers (fragment_of s.covers dentry)
  of_dentry dentry stands =
      let pick = some_pick (leaves_of s.covers dentry.dir.0) _ (tree_of_row s.homes s.covers sound.table dentry.dir.0) in
      leaf_live s sound dentry.dir stands (leaves_of s.covers dentry.dir.0) refl _
      (subst (HasLeaf (leaves_of s.covers dentry.dir.0)) (sym (picked (leaves_of s.covers dentry.dir.0) _ pick.0 pick.1)) pick.1.stands)

  -- so are those of a directory that stands at a dentry
  of_directory : (dentry : Dentry) (found : Option Inode) → map.get (shown_tree s) dentry ≡ found → (leaf : Leaf) → Contains (leaves_at s.covers found) leaf → IsLive s.homes s.covers leaf
  of_directory dentry None is leaf has = absurd (none_in leaf has)
  of_directory dentry (Some inode) is leaf has = go (is_dir_kind inode.kind) refl has
    where
      go : (b : Bool) → is_dir_kind inode.kind ≡ b → Contains (cond b (leaves s.covers inode.ino.0) []) leaf → IsLive s.homes s.covers leaf
      go false kind here = absurd (none_in leaf here)
      go true kind here =
          let w = among inode.ino.0 (leaves_of s.covers inode.ino.0) leaf here in
          let at : is_directory (shown_tree s) leaf.0.0 ≡ true = ap (is_directory (shown_tree s)) w.0 ∙ entry_stands (shown_tree s) dentry inode is kind in
          leaf_live s sound leaf.0 at (leaves_of s.covers inode.ino.0) (ap (leaves_of s.covers) (sym w.0)) leaf.1 w.1

  -- one leaf, and those that are named beside it
  one_or : (one leaf : Leaf) (others : List Leaf) → IsLive s.homes s.covers one → (Contains others leaf → IsLive s.homes s.covers leaf) → Contains (one ∷ others) leaf → IsLive s.homes s.covers leaf
  one_or one leaf others live rest has = elim (first_or_later one leaf others has) [
    | inl same ↦ subst (IsLive s.homes s.covers) same live
    | inr more ↦ rest more
  ]

  alone : (one leaf : Leaf) → IsLive s.homes s.covers one → Contains (one ∷ []) leaf → IsLive s.homes s.covers leaf
  alone one leaf live has = one_or one leaf [] live (λ more. absurd (none_in leaf more)) has

  touched_live : (sh : Shape) → is_directory (shown_tree s) (directory_in sh) ≡ true → is_directory (shown_tree s) (destination_in sh) ≡ true → (leaf : Leaf) → Contains (touched_in s.covers (shown_tree s) sh) leaf → IsLive s.homes s.covers leaf
  touched_live (Looks dentry answer) here there leaf has = absurd (none_in leaf has)
  touched_live (Lists dir after max) here there leaf has = absurd (none_in leaf has)
  touched_live (Makes dentry kind mode birth) here there leaf has = alone _ leaf (of_dentry dentry here) has
  touched_live (Sets dentry alteration) here there leaf has = alone _ leaf (of_dentry dentry here) has
  touched_live (Unlinks dentry) here there leaf has = alone _ leaf (of_dentry dentry here) has
  touched_live (Removes dentry) here there leaf has = one_or _ leaf _ (of_dentry dentry here) (of_directory dentry _ refl leaf) has
  touched_live (Moves from to) here there leaf has = go (eq_by_cmp dentry_cmp from to) has
    where
      go : (b : Bool) → Contains (cond b [] (fragment_of s.covers from ∷ fragment_of s.covers to ∷ leaves_at s.covers (map.get (shown_tree s) to))) leaf → IsLive s.homes s.covers leaf
      go true none = absurd (none_in leaf none)
      go false some = one_or (fragment_of s.covers from) leaf (fragment_of s.covers to ∷ leaves_at s.covers (map.get (shown_tree s) to)) (of_dentry from here) (one_or (fragment_of s.covers to) leaf (leaves_at s.covers (map.get (shown_tree s) to)) (of_dentry to there) (of_directory to (map.get (shown_tree s) to) refl leaf)) some

  -- what an operation would change is named where it answers no errno,
  unless : (reply : Replied) (ls : List Leaf) (leaf : Leaf) → Contains (unless_errno reply ls) leaf → (is_errno reply ≡ false) × Contains ls leaf
  unless reply ls leaf has = go (is_errno reply) refl has
    where
      go : (b : Bool) → is_errno reply ≡ b → Contains (cond b [] ls) leaf → (is_errno reply ≡ false) × Contains ls leaf
      go true e none = absurd (none_in leaf none)
      go false e some = (e, some)

  -- and so where its directories stand
  stand : (limit : ℕ) (sh : Shape) (n : ℕ) → is_errno (step_in limit (shown_tree s) sh n).reply ≡ false → (is_directory (shown_tree s) (directory_in sh) && is_directory (shown_tree s) (destination_in sh)) ≡ true
  stand limit sh n none = go (is_directory (shown_tree s) (directory_in sh) && is_directory (shown_tree s) (destination_in sh)) refl
    where
      go : (b : Bool) → (is_directory (shown_tree s) (directory_in sh) && is_directory (shown_tree s) (destination_in sh)) ≡ b → (is_directory (shown_tree s) (directory_in sh) && is_directory (shown_tree s) (destination_in sh)) ≡ true
      go true e = e
      go false e = let clash : true ≡ false = sym (ap (λ (b : Bool). is_errno (cond b (done_in limit (shown_tree s) sh n) (answers (shown_tree s) (Errno 116))).reply) e) ∙ none in absurd cc

  pub change_live : (op : Op) (leaf : Leaf) → Contains (would_change_in s op) leaf → IsLive s.homes s.covers leaf
  change_live op leaf has =
      let w = unless (step s.limit (shown_tree s) op 0).reply (touched_in s.covers (shown_tree s) (shape op)) leaf has in
      let dirs = and_parts _ _ (stand s.limit (shape op) 0 w.0) in
      touched_live (shape op) dirs.0 dirs.1 leaf w.1

module _ (opening : Opening) (history : List Entry) (core : Core) (sound : IsSound opening history core) where
  -- an authority is one of the ranks,
  pub is_rank : (leaf : Leaf) (rank : Rank) → Rules core.state.tree core.state.roots leaf rank → rank.0 < length core.state.inboxes
  is_rank leaf rank has = omega (arith, sound.exported.ranked has.root rank has.ranked, sound.ranks.inboxes, sound.ranks.caches)

  -- of which there are 16 at most
  pub is_one_of_16 : (rank : Rank) → rank.0 < length core.state.inboxes → rank.0 < 16
  is_one_of_16 rank there =
      let own = sound.supplied rank.0 (omega (arith, there, sound.ranks.inboxes)) in
      omega (arith, own.own, own.supply.ranked)

  -- each leaf that an operation would change has one
  pub change_ruled : (op : Op) (leaf : Leaf) → Contains (would_change_in core.state.tree op) leaf → (rank : Rank) × Rules core.state.tree core.state.roots leaf rank
  change_ruled op leaf has =
      some_authority core.state.roots core.state.tree.homes core.state.tree.covers sound.tree.sound.table sound.subtrees leaf (change_live core.state.tree sound.tree.sound op leaf has)
