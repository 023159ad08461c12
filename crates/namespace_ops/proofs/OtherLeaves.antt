-- A change leaves every leaf that is none of its fragments as it was.
use Rattle.std.specs.Prelude.{◌≡◌, ℕ, true, ◌⊎◌, ◌++◌, List, [], ◌∷◌, map as map_list, Option, Some, None, IfSome, refl}
use Rattle.std.specs.List.{Contains as Among}
use Rattle.std.proofs.Common.{sym, ap, subst, ◌∙◌, ⊎_elim, inl, inr, cond, arith}
use Rattle.std.specs.FinMap as map
use Rattle.mds_types.specs.declared.ids.Ino.{Ino}
use Rattle.mds_types.specs.declared.dentries.Dentry.{Dentry}
use Rattle.mds_types.specs.declared.inodes.Inode.{Inode}
use Rattle.mds_types.specs.Frag.{Fragment, Contains}
use Rattle.mds_types.specs.Tree.{Tree, at, dentry_of, is_directory, is_dir_kind, IsWellFormed}
use Rattle.mds_types.proofs.EntryLaws.{get_put, get_beside, get_left, same_or_apart}
use Rattle.mds_types.proofs.DirectoryLaws.{StandsAs, directory_stands, root_stands, entry_stands, one_dentry}
use Rattle.mds_types.proofs.MovedLaws.{may_move, still_directory as still_moved}
use Rattle.fragtree.specs.FragTree.{HasLeaf}
use Rattle.namehash.specs.Rjenkins.{hash_of}
use Rattle.inode_table.specs.Dirs.{Covers, leaves_of}
use Rattle.inode_table.specs.TreeChanges.{KeepLeaves}
use Rattle.namespace_ops.specs.declared.plans.Change.{Change}
use Rattle.namespace_ops.specs.declared.plans.Spot.{Spot}
use Rattle.mds_types.specs.Leaf.{Leaf, leaf_of}
use Rattle.namespace_ops.specs.Kept.{IsStanding, ShowsTheSame, OthersShowTheSame}
use Rattle.namespace_ops.specs.Changes.{IsDentryLeaf, IsSpot, MayChange, changed, dentry_at, directory_at, fragments_of, in_directory, leaf_put, leaf_taken, leaves, leaves_gone, put, taken}
use Rattle.namespace_ops.proofs.Members.{first, first_or_later, later}
use Rattle.namespace_ops.proofs.Shapes.{Shape, shape_of}
use Rattle.namespace_ops.proofs.Shapes.Shape.{add, move, remove, set}

-- a leaf of a directory is among its leaves
among_leaves : (d : ℕ) (fs : List Fragment) (f : Fragment) → HasLeaf fs f → Among (map_list (in_directory d) fs) (in_directory d f)
among_leaves d [] f has = absurd (none_of has)
  where
    none_of : HasLeaf [] f → ⊥
    none_of (k, stands, is) = omega (arith, stands)
among_leaves d (g ∷ gs) f has =
    ⊎_elim (λ same. subst (λ x. Among (map_list (in_directory d) (g ∷ gs)) (in_directory d x)) same (first _ _)) (λ rest. later _ _ _ (among_leaves d gs f rest)) (first_or_later g f gs has)

first_is : (one leaf : Leaf) (rest : List Leaf) → one ≡ leaf → Among (one ∷ rest) leaf
first_is one leaf rest same = subst (λ l. Among (one ∷ rest) l) same (first one rest)

module _ (tree : Tree) (covers : Covers) (whole : IsWellFormed tree) (leaf : Leaf) (stood : IsStanding tree covers leaf) where
  -- a name in this leaf is not at a dentry whose leaf is another
  apart : (dentry : Dentry) (other : Fragment) → IsDentryLeaf covers dentry other → ((dentry.dir, other) ≡ leaf → ⊥) → (name : List ℕ) → Contains leaf.1 (hash_of name) → dentry_of leaf.0.0 name ≡ dentry → ⊥
  apart dentry other pick elsewhere name inside same =
      let is : leaf.1 ≡ other = pick.alone leaf.1 (subst (λ (p : Dentry). HasLeaf (leaves_of covers p.dir.0) leaf.1) same stood.among) (subst (λ (p : Dentry). Contains leaf.1 (hash_of p.name)) same inside) in
      elsewhere (λ i. (record { 0 = (sym same i).dir.0 }, sym is i))

  -- this leaf is none of a directory's that goes
  not_gone : (went : Option Ino) (found : Option Inode) → went ≡ directory_at found → (Among (leaves_gone covers went) leaf → ⊥) → (t : Inode) → found ≡ Some t → is_dir_kind t.kind ≡ true → t.ino.0 ≡ leaf.0.0 → ⊥
  not_gone went found is elsewhere t there kinded same =
      let at_went : went ≡ Some t.ino = is ∙ ap directory_at there ∙ ap (λ b. cond b (Some t.ino) None) kinded in
      elsewhere (subst (λ w. Among (leaves_gone covers w) leaf) (sym at_went)
      (subst (λ d. Among (leaves covers d) leaf) (sym same) (among_leaves leaf.0.0 (leaves_of covers leaf.0.0) leaf.1 stood.among)))

  -- its directory stands where its entry does
  still : (new : Tree) → ((w : StandsAs tree leaf.0.0) → is_directory new leaf.0.0 ≡ true) → is_directory new leaf.0.0 ≡ true
  still new as_entry = ⊎_elim (λ root. ap (is_directory new) root ∙ root_stands new) as_entry (directory_stands tree leaf.0.0 stood.directory)

  stands_as : (new : Tree) (w : StandsAs tree leaf.0.0) → map.get new w.dentry ≡ map.get tree w.dentry → is_directory new leaf.0.0 ≡ true
  stands_as new w same = ap (is_directory new) (sym w.numbered) ∙ entry_stands new w.dentry w.inode (same ∙ w.stands) w.kinded

  directory_after : (change : Change) → Shape change → MayChange tree covers change → (Among (fragments_of covers change) leaf → ⊥) → is_directory (changed tree change) leaf.0.0 ≡ true
  directory_after _ (add spot inode) may elsewhere =
      still (map.insert tree (dentry_at spot) inode) (λ w. stands_as (map.insert tree (dentry_at spot) inode) w (get_beside tree (dentry_at spot) inode w.dentry
      (λ same. let clash : None ≡ Some w.inode = sym may.takes.free ∙ ap (map.get tree) (sym same) ∙ w.stands in cc)))
  directory_after _ (set spot inode) may elsewhere = still (map.insert tree (dentry_at spot) inode) (λ w. go w (same_or_apart w.dentry (dentry_at spot)))
    where
      go : (w : StandsAs tree leaf.0.0) → (w.dentry ≡ (dentry_at spot)) ⊎ (w.dentry ≡ (dentry_at spot) → ⊥) → is_directory (map.insert tree (dentry_at spot) inode) leaf.0.0 ≡ true
      go w (inr not_there) = stands_as _ w (get_beside tree (dentry_at spot) inode w.dentry not_there)
      go w (inl same) =
          let both : Some may.takes.before ≡ Some w.inode = sym may.takes.stands ∙ ap (map.get tree) (sym same) ∙ w.stands in
          let alike : may.takes.before ≡ w.inode = cc in
          ap (is_directory (map.insert tree (dentry_at spot) inode)) (sym w.numbered ∙ ap (λ (i : Inode). i.ino.0) (sym alike) ∙ ap (λ (i : _). i.0) (sym may.takes.number))
          ∙ entry_stands (map.insert tree (dentry_at spot) inode) (dentry_at spot) inode (get_put tree (dentry_at spot) inode) (ap is_dir_kind may.takes.kind ∙ ap (λ (i : Inode). is_dir_kind i.kind) alike ∙ w.kinded)
  directory_after _ (remove spot went) may elsewhere =
      still (map.remove tree (dentry_at spot)) (λ w. stands_as (map.remove tree (dentry_at spot)) w (get_left tree (dentry_at spot) w.dentry
      (λ same. not_gone went (map.get tree (dentry_at spot)) may.carries.gone (λ gone_one. elsewhere (later _ _ _ gone_one)) w.inode (ap (map.get tree) (sym same) ∙ w.stands) w.kinded w.numbered)))
  directory_after _ (move source target inode went) may elsewhere =
      still_moved tree (dentry_at source) (dentry_at target) inode whole (may_move tree (dentry_at source) (dentry_at target) inode whole may.takes) leaf.0.0
      (λ t there same. still_there t there same (directory_stands tree leaf.0.0 stood.directory)) stood.directory
    where
      still_there : (t : Inode) → map.get tree (dentry_at target) ≡ Some t → t.ino.0 ≡ leaf.0.0 → (leaf.0.0 ≡ 1) ⊎ StandsAs tree leaf.0.0 → ⊥
      still_there t there same (inl root) = whole.rootless (dentry_at target).dir.0 (dentry_at target).name t there (same ∙ root)
      still_there t there same (inr w) =
          let dentries : w.dentry ≡ (dentry_at target) = one_dentry tree whole w.dentry (dentry_at target) w.inode t w.stands there (w.numbered ∙ sym same) in
          let both : Some w.inode ≡ Some t = sym w.stands ∙ ap (map.get tree) dentries ∙ there in
          let alike : w.inode ≡ t = cc in
          not_gone went (map.get tree (dentry_at target)) may.carries.gone (λ gone_one. elsewhere (later (leaf_of source.at) leaf (leaf_of target.at ∷ leaves_gone covers went) (later (leaf_of target.at) leaf (leaves_gone covers went) gone_one))) t there (ap (λ (i : Inode). is_dir_kind i.kind) (sym alike) ∙ w.kinded) same

  -- the names of this leaf stay where one of another is taken, and where one gets an inode
  names_taken : (takes : Option Spot) (rest : List Leaf) → IfSome takes (IsSpot covers) → (Among (leaf_taken takes ++ rest) leaf → ⊥) → (name : List ℕ) → Contains leaf.1 (hash_of name)
      → map.get (taken tree takes) (dentry_of leaf.0.0 name) ≡ map.get tree (dentry_of leaf.0.0 name)
  names_taken None rest spots elsewhere name inside = refl
  names_taken (Some spot) rest spots elsewhere name inside = get_left tree (dentry_at spot) _ (apart (dentry_at spot) spot.at.frag spots (λ same. elsewhere (first_is _ _ rest same)) name inside)

  names_put : (old : Tree) (puts : Option (Spot × Inode)) (rest : List Leaf) → IfSome puts (λ put. IsSpot covers put.0) → (Among (leaf_put puts ++ rest) leaf → ⊥) → (name : List ℕ) → Contains leaf.1 (hash_of name)
      → map.get (put old puts) (dentry_of leaf.0.0 name) ≡ map.get old (dentry_of leaf.0.0 name)
  names_put old None rest spots elsewhere name inside = refl
  names_put old (Some one) rest spots elsewhere name inside = get_beside old (dentry_at one.0) one.1 _ (apart (dentry_at one.0) one.0.at.frag spots (λ same. elsewhere (first_is _ _ rest same)) name inside)

  among_put : (takes : Option Spot) (rest : List Leaf) → Among rest leaf → Among (leaf_taken takes ++ rest) leaf
  among_put None rest has = has
  among_put (Some spot) rest has = later (leaf_of spot.at) leaf rest has

  names_after : (change : Change) → MayChange tree covers change → (Among (fragments_of covers change) leaf → ⊥) → (name : List ℕ) → Contains leaf.1 (hash_of name)
      → map.get (changed tree change) (dentry_of leaf.0.0 name) ≡ map.get tree (dentry_of leaf.0.0 name)
  names_after change may elsewhere name inside =
      names_put (taken tree change.takes) change.puts (leaves_gone covers change.gone) may.carries.put (λ has. elsewhere (among_put change.takes (leaf_put change.puts ++ leaves_gone covers change.gone) has)) name inside
      ∙ names_taken change.takes (leaf_put change.puts ++ leaves_gone covers change.gone) may.carries.taken elsewhere name inside

pub others_show_the_same : (tree : Tree) (covers now : Covers) (change : Change) → IsWellFormed tree → MayChange tree covers change → KeepLeaves (changed tree change) covers now
    → OthersShowTheSame tree (changed tree change) covers now (fragments_of covers change)
others_show_the_same tree covers now change whole may keep leaf elsewhere stood =
    let here = directory_after tree covers whole leaf stood change (shape_of tree covers change may) may elsewhere in
    record {
      stands = record { directory = here; among = subst (λ fs. HasLeaf fs leaf.1) (sym (keep leaf.0.0 here)) stood.among };
      names = λ name inside. names_after tree covers whole leaf stood change may elsewhere name inside;
    }

-- where the tree stays, and each directory its leaves, every leaf does
pub kept_others : (tree new : Tree) (covers now : Covers) (leaves : List Leaf) → new ≡ tree → KeepLeaves new covers now → OthersShowTheSame tree new covers now leaves
kept_others tree new covers now leaves same keep leaf elsewhere stood =
    let here : is_directory new leaf.0.0 ≡ true = ap (λ t. is_directory t leaf.0.0) same ∙ stood.directory in
    record {
      stands = record { directory = here; among = subst (λ fs. HasLeaf fs leaf.1) (sym (keep leaf.0.0 here)) stood.among };
      names = λ name inside. ap (λ t. at t leaf.0.0 name) same;
    }

-- the tree that a change led to
pub others_stay : (tree new : Tree) (covers now : Covers) (change : Change) → IsWellFormed tree → MayChange tree covers change → new ≡ changed tree change → KeepLeaves new covers now
    → OthersShowTheSame tree new covers now (fragments_of covers change)
others_stay tree new covers now change whole may leads keep =
    subst (λ t. KeepLeaves t covers now → OthersShowTheSame tree t covers now (fragments_of covers change)) (sym leads) (others_show_the_same tree covers now change whole may) keep

-- a leaf that stood, where the tree and each directory's leaves stayed
pub kept_shows : (old new : Tree) (covers now : Covers) (leaf : Leaf) → new ≡ old → now ≡ covers → IsStanding old covers leaf → ShowsTheSame old new now leaf
kept_shows old new covers now leaf tree same stood = record {
  stands = record { directory = ap (λ t. is_directory t leaf.0.0) tree ∙ stood.directory; among = subst (λ k. HasLeaf (leaves_of k leaf.0.0) leaf.1) (sym same) stood.among };
  names = λ name inside. ap (λ t. at t leaf.0.0 name) tree;
}

-- a leaf that one step left as it was, and then another
pub shows_on : (first second third : Tree) (then now : Covers) (leaf : Leaf) → ShowsTheSame first second then leaf → ShowsTheSame second third now leaf → ShowsTheSame first third now leaf
shows_on first second third then now leaf p q = record { stands = q.stands; names = λ name inside. q.names name inside ∙ p.names name inside }
