-- Which leaves an operation changes, and which of them a rank may change.
use Rattle.cluster_core.proofs.Common.{AreHeldAmong, Bool, Contains, Covers, Dirfrag, Fragment, HoldsAt, IfSome, Ino, IsAt, IsAuthority, IsMasterIn, IsPick, List, Lists, Located, Locates, Looks, Makes, MatchBool, MatchOption, Moves, None, Op, Option, Rank, Removes, Roots, Rules, Sets, Shape, Some, State, Tree, Unlinks, [], ap, arith, destination_in, destination_of, first, first_or_later, hash_at, in_directory, inl, inr, later, leaf_at, leaf_of, leaves_of, main_hash, main_in, main_leaf, pick_of, picked, refl, shape, shown_tree, subst, sym, ℕ, ◌↔◌, ◌∙◌, ◌∷◌, ◌≡◌}
use Rattle.subtree_map.specs.Authority.{Leaf}
use Rattle.mdcache.specs.State.{State as TreeState}

-- nothing is in an empty list
pub not_in_none : {A : Type 0} (x : A) → Contains {X = A} [] x → ⊥
not_in_none x (k, below, is) = omega (arith, below)

-- it is the leaf of that directory which the hash picks
main_picked : (covers : Covers) (s : Shape) → leaf_at covers (destination_in s) (main_in s) ≡ in_directory (destination_in s) (pick_of (leaves_of covers (destination_in s)) (hash_at (main_in s)))
main_picked covers (Looks dentry answer) = refl
main_picked covers (Lists dir after max) = refl
main_picked covers (Makes dentry kind mode birth) = refl
main_picked covers (Sets dentry alteration) = refl
main_picked covers (Unlinks dentry) = refl
main_picked covers (Removes dentry) = refl
main_picked covers (Moves from to) = refl

pub main_located : (covers : Covers) (op : Op) (dir : Ino) (f : Fragment) → dir.0 ≡ destination_of op → IsPick (leaves_of covers dir.0) (main_hash op) f → (dir, f) ≡ main_leaf covers op
main_located covers op dir f there pick =
    ap (λ (g : Fragment). (dir, g)) (sym (picked (leaves_of covers dir.0) (main_hash op) f pick)) ∙ ap (λ (d : ℕ). in_directory d (pick_of (leaves_of covers d) (main_hash op))) there ∙ sym (main_picked covers (shape op))

-- the authority of the leaf in which that hash falls is the master; where there is no such directory the rank itself is
pub master_located : (tree : TreeState) (roots held : Roots) (rank : Rank) (op : Op) (found : Option Located) (master : Rank) → Locates (shown_tree tree) tree.covers (HoldsAt tree held) (destination_of op) (main_hash op) found
    → MatchOption found (master ≡ rank) (λ located. Rules tree roots (leaf_of located.at) master) → IsMasterIn tree roots rank op master
master_located tree roots held rank op None master h is = subst (λ (b : Bool). MatchBool b (Rules tree roots (main_leaf tree.covers op) master) (master ≡ rank)) (sym h) is
master_located tree roots held rank op (Some located) master h is =
    let at = located.at in
    subst (λ (b : Bool). MatchBool b (Rules tree roots (main_leaf tree.covers op) master) (master ≡ rank)) (sym h.at.stands)
    (subst (λ (l : Leaf). Rules tree roots l master) (main_located tree.covers op at.dir at.frag h.at.dir (subst (λ (d : ℕ). IsPick (leaves_of tree.covers d) (main_hash op) at.frag) (sym h.at.dir) h.at.leaf)) is)

-- a leaf that was found is where a hash falls
pub where_found : (tree : Tree) (covers : Covers) (Holds : Dirfrag → Type 0) (dir hash : ℕ) (found : Option Located) → Locates tree covers Holds dir hash found → IfSome found (λ located. (d h : ℕ) × IsAt tree covers Holds d h located.at)
where_found tree covers Holds dir hash None h = tt
where_found tree covers Holds dir hash (Some located) h = (dir, hash, h.at)

-- those that are held among some leaves
pub held_exactly : (state : State) (rank : Rank) (leaves held : List Leaf) → AreHeldAmong state rank leaves held → (leaf : Leaf) → Contains held leaf ↔ (Contains leaves leaf × IsAuthority state leaf rank)
held_exactly state rank [] held none leaf = (λ has. absurd (not_in_none leaf (subst (λ o. Contains o leaf) none has)), λ w. absurd (not_in_none leaf w.0))
held_exactly state rank (one ∷ leaves) held (inl (mine, (rest, is, more))) leaf =
    let others = held_exactly state rank leaves rest more leaf in (
      λ has. elim (first_or_later one leaf rest (subst (λ o. Contains o leaf) is has)) [
        | inl same ↦ (subst (Contains (one ∷ leaves)) same (first one leaves), subst (λ (l : Leaf). IsAuthority state l rank) same mine)
        | inr among ↦ let w = others.0 among in (later one leaf leaves w.0, w.1)
      ],
      λ w. subst (λ o. Contains o leaf) (sym is) (elim (first_or_later one leaf leaves w.0) [
        | inl same ↦ subst (Contains (one ∷ rest)) same (first one rest)
        | inr among ↦ later one leaf rest (others.1 (among, w.1))
      ]),
    )
held_exactly state rank (one ∷ leaves) held (inr (foreign, more)) leaf =
    let others = held_exactly state rank leaves held more leaf in (
      λ has. let w = others.0 has in (later one leaf leaves w.0, w.1),
      λ w. elim (first_or_later one leaf leaves w.0) [
        | inl same ↦ absurd (foreign (subst (λ (l : Leaf). IsAuthority state l rank) (sym same) w.1))
        | inr among ↦ others.1 (among, w.1)
      ],
    )
