-- Whether a rank may change the leaves of a change, from leaf to leaf.
use Rattle.cluster_core.proofs.Common.{Answers, Bool, Carries, Change, Checks, Contains, Contains-from_range, Covers, Dentry, Dirfrag, Fragment, HasLeaf, IfSome, Ino, Inode, IsAtHolder, IsAuthority, IsFragment, IsFrozenAt, IsPick, IsTree, IsTrue, LacksOneOf, List, MatchBool, MayTouch, MayTouchAll, MayTouchEach, None, Option, Rank, Request, Some, Spot, State, Tree, [], arith, cases_lt, cond, contains_start, dentry_at, directory_at, directory_gone, ends_low, entry_stands, false, first, first_or_later, grant_of, in_directory, inl, inr, is_dir_kind, is_directory, is_fragment, is_same_grant, later, leaf_of, list_any, map, none_in, one_authority, range_from_Contains, refl, shown, span, step, subst, sym, thawed_rules, true, ℕ, ◌%◌, ◌++◌, ◌+◌, ◌<◌, ◌^◌, ◌↔◌, ◌∙◌, ◌∷◌, ◌≡◌, ◌≤◌, ◌⊎◌}
use Rattle.mds_types.specs.declared.replies.Reply.{Reply as Replied}
use Rattle.cluster_core.proofs.Idle.{idle_fragments}
use Rattle.std.specs.FinMap as map_of
use Rattle.mds_types.specs.Frag.{Contains as ContainsHash}
use Rattle.subtree_map.specs.Authority.{Leaf}
use Rattle.subtree_map.proofs.Covers.{one_leaf}

-- the directory that goes with a change stands
pub gone_stands : (tree : Tree) (covers : Covers) (change : Change) → Carries tree covers change → IfSome change.gone (λ dir. is_directory tree dir.0 ≡ true)
gone_stands tree covers change carries = subst (λ (g : Option Ino). IfSome g (λ dir. is_directory tree dir.0 ≡ true)) (sym carries.gone) (go change.takes change.puts)
  where
    at : (dentry : Dentry) (found : Option Inode) → map_of.get tree dentry ≡ found → IfSome (directory_at found) (λ dir. is_directory tree dir.0 ≡ true)
    at dentry None is = tt
    at dentry (Some inode) is = kinded (is_dir_kind inode.kind) refl
      where
        kinded : (b : Bool) → is_dir_kind inode.kind ≡ b → IfSome (cond b (Some inode.ino) None) (λ dir. is_directory tree dir.0 ≡ true)
        kinded true dir = entry_stands tree dentry inode is dir
        kinded false dir = tt

    go : (takes : Option Spot) (puts : Option (Spot × Inode)) → IfSome (directory_gone tree takes puts) (λ dir. is_directory tree dir.0 ≡ true)
    go None puts = tt
    go (Some spot) None = at (dentry_at spot) (map_of.get tree (dentry_at spot)) refl
    go (Some spot) (Some put) = at (dentry_at put.0) (map_of.get tree (dentry_at put.0)) refl

-- a member of one of two lists that follow one another
in_left : (xs ys : List Leaf) (leaf : Leaf) → Contains xs leaf → Contains (xs ++ ys) leaf
in_left [] ys leaf has = absurd (none_in leaf has)
in_left (x ∷ xs) ys leaf has = elim (first_or_later x leaf xs has) [
  | inl same ↦ subst (λ (l : Leaf). Contains (x ∷ (xs ++ ys)) l) same (first x (xs ++ ys))
  | inr more ↦ later x leaf (xs ++ ys) (in_left xs ys leaf more)
]

in_right : (xs ys : List Leaf) (leaf : Leaf) → Contains ys leaf → Contains (xs ++ ys) leaf
in_right [] ys leaf has = has
in_right (x ∷ xs) ys leaf has = later x leaf (xs ++ ys) (in_right xs ys leaf has)

in_either : (xs ys : List Leaf) (leaf : Leaf) → Contains (xs ++ ys) leaf → Contains xs leaf ⊎ Contains ys leaf
in_either [] ys leaf has = inr has
in_either (x ∷ xs) ys leaf has = elim (first_or_later x leaf (xs ++ ys) has) [
  | inl same ↦ inl (subst (λ (l : Leaf). Contains (x ∷ xs) l) same (first x xs))
  | inr more ↦ elim (in_either xs ys leaf more) [
    | inl here ↦ inl (later x leaf xs here)
    | inr there ↦ inr there
  ]
]

module _ (state : State) (rank : Rank) (request : Request) where
  -- a leaf that isn't frozen is held by its authority
  rules_at : (at : Dirfrag) → (IsFrozenAt state (leaf_of at) → ⊥) → IsAtHolder state at → IsAuthority state (leaf_of at) at.rank
  rules_at at thawed held = thawed_rules state.exports state.roots state.tree.homes state.tree.covers (leaf_of at) at.rank thawed held

  -- a rank may change one that it holds,
  pub by_holding : (at : Dirfrag) → (IsFrozenAt state (leaf_of at) → ⊥) → IsAtHolder state at → at.rank ≡ rank → MayTouch state rank request (leaf_of at)
  by_holding at thawed held same = (thawed, inl (subst (IsAuthority state (leaf_of at)) same (rules_at at thawed held)))

  -- and otherwise one that is granted
  pub by_grant : (at : Dirfrag) (granted : Bool) → (IsFrozenAt state (leaf_of at) → ⊥) → IsAtHolder state at → (at.rank ≡ rank → ⊥) → granted ≡ list_any (is_same_grant (grant_of (leaf_of at) request.client request.tid)) state.pins
      → IsTrue granted ↔ MayTouch state rank request (leaf_of at)
  by_grant at granted thawed held other is = (λ told. (thawed, inr (sym is ∙ told)), λ may. go may.1)
    where
      go : IsAuthority state (leaf_of at) rank ⊎ (list_any (is_same_grant (grant_of (leaf_of at) request.client request.tid)) state.pins ≡ true) → IsTrue granted
      go (inl rules) = absurd (other (one_authority state.roots state.tree.homes state.tree.covers (leaf_of at) at.rank rank (rules_at at thawed held) rules))
      go (inr pinned) = is ∙ pinned

  -- one that is frozen it may not
  pub by_frozen : (at : Dirfrag) → IsFrozenAt state (leaf_of at) → IsTrue false ↔ MayTouch state rank request (leaf_of at)
  by_frozen at frozen = (λ told. let clash : false ≡ true = told in cc, λ may. absurd (may.0 frozen))

  -- the first of two lists decides where one of its leaves may not be changed, and the other where each may
  pub lacks_left : (xs ys : List Leaf) → LacksOneOf state rank request xs → LacksOneOf state rank request (xs ++ ys)
  lacks_left xs ys one = record { leaf = one.leaf; changes = in_left xs ys one.leaf one.changes; barred = one.barred }

  pub lacks_right : (xs ys : List Leaf) → LacksOneOf state rank request ys → LacksOneOf state rank request (xs ++ ys)
  lacks_right xs ys one = record { leaf = one.leaf; changes = in_right xs ys one.leaf one.changes; barred = one.barred }

  pub others_decide : (xs ys : List Leaf) (lacks : Bool) → MayTouchEach state rank request xs → MatchBool lacks (LacksOneOf state rank request ys) (MayTouchEach state rank request ys)
      → MatchBool lacks (LacksOneOf state rank request (xs ++ ys)) (MayTouchEach state rank request (xs ++ ys))
  others_decide xs ys true may one = lacks_right xs ys one
  others_decide xs ys false may each = λ leaf has. elim (in_either xs ys leaf has) [
    | inl here ↦ may leaf here
    | inr there ↦ each leaf there
  ]

  pub none_lacks : MayTouchEach state rank request []
  none_lacks leaf has = absurd (none_in leaf has)

  -- where the checks found a reply alone, the operation changes nothing
  pub idle_may : (n : ℕ) (said : Replied) → Checks (shown state) state.tree.covers (IsAtHolder state) request.op n (step state.tree.limit (shown state) request.op n) (Answers said) → MayTouchAll state rank request
  idle_may n said told = subst (MayTouchEach state rank request) (sym (idle_fragments state.tree.limit state.tree.covers (shown state) request.op n said told.0 told.1)) none_lacks

  pub only_one : (leaf : Leaf) (may : Bool) → (IsTrue may ↔ MayTouch state rank request leaf) → MatchBool may (MayTouchEach state rank request (leaf ∷ [])) (LacksOneOf state rank request (leaf ∷ []))
  only_one leaf true told = λ other has. elim (first_or_later leaf other [] has) [
    | inl same ↦ subst (MayTouch state rank request) same (told.0 refl)
    | inr more ↦ absurd (none_in other more)
  ]
  only_one leaf false told = record { leaf = leaf; changes = first leaf []; barred = λ may. let clash : false ≡ true = told.1 may in cc }

-- what was told of two outcomes
pub told_no : (P Q : Type 0) (b : Bool) → b ≡ false → MatchBool b P Q → Q
told_no P Q b is told = subst (λ (x : Bool). MatchBool x P Q) is told

pub told_yes : (P Q : Type 0) (b : Bool) → b ≡ true → MatchBool b P Q → P
told_yes P Q b is told = subst (λ (x : Bool). MatchBool x P Q) is told

-- what may not be changed, as was told
pub denied : {P : Type 0} (may : Bool) → (IsTrue may ↔ P) → may ≡ false → P → ⊥
denied may told is has = let clash : false ≡ true = sym is ∙ told.1 has in cc

-- a leaf that contains a hash has it in its range
in_range : (leaf : Fragment) (hash : ℕ) → IsFragment leaf → hash < 2 ^ 24 → ContainsHash leaf hash → (leaf.value ≤ hash) × (hash < leaf.value + span leaf.bits)
in_range leaf hash valid low holds =
    let range = range_from_Contains leaf hash valid holds in
    let same : hash % 2 ^ 24 ≡ hash = omega (arith, low) in
    (omega (arith, range.0, same), omega (arith, range.1, same))

-- a walk over all leaves of a directory: of each that begins before a hash this holds
abbrev pub Done : List Fragment → (Fragment → Type 0) → ℕ → Type 0
Done leaves P hash = (g : Fragment) → HasLeaf leaves g → g.value < hash → P g

module _ (leaves : List Fragment) (cover : IsTree leaves) (P : Fragment → Type 0) where
  pub nearer : (hash : ℕ) (leaf : Fragment) (end : ℕ) → hash < 2 ^ 24 → IsPick leaves hash leaf → end ≡ leaf.value + span leaf.bits → (hash < end) × (end ≤ 2 ^ 24)
  nearer hash leaf end low pick ends =
      let its = is_fragment leaves leaf cover pick.stands in
      let range = in_range leaf hash its low pick.contains in
      (omega (arith, range.1, ends), omega (arith, ends, ends_low leaf its))

  pub goes_on : (hash : ℕ) (leaf : Fragment) (end : ℕ) → hash < 2 ^ 24 → Done leaves P hash → IsPick leaves hash leaf → P leaf → end ≡ leaf.value + span leaf.bits → Done leaves P end
  goes_on hash leaf end low done pick holds ends g has before = go (cases_lt g.value hash)
    where
      own : hash ≤ g.value → P g
      own behind =
          let its = is_fragment leaves leaf cover pick.stands in
          let of_g = is_fragment leaves g cover has in
          let range = in_range leaf hash its low pick.contains in
          let same : g.value % 2 ^ 24 ≡ g.value = omega (arith, of_g.in_range) in
          let contains = Contains-from_range leaf g.value its (omega (arith, same, range.0, behind)) (omega (arith, same, ends, before)) in
          subst P (one_leaf leaves leaf g g.value cover pick.stands has contains (contains_start g of_g)) holds

      go : (g.value < hash) ⊎ (hash ≤ g.value) → P g
      go (inl earlier) = done g has earlier
      go (inr behind) = own behind

  pub ends_all : (hash : ℕ) → 2 ^ 24 ≤ hash → Done leaves P hash → (g : Fragment) → HasLeaf leaves g → P g
  ends_all hash beyond done g has = let of_g = is_fragment leaves g cover has in done g has (omega (arith, of_g.in_range, beyond))

-- what holds of the leaves of a directory holds of each of them as a leaf of the tree
pub of_each : (dir : ℕ) (Q : Leaf → Type 0) (fs : List Fragment) → ((g : Fragment) → HasLeaf fs g → Q (in_directory dir g)) → (leaf : Leaf) → Contains (map (in_directory dir) fs) leaf → Q leaf
of_each dir Q [] all leaf has = absurd (none_in leaf has)
of_each dir Q (f ∷ fs) all leaf has = elim (first_or_later (in_directory dir f) leaf (map (in_directory dir) fs) has) [
  | inl same ↦ subst Q same (all f (first f fs))
  | inr more ↦ of_each dir Q fs (λ g in_it. all g (later f g fs in_it)) leaf more
]

pub is_among : (dir : ℕ) (fs : List Fragment) (f : Fragment) → HasLeaf fs f → Contains (map (in_directory dir) fs) (in_directory dir f)
is_among dir [] f has = absurd (none_in f has)
is_among dir (g ∷ gs) f has = elim (first_or_later g f gs has) [
  | inl same ↦ subst (λ (h : Fragment). Contains (map (in_directory dir) (g ∷ gs)) (in_directory dir h)) same (first (in_directory dir g) (map (in_directory dir) gs))
  | inr more ↦ later (in_directory dir g) (in_directory dir f) (map (in_directory dir) gs) (is_among dir gs f more)
]
