-- The fragments of a checked change are the operation's changed fragments, and each is named once.
use Rattle.namespace_ops.proofs.Common.{AreApart, Bool, Carries, Change, Changes, Checked, Checks, Contains, Covers, Dentry, Dirfrag, Err, Fragment, IfOk, IfSome, Ino, Inode, IsChangeIn, IsChecked, IsCovered, IsDentryLeaf, IsMoveTo, IsRemovalAt, IsSpot, IsUnlinkAt, Leaf, List, Lists, Looks, Makes, Moves, NamesOnce, None, Ok, Op, Option, PutsAt, Refusal, Removes, Result, Sets, Shape, Some, Spot, Takes, LosesName, TakesBy, Tree, Unlinks, [], ap, arith, changed_fragments, cond, dentry_at, dentry_cmp, directory_at, directory_gone, entries_there, eq_by_cmp, errno_of_any_number, false, fragment_of, fragments_of, has_entries, in_directory, is_dir_kind, is_errno, is_idle, leaf_of, leaf_put, leaf_taken, leaves, leaves_at, leaves_gone, leaves_of, named_once, other_put, refl, replace_errno, reply_by, same_leaf, shape, stays, stays_in, step, subst, sym, touched, touched_in, true, unless_same, ℕ, ⊎_elim, ◌&&◌, ◌++◌, ◌||◌, ◌∙◌, ◌∷◌, ◌≡◌}
use Rattle.std.specs.FinMap as map
use Rattle.namespace_ops.proofs.CheckedParts.{checks_on}
use Rattle.namespace_ops.proofs.PickLaws.{picked}
use Rattle.namespace_ops.proofs.Members.{first_or_later, in_dir, later, leaves_apart, none_in, one_leaf, two_leaves}

leaf_is : (covers : Covers) (dentry : Dentry) (leaf : Fragment) → IsDentryLeaf covers dentry leaf → (dentry.dir, leaf) ≡ fragment_of covers dentry
leaf_is covers dentry leaf pick = ap (in_directory dentry.dir.0) (sym (picked _ _ _ pick))

leaf_at : (covers : Covers) (dentry : Dentry) (spot : Spot) → dentry_at spot ≡ dentry → IsSpot covers spot → leaf_of spot.at ≡ fragment_of covers dentry
leaf_at covers dentry spot same pick = leaf_is covers (dentry_at spot) spot.at.frag pick ∙ ap (fragment_of covers) same

gone_leaves : (covers : Covers) (found : Option Inode) (gone : Option Ino) → gone ≡ directory_at found → leaves_gone covers gone ≡ leaves_at covers found
gone_leaves covers None gone is = ap (leaves_gone covers) is
gone_leaves covers (Some inode) gone is = ap (leaves_gone covers) is ∙ go (is_dir_kind inode.kind)
  where
    go : (b : Bool) → leaves_gone covers (cond b (Some inode.ino) None) ≡ cond b (leaves covers inode.ino.0) []
    go true = refl
    go false = refl

module _ (tree : Tree) (covers : Covers) where
  taken_leaf : (dentry : Dentry) (takes : Option Spot) → LosesName dentry takes → IfSome takes (IsSpot covers) → leaf_taken takes ≡ fragment_of covers dentry ∷ []
  taken_leaf dentry None at_dentry spots = absurd at_dentry
  taken_leaf dentry (Some spot) at_dentry spots = ap (λ l. l ∷ []) (leaf_at covers dentry spot at_dentry spots)

  put_leaf : (dentry : Dentry) (Is : Inode → Type 0) (puts : Option (Spot × Inode)) → PutsAt dentry Is puts → IfSome puts (λ put. IsSpot covers put.0) → leaf_put puts ≡ fragment_of covers dentry ∷ []
  put_leaf dentry Is None at_dentry spots = absurd at_dentry
  put_leaf dentry Is (Some put) at_dentry spots = ap (λ l. l ∷ []) (leaf_at covers dentry put.0 at_dentry.0 spots)

  -- the directory that goes stood at the dentry that is taken, or, where that is put, at the other
  gone_taken : (dentry : Dentry) (takes : Option Spot) (puts : Option (Spot × Inode)) → LosesName dentry takes → puts ≡ None → directory_gone tree takes puts ≡ directory_at (map.get tree dentry)
  gone_taken dentry None puts at_dentry none = absurd at_dentry
  gone_taken dentry (Some spot) puts at_dentry none = ap (directory_gone tree (Some spot)) none ∙ ap (λ d. directory_at (map.get tree d)) at_dentry

  gone_put : (here there : Dentry) (Is : Inode → Type 0) (takes : Option Spot) (puts : Option (Spot × Inode)) → LosesName here takes → PutsAt there Is puts → directory_gone tree takes puts ≡ directory_at (map.get tree there)
  gone_put here there Is None puts at_here at_there = absurd at_here
  gone_put here there Is (Some spot) None at_here at_there = absurd at_there
  gone_put here there Is (Some spot) (Some put) at_here at_there = ap (λ d. directory_at (map.get tree d)) at_there.0

  of_put : (dentry : Dentry) (Is : Inode → Type 0) (change : Change) → change.takes ≡ None → PutsAt dentry Is change.puts → change.gone ≡ None → Carries tree covers change → fragments_of covers change ≡ fragment_of covers dentry ∷ []
  of_put dentry Is change takes puts gone carries = λ i. leaf_taken (takes i) ++ (put_leaf dentry Is change.puts puts carries.put i ++ leaves_gone covers (gone i))

  of_unlink : (dentry : Dentry) (change : Change) → IsUnlinkAt dentry change → Carries tree covers change → fragments_of covers change ≡ fragment_of covers dentry ∷ []
  of_unlink dentry change is carries = λ i. taken_leaf dentry change.takes is.removal.takes carries.taken i ++ (leaf_put (is.removal.puts i) ++ leaves_gone covers (is.gone i))

  of_removal : (dentry : Dentry) (change : Change) → IsRemovalAt dentry change → Carries tree covers change → fragments_of covers change ≡ fragment_of covers dentry ∷ leaves_at covers (map.get tree dentry)
  of_removal dentry change is carries =
      let there = gone_leaves covers (map.get tree dentry) change.gone (carries.gone ∙ gone_taken dentry change.takes change.puts is.takes is.puts) in
      λ i. taken_leaf dentry change.takes is.takes carries.taken i ++ (leaf_put (is.puts i) ++ there i)

  of_move : (here there : Dentry) (change : Change) → IsMoveTo here there change → Carries tree covers change
      → fragments_of covers change ≡ fragment_of covers here ∷ fragment_of covers there ∷ leaves_at covers (map.get tree there)
  of_move here there change is carries =
      let rest = gone_leaves covers (map.get tree there) change.gone (carries.gone ∙ gone_put here there (λ (inode : Inode). Unit {0}) change.takes change.puts is.takes is.puts) in
      λ i. taken_leaf here change.takes is.takes carries.taken i ++ (put_leaf there (λ (inode : Inode). Unit {0}) change.puts is.puts carries.put i ++ rest i)

  -- the fragments of a change are those that are touched where it is one of this shape
  touched_by : (s : Shape) (change : Change) → IsChangeIn s change → Carries tree covers change → stays_in s ≡ false → fragments_of covers change ≡ touched_in covers tree s
  touched_by (Looks dentry answer) change one_of carries moves = absurd one_of
  touched_by (Lists dir after max) change one_of carries moves = absurd one_of
  touched_by (Makes dentry kind mode birth) change one_of carries moves = of_put dentry _ change one_of.takes one_of.puts one_of.gone carries
  touched_by (Sets dentry alteration) change one_of carries moves = of_put dentry _ change one_of.takes one_of.puts one_of.gone carries
  touched_by (Unlinks dentry) change one_of carries moves = of_unlink dentry change one_of carries
  touched_by (Removes dentry) change one_of carries moves = of_removal dentry change one_of carries
  touched_by (Moves from to) change one_of carries moves =
      of_move from to change one_of carries
      ∙ sym (ap (λ b. cond b [] (fragment_of covers from ∷ fragment_of covers to ∷ leaves_at covers (map.get tree to))) moves)

  move_apart : (here there : Dentry) (change : Change) → IsMoveTo here there change → Takes tree change → eq_by_cmp dentry_cmp here there ≡ false
  move_apart here there change is = go change.takes change.puts change.comes is.takes is.puts
    where
      go : (takes : Option Spot) (puts : Option (Spot × Inode)) (comes : Bool) → LosesName here takes → PutsAt there (λ (inode : Inode). Unit {0}) puts → TakesBy tree takes puts comes → eq_by_cmp dentry_cmp here there ≡ false
      go None puts comes at_here at_there may = absurd at_here
      go (Some spot) None comes at_here at_there may = absurd at_there
      go (Some spot) (Some put) true at_here at_there may = absurd may
      go (Some spot) (Some put) false at_here at_there may = (λ i. eq_by_cmp dentry_cmp (sym at_here i) (sym at_there.0 i)) ∙ may.apart

  -- what makes a change doesn't stay
  moves_by : (s : Shape) (change : Change) → IsChangeIn s change → ((change.comes ≡ false) → Takes tree change) → stays_in s ≡ false
  moves_by (Looks dentry answer) change one_of takes = absurd one_of
  moves_by (Lists dir after max) change one_of takes = absurd one_of
  moves_by (Makes dentry kind mode birth) change one_of takes = refl
  moves_by (Sets dentry alteration) change one_of takes = refl
  moves_by (Unlinks dentry) change one_of takes = refl
  moves_by (Removes dentry) change one_of takes = refl
  moves_by (Moves from to) change one_of takes = move_apart from to change one_of (takes one_of.comes)

not_new : (change : Change) → change.comes ≡ false → change.comes ≡ true → change.takes ≡ None
not_new change old new = let clash : true ≡ false = sym new ∙ old in absurd cc

-- where an inode comes no name loses one
comes_alone : (s : Shape) (change : Change) → IsChangeIn s change → change.comes ≡ true → change.takes ≡ None
comes_alone (Looks dentry answer) change one_of = absurd one_of
comes_alone (Lists dir after max) change one_of = absurd one_of
comes_alone (Makes dentry kind mode birth) change one_of = λ new. one_of.takes
comes_alone (Sets dentry alteration) change one_of = λ new. one_of.takes
comes_alone (Unlinks dentry) change one_of = not_new change one_of.removal.comes
comes_alone (Removes dentry) change one_of = not_new change one_of.comes
comes_alone (Moves from to) change one_of = not_new change one_of.comes

no_errno : (takes : Option Spot) (puts : Option (Spot × Inode)) → is_errno (reply_by takes puts) ≡ false
no_errno None None = refl
no_errno None (Some put) = refl
no_errno (Some spot) puts = refl

module _ (limit : ℕ) (tree : Tree) (covers : Covers) (Holds : Dirfrag → Type 0) (op : Op) (n : ℕ) (change : Change) (checked : IsChecked tree covers Holds op n (step limit tree op n) change) where
  pub takes_old : change.comes ≡ false → Takes tree change
  takes_old old = checked.takes (λ taken. let clash : true ≡ false = sym taken ∙ checked.number ∙ old in absurd cc)

  pub moves : stays op ≡ false
  moves = moves_by tree covers (shape op) change checked.one_of takes_old

  pub fragments_are : fragments_of covers change ≡ changed_fragments limit covers tree op
  fragments_are =
      touched_by tree covers (shape op) change checked.one_of checked.carries moves
      ∙ sym (ap (λ b. cond b [] (touched covers tree op)) (errno_of_any_number limit tree op 0 n ∙ ap is_errno checked.replied ∙ no_errno change.takes change.puts))

-- the errno of a replacement, by three tests
abbrev told : Bool → Bool → Bool → Option ℕ
told m b e = cond {A = Option ℕ} m (cond {A = Option ℕ} b (cond {A = Option ℕ} e (Some 39) None) (Some 20)) (cond {A = Option ℕ} b (Some 21) None)

-- what goes has no entries
abbrev IsBare : Tree → Option Ino → Type 0
IsBare tree None = Unit {0}
IsBare tree (Some dir) = has_entries tree dir.0 ≡ false

module _ (tree : Tree) (covers : Covers) where
  -- a leaf of an entry is none of a directory that goes
  beside_gone : (dentry : Dentry) (inode : Inode) (leaf : Fragment) (gone : Option Ino) → map.get tree dentry ≡ Some inode → IsBare tree gone → Contains (leaves_gone covers gone) (dentry.dir, leaf) → ⊥
  beside_gone dentry inode leaf None stands bare has = none_in _ has
  beside_gone dentry inode leaf (Some dir) stands bare has =
      let same = in_dir dir.0 (leaves_of covers dir.0) (dentry.dir, leaf) has in
      let clash : true ≡ false = sym (entries_there tree dentry inode stands) ∙ ap (has_entries tree) same ∙ bare in
      cc

  gone_apart : (gone : Option Ino) → IsCovered covers gone → AreApart (leaves_gone covers gone)
  gone_apart None covered = tt
  gone_apart (Some dir) covered = leaves_apart dir.0 _ _ (leaves_of covers dir.0) covered.tiles

  bare_by : (found : Option Inode) (gone : Option Ino) → gone ≡ directory_at found → ((inode : Inode) → found ≡ Some inode → is_dir_kind inode.kind ≡ true → has_entries tree inode.ino.0 ≡ false) → IsBare tree gone
  bare_by None None is empty = tt
  bare_by None (Some dir) is empty = cc
  bare_by (Some inode) gone is empty = go (is_dir_kind inode.kind) refl gone is
    where
      go : (b : Bool) → is_dir_kind inode.kind ≡ b → (g : Option Ino) → g ≡ cond b (Some inode.ino) None → IsBare tree g
      go true kinded None g_is = cc
      go true kinded (Some dir) g_is = let same : dir ≡ inode.ino = cc in ap (λ (d : Ino). has_entries tree d.0) same ∙ empty inode refl kinded
      go false kinded None g_is = tt
      go false kinded (Some dir) g_is = cc

  replaced_bare : (moving : Inode) (found : Option Inode) → replace_errno tree moving found ≡ None → (inode : Inode) → found ≡ Some inode → is_dir_kind inode.kind ≡ true → has_entries tree inode.ino.0 ≡ false
  replaced_bare moving None none inode is kinded = cc
  replaced_bare moving (Some target) none inode is kinded =
      let alike : target ≡ inode = cc in
      let kind : is_dir_kind target.kind ≡ true = ap (λ (t : Inode). is_dir_kind t.kind) alike ∙ kinded in
      ap (λ (t : Inode). has_entries tree t.ino.0) (sym alike) ∙ go (is_dir_kind moving.kind) (has_entries tree target.ino.0)
      (sym (ap (λ b. told (is_dir_kind moving.kind) b (has_entries tree target.ino.0)) kind) ∙ none)
    where
      go : (m e : Bool) → told m true e ≡ None → e ≡ false
      go true true clash = cc
      go true false clash = refl
      go false e clash = cc

  itself : (list : List Leaf) → AreApart list → NamesOnce list list
  itself list apart = record { exactly = λ leaf. (λ h. h, λ h. h); once = apart }

  of_two : (a b : Leaf) (rest : List Leaf) → (Contains rest a → ⊥) → (Contains rest b → ⊥) → AreApart rest → NamesOnce (a ∷ b ∷ rest) (a ∷ (unless_same a b ++ rest))
  of_two a b rest a_not b_not apart = go (same_leaf a b) refl
    where
      go : (t : Bool) → same_leaf a b ≡ t → NamesOnce (a ∷ b ∷ rest) (a ∷ (cond t [] (b ∷ []) ++ rest))
      go true is =
          let same = one_leaf a b is in
          record {
            exactly = λ leaf. (
              λ has. ⊎_elim (λ e. subst_in leaf e) (λ h. later a leaf (b ∷ rest) (later b leaf rest h)) (first_or_later a leaf rest has),
              λ has. ⊎_elim (λ e. front leaf e) (λ h. ⊎_elim (λ e. front leaf (same ∙ e)) (λ k. later a leaf rest k) (first_or_later b leaf rest h)) (first_or_later a leaf (b ∷ rest) has),
            );
            once = (a_not, apart);
          }
        where
          subst_in : (leaf : Leaf) → a ≡ leaf → Contains (a ∷ b ∷ rest) leaf
          subst_in leaf e = (0, omega arith, e)

          front : (leaf : Leaf) → a ≡ leaf → Contains (a ∷ rest) leaf
          front leaf e = (0, omega arith, e)
      go false is = itself (a ∷ b ∷ rest) (λ has. ⊎_elim (λ e. two_leaves a b is (sym e)) a_not (first_or_later b a rest has), (b_not, apart))

  removed_bare : (there inode : Inode) → ◌≡◌ {A = Option Inode} (Some there) (Some inode) → (is_dir_kind there.kind && has_entries tree there.ino.0) ≡ false → is_dir_kind inode.kind ≡ true → has_entries tree inode.ino.0 ≡ false
  removed_bare there inode is none kinded =
      let alike : there ≡ inode = cc in
      sym (ap (λ b. b && has_entries tree inode.ino.0) kinded) ∙ ap (λ (i : Inode). is_dir_kind i.kind && has_entries tree i.ino.0) (sym alike) ∙ none

  beside_to : (to : Spot) (found : Option Inode) → map.get tree (dentry_at to) ≡ found → (g : Option Ino) → g ≡ directory_at (map.get tree (dentry_at to)) → IsBare tree g → Contains (leaves_gone covers g) (leaf_of to.at) → ⊥
  beside_to to None at_to None is bare has = none_in _ has
  beside_to to None at_to (Some dir) is bare has = let clash : Some dir ≡ None = is ∙ ap directory_at at_to in cc
  beside_to to (Some inode) at_to g is bare has = beside_gone (dentry_at to) inode to.at.frag g at_to bare has

  none_of : (spot : Spot) → Some spot ≡ None → ⊥
  none_of spot same = cc

  pub named_apart : (change : Change) → Carries tree covers change → (change.comes ≡ true → change.takes ≡ None) → (change.comes ≡ false → Takes tree change) → IsCovered covers change.gone → NamesOnce (fragments_of covers change) (named_once covers change)
  named_apart change carries alone takes covered = go change.takes change.puts change.comes change.gone carries.gone alone takes covered
    where
      go : (from : Option Spot) (to : Option (Spot × Inode)) (comes : Bool) (gone : Option Ino) → gone ≡ directory_gone tree from to → (comes ≡ true → from ≡ None) → (comes ≡ false → TakesBy tree from to comes) → IsCovered covers gone
          → NamesOnce (leaf_taken from ++ (leaf_put to ++ leaves_gone covers gone)) (leaf_taken from ++ (other_put from to ++ leaves_gone covers gone))
      go None None comes gone is alone may within = itself (leaves_gone covers gone) (gone_apart gone within)
      go None (Some to) comes gone is alone may within = subst (λ (g : Option Ino). NamesOnce (leaf_of to.0.at ∷ leaves_gone covers g) (leaf_of to.0.at ∷ leaves_gone covers g)) (sym is) (itself (leaf_of to.0.at ∷ []) (none_in _, tt))
      go (Some spot) to true gone is alone may within = absurd (none_of spot (alone refl))
      go (Some spot) None false gone is alone may within =
          let one = may refl in
          itself _ (beside_gone (dentry_at spot) one.inode spot.at.frag gone one.stands (bare_by (map.get tree (dentry_at spot)) gone is (λ inode there kinded. removed_bare one.inode inode (sym one.stands ∙ there) one.empty kinded)), gone_apart gone within)
      go (Some spot) (Some to) false gone is alone may within =
          let move = may refl in
          let bare : IsBare tree gone = bare_by (map.get tree (dentry_at to.0)) gone is (replaced_bare to.1 (map.get tree (dentry_at to.0)) move.replaces) in
          of_two (leaf_of spot.at) (leaf_of to.0.at) (leaves_gone covers gone) (beside_gone (dentry_at spot) to.1 spot.at.frag gone move.stands bare) (beside_to to.0 (map.get tree (dentry_at to.0)) refl gone is bare) (gone_apart gone within)

-- the list of the fragments of the change that the checks found names the changed fragments of its operation, each once
pub named_by : {V : Type 0} (tree : Tree) (covers : Covers) (Holds : Dirfrag → Type 0) (change : Change) (found : Checked) (result : Result V Refusal) (items : V → List Leaf) → found ≡ Changes change
    → IfOk result (λ list. items list ≡ named_once covers change) → IfOk result (λ list. IsCovered covers change.gone)
    → IfOk result (λ list. (limit : ℕ) (op : Op) (n : ℕ) → Checks tree covers Holds op n (step limit tree op n) found → NamesOnce (changed_fragments limit covers tree op) (items list))
named_by tree covers Holds change found (Err reason) items is listed covered = tt
named_by tree covers Holds change found (Ok list) items is listed covered = λ limit op n checks.
    let checked : IsChecked tree covers Holds op n (step limit tree op n) change = subst (Checks tree covers Holds op n (step limit tree op n)) is checks in
    subst (λ k. NamesOnce k (items list)) (fragments_are limit tree covers Holds op n change checked)
    (subst (NamesOnce (fragments_of covers change)) (sym listed) (named_apart tree covers change checked.carries (comes_alone (shape op) change checked.one_of) (takes_old limit tree covers Holds op n change checked) covered))

-- so does one that was made after the checks
pub named_from : {V : Type 0} (limit : ℕ) (tree mid : Tree) (covers later : Covers) (Holds Held : Dirfrag → Type 0) (op : Op) (n : ℕ) (found : Checked) (result : Result V Refusal) (items : V → List Leaf) → mid ≡ tree → later ≡ covers → ((at : Dirfrag) → Holds at → Held at)
    → Checks tree covers Holds op n (step limit tree op n) found → IfOk result (λ list. (l : ℕ) (o : Op) (m : ℕ) → Checks mid later Held o m (step l mid o m) found → NamesOnce (changed_fragments l later mid o) (items list))
    → IfOk result (λ list. NamesOnce (changed_fragments limit covers tree op) (items list))
named_from limit tree mid covers later Holds Held op n found (Err reason) items same leaves holds checks named = tt
named_from limit tree mid covers later Holds Held op n found (Ok list) items same leaves holds checks named =
    subst (λ t. NamesOnce (changed_fragments limit covers t op) (items list)) same
    (subst (λ k. NamesOnce (changed_fragments limit k mid op) (items list)) leaves (named limit op n (checks_on limit tree mid covers later Holds Held op n n found same leaves holds refl checks)))
