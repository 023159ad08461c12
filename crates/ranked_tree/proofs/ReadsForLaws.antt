-- What reads of a directory's leaves make of the caches, one after the other.
use Rattle.ranked_tree.proofs.Common.{AreHeldAt, AsksFor, Change, ConcernsIn, Core, Dentry, Inode, IsChangeIn, IsNamedIn, IsSound, KeepsState, Leaf, MayChange, Moves, NamesBy, NamesDir, None, NoneEnds, Op, Option, PutsAt, Reads, Removes, Roots, Sets, Some, Spot, State, LosesName, Unlinks, ap, dentry_at, false, inl, inr, may_come, reads_then, rules, shape_of, shown_tree, state_of, subst, sym, ℕ, ⊎_elim, ◌∙◌, ◌≡◌, ReadsDir, Ino, NoneComes, ComesWith, ComesAt, ComesIn, ComesFor, IsChangeOf, Rules, leaf_of, is_dir_kind, true, adds, shape}
use Rattle.mds_types.specs.Shape.{Shape as OpShape, Makes}
pub use Rattle.ranked_tree.proofs.LaterLaws.{keeps_ranked_on, reads_less}
use Rattle.ranked_tree.proofs.HolderLaws.{is_unknown, named_by}

-- reads after others
pub reads_on : (roots : Roots) (dir : Ino) (a b c : Core) → KeepsState a b None → ReadsDir roots dir a b → ReadsDir roots dir b c → ReadsDir roots dir a c
reads_on roots dir a b c kept first second =
    reads_then (AsksFor (state_of a) roots (λ (d : ℕ). d ≡ dir.0) NoneComes) NoneEnds a.objects a.caches b.caches c.caches first
    (subst (λ (s : State). Reads (AsksFor s roots (λ (d : ℕ). d ≡ dir.0) NoneComes) NoneEnds s.objects b.caches c.caches) kept.state second)

-- the leaves that a change names are live ones of directories that it names, each at its rank, or the first leaf of the directory that it makes
pub asks_change : (old : Core) (roots : Roots) (change : Change) → IsSound (state_of old) → MayChange (shown_tree (state_of old)) old.covers change → AreHeldAt (state_of old) roots change → (r : ℕ) (q : Leaf) → IsNamedIn change r q
    → AsksFor (state_of old) roots (NamesDir change) (ComesWith (state_of old) roots change) r q
asks_change old roots change sound may held r q is =
    ⊎_elim (λ its. inl its)
    (λ new.
    let able = subst (MayChange (shown_tree (state_of old)) old.covers) new.2 may in
    let holds = subst (AreHeldAt (state_of old) roots) new.2 held in
    inr (
      new.0,
      new.1,
      new.2,
      new.3,
      record {
        first = new.4.1;
        unknown = is_unknown old.homes new.1.ino.0 _ (may_come (shown_tree (state_of old)) old.homes (dentry_at new.0) new.1 sound.tabled able.takes);
        frag = new.0.at.frag;
        picked = able.carries.put;
        held = subst (λ (n : ℕ). Rules (state_of old) roots (leaf_of new.0.at) (record { 0 = n })) (sym new.4.0) holds.put;
      },
    ))
    (named_by (state_of old) sound roots change (shape_of (shown_tree (state_of old)) old.covers change may) may held r q is)

-- the number that a change puts, if it puts one
abbrev pub number_put : Option (Spot × Inode) → Option Ino
number_put None = None
number_put (Some put) = Some put.1.ino

-- the directory that a change makes is that which its operation makes, by this number
comes_in : (tree : State) (roots : Roots) (sort : OpShape) (spot : Spot) (inode : Inode) → IsChangeIn sort (adds spot inode) → is_dir_kind inode.kind ≡ true → (r : ℕ) (q : Leaf) → ComesAt tree roots (dentry_at spot) inode.ino r q → ComesIn tree roots sort inode.ino r q
comes_in tree roots (Makes dentry kind mode birth) spot inode of kinded r q comes =
    (ap is_dir_kind (sym of.puts.1) ∙ kinded, subst (λ (d : Dentry). ComesAt tree roots d inode.ino r q) of.puts.0 comes)
comes_in tree roots (Sets dentry alteration) spot inode of kinded r q comes = let clash : true ≡ false = of.comes in absurd cc
comes_in tree roots (Unlinks dentry) spot inode of kinded r q comes = absurd of.removal.takes
comes_in tree roots (Removes dentry) spot inode of kinded r q comes = absurd of.takes
comes_in tree roots (Moves from to) spot inode of kinded r q comes = absurd of.takes
comes_in tree roots _ spot inode of kinded r q comes = absurd of

pub comes_for : (tree : State) (roots : Roots) (op : Op) (change : Change) → IsChangeOf op change → (r : ℕ) (q : Leaf) → ComesWith tree roots change r q → ComesFor tree roots op (number_put change.puts) r q
comes_for tree roots op change of r q (spot, inode, is, kinded, comes) =
    subst (λ (number : Option Ino). ComesFor tree roots op number r q) (sym (ap (λ (c : Change). number_put c.puts) is))
    (comes_in tree roots (shape op) spot inode (subst (IsChangeOf op) is of) kinded r q comes)

-- ---- what is taken and what gets an inode, by where

module _ (P : Option Spot → Option (Spot × Inode) → Type 0) where
  pub by_put : (dentry : Dentry) (Is : Inode → Type 0) (takes : Option Spot) (puts : Option (Spot × Inode)) → takes ≡ None → PutsAt dentry Is puts → ((put : Spot × Inode) → dentry_at put.0 ≡ dentry → Is put.1 → P None (Some put)) → P takes puts
  by_put dentry Is takes puts none at so = search rules

  pub by_taken : (dentry : Dentry) (takes : Option Spot) (puts : Option (Spot × Inode)) → LosesName dentry takes → puts ≡ None → ((spot : Spot) → dentry_at spot ≡ dentry → P (Some spot) None) → P takes puts
  by_taken dentry takes puts at none so = search rules

  pub by_move : (here there : Dentry) (Is : Inode → Type 0) (takes : Option Spot) (puts : Option (Spot × Inode)) → LosesName here takes → PutsAt there Is puts
      → ((spot : Spot) (put : Spot × Inode) → dentry_at spot ≡ here → dentry_at put.0 ≡ there → P (Some spot) (Some put)) → P takes puts
  by_move here there Is takes puts at to so = search rules

-- the directories of a change are those that its operation concerns
pub change_concerns : (sort : OpShape) (change : Change) → IsChangeIn sort change → (d : ℕ) → NamesDir change d → ConcernsIn sort d
change_concerns (Makes dentry kind mode birth) change of d = by_put (λ t p. NamesBy t p d → d ≡ dentry.dir.0) dentry _ change.takes change.puts of.takes of.puts (λ put at is named. named ∙ ap (λ (e : Dentry). e.dir.0) at)
change_concerns (Sets dentry alteration) change of d = by_put (λ t p. NamesBy t p d → d ≡ dentry.dir.0) dentry _ change.takes change.puts of.takes of.puts (λ put at is named. named ∙ ap (λ (e : Dentry). e.dir.0) at)
change_concerns (Unlinks dentry) change of d = by_taken (λ t p. NamesBy t p d → d ≡ dentry.dir.0) dentry change.takes change.puts of.removal.takes of.removal.puts (λ spot at named. named ∙ ap (λ (e : Dentry). e.dir.0) at)
change_concerns (Removes dentry) change of d = by_taken (λ t p. NamesBy t p d → d ≡ dentry.dir.0) dentry change.takes change.puts of.takes of.puts (λ spot at named. named ∙ ap (λ (e : Dentry). e.dir.0) at)
change_concerns (Moves from to) change of d =
    by_move (λ t p. NamesBy t p d → ConcernsIn (Moves from to) d) from to _ change.takes change.puts of.takes of.puts
    (λ spot put at there. ⊎_elim (λ named. inl (named ∙ ap (λ (e : Dentry). e.dir.0) at)) (λ named. inr (named ∙ ap (λ (e : Dentry). e.dir.0) there)))
change_concerns _ change of d = absurd of
