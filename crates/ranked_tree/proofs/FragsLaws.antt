-- What calls for an operation keep, and why they are refused, in the words of the operation.
use Rattle.ranked_tree.proofs.Common.{Bool, Change, ChangesHeld, ComesFor, ComesWith, Concerns, Core, Dirfrag, Err, FollowsChange, HoldsAt, IfErr, IfErr-weaker, Ino, IsAt, IsChangeIn, IsChangeOf, IsLive, IsPick, IsSound, ReadsOnly, KeepsRanked, KeepsState, LacksBy, LacksForIn, LacksNumbers, LacksPlacesAsked, LacksPlacesDir, LacksToMake, MayNotFind, MayRefuse, Moves, NamesDir, None, NoneComes, Ok, OnErr, Op, Option, Ranked, ReadsDir, ReadsFor, Refusal, Regions, Removes, Result, Sets, Some, Unlinks, WithOffer, ap, false, held_in, held_roots, inl, inr, is_dir_kind, is_directory, leaf_of, leaves_of, refl, result_err, shape, shown_tree, state_of, subst, sym, true, ℕ, ⊎_elim, ◌∙◌, ◌≡◌, State}
use Rattle.mds_types.specs.Shape.{Shape, Makes}
use Rattle.ranked_tree.proofs.HolderLaws.{pick_live}
use Rattle.ranked_tree.proofs.AskLaws.{asked}
use Rattle.ranked_tree.proofs.ReadsForLaws.{by_move, by_put, by_taken, change_concerns, comes_for, number_put, reads_less}

-- a tree with its regions, seen so
abbrev pub over : Core → Regions → Ranked
over tree regions = record { tree = tree; subtrees = regions.roots; exports = regions.exports }

module _ (tree new : Core) (regions : Regions) (now : Ranked) (is : over tree regions ≡ now) (op : Op) where
  -- reads that make no directory are so whatever is told
  of_one : (Of : Option Ino → Type 0) (told : Option Refusal) → Of None → WithOffer told Of
  of_one Of told is = (None, λ none. refl, is)

  -- reads of a directory that the operation concerns
  pub keeps_dir : (dir : Ino) (told : Option Refusal) → Concerns op dir.0 → KeepsState tree new told → ReadsDir (held_in regions) dir tree new
      → ReadsOnly (shown_tree (state_of now.tree)) (shown_tree (state_of new)) now.tree.covers new.covers (KeepsRanked now (over new regions) op told)
  keeps_dir dir told concerns kept reads = subst (λ (n : Ranked). ReadsOnly (shown_tree (state_of n.tree)) (shown_tree (state_of new)) n.tree.covers new.covers (KeepsRanked n (over new regions) op told)) is (record {
    tree = ap (λ (s : State). shown_tree s) kept.state;
    leaves = ap (λ (s : State). s.covers) kept.state;
    follows = record {
      tree = kept;
      roots = refl;
      exports = refl;
      reads = of_one (λ (number : Option Ino). ReadsFor (held_in regions) (Concerns op) (ComesFor (state_of tree) (held_in regions) op number) tree new) told
          (reads_less (held_in regions) (λ (d : ℕ). d ≡ dir.0) (Concerns op) NoneComes (ComesFor (state_of tree) (held_in regions) op None) tree new
          (λ d same. subst (λ (x : ℕ). Concerns op x) (sym same) concerns) (λ r q none. absurd none) reads);
    };
  })

  -- a look at their leaves was refused
  pub looks_refused : {X : Type 0} (result : Result X Refusal) (Lacks : Type 0) → (Lacks → LacksPlacesAsked 1 tree (held_in regions) (Concerns op)) → IfErr result (MayNotFind Lacks tree.faults new.faults) → IfErr result (MayRefuse now (over new regions) op)
  looks_refused {X} result Lacks so =
      IfErr-weaker result _ _ (λ reason because. subst (λ (n : Ranked). MayRefuse n (over new regions) op reason) is
      (asked (over tree regions) (over new regions) op reason Lacks so because))

  -- at all leaves of one of them
  pub walk_refused : {X : Type 0} (result : Result X Refusal) (dir : Ino) → Concerns op dir.0 → IfErr result (MayNotFind (LacksPlacesDir 1 tree (held_in regions) dir) tree.faults new.faults) → IfErr result (MayRefuse now (over new regions) op)
  walk_refused {X} result dir concerns =
      looks_refused result (LacksPlacesDir 1 tree (held_in regions) dir) (λ lacks. (lacks.0, subst (λ (d : ℕ). Concerns op d) (sym lacks.1) concerns, lacks.2, lacks.3))

-- the numbers that lack for a change lack for its operation
numbers_lack : (s : State) (sort : Shape) (change : Change) → IsChangeIn sort change → LacksToMake change s → LacksForIn sort s
numbers_lack s (Makes dentry kind mode birth) change of lacks =
    by_put (λ t p. LacksBy t p true s → LacksForIn (Makes dentry kind mode birth) s) dentry _ change.takes change.puts of.takes of.puts
    (λ put at is. ⊎_elim (λ version. inl version) (λ dir. inr (ap is_dir_kind (sym is) ∙ dir.0, dir.1))) (subst (λ (b : Bool). LacksBy change.takes change.puts b s) of.comes lacks)
numbers_lack s (Sets dentry alteration) change of lacks =
    by_put (λ t p. LacksBy t p false s → LacksNumbers 1 s.next_version) dentry _ change.takes change.puts of.takes of.puts (λ put at is version. version) (subst (λ (b : Bool). LacksBy change.takes change.puts b s) of.comes lacks)
numbers_lack s (Unlinks dentry) change of lacks = by_taken (λ t p. LacksBy t p change.comes s → LacksNumbers 1 s.next_version) dentry change.takes change.puts of.removal.takes of.removal.puts (λ spot at version. version) lacks
numbers_lack s (Removes dentry) change of lacks = by_taken (λ t p. LacksBy t p change.comes s → LacksNumbers 1 s.next_version) dentry change.takes change.puts of.takes of.puts (λ spot at version. version) lacks
numbers_lack s (Moves from to) change of lacks = by_move (λ t p. LacksBy t p change.comes s → LacksNumbers 2 s.next_version) from to _ change.takes change.puts of.takes of.puts (λ spot put at there versions. versions) lacks
numbers_lack s _ change of lacks = absurd of

-- ---- a change

module _ (old new : Ranked) (op : Op) (change : Change) (of : IsChangeOf op change) where
  -- where it wasn't, leaves of directories that the operation concerns were read
  pub where_refused : (result : Result (Unit {0}) Refusal) → ChangesHeld (held_roots old) change old.tree new.tree result → FollowsChange change (state_of old.tree) old.subtrees new.subtrees result → new.exports ≡ old.exports
      → OnErr result (ReadsOnly (shown_tree (state_of old.tree)) (shown_tree (state_of new.tree)) old.tree.covers new.tree.covers (KeepsRanked old new op (result_err result)))
  where_refused (Ok done) is roots exports = tt
  where_refused (Err reason) is roots exports = record {
    tree = ap (λ (s : State). shown_tree s) is.0.state;
    leaves = ap (λ (s : State). s.covers) is.0.state;
    follows = record {
      tree = is.0;
      roots = roots.0;
      exports = exports;
      reads = (
        number_put change.puts,
        λ none. let clash : Some reason ≡ None = none in absurd cc,
        reads_less (held_roots old) (NamesDir change) (Concerns op) (ComesWith (state_of old.tree) (held_roots old) change) (ComesFor (state_of old.tree) (held_roots old) op (number_put change.puts)) old.tree new.tree
            (λ d named. change_concerns (shape op) change of d named) (comes_for (state_of old.tree) (held_roots old) op change of) is.1,
      );
    };
  }

  -- and why it wasn't
  pub because : (result : Result (Unit {0}) Refusal) → ChangesHeld (held_roots old) change old.tree new.tree result → IfErr result (MayRefuse old new op)
  because (Ok done) is = tt
  because (Err reason) (kept, reads, inl memory) = inl memory
  because (Err reason) (kept, reads, inr (inl (told, numbers))) = inr (inr (inr (told, numbers_lack (state_of old.tree) (shape op) change of numbers)))
  because (Err reason) (kept, reads, inr (inr (none, inl memory))) = inl memory
  because (Err reason) (kept, reads, inr (inr (none, inr (inl fault)))) = inr (inl fault)
  because (Err reason) (kept, reads, inr (inr (none, inr (inr (told, (leaf, named, live, lacks)))))) = inr (inr (inl (told, (leaf, change_concerns (shape op) change of leaf.0.0 named, live, lacks))))

-- a leaf where a hash falls is live
pub found_at : (s : State) → IsSound s → (Holds : Dirfrag → Type 0) (dir hash : ℕ) (at : Dirfrag) → IsAt (shown_tree s) s.covers Holds dir hash at → IsLive s.homes s.covers (leaf_of at)
found_at s sound Holds dir hash at there =
    pick_live s sound at.dir hash at.frag (ap (is_directory (shown_tree s)) there.dir ∙ there.stands) (subst (λ (d : ℕ). IsPick (leaves_of s.covers d) hash at.frag) (sym there.dir) there.leaf)

pub found_live : (tree : Core) (regions : Regions) (now : Ranked) → over tree regions ≡ now → IsSound (state_of tree) → (at : Dirfrag) → (dir hash : ℕ) × IsAt (shown_tree (state_of now.tree)) now.tree.covers (HoldsAt (state_of now.tree) (held_roots now)) dir hash at
    → IsLive tree.homes tree.covers (leaf_of at)
found_live tree regions now is sound at found =
    let (dir, hash, there) = subst (λ (n : Ranked). (dir hash : ℕ) × IsAt (shown_tree (state_of n.tree)) n.tree.covers (HoldsAt (state_of n.tree) (held_roots n)) dir hash at) (sym is) found in
    found_at (state_of tree) sound (HoldsAt (state_of tree) (held_in regions)) dir hash at there
