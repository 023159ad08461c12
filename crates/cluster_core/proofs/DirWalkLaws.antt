-- The first leaf of a directory, and of the directories with a pin, that is to start for another rank.
use Rattle.cluster_core.proofs.Common.{Equal, Fragment, Greater, HasLeaf, Ino, IsAfter, IsAwayTo, IsFirstAway, IsNextPinned, IsPick, IsSome, IsTree, Leaf, Less, MatchOrdering, None, Option, Ordering, Rank, Sight, Some, ap, arith, cases_lt, false, frag_cmp, inl, inr, is_some, leaf_cmp, leaves_of, nat_cmp, nat_cmp_total, ordering_then, ranked, refl, span, span_pos, subst, sym, tied_itself, true, ℕ, ◌+◌, ◌-◌, ◌<◌, ◌^◌, ◌∙◌, ◌≡◌, ◌≤◌, ◌⊎◌}
use Rattle.std.specs.FinMap as map
use Rattle.cluster_core.proofs.GrantLaws.{Done, ends_all, goes_on}

less_is : (x y : ℕ) → x < y → nat_cmp x y ≡ Less
less_is x y under = go (nat_cmp x y) refl (ranked x y (nat_cmp x y) refl)
  where
    go : (o : Ordering) → nat_cmp x y ≡ o → MatchOrdering o (x < y) (x ≡ y) (y < x) → nat_cmp x y ≡ Less
    go Less is _ = is
    go Equal is same = absurd (omega (arith, under, same))
    go Greater is more = absurd (omega (arith, under, more))

later_dir : (a b : Leaf) → a.0.0 < b.0.0 → leaf_cmp a b ≡ Less
later_dir a b under = ap (λ (o : Ordering). ordering_then o (frag_cmp a.1 b.1)) (less_is a.0.0 b.0.0 under)

later_leaf : (dir : Ino) (f g : Fragment) → f.value < g.value → leaf_cmp (dir, f) (dir, g) ≡ Less
later_leaf dir f g under =
    ap (λ (o : Ordering). ordering_then o (frag_cmp f g)) (tied_itself nat_cmp_total dir.0) ∙ ap (λ (o : Ordering). ordering_then o (nat_cmp f.bits g.bits)) (less_is f.value g.value under)

-- a leaf of a directory isn't to start
abbrev pub StaysHere : Sight → Ino → Fragment → Type 0
StaysHere s dir f = (to : Rank) → IsAwayTo s (dir, f) to → ⊥

abbrev pub IsOfDir : Ino → Leaf → Type 0
IsOfDir dir leaf = leaf.0.0 ≡ dir.0

module _ (s : Sight) (dir : Ino) (tree : IsTree (leaves_of s.covers dir.0)) where
  -- a leaf of the directory, in these words
  here : (leaf : Leaf) → leaf.0.0 ≡ dir.0 → leaf ≡ (dir, leaf.1)
  here leaf is = λ i. (record { 0 = is i }, leaf.1)

  stands_here : (leaf : Leaf) (to : Rank) → leaf.0.0 ≡ dir.0 → IsAwayTo s leaf to → HasLeaf (leaves_of s.covers dir.0) leaf.1
  stands_here leaf to is away = subst (λ (d : ℕ). HasLeaf (leaves_of s.covers d) leaf.1) is away.own.live.stands

  pub dir_found : (hash : ℕ) (frag : Fragment) (to : Rank) → hash < 2 ^ 24 → Done (leaves_of s.covers dir.0) (StaysHere s dir) hash → IsPick (leaves_of s.covers dir.0) hash frag → IsAwayTo s (dir, frag) to
      → IsFirstAway s (IsOfDir dir) (Some ((dir, frag), to))
  dir_found hash frag to low done pick away = (refl, away, λ leaf other is its. go leaf other is its (stands_here leaf other is its))
    where
      end : ℕ
      end = frag.value + span frag.bits

      Before : Fragment → Type 0
      Before g = (g.value < hash) ⊎ (g ≡ frag)

      up_to : Done (leaves_of s.covers dir.0) Before end
      up_to = goes_on (leaves_of s.covers dir.0) tree Before hash frag end low (λ g has before. inl before) pick (inr refl) refl

      go : (leaf : Leaf) (other : Rank) → leaf.0.0 ≡ dir.0 → IsAwayTo s leaf other → HasLeaf (leaves_of s.covers dir.0) leaf.1 → (leaf ≡ (dir, frag)) ⊎ (leaf_cmp (dir, frag) leaf ≡ Less)
      go leaf other is its has = elim (cases_lt leaf.1.value end) [
        | inl under ↦ elim (up_to leaf.1 has under) [
          | inl before ↦ absurd (done leaf.1 has before other (subst (λ (l : Leaf). IsAwayTo s l other) (here leaf is) its))
          | inr same ↦ inl (here leaf is ∙ ap (λ (f : Fragment). (dir, f)) same)
        ]
        | inr beyond ↦ inr (subst (λ (l : Leaf). leaf_cmp (dir, frag) l ≡ Less) (sym (here leaf is)) (later_leaf dir frag leaf.1 (omega (arith, beyond, span_pos frag.bits))))
      ]

  pub dir_none : (hash : ℕ) → 2 ^ 24 ≤ hash → Done (leaves_of s.covers dir.0) (StaysHere s dir) hash → IsFirstAway s (IsOfDir dir) None
  dir_none hash beyond done = λ leaf to is away.
      ends_all (leaves_of s.covers dir.0) tree (StaysHere s dir) hash beyond done leaf.1 (stands_here leaf to is away) to (subst (λ (l : Leaf). IsAwayTo s l to) (here leaf is) away)

-- ---- from directory to directory

-- how many numbers are behind a directory's
abbrev pub dirs_left : Option Ino → ℕ
dirs_left None = 2 ^ 64
dirs_left (Some last) = 2 ^ 64 - (last.0 + 1)

pub fewer_dirs : (after : Option Ino) (dir : Ino) → IsAfter after dir.0 → dir.0 < 2 ^ 64 → dirs_left (Some dir) < dirs_left after
fewer_dirs None dir behind low = omega (arith, low)
fewer_dirs (Some last) dir behind low = omega (arith, behind, low)

-- the directories with a pin before have no leaf that is to start
abbrev pub IsPast : Sight → Option Ino → Type 0
IsPast s after = (leaf : Leaf) (to : Rank) → IsSome (map.get s.pins leaf.0.0) → IsAwayTo s leaf to → IsAfter after leaf.0.0

abbrev pub IsPinnedDir : Sight → Leaf → Type 0
IsPinnedDir s leaf = IsSome (map.get s.pins leaf.0.0)

pub pinned_found : (s : Sight) (after : Option Ino) (dir : Ino) (first : Option (Leaf × Rank)) → IsPast s after → IsNextPinned s.pins after (Some dir) → IsFirstAway s (IsOfDir dir) first → is_some first ≡ true → IsFirstAway s (IsPinnedDir s) first
pinned_found s after dir None past next first is = let clash : false ≡ true = is in cc
pinned_found s after dir (Some at) past next first is = (subst (λ (d : ℕ). IsSome (map.get s.pins d)) (sym first.0) next.0, first.1, λ leaf to pinned away. go leaf to away (next.2 leaf.0.0 pinned (past leaf to pinned away)))
  where
    go : (leaf : Leaf) (to : Rank) → IsAwayTo s leaf to → dir.0 ≤ leaf.0.0 → (leaf ≡ at.0) ⊎ (leaf_cmp at.0 leaf ≡ Less)
    go leaf to away from = elim (cases_lt dir.0 leaf.0.0) [
      | inl under ↦ inr (later_dir at.0 leaf (subst (λ (d : ℕ). d < leaf.0.0) (sym first.0) under))
      | inr beyond ↦ first.2 leaf to (omega (arith, from, beyond)) away
    ]

pub pinned_passed : (s : Sight) (after : Option Ino) (dir : Ino) (first : Option (Leaf × Rank)) → IsPast s after → IsNextPinned s.pins after (Some dir) → IsFirstAway s (IsOfDir dir) first → is_some first ≡ false → IsPast s (Some dir)
pinned_passed s after dir (Some at) past next first is = let clash : true ≡ false = is in cc
pinned_passed s after dir None past next none is = λ leaf to pinned away. go leaf to away (next.2 leaf.0.0 pinned (past leaf to pinned away))
  where
    go : (leaf : Leaf) (to : Rank) → IsAwayTo s leaf to → dir.0 ≤ leaf.0.0 → dir.0 < leaf.0.0
    go leaf to away from = elim (cases_lt dir.0 leaf.0.0) [
      | inl under ↦ under
      | inr beyond ↦ absurd (none leaf to (omega (arith, from, beyond)) away)
    ]

pub pinned_none : (s : Sight) (after : Option Ino) → IsPast s after → IsNextPinned s.pins after None → IsFirstAway s (IsPinnedDir s) None
pinned_none s after past none = λ leaf to pinned away. none leaf.0.0 pinned (past leaf to pinned away)
