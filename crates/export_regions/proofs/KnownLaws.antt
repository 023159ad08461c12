-- Whether a leaf is in a region, by the leaf that holds the dentry of its directory.
use Rattle.export_regions.proofs.Common.{All, All-contains, All-push, All-same, KnownAnswers, AreNoted, AreRightAnswers, Bool, after_put, arith, Covers, HoldsDentry, HoldsDentryOf, Home, Homes, IsHeldIn, IsOfRegion, IsRightAnswer, IfSome, IsTrue, Leaf, List, Option, NearestRoot, None, Rank, Roots, Some, ap, false, get-empty, inherited, inl, inr, is_itself, is_some, itself, nat_cmp, one_holder, refl, same_Some, subst, sym, true, ℕ, [], ◌++◌, ◌-◌, ◌<◌, ◌∷◌, ◌↔◌, ◌∙◌, ◌≡◌, ◌≤◌, ◌⊎◌, IsTable, climbed, nearer, Ino}
use Rattle.std.specs.FinMap as map
use Rattle.std.specs.List.{Contains}
use Rattle.std.specs.Prelude.{if◌then◌else◌}

pub no_row : {A : Type 0} (o : Option A) → is_some o ≡ false → o ≡ None
no_row None is = refl
no_row (Some x) is = let clash : true ≡ false = is in cc

-- the room for the rest
pub room_left : (taken : Bool) (i before after : ℕ) → i ≤ before → (if taken then before else before - 1) ≤ after → i - 1 ≤ after
room_left true i before after was left = omega (arith, was, left)
room_left false i before after was left = omega (arith, was, left)

-- one directory more
pub one_noted : (dirs : List ℕ) (told : Bool) (old was now : KnownAnswers) (dir : ℕ) → AreNoted dirs told old was → Contains dirs dir → now ≡ map.insert was dir told → AreNoted dirs told old now
one_noted dirs told old was now dir before among is q answer at = go (after_put was dir told q answer (ap (λ (m : KnownAnswers). map.get m q) (sym is) ∙ at))
  where
    go : ((q ≡ dir) × (told ≡ answer)) ⊎ ((q ≡ dir → ⊥) × (map.get was q ≡ Some answer)) → ((answer ≡ told) × Contains dirs q) ⊎ (map.get old q ≡ Some answer)
    go (inl (same, is)) = inl (sym is, subst (λ (d : ℕ). Contains dirs d) (sym same) among)
    go (inr (other, is)) = before q answer is

-- the directory of the leaf that holds a directory's dentry is nearer to the root directory
pub holder_nearer : (homes : Homes) (covers : Covers) → IsTable homes covers → (dir : ℕ) (holder : Leaf) → HoldsDentryOf homes covers dir holder → climbed (map.len homes) homes holder.0.0 < climbed (map.len homes) homes dir
holder_nearer homes covers table dir holder of =
    subst (λ (d : Ino). climbed (map.len homes) homes d.0 < climbed (map.len homes) homes dir) (sym of.holds.parent) (nearer homes dir of.home table.rooted of.stands)

module _ (roots : Roots) (homes : Homes) (covers : Covers) where
  held_from : (leaf root : Leaf) → map.get roots leaf ≡ None → NearestRoot roots homes covers leaf root → IsHeldIn roots homes covers root leaf.0.0
  held_from _ _ none (itself root rank has) = let clash : None ≡ Some rank = sym none ∙ has in cc
  held_from _ _ none (inherited leaf holder root home other stands holds rest) = record { holder = holder; holds = record { home = home; stands = stands; holds = holds }; within = rest }

  one_holder_of : (dir : ℕ) (a b : Leaf) → HoldsDentryOf homes covers dir a → HoldsDentryOf homes covers dir b → a ≡ b
  one_holder_of dir a b p q = one_holder covers q.home a b (subst (λ (home : Home). HoldsDentry covers home a) (same_Some p.home q.home (sym p.stands ∙ q.stands)) p.holds) q.holds

  module _ (root : Leaf) (told : Bool) where
    -- a leaf that is no root is in the region exactly where the dentry of its directory is held there
    pub of_leaf : (leaf : Leaf) → map.get roots leaf ≡ None → IsRightAnswer roots homes covers root leaf.0.0 told → IsTrue told ↔ IsOfRegion roots homes covers root leaf
    of_leaf leaf none right = (
      λ yes. let held = right.0 yes in inherited leaf held.holder root held.holds.home none held.holds.stands held.holds.holds held.within,
      λ near. right.1 (held_from leaf root none near),
    )

    -- one leaf holds the dentry of a directory
    pub of_holder : (dir : ℕ) (holder : Leaf) → HoldsDentryOf homes covers dir holder → (IsTrue told ↔ IsOfRegion roots homes covers root holder) → IsRightAnswer roots homes covers root dir told
    of_holder dir holder holds same = (
      λ yes. record { holder = holder; holds = holds; within = same.0 yes },
      λ held. same.1 (subst (λ (k : Leaf). IsOfRegion roots homes covers root k) (one_holder_of dir held.holder holder held.holds holds) held.within),
    )

    -- where it is no root, the directory has the answer of that leaf's directory
    pub of_above : (dir : ℕ) (holder : Leaf) → HoldsDentryOf homes covers dir holder → map.get roots holder ≡ None → IsRightAnswer roots homes covers root holder.0.0 told → IsRightAnswer roots homes covers root dir told
    of_above dir holder holds none right = of_holder dir holder holds (of_leaf holder none right)

    -- a leaf that is a root is in the region of itself alone
    pub of_root : (leaf : Leaf) → is_some (map.get roots leaf) ≡ true → (IsTrue told ↔ (leaf ≡ root)) → IsTrue told ↔ IsOfRegion roots homes covers root leaf
    of_root leaf has same = go (map.get roots leaf) refl has
      where
        go : (o : Option Rank) → map.get roots leaf ≡ o → is_some o ≡ true → IsTrue told ↔ IsOfRegion roots homes covers root leaf
        go None none clash = let no : false ≡ true = clash in cc
        go (Some rank) is there = (
          λ so. subst (λ (k : Leaf). IsOfRegion roots homes covers k leaf) (same.0 so) (itself leaf rank is),
          λ near. same.1 (is_itself roots homes covers leaf root rank is near),
        )

  -- one directory more has the answer
  pub passed_more : (root : Leaf) (told : Bool) (passed now : List ℕ) (dir : ℕ) → now ≡ passed ++ dir ∷ [] → All (λ (d : ℕ). IsRightAnswer roots homes covers root d told) passed → IsRightAnswer roots homes covers root dir told
      → All (λ (d : ℕ). IsRightAnswer roots homes covers root d told) now
  passed_more root told passed now dir is all right = All-same (λ (d : ℕ). IsRightAnswer roots homes covers root d told) now (passed ++ dir ∷ []) is (All-push (λ (d : ℕ). IsRightAnswer roots homes covers root d told) passed dir all right)

  -- what is known of a leaf that is no root
  pub of_known : (root : Leaf) (answers : KnownAnswers) → AreRightAnswers roots homes covers root answers → (leaf : Leaf) → is_some (map.get roots leaf) ≡ false → (o : Option Bool) → o ≡ map.get answers leaf.0.0
      → IfSome o (λ told. IsTrue told ↔ IsOfRegion roots homes covers root leaf)
  of_known root answers right leaf other None is = tt
  of_known root answers right leaf other (Some told) is = of_leaf root told leaf (no_row (map.get roots leaf) other) (right leaf.0.0 told (sym is))

  pub none_right : (root : Leaf) (answers : KnownAnswers) → answers ≡ map.empty → AreRightAnswers roots homes covers root answers
  none_right root answers none dir told is = let clash : None ≡ Some told = sym (get-empty nat_cmp dir) ∙ ap (λ (m : KnownAnswers). map.get m dir) (sym none) ∙ is in cc

  -- directories with a right answer more
  pub more_right : (root : Leaf) (dirs : List ℕ) (told : Bool) (old new : KnownAnswers) → AreRightAnswers roots homes covers root old → All (λ (d : ℕ). IsRightAnswer roots homes covers root d told) dirs → AreNoted dirs told old new → AreRightAnswers roots homes covers root new
  more_right root dirs told old new right all noted dir answer is = go (noted dir answer is)
    where
      go : ((answer ≡ told) × Contains dirs dir) ⊎ (map.get old dir ≡ Some answer) → IsRightAnswer roots homes covers root dir answer
      go (inl (same, among)) = subst (λ (b : Bool). IsRightAnswer roots homes covers root dir b) (sym same) (All-contains (λ (d : ℕ). IsRightAnswer roots homes covers root d told) dirs dir all among)
      go (inr before) = right dir answer before

  -- no leaf holds the dentry of a directory that stands nowhere
  pub nowhere : (root : Leaf) (dir : ℕ) → map.get homes dir ≡ None → IsRightAnswer roots homes covers root dir false
  nowhere root dir none = (
    λ yes. let clash : false ≡ true = yes in cc,
    λ held. let clash : None ≡ Some held.holds.home = sym none ∙ held.holds.stands in cc,
  )
