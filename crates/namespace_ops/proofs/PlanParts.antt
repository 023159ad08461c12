-- The change that the checks of an operation found may be made, once the number that it takes is offered.
use Rattle.namespace_ops.proofs.Common.{Change, Covers, Dirfrag, IfSome, Ino, Inode, IsChecked, IsNumbered, IsOffered, IsUnused, MayChange, None, Op, Option, Some, Spot, Tree, false, number_or, refl, step, subst, sym, ℕ, ◌∙◌, ◌≡◌}
use Rattle.namespace_ops.proofs.CheckedParts.{none_clash}

-- a number that the operation takes was offered
offered_unused : (tree : Tree) (IsNumber : ℕ → Type 0) (number : Option Ino) → IsOffered tree IsNumber number → (number ≡ None → ⊥) → IsUnused tree (number_or number)
offered_unused tree IsNumber None offered some = absurd (some refl)
offered_unused tree IsNumber (Some ino) offered some = offered.0

-- and a new inode may have it
offered_number : (tree : Tree) (IsNumber : ℕ → Type 0) (number : Option Ino) → IsOffered tree IsNumber number → (number ≡ None → ⊥) → IsNumber (number_or number)
offered_number tree IsNumber None offered some = absurd (some refl)
offered_number tree IsNumber (Some ino) offered some = offered.1

module _ (limit : ℕ) (tree : Tree) (covers : Covers) (Holds : Dirfrag → Type 0) (op : Op) (number : Option Ino) (change : Change) (checked : IsChecked tree covers Holds op (number_or number) (step limit tree op (number_or number)) change) where
  pub may_change : (IsNumber : ℕ → Type 0) → IsOffered tree IsNumber number → (number ≡ None → change.comes ≡ false) → MayChange tree covers change
  may_change IsNumber offered given = record {
    carries = checked.carries;
    takes = checked.takes (λ taken. offered_unused tree IsNumber number offered (λ none. none_clash change.comes (sym checked.number ∙ taken) (given none)));
  }

  pub numbered_so : (IsNumber : ℕ → Type 0) → IsOffered tree IsNumber number → (number ≡ None → change.comes ≡ false) → IsNumbered IsNumber change
  numbered_so IsNumber offered given comes = go change.puts (checked.numbered comes)
    where
      go : (puts : Option (Spot × Inode)) → IfSome puts (λ put. put.1.ino.0 ≡ number_or number) → IfSome puts (λ put. IsNumber put.1.ino.0)
      go None is = tt
      go (Some put) is = subst IsNumber (sym is) (offered_number tree IsNumber number offered (λ none. none_clash change.comes comes (given none)))
