-- What is legal behind stand-ins is legal behind the history that they stand for.
use Rattle.cluster_core.proofs.Common.{Bool, Entry, Ino, IsLawfulFrom, IsLegalFrom, IsNextFrom, IsUsed, IsUsedFrom, List, None, Opening, Option, Some, Tree, [], after, after_from, ap, append-nil, arith, cases_lt, drop, false, get_or_append_left, inl, inr, length, length-append, list_any, refl, since, slice_index_or, subst, suc, sym, take, true, zero, ℕ, ⊎_elim, ◌+◌, ◌-◌, ◌++◌, ◌<◌, ◌∙◌, ◌∷◌, ◌≡◌, ◌≤◌, ◌⊎◌}
use Rattle.std.specs.Prelude.{if◌then◌else◌, max, ◌==◌, ◌||◌}
use Rattle.std.proofs.Math.Seq.{drop-append_seam, take-append-add}
use Rattle.std.proofs.lemmas.List.{drop-append-le, get_or-append-add, take-append-le}
use Rattle.std.proofs.lemmas.List.Folds.{list_any-append}
use Rattle.mds_types.specs.History.{IsTaken, is_pair, mark}
use Rattle.mds_types.specs.Step.{number_or, step}
use Rattle.cluster_core.specs.Opening.{StandIn}

mark_joined : (xs ys : List Entry) (client : ℕ) → mark (xs ++ ys) client ≡ max (mark xs client) (mark ys client)
mark_joined [] ys client = omega arith
mark_joined (x ∷ xs) ys client = go (x.client == client) (mark_joined xs ys client)
  where
    go : (b : Bool) → mark (xs ++ ys) client ≡ max (mark xs client) (mark ys client) → (if b then max x.oldest (mark (xs ++ ys) client) else mark (xs ++ ys) client) ≡ max (if b then max x.oldest (mark xs client) else mark xs client) (mark ys client)
    go true its = omega (arith, its)
    go false its = its

none_in : (a b c : Bool) → (a || c) ≡ false → (a ≡ false → b ≡ false) → (b || c) ≡ false
none_in true b c none on = cc
none_in false true c none on = let clash = on refl in cc
none_in false false c none on = none

module _ (limit : ℕ) (opening next : Opening) (history told : List Entry) (legal : IsLegalFrom limit opening history) (count : next.told ≡ length told) (same : next.tree ≡ after_from limit opening history)
    (tells : StandIn opening history next told) where
  since_history : (more : List Entry) → since opening (history ++ more) ≡ since opening history ++ more
  since_history more = drop-append-le opening.told history more legal.begins

  since_told : (more : List Entry) → since next (told ++ more) ≡ more
  since_told more = ap (λ (n : ℕ). drop n (told ++ more)) count ∙ drop-append_seam told more

  after_joined : (xs ys : List Entry) (tree : Tree) → after limit tree (xs ++ ys) ≡ after limit (after limit tree xs) ys
  after_joined [] ys tree = refl
  after_joined (x ∷ xs) ys tree = after_joined xs ys (step limit tree x.op (number_or x.number)).tree

  one_tree : (more : List Entry) → after_from limit next (told ++ more) ≡ after_from limit opening (history ++ more)
  one_tree more =
      ap (after limit next.tree) (since_told more) ∙ ap (λ (t : Tree). after limit t more) same
      ∙ sym (after_joined (since opening history) more opening.tree) ∙ ap (after limit opening.tree) (sym (since_history more))

  taken_apart : (xs ys : List Entry) (n : ℕ) → IsTaken (xs ++ ys) n → IsTaken xs n ⊎ IsTaken ys n
  taken_apart [] ys n taken = inr taken
  taken_apart (x ∷ xs) ys n (zero, y, below, is, took) = inl (zero, y, omega arith, is, took)
  taken_apart (x ∷ xs) ys n (suc k, y, below, is, took) =
      ⊎_elim (λ (j, z, in_range, at, number). inl (suc j, z, omega (arith, in_range), at, number)) (λ ours. inr ours) (taken_apart xs ys n (k, y, omega (arith, below), is, took))

  used_before : (more : List Entry) (n : ℕ) → IsUsedFrom opening history n → IsUsedFrom next (told ++ more) n
  used_before more n used = go (tells.numbers n used)
    where
      none : since next told ≡ []
      none = ap (λ (es : List Entry). since next es) (sym (append-nil told)) ∙ since_told []

      nothing : IsTaken [] n → ⊥
      nothing (k, x, below, at, number) = omega (arith, below)

      go : IsUsedFrom next told n → IsUsedFrom next (told ++ more) n
      go (inl given) = inl given
      go (inr (inl one)) = inr (inl one)
      go (inr (inr (inl stands))) = inr (inr (inl stands))
      go (inr (inr (inr taken))) = let nowhere : IsTaken [] n = subst (λ (es : List Entry). IsTaken es n) none taken in absurd (nothing nowhere)

  used_joined : (more : List Entry) (n : ℕ) → IsUsedFrom opening (history ++ more) n → IsUsedFrom next (told ++ more) n
  used_joined more n (inl given) = used_before more n (inl given)
  used_joined more n (inr used) = go (subst (λ (es : List Entry). IsUsed opening.tree es n) (since_history more) used)
    where
      go : IsUsed opening.tree (since opening history ++ more) n → IsUsedFrom next (told ++ more) n
      go (inl one) = inr (inl one)
      go (inr (inl stands)) = used_before more n (inr (inr (inl stands)))
      go (inr (inr taken)) =
          ⊎_elim (λ before. used_before more n (inr (inr (inr before)))) (λ ours. inr (inr (inr (subst (λ (es : List Entry). IsTaken es n) (sym (since_told more)) ours))))
          (taken_apart (since opening history) more n taken)

  lawful_joined : (more : List Entry) (number : Option Ino) → IsLawfulFrom next (told ++ more) number → IsLawfulFrom opening (history ++ more) number
  lawful_joined more None lawful = tt
  lawful_joined more (Some n) lawful = λ used. lawful (used_joined more n.0 used)

  next_joined : (more : List Entry) (e : Entry) → IsNextFrom limit next (told ++ more) e → IsNextFrom limit opening (history ++ more) e
  next_joined more e its =
      let marked : mark (told ++ more) e.client ≤ e.tid = its.marked in
      let low : mark told e.client ≤ e.tid = omega (arith, marked, mark_joined told more e.client) in
      record {
        once = list_any-append (is_pair e.client e.tid) history more
            ∙ none_in (list_any (is_pair e.client e.tid) told) (list_any (is_pair e.client e.tid) history) (list_any (is_pair e.client e.tid) more)
            (sym (list_any-append (is_pair e.client e.tid) told more) ∙ its.once) (tells.pairs e.client e.tid low);
        own = its.own;
        marked = omega (arith, marked, mark_joined told more e.client, mark_joined history more e.client, tells.marks e.client);
        number = its.number ∙ ap (λ (t : Tree). (step limit t e.op (number_or e.number)).takes) (one_tree more);
        lawful = lawful_joined more e.number its.lawful;
        reply = its.reply ∙ ap (λ (t : Tree). (step limit t e.op (number_or e.number)).reply) (one_tree more);
      }

  pub one_history : (more : List Entry) → IsLegalFrom limit next (told ++ more) → IsLegalFrom limit opening (history ++ more)
  one_history more later = record {
    begins = omega (arith, legal.begins, length-append history more);
    next = λ k e from below. ⊎_elim (earlier k e from) (behind k e below) (cases_lt k (length history));
  }
    where
      earlier : (k : ℕ) (e : Entry) → opening.told ≤ k → k < length history → IsNextFrom limit opening (take k (history ++ more)) (slice_index_or (history ++ more) k e)
      earlier k e from h =
          let few : k ≤ length history = omega arith in
          rw (take-append-le k history more few, get_or_append_left history more e k h) (legal.next k e from h)

      at : (j : ℕ) (e : Entry) → j < length more → IsNextFrom limit opening (take (length history + j) (history ++ more)) (slice_index_or (history ++ more) (length history + j) e)
      at j e below =
          let its = later.next (length told + j) e (omega (arith, count)) (omega (arith, below, length-append told more)) in
          let this : IsNextFrom limit next (told ++ take j more) (slice_index_or more j e) =
          subst (λ (d : Entry). IsNextFrom limit next (told ++ take j more) d) (get_or-append-add told more j e)
          (subst (λ (es : List Entry). IsNextFrom limit next es (slice_index_or (told ++ more) (length told + j) e)) (take-append-add told more j) its) in
          rw (take-append-add history more j, get_or-append-add history more j e) (next_joined (take j more) (slice_index_or more j e) this)

      behind : (k : ℕ) (e : Entry) → k < length (history ++ more) → length history ≤ k → IsNextFrom limit opening (take k (history ++ more)) (slice_index_or (history ++ more) k e)
      behind k e below h =
          let more_than : length history + (k - length history) ≡ k = omega arith in
          subst (λ (n : ℕ). IsNextFrom limit opening (take n (history ++ more)) (slice_index_or (history ++ more) n e)) more_than
          (at (k - length history) e (omega (arith, below, length-append history more)))
