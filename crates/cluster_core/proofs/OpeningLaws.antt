-- Laws of histories that begin with stand-ins: what one more entry changes; and behind the stand-ins the history is
-- legal from the tree, so each number of the tree was given.
use Rattle.cluster_core.proofs.Common.{Bool, Dentry, Entry, Ino, Inode, IsGiven, IsLawful, IsLawfulFrom, IsLegalFrom, IsNextFrom, IsUsed, IsUsedFrom, List, None, Opening, Option, Some, Tree, [], after, after-push, after_from, ap, arith, cases_lt, drop, false, fresh, get_or-append_seam, get_or_append_left, inl, inr, length, length-append, list_any, numbers_used, since, slice_index_or, subst, sym, take, true, used-push, ℕ, ⊎_elim, ◌+◌, ◌++◌, ◌<◌, ◌∙◌, ◌∷◌, ◌≡◌, ◌≤◌, ◌⊎◌}
use Rattle.std.specs.Prelude.{if◌then◌else◌, max, ◌==◌, ◌||◌}
use Rattle.std.specs.FinMap as map
use Rattle.std.proofs.Math.Seq.{drop-append_seam, take-append_seam, take-append-add}
use Rattle.std.proofs.lemmas.List.{drop-append-le, get_or-append-add, length-take, take-append-drop, take-append-le}
use Rattle.std.proofs.lemmas.List.Folds.{list_any-append}
use Rattle.mds_types.specs.History.{IsLegal, IsNext, is_pair, mark}
use Rattle.mds_types.specs.Step.{number_or, step}

-- the tree after one entry more
pub after_from-push : (limit : ℕ) (opening : Opening) (past : List Entry) (e : Entry) → opening.told ≤ length past
    → after_from limit opening (past ++ e ∷ []) ≡ (step limit (after_from limit opening past) e.op (number_or e.number)).tree
after_from-push limit opening past e begins =
    ap (after limit opening.tree) (drop-append-le opening.told past (e ∷ []) begins) ∙ after-push limit opening.tree (drop opening.told past) e

-- one entry more is legal where it may come next
pub legal_from-push : (limit : ℕ) (opening : Opening) (past : List Entry) (e : Entry) → IsLegalFrom limit opening past → IsNextFrom limit opening past e
    → IsLegalFrom limit opening (past ++ e ∷ [])
legal_from-push limit opening past e legal next = record {
  begins = omega (arith, legal.begins, length-append past (e ∷ []));
  next = λ k d from below. ⊎_elim (earlier k d from) (last k d below) (cases_lt k (length past));
}
  where
    earlier : (k : ℕ) (d : Entry) → opening.told ≤ k → k < length past → IsNextFrom limit opening (take k (past ++ e ∷ [])) (slice_index_or (past ++ e ∷ []) k d)
    earlier k d from h =
        let few : k ≤ length past = omega arith in
        rw (take-append-le k past (e ∷ []) few, get_or_append_left past (e ∷ []) d k h) (legal.next k d from h)

    last : (k : ℕ) (d : Entry) → k < length (past ++ e ∷ []) → length past ≤ k → IsNextFrom limit opening (take k (past ++ e ∷ [])) (slice_index_or (past ++ e ∷ []) k d)
    last k d below h =
        let long : length past ≡ k = omega (arith, below, length-append past (e ∷ [])) in
        subst (λ n. IsNextFrom limit opening (take n (past ++ e ∷ [])) (slice_index_or (past ++ e ∷ []) n d)) long
        (rw (take-append_seam past (e ∷ []), get_or-append_seam past e [] d) next)

-- a number that is used with one entry more was used before or is that entry's
pub used_from-push : (opening : Opening) (past : List Entry) (e : Entry) (n : ℕ) → opening.told ≤ length past → IsUsedFrom opening (past ++ e ∷ []) n
    → IsUsedFrom opening past n ⊎ (e.number ≡ Some (record { 0 = n }))
used_from-push opening past e n begins (inl given) = inl (inl given)
used_from-push opening past e n begins (inr used) =
    ⊎_elim (λ before. inl (inr before)) inr (used-push opening.tree (since opening past) e n (subst (λ (es : List Entry). IsUsed opening.tree es n) (drop-append-le opening.told past (e ∷ []) begins) used))

-- ---- behind the stand-ins

none_behind : (p : Entry → Bool) (xs ys : List Entry) → list_any p (xs ++ ys) ≡ false → list_any p ys ≡ false
none_behind p xs ys none = go (list_any p xs) (list_any p ys) (sym (list_any-append p xs ys) ∙ none)
  where
    go : (a b : Bool) → (a || b) ≡ false → b ≡ false
    go true b none = cc
    go false b none = none

mark_behind : (xs ys : List Entry) (client : ℕ) → mark ys client ≤ mark (xs ++ ys) client
mark_behind [] ys client = omega arith
mark_behind (x ∷ xs) ys client = go (x.client == client) (mark_behind xs ys client)
  where
    go : (b : Bool) → mark ys client ≤ mark (xs ++ ys) client → mark ys client ≤ (if b then max x.oldest (mark (xs ++ ys) client) else mark (xs ++ ys) client)
    go true least = omega (arith, least)
    go false least = least

lawful_behind : (opening : Opening) (past : List Entry) (number : Option Ino) → IsLawfulFrom opening past number → IsLawful opening.tree (since opening past) number
lawful_behind opening past None lawful = tt
lawful_behind opening past (Some n) lawful = λ used. lawful (inr used)

module _ (limit : ℕ) (opening : Opening) (xs ys : List Entry) (many : opening.told ≡ length xs) where
  next_behind : (e : Entry) (n : ℕ) → IsNextFrom limit opening (xs ++ take n ys) e → IsNext limit opening.tree (take n ys) e
  next_behind e n next =
      let same : drop opening.told (xs ++ take n ys) ≡ take n ys = ap (λ m. drop m (xs ++ take n ys)) many ∙ drop-append_seam xs (take n ys) in
      record {
        once = none_behind (is_pair e.client e.tid) xs (take n ys) next.once;
        own = next.own;
        marked = omega (arith, next.marked, mark_behind xs (take n ys) e.client);
        number = next.number ∙ ap (λ es. (step limit (after limit opening.tree es) e.op (number_or e.number)).takes) same;
        lawful = subst (λ (es : List Entry). IsLawful opening.tree es e.number) same (lawful_behind opening (xs ++ take n ys) e.number next.lawful);
        reply = next.reply ∙ ap (λ es. (step limit (after limit opening.tree es) e.op (number_or e.number)).reply) same;
      }

  behind_these : IsLegalFrom limit opening (xs ++ ys) → IsLegal limit opening.tree ys
  behind_these legal k d below =
      let next = legal.next (length xs + k) d (omega (arith, many)) (omega (arith, below, length-append xs ys)) in
      next_behind (slice_index_or ys k d) k
      (subst (λ (e : Entry). IsNextFrom limit opening (xs ++ take k ys) e) (get_or-append-add xs ys k d)
      (subst (λ (es : List Entry). IsNextFrom limit opening es (slice_index_or (xs ++ ys) (length xs + k) d)) (take-append-add xs ys k) next))

-- behind the stand-ins a legal history is one from the tree
pub legal_behind : (limit : ℕ) (opening : Opening) (history : List Entry) → IsLegalFrom limit opening history → IsLegal limit opening.tree (drop opening.told history)
legal_behind limit opening history legal =
    behind_these limit opening (take opening.told history) (drop opening.told history) (omega (arith, legal.begins, length-take opening.told history))
    (subst (λ (es : List Entry). IsLegalFrom limit opening es) (sym (take-append-drop opening.told history)) legal)

-- so each number of the tree after a legal history was given
pub numbers_from : (limit : ℕ) (opening : Opening) (history : List Entry) → IsLegalFrom limit opening history
    → (dentry : Dentry) (inode : Inode) → map.get (after_from limit opening history) dentry ≡ Some inode → IsUsedFrom opening history inode.ino.0
numbers_from limit opening history legal dentry inode stands =
    inr (numbers_used limit opening.tree (since opening history) (legal_behind limit opening history legal) dentry inode stands)

-- ---- a history with nothing before it

-- it is legal from an opening with nothing before it exactly where it is legal from the tree
pub legal_fresh : (limit : ℕ) (tree : Tree) (history : List Entry) → (IsLegalFrom limit (fresh tree) history → IsLegal limit tree history)
    × (IsLegal limit tree history → IsLegalFrom limit (fresh tree) history)
legal_fresh limit tree history = (legal_behind limit (fresh tree) history, onto)
  where
    none_given : {n : ℕ} → IsGiven [] n → ⊥
    none_given (s, (k, below, is), from, to, less) = omega (arith, below)

    lawful_fresh : (past : List Entry) (number : Option Ino) → IsLawful tree past number → IsLawfulFrom (fresh tree) past number
    lawful_fresh past None lawful = tt
    lawful_fresh past (Some n) lawful = λ used. ⊎_elim none_given lawful used

    onto : IsLegal limit tree history → IsLegalFrom limit (fresh tree) history
    onto legal = record {
      begins = omega arith;
      next = λ k d from below. let its = legal k d below in record {
        once = its.once;
        own = its.own;
        marked = its.marked;
        number = its.number;
        lawful = lawful_fresh (take k history) (slice_index_or history k d).number its.lawful;
        reply = its.reply;
      };
    }
