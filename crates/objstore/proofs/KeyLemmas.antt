-- Keys and the names in front of `_head`.
use Rattle.objstore.proofs.Common.{List, ap, bytes_eq-Decides, codes, drop, entry_key, pointwise, sym, take, take-append-drop, true, ℕ, ◌++◌, ◌==◌, ◌∙◌, ◌≡◌}

-- the end of a key is `_head`, and what stands before it is the front
pub key_of_front : (key front : List ℕ) (n : ℕ) → pointwise ◌==◌ (drop n key) (codes "_head") ≡ true → front ≡ take n key → key ≡ entry_key front
key_of_front key front n same is =
    sym (take-append-drop n key) ∙ ap (λ end. take n key ++ end) ((bytes_eq-Decides _ _).0 same) ∙ ap (λ f. f ++ codes "_head") (sym is)
