-- A number that no entry has.
use Rattle.plain_frags.proofs.Common.{Bool, IsUnused, Tree, any_found, any_of, ap, dentry-total, dentry_of, eqb-true, false, get-entries, is_numbered, is_same, list_any, not, refl, sym, true, ℕ, ◌↔◌, ◌∙◌, ◌≡◌}
use Rattle.std.specs.FinMap as map

-- a number other than the root's is unused exactly if no entry has it
pub unused_told : (tree : Tree) (n : ℕ) (told : Bool) → (n ≡ 1 → ⊥) → told ≡ not (list_any (is_numbered n) (map.entries tree)) → (told ≡ true) ↔ IsUnused tree n
unused_told tree n told apart is = (
  λ yes. record { not_root = apart; not_there = λ d name inode stands same. clash (any_of tree (is_numbered n) (dentry_of d name) inode stands (is_same inode.ino.0 n same)) (sym yes ∙ is) },
  λ unused. is ∙ free (list_any (is_numbered n) (map.entries tree)) refl unused,
)
  where
    clash : list_any (is_numbered n) (map.entries tree) ≡ true → true ≡ not (list_any (is_numbered n) (map.entries tree)) → ⊥
    clash some none = let c : true ≡ false = none ∙ ap not some in cc

    free : (b : Bool) → list_any (is_numbered n) (map.entries tree) ≡ b → IsUnused tree n → not (list_any (is_numbered n) (map.entries tree)) ≡ true
    free false none unused = ap not none
    free true some unused =
        let w = any_found dentry-total (is_numbered n) (map.entries tree) (map.entries_sorted tree) some in
        absurd (unused.not_there w.0.0.dir.0 w.0.0.name w.0.1 (get-entries tree w.0.0 ∙ w.1) (eqb-true w.0.1.ino.0 n w.2))
