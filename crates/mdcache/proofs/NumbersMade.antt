-- Each rank's numbers, one rank after the other.
use Rattle.mdcache.proofs.Common.{AreNumbers, List, None, Some, Supply, Tree, [], ap, length, refl, same_Some, slice_get, subst, suc, sym, zero, ℕ, ◌++◌, ◌+◌, ◌∙◌, ◌∷◌, ◌≡◌}
use Rattle.std.proofs.lemmas.List.{length-append}
use Rattle.cold_store.specs.Numbers.{IsNextNumber}

-- what holds of each place of a list holds of each place of the list with one more
each_more : (P : ℕ → Supply → Type 0) (xs : List Supply) (s : Supply) → ((k : ℕ) (t : Supply) → slice_get xs k ≡ Some t → P k t) → P (length xs) s → (k : ℕ) (t : Supply) → slice_get (xs ++ s ∷ []) k ≡ Some t → P k t
each_more P [] s each last zero t is = subst (P 0) (same_Some s t is) last
each_more P [] s each last (suc k) t is = let clash : None ≡ Some t = is in absurd cc
each_more P (x ∷ xs) s each last zero t is = each zero t is
each_more P (x ∷ xs) s each last (suc k) t is = each_more (λ k t. P (suc k) t) xs s (λ k t. each (suc k) t) last k t is

pub no_numbers : (tree : Tree) → AreNumbers tree 0 []
no_numbers tree = record { count = refl; nexts = λ rank s is. let clash : None ≡ Some s = is in absurd cc }

pub numbers_more : (tree : Tree) (ranks : ℕ) (numbers : List Supply) (s : Supply) → AreNumbers tree ranks numbers → s.rank ≡ ranks → IsNextNumber tree s → AreNumbers tree (ranks + 1) (numbers ++ s ∷ [])
numbers_more tree ranks numbers s a rank next = record {
  count = length-append numbers (s ∷ []) ∙ ap (λ n. n + 1) a.count;
  nexts = each_more (λ k t. (t.rank ≡ k) × IsNextNumber tree t) numbers s a.nexts (rank ∙ sym a.count, next);
}
