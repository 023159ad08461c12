-- The next number of a rank, from the entries one by one.
use Rattle.cold_store.proofs.Common.{Bool, Dentry, Inode, IsIn, IsNextNumber, IsOfRank, List, Supply, Tree, [], and_parts, arith, cond, dentry-exact, dentry-total, end_number, false, first_number, inl, inr, nat_le, nat_lt, nat_tests, passed, passed_all, refl, subst, sym, true, ℕ, ◌&&◌, ◌+◌, ◌<◌, ◌∙◌, ◌∷◌, ◌≡◌, ◌≤◌, ◌⊎◌}
use Rattle.std.specs.FinMap as map
use Rattle.cold_store.proofs.Members.{entry_of, get_entry}

-- what one number does
module _ (next end n : ℕ) where
  pub passes : next ≤ passed next end n
  passes = go (nat_le next n && nat_lt n end) refl
    where
      go : (b : Bool) → (nat_le next n && nat_lt n end) ≡ b → next ≤ cond b (n + 1) next
      go true is = let w = and_parts (nat_le next n) (nat_lt n end) is in let least : next ≤ n = grind (arith, nat_tests) in omega (arith, least)
      go false is = omega arith

  pub stays_within : next ≤ end → passed next end n ≤ end
  stays_within most = go (nat_le next n && nat_lt n end) refl
    where
      go : (b : Bool) → (nat_le next n && nat_lt n end) ≡ b → cond b (n + 1) next ≤ end
      go true is = let w = and_parts (nat_le next n) (nat_lt n end) is in let less : n < end = grind (arith, nat_tests) in omega (arith, less)
      go false is = most

  above_one : n < end → n < passed next end n
  above_one less = go (nat_le next n) (nat_lt n end) refl refl
    where
      go : (b c : Bool) → nat_le next n ≡ b → nat_lt n end ≡ c → n < cond (b && c) (n + 1) next
      go true true is at = omega arith
      go true false is at = absurd (grind (arith, nat_tests))
      go false c is at = grind (arith, nat_tests)

  from_one : (passed next end n ≡ next) ⊎ ((next ≤ n) × (n < end) × (passed next end n ≡ n + 1))
  from_one = go (nat_le next n && nat_lt n end) refl
    where
      go : (b : Bool) → (nat_le next n && nat_lt n end) ≡ b → (cond b (n + 1) next ≡ next) ⊎ ((next ≤ n) × (n < end) × (cond b (n + 1) next ≡ n + 1))
      go true is =
          let w = and_parts (nat_le next n) (nat_lt n end) is in
          let least : next ≤ n = grind (arith, nat_tests) in
          let less : n < end = grind (arith, nat_tests) in
          inr (least, less, refl)
      go false is = inl refl

-- what entries do
abbrev Entry : Type 0
Entry = Dentry × Inode

passes_all : (next end : ℕ) (es : List Entry) → next ≤ passed_all next end es
passes_all next end [] = omega arith
passes_all next end (e ∷ es) = omega (arith, passes next end e.1.ino.0, passes_all (passed next end e.1.ino.0) end es)

above_each : (next end : ℕ) (es : List Entry) (e : Entry) → IsIn e es → e.1.ino.0 < end → e.1.ino.0 < passed_all next end es
above_each next end [] e h less = absurd h
above_each next end (d ∷ es) e (inl same) less =
    let one : e.1.ino.0 < passed next end e.1.ino.0 = above_one next end e.1.ino.0 less in
    let here : e.1.ino.0 < passed next end d.1.ino.0 = subst (λ (x : Entry). e.1.ino.0 < passed next end x.1.ino.0) (sym same) one in
    omega (arith, here, passes_all (passed next end d.1.ino.0) end es)
above_each next end (d ∷ es) e (inr rest) less = above_each (passed next end d.1.ino.0) end es e rest less

pub record IsFrom (next end : ℕ) (es : List Entry) : Type 0 where
  pub entry : Entry
  pub among : IsIn entry es
  pub from : next ≤ entry.1.ino.0
  pub before : entry.1.ino.0 < end
  pub is : passed_all next end es ≡ entry.1.ino.0 + 1

from_entries : (next end : ℕ) (es : List Entry) → (passed_all next end es ≡ next) ⊎ IsFrom next end es
from_entries next end [] = inl refl
from_entries next end (e ∷ es) = go (from_entries (passed next end e.1.ino.0) end es)
  where
    head : passed_all next end (e ∷ es) ≡ passed next end e.1.ino.0 → (passed next end e.1.ino.0 ≡ next) ⊎ ((next ≤ e.1.ino.0) × (e.1.ino.0 < end) × (passed next end e.1.ino.0 ≡ e.1.ino.0 + 1)) → (passed_all next end (e ∷ es) ≡ next) ⊎ IsFrom next end (e ∷ es)
    head stays (inl none) = inl (stays ∙ none)
    head stays (inr (least, less, is)) = inr (record { entry = e; among = inl refl; from = least; before = less; is = stays ∙ is })

    go : (passed_all (passed next end e.1.ino.0) end es ≡ passed next end e.1.ino.0) ⊎ IsFrom (passed next end e.1.ino.0) end es → (passed_all next end (e ∷ es) ≡ next) ⊎ IsFrom next end (e ∷ es)
    go (inl stays) = head stays (from_one next end e.1.ino.0)
    go (inr w) = let least = w.from in inr (record { entry = w.entry; among = inr w.among; from = omega (arith, least, passes next end e.1.ino.0); before = w.before; is = w.is })

pub is_next : (tree : Tree) (s : Supply) → s.next ≡ passed_all (first_number s.rank) (end_number s.rank) (map.entries tree) → IsNextNumber tree s
is_next tree s is = record {
  above = λ dentry inode of. subst (λ n. inode.ino.0 < n) (sym is) (above_each (first_number s.rank) (end_number s.rank) (map.entries tree) (dentry, inode) (entry_of dentry-exact tree dentry inode of.stands) of.before);
  tight = go (from_entries (first_number s.rank) (end_number s.rank) (map.entries tree));
}
  where
    go : (passed_all (first_number s.rank) (end_number s.rank) (map.entries tree) ≡ first_number s.rank) ⊎ IsFrom (first_number s.rank) (end_number s.rank) (map.entries tree)
        → (s.next ≡ first_number s.rank) ⊎ ((dentry : Dentry) × (inode : Inode) × IsOfRank tree s.rank dentry inode × (s.next ≡ inode.ino.0 + 1))
    go (inl none) = inl (is ∙ none)
    go (inr w) = inr (w.entry.0, w.entry.1, record { stands = get_entry dentry-total tree w.entry w.among; from = w.from; before = w.before }, is ∙ w.is)
