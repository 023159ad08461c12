-- The names of the objects of children, one by one.
use Rattle.mdcache.proofs.Common.{Contains, Contains-append_left, Contains-push, Contains-push_cases, Fragment, Ino, List, NameChildren, [], ap, arith, below_or_it, child_of, inl, inr, subst, sym, text_of, ℕ, ◌++◌, ◌+◌, ◌<◌, ◌^◌, ◌∙◌, ◌∷◌, ◌≡◌, ◌≤◌, ◌⊎◌}

-- these name the objects of the first children
pub record NameFirst (dir : Ino) (frag : Fragment) (nb n : ℕ) (texts : List (List ℕ)) : Type 0 where
  pub each : (i : ℕ) → i < n → Contains texts (text_of (dir, child_of frag i nb))
  pub only : (text : List ℕ) → Contains texts text → (i : ℕ) × (i < 2 ^ nb) × (text ≡ text_of (dir, child_of frag i nb))

pub none_named : (dir : Ino) (frag : Fragment) (nb : ℕ) → NameFirst dir frag nb 0 []
none_named dir frag nb = record { each = λ i below. absurd (omega (arith, below)); only = λ text has. let within = has.1 in absurd (omega (arith, within)) }

pub more_named : (dir : Ino) (frag : Fragment) (nb n : ℕ) (texts : List (List ℕ)) (text : List ℕ) → n < 2 ^ nb → NameFirst dir frag nb n texts → text ≡ text_of (dir, child_of frag n nb) → NameFirst dir frag nb (n + 1) (texts ++ text ∷ [])
more_named dir frag nb n texts text below named is = record {
  each = λ i less. at i (below_or_it i n less);
  only = λ t has. of t (Contains-push_cases texts text t has);
}
  where
    at : (i : ℕ) → (i < n) ⊎ (i ≡ n) → Contains (texts ++ text ∷ []) (text_of (dir, child_of frag i nb))
    at i (inl before) = Contains-append_left texts (text ∷ []) (text_of (dir, child_of frag i nb)) (named.each i before)
    at i (inr it) = subst (Contains (texts ++ text ∷ [])) (is ∙ ap (λ (k : ℕ). text_of (dir, child_of frag k nb)) (sym it)) (Contains-push texts text)

    of : (t : List ℕ) → Contains texts t ⊎ (text ≡ t) → (i : ℕ) × (i < 2 ^ nb) × (t ≡ text_of (dir, child_of frag i nb))
    of t (inl has) = named.only t has
    of t (inr same) = (n, below, sym same ∙ is)

pub all_named : (dir : Ino) (frag : Fragment) (nb n : ℕ) (texts : List (List ℕ)) → 2 ^ nb ≤ n → NameFirst dir frag nb n texts → NameChildren dir frag nb texts
all_named dir frag nb n texts all named = record { each = λ i below. named.each i (omega (arith, all, below)); only = named.only }
