-- Descents: where they come to, and what leaves them as they are.
use Rattle.std.proofs.Common.{◌≡◌, ℕ, zero, suc, ◌+◌, ◌<◌, ◌≤◌, Option, Some, None, sym, ap, subst, ◌∙◌, arith}
use Rattle.std.specs.Option.{unwrap_or, option_map}
use Rattle.fragtree.specs.Descents.{Descends, there, on, Ends, depth}

module _ (round : ℕ → Option ℕ) where
  pub rises : (to n : ℕ) → Descends round to n → n ≤ to
  rises to _ (there n same) = omega (arith, same)
  rises to _ (on n nb is more) = omega (arith, rises to (n + nb) more)

  pub joined : (mid to n : ℕ) → Descends round mid n → Descends round to mid → Descends round to n
  joined mid to _ (there n same) next = subst (Descends round to) (sym same) next
  joined mid to _ (on n nb is more) next = on n nb is (joined mid to (n + nb) more next)

  -- a descent that passes a fragment and ends goes on from there to its end
  pub rest : (mid to n : ℕ) → Descends round mid n → Descends round to n → round to ≡ None → Descends round to mid
  rest mid to _ (there n same) all none = subst (Descends round to) same all
  rest mid to _ (on n nb is more) (there _ same) none = let clash : Some nb ≡ None = sym is ∙ ap round same ∙ none in cc
  rest mid to _ (on n nb is more) (on _ nb2 is2 all) none =
      let alike : nb2 ≡ nb = let both : Some nb2 ≡ Some nb = sym is2 ∙ is in cc in
      rest mid to (n + nb) more (subst (λ k. Descends round to (n + k)) alike all) none

  -- a descent goes nowhere from a fragment that isn't split
  pub stays : (to n : ℕ) → Descends round to n → round n ≡ None → n ≡ to
  stays to _ (there n same) none = same
  stays to _ (on n nb is more) none = let clash : Some nb ≡ None = sym is ∙ none in cc

  -- and further on from one that isn't its end
  pub next : (to n : ℕ) → Descends round to n → n < to → (nb : ℕ) × (round n ≡ Some nb) × Descends round to (n + nb)
  next to _ (there n same) less = absurd (omega (arith, same))
  next to _ (on n nb is more) less = (nb, is, more)

  pub one_end : (to also : ℕ) → Ends round to → Ends round also → to ≤ 24 → also ≤ 24 → to ≡ also
  one_end to also e f few few2 = stays also to (rest to also 0 e.descends f.descends (f.nothing also (omega arith) few2)) (e.nothing to (omega arith) few)

  module _ (some : (b nb : ℕ) → round b ≡ Some nb → 1 ≤ nb) where
    -- enough steps lead to the end
    pub depth-is : (steps to n : ℕ) → Descends round to n → round to ≡ None → to ≤ n + steps → depth steps round n ≡ to
    depth-is zero to n d none enough = omega (arith, rises to n d)
    depth-is (suc steps) to _ (there n same) none enough =
        ap (λ o. unwrap_or (option_map (λ nb. depth steps round (n + nb)) o) n) (ap round same ∙ none) ∙ same
    depth-is (suc steps) to _ (on n nb is more) none enough =
        ap (λ o. unwrap_or (option_map (λ k. depth steps round (n + k)) o) n) is ∙ depth-is steps to (n + nb) more none (omega (arith, some n nb is))

    -- what is split alike from n bits on and before the end is descended alike
    pub kept : (other : ℕ → Option ℕ) (to n : ℕ) → ((b : ℕ) → n ≤ b → b < to → other b ≡ round b) → Descends round to n → Descends other to n
    kept other to _ same (there n is) = there n is
    kept other to _ same (on n nb is more) =
        let less : n < to = omega (arith, some n nb is, rises to (n + nb) more) in
        on n nb (same n (omega arith) less ∙ is) (kept other to (n + nb) (λ b from below. same b (omega arith) below) more)
