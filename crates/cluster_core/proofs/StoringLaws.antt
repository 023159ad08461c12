-- What edits make of the rows that a store keeps.
use Rattle.cluster_core.proofs.Common.{AreSupplied, Entry, IsGiven, IsUsedFrom, List, Opening, StandsBehind, Supply, [], ap, arith, drop, get_or, get_or_append_left, inl, inr, length, length-append, no_supply, refl, subst, suc, sym, zero, cases_lt, ℕ, ⊎_elim, ◌+◌, ◌++◌, ◌-◌, ◌<◌, ◌∙◌, ◌∷◌, ◌≡◌, ◌≤◌, ◌⊎◌}
use Rattle.std.specs.Prelude.{Contains}
use Rattle.std.proofs.lemmas.List.{get_or-append-add, get_or-drop, get_or_past, get_or_push}
use Rattle.inode_table.specs.Numbers.{IsSupply, end_number, first_number}
use Rattle.keeping.specs.declared.rows.RowEdit.{RowEdit}
use Rattle.keeping.specs.Rows.{SessionRows, rows_after_edits}
use Rattle.sessions.proofs.WrittenLaws.{written}
use Rattle.session_rows.specs.Sessions.{AreNextInos, with_nexts}
use Rattle.cluster_core.specs.KeptSessions.{AreNextOf, IsOfRanks, IsSpent, RowsTell, TellsBut, Updates, WritesAll}
use Rattle.cluster_core.specs.Resumed.{supplies_from}
use Rattle.cluster_core.specs.State.{KeptState}
use Rattle.cluster_core.proofs.ResumedLaws.{given_below}

-- ---- numbers

-- the supply of a rank is among those of all
supply_among : (first : ℕ) (nexts : List ℕ) (k : ℕ) → k < length nexts → Contains (supplies_from first nexts) (record { rank = first + k; next = get_or nexts k 0 })
supply_among first [] k below = absurd (omega (arith, below))
supply_among first (next ∷ nexts) zero below = (0, omega arith, ap (λ (r : ℕ). record { rank = r; next = next }) (omega arith))
supply_among first (next ∷ nexts) (suc k) below =
    let its = subst (λ (r : ℕ). Contains (supplies_from (suc first) nexts) (record { rank = r; next = get_or nexts k 0 })) (omega arith) (supply_among (suc first) nexts k (omega (arith, below))) in
    (suc its.0, omega (arith, its.1), its.2)

-- a number below the next of its rank is given
given_in : (nexts : List ℕ) (rank n : ℕ) → rank < length nexts → first_number rank ≤ n → n < end_number rank → n < get_or nexts rank 0 → IsGiven (supplies_from 0 nexts) n
given_in nexts rank n among low high below =
    (record { rank = rank; next = get_or nexts rank 0 }, subst (λ (r : ℕ). Contains (supplies_from 0 nexts) (record { rank = r; next = get_or nexts rank 0 })) (omega arith) (supply_among 0 nexts rank among), low, high, below)

-- in a list behind another
behind : (xs ys : List ℕ) (k : ℕ) → length xs ≤ k → get_or (xs ++ drop (length xs) ys) k 0 ≡ get_or ys k 0
behind xs ys k from =
    ap (λ (j : ℕ). get_or (xs ++ drop (length xs) ys) j 0) (omega arith) ∙ get_or-append-add xs (drop (length xs) ys) (k - length xs) 0
    ∙ get_or-drop (length xs) ys (k - length xs) 0 ∙ ap (λ (j : ℕ). get_or ys j 0) (omega arith)

module _ (opening : Opening) (history : List Entry) (numbers : List Supply) (nexts : List ℕ) (supplied : AreSupplied opening history numbers) (are : AreNextOf (length numbers) numbers nexts) (before : List ℕ) where
  -- a used number of a rank that is there is below the rank's next
  of_ranks : (n : ℕ) → IsUsedFrom opening history n → IsOfRanks (length numbers) n → IsGiven (supplies_from 0 (with_nexts nexts before)) n
  of_ranks n used (rank, among, low, high) =
      let its = supplied rank among in
      let below : n < (get_or numbers rank no_supply).next = its.fresh n (omega (arith, low, its.own)) (omega (arith, high, its.own)) used in
      let inside : rank < length nexts = omega (arith, among, are.as_many) in
      let first : get_or (with_nexts nexts before) rank 0 ≡ get_or nexts rank 0 = get_or_append_left nexts (drop (length nexts) before) 0 rank inside in
      given_in (with_nexts nexts before) rank n (omega (arith, inside, length-append nexts (drop (length nexts) before))) low high
      (omega (arith, below, first, are.each rank among))

  -- so one that was given is given still
  given_still : (n : ℕ) → IsUsedFrom opening history n → IsGiven (supplies_from 0 before) n → IsGiven (supplies_from 0 (with_nexts nexts before)) n
  given_still n used (s, among, low, high, below) =
      let its = given_below 0 before s among in
      let low' : first_number its.0 ≤ n = omega (arith, low, its.1) in
      let high' : n < end_number its.0 = omega (arith, high, its.1) in
      ⊎_elim
      (λ (here : its.0 < length numbers). of_ranks n used (its.0, here, low', high'))
      (λ (there : length numbers ≤ its.0).
      let same : get_or (with_nexts nexts before) its.0 0 ≡ get_or before its.0 0 = behind nexts before its.0 (omega (arith, there, are.as_many)) in
      given_in (with_nexts nexts before) its.0 n (inside (with_nexts nexts before) its.0 (omega (arith, below, its.2, same)))
      low' high' (omega (arith, below, its.2, same)))
      (cases_lt its.0 (length numbers))
    where
      inside : (xs : List ℕ) (k : ℕ) → 0 < get_or xs k 0 → k < length xs
      inside xs k some = ⊎_elim (λ (below : k < length xs). below) (λ (past : length xs ≤ k). absurd (omega (arith, some, get_or_past xs k 0 past))) (cases_lt k (length xs))

  pub spent : (n : ℕ) → IsUsedFrom opening history n → IsOfRanks (length numbers) n ⊎ IsSpent before n → IsSpent (with_nexts nexts before) n
  spent n used (inl here) = inr (of_ranks n used here)
  spent n used (inr (inl root)) = inl root
  spent n used (inr (inr given)) = inr (given_still n used given)

-- ---- the next numbers, rank by rank

pub none_next : (numbers : List Supply) → AreNextOf 0 numbers []
none_next numbers = record { as_many = refl; each = λ rank below. absurd (omega (arith, below)) }

pub one_next : (count : ℕ) (numbers : List Supply) (nexts : List ℕ) (next : ℕ) → AreNextOf count numbers nexts → next ≡ (get_or numbers count no_supply).next → AreNextOf (count + 1) numbers (nexts ++ next ∷ [])
one_next count numbers nexts next are is = record {
  as_many = length-append nexts (next ∷ []) ∙ omega (arith, are.as_many);
  each = λ rank below. ⊎_elim
      (λ (low : rank < count). get_or_append_left nexts (next ∷ []) 0 rank (omega (arith, low, are.as_many)) ∙ are.each rank low)
      (λ (high : count ≤ rank).
      let last : rank ≡ count = omega (arith, below, high) in
      rw last (get_or_push nexts next 0 count are.as_many ∙ is))
      (cases_lt rank count);
}

-- they are numbers of the ranks' ranges, or the ends of these
pub next_inos : (opening : Opening) (history : List Entry) (numbers : List Supply) (nexts : List ℕ) → AreSupplied opening history numbers → AreNextOf (length numbers) numbers nexts → AreNextInos nexts
next_inos opening history numbers nexts supplied are = record {
  few = ⊎_elim (λ (few : length numbers < 17). omega (arith, few, are.as_many))
      (λ (many : 17 ≤ length numbers).
      let last = supplied 16 (omega (arith, many)) in
      absurd (omega (arith, last.supply.ranked, last.own)))
      (cases_lt (length numbers) 17);
  ranged = λ rank below.
      let among : rank.0 < length numbers = omega (arith, below, are.as_many) in
      let its = supplied rank.0 among in
      let next = are.each rank.0 among in
      record { least = omega (arith, its.supply.started, its.own, next); most = omega (arith, its.supply.ended, its.own, next) };
}

-- ---- the rows

-- a law of sessions: once what is kept of the changed clients is written, what is stored is what the history keeps
pub told_all : (book : KeptState) (edits : List RowEdit) → WritesAll book.history book.core edits → Updates book edits
told_all book edits all = λ opening past behind rows told.
    let its = all.writes rows told.stored told.nexts told.spelled in
    record {
      stored = its.new;
      nexts = with_nexts all.nexts told.nexts;
      spelled = its.spelled;
      once = told.once;
      clients = written past book.history book.core.state.sessions book.core.state.sessions.changed told.stored its.new behind.behind.sound.kept behind.behind.aside told.once told.clients its.anew;
      numbers = λ n used. spent opening (past ++ book.history) book.core.state.numbers all.nexts behind.behind.sound.supplied all.are told.nexts n used (told.numbers n used);
    }
