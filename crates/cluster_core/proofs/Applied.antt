-- A book stays sound where a request is applied.
use Rattle.cluster_core.proofs.Common.{Answer, AreCached, AreExported, AreRoots, AreSupplied, Bool, Core, Entry, Ino, IsApplied, IsFresh, IsLawfulFrom, IsNextFrom, IsSoundWith, IsSound, IsSupplied, IsSupply, List, None, Opening, Option, Outcome, Rank, Request, Some, State, Supply, Tree, [], after_from, after_taking, ap, arith, cond, end_number, entry_of, eqb, eqb-false, eqb-true, false, first_number, get_or, get_or-set_other, get_or-set_same, is_some, length, length-set, nat_lt, nat_tests, no_supply, number_taken, number_or, offer, outcome_of, refl, set, shown, step, supply_of, sym, table-push, true, true≢false, unused, with_entry, with_waiting, ℕ, ⊎_elim, ◌++◌, ◌<◌, ◌∙◌, ◌∷◌, ◌≡◌, ◌≢◌, ◌≤◌}
use Rattle.cluster_core.proofs.OpeningLaws.{after_from-push, legal_from-push, used_from-push}

-- what an offer of a number comes to: the table took it, or it took none and the outcome is that of any number
pub record IsTaking (limit : ℕ) (tree : Tree) (request : Request) (s : Supply) (number : Option Ino) (outcome : Outcome) : Type 0 where
  pub same : step limit tree request.op (number_or number) ≡ outcome
  pub numbered : is_some number ≡ outcome.takes
  pub next_one : (n : Ino) → number ≡ Some n → (n.0 ≡ s.next) × (s.next < end_number s.rank)

abbrev offered : Bool → ℕ → Option Ino
offered left n = cond {A = Option Ino} left (Some (record { 0 = n })) None

abbrev took : Bool → Bool → ℕ → Option Ino
took takes left n = cond {A = Option Ino} takes (offered left n) None

taking : (limit : ℕ) (tree : Tree) (request : Request) (s : Supply) (left : Bool) (takes : Bool)
    → (left ≡ true → s.next < end_number s.rank)
    → takes ≡ (step limit tree request.op (number_or (offered left s.next))).takes
    → (offered left s.next ≡ None → takes ≡ false)
    → IsTaking limit tree request s (took takes left s.next) (step limit tree request.op (number_or (offered left s.next)))
taking limit tree request s left false below takes numbered = record {
  same = sym (unused limit tree request.op _ 0 (sym takes));
  numbered = takes;
  next_one = λ n is. cc;
}
taking limit tree request s true true below takes numbered = record {
  same = refl;
  numbered = takes;
  next_one = λ n is. (cc, below refl);
}
taking limit tree request s false true below takes numbered = absurd (true≢false (numbered refl))

-- what a request that is applied takes
taking_of : (state : State) (rank : Rank) (request : Request) → (offer (supply_of state rank) ≡ None → (outcome_of state rank request).takes ≡ false)
    → IsTaking state.tree.limit (shown state) request (supply_of state rank) (number_taken state rank request) (outcome_of state rank request)
taking_of state rank request numbered =
    let s = supply_of state rank in
    taking state.tree.limit (shown state) request s (nat_lt s.next (end_number s.rank)) (outcome_of state rank request).takes (λ e. grind (arith, nat_tests)) refl numbered

-- the supply afterwards
after_taking-fresh : (opening : Opening) (past : List Entry) (s : Supply) (e : Entry)
    → opening.told ≤ length past → IsFresh opening past s → ((n : Ino) → e.number ≡ Some n → n.0 ≡ s.next) → IsFresh opening (past ++ e ∷ []) (after_taking s e.number)
after_taking-fresh opening past s e begins fresh next_one = go e.number refl
  where
    go : (number : Option Ino) → e.number ≡ number → IsFresh opening (past ++ e ∷ []) (after_taking s number)
    go None is n from below among = ⊎_elim (λ before. fresh n from below before) (λ now. cc) (used_from-push opening past e n begins among)
    go (Some m) is n from below among =
        ⊎_elim (λ before. omega (arith, fresh n from below before)) (λ now. omega (arith, next_one (record { 0 = n }) now)) (used_from-push opening past e n begins among)

after_taking-supplied : (s : Supply) (number : Option Ino) → IsSupply s → ((n : Ino) → number ≡ Some n → (n.0 ≡ s.next) × (s.next < end_number s.rank)) → IsSupply (after_taking s number)
after_taking-supplied s None h next_one = h
after_taking-supplied s (Some n) h next_one =
    record { ranked = h.ranked; started = omega (arith, h.started); ended = omega (arith, (next_one n refl).1) }

lawful : (opening : Opening) (past : List Entry) (s : Supply) (number : Option Ino) → IsSupply s → IsFresh opening past s
    → ((n : Ino) → number ≡ Some n → (n.0 ≡ s.next) × (s.next < end_number s.rank)) → IsLawfulFrom opening past number
lawful opening past s None h fresh next_one = tt
lawful opening past s (Some n) h fresh next_one = λ before.
    let w = next_one n refl in
    let low : first_number s.rank ≤ n.0 = omega (arith, w.0, h.started) in
    let high : n.0 < end_number s.rank = omega (arith, w.0, w.1) in
    omega (arith, w.0, fresh n.0 low high before)

-- a supply of the same rank
taking_keeps_rank : (s : Supply) (number : Option Ino) → (after_taking s number).rank ≡ s.rank
taking_keeps_rank s None = refl
taking_keeps_rank s (Some n) = refl

-- a number is of one rank's range
one_range : (a b n : ℕ) → first_number a ≤ n → n < end_number a → first_number b ≤ n → n < end_number b → a ≡ b
one_range a b n low high least most = omega (arith, low, high, least, most)

-- another rank's supply is as fresh as it was
others-fresh : (opening : Opening) (past : List Entry) (s other : Supply) (e : Entry) → opening.told ≤ length past → s.rank ≢ other.rank → IsFresh opening past other
    → ((n : Ino) → e.number ≡ Some n → (first_number s.rank ≤ n.0) × (n.0 < end_number s.rank)) → IsFresh opening (past ++ e ∷ []) other
others-fresh opening past s other e begins apart fresh range n from below among =
    ⊎_elim (λ before. fresh n from below before) (λ now. let r = range (record { 0 = n }) now in absurd (apart (one_range s.rank other.rank n r.0 r.1 from below))) (used_from-push opening past e n begins among)

-- each rank has its supply after one of them gave out a number
module _ (opening : Opening) (past : List Entry) (numbers : List Supply) (rank : ℕ) (e : Entry) (there : rank < length numbers) (begins : opening.told ≤ length past) (before : AreSupplied opening past numbers)
    (next_one : (n : Ino) → e.number ≡ Some n → (n.0 ≡ (get_or numbers rank no_supply).next) × ((get_or numbers rank no_supply).next < end_number (get_or numbers rank no_supply).rank)) where
  abbrev mine : Supply
  mine = get_or numbers rank no_supply

  abbrev taken : Supply
  taken = after_taking mine e.number

  range : (n : Ino) → e.number ≡ Some n → (first_number mine.rank ≤ n.0) × (n.0 < end_number mine.rank)
  range n is = let w = next_one n is in (omega (arith, w.0, (before rank there).supply.started), omega (arith, w.0, w.1))

  at_rank : IsSupplied opening (past ++ e ∷ []) rank taken
  at_rank = let h = before rank there in record {
    supply = after_taking-supplied mine e.number h.supply next_one;
    own = taking_keeps_rank mine e.number ∙ h.own;
    fresh = after_taking-fresh opening past mine e begins h.fresh (λ n is. (next_one n is).0);
  }

  elsewhere : (k : ℕ) → k < length numbers → k ≢ rank → IsSupplied opening (past ++ e ∷ []) k (get_or numbers k no_supply)
  elsewhere k below apart = let h = before k below in record {
    supply = h.supply;
    own = h.own;
    fresh = others-fresh opening past mine (get_or numbers k no_supply) e begins (λ same. apart (sym h.own ∙ sym same ∙ (before rank there).own)) h.fresh range;
  }

  pub supplied_after : AreSupplied opening (past ++ e ∷ []) (set numbers rank taken)
  supplied_after k below = go (eqb k rank) refl
    where
      go : (b : Bool) → eqb k rank ≡ b → IsSupplied opening (past ++ e ∷ []) k (get_or (set numbers rank taken) k no_supply)
      go true same = let is = eqb-true k rank same in rw (is, get_or-set_same numbers rank taken no_supply there) at_rank
      go false other = let apart = eqb-false k rank other in rw (get_or-set_other numbers rank k taken no_supply apart) (elsewhere k (omega (arith, below, length-set numbers rank taken)) apart)

-- a book stays sound where a request is applied
pub sound-applied : (opening : Opening) (past now : List Entry) (old new : Core) (rank : Rank) (request : Request) (rest : List Request) (answer : Answer)
    → rank.0 < length old.state.numbers → IsSound opening past old → IsSoundWith new.state.tree new.caches → AreCached new → AreExported new → length new.caches.used ≡ length old.caches.used → AreRoots new.state.tree new.state.roots
    → new.state.tree.limit ≡ old.state.tree.limit → IsApplied old.state new.state past now rank request rest answer → IsSound opening now new
sound-applied opening past now old new rank request rest answer there sound tree cached exported count valid limit done =
    let before = old.state in
    let e = entry_of before rank request in
    let t = taking_of before rank request done.numbered in
    let first = after_from before.tree.limit opening past in
    let same : step before.tree.limit first e.op (number_or e.number) ≡ outcome_of before rank request = ap (λ (t : Tree). step before.tree.limit t e.op (number_or e.number)) (sym sound.replayed) ∙ t.same in
    let mine = sound.supplied rank.0 there in
    let next : IsNextFrom before.tree.limit opening past e = record {
      once = done.is_new.absent;
      own = done.is_new.own;
      marked = done.is_new.marked;
      number = t.numbered ∙ ap (λ (o : Outcome). o.takes) (sym same);
      lawful = lawful opening past (supply_of before rank) e.number mine.supply mine.fresh t.next_one;
      reply = ap (λ (o : Outcome). o.reply) (sym same);
    } in
    let numbers : new.state.numbers ≡ set before.numbers rank.0 (after_taking (supply_of before rank) e.number) = ap (λ (s : State). s.numbers) done.left in
    let inboxes : new.state.inboxes ≡ with_waiting before.inboxes rank rest = ap (λ (s : State). s.inboxes) done.left in
    let sessions : new.state.sessions ≡ with_entry before.sessions (length past) e = ap (λ (s : State). s.sessions) done.left in
    record {
      legal = rw (limit, done.appended) (legal_from-push before.tree.limit opening past e sound.legal next);
      replayed = done.tree ∙ ap (λ (o : Outcome). o.tree) (sym same) ∙ sym (after_from-push before.tree.limit opening past e sound.legal.begins) ∙ (λ i. after_from (sym limit i) opening (sym done.appended i));
      tree = tree;
      subtrees = valid;
      cached = cached;
      exported = exported;
      ranks = rw (numbers, inboxes) (record {
        some = omega (arith, sound.ranks.some, length-set before.numbers rank.0 (after_taking (supply_of before rank) e.number));
        inboxes = length-set before.inboxes rank.0 rest ∙ sound.ranks.inboxes ∙ sym (length-set before.numbers rank.0 (after_taking (supply_of before rank) e.number));
        caches = count ∙ sound.ranks.caches ∙ sym (length-set before.numbers rank.0 (after_taking (supply_of before rank) e.number));
      });
      supplied = rw (numbers, done.appended) (supplied_after opening past before.numbers rank.0 e there sound.legal.begins sound.supplied t.next_one);
      kept = rw (sessions, done.appended) (table-push past before.sessions e sound.kept);
    }
