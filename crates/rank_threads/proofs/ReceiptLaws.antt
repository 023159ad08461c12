-- Receipts, looked at from the last to the first.
use Rattle.rank_threads.proofs.Common.{Agree, AllByRecursion, NoneTwice, Bool, Entry, Fits, IsHeld, IsHeldAmong, HasEntry, List, Receipt, Stand, StandAmong, [], ap, arith, cond, drop, drop-length, drop_more, false, first_places, get_or, get_or-replicate, length, length-append, length-replicate, length-set, list_any, places_marked, nat_eq, refl, replicate, rules, set, subst, suc, sym, true, zero, ℕ, ◌++◌, ◌+◌, ◌-◌, ◌<◌, ◌||◌, ◌∙◌, ◌∷◌, ◌≡◌, ◌≤◌}
use Rattle.std.specs.Prelude.{IsTrue, ◌↔◌}
use Rattle.std.proofs.lemmas.Bool.{eq-eqb, eqb-true, false≢true}
use Rattle.std.proofs.Math.Seq.{get_or-append-add}
use Rattle.std.specs.List.{slice_index_or}

-- the named places are those of the first ones; the first is the place behind so many that are forgotten
pub record AreMarked (forgotten count : ℕ) (named : List Bool) (rs : List Receipt) : Type 0 where
  pub len : length named ≡ count
  pub at : (p : ℕ) → p < count → get_or named p false ≡ list_any (nat_eq (forgotten + p)) (first_places rs)

-- a place that isn't forgotten, counted from the first entry ever
back : (forgotten place : ℕ) → forgotten ≤ place → forgotten + (place - forgotten) ≡ place
back forgotten place there = omega (arith, there)

module _ (forgotten : ℕ) (history : List Entry) (from : ℕ) (r : Receipt) (rs : List Receipt) where
  first_more : (b : Bool) → r.first ≡ b → (named : List Bool) → StandAmong forgotten history from rs → AreMarked forgotten (length history) named rs → Fits forgotten history from named r → StandAmong forgotten history from (r ∷ rs)
  first_more true is named h m f = record {
    held = (f.held, h.held);
    newer = rw is ((f.first is).0, h.newer);
    apart = rw is (ap (λ n. list_any (nat_eq n) (first_places rs)) (sym (back forgotten r.place f.held.0)) ∙ sym (m.at (r.place - forgotten) f.held.1.in_range) ∙ (f.first is).1, h.apart);
  }
  first_more false is named h m f = record { held = (f.held, h.held); newer = rw is h.newer; apart = rw is h.apart }

  -- one receipt more stands
  pub stand_more : (named : List Bool) → StandAmong forgotten history from rs → AreMarked forgotten (length history) named rs → Fits forgotten history from named r → StandAmong forgotten history from (r ∷ rs)
  stand_more named h m f = first_more r.first refl named h m f

  rest_of : (b : Bool) → r.first ≡ b → StandAmong forgotten history from (r ∷ rs) → StandAmong forgotten history from rs
  rest_of true is h =
      let newer : AllByRecursion (λ place. from ≤ place) (r.place ∷ first_places rs) = subst (λ b. AllByRecursion (λ place. from ≤ place) (cond b (r.place ∷ first_places rs) (first_places rs))) is h.newer in
      let apart : NoneTwice (r.place ∷ first_places rs) = subst (λ b. NoneTwice (cond b (r.place ∷ first_places rs) (first_places rs))) is h.apart in
      record { held = h.held.1; newer = newer.1; apart = apart.1 }
  rest_of false is h = record {
    held = h.held.1;
    newer = subst (λ b. AllByRecursion (λ place. from ≤ place) (cond b (r.place ∷ first_places rs) (first_places rs))) is h.newer;
    apart = subst (λ b. NoneTwice (cond b (r.place ∷ first_places rs) (first_places rs))) is h.apart;
  }

  -- the others stand
  pub stand_rest : StandAmong forgotten history from (r ∷ rs) → StandAmong forgotten history from rs
  stand_rest h = rest_of r.first refl h

  -- a receipt fits beside the others with which it stands
  pub fits_of : (named : List Bool) → AreMarked forgotten (length history) named rs → StandAmong forgotten history from (r ∷ rs) → Fits forgotten history from named r
  fits_of named m h = record {
    held = h.held.0;
    first = λ is.
        let newer : AllByRecursion (λ place. from ≤ place) (r.place ∷ first_places rs) = subst (λ b. AllByRecursion (λ place. from ≤ place) (cond b (r.place ∷ first_places rs) (first_places rs))) is h.newer in
        let apart : NoneTwice (r.place ∷ first_places rs) = subst (λ b. NoneTwice (cond b (r.place ∷ first_places rs) (first_places rs))) is h.apart in
        (newer.0, m.at (r.place - forgotten) h.held.0.1.in_range ∙ ap (λ n. list_any (nat_eq n) (first_places rs)) (back forgotten r.place h.held.0.0) ∙ apart.0);
  }

-- those from a place in the list on stand
pub stand_drop : (forgotten : ℕ) (history : List Entry) (from : ℕ) (i : ℕ) (rs : List Receipt) → StandAmong forgotten history from rs → StandAmong forgotten history from (drop i rs)
stand_drop forgotten history from zero rs h = h
stand_drop forgotten history from (suc i) [] h = h
stand_drop forgotten history from (suc i) (r ∷ rs) h = stand_drop forgotten history from i rs (stand_rest forgotten history from r rs h)

pub stand_none : (forgotten : ℕ) (history : List Entry) (from : ℕ) → StandAmong forgotten history from []
stand_none forgotten history from = record { held = tt; newer = tt; apart = tt }

set_at : (xs : List Bool) (i p : ℕ) → i < length xs → get_or (set xs i true) p false ≡ (nat_eq p i || get_or xs p false)
set_at [] i p below = absurd (omega (arith, below))
set_at (x ∷ xs) zero zero below = refl
set_at (x ∷ xs) zero (suc p) below = let e : nat_eq (suc p) zero ≡ false = search rules in ap (λ b. b || get_or xs p false) (sym e)
set_at (x ∷ xs) (suc i) zero below = let e : nat_eq zero (suc i) ≡ false = search rules in ap (λ b. b || x) (sym e)
set_at (x ∷ xs) (suc i) (suc p) below = let e : nat_eq (suc p) (suc i) ≡ nat_eq p i = search rules in set_at xs i p (omega (arith, below)) ∙ ap (λ b. b || get_or xs p false) (sym e)

-- a place and a receipt's, counted from the first entry that isn't forgotten, or from the first ever
same_place : (forgotten p i : ℕ) → nat_eq (forgotten + p) (forgotten + i) ≡ nat_eq p i
same_place zero p i = (let e : nat_eq (0 + p) (0 + i) ≡ nat_eq p i = search rules in e)
same_place (suc n) p i = (let e : nat_eq (suc n + p) (suc n + i) ≡ nat_eq (n + p) (n + i) = search rules in e) ∙ same_place n p i

at_place : (forgotten p place : ℕ) → forgotten ≤ place → nat_eq p (place - forgotten) ≡ nat_eq (forgotten + p) place
at_place forgotten p place there = sym (same_place forgotten p (place - forgotten)) ∙ ap (λ n. nat_eq (forgotten + p) n) (back forgotten place there)

module _ (forgotten count : ℕ) (r : Receipt) (rs : List Receipt) where
  named_more : (b : Bool) → r.first ≡ b → (named : List Bool) → AreMarked forgotten count named rs → HasEntry forgotten r → r.place - forgotten < count → AreMarked forgotten count (places_marked forgotten named r) (r ∷ rs)
  named_more true is named m there below = record {
    len = rw is (length-set named (r.place - forgotten) true ∙ m.len);
    at = λ p low. rw is (set_at named (r.place - forgotten) p (omega (arith, m.len, below)) ∙ (λ i. at_place forgotten p r.place there i || m.at p low i));
  }
  named_more false is named m there below = record { len = rw is m.len; at = λ p low. rw is (m.at p low) }

  -- the places of one receipt more are named
  pub marked_more : (named : List Bool) → AreMarked forgotten count named rs → HasEntry forgotten r → r.place - forgotten < count → AreMarked forgotten count (places_marked forgotten named r) (r ∷ rs)
  marked_more named m there below = named_more r.first refl named m there below

-- at the end of the list no place is named
pub marked_none : (forgotten count : ℕ) (rs : List Receipt) → AreMarked forgotten count (replicate count false) (drop (length rs) rs)
marked_none forgotten count rs = rw (drop-length rs) (record { len = length-replicate count false; at = λ p low. get_or-replicate count p false false low })

pub stand_end : (forgotten : ℕ) (history : List Entry) (from : ℕ) (rs : List Receipt) → StandAmong forgotten history from (drop (length rs) rs)
stand_end forgotten history from rs = rw (drop-length rs) (stand_none forgotten history from)

count_one : (b : Bool) (place : ℕ) (places : List ℕ) → length (cond b (place ∷ places) places) ≡ cond b 1 0 + length places
count_one true place places = omega arith
count_one false place places = omega arith

-- the first ones, counted
pub count_more : (rs : List Receipt) (i : ℕ) (d : Receipt) → i < length rs → length (first_places (drop i rs)) ≡ cond (get_or rs i d).first 1 0 + length (first_places (drop (i + 1) rs))
count_more rs i d below = ap (λ xs. length (first_places xs)) (drop_more rs i d below) ∙ count_one (get_or rs i d).first (get_or rs i d).place (first_places (drop (i + 1) rs))

-- of receipts that stand, those from a place on, one of which fits beside the others
pub stand_at : (forgotten : ℕ) (history : List Entry) (from : ℕ) (rs : List Receipt) (k : ℕ) (named : List Bool) (d : Receipt) → k < length rs
    → AreMarked forgotten (length history) named (drop (k + 1) rs) → StandAmong forgotten history from rs → Fits forgotten history from named (get_or rs k d)
stand_at forgotten history from rs k named d below m h =
    let whole : StandAmong forgotten history from (get_or rs k d ∷ drop (k + 1) rs) = subst (StandAmong forgotten history from) (drop_more rs k d below) (stand_drop forgotten history from k rs h) in
    fits_of forgotten history from (get_or rs k d) (drop (k + 1) rs) named m whole

-- one receipt more, from the place before
pub stand_back : (forgotten : ℕ) (history : List Entry) (from : ℕ) (rs : List Receipt) (k : ℕ) (named : List Bool) (d : Receipt) → k < length rs
    → AreMarked forgotten (length history) named (drop (k + 1) rs) → StandAmong forgotten history from (drop (k + 1) rs) → Fits forgotten history from named (get_or rs k d)
    → AreMarked forgotten (length history) (places_marked forgotten named (get_or rs k d)) (drop k rs) × StandAmong forgotten history from (drop k rs)
stand_back forgotten history from rs k named d below m h f =
    rw (drop_more rs k d below) (marked_more forgotten (length history) (get_or rs k d) (drop (k + 1) rs) named m f.held.0 f.held.1.in_range, stand_more forgotten history from (get_or rs k d) (drop (k + 1) rs) named h m f)

-- the receipt before a place in the list, and those behind it
module _ (forgotten : ℕ) (history : List Entry) (from : ℕ) (rs : List Receipt) (left : ℕ) (named : List Bool) (r : Receipt) (is : r ≡ get_or rs (left - 1) r) (some : 0 < left) (within : left ≤ length rs) (m : AreMarked forgotten (length history) named (drop left rs)) where
  before : (left - 1) + 1 ≡ left
  before = omega (arith, some)

  marked_before : AreMarked forgotten (length history) named (drop ((left - 1) + 1) rs)
  marked_before = subst (λ n. AreMarked forgotten (length history) named (drop n rs)) (sym before) m

  -- of receipts that stand, it fits beside those behind it
  pub fits_there : StandAmong forgotten history from rs → Fits forgotten history from named r
  fits_there h = subst (λ (x : Receipt). Fits forgotten history from named x) (sym is) (stand_at forgotten history from rs (left - 1) named r (omega (arith, some, within)) marked_before h)

  -- one that fits stands with them
  pub fit : StandAmong forgotten history from (drop left rs) → Fits forgotten history from named r → AreMarked forgotten (length history) (places_marked forgotten named r) (drop (left - 1) rs) × StandAmong forgotten history from (drop (left - 1) rs)
  fit h f =
      let behind : StandAmong forgotten history from (drop ((left - 1) + 1) rs) = subst (λ n. StandAmong forgotten history from (drop n rs)) (sym before) h in
      let its : Fits forgotten history from named (get_or rs (left - 1) r) = subst (λ (x : Receipt). Fits forgotten history from named x) is f in
      let w = stand_back forgotten history from rs (left - 1) named r (omega (arith, some, within)) marked_before behind its in
      (subst (λ (x : Receipt). AreMarked forgotten (length history) (places_marked forgotten named x) (drop (left - 1) rs)) (sym is) w.0, w.1)

-- ---- all entries together, those that are forgotten and those that aren't

-- the entry of a place that isn't forgotten
at_back : (past history : List Entry) (place : ℕ) (e : Entry) → length past ≤ place → slice_index_or (past ++ history) place e ≡ slice_index_or history (place - length past) e
at_back past history place e there =
    ap (λ n. slice_index_or (past ++ history) n e) (sym (back (length past) place there)) ∙ get_or-append-add past history (place - length past) e

module _ (past history : List Entry) where
  held_in_all : (r : Receipt) → IsHeldAmong (length past) history r → IsHeld (past ++ history) r
  held_in_all r (there, h) = record {
    in_range = omega (arith, there, h.in_range, length-append past history);
    client_is = λ e. ap (λ (x : Entry). x.client) (at_back past history r.place e there) ∙ h.client_is e;
    tid_is = λ e. ap (λ (x : Entry). x.tid) (at_back past history r.place e there) ∙ h.tid_is e;
    reply_is = λ e. ap (λ (x : Entry). x.reply) (at_back past history r.place e there) ∙ h.reply_is e;
  }

  held_among : (r : Receipt) → HasEntry (length past) r → IsHeld (past ++ history) r → IsHeldAmong (length past) history r
  held_among r there h = (
    there,
    record {
      in_range = omega (arith, there, h.in_range, length-append past history);
      client_is = λ e. ap (λ (x : Entry). x.client) (sym (at_back past history r.place e there)) ∙ h.client_is e;
      tid_is = λ e. ap (λ (x : Entry). x.tid) (sym (at_back past history r.place e there)) ∙ h.tid_is e;
      reply_is = λ e. ap (λ (x : Entry). x.reply) (sym (at_back past history r.place e there)) ∙ h.reply_is e;
    },
  )

  all_held_in_all : (rs : List Receipt) → AllByRecursion (IsHeldAmong (length past) history) rs → AllByRecursion (IsHeld (past ++ history)) rs × AllByRecursion (HasEntry (length past)) rs
  all_held_in_all [] h = (tt, tt)
  all_held_in_all (r ∷ rs) (one, more) = let rest = all_held_in_all rs more in ((held_in_all r one, rest.0), (one.0, rest.1))

  all_held_among : (rs : List Receipt) → AllByRecursion (HasEntry (length past)) rs → AllByRecursion (IsHeld (past ++ history)) rs → AllByRecursion (IsHeldAmong (length past) history) rs
  all_held_among [] there h = tt
  all_held_among (r ∷ rs) (one, others) (held, more) = (held_among r one held, all_held_among rs others more)

  -- receipts that stand among the entries that aren't forgotten stand in the whole history, and are there
  pub stand_in_all : (from : ℕ) (rs : List Receipt) → StandAmong (length past) history from rs → Stand (past ++ history) from rs × AllByRecursion (HasEntry (length past)) rs
  stand_in_all from rs h = let held = all_held_in_all rs h.held in (record { held = held.0; newer = h.newer; apart = h.apart }, held.1)

  pub stand_among : (from : ℕ) (rs : List Receipt) → AllByRecursion (HasEntry (length past)) rs → Stand (past ++ history) from rs → StandAmong (length past) history from rs
  stand_among from rs there h = record { held = all_held_among rs there h.held; newer = h.newer; apart = h.apart }

-- the answer of an audit, behind a past
module _ (past history : List Entry) (forgotten places from : ℕ) (rs : List Receipt) (is_past : length past ≡ forgotten) (is_all : length (past ++ history) ≡ places) where
  abbrev AgreeAndHaveEntries : Type 0
  AgreeAndHaveEntries = Agree (past ++ history) from rs × AllByRecursion (HasEntry (length past)) rs

  pub counted : (firsts new : ℕ) → new ≡ places - from → firsts ≡ length (first_places rs) → StandAmong forgotten history from rs → IsTrue (nat_eq firsts new) ↔ AgreeAndHaveEntries
  counted firsts new is_new count stand =
      let its = stand_in_all past history from rs (subst (λ n. StandAmong n history from rs) (sym is_past) stand) in (
        λ same. let n = eqb-true firsts new same in (record { stand = its.0; as_many = omega (arith, n, is_new, count, is_all) }, its.1),
        λ all. let many = all.0.as_many in eq-eqb firsts new (omega (arith, many, is_new, count, is_all)),
      )

  pub strays : (IsTrue false ↔ StandAmong forgotten history from rs) → IsTrue false ↔ AgreeAndHaveEntries
  strays (to, of) = (λ no. absurd (false≢true no), λ all. of (subst (λ n. StandAmong n history from rs) is_past (stand_among past history from rs all.1 all.0.stand)))
