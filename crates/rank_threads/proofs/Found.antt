-- A fact of which it is only kept that it holds, and which can be decided, is there to be used.
use Rattle.rank_threads.proofs.Common.{AllByRecursion, KeptState, Contains, Entry, IsAskedFor, IsSent, List, Receipt, Request, Serves, [], ap, arith, refl, suc, sym, waiting_in, zero, ℕ, ◌∙◌, ◌∷◌, ◌≡◌}
use Rattle.std.proofs.Common.{drop, inl, inr, length, ◌⊎◌}
use Rattle.std.proofs.Math.Logic.{∥∥₁_elim, ∥∥₁_map}
use Rattle.std.proofs.lemmas.Bool.{cases_eq}
use Rattle.mds_types.specs.contracts.requests.Request.{the_row}
use base.Stored.{Coded, Gv, gcons, gnil, gnum, num}

abbrev Decided : Type 0 → Type 0
Decided P = P ⊎ (P → ⊥)

kept : {P : Type 0} → Decided P → ∥ P ∥₁ → P
kept (inl holds) h = holds
kept (inr not) h = absurd (∥∥₁_elim h (λ (x y : ⊥). absurd x) not)

-- ---- values that have a code are the same or not

abbrev tag : Gv → ℕ
tag gnil = 0
tag (gnum n) = 1
tag (gcons a b) = 2

abbrev left_of : Gv → Gv
left_of gnil = gnil
left_of (gnum n) = gnil
left_of (gcons a b) = a

abbrev right_of : Gv → Gv
right_of gnil = gnil
right_of (gnum n) = gnil
right_of (gcons a b) = b

apart : (a b : Gv) (m n : ℕ) → tag a ≡ m → tag b ≡ n → (m ≡ n → ⊥) → a ≡ b → ⊥
apart a b m n is_m is_n other same = other (sym is_m ∙ ap tag same ∙ is_n)

same_number : (m n : ℕ) → Decided (m ≡ n) → Decided (gnum m ≡ gnum n)
same_number m n (inl same) = inl (ap gnum same)
same_number m n (inr other) = inr (λ same. other (ap num same))

same_pair : (a b c d : Gv) → Decided (a ≡ c) → Decided (b ≡ d) → Decided (gcons a b ≡ gcons c d)
same_pair a b c d (inl p) (inl q) = inl (λ i. gcons (p i) (q i))
same_pair a b c d (inl p) (inr other) = inr (λ same. other (ap right_of same))
same_pair a b c d (inr other) q = inr (λ same. other (ap left_of same))

same_code : (a b : Gv) → Decided (a ≡ b)
same_code gnil gnil = inl refl
same_code gnil (gnum n) = inr (apart gnil (gnum n) 0 1 refl refl (λ e. omega (arith, e)))
same_code gnil (gcons c d) = inr (apart gnil (gcons c d) 0 2 refl refl (λ e. omega (arith, e)))
same_code (gnum m) gnil = inr (apart (gnum m) gnil 1 0 refl refl (λ e. omega (arith, e)))
same_code (gnum m) (gnum n) = same_number m n (cases_eq m n)
same_code (gnum m) (gcons c d) = inr (apart (gnum m) (gcons c d) 1 2 refl refl (λ e. omega (arith, e)))
same_code (gcons a b) gnil = inr (apart (gcons a b) gnil 2 0 refl refl (λ e. omega (arith, e)))
same_code (gcons a b) (gnum n) = inr (apart (gcons a b) (gnum n) 2 1 refl refl (λ e. omega (arith, e)))
same_code (gcons a b) (gcons c d) = same_pair a b c d (same_code a c) (same_code b d)

same_of : {A : Type 0} (code : Coded A) (x y : A) → Decided (x ≡ y)
same_of code x y = go (same_code (code.code x) (code.code y))
  where
    go : Decided (code.code x ≡ code.code y) → Decided (x ≡ y)
    go (inl same) = inl (code.inj x y same)
    go (inr other) = inr (λ same. other (ap code.code same))

-- ---- lists

module _ {X : Type 0} (P : X → Type 0) (each : (x : X) → Decided (P x)) where
  all_more : (x : X) (xs : List X) → Decided (P x) → Decided (AllByRecursion P xs) → Decided (AllByRecursion P (x ∷ xs))
  all_more x xs (inl here) (inl there) = inl (here, there)
  all_more x xs (inl here) (inr not) = inr (λ h. not h.1)
  all_more x xs (inr not) there = inr (λ h. not h.0)

  all : (xs : List X) → Decided (AllByRecursion P xs)
  all [] = inl tt
  all (x ∷ xs) = all_more x xs (each x) (all xs)

none_in : {X : Type 0} (x : X) → Contains [] x → ⊥
none_in x (k, stands, is) = omega (arith, stands)

first_in_list : {X : Type 0} (x y : X) (xs : List X) → x ≡ y → Contains (x ∷ xs) y
first_in_list x y xs same = (zero, omega arith, same)

later_in_list : {X : Type 0} (x y : X) (xs : List X) → Contains xs y → Contains (x ∷ xs) y
later_in_list x y xs (k, stands, is) = (suc k, omega (arith, stands), is)

first_or_later : {X : Type 0} (x y : X) (xs : List X) → Contains (x ∷ xs) y → (x ≡ y) ⊎ Contains xs y
first_or_later x y xs (zero, stands, is) = inl is
first_or_later x y xs (suc k, stands, is) = inr (k, omega (arith, stands), is)

has_more : (x y : Request) (xs : List Request) → Decided (x ≡ y) → Decided (Contains xs y) → Decided (Contains (x ∷ xs) y)
has_more x y xs (inl same) there = inl (first_in_list x y xs same)
has_more x y xs (inr other) (inl there) = inl (later_in_list x y xs there)
has_more x y xs (inr other) (inr none) = inr (λ h. go (first_or_later x y xs h))
  where
    go : (x ≡ y) ⊎ Contains xs y → ⊥
    go (inl same) = other same
    go (inr there) = none there

-- whether a request is one of these
has : (sent : List Request) (y : Request) → Decided (Contains sent y)
has [] y = inr (none_in y)
has (x ∷ xs) y = has_more x y xs (same_of the_row.coded x y) (has xs y)

abbrev Asks : Request → Receipt → Type 0
Asks x r = (x.client ≡ r.client) × (x.tid ≡ r.tid)

asks : (x : Request) (r : Receipt) → Decided (x.client ≡ r.client) → Decided (x.tid ≡ r.tid) → Decided (Asks x r)
asks x r (inl a) (inl b) = inl (a, b)
asks x r (inl a) (inr not) = inr (λ h. not h.1)
asks x r (inr not) b = inr (λ h. not h.0)

asked_more : (x : Request) (xs : List Request) (r : Receipt) → Decided (Asks x r) → Decided (IsAskedFor xs r) → Decided (IsAskedFor (x ∷ xs) r)
asked_more x xs r (inl its) there = inl (x, first_in_list x x xs refl, its.0, its.1)
asked_more x xs r (inr not) (inl there) = inl (there.0, later_in_list x there.0 xs there.1, there.2, there.3)
asked_more x xs r (inr not) (inr none) = inr (λ h. go h.0 h.2 h.3 (first_or_later x h.0 xs h.1))
  where
    go : (y : Request) → y.client ≡ r.client → y.tid ≡ r.tid → (x ≡ y) ⊎ Contains xs y → ⊥
    go y a b (inl same) = not (ap (λ (q : Request). q.client) same ∙ a, ap (λ (q : Request). q.tid) same ∙ b)
    go y a b (inr there) = none (y, there, a, b)

-- whether a reply was asked for by one of these
is_asked_for : (sent : List Request) (r : Receipt) → Decided (IsAskedFor sent r)
is_asked_for [] r = inr (λ h. none_in h.0 h.1)
is_asked_for (x ∷ xs) r = asked_more x xs r (asks x r (cases_eq x.client r.client) (cases_eq x.tid r.tid)) (is_asked_for xs r)

-- ---- what is kept under the lock, and by the threads

pub kept_asked : (sent : List Request) (told : List Receipt) → ∥ AllByRecursion (IsAskedFor sent) told ∥₁ → AllByRecursion (IsAskedFor sent) told
kept_asked sent told h = kept (all (IsAskedFor sent) (λ r. is_asked_for sent r) told) h

pub kept_serves : (limit : ℕ) (sent : List Request) (begun : List Entry) (book : KeptState) → ∥ Serves limit sent begun book ∥₁ → Serves limit sent begun book
kept_serves limit sent begun book h = record {
  limited = kept (cases_eq book.core.state.tree.limit limit) (∥∥₁_map h (λ s. s.limited));
  asked =
      kept (all (IsSent sent) (λ e. has sent (record { client = e.client; tid = e.tid; oldest = e.oldest; op = e.op })) (drop (length begun) book.history))
      (∥∥₁_map h (λ s. s.asked));
  waits = kept (all (Contains sent) (λ r. has sent r) (waiting_in book.core.state.inboxes)) (∥∥₁_map h (λ s. s.waits));
}
