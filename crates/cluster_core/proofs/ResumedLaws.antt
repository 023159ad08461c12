-- A book that goes on from what an earlier one kept is sound behind the stand-ins.
use Rattle.cluster_core.proofs.Common.{AreRanks, AreSupplied, Bool, Core, Entry, Ino, IsFresh, IsSound, IsSupplied, IsTableOf, IsUsed, IsUsedFrom, List, None, Opening, Option, Some, StandsBehind, Supply, Tree, [], after, ap, append-nil, arith, cond, eqb, eqb-false, eqb-true, false, fresh, get_or, get_or-set_other, get_or-set_same, inl, inr, length, length-append, length-set, ltb-false, ltb-true, nat_lt, no_supply, offer, refl, set, since, subst, suc, sym, true, zero, ℕ, ⊎_elim, ◌+◌, ◌++◌, ◌<◌, ◌∙◌, ◌∷◌, ◌≡◌, ◌≤◌, ◌⊎◌}
use Rattle.std.specs.Prelude.{Contains}
use Rattle.std.proofs.Math.Seq.{drop-append_seam}
use Rattle.std.proofs.lemmas.Option.{same_Some}
use Rattle.inode_table.specs.Numbers.{IsSupply, end_number, first_number}
use Rattle.cluster_core.specs.Resumed.{AreRaised, IsRaised, TellsAll, resumes, supplies_from}

-- ---- a book goes on

-- what is given is below the number that was stored for its rank
pub given_below : (first : ℕ) (nexts : List ℕ) (s : Supply) → Contains (supplies_from first nexts) s → (k : ℕ) × (s.rank ≡ first + k) × (s.next ≡ get_or nexts k 0)
given_below first [] s (k, below, is) = absurd (omega (arith, below))
given_below first (next ∷ nexts) s (zero, below, is) = (0, ap (λ (t : Supply). t.rank) (sym is) ∙ omega arith, ap (λ (t : Supply). t.next) (sym is))
given_below first (next ∷ nexts) s (suc k, below, is) =
    let its = given_below (suc first) nexts s (k, omega (arith, below), is) in
    (suc its.0, its.1 ∙ omega arith, its.2)

module _ (tree : Tree) (told : List Entry) (nexts : List ℕ) where
  abbrev opening : Opening
  opening = resumes tree told nexts

  none_since : since opening (told ++ []) ≡ []
  none_since = drop-append_seam told []

  raised_fresh : (rank : ℕ) (old new : Supply) → old.rank ≡ rank → new.rank ≡ old.rank → old.next ≤ new.next
      → ((n : ℕ) → n < end_number new.rank → n < get_or nexts rank 0 → n < new.next) → IsFresh (fresh tree) [] old → IsFresh opening (told ++ []) new
  raised_fresh rank old new own same kept raised before n low high (inl (s, among, from, to, below)) =
      let its = given_below 0 nexts s among in
      let one : its.0 ≡ rank = omega (arith, its.1, own, same, low, high, from, to) in
      raised n high (omega (arith, below, its.2 ∙ ap (λ (k : ℕ). get_or nexts k 0) one))
  raised_fresh rank old new own same kept raised before n low high (inr used) =
      let still : IsUsedFrom (fresh tree) [] n = inr (subst (λ (es : List Entry). IsUsed tree es n) none_since used) in
      omega (arith, kept, before n (omega (arith, low, same)) (omega (arith, high, same)) still)

  raised_supplied : (old new : List Supply) → AreSupplied (fresh tree) [] old → AreRaised nexts old new → AreSupplied opening (told ++ []) new
  raised_supplied old new supplied raised rank below =
      let there : rank < length old = omega (arith, below, raised.as_many) in
      let was = supplied rank there in
      let its = raised.each rank there in
      record {
        supply = its.valid;
        own = its.same ∙ was.own;
        fresh = raised_fresh rank (get_or old rank no_supply) (get_or new rank no_supply) was.own its.same its.kept its.raised was.fresh;
      }

  pub resumed_sound : (old new : Core) → IsSound (fresh tree) [] old → new ≡ record old { state = record old.state { numbers = new.state.numbers; sessions = new.state.sessions } }
      → AreRaised nexts old.state.numbers new.state.numbers → IsTableOf told new.state.sessions → IsSound opening (told ++ []) new
  resumed_sound old new sound same raised table = subst (IsSound opening (told ++ [])) (sym same) (record {
    legal = record { begins = omega (arith, length-append told []); next = λ k e from below. absurd (omega (arith, from, below, length-append told [])) };
    replayed = sound.replayed ∙ ap (after old.state.tree.limit tree) (sym none_since);
    tree = sound.tree;
    subtrees = sound.subtrees;
    cached = record { unsaved = sound.cached.unsaved; places = sound.cached.places; held = sound.cached.held; orders = sound.cached.orders };
    exported = record { placed = sound.exported.placed; ranked = sound.exported.ranked; there = sound.exported.there; unbegun = sound.exported.unbegun };
    ranks = record {
      some = omega (arith, sound.ranks.some, raised.as_many);
      inboxes = sound.ranks.inboxes ∙ sym raised.as_many;
      caches = sound.ranks.caches ∙ sym raised.as_many;
    };
    supplied = raised_supplied old.state.numbers new.state.numbers sound.supplied raised;
    kept = subst (λ (es : List Entry). IsTableOf es new.state.sessions) (sym (append-nil told)) table;
  })

-- ---- supplies are raised

-- a number that is offered is the next,
pub offered : (s : Supply) (n : Ino) → offer s ≡ Some n → (n.0 ≡ s.next) × (s.next < end_number s.rank)
offered s n is = go (nat_lt s.next (end_number s.rank)) refl is
  where
    go : (b : Bool) → nat_lt s.next (end_number s.rank) ≡ b → cond {A = Option Ino} b (Some (record { 0 = s.next })) None ≡ Some n → (n.0 ≡ s.next) × (s.next < end_number s.rank)
    go true below same = (ap (λ (i : Ino). i.0) (same_Some n (record { 0 = s.next }) (sym same)), ltb-true s.next (end_number s.rank) below)
    go false none same = cc

-- and where none is, the range is used up
pub none_offered : (s : Supply) → offer s ≡ None → end_number s.rank ≤ s.next
none_offered s is = go (nat_lt s.next (end_number s.rank)) refl is
  where
    go : (b : Bool) → nat_lt s.next (end_number s.rank) ≡ b → cond {A = Option Ino} b (Some (record { 0 = s.next })) None ≡ None → end_number s.rank ≤ s.next
    go true below same = cc
    go false none same = ltb-false s.next (end_number s.rank) none

-- a supply that needn't be raised
pub unraised : (s : Supply) (next : ℕ) → IsSupply s → (next ≤ s.next) ⊎ (end_number s.rank ≤ s.next) → IsRaised s s next
unraised s next valid enough = record {
  same = refl;
  valid = valid;
  kept = omega arith;
  raised = λ n to below. ⊎_elim (λ most. omega (arith, most, below)) (λ ended. omega (arith, ended, to)) enough;
}

-- the first of the ranks' supplies are raised
pub record RaisedSoFar (nexts : List ℕ) (count : ℕ) (old new : List Supply) : Type 0 where
  pub as_many : length new ≡ length old
  pub done : (k : ℕ) → k < count → k < length old → IsRaised (get_or old k no_supply) (get_or new k no_supply) (get_or nexts k 0)
  pub left : (k : ℕ) → count ≤ k → get_or new k no_supply ≡ get_or old k no_supply

pub none_raised : (nexts : List ℕ) (old : List Supply) → RaisedSoFar nexts 0 old old
none_raised nexts old = record { as_many = refl; done = λ k below there. absurd (omega (arith, below)); left = λ k from. refl }

pub raised_more : (nexts : List ℕ) (count : ℕ) (old new : List Supply) (s : Supply) → RaisedSoFar nexts count old new → count < length old
    → IsRaised (get_or new count no_supply) s (get_or nexts count 0) → RaisedSoFar nexts (count + 1) old (set new count s)
raised_more nexts count old new s so_far there raised = record {
  as_many = length-set new count s ∙ so_far.as_many;
  done = λ k below among. go k below among (eqb k count) refl;
  left = λ k from. get_or-set_other new count k s no_supply (λ same. omega (arith, same, from)) ∙ so_far.left k (omega (arith, from));
}
  where
    go : (k : ℕ) → k < count + 1 → k < length old → (b : Bool) → eqb k count ≡ b → IsRaised (get_or old k no_supply) (get_or (set new count s) k no_supply) (get_or nexts k 0)
    go k below among true same =
        let is = eqb-true k count same in
        rw (is, get_or-set_same new count s no_supply (omega (arith, there, so_far.as_many))) (subst (λ (o : Supply). IsRaised o s (get_or nexts count 0)) (so_far.left count (omega arith)) raised)
    go k below among false other =
        let apart = eqb-false k count other in
        rw (get_or-set_other new count k s no_supply apart) (so_far.done k (omega (arith, below, apart)) among)

pub all_raised : (nexts : List ℕ) (count : ℕ) (old new : List Supply) → RaisedSoFar nexts count old new → length old ≤ count → AreRaised nexts old new
all_raised nexts count old new so_far all = record { as_many = so_far.as_many; each = λ rank there. so_far.done rank (omega (arith, there, all)) there }

-- ---- the book

pub resumed_behind : (tree : Tree) (told : List Entry) (nexts : List ℕ) (old new : Core) → IsSound (fresh tree) [] old
    → new ≡ record old { state = record old.state { numbers = new.state.numbers; sessions = new.state.sessions } } → AreRaised nexts old.state.numbers new.state.numbers
    → TellsAll told new.state.sessions → StandsBehind (resumes tree told nexts) told (record { opening = Some tree; history = []; core = new })
resumed_behind tree told nexts old new sound same raised tells = record {
  opened = refl;
  behind = record { sound = resumed_sound tree told nexts old new sound same raised tells.table; aside = tells.aside };
}
