-- That a book goes on from an opening tree and a past is a fact with nothing to choose in it beside what each book keeps: where it is only kept that it
-- holds, it is there to be used.
use Rattle.rank_threads.proofs.Common.{Bool, Entry, IsLawfulFrom, IsLegalFrom, IsNextFrom, IsSoundKept, KeptState, List, Opening, StandsBehind, StaysBehind, Tree, ℕ, ◌≡◌, ◌≤◌}
use Rattle.std.specs.Prelude.{IfSome, None, Option, Some}
use Rattle.std.specs.Coded.{codes, le_prop}
use Rattle.std.specs.FinMap as map
use Rattle.std.proofs.Math.Logic.{∥∥₁_elim, ∥∥₁_map}
use Rattle.mds_types.specs.declared.ids.Ino.{Ino}
use Rattle.mds_types.specs.declared.replies.Reply.{Reply}
use Rattle.mds_types.specs.History.{IsPairAt}
use Rattle.sessions.specs.Aside.{AreSetAside, IsAsideFor}
use Rattle.sessions.specs.Table.{IsReplyPlace, IsTableOf, Table}

-- a fact is there where it is kept that it holds
abbrev Stable : Type 0 → Type 0
Stable P = ∥ P ∥₁ → P

never : {P : Type 0} → Stable (P → ⊥)
never h x = ∥∥₁_elim h (λ (a b : ⊥). absurd a) (λ f. f x)

at_most : (a b : ℕ) → Stable (a ≤ b)
at_most a b h = ∥∥₁_elim h (hlevel le_prop) (λ e. e)

same_number : (a b : ℕ) → Stable (a ≡ b)
same_number a b h = ∥∥₁_elim h (hlevel codes) (λ e. e)

same_test : (a b : Bool) → Stable (a ≡ b)
same_test a b h = ∥∥₁_elim h (hlevel codes) (λ e. e)

same_reply : (a b : Reply) → Stable (a ≡ b)
same_reply a b h = ∥∥₁_elim h (hlevel codes) (λ e. e)

same_tree : (a b : Tree) → Stable (a ≡ b)
same_tree a b h = ∥∥₁_elim h (hlevel (codes, map.code)) (λ e. e)

-- ---- histories

lawful : (opening : Opening) (past : List Entry) (number : Option Ino) → Stable (IsLawfulFrom opening past number)
lawful opening past None h = tt
lawful opening past (Some number) h = never h

next : (limit : ℕ) (opening : Opening) (past : List Entry) (e : Entry) → Stable (IsNextFrom limit opening past e)
next limit opening past e h = record {
  once = same_test _ _ (∥∥₁_map h (λ s. s.once));
  own = at_most _ _ (∥∥₁_map h (λ s. s.own));
  marked = at_most _ _ (∥∥₁_map h (λ s. s.marked));
  number = same_test _ _ (∥∥₁_map h (λ s. s.number));
  lawful = lawful opening past e.number (∥∥₁_map h (λ s. s.lawful));
  reply = same_reply _ _ (∥∥₁_map h (λ s. s.reply));
}

legal : (limit : ℕ) (opening : Opening) (history : List Entry) → Stable (IsLegalFrom limit opening history)
legal limit opening history h = record {
  begins = at_most _ _ (∥∥₁_map h (λ s. s.begins));
  next = λ k e from below. next _ _ _ _ (∥∥₁_map h (λ s. s.next k e from below));
}

-- ---- sessions

pair_at : (history : List Entry) (client tid place : ℕ) → Stable (IsPairAt history client tid place)
pair_at history client tid place h = record {
  in_range = at_most _ _ (∥∥₁_map h (λ s. s.in_range));
  pair = λ e. same_test _ _ (∥∥₁_map h (λ s. s.pair e));
}

kept_for : (history : List Entry) (client tid : ℕ) (kept : Option ℕ) → Stable (IsReplyPlace history client tid kept)
kept_for history client tid (Some place) h = (at_most _ _ (∥∥₁_map h (λ s. s.0)), pair_at history client tid place (∥∥₁_map h (λ s. s.1)))
kept_for history client tid None h = λ marked. same_test _ _ (∥∥₁_map h (λ s. s marked))

tabled : (history : List Entry) (table : Table) → Stable (IsTableOf history table)
tabled history table h = record {
  marks = λ client. same_number _ _ (∥∥₁_map h (λ s. s.marks client));
  replies = λ client tid. kept_for history client tid _ (∥∥₁_map h (λ s. s.replies client tid));
}

aside_for : (history : List Entry) (forgotten : ℕ) (kept : Option ℕ) (aside : Option Reply) → Stable (IsAsideFor history forgotten kept aside)
aside_for history forgotten None None h = tt
aside_for history forgotten None (Some reply) h = ∥∥₁_elim h (λ (a b : ⊥). absurd a) (λ x. x)
aside_for history forgotten (Some place) None h = at_most _ _ h
aside_for history forgotten (Some place) (Some reply) h = (at_most _ _ (∥∥₁_map h (λ s. s.0)), λ e. same_reply _ _ (∥∥₁_map h (λ s. s.1 e)))

set_aside : (past history : List Entry) (table : Table) → Stable (AreSetAside past history table)
set_aside past history table h = record {
  before = same_number _ _ (∥∥₁_map h (λ s. s.before));
  aside = λ client tid. aside_for _ _ _ _ (∥∥₁_map h (λ s. s.aside client tid));
}

-- ---- books

opened : (opening : Opening) (kept : Option Tree) → Stable (IfSome kept (λ tree. tree ≡ opening.tree))
opened opening None h = tt
opened opening (Some tree) h = same_tree _ _ h

-- what a sound book keeps beside it holds behind whatever past
pub kept_behind : (book : KeptState) → IsSoundKept book → (opening : Opening) (past : List Entry) → ∥ StandsBehind opening past book ∥₁ → StandsBehind opening past book
kept_behind book known opening past h =
    let its = known.2.behind.sound in
    record {
      opened = opened opening book.opening (∥∥₁_map h (λ s. s.opened));
      behind = record {
        sound = record {
          legal = legal _ _ _ (∥∥₁_map h (λ s. s.behind.sound.legal));
          replayed = same_tree _ _ (∥∥₁_map h (λ s. s.behind.sound.replayed));
          tree = its.tree;
          subtrees = its.subtrees;
          cached = its.cached;
          exported = its.exported;
          ranks = its.ranks;
          supplied = λ rank there. record {
            supply = (its.supplied rank there).supply;
            own = (its.supplied rank there).own;
            fresh = λ n low high used. at_most _ _ (∥∥₁_map h (λ s. (s.behind.sound.supplied rank there).fresh n low high used));
          };
          kept = tabled _ _ (∥∥₁_map h (λ s. s.behind.sound.kept));
        };
        aside = set_aside past book.history book.core.state.sessions (∥∥₁_map h (λ s. s.behind.aside));
      };
    }

pub kept_stays : (first book : KeptState) → IsSoundKept book → ∥ StaysBehind first book ∥₁ → StaysBehind first book
kept_stays first book known h = λ opening past given. kept_behind book known opening past (∥∥₁_map h (λ s. s opening past given))
