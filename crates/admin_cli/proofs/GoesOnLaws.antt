-- A load's book goes on.
use Rattle.admin_cli.proofs.Common.{IsSoundKept, KeptState, List, Opening, arith, length, ◌≤◌, Option, Some, StandsBehind, [], ap, append-nil, append_assoc, drop, fresh, refl, subst, sym, take, take-append-drop, ℕ, ◌++◌, ◌∙◌, ◌≡◌}
use Rattle.std.specs.FinMap as map
use Rattle.std.specs.Prelude.{IfSome}
use Rattle.mds_types.specs.Tree.{Tree}
use Rattle.mds_types.specs.declared.entries.Entry.{Entry}
use Rattle.asking.proofs.LoopLaws.{goes_on_then}
use Rattle.cluster_core.specs.State.{places_of}
use Rattle.cluster_core.proofs.Forgotten.{places_behind}
use Rattle.admin_cli.specs.Left.{BookGrows}
use Rattle.admin_cli.specs.Reports.{OpensEmpty}
use Rattle.rank_threads.specs.Continued.{Continues}

-- where nothing was done
pub goes_on_here : (b : KeptState) → BookGrows b b
goes_on_here b = λ opening past given. record { forgotten = past; behind = given; grows = ([], sym (append-nil (past ++ b.history))) }

-- and on
pub goes_on_past : (a b c : KeptState) → BookGrows a b → BookGrows b c → BookGrows a c
goes_on_past a b c one two = λ opening past given.
    let first = one opening past given in
    let then = two opening first.forgotten first.behind in
    record { forgotten = then.forgotten; behind = then.behind; grows = goes_on_then (past ++ a.history) (first.forgotten ++ b.history) (then.forgotten ++ c.history) first.grows then.grows }

-- as a run of threads leaves it
pub goes_on_run : (b c : KeptState) → Continues b c → BookGrows b c
goes_on_run b c ran = λ opening past given. record {
  forgotten = past;
  behind = ran.goes_on opening past given;
  grows = (ran.begins.0, ap (λ (es : List Entry). past ++ es) ran.begins.1 ∙ sym (append_assoc past b.history ran.begins.0));
}

-- where the first entries were forgotten
pub goes_on_forgot : (a b : KeptState) (count : ℕ) → b.history ≡ drop count a.history → ((opening : Opening) (past : List Entry) → StandsBehind opening past a → StandsBehind opening (past ++ take count a.history) b) → BookGrows a b
goes_on_forgot a b count left on = λ opening past given.
    let went = past ++ take count a.history in
    let same : went ++ b.history ≡ past ++ a.history =
    append_assoc past (take count a.history) b.history ∙ ap (λ (es : List Entry). past ++ es) (ap (λ (es : List Entry). take count a.history ++ es) left ∙ take-append-drop count a.history) in
    record { forgotten = went; behind = on opening past given; grows = ([], same ∙ sym (append-nil (past ++ a.history))) }

-- a new book opened with the empty tree,
pub opens_fresh : (book : KeptState) → StandsBehind (fresh map.empty) [] book → OpensEmpty book
opens_fresh book behind = (fresh map.empty, refl, refl, [], behind)

-- and so did a book that grew from one that did
pub opens_still : (a b : KeptState) → BookGrows a b → OpensEmpty a → OpensEmpty b
opens_still a b grows (opening, empty, none, past, behind) =
    let its = grows opening past behind in (opening, empty, none, its.forgotten, its.behind)

-- so did a sound one that keeps that tree
kept_opening : (kept : Option Tree) (opening tree : Tree) → kept ≡ Some tree → IfSome kept (λ (t : Tree). t ≡ opening) → tree ≡ opening
kept_opening kept opening tree is holds = subst (λ (o : Option Tree). IfSome o (λ (t : Tree). t ≡ opening)) is holds

pub opens_empty_of : (book : KeptState) → IsSoundKept book → places_of book ≤ 0 → book.opening ≡ Some map.empty → OpensEmpty book
opens_empty_of book known none is =
    let begins : known.0.told ≤ length (known.1 ++ book.history) = known.2.behind.sound.legal.begins in
    let all : length (known.1 ++ book.history) ≡ places_of book = places_behind known.0 known.1 book known.2 in
    (known.0, sym (kept_opening book.opening known.0.tree map.empty is known.2.opened), omega (arith, begins, all, none), known.1, known.2)
