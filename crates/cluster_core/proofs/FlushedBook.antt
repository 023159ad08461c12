-- A flush leaves a sound book.
use Rattle.cluster_core.proofs.Common.{AreCached, AreExported, AreSetAside, Core, Entry, IsSoundBehind, List, Opening, Table, subst, sym, ◌++◌, HasFragment, IsSoundWith, IsSoundBook, KeepsCore, BookState, NoneEnds, State, ap, arith, came_ranks, keeps_tables, length, refl, suc, zero, ℕ, ◌<◌, ◌≤◌}
use Rattle.cluster_core.proofs.Stepped.{sound-same}

-- each rank has a range of numbers, so there are no more than the ranges
few_below : (count : ℕ) → ((rank : ℕ) → rank < count → rank < 16) → count ≤ 256
few_below zero all = omega arith
few_below (suc count) all = let last = all count (omega arith) in omega (arith, last)

-- a whole book is sound afterwards
pub flushed_sound : (book : BookState) (new : Core) → IsSoundBook book → KeepsCore book.core new → IsSoundWith new.state.tree new.caches → AreCached new → AreExported new → IsSoundBook (record book { core = new })
flushed_sound book new sound keeps kept cached exported =
    let roots = keeps_tables book.core.state.tree new.state.tree book.core.state.roots new.state.roots book.core.state.exports new.state.exports (ap (λ (s : State). s.tree.homes) keeps.left) (ap (λ (s : State). s.tree.covers) keeps.left) (ap (λ (s : State). s.roots) keeps.left) (ap (λ (s : State). s.exports) keeps.left) sound.subtrees in
    sound-same book.opening book.history book.history book.core new sound kept cached exported (came_ranks (HasFragment book.core.caches) NoneEnds book.core.caches new.caches keeps.caches) roots.valid (ap (λ (s : State). s.tree.limit) keeps.left)
    refl keeps.tree (ap (λ (s : State). s.numbers) keeps.left) (ap (λ (s : State). length s.inboxes) keeps.left) (ap (λ (s : State). s.sessions) keeps.left)

-- so is one of which a beginning is forgotten
pub flushed_behind : (opening : Opening) (past history : List Entry) (core new : Core) → IsSoundBehind opening past history core → KeepsCore core new → IsSoundWith new.state.tree new.caches → AreCached new → AreExported new
    → IsSoundBehind opening past history new
flushed_behind opening past history core new behind keeps kept cached exported = record {
  sound = flushed_sound (record { opening = opening; history = past ++ history; core = core }) new behind.sound keeps kept cached exported;
  aside = subst (λ (t : Table). AreSetAside past history t) (sym (ap (λ (s : State). s.sessions) keeps.left)) behind.aside;
}
