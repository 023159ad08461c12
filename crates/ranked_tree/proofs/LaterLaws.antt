-- What calls for an operation keep, one after the other, and why one is refused after others that were not.
use Rattle.std.specs.Prelude.{◌≡◌, ℕ, Option, None, refl}
use Rattle.std.proofs.Common.{inl, inr, sym, ap, subst, ⊎_elim, ◌∙◌}
use Rattle.mds_types.specs.declared.ids.Ino.{Ino}
use Rattle.mds_types.specs.declared.operations.Op.{Op}
use Rattle.mds_types.specs.declared.refusals.Refusal.{Refusal}
use Rattle.dentry_cache.specs.Came.{NoneEnds}
use Rattle.dentry_cache.specs.Reads.{Reads}
use Rattle.dentry_cache.proofs.ReadsLaws.{reads_then, reads_weaker}
use Rattle.export_steps.specs.Holder.{holding}
use Rattle.export_steps.specs.Standing.{Standing}
use Rattle.inode_table.specs.Dirs.{IsLive}
use Rattle.namespace_ops.specs.Changes.{Concerns}
use Rattle.subtree_map.specs.Authority.{Leaf, Roots}
use Rattle.mdcache.specs.Core.{Core, state_of}
use Rattle.mdcache.specs.Frags.{KeepsState}
use Rattle.mdcache.specs.State.{State}
use Rattle.mdcache.proofs.FragsLaws.{keeps_on, lacked_at, refused_later}
use Rattle.ranked_tree.specs.Held.{AsksFor, ComesFor, LacksPlacesAsked, LacksPlacesFor, ReadsFor}
use Rattle.ranked_tree.specs.Ranked.{KeepsRanked, MayRefuse, Ranked, held_roots}
use Rattle.ranked_tree.specs.Subtrees.{Rules}

-- reads of no more than these
pub reads_less : (roots : Roots) (Asked More : ℕ → Type 0) (Comes Others : ℕ → Leaf → Type 0) (old new : Core) → ((d : ℕ) → Asked d → More d) → ((r : ℕ) (q : Leaf) → Comes r q → Others r q)
    → ReadsFor roots Asked Comes old new → ReadsFor roots More Others old new
reads_less roots Asked More Comes Others old new more others reads =
    reads_weaker (AsksFor (state_of old) roots Asked Comes) NoneEnds (AsksFor (state_of old) roots More Others) NoneEnds
    (λ r q. ⊎_elim (λ held. inl (more q.0.0 held.0, held.1, held.2)) (λ comes. inr (others r q comes))) (λ r q none. none) old.objects old.caches new.caches reads

-- the rank that holds each region stays
pub held_still : (a b : Ranked) (op : Op) (told : Option Refusal) → KeepsRanked a b op told → held_roots b ≡ held_roots a
held_still a b op told kept = ap (λ (r : Roots). holding b.exports r) kept.roots ∙ ap (λ (e : Standing). holding e a.subtrees.roots) kept.exports

-- ---- reads for an operation, after others that were not refused

module _ (a b c : Ranked) (op : Op) (first : KeepsRanked a b op None) (offered : Option Ino) where
  abbrev Asks : State → Roots → Option Ino → ℕ → Leaf → Type 0
  Asks s roots number = AsksFor s roots (Concerns op) (ComesFor s roots op number)

  reads_after : ReadsFor (held_roots b) (Concerns op) (ComesFor (state_of b.tree) (held_roots b) op offered) b.tree c.tree
      → ReadsFor (held_roots a) (Concerns op) (ComesFor (state_of a.tree) (held_roots a) op offered) a.tree c.tree
  reads_after second =
      let none = subst (λ (n : Option Ino). ReadsFor (held_roots a) (Concerns op) (ComesFor (state_of a.tree) (held_roots a) op n) a.tree b.tree) (first.reads.1 refl) first.reads.2 in
      reads_then (Asks (state_of a.tree) (held_roots a) offered) NoneEnds a.tree.objects a.tree.caches b.tree.caches c.tree.caches
      (reads_less (held_roots a) (Concerns op) (Concerns op) (ComesFor (state_of a.tree) (held_roots a) op None) (ComesFor (state_of a.tree) (held_roots a) op offered) a.tree b.tree (λ d is. is) (λ r q none. absurd none) none)
      (subst (λ (s : State). Reads (Asks s (held_roots a) offered) NoneEnds s.objects b.tree.caches c.tree.caches) first.tree.state
      (subst (λ (r : Roots). ReadsFor r (Concerns op) (ComesFor (state_of b.tree) r op offered) b.tree c.tree) (held_still a b op None first) second))

pub keeps_ranked_on : (a b c : Ranked) (op : Op) (told : Option Refusal) → KeepsRanked a b op None → KeepsRanked b c op told → KeepsRanked a c op told
keeps_ranked_on a b c op told first second = record {
  tree = keeps_on a.tree b.tree c.tree told first.tree second.tree;
  roots = second.roots ∙ first.roots;
  exports = second.exports ∙ first.exports;
  reads = (second.reads.0, second.reads.1, reads_after a b c op first second.reads.0 second.reads.2);
}

-- places that lack at the rank that holds a leaf lacked there before
pub lacks_still : (count : ℕ) (a b : Core) (roots : Roots) (leaf : Leaf) → KeepsState a b None → LacksPlacesFor count b roots leaf → LacksPlacesFor count a roots leaf
lacks_still count a b roots leaf kept (rank, rules, lacks) = (rank, subst (λ (s : State). Rules s roots leaf rank) kept.state rules, lacked_at count a b rank kept lacks)

-- why an operation is refused after reads for it that were not
pub ranked_later : (a b c : Ranked) (op : Op) (reason : Refusal) → KeepsRanked a b op None → MayRefuse b c op reason → MayRefuse a c op reason
ranked_later a b c op reason kept because =
    refused_later (LacksPlacesAsked 2 b.tree (held_roots b) (Concerns op)) (LacksPlacesAsked 2 a.tree (held_roots a) (Concerns op)) a.tree b.tree c.tree op reason
    (λ all. let (leaf, concerns, live, lacks) = all in (
      leaf,
      concerns,
      subst (λ (s : State). IsLive s.homes s.covers leaf) kept.tree.state live,
      lacks_still 2 a.tree b.tree (held_roots a) leaf kept.tree (subst (λ (r : Roots). LacksPlacesFor 2 b.tree r leaf) (held_still a b op None kept) lacks),
    )) kept.tree because
