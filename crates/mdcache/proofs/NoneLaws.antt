-- Which places are kept, after each call of the caches.
use Rattle.mdcache.proofs.Common.{AreCaches, Bool, CacheMap, Cached, Edits, FetchesAt, IsEdited, IsFree, IsThere, KeepsAt, KeepsNone, KeepsOnlyAt, Leaf, MakesRoomAt, None, Omap, Option, Rank, Some, absent_roomy, ap, at_rank, cond, false, false_from_ne_true, has_place, has_used, here, here_free, inl, inr, is_same, is_some, leaf_is, leaf_itself, length, placed_used, ranks_roomy, refl, roomy, roomy_stays, subst, sym, true, used_at, whole_roomy, whole_used, whole_with_frag, ℕ, ⊎_elim, ◌&&◌, ◌<◌, ◌∙◌, ◌≡◌}
use Rattle.std.specs.FinMap as finmap

module _ (c : CacheMap) (r : ℕ) (leaf : Leaf) (none : KeepsNone c) where
  pub none_used : (new : CacheMap) → IsThere (here c r leaf) → new ≡ used_at c r leaf → KeepsNone new
  none_used new there is = subst KeepsNone (sym is) (λ s q. whole_used c r leaf s q there (none s q))

  pub none_edits : (Change : Cached → Cached → Type 0) (new : CacheMap) → Edits Change r leaf c new → KeepsNone new
  none_edits Change new e = elim (here c r leaf) as (λ o. here c r leaf ≡ o → IsEdited Change r leaf o c new → KeepsNone new) [
    | None ↦ λ is e. absurd e
    | Some f ↦ λ is e. subst KeepsNone (sym e.2) (λ s q. whole_with_frag c r leaf e.0 s q (here_free r (finmap.get c.held leaf) (ap is_some is)) (none s q))
  ] refl e

  module _ (there : r < length c.used) (valid : AreCaches c) (stay : Option Leaf) where
    pub none_roomy : (mid : CacheMap) → roomy c r stay ≡ Some mid → KeepsNone mid
    none_roomy mid made s q = whole_roomy c mid r stay s q there (valid.distinct r) made (none s q)

    pub none_room : (new : CacheMap) → MakesRoomAt r stay c new → KeepsNone new
    none_room new made = ⊎_elim (λ same. subst KeepsNone (sym same) none) (none_roomy new) made

    pub none_fetched : (object : Option Omap) (new : CacheMap) (b : Bool) → has_place c r leaf ≡ b → FetchesAt r leaf stay object b c new → KeepsNone new
    none_fetched object new true seen is = none_used new (none r leaf seen) is
    none_fetched object new false seen f =
        subst KeepsNone (sym f.5)
        (λ s q. whole_with_frag f.3 r leaf f.1 s q (subst (IsFree r) (sym (absent_roomy c f.3 r stay leaf f.4 f.0)) tt) (none_roomy f.3 f.4 s q))

    -- a place that was kept is the only one
    pub only_kept : (new : CacheMap) (rank : Rank) → rank.0 ≡ r → finmap.get c.held leaf ≡ None → KeepsAt r leaf stay c new → KeepsOnlyAt (Some (rank, leaf)) new
    only_kept new rank same absent k = subst (KeepsOnlyAt (Some (rank, leaf))) (sym k.2) (λ s q placed. ⊎_elim (λ was. inl (none_roomy k.0 k.1 s q was))
        (λ one. inr (ap (finmap.get k.0.held) one.1 ∙ absent_roomy c k.0 r stay leaf k.1 absent, λ i. Some (record { 0 = (same ∙ sym one.0) i }, sym one.1 i))) (placed_used k.0 r leaf s q placed))

    pub kept_for : (new : CacheMap) → finmap.get c.held leaf ≡ None → KeepsAt r leaf stay c new → has_place new r leaf ≡ true
    kept_for new absent k =
        ap (λ (d : CacheMap). has_place d r leaf) k.2
        ∙ has_used k.0 r leaf r leaf (subst (λ (n : ℕ). r < n) (sym (ranks_roomy c k.0 r stay k.1)) there)
        ∙ ap (λ (b : Bool). cond (b && leaf_is leaf leaf) true (has_place k.0 r leaf)) (is_same r r refl) ∙ ap (λ (b : Bool). cond b true (has_place k.0 r leaf)) (leaf_itself leaf)

-- a leaf that is cached nowhere has no place where none is kept
pub none_absent : (c : CacheMap) (r : ℕ) (q : Leaf) → KeepsNone c → finmap.get c.held q ≡ None → has_place c r q ≡ false
none_absent c r q none absent = false_from_ne_true (has_place c r q) (λ is. subst IsThere (ap (at_rank r) absent) (none r q is))

-- a fragment that is to stay is where it was, as it was, once a place is kept for another leaf
pub kept_stays : (c new : CacheMap) (r : ℕ) (leaf one : Leaf) → r < length c.used → KeepsAt r leaf (Some one) c new → finmap.get new.held one ≡ finmap.get c.held one
kept_stays c new r leaf one there k = ap (λ (d : CacheMap). finmap.get d.held one) k.2 ∙ roomy_stays c k.0 r one there k.1

-- none is kept where one is at most
pub none_only : (kept : Option (Rank × Leaf)) (c : CacheMap) → KeepsNone c → KeepsOnlyAt kept c
none_only kept c none r leaf placed = inl (none r leaf placed)

pub only_none : (c : CacheMap) → KeepsOnlyAt None c → KeepsNone c
only_none c only r leaf placed = ⊎_elim (λ there. there) (λ kept. let clash = kept.1 in absurd cc) (only r leaf placed)
