-- What each call does to the order of use, and to what isn't clean.
use Rattle.std.proofs.Common.{◌≡◌, ℕ, Bool, true, false, List, length, nat_lt, option_map, Option, Some, None, refl, sym, ap, subst, ◌∙◌, cond}
use Rattle.std.specs.FinMap as finmap
use Rattle.std.specs.FinMap.{get-remove}
use Rattle.std.specs.Ordering.{eq_by_cmp}
use Rattle.std.proofs.lemmas.Option.{same_Some}
use Rattle.std.specs.Prelude.{◌==◌}
use Rattle.cached_frag.specs.declared.marks.Mark.{Mark}
use Rattle.cached_frag.specs.Cached.{Cached, marked}
use Rattle.dentry_cache.specs.Cache.{Leaf, leaf_cmp, unsaved_in, with_unsaved}
use Rattle.dentry_cache.specs.CacheCalls.{Edits, IsEdited}
use Rattle.dentry_cache.specs.CacheMap.{At, CacheMap, at_rank, edited_as, given_up, here, order, removed, roomy, victim, unclean, unsaved_at, used_at, rewritten, with_frag, with_mark}
use Rattle.dentry_cache.specs.Came.{Came}
use Rattle.dentry_cache.specs.Came.Came.{has}
use Rattle.dentry_cache.proofs.UncleanLaws.{unclean_alike, unclean_same, unclean_with}
use Rattle.dentry_cache.proofs.LeafLaws.{leaf-total}

-- what was absent is absent once a place is free
pub absent_roomy : (c mid : CacheMap) (r : ℕ) (stay : Option Leaf) (leaf : Leaf) → roomy c r stay ≡ Some mid → finmap.get c.held leaf ≡ None → finmap.get mid.held leaf ≡ None
absent_roomy c mid r stay leaf is none = go (nat_lt (length (order c r)) c.cap) (victim c r stay) is
  where
    left : (v : Leaf) (o : Option Cached) → finmap.get (removed c.held v o) leaf ≡ None
    left v None = none
    left v (Some f) = get-remove leaf-total c.held v leaf ∙ on (eq_by_cmp leaf_cmp leaf v) (finmap.get c.held leaf) none
      where
        on : (b : Bool) (o : Option At) → o ≡ None → cond b None o ≡ None
        on true o none = refl
        on false o none = none

    go : (b : Bool) (v : Option Leaf) → cond b (Some c) (option_map (given_up c r) v) ≡ Some mid → finmap.get mid.held leaf ≡ None
    go true v is = ap (λ (k : CacheMap). finmap.get k.held leaf) (sym (same_Some c mid is)) ∙ none
    go false None is = let clash : None ≡ Some mid = is in absurd cc
    go false (Some v) is = ap (λ (k : CacheMap). finmap.get k.held leaf) (sym (same_Some (given_up c r v) mid is)) ∙ left v (here c r v)

module _ (Uses Ends : ℕ → Leaf → Type 0) (start : CacheMap) where
  -- a change
  pub edits_came : (old new : CacheMap) (r : ℕ) (leaf : Leaf) (Change : Cached → Cached → Type 0) → Came Uses Ends start old → Uses r leaf → Edits Change r leaf old new → Came Uses Ends start new
  edits_came old new r leaf Change came named e = go (here old r leaf) e
    where
      go : (o : Option Cached) → IsEdited Change r leaf o old new → Came Uses Ends start new
      go None e = absurd e
      go (Some f) e = subst (Came Uses Ends start) (sym e.2) (has old r leaf e.0 came named)

-- ---- what isn't clean

pub used_unclean : (old new : CacheMap) (r : ℕ) (leaf : Leaf) → new ≡ used_at old r leaf → unclean new ≡ unclean old
used_unclean old new r leaf is = ap unclean is ∙ unclean_alike (used_at old r leaf) old (λ q. refl)

-- a change that leaves what the fragment has beyond its object
pub edits_unclean : (old new : CacheMap) (r : ℕ) (leaf : Leaf) (Change : Cached → Cached → Type 0) → ((f now : Cached) → Change f now → unsaved_in (Some now) ≡ unsaved_in (Some f)) → Edits Change r leaf old new → unclean new ≡ unclean old
edits_unclean old new r leaf Change same e = go (here old r leaf) refl e
  where
    seen : (o : Option At) (f : Cached) → at_rank r o ≡ Some f → unsaved_at o ≡ unsaved_in (Some f)
    seen None f is = let clash : None ≡ Some f = is in absurd cc
    seen (Some a) f is = on (a.rank == r) is
      where
        on : (b : Bool) → cond b (Some a.frag) None ≡ Some f → unsaved_in (Some a.frag) ≡ unsaved_in (Some f)
        on true is = ap unsaved_in is
        on false is = let clash : None ≡ Some f = is in absurd cc

    go : (o : Option Cached) → here old r leaf ≡ o → IsEdited Change r leaf o old new → unclean new ≡ unclean old
    go None is e = absurd e
    go (Some f) is e = ap unclean e.2 ∙ unclean_same old r leaf e.0 (seen (finmap.get old.held leaf) f is ∙ sym (same f e.0 e.1))

-- a name that is dirty now
pub marked_unclean : (old new : CacheMap) (r : ℕ) (leaf : Leaf) (name : List ℕ) (mark : Mark) (f : Cached) → here old r leaf ≡ Some f → new ≡ with_mark old r leaf name mark
    → unclean new ≡ with_unsaved (unclean old) leaf (unsaved_in (Some (marked f name mark)))
marked_unclean old new r leaf name mark f seen is = ap unclean (is ∙ ap (edited_as old r leaf (λ (g : Cached). marked g name mark)) seen)
    ∙ unclean_alike (rewritten old r leaf (marked f name mark)) (with_frag old r leaf (marked f name mark)) (λ q. refl) ∙ unclean_with old r leaf (marked f name mark)
