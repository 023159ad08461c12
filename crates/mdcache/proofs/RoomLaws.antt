-- Fragments that got room.
use Rattle.mdcache.proofs.Common.{Bool, CacheMap, Cached, Rewrites, HasCached, HasRoom, IsButRoom, Leaf, None, Option, Some, ap, arith, at_rank, by_rewrites, cond, cond_both, eqb-true, here, here_is, here_put, here_with_frag, leaf_is, one_leaf, room_changed, rules, subst, sym, true, ℕ, ◌<◌, ◌==◌, ◌∙◌, ◌≡◌, ◌≤◌}
use Rattle.std.specs.FinMap as finmap

-- what a call for room leaves has other room at most
pub other_room : (f now : Cached) → (now ≡ record f { room = now.room }) × (f.room ≤ now.room) → IsButRoom f now
other_room f now is = room_changed f now is.0

-- a fragment that got room for so many changes has it
pub has_rooms : (changes r : ℕ) (leaf : Leaf) (old new : CacheMap) → Rewrites (λ (f now : Cached). changes ≤ now.room) r leaf old new → HasCached (here new r leaf) (λ (f : Cached). changes ≤ f.room)
has_rooms changes r leaf old new e = by_rewrites r leaf (λ (f now : Cached). changes ≤ now.room) old new e (λ (c : CacheMap). HasCached (here c r leaf) (λ (f : Cached). changes ≤ f.room))
    (λ f now seen enough. subst (λ (o : Option Cached). HasCached o (λ (f : Cached). changes ≤ f.room)) (sym (here_put old r leaf now)) enough)

-- a fragment that has room for two changes has it still where another one got room, or it itself did
pub stays_roomy : (r s : ℕ) (leaf one : Leaf) (old new : CacheMap) → Rewrites (λ (f now : Cached). (now ≡ record f { room = now.room }) × (f.room ≤ now.room)) r leaf old new → HasCached (here old s one) (λ (f : Cached). 1 < f.room)
    → HasCached (here new s one) (λ (f : Cached). 1 < f.room)
stays_roomy r s leaf one old new e has = by_rewrites r leaf (λ (f now : Cached). (now ≡ record f { room = now.room }) × (f.room ≤ now.room)) old new e (λ (c : CacheMap). Roomy (here c s one)) (λ f now is change.
    let was : leaf_is one leaf ≡ true → Roomy (here old s leaf) = λ same. subst Roomy (ap (here old s) (one_leaf one leaf same)) has in
    subst Roomy (sym (here_with_frag old r leaf now s one)) (cond_both (leaf_is one leaf) (cond (r == s) (Some now) None) (here old s one) Roomy
    (λ same. cond_both (r == s) (Some now) None Roomy (λ rank. omega (arith, subst Roomy (ap (λ (n : ℕ). here old n leaf) (sym (eqb-true r s rank)) ∙ is) (was same), change.1))
    (λ rank. subst Roomy (ap (at_rank s) (here_is r (finmap.get old.held leaf) f is) ∙ ap (λ (b : Bool). cond b (Some f) None) rank) (was same))) (λ apart. has)))
  where
    Roomy : Option Cached → Type 0
    Roomy o = HasCached o (λ (f : Cached). 1 < f.room)

pub has_room : (o : Option Cached) → HasCached o (λ (f : Cached). 1 ≤ f.room) → HasRoom o
has_room o h = search rules
