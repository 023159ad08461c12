-- A fragment that is changed in its place.
use Rattle.dentry_cache.proofs.Common.{Bool, Cached, HasCached, HasRoom, Held, IsChanged, IsThere, IsTouched, IsWritten, Leaf, None, Option, Place, Some, ap, cached, cond, false, fragment_in, held, is_some, leaf_is, lookup, lru_cache, refl, remove_entry, set_value, subst, sym, true, used_as, ◌<◌, ◌∙◌, ◌∷◌, ◌≡◌}
use Rattle.dentry_cache.proofs.LeafLaws.{leaf_itself}
use Rattle.dentry_cache.proofs.OneCache.{cached_set}

-- a fragment that is there stands in its place
held_as : (o : Option Place) (f : Cached) → fragment_in o ≡ Some f → o ≡ Some (held f)
held_as None f is = cc
held_as (Some place) f is = go place.kept refl is
  where
    go : (b : Bool) → place.kept ≡ b → cond b None (Some place.frag) ≡ Some f → Some place ≡ Some (held f)
    go true kept is = cc
    go false kept is = let frag : place.frag ≡ f = cc in λ i. Some (record { frag = frag i; kept = kept i })

module _ (leaf : Leaf) (old touched mid : Held) (there : Bool) (touch : IsTouched (lookup (leaf_is leaf) old.entries) leaf old touched there) (same : mid ≡ touched) where
  used : IsTouched (lookup (leaf_is leaf) old.entries) leaf old mid there
  used = subst (λ (m : Held). IsTouched (lookup (leaf_is leaf) old.entries) leaf old m there) (sym same) touch

  pub mid_is : (f : Cached) → cached old.entries leaf ≡ Some f → mid ≡ used_as leaf (held f) old
  mid_is f is = (subst (λ (o : Option Place). IsTouched o leaf old mid there) (held_as (lookup (leaf_is leaf) old.entries) f is) used).1

  found_there : (f : Cached) → cached old.entries leaf ≡ Some f → lookup (leaf_is leaf) mid.entries ≡ Some (held f)
  found_there f is = ap (λ (h : Held). lookup (leaf_is leaf) h.entries) (mid_is f is) ∙ ap (λ (b : Bool). cond b (Some (held f)) (lookup (leaf_is leaf) (remove_entry (leaf_is leaf) old.entries))) (leaf_itself leaf)

  pub still_there : (f : Cached) → cached old.entries leaf ≡ Some f → cached mid.entries leaf ≡ Some f
  still_there f is = ap fragment_in (found_there f is)

  same_place : (f : Cached) (place : Place) → cached old.entries leaf ≡ Some f → Some place ≡ lookup (leaf_is leaf) mid.entries → place ≡ held f
  same_place f place is at = let e : Some place ≡ Some (held f) = at ∙ found_there f is in cc

  pub never : {P : Type 0} (o : Option Cached) → cached old.entries leaf ≡ o → IsThere o → None ≡ lookup (leaf_is leaf) mid.entries → P
  never (Some f) is h none = let clash : None ≡ Some (held f) = none ∙ found_there f is in absurd cc
  never None is h none = absurd h

  pub has_room : (o : Option Cached) (place : Place) → cached old.entries leaf ≡ o → HasRoom o → Some place ≡ lookup (leaf_is leaf) mid.entries → 0 < place.frag.room
  has_room (Some f) place is room at = subst (λ (p : Place). 0 < p.frag.room) (sym (same_place f place is at)) room
  has_room None place is room at = absurd room

  pub changed : (Change : Cached → Cached → Type 0) (o : Option Cached) (place : Place) (now : Cached) → cached old.entries leaf ≡ o → IsThere o → Some place ≡ lookup (leaf_is leaf) mid.entries → Change place.frag now
      → IsChanged o Change leaf old (lru_cache (set_value (leaf_is leaf) mid.entries (record { frag = now; kept = place.kept })) mid.cap)
  changed Change (Some f) place now is h at change =
      let one = same_place f place is at in
      let here : lru_cache (set_value (leaf_is leaf) mid.entries (record { frag = now; kept = place.kept })) mid.cap ≡ used_as leaf (held now) old =
      ap (λ (m : Held). lru_cache (set_value (leaf_is leaf) m.entries (record { frag = now; kept = place.kept })) m.cap) (mid_is f is)
      ∙ ap (λ (p : Place). lru_cache (set_value (leaf_is leaf) (used_as leaf (held f) old).entries (record { frag = now; kept = p.kept })) old.cap) one
      ∙ ap (λ (b : Bool). lru_cache (cond b ((leaf, held now) ∷ remove_entry (leaf_is leaf) old.entries) ((leaf, held f) ∷ set_value (leaf_is leaf) (remove_entry (leaf_is leaf) old.entries) (held now))) old.cap) (leaf_itself leaf) in
      (now, subst (λ (p : Place). Change p.frag now) one change, here)
  changed Change None place now is h at change = absurd h

-- so is one that is changed where it stands
pub written : (leaf : Leaf) (old mid : Held) → mid ≡ old → (Change : Cached → Cached → Type 0) (o : Option Cached) (place : Place) (now : Cached) → cached old.entries leaf ≡ o → IsThere o
    → Some place ≡ lookup (leaf_is leaf) mid.entries → Change place.frag now → IsWritten o Change leaf old (lru_cache (set_value (leaf_is leaf) mid.entries (record { frag = now; kept = place.kept })) mid.cap)
written leaf old mid same Change (Some f) place now is there at change =
    let e : Some place ≡ Some (held f) = at ∙ ap (λ (h : Held). lookup (leaf_is leaf) h.entries) same ∙ held_as (lookup (leaf_is leaf) old.entries) f is in
    let one : place ≡ held f = cc in (
      now,
      subst (λ (p : Place). Change p.frag now) one change,
      ap (λ (h : Held). lru_cache (set_value (leaf_is leaf) h.entries (record { frag = now; kept = place.kept })) h.cap) same
          ∙ ap (λ (p : Place). lru_cache (set_value (leaf_is leaf) old.entries (record { frag = now; kept = p.kept })) old.cap) one,
    )
written leaf old mid same Change None place now is there at change = absurd there

-- what is cached then
pub cached_written : (leaf : Leaf) (f now : Cached) (old new : Held) → cached old.entries leaf ≡ Some f → new ≡ lru_cache (set_value (leaf_is leaf) old.entries (held now)) old.cap → cached new.entries leaf ≡ Some now
cached_written leaf f now old new seen is =
    ap (λ (h : Held). cached h.entries leaf) is ∙ cached_set leaf leaf (held now) old (ap is_some (held_as (lookup (leaf_is leaf) old.entries) f seen)) ∙ ap (λ (b : Bool). cond b (Some now) (cached old.entries leaf)) (leaf_itself leaf)

pub written_now : (Change : Cached → Cached → Type 0) (P : Cached → Type 0) (leaf : Leaf) (old new : Held) → ((f now : Cached) → cached old.entries leaf ≡ Some f → Change f now → P now) → IsWritten (cached old.entries leaf) Change leaf old new
    → HasCached (cached new.entries leaf) P
written_now Change P leaf old new so c = go (cached old.entries leaf) refl c
  where
    go : (o : Option Cached) → cached old.entries leaf ≡ o → IsWritten o Change leaf old new → HasCached (cached new.entries leaf) P
    go None seen c = absurd c
    go (Some f) seen c = subst (λ (o : Option Cached). HasCached o P) (sym (cached_written leaf f c.0 old new seen c.2)) (so f c.0 seen c.1)

pub there_with_room : (o : Option Cached) → HasRoom o → IsThere o
there_with_room (Some f) room = tt
there_with_room None room = room

-- a fragment that was only read
pub only_used : (leaf : Leaf) (old new : Held) (there : Bool) → IsTouched (lookup (leaf_is leaf) old.entries) leaf old new there → IsThere (cached old.entries leaf) → IsChanged (cached old.entries leaf) (λ (f now : Cached). now ≡ f) leaf old new
only_used leaf old new there touch h = go (cached old.entries leaf) refl h
  where
    go : (o : Option Cached) → cached old.entries leaf ≡ o → IsThere o → IsChanged o (λ (f now : Cached). now ≡ f) leaf old new
    go (Some f) is h = (f, refl, mid_is leaf old new new there touch refl f is)
    go None is h = absurd h

-- ---- two changes, one after the other

cached_now : (leaf : Leaf) (f : Cached) (old new : Held) → new ≡ used_as leaf (held f) old → cached new.entries leaf ≡ Some f
cached_now leaf f old new is =
    ap (λ (h : Held). cached h.entries leaf) is ∙ ap (λ (b : Bool). fragment_in (cond b (Some (held f)) (lookup (leaf_is leaf) (remove_entry (leaf_is leaf) old.entries)))) (leaf_itself leaf)

-- it was brought to the front, or changed so, and then changed where it stands
pub changed_written : (First Then Both : Cached → Cached → Type 0) (leaf : Leaf) (old mid new : Held) (o : Option Cached) → ((f m now : Cached) → First f m → Then m now → Both f now) → IsChanged o First leaf old mid
    → IsWritten (cached mid.entries leaf) Then leaf mid new → IsChanged o Both leaf old new
changed_written First Then Both leaf old mid new None join c d = absurd c
changed_written First Then Both leaf old mid new (Some f) join c d =
    let e : IsWritten (Some c.0) Then leaf mid new = subst (λ (p : Option Cached). IsWritten p Then leaf mid new) (cached_now leaf c.0 old mid c.2) d in (
      e.0,
      join f c.0 e.0 c.1 e.1,
      e.2 ∙ ap (λ (h : Held). lru_cache (set_value (leaf_is leaf) h.entries (held e.0)) h.cap) c.2
          ∙ ap (λ (b : Bool). lru_cache (cond b ((leaf, held e.0) ∷ remove_entry (leaf_is leaf) old.entries) ((leaf, held c.0) ∷ set_value (leaf_is leaf) (remove_entry (leaf_is leaf) old.entries) (held e.0))) old.cap) (leaf_itself leaf),
    )

pub changed_so : (First Then : Cached → Cached → Type 0) (leaf : Leaf) (old new : Held) (o : Option Cached) → ((f now : Cached) → First f now → Then f now) → IsChanged o First leaf old new → IsChanged o Then leaf old new
changed_so First Then leaf old new None so c = absurd c
changed_so First Then leaf old new (Some f) so c = (c.0, so f c.0 c.1, c.2)

pub there_with : (P : Cached → Type 0) (o : Option Cached) → HasCached o P → IsThere o
there_with P (Some f) h = tt
there_with P None h = h

-- a fragment that was only read shows what it showed
pub read_same : (leaf : Leaf) (old new : Held) → IsThere (cached old.entries leaf) → IsChanged (cached old.entries leaf) (λ (f now : Cached). now ≡ f) leaf old new → cached new.entries leaf ≡ cached old.entries leaf
read_same leaf old new = go (cached old.entries leaf) refl
  where
    go : (o : Option Cached) → cached old.entries leaf ≡ o → IsThere o → IsChanged o (λ (f now : Cached). now ≡ f) leaf old new → cached new.entries leaf ≡ cached old.entries leaf
    go (Some f) is there c = cached_now leaf c.0 old new c.2 ∙ ap Some c.1 ∙ sym is
    go None is there c = absurd there
