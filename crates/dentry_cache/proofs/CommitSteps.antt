-- A commit, in its two changes of the fragment.
use Rattle.dentry_cache.proofs.Common.{Cached, HasCached, Held, None, Option, Some, refl, sym, ◌≤◌, IsChanged, IsCommitted, IsCleanedOf, IsWritten, Job, Leaf, Marks, ap, cached, next_version, shown_names, subst, unsettled, ℕ, ◌∙◌, ◌≡◌}
use Rattle.dentry_cache.proofs.EditLaws.{cached_written, changed_so, changed_written}
use Rattle.std.specs.FinMap as map

abbrev pub OnlyPlaces : Cached → Cached → Type 0
OnlyPlaces f now = now ≡ record { base = f.base; generation = f.generation; clean = f.clean; dirty = f.dirty; room = f.room; places = now.places }

settled_of : (names : Marks) (version : ℕ) (f m now : Cached) → OnlyPlaces f m → IsCleanedOf names version m now → IsCleanedOf names version f now
settled_of names version f m now same s =
    record {
      based = s.based;
      generation = s.generation ∙ ap (λ (c : Cached). c.generation) same;
      dirty = s.dirty ∙ ap (λ (c : Cached). unsettled c.dirty names) same;
      shown = s.shown ∙ ap (λ (c : Cached). shown_names c) same;
    }

-- a fragment that was brought to the front, and got room for names that become clean
pub readied : (leaf : Leaf) (old used mid : Held) → IsChanged (cached old.entries leaf) (λ (f now : Cached). now ≡ f) leaf old used → IsWritten (cached used.entries leaf) OnlyPlaces leaf used mid → IsChanged (cached old.entries leaf) OnlyPlaces leaf old mid
readied leaf old used mid touch first =
    changed_written (λ (f now : Cached). now ≡ f) OnlyPlaces OnlyPlaces leaf old used mid (cached old.entries leaf) (λ f m now same places. places ∙ ap (λ (k : Cached). record k { places = now.places }) same) touch first

-- so is it where no more was done
pub readied_as : (j k : Job) (old used mid : Held) → j ≡ k → IsChanged (cached old.entries (j.ino, j.frag)) (λ (f now : Cached). now ≡ f) (j.ino, j.frag) old used → IsWritten (cached used.entries (j.ino, j.frag)) OnlyPlaces (j.ino, j.frag) used mid
    → IsChanged (cached old.entries (k.ino, k.frag)) OnlyPlaces (k.ino, k.frag) old mid
readied_as j k old used mid same touch first = subst (λ (x : Job). IsChanged (cached old.entries (x.ino, x.frag)) OnlyPlaces (x.ino, x.frag) old mid) same (readied (j.ino, j.frag) old used mid touch first)

pub committed : (j k : Job) (old used mid new : Held) (names : Marks) (version : ℕ) → j ≡ k → names ≡ j.snapshot.names → version ≡ next_version j.snapshot.base → IsChanged (cached old.entries (j.ino, j.frag)) (λ (f now : Cached). now ≡ f) (j.ino, j.frag) old used
    → IsWritten (cached used.entries (j.ino, j.frag)) OnlyPlaces (j.ino, j.frag) used mid → IsWritten (cached mid.entries (j.ino, j.frag)) (IsCleanedOf names version) (j.ino, j.frag) mid new → IsChanged (cached old.entries (k.ino, k.frag)) (IsCommitted k.snapshot) (k.ino, k.frag) old new
committed j k old used mid new names version same are is touch first then =
    subst (λ (x : Job). IsChanged (cached old.entries (x.ino, x.frag)) (IsCommitted x.snapshot) (x.ino, x.frag) old new) same
    (changed_so (IsCleanedOf names version) (IsCommitted j.snapshot) (j.ino, j.frag) old new (cached old.entries (j.ino, j.frag)) (λ f now s. subst (λ (n : Marks). IsCleanedOf n (next_version j.snapshot.base) f now) are (subst (λ (v : ℕ). IsCleanedOf names v f now) is s))
    (changed_written OnlyPlaces (IsCleanedOf names version) (IsCleanedOf names version) (j.ino, j.frag) old mid new (cached old.entries (j.ino, j.frag)) (settled_of names version) (readied (j.ino, j.frag) old used mid touch first) then))

-- where as many names fit among the fetched ones as were dirty, all that are dirty do
pub dirty_fit : (leaf : Leaf) (old new : Held) (dirty : ℕ) → HasCached (cached old.entries leaf) (λ (f : Cached). dirty ≡ map.len f.dirty) → IsWritten (cached old.entries leaf) OnlyPlaces leaf old new
    → HasCached (cached new.entries leaf) (λ (f : Cached). dirty ≤ f.places) → HasCached (cached new.entries leaf) (λ (f : Cached). map.len f.dirty ≤ f.places)
dirty_fit leaf old new dirty has is room = go (cached old.entries leaf) refl has is
  where
    go : (o : Option Cached) → cached old.entries leaf ≡ o → HasCached o (λ (f : Cached). dirty ≡ map.len f.dirty) → IsWritten o OnlyPlaces leaf old new → HasCached (cached new.entries leaf) (λ (f : Cached). map.len f.dirty ≤ f.places)
    go None seen has is = absurd has
    go (Some f) seen has is =
        let now : cached new.entries leaf ≡ Some is.0 = cached_written leaf f is.0 old new seen is.2 in
        let fits : dirty ≤ is.0.places = subst (λ (o : Option Cached). HasCached o (λ (g : Cached). dirty ≤ g.places)) now room in
        subst (λ (o : Option Cached). HasCached o (λ (g : Cached). map.len g.dirty ≤ g.places)) (sym now) (subst (λ (n : ℕ). n ≤ is.0.places) (has ∙ sym (ap (λ (g : Cached). map.len g.dirty) is.1)) fits)
