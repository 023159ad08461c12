-- Names that are copied from one fragment into another.
use Rattle.cached_frag.proofs.Common.{AreEntries, Base, Cached, Err, IfOk, Inode, IsBased, Joins, List, Marks, Names, Ok, Result, Shown, TakesIn, ap, contents, key_cmp, marked_as, patched, shown_names, shown_as, shown_over, subst, sym, ℕ, ◌∙◌, ◌≡◌}
use Rattle.std.specs.FinMap as map
use Rattle.cached_frag.proofs.ShownLaws.{below_is}

pub copied : {E : Type 0} (r : Result (Shown (List ℕ) Inode) E) (base : Base) (clean : Names) (dirty : Marks) (f : Cached) → IsBased base clean → shown_over base clean dirty ≡ shown_names f → IfOk r (λ names. contents key_cmp names ≡ patched clean dirty)
    → IfOk r (λ names. contents key_cmp names ≡ shown_names f)
copied (Ok names) base clean dirty f based same is = is ∙ ap (λ (n : Names). patched n dirty) (sym (below_is base clean based)) ∙ same
copied (Err e) base clean dirty f based same is = tt

pub copied_entries : {E : Type 0} (r : Result (Shown (List ℕ) Inode) E) (f : Cached) → AreEntries (shown_names f) → IfOk r (λ names. contents key_cmp names ≡ shown_names f) → IfOk r (λ names. AreEntries (contents key_cmp names))
copied_entries (Ok names) f entries is = subst AreEntries (sym is) entries
copied_entries (Err e) f entries is = tt

-- a fragment that got room, and was joined by names, took them in
pub taken_in : (f mid now : Cached) (names all : Names) (version : ℕ) → mid ≡ record { base = f.base; generation = f.generation; clean = f.clean; dirty = f.dirty; room = mid.room; places = f.places } → names ≡ all → Joins mid now names version → TakesIn f now all version
taken_in f mid now names all version same is j =
    let base : mid.base ≡ f.base = ap (λ (g : Cached). g.base) same in
    let generation : mid.generation ≡ f.generation = ap (λ (g : Cached). g.generation) same in
    let clean : mid.clean ≡ f.clean = ap (λ (g : Cached). g.clean) same in
    let places : mid.places ≡ f.places = ap (λ (g : Cached). g.places) same in
    record {
      dirty = λ q. j.dirty q ∙ ap (λ (n : Names). marked_as version (map.get n q) (map.get mid.dirty q)) is ∙ ap (λ (g : Cached). marked_as version (map.get all q) (map.get g.dirty q)) same;
      shown = λ q. j.shown q ∙ ap (λ (n : Names). shown_as (map.get n q) (map.get (shown_names mid) q)) is ∙ ap (λ (g : Cached). shown_as (map.get all q) (map.get (shown_names g) q)) same;
      same = j.same ∙ (λ i. record { base = base i; generation = generation i; clean = clean i; dirty = now.dirty; room = now.room; places = places i });
    }
