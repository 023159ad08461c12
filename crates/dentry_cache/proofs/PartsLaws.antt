-- A split at a rank: what is made ready for it, and what it leaves.
use Rattle.dentry_cache.proofs.Common.{AreAbsent, AreKeptApart, AreChildren, AreFillable, HaveKeptPlaces, Bool, CacheMap, Cached, Fragment, HasCached, Ino, IsButPlaces, IsChildAt, IsFamilyAt, IsKeptFor, IsRewritten, Leaf, List, Names, None, Objects, Option, Part, Reads, Rewrites, Some, SplitsAt, [], ap, arith, child_of, cond, false, given_up, has_place, here, inl, is_same, leaf_is, length, refl, rewritten, shown_names, slice_index_or, subst, suc, sym, true, with_frag, with_parts, ℕ, ◌&&◌, ◌+◌, ◌<◌, ◌==◌, ◌^◌, ◌∙◌, ◌∷◌, ◌≡◌, ◌≤◌}
use Rattle.std.specs.FinMap as finmap
use Rattle.dentry_cache.specs.Reads.Reads.{stays as it_stays}
use Rattle.dentry_cache.proofs.LacksLaws.{still_left}
use Rattle.dentry_cache.proofs.NameParts.{no_child, one_child}
use Rattle.dentry_cache.proofs.ReadsLaws.{places_changed, rewrites_reads}
use Rattle.dentry_cache.proofs.SplitShows.{apart_from}
use Rattle.dentry_cache.proofs.StepLaws.{by_rewrites, get_beside, get_with_frag, has_with_frag, here_put}
use Rattle.dentry_cache.proofs.LeafLaws.{flips}

-- ---- the fragment is ready

module _ (r : ℕ) (dir : Ino) (frag : Fragment) (bits : ℕ) (some : 1 ≤ bits) (old mid : CacheMap) (e : Rewrites IsButPlaces r (dir, frag) old mid) where
  abbrev one : Leaf
  one = (dir, frag)

  abbrev child : ℕ → Leaf
  child i = (dir, child_of frag i bits)

  -- how a statement of the caches before and after is proved
  by_edit : (P : CacheMap → Type 0) → ((f now : Cached) → here old r (dir, frag) ≡ Some f → IsButPlaces f now → P (rewritten old r (dir, frag) now)) → P mid
  by_edit P so = by_rewrites r (dir, frag) IsButPlaces old mid e P so

  -- no child has a place yet
  pub ready_absent : AreAbsent old r dir frag bits → AreAbsent mid r dir frag bits
  ready_absent absent i among = by_edit (λ (k : CacheMap). (has_place k r (dir, child_of frag i bits) ≡ false) × (finmap.get k.held (dir, child_of frag i bits) ≡ None)) (λ f now seen same. (
    (absent i among).0,
    get_with_frag old r (dir, frag) now (dir, child_of frag i bits) ∙ ap (λ b. cond b (Some (record { rank = r; frag = now })) (finmap.get old.held (dir, child_of frag i bits))) apart ∙ (absent i among).1,
  ))
    where
      apart : leaf_is (dir, child_of frag i bits) (dir, frag) ≡ false
      apart = flips (dir, child_of frag i bits) (dir, frag) ∙ no_child dir frag bits i some

  pub ready_stays : (now : Option Cached) → now ≡ here mid r (dir, frag) → HasCached (here old r (dir, frag)) (λ (f : Cached). HasCached now (IsButPlaces f))
  ready_stays now is = subst (λ (o : Option Cached). HasCached (here old r (dir, frag)) (λ (f : Cached). HasCached o (IsButPlaces f))) (sym is) (go (here old r (dir, frag)) e)
    where
      go : (o : Option Cached) → IsRewritten IsButPlaces r (dir, frag) o old mid → HasCached o (λ (f : Cached). HasCached (here mid r (dir, frag)) (IsButPlaces f))
      go None e = absurd e
      go (Some f) e = subst (λ (o : Option Cached). HasCached o (IsButPlaces f)) (sym (ap (λ (k : CacheMap). here k r (dir, frag)) e.2 ∙ here_put old r (dir, frag) e.0)) e.1

  pub ready_reads : (objects : Objects) → Reads (IsFamilyAt r dir frag bits) (IsChildAt r dir frag bits) objects old mid
  ready_reads objects = rewrites_reads (IsFamilyAt r dir frag bits) (IsChildAt r dir frag bits) objects old old mid r (dir, frag) IsButPlaces places_changed it_stays (inl (refl, refl)) e

-- ---- the children come in

-- places are kept for others still
kept_beside : (c : CacheMap) (r : ℕ) (leaf q : Leaf) (f : Cached) → r < length c.used → leaf_is q leaf ≡ false → IsKeptFor c r q → IsKeptFor (with_frag c r leaf f) r q
kept_beside c r leaf q f there apart kept = (
  has_with_frag c r leaf f r q there ∙ ap (λ (b : Bool). cond ((r == r) && b) true (has_place c r q)) apart ∙ ap (λ (b : Bool). cond (b && false) true (has_place c r q)) (is_same r r refl) ∙ kept.0,
  get_with_frag c r leaf f q ∙ ap (λ b. cond b (Some (record { rank = r; frag = f })) (finmap.get c.held q)) apart ∙ kept.1,
)

pub fillable_with : (c : CacheMap) (r : ℕ) (dir : Ino) (part : Part) (parts : List Part) → r < length c.used → AreFillable r dir (part ∷ parts) c → AreFillable r dir parts (with_frag c r (dir, part.frag) part.fragment)
fillable_with c r dir part parts there f = go parts f.1 f.2
  where
    go : (rest : List Part) → AreKeptApart (dir, part.frag) dir rest → AreFillable r dir rest c → AreFillable r dir rest (with_frag c r (dir, part.frag) part.fragment)
    go [] apart f = tt
    go (x ∷ rest) apart f = (kept_beside c r (dir, part.frag) (dir, x.frag) part.fragment there (flips (dir, x.frag) (dir, part.frag) ∙ apart.0) f.0, f.1, go rest apart.1 f.2)

-- each child is one of these, and its place is kept
fillable_from : (r : ℕ) (dir : Ino) (frag : Fragment) (bits n : ℕ) (parts : List Part) (c : CacheMap) → ((i : ℕ) (d : Part) → i < length parts → (slice_index_or parts i d).frag ≡ child_of frag (n + i) bits)
    → ((i : ℕ) → i < length parts → IsKeptFor c r (dir, child_of frag (n + i) bits)) → AreFillable r dir parts c
fillable_from r dir frag bits n [] c are kept = tt
fillable_from r dir frag bits n (part ∷ parts) c are kept =
    let first : part.frag ≡ child_of frag (n + 0) bits = are 0 part (omega arith) in
    let rest : (i : ℕ) (d : Part) → i < length parts → (slice_index_or parts i d).frag ≡ child_of frag (n + 1 + i) bits = λ i d within. are (suc i) d (omega (arith, within)) ∙ next i in (
      subst (λ (f : Fragment). IsKeptFor c r (dir, f)) (sym first) (kept 0 (omega arith)),
      subst (λ (f : Fragment). AreKeptApart (dir, f) dir parts) (sym first) (apart_from (dir, child_of frag (n + 0) bits) dir frag bits (n + 1) parts rest (λ i within. one_child dir frag bits (n + 0) (n + 1 + i) (λ same. omega (arith, same)))),
      fillable_from r dir frag bits (n + 1) parts c rest (λ i within. subst (λ (f : Fragment). IsKeptFor c r (dir, f)) (next i) (kept (suc i) (omega (arith, within)))),
    )
  where
    next : (i : ℕ) → child_of frag (n + suc i) bits ≡ child_of frag (n + 1 + i) bits
    next i = let same : n + suc i ≡ n + 1 + i = omega arith in ap (λ (m : ℕ). child_of frag m bits) same

module _ (r : ℕ) (dir : Ino) (frag : Fragment) (bits version : ℕ) (names : Names) (ready made : List Part) (old : CacheMap) (some : 1 ≤ bits) (count : length ready ≡ 2 ^ bits) (d : AreChildren frag bits names version ready made)
    (kept : HaveKeptPlaces old r dir frag bits) where
  -- each child is the one at its place
  pub at_its_place : (i : ℕ) (e : Part) → i < length made → (slice_index_or made i e).frag ≡ child_of frag (0 + i) bits
  at_its_place i e within = let same : i ≡ 0 + i = omega arith in d.child i e within ∙ ap (λ (k : ℕ). child_of frag k bits) same

  still_kept : (i : ℕ) → i < 2 ^ bits → IsKeptFor (given_up old r (dir, frag)) r (dir, child_of frag i bits)
  still_kept i among =
      let apart : leaf_is (dir, child_of frag i bits) (dir, frag) ≡ false = flips (dir, child_of frag i bits) (dir, frag) ∙ no_child dir frag bits i some in (
        still_left old r (dir, frag) r (dir, child_of frag i bits) (λ same. apart) (kept i among).0,
        get_beside old r (dir, frag) (dir, child_of frag i bits) apart ∙ (kept i among).1,
      )

  -- all of them can come in once the fragment is gone
  pub are_fillable : AreFillable r dir made (given_up old r (dir, frag))
  are_fillable = fillable_from r dir frag bits 0 made (given_up old r (dir, frag)) at_its_place (λ i within. still_kept (0 + i) (omega (arith, within, d.count, count)))

-- ---- of the fragment that was there

pub split_so : (r : ℕ) (dir : Ino) (frag : Fragment) (bits : ℕ) (parts made : List Part) (version : ℕ) (names : Names) (old new : CacheMap) (o : Option Cached) → HasCached o (λ (f : Cached). names ≡ shown_names f) → AreChildren frag bits names version parts made
    → new ≡ with_parts dir r made (given_up old r (dir, frag)) → HasCached o (SplitsAt r dir frag bits parts version old new)
split_so r dir frag bits parts made version names old new None is d done = absurd is
split_so r dir frag bits parts made version names old new (Some f) is d done = (made, subst (λ (n : Names). AreChildren frag bits n version parts made) is d, done)
