-- How often a store is called for what is read, and in which order: `IsCall` is what the store says of one call.
use Rattle.std.specs.Prelude.{◌≡◌, ◌≢◌, ◌⊎◌, ℕ, zero, suc, Bool, true, false, cond, List, [], ◌∷◌, Option, Some, None}
use Rattle.mds_types.specs.Frag.{Fragment}
use Rattle.mds_types.specs.declared.refusals.Refusal.{Refusal}
use Rattle.mds_types.specs.declared.refusals.Refusal.TheVariants.{NoMemory, StoreFault, NothingToEvict}
use Rattle.objstore.specs.Omap.{Omap, PairMap, pairs_after}
use Rattle.dirfrag_codec.specs.declared.headers.FragHeader.{FragHeader}
use Rattle.dirfrag_codec.specs.Values.{header_of}
use Rattle.dentry_cache.specs.Pairs.{is_good, pairs_left}
use Rattle.dentry_cache.specs.declared.loading.PageEnd.{PageEnd}
use Rattle.dentry_cache.specs.declared.loading.PageEnd.TheVariants.{Off, Last, More}

-- so many calls are made one after the other, and each is answered; but a call may be refused, which is the last then,
-- and memory may lack before a call. Any other refusal comes once all calls are made, and no fault does then
abbrev pub AreCalls : {S : Type 0} → (S → Option Refusal → S → Type 0) → ℕ → S → Option Refusal → S → Type 0
AreCalls IsCall zero old told new = (new ≡ old) × (told ≢ Some StoreFault)
AreCalls {S} IsCall (suc n) old told new =
    ((new ≡ old) × (told ≡ Some NoMemory))
    ⊎ ((told ≢ None) × IsCall old told new)
    ⊎ ((mid : S) × IsCall old None mid × AreCalls IsCall n mid told new)

-- the pages that are read behind one which takes so many pairs more: another for each 64 pairs, up to the first pair
-- that is no record of a name of the fragment under its key
abbrev pub pages_beyond : Fragment → ℕ → List (List ℕ × List ℕ) → ℕ
pages_beyond frag more [] = zero
pages_beyond frag zero (pair ∷ pairs) = suc (cond (is_good frag pair) (pages_beyond frag 63 pairs) zero)
pages_beyond frag (suc more) (pair ∷ pairs) = cond (is_good frag pair) (pages_beyond frag more pairs) zero

-- the pages that are read of pairs: one at least
abbrev pub pages_read : Fragment → List (List ℕ × List ℕ) → ℕ
pages_read frag pairs = suc (pages_beyond frag 64 pairs)

-- the pages that are left behind one of these pairs: none, or those behind a key
abbrev pub LeavesPages : Fragment → List (List ℕ × List ℕ) → PairMap → PageEnd → Type 0
LeavesPages frag these pairs Off = pages_read frag these ≡ 1
LeavesPages frag these pairs Last = pages_read frag these ≡ 1
LeavesPages frag these pairs (More key) = pages_read frag these ≡ suc (pages_read frag (pairs_after pairs (Some key)))

-- the pages that are left of the pairs of an object behind a key
abbrev pub PagesLeft : Fragment → Option Omap → Option (List ℕ) → PageEnd → Type 0
PagesLeft frag object after Off = pages_read frag (pairs_left object after) ≡ 1
PagesLeft frag object after Last = pages_read frag (pairs_left object after) ≡ 1
PagesLeft frag object after (More key) =
    pages_read frag (pairs_left object after) ≡ suc (pages_read frag (pairs_left object (Some key)))

-- the header that an object has; none where it is absent, or its header is off the grammar
abbrev pub header_in : Option Omap → Option FragHeader
header_in None = None
header_in (Some object) = header_of object.header

abbrev pub pages_behind : Option FragHeader → ℕ → ℕ
pages_behind None pages = zero
pages_behind (Some header) pages = pages

-- the calls that read a fragment: one for the header of its object; then, where that is one, those for the pages of its
-- pairs
abbrev pub calls_to_load : Fragment → Option Omap → ℕ
calls_to_load frag object = suc (pages_behind (header_in object) (pages_read frag (pairs_left object None)))

-- a fetch calls the store where the fragment isn't there, and some place is free for it or becomes so
abbrev pub AreFetchCalls : {S : Type 0} → (S → Option Refusal → S → Type 0) → (there : Bool) → ℕ
    → S → Option Refusal → S → Type 0
AreFetchCalls IsCall true n old told new = new ≡ old
AreFetchCalls IsCall false n old told new =
    ((new ≡ old) × (told ≡ Some NothingToEvict)) ⊎ AreCalls IsCall n old told new
