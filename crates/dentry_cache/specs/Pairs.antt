-- Pairs of an object, read one after the other, and whether a leaf holds a name.
use Rattle.std.specs.Prelude.{◌≡◌, ℕ, ◌-◌, length, ◌<◌, ◌⊎◌, slice_get, IsSome, ◌^◌, ◌/◌, ◌%◌, Bool, true, false, ◌==◌, List, [], ◌∷◌, Option, Some, None}
use Rattle.std.specs.List.{list_all}
use Rattle.std.specs.FinMap as map
use Rattle.mds_types.specs.Frag.{Fragment, span}
use Rattle.mds_types.specs.declared.inodes.Inode.{Inode}
use Rattle.dentry_cache.specs.declared.loading.PageEnd.{PageEnd}
use Rattle.dentry_cache.specs.declared.loading.PageEnd.TheVariants.{Off, Last, More}
use Rattle.objstore.specs.Omap.{Omap, PairMap, key_cmp, pairs_after}
use Rattle.sorted_map.specs.SortedMap.{Shown, contents}
use Rattle.dirfrag_codec.specs.declared.headers.FragHeader.{FragHeader}
use Rattle.dirfrag_codec.specs.FragHeader.{SpellsHeader}
use Rattle.dirfrag_codec.specs.Grammar.{Decodes}
use Rattle.cached_frag.specs.Snap.{counts_of}
use Rattle.cached_frag.specs.Cached.{Cached, shown_names}
use Rattle.namehash.specs.Rjenkins.{hash_of}
use Rattle.dirfrag_codec.specs.FragmentObject.{Names, with_pair}
use Rattle.dirfrag_codec.specs.Values.{inode_of_record, name_of_key}

-- whether the fragment contains the hash
abbrev pub holds : Fragment → ℕ → Bool
holds frag hash = ((hash % 2 ^ 24) / span frag.bits) == (frag.value / span frag.bits)

-- whether a pair is the record of a name of the fragment, under its key
abbrev pub is_good_as : Fragment → Option (List ℕ) → Option Inode → Bool
is_good_as frag None inode = false
is_good_as frag (Some name) None = false
is_good_as frag (Some name) (Some inode) = holds frag (hash_of name)

abbrev pub is_good : Fragment → List ℕ × List ℕ → Bool
is_good frag pair = is_good_as frag (name_of_key pair.0) (inode_of_record pair.1)

-- what is read of a pair
abbrev pub IsRead : Fragment → List ℕ × List ℕ → Option (List ℕ × Inode) → Type 0
IsRead frag pair (Some entry) =
    (is_good frag pair ≡ true) × (name_of_key pair.0 ≡ Some entry.0) × (inode_of_record pair.1 ≡ Some entry.1)
IsRead frag pair None = is_good frag pair ≡ false

abbrev pub are_good : Fragment → List (List ℕ × List ℕ) → Bool
are_good frag pairs = list_all (is_good frag) pairs

-- names with those of more pairs
abbrev pub added : Names → List (List ℕ × List ℕ) → Names
added names [] = names
added names (pair ∷ pairs) = added (with_pair names (name_of_key pair.0) (inode_of_record pair.1)) pairs

-- the pairs of an object that come after a key; those of all, where none is given
abbrev pub pairs_left : Option Omap → Option (List ℕ) → List (List ℕ × List ℕ)
pairs_left None after = []
pairs_left (Some object) after = pairs_after object.pairs after

-- the names of the pairs of an object; none where it is absent, or a pair is off the grammar or belongs elsewhere
abbrev pub ArePairNames : Fragment → Option Omap → Option (Shown (List ℕ) Inode) → Type 0
ArePairNames frag object (Some names) =
    IsSome object × (are_good frag (pairs_left object None) ≡ true)
    × (contents key_cmp names ≡ added map.empty (pairs_left object None))
ArePairNames frag object None = (object ≡ None) ⊎ (are_good frag (pairs_left object None) ≡ false)

-- what a page leaves: nothing was read; all was read; or the pairs behind a key are left
abbrev pub EndsPage : Fragment → Option Omap → Option (List ℕ) → Names → Names → PageEnd → Type 0
EndsPage frag object after old new Off = (object ≡ None) ⊎ (are_good frag (pairs_left object after) ≡ false)
EndsPage frag object after old new Last =
    IsSome object × (are_good frag (pairs_left object after) ≡ true) × (new ≡ added old (pairs_left object after))
EndsPage frag object after old new (More key) =
    IsSome object × (are_good frag (pairs_left object after) ≡ are_good frag (pairs_left object (Some key)))
    × (added new (pairs_left object (Some key)) ≡ added old (pairs_left object after))
    × (length (pairs_left object (Some key)) < length (pairs_left object after))

abbrev pub EndsPairs : Fragment → PairMap → Option (List ℕ) → Names → Names → PageEnd → Type 0
EndsPairs frag pairs after old new Off = are_good frag (pairs_after pairs after) ≡ false
EndsPairs frag pairs after old new Last =
    (are_good frag (pairs_after pairs after) ≡ true) × (new ≡ added old (pairs_after pairs after))
EndsPairs frag pairs after old new (More key) =
    (are_good frag (pairs_after pairs after) ≡ are_good frag (pairs_after pairs (Some key)))
    × (added new (pairs_after pairs (Some key)) ≡ added old (pairs_after pairs after))
    × (length (pairs_after pairs (Some key)) < length (pairs_after pairs after))

-- the end of a page of good pairs
abbrev pub IsEndOf : Bool → List (List ℕ × List ℕ) → PageEnd → Type 0
IsEndOf more pairs Off = ⊥
IsEndOf more pairs Last = (more ≡ false) ⊎ (pairs ≡ [])
IsEndOf more pairs (More key) =
    (more ≡ true) × ((bytes : List ℕ) × (slice_get pairs (length pairs - 1) ≡ Some (key, bytes)))

-- the header of an object; none where it is absent, or its header is off the grammar
abbrev pub IsHeaderOf : Option Omap → Option FragHeader → Type 0
IsHeaderOf None (Some header) = ⊥
IsHeaderOf None None = Unit {0}
IsHeaderOf (Some object) header = Decodes SpellsHeader object.header header

-- the fragment, if it has the counts of the header
abbrev pub HasHeaderCounts : Cached → FragHeader → Option Cached → Type 0
HasHeaderCounts f header (Some loaded) =
    (loaded ≡ f) × (counts_of (shown_names f) ≡ record { files = header.files; dirs = header.dirs })
HasHeaderCounts f header None = counts_of (shown_names f) ≡ record { files = header.files; dirs = header.dirs } → ⊥
