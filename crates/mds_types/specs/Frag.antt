-- Directory fragments, CephFS's `frag_t`: which part of the hashes of names a fragment contains.
use Rattle.std.specs.Prelude.{◌≡◌, ℕ, ◌+◌, ◌-◌, ◌*◌, ◌/◌, ◌%◌, ◌^◌, ◌<◌, ◌≤◌, List, length, ◌++◌, codes, map}
use Rattle.std.specs.List.{range_with_len, slice_index_or}
use Rattle.std.specs.declared.cmp.Ordering.{Ordering}
use Rattle.std.specs.Ordering.{nat_cmp, ordering_then}

-- a fragment: how many leading bits of a hash it fixes, and the bits that it fixes, left-justified in 24 bits
pub record Fragment : Type 0 where
  pub bits : ℕ
  pub value : ℕ

-- how many 24-bit hashes a fragment of so many bits contains
abbrev pub span : ℕ → ℕ
span bits = 2 ^ (24 - bits)

-- 0 to 24 bits, and a 24-bit value that is zero below them
pub record IsFragment (f : Fragment) : Type 0 where
  pub few_bits : f.bits ≤ 24
  pub in_range : f.value < 2 ^ 24
  pub justified : f.value % span f.bits ≡ 0

-- fragments in order: by value, and then by how many bits they fix
abbrev pub frag_cmp : Fragment → Fragment → Ordering
frag_cmp f g = ordering_then (nat_cmp f.value g.value) (nat_cmp f.bits g.bits)

-- the fragment that contains every hash
abbrev pub root_fragment : Fragment
root_fragment = record { bits = 0; value = 0 }

-- the word of 32 bits: the number of bits above the 24 bits of the value
abbrev pub word_of : Fragment → ℕ
word_of f = f.bits * 2 ^ 24 + f.value

-- a hash is in the fragment if its low 24 bits begin as the value does; the top 8 bits of a hash play no part
abbrev pub Contains : Fragment → ℕ → Type 0
Contains f hash = (hash % 2 ^ 24) / span f.bits ≡ f.value / span f.bits

-- g lies within f: it fixes at least as many bits, and begins as f does
abbrev pub ContainsFragment : Fragment → Fragment → Type 0
ContainsFragment f g = (f.bits ≤ g.bits) × (g.value / span f.bits ≡ f.value / span f.bits)

-- the child i of f by nb bits: the i-th, by value, of the 2^nb fragments of nb more bits within f
abbrev pub child_of : Fragment → ℕ → ℕ → Fragment
child_of f i nb = record { bits = f.bits + nb; value = f.value + i * span (f.bits + nb) }

-- the fragment of one bit less around f
abbrev pub parent_of : Fragment → Fragment
parent_of f = record { bits = f.bits - 1; value = f.value - f.value % span (f.bits - 1) }

-- the leaves of a directory cover the hashes: each 24-bit number lies in exactly one of them
pub record IsInExactlyOne (leaves : List Fragment) (hash : ℕ) : Type 0 where
  pub place : ℕ
  pub stands : place < length leaves
  pub contains : Contains (slice_index_or leaves place root_fragment) hash
  pub alone : (other : ℕ) → other < length leaves → Contains (slice_index_or leaves other root_fragment) hash
      → other ≡ place

abbrev pub IsCover : List Fragment → Type 0
IsCover leaves = (hash : ℕ) → hash < 2 ^ 24 → IsInExactlyOne leaves hash

-- the bit k of the value, counted from its front, as a digit 0 or 1
abbrev pub digit_at : Fragment → ℕ → ℕ
digit_at f k = 48 + f.value / span (k + 1) % 2

-- a fragment prints as its bits and a star
abbrev pub fragment_text : Fragment → List ℕ
fragment_text f = map (digit_at f) (range_with_len 0 f.bits) ++ codes "*"
