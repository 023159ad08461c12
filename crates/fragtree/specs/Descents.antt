-- How splits by fragment spell the leaves of a directory. Only this crate's own contracts use these words.
use Rattle.std.specs.Prelude.{◌≡◌, ◌⊎◌, ℕ, zero, suc, ◌+◌, ◌-◌, ◌%◌, ◌^◌, ◌<◌, ◌≤◌, List, [], ◌∷◌, Option, Some, None}
use Rattle.std.specs.Option.{unwrap_or, option_map}
use Rattle.std.specs.FinMap as map
use Rattle.mds_types.specs.Frag.{Fragment, IsFragment, ContainsFragment, child_of, frag_cmp, span}
use Rattle.fragtree.specs.FragTree.{HasLeaf, IsTree}

-- by how many bits fragments are split, CephFS's `fragtree_t`
abbrev pub FragSplits : Type 0
FragSplits = map.FinMap frag_cmp ℕ

-- the fragment of so many bits that contains a 24-bit hash
abbrev pub frag_of_hash : ℕ → ℕ → Fragment
frag_of_hash bits hash = record { bits = bits; value = hash - hash % span bits }

-- by how many bits the fragments round a hash are split, each told by its own bits
abbrev pub splits_round : FragSplits → ℕ → ℕ → Option ℕ
splits_round splits hash bits = map.get splits (frag_of_hash bits hash)

-- a descent through fragments that are split comes to the one of so many bits, from the one of n bits on
pub data Descends (round : ℕ → Option ℕ) (to : ℕ) : ℕ → Type 0 where
  there : (n : ℕ) → n ≡ to → Descends round to n
  on : (n nb : ℕ) → round n ≡ Some nb → Descends round to (n + nb) → Descends round to n

-- the descent ends at so many bits, and nothing is split there or below
pub record Ends (round : ℕ → Option ℕ) (bits : ℕ) : Type 0 where
  pub descends : Descends round bits 0
  pub nothing : (b : ℕ) → bits ≤ b → b ≤ 24 → round b ≡ None

-- each split is by some bits
abbrev pub AllSome : FragSplits → Type 0
AllSome splits = (f : Fragment) (nb : ℕ) → map.get splits f ≡ Some nb → 1 ≤ nb

-- splits spell the leaves: each splits by some bits, and the descent of each hash ends at its leaf
pub record Spells (splits : FragSplits) (leaves : List Fragment) : Type 0 where
  pub some : AllSome splits
  pub ends : (leaf : Fragment) → HasLeaf leaves leaf → (hash : ℕ) → leaf.value ≤ hash
      → hash < leaf.value + span leaf.bits → Ends (splits_round splits hash) leaf.bits

-- where a descent of at most so many steps ends, from n bits on
abbrev pub depth : ℕ → (ℕ → Option ℕ) → ℕ → ℕ
depth zero round n = n
depth (suc steps) round n = unwrap_or (option_map (λ nb. depth steps round (n + nb)) (round n)) n

-- so many fragments from a hash on, each of the bits that are told of its first hash
abbrev pub fragments_from : (ℕ → ℕ) → ℕ → ℕ → List Fragment
fragments_from bits_of zero low = []
fragments_from bits_of (suc count) low =
    frag_of_hash (bits_of low) low ∷ fragments_from bits_of count (low + span (bits_of low))

-- the leaves that splits spell, so many of them
unfoldable pub spelled_leaves : FragSplits → ℕ → List Fragment
spelled_leaves splits count = fragments_from (λ hash. depth 24 (splits_round splits hash) 0) count 0

-- what a tree keeps: its splits spell leaves that are those of a tree
pub record SpellsLeaves (splits : FragSplits) (count : ℕ) : Type 0 where
  pub tree : IsTree (spelled_leaves splits count)
  pub spells : Spells splits (spelled_leaves splits count)

-- the descent of a hash ends, at more than so many bits
pub record EndsBeyond (splits : FragSplits) (hash least : ℕ) : Type 0 where
  pub bits : ℕ
  pub more : least ≤ bits
  pub few : bits ≤ 24
  pub ends : Ends (splits_round splits hash) bits

-- each descent ends where it did
abbrev pub KeepsEnds : FragSplits → FragSplits → Type 0
KeepsEnds old new =
    (hash bits : ℕ) → hash < 2 ^ 24 → bits ≤ 24 → Ends (splits_round old hash) bits → Ends (splits_round new hash) bits

-- f is no longer split, nor is anything below it; what lies elsewhere is as before
pub record IsForgotten (old new : FragSplits) (f : Fragment) : Type 0 where
  pub gone : (g : Fragment) → IsFragment g → ContainsFragment f g → map.get new g ≡ None
  pub kept : (g : Fragment) → (ContainsFragment f g → ⊥) → map.get new g ≡ map.get old g
  pub fewer : (g : Fragment) (nb : ℕ) → map.get new g ≡ Some nb → map.get old g ≡ Some nb

-- the descents of the hashes of f end at it, all others where they did
pub record IsClosed (old new : FragSplits) (f : Fragment) : Type 0 where
  pub inside : (hash : ℕ) → f.value ≤ hash → hash < f.value + span f.bits → Ends (splits_round new hash) f.bits
  pub outside : (hash bits : ℕ) → hash < 2 ^ 24 → bits ≤ 24 → ((f.value ≤ hash) × (hash < f.value + span f.bits) → ⊥)
      → Ends (splits_round old hash) bits → Ends (splits_round new hash) bits

-- g, split by nb bits, is split by 1, and its two halves by the bits that are left
abbrev pub halved : FragSplits → Fragment → ℕ → FragSplits
halved splits g nb = map.insert (map.insert (map.insert splits g 1) (child_of g 0 1) (nb - 1)) (child_of g 1 1) (nb - 1)

-- each fragment of less than so many bits round a leaf is split by 1 bit
abbrev pub IsLedTo : FragSplits → Fragment → ℕ → Type 0
IsLedTo splits leaf bits = (b : ℕ) → b < bits → map.get splits (frag_of_hash b leaf.value) ≡ Some 1

-- the fragments of less than so many bits round a leaf are split by 1 bit now, beside those that were
pub record IsSplitRound (old new : FragSplits) (leaf : Fragment) (bits : ℕ) : Type 0 where
  pub led : IsLedTo new leaf bits
  pub kept : (g : Fragment) → map.get old g ≡ Some 1 → map.get new g ≡ Some 1
  pub fewer : (g : Fragment) (nb : ℕ) → map.get new g ≡ Some nb → (map.get old g ≡ Some nb)
      ⊎ ((nb ≡ 1) × (g.bits < bits) × (g ≡ frag_of_hash g.bits leaf.value))
