-- Jenkins' hash of 1996 of a list of bytes. A word is a number below 2 ^ 32, and all arithmetic on
-- words is modulo 2 ^ 32.
use Rattle.std.specs.Prelude.{ℕ, zero, suc, ◌+◌, ◌-◌, ◌*◌, ◌/◌, ◌%◌, ◌^◌, List, [], ◌∷◌, ◌++◌, length, take, drop, fold, replicate, bit_xor}
use Rattle.std.specs.Int.{w32, from_le_bytes}
use Rattle.namehash.specs.declared.state.State.{State}

-- the sum of two words (Jenkins 1996; Ceph's ceph_str_hash_rjenkins)
abbrev pub add32 : ℕ → ℕ → ℕ
add32 x y = (x + y) % 2 ^ 32

-- the difference of two words (Jenkins 1996; Ceph's ceph_str_hash_rjenkins)
abbrev pub sub32 : ℕ → ℕ → ℕ
sub32 x y = (x + (2 ^ 32 - y)) % 2 ^ 32

-- a word shifted left by k bits (Jenkins 1996; Ceph's ceph_str_hash_rjenkins)
abbrev pub shl32 : ℕ → ℕ → ℕ
shl32 x k = x * 2 ^ k % 2 ^ 32

-- a word shifted right by k bits (Jenkins 1996; Ceph's ceph_str_hash_rjenkins)
abbrev pub shr32 : ℕ → ℕ → ℕ
shr32 x k = x / 2 ^ k

-- the state before the first byte (Jenkins 1996; Ceph's ceph_str_hash_rjenkins)
abbrev pub start : State
start = record { a = 0x9e3779b9; b = 0x9e3779b9; c = 0 }

-- a third of the mix: a, b and c in turn, each less the other two and then xored with the word before
-- it, shifted right, left and right (Jenkins 1996; Ceph's ceph_str_hash_rjenkins)
unfoldable pub mix_round : ℕ → ℕ → ℕ → State → State
mix_round first second third s =
    let a = bit_xor (sub32 (sub32 s.a s.b) s.c) (shr32 s.c first) in
    let b = bit_xor (sub32 (sub32 s.b s.c) a) (shl32 a second) in
    let c = bit_xor (sub32 (sub32 s.c a) b) (shr32 b third) in
    record { a = a; b = b; c = c }

-- the mix, by its nine shifts (Jenkins 1996; Ceph's ceph_str_hash_rjenkins)
unfoldable pub mix : State → State
mix s = mix_round 3 10 15 (mix_round 12 16 5 (mix_round 13 8 13 s))

-- a word is added to each of the three, and the sums mixed (Jenkins 1996; Ceph's ceph_str_hash_rjenkins)
unfoldable pub absorb : State → ℕ → ℕ → ℕ → State
absorb s x y z = mix (record { a = add32 s.a x; b = add32 s.b y; c = add32 s.c z })

-- the little-endian word at byte i of a block (Jenkins 1996; Ceph's ceph_str_hash_rjenkins)
unfoldable pub block_word : List ℕ → ℕ → ℕ
block_word block i = from_le_bytes w32 (take 4 (drop i block))

-- a whole block is taken in (Jenkins 1996; Ceph's ceph_str_hash_rjenkins)
unfoldable pub absorb_block : State → List ℕ → State
absorb_block s block = absorb s (block_word block 0) (block_word block 4) (block_word block 8)

-- the rest of a name, with zeros up to 12 bytes (Jenkins 1996; Ceph's ceph_str_hash_rjenkins)
unfoldable pub last_block : List ℕ → List ℕ
last_block rest = rest ++ replicate (12 - length rest) 0

-- the last block is taken in, its third word times 256 plus the length of the whole name (Jenkins
-- 1996; Ceph's ceph_str_hash_rjenkins)
unfoldable pub absorb_last : State → List ℕ → ℕ → State
absorb_last s rest total =
    let block = last_block rest in
    absorb s (block_word block 0) (block_word block 4) (add32 (block_word block 8 * 256) total)

-- the first n blocks of 12 bytes of a name (Jenkins 1996; Ceph's ceph_str_hash_rjenkins)
unfoldable pub blocks : ℕ → List ℕ → List (List ℕ)
blocks zero name = []
blocks (suc n) name = take 12 name ∷ blocks n (drop 12 name)

-- the hash of a name: the third word, once its whole blocks and then its last are taken in (Jenkins
-- 1996; Ceph's ceph_str_hash_rjenkins)
unfoldable pub hash_of : List ℕ → ℕ
hash_of name =
    let whole = length name / 12 in
    (absorb_last (fold absorb_block start (blocks whole name)) (drop (12 * whole) name) (length name)).c
