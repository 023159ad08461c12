-- How the hash of what is left of a name goes on, a block at a time.
use Rattle.namehash.proofs.Common.{List, State, absorb_block, absorb_last, ap, arith, drop, drop-drop, fold, length, length-drop, refl, start, suc, sym, take, ℕ, ◌*◌, ◌+◌, ◌/◌, ◌<◌, ◌∙◌, ◌≡◌, ◌≤◌}
use Rattle.namehash.specs.Rjenkins.{blocks, hash_of}

-- the hash of a name of `total` bytes, from the state s and what is left, with n whole blocks
hash_by : State → List ℕ → ℕ → ℕ → ℕ
hash_by s left total n = (absorb_last (fold absorb_block s (blocks n left)) (drop (12 * n) left) total).c

hash_by_next : (s : State) (left : List ℕ) (total n : ℕ)
    → hash_by s left total (suc n) ≡ hash_by (absorb_block s (take 12 left)) (drop 12 left) total n
unfolding hash_by blocks
hash_by_next s left total n =
    let place : 12 * suc n ≡ 12 + 12 * n = omega arith in
    let past : drop (12 * suc n) left ≡ drop (12 * n) (drop 12 left) =
    ap (λ (k : ℕ). drop k left) place ∙ sym (drop-drop (12 * n) 12 left) in
    ap (λ (rest : List ℕ). (absorb_last (fold absorb_block s (blocks (suc n) left)) rest total).c) past

-- the same hash, with as many whole blocks as are left
pub hash_on : State → List ℕ → ℕ → ℕ
hash_on s left total = hash_by s left total (length left / 12)

pub hash_of_start : (name : List ℕ) → hash_of name ≡ hash_on start name (length name)
unfolding hash_on hash_by hash_of
hash_of_start name = refl

-- the first block of what is left is taken in
pub hash_on_block : (s : State) (left : List ℕ) (total : ℕ) → 12 ≤ length left
    → hash_on s left total ≡ hash_on (absorb_block s (take 12 left)) (drop 12 left) total
unfolding hash_on
hash_on_block s left total enough =
    let count : length left / 12 ≡ suc (length (drop 12 left) / 12) = omega (arith, length-drop 12 left) in
    ap (hash_by s left total) count ∙ hash_by_next s left total (length (drop 12 left) / 12)

-- less than a block is left
pub hash_on_last : (s : State) (left : List ℕ) (total : ℕ) → length left < 12
    → hash_on s left total ≡ (absorb_last s left total).c
unfolding hash_on hash_by blocks
hash_on_last s left total short =
    let none : length left / 12 ≡ 0 = omega arith in
    ap (hash_by s left total) none

pub ruleset steps = (hash_of_start, hash_on_block, hash_on_last)
