-- Numbers whose bytes stand the greatest first are in the order of their bytes.
use Rattle.std.proofs.Common.{Equal, Greater, Less, Ordering, [], ap, arith, nat_cmp, refl, suc, sym, zero, ℕ, ◌%◌, ◌*◌, ◌++◌, ◌+◌, ◌<◌, ◌^◌, ◌∙◌, ◌≡◌}
use Rattle.std.proofs.Math.Nat.{add-mul, mod-eq_of_lt, mod-lt, mod-one, mul-le-mul_right, one-le-pow, one-mul}
use Rattle.std.specs.Cmp.{ranks}
use Rattle.std.specs.Cmp.Lexicographic.{slice_cmp}
use Rattle.std.specs.Int.{byte_at, bytes_high_first}
use Rattle.std.specs.Ordering.{MatchOrdering, ordering_then}
use Rattle.byteorder.specs.Numbers.{big_from-bytes, big_from-cons}
use Rattle.mds_types.proofs.ByteOrderLaws.{equal, greater, less}

-- the greatest byte, and the others
first_byte : (n x : ℕ) → x % 256 ^ suc n ≡ byte_at n x * 256 ^ n + x % 256 ^ n
first_byte n x =
    sym (big_from-bytes (suc n) x [])
    ∙ ap (λ (t : ℕ). byte_at n x * 256 ^ n + t) (big_from-cons 0 n (byte_at n x) (bytes_high_first n x ++ []) ∙ big_from-bytes n x [])

above : (c p q r s : ℕ) → r < c → p < q → p * c + r < q * c + s
above c p q r s few l =
    let more : (p + 1) * c < q * c + 1 = let le = mul-le-mul_right {m = p + 1} {n = q} c (omega arith) in omega arith in
    omega (arith, add-mul p 1 c, one-mul c, more)

-- numbers compare by their first bytes, and then by the others
by_first : (c p q r s : ℕ) → r < c → s < c → nat_cmp (p * c + r) (q * c + s) ≡ ordering_then (nat_cmp p q) (nat_cmp r s)
by_first c p q r s few few_too = at (nat_cmp p q) refl (ranks p q)
  where
    then_ : (o : Ordering) → nat_cmp p q ≡ o → ordering_then o (nat_cmp r s) ≡ ordering_then (nat_cmp p q) (nat_cmp r s)
    then_ o e = ap (λ (t : Ordering). ordering_then t (nat_cmp r s)) (sym e)

    last : p ≡ q → (o : Ordering) → nat_cmp r s ≡ o → MatchOrdering o (r < s) (r ≡ s) (s < r) → nat_cmp (p * c + r) (q * c + s) ≡ nat_cmp r s
    last same Less e l = less {x = p * c + r} {y = q * c + s} (omega (arith, ap (λ (t : ℕ). t * c) same, l)) ∙ sym e
    last same Equal e l = equal {x = p * c + r} {y = q * c + s} (omega (arith, ap (λ (t : ℕ). t * c) same, l)) ∙ sym e
    last same Greater e l = greater {x = p * c + r} {y = q * c + s} (omega (arith, ap (λ (t : ℕ). t * c) same, l)) ∙ sym e

    at : (o : Ordering) → nat_cmp p q ≡ o → MatchOrdering o (p < q) (p ≡ q) (q < p) → nat_cmp (p * c + r) (q * c + s) ≡ ordering_then (nat_cmp p q) (nat_cmp r s)
    at Less e l = less {x = p * c + r} {y = q * c + s} (above c p q r s few l) ∙ then_ Less e
    at Equal e l = last l (nat_cmp r s) refl (ranks r s) ∙ then_ Equal e
    at Greater e l = greater {x = p * c + r} {y = q * c + s} (above c q p s r few_too l) ∙ then_ Greater e

in_order : (n a b : ℕ) → slice_cmp nat_cmp (bytes_high_first n a) (bytes_high_first n b) ≡ nat_cmp (a % 256 ^ n) (b % 256 ^ n)
in_order zero a b = sym (equal {x = a % 256 ^ 0} {y = b % 256 ^ 0} (mod-one a ∙ sym (mod-one b)))
in_order (suc n) a b =
    let some : 0 < 256 ^ n = omega (arith, one-le-pow n 256 (omega arith)) in
    ap (ordering_then (nat_cmp (byte_at n a) (byte_at n b))) (in_order n a b)
    ∙ sym (by_first (256 ^ n) (byte_at n a) (byte_at n b) (a % 256 ^ n) (b % 256 ^ n) (mod-lt a some) (mod-lt b some))
    ∙ (λ i. nat_cmp (sym (first_byte n a) i) (sym (first_byte n b) i))

pub eight_in_order : (a b : ℕ) → a < 2 ^ 64 → b < 2 ^ 64 → slice_cmp nat_cmp (bytes_high_first 8 a) (bytes_high_first 8 b) ≡ nat_cmp a b
eight_in_order a b few few_too =
    in_order 8 a b ∙ (λ i. nat_cmp (mod-eq_of_lt {n = a} {m = 256 ^ 8} (omega (arith, few)) i) (mod-eq_of_lt {n = b} {m = 256 ^ 8} (omega (arith, few_too)) i))
