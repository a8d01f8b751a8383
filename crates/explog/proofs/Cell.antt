-- A number from 2 ^ 62 to 2 ^ 63 that lies in the cell of j, between two neighbouring middles of f64s, rounds to j; and the bits of what it rounds
-- to, times a power of two. Assumes nothing.
use Rattle.std.proofs.Common.{◌≡◌, ℕ, ◌+◌, ◌-◌, ◌*◌, ◌/◌, ◌%◌, ◌^◌, ◌<◌, ◌≤◌, false, not, T, sym, ap, ◌∙◌, subst, le_trans, le_of_eq, lt_of_lt_of_le, mul-le-mul_right, mul_assoc, le_antisymm, mul-pos, lt_of_not-le, not-le_of_lt, mul-div_cancel, arith, lit<, eqb→eq, leb→le, pow_pos, pow_mono, pow-add, shl_lt}
use Prim.Native.Nat.{compare, Ordering}
use lib.Dec.{is_le, compare_is_eq, nleb→lt}
use lib.Ieee.{Float, binary64, nearest, round, units, size, of_bits}
use lib.Ieee.Exact.{HasValue, units_val}
use lib.Ieee.Fits.{round-fits}
use lib.Ieee.Nearest.{closest, closest_same}
use lib.Ieee.Digits.{size-lt, size-le}
use Rattle.rounding.proofs.Assemble.{bits_of, under_top}

-- a number strictly inside the cell of j is nearest to j
in_cell : (p j : ℕ) → 1024 * j < p + 512 → p + 512 < 1024 * j + 1024 → closest p 1024 ≡ j
in_cell p j low high = go (compare (p % 1024 * 2) 1024) (leb→le (p % 1024 * 2) 1024) (nleb→lt (p % 1024 * 2) 1024) (eqb→eq (p % 1024 * 2) 1024)
  where
    tie : (q : ℕ) → p ≡ 1024 * q + 512 → ⊥
    tie q e = let a : q < j = omega arith in let b : j < q + 1 = omega arith in omega arith

    go : (o : Ordering) → (T (is_le o) → p % 1024 * 2 ≤ 1024) → (T (not (is_le o)) → 1024 < p % 1024 * 2) → (T (compare_is_eq o) → p % 1024 * 2 ≡ 1024) → nearest (p / 1024) o ≡ j
    go Ordering.lt h k e = let a = h tt in le_antisymm (omega arith) (omega arith)
    go Ordering.eq h k e = let a = e tt in absurd (tie (p / 1024) (omega arith))
    go Ordering.gt h k e = let a = k tt in le_antisymm (omega arith) (omega arith)

-- 63 digits and m zeros
size_of : (p m : ℕ) → 2 ^ 62 ≤ p → p < 2 ^ 63 → size (p * 2 ^ m) ≡ 63 + m
size_of p m low high =
    let n = p * 2 ^ m in
    let over : size n ≤ 63 + m = size-le n (63 + m) (shl_lt 63 m high) in
    let least : 2 ^ (62 + m) ≤ n = le_trans (le_of_eq (pow-add 2 62 m)) (mul-le-mul_right (2 ^ m) low) in
    let under : 62 + m < size n = lt_of_not-le (λ (g : size n ≤ 62 + m). not-le_of_lt (lt_of_lt_of_le (size-lt n) (pow_mono g)) least) in
    le_antisymm over (omega arith)

-- p * 2 ^ (n - 1086): 63 digits, of which 53 stay
module _ (p n : ℕ) (low : 2 ^ 62 ≤ p) (high : p < 2 ^ 63) (from : 124 ≤ n) (to : n ≤ 1924) where
  moved : (a c k l : ℕ) → a + c ≡ k + l → p * 2 ^ a * 2 ^ c ≡ p * 2 ^ k * 2 ^ l
  moved a c k l e =
      mul_assoc p (2 ^ a) (2 ^ c) ∙ ap (λ (x : ℕ). p * x) (sym (pow-add 2 a c) ∙ ap (λ (x : ℕ). 2 ^ x) e ∙ pow-add 2 k l) ∙ sym (mul_assoc p (2 ^ k) (2 ^ l))

  dropped : size (p * 2 ^ n * 2 ^ 1074 / 2 ^ 1086) - 53 ≡ n - 2
  dropped =
      let e : n + 1074 ≡ n - 12 + 1086 = omega arith in
      let f : 63 + (n - 12) - 53 ≡ n - 2 = omega arith in
      ap (λ (x : ℕ). size (x / 2 ^ 1086) - 53) (moved n 1074 (n - 12) 1086 e) ∙ ap (λ (x : ℕ). size x - 53) (mul-div_cancel (p * 2 ^ (n - 12)) (pow_pos 1086))
      ∙ ap (λ (x : ℕ). x - 53) (size_of p (n - 12) low high) ∙ f

  ratio : p * 2 ^ n * 2 ^ 1074 * 1024 ≡ p * (2 ^ 1086 * 2 ^ (n - 2))
  ratio =
      let e : n + 1084 ≡ 1086 + (n - 2) = omega arith in
      mul_assoc (p * 2 ^ n) (2 ^ 1074) 1024 ∙ moved n 1084 1086 (n - 2) e ∙ mul_assoc p (2 ^ 1086) (2 ^ (n - 2))

  pub rounded : round binary64 false (p * 2 ^ n) (2 ^ 1086) ≡ units binary64 false (closest p 1024) (n - 2)
  unfolding round
  rounded =
      (λ i. units binary64 false (closest (p * 2 ^ n * 2 ^ 1074) (2 ^ 1086 * 2 ^ dropped i)) (dropped i))
      ∙ ap (λ (z : ℕ). units binary64 false z (n - 2)) (closest_same (p * 2 ^ n * 2 ^ 1074) (2 ^ 1086 * 2 ^ (n - 2)) p 1024 (mul-pos (pow_pos 1086) (pow_pos (n - 2))) (lit< tt) ratio)

  -- its bits, where it lies in the cell of j
  pub packed : (j : ℕ) → 1024 * j < p + 512 → p + 512 < 1024 * j + 1024 → of_bits binary64 ((n - 2) * 2 ^ 52 + j) ≡ round binary64 false (p * 2 ^ n) (2 ^ 1086)
  packed j under over =
      let x = round binary64 false (p * 2 ^ n) (2 ^ 1086) in
      let is : x ≡ units binary64 false j (n - 2) = rounded ∙ ap (λ (z : ℕ). units binary64 false z (n - 2)) (in_cell p j under over) in
      let most : j ≤ 2 ^ 53 = omega arith in
      bits_of x j (n - 2) (round-fits binary64 false (p * 2 ^ n) (2 ^ 1086))
      (subst (λ (y : Float). HasValue y false (j * 2 ^ (n - 2)) (2 ^ 1074)) (sym is) (units_val binary64 false j (n - 2) (under_top j (n - 2) most (omega arith)))) (omega arith) most
