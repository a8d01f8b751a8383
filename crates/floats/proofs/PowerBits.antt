-- A power of two by its bits. Assumes nothing.
use Rattle.std.proofs.Common.{◌≡◌, ℕ, suc, ◌+◌, ◌-◌, ◌*◌, ◌/◌, ◌%◌, ◌^◌, ◌<◌, ◌≤◌, Bool, false, cond, sym, ap, ◌∙◌, subst, mod-eq_of_lt, mul-one, arith, pow-add, shl_lt, ne_eqb}
use native.Mathlib.Nat.{mul-mod_left}
use lib.Pow.{pow-lt, shl-shr}
use lib.Ieee.Exact.{HasValue, odd_sign}
use lib.Ieee.{Float, inf, binary64, odd, of_bits, of_fields}
use borrow.Author.Tests.{lt-leb}
use Rattle.floats.proofs.Decode.{of_bits_is}

-- the fields of k * 2 ^ 52
field_of : (k : ℕ) → k < 2047 → of_bits binary64 (k * 2 ^ 52) ≡ of_fields binary64 false k 0
field_of k h =
    let b : k * 2 ^ 52 < 2 ^ 63 = shl_lt 11 52 (omega arith) in
    of_bits_is (k * 2 ^ 52)
    ∙ ap (λ (s : Bool). of_fields binary64 s (k * 2 ^ 52 % 2 ^ 63 / 2 ^ 52) (k * 2 ^ 52 % 2 ^ 52)) (lt-leb (2 ^ 63) (k * 2 ^ 52) b)
    ∙ ap (λ (z : ℕ). of_fields binary64 false (z / 2 ^ 52) (k * 2 ^ 52 % 2 ^ 52)) (mod-eq_of_lt b)
    ∙ ap (λ (z : ℕ). of_fields binary64 false z (k * 2 ^ 52 % 2 ^ 52)) (shl-shr k 52)
    ∙ ap (λ (z : ℕ). of_fields binary64 false k z) (mul-mod_left k (2 ^ 52))

power_field : (k : ℕ) → suc k < 2047 → of_fields binary64 false (suc k) 0 ≡ odd 53 false (2 ^ 52) k 1074
unfolding of_fields
power_field k h = ap (λ (b : Bool). cond b (inf false) (odd 53 false (2 ^ 52) k 1074)) (ne_eqb (suc k) 2047 (λ e. omega arith))

-- from_bits(k << 52) is 2 ^ (k - 1023)
pub power : (k : ℕ) → suc k < 2047 → HasValue (of_bits binary64 (suc k * 2 ^ 52)) false (2 ^ 52 * 2 ^ k) (2 ^ 1074)
power k h = subst (λ (x : Float). HasValue x false (2 ^ 52 * 2 ^ k) (2 ^ 1074)) (sym (field_of (suc k) h ∙ power_field k h)) (odd_sign 53 false (2 ^ 52) k 1074)

-- 2 ^ (k - 1074) by its bits: below the numbers with a leading 1, and among them
low_field : (b : ℕ) → b < 2 ^ 52 → of_bits binary64 b ≡ odd 53 false b 0 1074
unfolding of_fields
low_field b h =
    let l : b < 2 ^ 63 = omega arith in
    let z : b / 2 ^ 52 ≡ 0 = omega arith in
    of_bits_is b
    ∙ ap (λ (s : Bool). of_fields binary64 s (b % 2 ^ 63 / 2 ^ 52) (b % 2 ^ 52)) (lt-leb (2 ^ 63) b l)
    ∙ ap (λ (x : ℕ). of_fields binary64 false (x / 2 ^ 52) (b % 2 ^ 52)) (mod-eq_of_lt l)
    ∙ ap (λ (x : ℕ). of_fields binary64 false x (b % 2 ^ 52)) z
    ∙ ap (λ (x : ℕ). of_fields binary64 false 0 x) (mod-eq_of_lt h)

pub unit_low : (k : ℕ) → k < 52 → HasValue (of_bits binary64 (2 ^ k)) false (2 ^ k) (2 ^ 1074)
unit_low k h =
    subst (λ (n : ℕ). HasValue (of_bits binary64 (2 ^ k)) false n (2 ^ 1074)) (mul-one (2 ^ k))
    (subst (λ (x : Float). HasValue x false (2 ^ k * 2 ^ 0) (2 ^ 1074)) (sym (low_field (2 ^ k) (pow-lt h))) (odd_sign 53 false (2 ^ k) 0 1074))

pub unit_high : (k : ℕ) → 52 ≤ k → k ≤ 2045 → HasValue (of_bits binary64 ((k - 51) * 2 ^ 52)) false (2 ^ k) (2 ^ 1074)
unit_high k l h =
    let e : k - 51 ≡ suc (k - 52) = omega arith in
    let f : 52 + (k - 52) ≡ k = omega arith in
    subst (λ (n : ℕ). HasValue (of_bits binary64 ((k - 51) * 2 ^ 52)) false n (2 ^ 1074)) (sym (pow-add 2 52 (k - 52)) ∙ ap (λ (x : ℕ). 2 ^ x) f)
    (subst (λ (z : ℕ). HasValue (of_bits binary64 (z * 2 ^ 52)) false (2 ^ 52 * 2 ^ (k - 52)) (2 ^ 1074)) (sym e) (power (k - 52) (omega arith)))
