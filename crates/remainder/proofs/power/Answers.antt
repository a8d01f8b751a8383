-- The result is 2 ^ (exponent - 1074).
-- No loop; its bits are one bit of the fraction, or the exponent's field.
use mathlib.Core.Path.{◌≡◌, sym, subst}
use mathlib.Core.Bool.{Bool, false, not}
use Prim.Native.Nat.{ℕ, ◌+◌, ◌-◌, ◌*◌, ◌%◌, ◌^◌, ◌≤◌, ◌<◌}
use native.Mathlib.Nat.{one-mul}
use native.Mathlib.Omega.{arith}
use borrow.Author.Rules.{rules}
use mathlib.Core.Path.{◌∙◌}
use lib.Dec.{T, lit<, lit≤}
use lib.Ieee.{binary64, of_bits, nan_bits}
use lib.Ieee.Bits.{nan_bits_is}
use lib.Ieee.Exact.{HasValue}
use lib.Pow.{shl_exact}
use Rattle.floats.proofs.PowerBits.{unit_low, unit_high}
use Rattle.floats.proofs.Value.{has_no_nan}
use Rattle.remainder.proofs.power.Goals as goal

low_bits : (k : ℕ) → k < 52 → 1 * 2 ^ k % 2 ^ 64 ≡ 2 ^ k
low_bits k h = let l : 1 + k ≤ 64 = omega arith in shl_exact 1 k 64 (lit< tt) l ∙ one-mul (2 ^ k)

high_bits : (k : ℕ) → k ≤ 2045 → (k - 51) * 2 ^ 52 % 2 ^ 64 ≡ (k - 51) * 2 ^ 52
high_bits k h = let l : k - 51 < 2 ^ 11 = omega arith in shl_exact 11 52 64 l (lit≤ tt)

-- bits of a number are no NaN's
number_bits : (b b' n : ℕ) → b ≡ b' → HasValue (of_bits binary64 b') false n (2 ^ 1074) → T (not (nan_bits binary64 b))
number_bits b b' n e v =
    subst (λ (z : ℕ). T (not (nan_bits binary64 z))) (sym e) (subst (λ (z : Bool). T (not z)) (sym (nan_bits_is binary64 b')) (has_no_nan _ _ _ _ v))

value : (b b' n : ℕ) → b ≡ b' → HasValue (of_bits binary64 b') false n (2 ^ 1074) → HasValue (of_bits binary64 b) false n (2 ^ 1074)
value b b' n e v = subst (λ (z : ℕ). HasValue (of_bits binary64 z) false n (2 ^ 1074)) (sym e) v

pub float_from_bits-result : goal.float_from_bits-result
float_from_bits-result c = number_bits _ _ _ (low_bits c.args.exponent c.if-exponent-lt52.true) (unit_low c.args.exponent c.if-exponent-lt52.true)

pub float_from_bits-result-else-exponent-lt52 : goal.float_from_bits-result-else-exponent-lt52
float_from_bits-result-else-exponent-lt52 c = number_bits _ _ _ (high_bits c.args.exponent c.requires) (unit_high c.args.exponent c.if-exponent-lt52.false c.requires)

pub returns-then-exponent-lt52 : goal.returns-then-exponent-lt52
returns-then-exponent-lt52 c = value _ _ _ (low_bits c.args.exponent c.if-exponent-lt52.true) (unit_low c.args.exponent c.if-exponent-lt52.true)

pub returns-else-exponent-lt52 : goal.returns-else-exponent-lt52
returns-else-exponent-lt52 c = value _ _ _ (high_bits c.args.exponent c.requires) (unit_high c.args.exponent c.if-exponent-lt52.false c.requires)
