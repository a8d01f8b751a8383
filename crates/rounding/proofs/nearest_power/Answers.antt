-- The result is the f64 nearest to p * 2 ^ (n - 1086).
-- No loop; one product by a power of two, `nearest_law` of Power.antt.
use Rattle.std.proofs.Common.{◌≡◌, ℕ, ◌-◌, ◌*◌, ◌%◌, ◌^◌, ◌<◌, ◌≤◌, Bool, not, T, sym, ◌∙◌, subst, arith, lit≤, shl_exact, rules}
use lib.Ieee.{binary64, mul, of_bits, nan_bits}
use lib.Ieee.Bits.{nan_bits_is}
use Rattle.rounding.proofs.Power.{factor, nearest_law}
use Rattle.floats.proofs.Value.{has_no_nan}
use Rattle.rounding.proofs.nearest_power.Goals as goal

shifted : (n : ℕ) → 124 ≤ n → n ≤ 1924 → (n - 63) * 2 ^ 52 % 2 ^ 64 ≡ (n - 63) * 2 ^ 52
shifted n l h = let k : n - 63 < 2 ^ 11 = omega arith in shl_exact 11 52 64 k (lit≤ tt)

pub float_from_bits-result : goal.float_from_bits-result
float_from_bits-result c =
    subst (λ (b : ℕ). T (not (nan_bits binary64 b))) (sym (shifted c.args.n c.requires.exponent.0 c.requires.exponent.1))
    (subst (λ (z : Bool). T (not z)) (sym (nan_bits_is binary64 ((c.args.n - 63) * 2 ^ 52)))
    (has_no_nan _ _ _ _ (factor c.args.p c.args.n c.requires.digits.0 c.requires.digits.1 c.requires.exponent.0 c.requires.exponent.1)))

pub returns : goal.returns
returns c =
    (λ i. mul binary64 (c.nearest_u64_to_f64.ensures i) (of_bits binary64 (shifted c.args.n c.requires.exponent.0 c.requires.exponent.1 i)))
    ∙ nearest_law c.args.p c.args.n c.requires.digits.0 c.requires.digits.1 c.requires.exponent.0 c.requires.exponent.1
