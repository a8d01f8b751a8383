-- `from_bits` is safe: without the sign, the bits of a NaN are above those of infinity. Assumes nothing.
use Rattle.std.proofs.Common.{ℕ, ◌*◌, ◌%◌, ◌^◌, ◌≤◌, Bool, not, T, sym, ◌∙◌, subst, arith, le-ltb}
use lib.Ieee.{binary64, nan_bits}
use lib.Ieee.Bits.{nan_bits_above}
use Rattle.frozen.proofs.given.from_bits.Goals as goal

not_above : (n : ℕ) → n % 2 ^ 63 ≤ 2047 * 2 ^ 52 → T (not (nan_bits binary64 n))
not_above n h = subst (λ (b : Bool). T (not b)) (sym (nan_bits_above binary64 n ∙ le-ltb (2047 * 2 ^ 52) (n % 2 ^ 63) h)) tt

pub float_from_bits-result : goal.float_from_bits-result
float_from_bits-result c = not_above c.args.bits (omega arith)
