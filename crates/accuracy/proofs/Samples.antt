-- What the definitions of specs/Accuracy are at numbers: of E at x = -1/2 and x = 1, P for b = 2 ^ 51, of L at x = 10 and x = 1/2, by the
-- theorems; and that the bounds follow from the cores alone, for a P and a V that are not E's and L's. The powers are written out where
-- the prover need not compute them; most are far too large for that. Assumes nothing.
use mathlib.Core.Path.{◌≡◌, refl, sym, subst}
use mathlib.Core.Bool.{true, false}
use Prim.Native.Nat.{ℕ, suc, ◌+◌, ◌-◌, ◌*◌, ◌^◌, ◌≤◌, ◌<◌}
use native.Mathlib.Nat.{le_trans, le_of_eq, lt_of_le_of_lt}
use native.Mathlib.Omega.{arith}
use lib.Dec.{T, lit≤, lit<}
use lib.Pow.{pow_mono, pow-lt}
use lib.IntN.{pos, negsuc, ◌+ℤ◌, ◌-ℤ◌}
use lib.Ieee.{Float, fin, binary64, fits, le, round, size, of_bits, neg}
use lib.Ieee.Scale.{finite}
use lib.Ieee.Positive.{positive}
use Rattle.base.specs.Said.{gives}
use Rattle.floats.specs.Ranges.{in_reach}
use Rattle.log_roots.proofs.Ratio.{pow_mul}
use Rattle.explog.specs.Exp.{t_of, p_of}
use Rattle.explog.specs.Log.{b_of, y_of}
use Rattle.explog.specs.Root.{root, root_from}
use Rattle.explog.specs.Rules.{E, L, in_powers, floor_of, power_of, times_power, log_of, log_at, octaves_of}
use Rattle.explog.specs.Samples.{power_of_minus_half, log_of_ten}
use Rattle.explog.proofs.Close.{not_zero}
use Rattle.accuracy.specs.Accuracy.{AtLeast, Below, CoreE, CoreL, AccurateE, AccurateL}
use Rattle.accuracy.proofs.CoreL.{moved_low, moved_high}
use Rattle.accuracy.proofs.Orders.{power_le, power_lt, to_at_least, to_below}
use Rattle.accuracy.proofs.Theorems.{exp_core, log_core, exp_from_core, log_from_core, exp_accurate, log_accurate}

-- ---- the orders, with an exponent below 0
pub at_least_below : (n k p q : ℕ) → AtLeast n (negsuc k) p q ≡ (1 * q ^ n ≤ p ^ n * 2 ^ suc k)
at_least_below n k p q = refl

pub below_below : (n k p q : ℕ) → Below n (negsuc k) p q ≡ (p ^ n * 2 ^ suc k < 1 * q ^ n)
below_below n k p q = refl

-- ---- what is said of argument and answer
pub says_e : (x r : Float) → AccurateE x r → T (finite x) × T (positive r)
says_e x r a = (a.argument, a.answer)

pub says_l : (x r : Float) → AccurateL x r → T (positive x) × T (finite r)
says_l x r a = (a.argument, a.answer)

-- ---- E(1) = 2
one_power : E (fin false 1 (pos 0)) ≡ gives (fin false 1 (pos 1))
unfolding E floor_of power_of times_power t_of root root_from p_of le round of_bits neg
one_power = refl

one_fits : fits binary64 (fin false 1 (pos 0)) ≡ true
unfolding fits
one_fits = refl

pub one_low : (2 * 2 ^ 53) ^ 1 * 1 ≤ 2 ^ 1 * (1 * (2 ^ 53 + 1)) ^ 1
one_low =
    (exp_accurate (fin false 1 (pos 0)) (fin false 1 (pos 1)) one_fits one_power
    ).low false 1 1 2 1 (lit< tt) (lit< tt) (refl, refl) (refl, refl)

pub one_high : 2 ^ 1 * (1 * 2 ^ 51) ^ 1 < (2 * (2 ^ 51 + 1)) ^ 1 * 1
one_high =
    (exp_accurate (fin false 1 (pos 0)) (fin false 1 (pos 1)) one_fits one_power
    ).high false 1 1 2 1 (lit< tt) (lit< tt) (refl, refl) (refl, refl)

-- ---- E(-1/2) = 6369051672525773 / 2 ^ 53: squared, against 1 / 2
pub half_fits : fits binary64 (fin true 1 (negsuc 0)) ≡ true
unfolding fits
half_fits = refl

pub half_low : (6369051672525773 * 2 ^ 53) ^ 2 * 2 ≤ (2 ^ 53 * (2 ^ 53 + 1)) ^ 2
half_low =
    (exp_accurate (fin true 1 (negsuc 0)) (fin false 6369051672525773 (negsuc 52)) half_fits power_of_minus_half
    ).low true 1 2 6369051672525773 (2 ^ 53) (lit< tt) (lit< tt) (refl, refl) (refl, refl)

pub half_high : (2 ^ 53 * 2 ^ 51) ^ 2 < (6369051672525773 * (2 ^ 51 + 1)) ^ 2 * 2
half_high =
    (exp_accurate (fin true 1 (negsuc 0)) (fin false 6369051672525773 (negsuc 52)) half_fits power_of_minus_half
    ).high true 1 2 6369051672525773 (2 ^ 53) (lit< tt) (lit< tt) (refl, refl) (refl, refl)

-- ---- P for b = 2 ^ 51 is T_1
half_p : p_of (2 ^ 51) 52 ≡ 6521908912666391106
unfolding p_of t_of root root_from
half_p = refl

pub core_low : 6521908912666391106 ^ (2 ^ 52) ≤ 2 ^ (62 * 2 ^ 52 + 2 ^ 51)
core_low = subst (λ (P : ℕ). P ^ (2 ^ 52) ≤ 2 ^ (62 * 2 ^ 52 + 2 ^ 51)) half_p (exp_core (2 ^ 51) (lit< tt)).low

pub core_high : 2 ^ (62 * 2 ^ 52 + 2 ^ 51) < (6521908912666391106 + 512) ^ (2 ^ 52)
core_high = subst (λ (P : ℕ). 2 ^ (62 * 2 ^ 52 + 2 ^ 51) < (P + 512) ^ (2 ^ 52)) half_p (exp_core (2 ^ 51) (lit< tt)).high

-- ---- L(10) = 7480317065143153 / 2 ^ 51
pub ten_fits : fits binary64 (fin false 5 (pos 1)) ≡ true
unfolding fits
ten_fits = refl

pub ten_low : 2 ^ (7480317065143153 * (2 ^ 53 - 1)) * 1 ^ (2 ^ 51 * 2 ^ 53) ≤ 10 ^ (2 ^ 51 * 2 ^ 53) * 1
ten_low =
    (log_accurate (fin false 5 (pos 1)) (fin false 7480317065143153 (negsuc 50)) ten_fits log_of_ten
    ).low false 10 1 7480317065143153 (2 ^ 51) (lit< tt) (lit< tt) (refl, refl) (refl, refl)

pub ten_high : 10 ^ (2 ^ 51 * 2 ^ 53) * 1 < 2 ^ (7480317065143153 * (2 ^ 53 + 1) + 4 * 2 ^ 51) * 1 ^ (2 ^ 51 * 2 ^ 53)
ten_high =
    (log_accurate (fin false 5 (pos 1)) (fin false 7480317065143153 (negsuc 50)) ten_fits log_of_ten
    ).high false 10 1 7480317065143153 (2 ^ 51) (lit< tt) (lit< tt) (refl, refl) (refl, refl)

-- ---- L(1/2) = -1: -(2 ^ 53 + 1), and -(2 ^ 53 - 1) + 4
half_log : L (fin false 1 (negsuc 0)) ≡ gives (fin true 1 (pos 0))
unfolding L log_of log_at octaves_of b_of y_of le round size of_bits
half_log = refl

half_fits_too : fits binary64 (fin false 1 (negsuc 0)) ≡ true
unfolding fits
half_fits_too = refl

pub below_low : AtLeast (1 * 2 ^ 53) (negsuc (2 ^ 53)) 1 2
below_low =
    (log_accurate (fin false 1 (negsuc 0)) (fin true 1 (pos 0)) half_fits_too half_log
    ).low true 1 2 1 1 (lit< tt) (lit< tt) (refl, refl) (refl, refl)

pub below_high : Below (1 * 2 ^ 53) (negsuc (2 ^ 53 - 6)) 1 2
below_high =
    (log_accurate (fin false 1 (negsuc 0)) (fin true 1 (pos 0)) half_fits_too half_log
    ).high true 1 2 1 1 (lit< tt) (lit< tt) (refl, refl) (refl, refl)

-- ---- V for x = 10, which is m * 2 ^ -49 with m = 5 * 2 ^ 50, and for m * 2 ^ -64
pub ten_core_low : 2 ^ 14960634130286306 * (2 ^ 49) ^ (2 ^ 52) ≤ (5 * 2 ^ 50 * 1) ^ (2 ^ 52) * 1
unfolding b_of y_of
ten_core_low = (log_core (5 * 2 ^ 50) (negsuc 48) (lit≤ tt) (lit< tt)).low

pub ten_core_high : (5 * 2 ^ 50 * 1) ^ (2 ^ 52) * 1 < 2 ^ 14960634130286308 * (2 ^ 49) ^ (2 ^ 52)
unfolding b_of y_of
ten_core_high = (log_core (5 * 2 ^ 50) (negsuc 48) (lit≤ tt) (lit< tt)).high

pub low_core_low : AtLeast (2 ^ 52) (negsuc 52593360280271133) (5 * 2 ^ 50 * 1) (2 ^ 64)
unfolding b_of y_of
low_core_low = (log_core (5 * 2 ^ 50) (negsuc 63) (lit≤ tt) (lit< tt)).low

pub low_core_high : Below (2 ^ 52) (negsuc 52593360280271131) (5 * 2 ^ 50 * 1) (2 ^ 64)
unfolding b_of y_of
low_core_high = (log_core (5 * 2 ^ 50) (negsuc 63) (lit≤ tt) (lit< tt)).high

-- ---- from the core alone: at x = 1/2 a P that is 500 too small, for which no 416 would do
other_core : CoreE (2 ^ 51) (6521908912666391106 - 500)
other_core = record {
  low = power_le (6521908912666391106 - 500) 2 125 (2 ^ 51) (lit≤ tt);
  high = power_lt (6521908912666391106 - 500 + 512) 2 125 (2 ^ 51) (not_zero (2 ^ 51) (lit< tt)) (lit< tt);
}

half_in : in_powers (fin false 1 (negsuc 0)) ≡ true
unfolding le neg of_bits
half_in = refl

pub other_p : AccurateE (fin false 1 (negsuc 0)) (times_power (6521908912666391106 - 500) (pos 0 -ℤ pos 62))
unfolding floor_of
other_p = exp_from_core (fin false 1 (negsuc 0)) (6521908912666391106 - 500) half_fits_too half_in (lit≤ tt) (lit≤ tt) other_core

-- and at x = 2, which is 2 ^ 52 * 2 ^ -51, a V that is 1 too small
less_core : CoreL (2 ^ 52) (negsuc 50) (pos (2 ^ 52 - 1))
less_core = record {
  low = to_at_least (pos (2 ^ 52 - 1)) {j = 0 * 2 ^ 52 + (52 * 2 ^ 52 - 1)} {i = 51 * 2 ^ 52} refl
      (moved_low (2 ^ 52) (52 * 2 ^ 52 - 1) (2 ^ 52) 51 0 (under 52 (2 ^ 52)));
  high = to_below (pos (2 ^ 52 - 1) +ℤ pos 2) {j = 0 * 2 ^ 52 + (52 * 2 ^ 52 + 1)} {i = 51 * 2 ^ 52} refl
      (moved_high (2 ^ 52) (52 * 2 ^ 52 + 1) (2 ^ 52) 51 0 (over 52 (2 ^ 52)));
}
  where
    under : (s n : ℕ) → 2 ^ (s * n - 1) ≤ (2 ^ s) ^ n
    under s n = le_trans (pow_mono (let l : s * n - 1 ≤ s * n = omega arith in l)) (le_of_eq (sym (pow_mul 2 s n)))

    over : (s n : ℕ) → (2 ^ s) ^ n < 2 ^ (s * n + 1)
    over s n = lt_of_le_of_lt (le_of_eq (pow_mul 2 s n)) (pow-lt (let l : s * n < s * n + 1 = omega arith in l))

two_in : in_reach (fin false 1 (pos 1)) ≡ true
unfolding le of_bits
two_in = refl

pub other_v : AccurateL (fin false 1 (pos 1)) (octaves_of (pos (2 ^ 52 - 1)))
other_v = log_from_core (fin false 1 (pos 1)) (2 ^ 52) (negsuc 50) (pos (2 ^ 52 - 1)) two_in (refl, refl) less_core
