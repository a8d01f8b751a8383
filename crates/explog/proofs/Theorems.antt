-- What a user of E and L may count on, with the sentences of document 01. Assumes nothing.
use Rattle.std.proofs.Common.{◌≡◌, ℕ, suc, ◌+◌, ◌-◌, ◌*◌, ◌/◌, ◌%◌, ◌^◌, ◌<◌, ◌≤◌, true, false, not, T, pos, negsuc, neg_ℤ, sym, refl, ◌∙◌, subst, lt_of_le_of_lt, mul-le-mul_left, mul-div_cancel, arith, lit<, lit≤, pow_pos}
use lib.Ieee.{Float, fin, binary64, le, lt, eq, fits, of_bits, round, nan_bits}
use lib.Ieee.Scale.{finite}
use lib.Ieee.Exact.{HasValue}
use lib.Count.{ones, ones-le}
use Rattle.base.specs.Said.{gives, One, outcome}
use Rattle.base.proofs.Said.{one_result, same_value}
use Rattle.floats.specs.Floats.{two_to, zero_f, one_f, abs}
use Rattle.floats.specs.Ranges.{in_reach, negligible}
use Rattle.floats.specs.Units.{units_of, negative}
use Rattle.floats.proofs.Theorems.{float_one}
use Rattle.rounding.proofs.Power.{power_finite}
use Rattle.floats.proofs.Ranges.{reach_says}
use Rattle.floats.proofs.Value.{unique}
use Rattle.powers.proofs.Entries.{t_below}
use Rattle.powers.proofs.Bound.{powers, power_below}
use Rattle.powers.specs.Exp.{p_of}
use Rattle.rounding.proofs.Assemble.{no_nan}
use Rattle.powers.specs.Inner.{Bits}
use Rattle.powers.proofs.Theorems.{log_bits_one}
use Rattle.explog.specs.Root.{root}
use Rattle.explog.specs.Exp.{t_of, p_of}
use Rattle.explog.specs.Rules.{E, L, in_powers, floor_of, power_of}
use Rattle.explog.specs.Samples.{log_of_one}
use Rattle.explog.proofs.Meaning.{root_is}
use Rattle.explog.proofs.Plain.{plain_floor, plain_power}
use Rattle.explog.proofs.Range.{e_range}
use Rattle.explog.proofs.LiteralE.{e_literal}
use Rattle.explog.proofs.EndsE.{whole_range}
use Rattle.explog.proofs.Values.{given, answered, logged, v_zero}
use Rattle.explog.proofs.Reach.{exp_in_reach, log_in_powers}
use Rattle.explog.proofs.Sides.{side_of, sided_finite, sided_equal, one_fits, sided_far, and_false, side_off}
use Rattle.explog.specs.Near.{Near}
use Rattle.explog.proofs.Cell.{packed}

-- "floor of the square root", of any number below 2 ^ 128
pub root_floor : (n : ℕ) → n < 2 ^ 128 → (root n * root n ≤ n) × (n < (root n + 1) * (root n + 1))
root_floor n h = root_is n h

-- "T_k = floor of the square root of 2^62*T_(k-1), k = 1..52"
pub table_root : (k : ℕ) → k < 52 → (t_of (suc k) * t_of (suc k) ≤ 2 ^ 62 * t_of k) × (2 ^ 62 * t_of k < (t_of (suc k) + 1) * (t_of (suc k) + 1))
unfolding t_of
table_root k h = root_is (2 ^ 62 * t_of k) (lt_of_le_of_lt (mul-le-mul_left (2 ^ 62) (t_below k (omega arith))) (lit< tt))

-- ---- E answers a number: never a NaN, never an infinity
power_at : (x r : Float) → E x ≡ gives r → (in_powers x ≡ true) × (power_of (floor_of x) ≡ r)
unfolding E
power_at x r h = given (in_powers x) (power_of (floor_of x)) r 18 0 h

pub exp_finite : (x r : Float) → fits binary64 x ≡ true → E x ≡ gives r → T (finite r)
unfolding plain_power plain_floor
exp_finite x r f h =
    let a = power_at x r h in
    let t = e_range x a.0 in
    let F = plain_floor x in
    let w = whole_range (negative x) (units_of x) F t.1 refl in
    let p = powers (F % 2 ^ 52) 52 (omega arith) in
    subst (λ (y : Float). T (finite y)) (e_literal x (subst T (sym f) tt) t.0 t.1 ∙ a.1)
    (power_finite (p_of (F % 2 ^ 52) 52) (F / 2 ^ 52) p.above (power_below (F % 2 ^ 52) 52 (p_of (F % 2 ^ 52) 52) (omega arith) p) w.0 w.1)

-- ---- "A computed pitch or ratio outside 2^-900..2^900 gives 18": what E answers never is; and L's octaves are in E's domain
pub exp_reach : (x r : Float) → fits binary64 x ≡ true → E x ≡ gives r → in_reach r ≡ true
exp_reach = exp_in_reach

pub log_powers : (x r : Float) → fits binary64 x ≡ true → L x ≡ gives r → in_powers r ≡ true
log_powers = log_in_powers

-- ---- L answers a number: never a NaN, never an infinity
pub log_finite : (x r : Float) → fits binary64 x ≡ true → L x ≡ gives r → T (finite r)
log_finite x r f h = let a = answered x r h in sided_finite (side_of x r (logged x f a.0) a.1)

-- ---- L(x) = 0 exactly at x = 1.0
pub log_one : L one_f ≡ gives zero_f
log_one = log_of_one

pub log_zero : (x r : Float) → fits binary64 x ≡ true → L x ≡ gives r → eq r zero_f ≡ true → x ≡ one_f
unfolding of_bits
log_zero x r f h z =
    let a = answered x r h in
    let g = logged x f a.0 in
    let u = v_zero g.d g.k g.low g.high (sided_equal (side_of x r g a.1) z) in
    unique binary64 x (fin false 1 (pos 0)) false (2 ^ 1074) (2 ^ 1074) (pow_pos 1074) (subst T (sym f) tt) one_fits
    (subst (λ (n : ℕ). HasValue x false n (2 ^ 1074)) u g.value) (refl, refl)

-- ---- |L(x)| >= 2^-20 outside [0.999999, 1.000001)
pub log_far : (x r : Float) → fits binary64 x ≡ true → L x ≡ gives r → negligible x ≡ false → T (le (two_to (neg_ℤ (pos 20))) (abs r))
unfolding of_bits
log_far x r f h n =
    let a = answered x r h in
    let g = logged x f a.0 in
    let low = le (fin false 9007190247541737 (negsuc 52)) x in
    let high = lt x (fin false 4503604130970123 (negsuc 51)) in
    sided_far (side_of x r g a.1) (side_off (reach_says x a.0) g (and_false low high n))

-- ---- "a public function's contract leaves one possible result"
pub exp2_one : (x : Float) → One outcome (E x)
exp2_one x = float_one (E x)

pub log2_one : (x : Float) → One outcome (L x)
log2_one x = float_one (L x)

-- and so do the test of E's range and E inside it
pub is_in_powers_one : (x : Float) → One (λ r. r) (in_powers x)
is_in_powers_one x = one_result (in_powers x)

pub power_one : (x : Float) → One gives (E x)
power_one x q r p s = same_value q r (p ∙ sym s)

-- where no middle of two f64s lies from so many below r as b has set bits to 11 above it, P rounds to the cell of r
pub near_rounds : (b r u w n : ℕ) → u + ones b ≤ 511 → w ≤ u + 501 → 124 ≤ n → n ≤ 1924 → Near b r → (r + u) % 1024 < w
    → of_bits binary64 ((n - 2) * 2 ^ 52 + (r + u) / 1024) ≡ round binary64 false (p_of b 52 * 2 ^ n) (2 ^ 1086)
near_rounds b r u w n l h from to q t =
    let p = powers b 52 (lit≤ tt) in
    let low = q.low in
    let high = q.high in
    packed (p_of b 52) n p.above (power_below b 52 _ (lit≤ tt) p) from to ((r + u) / 1024) (omega arith) (omega arith)

-- a number of 64 bits has at most 64 of them set
pub ones_few : (b : ℕ) → b < 2 ^ 64 → ones b ≤ 64
ones_few = ones-le 64

-- the bits are no NaN's
pub no_nan_there : (r u n : ℕ) → r < 2 ^ 63 → u ≤ 1024 → n ≤ 1924 → T (not (nan_bits binary64 ((n - 2) * 2 ^ 52 + (r + u) / 1024)))
no_nan_there r u n h l to = no_nan _ (omega arith)

-- two results of one input are equal, for the call that E makes; `near_power` may answer any number within what it says
pub nearest_to_power_one : (b n : ℕ) → One (λ r. r) (round binary64 false (p_of b 52 * 2 ^ n) (2 ^ 1086))
nearest_to_power_one b n = one_result (round binary64 false (p_of b 52 * 2 ^ n) (2 ^ 1086))

pub near_log_bits_one : (y r s : ℕ) → Bits y r → Bits y s → r ≡ s
near_log_bits_one = log_bits_one
