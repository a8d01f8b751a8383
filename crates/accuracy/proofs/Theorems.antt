-- HOW FAR FROM TRUE (request W4): the two cores, and what E and L answer against 2^x and log2 x. Assumes nothing.
use mathlib.Core.Path.{◌≡◌, sym, ◌∙◌, subst}
use mathlib.Core.Bool.{true, false}
use Prim.Native.Nat.{ℕ, ◌*◌, ◌^◌, ◌≤◌, ◌<◌}
use native.Mathlib.Nat.{le_of_lt}
use lib.Dec.{T, lit≤, lit<}
use lib.IntN.{ℤ, pos, ◌+ℤ◌, ◌-ℤ◌, ◌*ℤ◌}
use lib.Ieee.{Float, binary64, up, down, fits}
use lib.Ieee.Exact.{HasValue}
use Rattle.base.specs.Said.{gives}
use Rattle.base.specs.Integers.{floor_div, floor_mod}
use Rattle.base.proofs.Integers.{floor_mod_lt}
use Rattle.floats.specs.Ranges.{in_reach}
use Rattle.floats.proofs.Ranges.{reach_says}
use Rattle.powers.proofs.Bound.{powers, power_below}
use Rattle.explog.specs.Exp.{p_of}
use Rattle.explog.specs.Log.{b_of}
use Rattle.explog.specs.Rules.{E, L, in_powers, floor_of, power_of, times_power, log_at, octaves_of}
use Rattle.explog.proofs.Values.{given, answered}
use Rattle.accuracy.specs.Accuracy.{CoreE, CoreL, AccurateE, AccurateL}
use Rattle.accuracy.proofs.CoreE.{core_e}
use Rattle.accuracy.proofs.CoreL.{core_l}
use Rattle.accuracy.proofs.AnswerE.{from_core_e}
use Rattle.accuracy.proofs.AnswerL.{from_core_l}
use Rattle.accuracy.proofs.LogParts.{log_parts}

-- ---- "P to the power 2^52 is at most 2 to the power 62*2^52 + b, which is less than (P + 512) to the power 2^52": for each b of 52 bits
pub exp_core : (b : ℕ) → b < 2 ^ 52 → CoreE b (p_of b 52)
exp_core = core_e

-- "2^V is at most x to the power 2^52, less than 2^(V+2)", with "V = (e+52)*2^52 + B": for each m of 53 bits, and any e
pub log_core : (m : ℕ) (e : ℤ) → 2 ^ 52 ≤ m → m < 2 ^ 53
    → CoreL m e ((e +ℤ pos 52) *ℤ pos (2 ^ 52) +ℤ pos (b_of (m * 2 ^ 10) 52))
log_core = core_l

-- ---- "From these derive a stated bound on the final f64 of each": of P and of V the cores are all that is asked, and of P its size
pub exp_from_core : (x : Float) (P : ℕ) → fits binary64 x ≡ true → in_powers x ≡ true → 2 ^ 62 ≤ P → P ≤ 2 ^ 63
    → CoreE (floor_mod (floor_of x) (2 ^ 52)) P → AccurateE x (times_power P (floor_div (floor_of x) (2 ^ 52) -ℤ pos 62))
exp_from_core x P fit range low high core = from_core_e x P (subst T (sym fit) tt) range low high core

pub log_from_core : (x : Float) (m : ℕ) (e v : ℤ) → in_reach x ≡ true → HasValue x false (m * up e) (down e)
    → CoreL m e v → AccurateL x (octaves_of v)
log_from_core x m e v reach value core = from_core_l x m e reach value v core

-- ---- what E and L answer, for every f64 that they take
pub exp_accurate : (x r : Float) → fits binary64 x ≡ true → E x ≡ gives r → AccurateE x r
unfolding E power_of
exp_accurate x r fit h =
    let (range, is) = given (in_powers x) (power_of (floor_of x)) r 18 0 h in
    let b = floor_mod (floor_of x) (2 ^ 52) in
    let P = p_of b 52 in
    let p = powers b 52 (lit≤ tt) in
    let core = exp_core b (floor_mod_lt (floor_of x) (2 ^ 52) (lit< tt)) in
    subst (AccurateE x) is (exp_from_core x P fit range p.above (le_of_lt (power_below b 52 P (lit≤ tt) p)) core)

pub log_accurate : (x r : Float) → fits binary64 x ≡ true → L x ≡ gives r → AccurateL x r
unfolding log_at
log_accurate x r fit h =
    let (reach, is) = answered x r h in
    let d = log_parts (reach_says x reach) fit in
    subst (AccurateL x) (d.is ∙ is) (log_from_core x d.m d.e _ reach d.value (log_core d.m d.e d.low d.high))
