-- E on natural numbers alone is E as the rules have it. Assumes nothing.
use Rattle.std.proofs.Common.{◌≡◌, ℕ, zero, suc, ◌+◌, ◌-◌, ◌*◌, ◌/◌, ◌%◌, ◌^◌, ◌<◌, ◌≤◌, Bool, true, false, T, ℤ, pos, negsuc, ◌-ℤ◌, sym, refl, ap, ◌∙◌, subst, le_trans, le_of_eq, mul-le-mul_right, mod-lt, mul_assoc, suc-mul, mul_comm, div-lt_iff_lt-mul, add-mul, add_comm, div-add-mod', mul-one, mul_right_comm, le_of_mul-le-mul_right, mul-div_cancel, arith, lit<, lit≤, pow_pos, pow-add}
use native.Mathlib.Nat.{mul-sub, zero-div}
use lib.Arith.{digits_div}
use lib.Ieee.{Float, fin, binary64, fits, up, down, round, inf, nan}
use lib.Ieee.Fits.{down_pos}
use lib.Ieee.Nearest.{div_same}
use lib.Ieee.Scale.{finite, round_same}
use Rattle.base.specs.Said.{pick}
use Rattle.floats.specs.Units.{units_of, negative}
use Rattle.explog.proofs.Floor.{plus}
use Rattle.explog.specs.Exp.{p_of}
use Rattle.base.specs.Integers.{floor_div, floor_mod}
use Rattle.explog.specs.Rules.{signed, floor_of, times_power, power_of}
use Rattle.explog.proofs.Plain.{plain_floor, plain_power}
use Rattle.explog.proofs.Diff.{Diff, add, moved}
use Rattle.floats.proofs.Units.{whole_units}

-- ---- the floor, moved up by Q
floor_diff : (s : Bool) (Q A D : ℕ) → 0 < D → A ≤ Q * D → Diff (floor_div (signed s A) D) (pick s (Q * D - A) (Q * D + A) / D) Q
floor_diff false Q A D p h = plus Q D A p ∙ add_comm Q (A / D)
floor_diff true Q zero D p h =
    let z : Q * D - 0 ≡ Q * D = omega arith in
    let w : 0 / D ≡ 0 = zero-div D in
    ap (λ (x : ℕ). x / D) z ∙ mul-div_cancel Q p ∙ omega arith
floor_diff true Q (suc a) D p h =
    let q = a / D in
    let r = a % D in
    let e : q * D + r ≡ a = div-add-mod' a D in
    let l : r < D = mod-lt a p in
    let k : q < Q = (div-lt_iff_lt-mul p).1 h in
    let s : Q - suc q + suc q ≡ Q = omega arith in
    let m : (Q - suc q) * D + suc q * D ≡ Q * D = sym (add-mul (Q - suc q) (suc q) D) ∙ ap (λ (x : ℕ). x * D) s in
    let n : suc q * D ≡ q * D + D = suc-mul q D in
    let b : D - suc r < D = omega arith in
    let d : Q * D - suc a ≡ (Q - suc q) * D + (D - suc r) = omega arith in
    ap (λ (x : ℕ). x / D + suc q) d ∙ ap (λ (x : ℕ). x + suc q) (digits_div (Q - suc q) b) ∙ s

-- two fractions of the same size
same_floor : (s : Bool) (Q A D u M : ℕ) → 0 < D → 0 < M → A * M ≡ u * D → pick s (Q * D - A) (Q * D + A) / D ≡ pick s (Q * M - u) (Q * M + u) / M
same_floor false Q A D u M p q e = div_same (Q * D + A) D (Q * M + u) M p q (add-mul (Q * D) A M ∙ ap (λ (x : ℕ). x + A * M) (mul_right_comm Q D M) ∙ ap (λ (x : ℕ). Q * M * D + x) e ∙ sym (add-mul (Q * M) u D))
same_floor true Q A D u M p q e =
    div_same (Q * D - A) D (Q * M - u) M p q
    (mul_comm (Q * D - A) M ∙ mul-sub M (Q * D) A
    ∙ (λ i. (mul_comm M (Q * D) ∙ mul_right_comm Q D M ∙ mul_comm (Q * M) D) i - (mul_comm M A ∙ e ∙ mul_comm u D) i)
    ∙ sym (mul-sub D (Q * M) u) ∙ mul_comm D (Q * M - u))

-- ---- the power
pub split : (f : ℤ) (F : ℕ) → Diff f F (2 ^ 62) → Diff (floor_div f (2 ^ 52)) (F / 2 ^ 52) 1024 × (floor_mod f (2 ^ 52) ≡ F % 2 ^ 52)
split (pos a) F h = (omega arith, omega arith)
split (negsuc a) F h = (omega arith, omega arith)

times_power_law : (P : ℕ) (z : ℤ) (N : ℕ) → Diff z N 1086 → times_power P z ≡ round binary64 false (P * 2 ^ N) (2 ^ 1086)
unfolding times_power
times_power_law P (pos n) N h =
    round_same binary64 false (P * 2 ^ n) 1 (P * 2 ^ N) (2 ^ 1086) (lit< tt) (pow_pos 1086)
    (mul_assoc P (2 ^ n) (2 ^ 1086) ∙ ap (λ (x : ℕ). P * x) (sym (pow-add 2 n 1086) ∙ ap (λ (x : ℕ). 2 ^ x) (sym h)) ∙ sym (mul-one (P * 2 ^ N)))
times_power_law P (negsuc n) N h =
    round_same binary64 false (P * 1) (2 ^ suc n) (P * 2 ^ N) (2 ^ 1086) (pow_pos (suc n)) (pow_pos 1086)
    (ap (λ (x : ℕ). x * 2 ^ 1086) (mul-one P) ∙ ap (λ (x : ℕ). P * 2 ^ x) (sym h) ∙ ap (λ (x : ℕ). P * x) (pow-add 2 N (suc n)) ∙ sym (mul_assoc P (2 ^ N) (2 ^ suc n)))

-- f is n * 2 ^ 52 + b, and F is f + 1024 * 2 ^ 52
pub times_at : (P : ℕ) (f : ℤ) (F : ℕ) → Diff f F (2 ^ 62)
    → times_power P (floor_div f (2 ^ 52) -ℤ pos 62) ≡ round binary64 false (P * 2 ^ (F / 2 ^ 52)) (2 ^ 1086)
times_at P f F h =
    let n = floor_div f (2 ^ 52) in
    times_power_law P (n -ℤ pos 62) (F / 2 ^ 52)
    (moved (n -ℤ pos 62) (F / 2 ^ 52 + 0) 1086 (F / 2 ^ 52) 1086 (omega arith)
    (add n (negsuc 61) (F / 2 ^ 52) 1024 0 62 (split f F h).0 refl))

power_literal : (f : ℤ) (F : ℕ) → Diff f F (2 ^ 62) → plain_power F ≡ power_of f
unfolding plain_power power_of
power_literal f F h =
    ap (λ (b : ℕ). round binary64 false (p_of b 52 * 2 ^ (F / 2 ^ 52)) (2 ^ 1086)) (sym (split f F h).1)
    ∙ sym (times_at (p_of (floor_mod f (2 ^ 52)) 52) f F h)

-- ---- E
pub floor_literal : (x : Float) → T (fits binary64 x) → T (finite x) → units_of x ≤ 900 * 2 ^ 1074
    → Diff (floor_of x) (plain_floor x) (2 ^ 62)
unfolding plain_floor floor_of negative
floor_literal (fin s m e) p h b =
    let D = down e in
    let A = m * up e * 2 ^ 52 in
    let u = units_of (fin s m e) in
    let v : A * 2 ^ 1022 ≡ u * D = mul_assoc (m * up e) (2 ^ 52) (2 ^ 1022) ∙ (whole_units (fin s m e) p h).1 in
    let m : u * D ≤ 2 ^ 62 * D * 2 ^ 1022 =
    le_trans (mul-le-mul_right D (le_trans b (lit≤ tt))) (le_of_eq (mul_right_comm (2 ^ 62) (2 ^ 1022) D)) in
    let l : A ≤ 2 ^ 62 * D = le_of_mul-le-mul_right (le_trans (le_of_eq v) m) (pow_pos 1022) in
    subst (λ (F : ℕ). Diff (floor_div (signed s A) D) F (2 ^ 62)) (same_floor s (2 ^ 62) A D u (2 ^ 1022) (down_pos e) (pow_pos 1022) v)
    (floor_diff s (2 ^ 62) A D (down_pos e) l)
floor_literal nan p h b = elim h [ ]
floor_literal (inf _) p h b = elim h [ ]

pub e_literal : (x : Float) → T (fits binary64 x) → T (finite x) → units_of x ≤ 900 * 2 ^ 1074
    → plain_power (plain_floor x) ≡ power_of (floor_of x)
e_literal x p h b = power_literal (floor_of x) (plain_floor x) (floor_literal x p h b)
