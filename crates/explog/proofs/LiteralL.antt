-- L on natural numbers alone is L as the rules have it. Assumes nothing.
use Rattle.std.proofs.Common.{◌≡◌, ℕ, zero, suc, ◌+◌, ◌-◌, ◌*◌, ◌^◌, ◌<◌, ◌≤◌, Bool, true, false, T, ℤ, pos, negsuc, ◌+ℤ◌, ◌-ℤ◌, ◌*ℤ◌, sym, refl, ap, ◌∙◌, subst, le_trans, le_of_eq, lt_of_lt_of_le, add-zero, lt_irrefl, mul-le-mul_right, mul_assoc, mul-pos, lt_of_not-le, zero-add, zero-mul, mul-one, mul_right_comm, not-le_of_lt, arith, lit<, pow_pos, pow_mono, pow-add, shl_lt, le-leb}
use native.Mathlib.Nat.{eq_of_mul-eq-mul_right}
use borrow.Author.Tests.{lt-leb}
use lib.Ieee.{Float, fin, binary64, fits, up, down, round, size, inf, nan}
use lib.Ieee.Fits.{down_pos}
use lib.Ieee.Digits.{size-lt, size-le, size_reaches}
use lib.Ieee.Scale.{finite}
use lib.Ieee.Bits.{is_true}
use Rattle.base.specs.Said.{pick}
use Rattle.floats.proofs.Fit.{fits_says}
use Rattle.floats.specs.Units.{units_of}
use Rattle.explog.specs.Log.{b_of}
use Rattle.explog.specs.Rules.{octaves_of, log_at, log_of}
use Rattle.explog.proofs.Plain.{nearest_diff, plain_log}
use Rattle.explog.proofs.Diff.{Diff, add, subtract, times, moved}
use Rattle.floats.proofs.Units.{whole_units}

-- ---- the last step
ratio_diff : (z : ℤ) (a b : ℕ) → Diff z a b → nearest_diff a b (2 ^ 52) ≡ octaves_of z
unfolding nearest_diff octaves_of
ratio_diff (pos n) a b h =
    let l : b ≤ a = omega arith in
    let e : a - b ≡ n = omega arith in
    ap (λ (t : Bool). pick t (round binary64 false (a - b) (2 ^ 52)) (round binary64 true (b - a) (2 ^ 52))) (le-leb b a l) ∙ ap (λ (x : ℕ). round binary64 false x (2 ^ 52)) e
ratio_diff (negsuc n) a b h =
    let l : a < b = omega arith in
    let e : b - a ≡ suc n = omega arith in
    ap (λ (t : Bool). pick t (round binary64 false (a - b) (2 ^ 52)) (round binary64 true (b - a) (2 ^ 52))) (lt-leb b a l) ∙ ap (λ (x : ℕ). round binary64 true x (2 ^ 52)) e

at_literal : (m k : ℕ) (e : ℤ) → Diff e k 1074 → plain_log m k ≡ log_at m e
unfolding plain_log log_at
at_literal m k e h =
    let B = b_of (m * 2 ^ 10) 52 in
    let a : Diff (e +ℤ pos 52) k 1022 = moved (e +ℤ pos 52) (k + 52) (1074 + 0) k 1022 (omega arith) (add e (pos 52) k 1074 52 0 h refl) in
    let t : Diff ((e +ℤ pos 52) *ℤ pos (2 ^ 52)) (k * 2 ^ 52) (1022 * 2 ^ 52) = times (e +ℤ pos 52) k 1022 (2 ^ 52) a in
    ratio_diff ((e +ℤ pos 52) *ℤ pos (2 ^ 52) +ℤ pos B) (k * 2 ^ 52 + B) (1022 * 2 ^ 52) (add ((e +ℤ pos 52) *ℤ pos (2 ^ 52)) (pos B) (k * 2 ^ 52) (1022 * 2 ^ 52) B 0 t (sym (add-zero B)))

-- ---- 53 digits, and zeros after them
pub size_of : (d k : ℕ) → 2 ^ 52 ≤ d → d < 2 ^ 53 → size (d * 2 ^ k) ≡ 53 + k
size_of d k a b =
    let u = d * 2 ^ k in
    let l : 2 ^ (52 + k) ≤ u = le_trans (le_of_eq (pow-add 2 52 k)) (mul-le-mul_right (2 ^ k) a) in
    let g : 52 + k < size u = lt_of_not-le (λ (g : size u ≤ 52 + k). not-le_of_lt (lt_of_lt_of_le (size-lt u) (pow_mono g)) l) in
    let h : size u ≤ 53 + k = size-le u (53 + k) (shl_lt 53 k b) in
    omega arith

one_way : (M d i j : ℕ) → 2 ^ 52 ≤ M → M < 2 ^ 53 → 2 ^ 52 ≤ d → d < 2 ^ 53 → M * 2 ^ i ≡ d * 2 ^ j → (i ≡ j) × (M ≡ d)
one_way M d i j a b c e h =
    let s : 53 + i ≡ 53 + j = sym (size_of M i a b) ∙ ap size h ∙ size_of d j c e in
    let k : i ≡ j = omega arith in
    (k, eq_of_mul-eq-mul_right (2 ^ j) (pow_pos j) M d (ap (λ (x : ℕ). M * 2 ^ x) (sym k) ∙ h))

pub filled : (m : ℕ) → 0 < m → m < 2 ^ 53 → (2 ^ 52 ≤ m * 2 ^ (53 - size m)) × (m * 2 ^ (53 - size m) < 2 ^ 53)
filled m p b =
    let z = size m in
    let t = 53 - z in
    let l : z ≤ 53 = size-le m 53 b in
    let g : 0 < z = lt_of_not-le (λ (g : z ≤ 0). not-le_of_lt (lt_of_lt_of_le (size-lt m) (pow_mono {i = z} {j = 0} g)) p) in
    let e : z - 1 + t ≡ 52 = omega arith in
    let f : z + t ≡ 53 = omega arith in
    let i : z - 1 < z = omega arith in (
      le_trans (le_of_eq (ap (λ (x : ℕ). 2 ^ x) (sym e) ∙ pow-add 2 (z - 1) t)) (mul-le-mul_right (2 ^ t) (size_reaches m (z - 1) i)),
      lt_of_lt_of_le (shl_lt z t (size-lt m)) (le_of_eq (ap (λ (x : ℕ). 2 ^ x) f)),
    )

pub small : (s : Bool) (m : ℕ) (e : ℤ) → T (fits binary64 (fin s (suc m) e)) → suc m < 2 ^ 53
small s m e t = (fits_says s (suc m) e (omega arith) (is_true (fits binary64 (fin s (suc m) e)) t)).1

-- ---- m and e, from the number of units
sorted : (m a b c d : ℕ) → m * 2 ^ a * 2 ^ b * 2 ^ c ≡ m * 2 ^ c * 2 ^ (a + b)
sorted m a b c d = mul_right_comm (m * 2 ^ a) (2 ^ b) (2 ^ c) ∙ ap (λ (x : ℕ). x * 2 ^ b) (mul_right_comm m (2 ^ a) (2 ^ c)) ∙ mul_assoc (m * 2 ^ c) (2 ^ a) (2 ^ b) ∙ ap (λ (x : ℕ). m * 2 ^ c * x) (sym (pow-add 2 a b))

joined : (d a b : ℕ) → d * 2 ^ a * 2 ^ b ≡ d * 2 ^ (a + b)
joined d a b = mul_assoc d (2 ^ a) (2 ^ b) ∙ ap (λ (x : ℕ). d * x) (sym (pow-add 2 a b))

parts : (m : ℕ) (e : ℤ) (d k : ℕ) → 0 < m → m < 2 ^ 53 → 2 ^ 52 ≤ d → d < 2 ^ 53 → m * up e * 2 ^ 1074 ≡ d * 2 ^ k * down e → Diff (e -ℤ pos (53 - size m)) k 1074 × (m * 2 ^ (53 - size m) ≡ d)
parts m (pos a) d k p b lo hi v =
    let t = 53 - size m in
    let r = filled m p b in
    let q = one_way (m * 2 ^ t) d (a + 1074) (k + t) r.0 r.1 lo hi (sym (sorted m a 1074 t 0) ∙ ap (λ (x : ℕ). x * 2 ^ t) (v ∙ mul-one (d * 2 ^ k)) ∙ joined d k t) in
    (moved (pos a -ℤ pos t) (a + 0) (0 + t) k 1074 (let e = q.0 in omega arith) (subtract (pos a) (pos t) a 0 t 0 (sym (add-zero a)) (sym (add-zero t))), q.1)
parts m (negsuc a) d k p b lo hi v =
    let t = 53 - size m in
    let r = filled m p b in
    let w : m * 2 ^ 1074 ≡ d * 2 ^ (k + suc a) = ap (λ (x : ℕ). x * 2 ^ 1074) (sym (mul-one m)) ∙ v ∙ joined d k (suc a) in
    let q = one_way (m * 2 ^ t) d 1074 (k + suc a + t) r.0 r.1 lo hi (mul_right_comm m (2 ^ t) (2 ^ 1074) ∙ ap (λ (x : ℕ). x * 2 ^ t) w ∙ joined d (k + suc a) t) in
    (moved (negsuc a -ℤ pos t) (0 + 0) (suc a + t) k 1074 (let e = q.0 in omega arith) (subtract (negsuc a) (pos t) 0 (suc a) t 0 (zero-add (suc a)) (sym (add-zero t))), q.1)

-- ---- L
none : (e : ℤ) (n c : ℕ) → 0 < n → zero * up e * c ≡ n * down e → ⊥
none e n c p h = lt_irrefl 0 (subst (λ (x : ℕ). 0 < x) (sym h ∙ ap (λ (x : ℕ). x * c) (zero-mul (up e)) ∙ zero-mul c) (mul-pos p (down_pos e)))

pub l_literal : (x : Float) (d k : ℕ) → T (fits binary64 x) → T (finite x) → units_of x ≡ d * 2 ^ k → 2 ^ 52 ≤ d → d < 2 ^ 53 → plain_log d k ≡ log_of x
unfolding log_of
l_literal (fin s zero e) d k p h u lo hi = absurd (none e (d * 2 ^ k) (2 ^ 1074) (mul-pos (le_trans (lit< tt) lo) (pow_pos k)) ((whole_units (fin s zero e) p h).1 ∙ ap (λ (x : ℕ). x * down e) u))
l_literal (fin s (suc m) e) d k p h u lo hi =
    let q = parts (suc m) e d k (omega arith) (small s m e p) lo hi ((whole_units (fin s (suc m) e) p h).1 ∙ ap (λ (x : ℕ). x * down e) u) in
    ap (λ (x : ℕ). plain_log x k) (sym q.1) ∙ at_literal (suc m * 2 ^ (53 - size (suc m))) k (e -ℤ pos (53 - size (suc m))) q.0
l_literal nan d k p h u lo hi = elim h [ ]
l_literal (inf _) d k p h u lo hi = elim h [ ]
