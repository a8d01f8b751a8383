-- The nearest whole number to m * 10^d / 2^t, from parts that 64 bits hold. Assumes nothing.
use mathlib.Core.Path.{◌≡◌, refl, sym, ap, ◌∙◌}
use mathlib.Core.Bool.{Bool}
use mathlib.Core.Logic.{◌⊎◌, inl, inr}
use Prim.Native.Nat.{ℕ, ◌+◌, ◌-◌, ◌*◌, ◌/◌, ◌%◌, ◌^◌, ◌≤◌, ◌<◌, compare, Ordering}
use native.Mathlib.Nat.{add-mul, add_assoc, mul_assoc, mul_comm, mul_right_comm, mul-le-mul, le_trans, eq-zero-or-pos, div-add-mod', mod-lt, div-mul-le_self, mod-eq_of_lt, lt_of_lt_of_le, mul-add-div_right, mul-add-mod_self_right, mul-lt-mul_of_pos_right, le_of_eq}
use native.Mathlib.Omega.{arith}
use lib.Dec.{eqb, lit<}
use lib.Pow.{pow_pos, pow-add}
use lib.Arith.{digits_lt}
use lib.Ieee.{nearest}
use lib.Ieee.Nearest.{closest, closest_same, closest_mono}
use borrow.Author.Tests.{eq-eqb, ne_eqb}
use Rattle.base.specs.Said.{pick}
use Rattle.rounding.specs.Nearest.{rounded_half}
use Rattle.rounding.proofs.Nearest.{half_closest}
use Rattle.fixed.specs.Cuts.{cut_at}

-- m times ten, from its two parts
pub split_product : (m ten : ℕ) → m * ten ≡ (m / 2 ^ 31 * ten + m % 2 ^ 31 * ten / 2 ^ 31) * 2 ^ 31 + m % 2 ^ 31 * ten % 2 ^ 31
split_product m ten =
    let a = m / 2 ^ 31 in
    let low = m % 2 ^ 31 * ten in
    let e : m * ten ≡ a * 2 ^ 31 * ten + low = ap (λ (x : ℕ). x * ten) (sym (div-add-mod' m (2 ^ 31))) ∙ add-mul (a * 2 ^ 31) (m % 2 ^ 31) ten in
    omega (arith, e, mul_right_comm a (2 ^ 31) ten)

same_zero : (c l : ℕ) → eqb (c * 2 ^ 31 + l) 0 ≡ eqb (c + l) 0
same_zero c l = go (eq-zero-or-pos (c + l))
  where
    go : (c + l ≡ 0) ⊎ (0 < c + l) → eqb (c * 2 ^ 31 + l) 0 ≡ eqb (c + l) 0
    go (inl z) = eq-eqb (c * 2 ^ 31 + l) 0 (omega arith) ∙ sym (eq-eqb (c + l) 0 z)
    go (inr p) = ne_eqb (c * 2 ^ 31 + l) 0 (λ h. omega arith) ∙ sym (ne_eqb (c + l) 0 (λ h. omega arith))

-- only whether the rest is zero counts, so its two parts may be added
pub scaled_is : (a p l u t : ℕ) → t ≡ u + 32 → a ≡ p * 2 ^ 31 + l → l < 2 ^ 31 → closest a (2 ^ t) ≡ rounded_half (p / 2 ^ u) (p % 2 ^ u + l)
scaled_is a p l u t et ea hl =
    let q = p / 2 ^ u in
    let c = p % 2 ^ u in
    let E = 2 ^ u * 2 ^ 31 in
    let r = c * 2 ^ 31 + l in
    let b : 2 ^ t ≡ E * 2 = ap (λ (x : ℕ). 2 ^ x) et ∙ pow-add 2 u 32 ∙ sym (mul_assoc (2 ^ u) (2 ^ 31) 2) in
    let s : a ≡ q * E + r =
    ea ∙ ap (λ (x : ℕ). x * 2 ^ 31 + l) (sym (div-add-mod' p (2 ^ u)))
    ∙ ap (λ (x : ℕ). x + l) (add-mul (q * 2 ^ u) c (2 ^ 31)) ∙ add_assoc (q * 2 ^ u * 2 ^ 31) (c * 2 ^ 31) l
    ∙ ap (λ (x : ℕ). x + r) (mul_assoc q (2 ^ u) (2 ^ 31)) in
    let small : r < E = digits_lt (mod-lt p (pow_pos u)) hl in
    ap (λ (x : ℕ). closest a x) b
    ∙ ap (λ (x : ℕ). closest x (E * 2)) s
    ∙ half_closest q E r small
    ∙ ap (λ (z : Bool). pick (eqb (q % 2) 0) (q / 2) (pick z (q / 2 + q / 2 % 2) (q / 2 + 1))) (same_zero c l)

-- the machine's shifts
pub cut : (p u : ℕ) → p < 2 ^ 64 → p / 2 ^ u * 2 ^ u % 2 ^ 64 ≡ p / 2 ^ u * 2 ^ u
cut p u h = mod-eq_of_lt {n = p / 2 ^ u * 2 ^ u} {m = 2 ^ 64} (omega (arith, div-mul-le_self p (2 ^ u)))

pub rest_is : (p u : ℕ) → p - p / 2 ^ u * 2 ^ u ≡ p % 2 ^ u
rest_is p u = omega (arith, div-add-mod' p (2 ^ u))

-- the same fraction at another power of two
pub closest_shift : (n c k t : ℕ) → closest (n * 2 ^ k * c) (2 ^ (k + t)) ≡ closest (n * c) (2 ^ t)
closest_shift n c k t =
    closest_same (n * 2 ^ k * c) (2 ^ (k + t)) (n * c) (2 ^ t) (pow_pos (k + t)) (pow_pos t)
    (ap (λ (x : ℕ). x * 2 ^ t) (mul_right_comm n (2 ^ k) c) ∙ mul_assoc (n * c) (2 ^ k) (2 ^ t) ∙ ap (λ (x : ℕ). n * c * x) (sym (pow-add 2 k t)))

-- below 2^(t + 1) a number of 2^t stays below 2^33 as one of 2^32
pub shifted_small : (m t : ℕ) → t < 32 → m < 2 ^ (t + 1) → m * 2 ^ (32 - t) < 2 ^ 33
shifted_small m t h g =
    let z : t + 1 + (32 - t) ≡ 33 = omega arith in
    lt_of_lt_of_le (mul-lt-mul_of_pos_right g (pow_pos (32 - t))) (le_of_eq (sym (pow-add 2 (t + 1) (32 - t)) ∙ ap (λ (x : ℕ). 2 ^ x) z))

-- an even whole number takes no part in the rounding
nearest_even : (a w : ℕ) (o : Ordering) → nearest (a * 2 + w) o ≡ a * 2 + nearest w o
nearest_even a w Ordering.lt = refl
nearest_even a w Ordering.eq = omega arith
nearest_even a w Ordering.gt = omega arith

closest_even : (a b c : ℕ) → 0 < b → closest (a * 2 * b + c) b ≡ a * 2 + closest c b
closest_even a b c h =
    ap (λ (x : ℕ). nearest x (compare ((a * 2 * b + c) % b * 2) b)) (mul-add-div_right h (a * 2) c)
    ∙ ap (λ (x : ℕ). nearest (a * 2 + c / b) (compare (x * 2) b)) (mul-add-mod_self_right (a * 2) b c)
    ∙ nearest_even a (c / b) (compare (c % b * 2) b)

-- the even part apart, and what is left
apart : (m t c : ℕ) → closest (m * c) (2 ^ t) ≡ m / 2 ^ (t + 1) * 2 * c + closest (m % 2 ^ (t + 1) * c) (2 ^ t)
apart m t c =
    let h = m / 2 ^ (t + 1) in
    let r = m % 2 ^ (t + 1) in
    let e : m * c ≡ h * c * 2 * 2 ^ t + r * c =
    ap (λ (x : ℕ). x * c) (sym (div-add-mod' m (2 ^ (t + 1)))) ∙ add-mul (h * 2 ^ (t + 1)) r c
    ∙ ap (λ (x : ℕ). x + r * c) (mul_right_comm h (2 ^ (t + 1)) c ∙ ap (λ (x : ℕ). h * c * x) (pow-add 2 t 1 ∙ mul_comm (2 ^ t) 2) ∙ sym (mul_assoc (h * c) 2 (2 ^ t))) in
    ap (λ (x : ℕ). closest x (2 ^ t)) e ∙ closest_even (h * c) (2 ^ t) (r * c) (pow_pos t)
    ∙ ap (λ (x : ℕ). x + closest (r * c) (2 ^ t)) (mul_right_comm h c 2)

-- the number cut at 10^d, from the even part and what is left
pub fixed_is : (m t d h r p ten : ℕ) → h ≡ m / 2 ^ (t + 1) → r ≡ m % 2 ^ (t + 1) → p ≡ closest (r * 10 ^ d) (2 ^ t) → ten ≡ 10 ^ d → 0 < 10 ^ d →
    record { whole = h * 2 + p / ten; part = p % ten } ≡ cut_at d (closest (m * 10 ^ d) (2 ^ t))
fixed_is m t d h r p ten a b c e pos =
    let n : closest (m * 10 ^ d) (2 ^ t) ≡ h * 2 * 10 ^ d + p = apart m t (10 ^ d) ∙ rw (c, b, a) in
    let w : closest (m * 10 ^ d) (2 ^ t) / 10 ^ d ≡ h * 2 + p / ten = ap (λ (x : ℕ). x / 10 ^ d) n ∙ mul-add-div_right pos (h * 2) p ∙ ap (λ (x : ℕ). h * 2 + p / x) (sym e) in
    let l : closest (m * 10 ^ d) (2 ^ t) % 10 ^ d ≡ p % ten = ap (λ (x : ℕ). x % 10 ^ d) n ∙ mul-add-mod_self_right (h * 2) (10 ^ d) p ∙ ap (λ (x : ℕ). p % x) (sym e) in
    λ i. record { whole = sym w i; part = sym l i }

-- what is left is at most two of 10^d
pub left_small : (r t c : ℕ) → r < 2 ^ (t + 1) → c ≤ 10 ^ 4 → closest (r * c) (2 ^ t) ≤ 2 * 10 ^ 4
left_small r t c h g =
    let z : r * c ≤ 2 * 10 ^ 4 * 2 ^ t = omega (arith, mul-le-mul {n₁ = r} {n₂ = 2 ^ (t + 1)} (omega (arith, h)) g, pow-add 2 t 1) in
    le_trans (closest_mono (r * c) (2 ^ t) (2 * 10 ^ 4) 1 (pow_pos t) (lit< tt) (omega (arith, z))) (omega arith)

-- digits * 2^exponent units of 2^-1074, as a fraction
pub units_low : (n k c : ℕ) → k ≤ 1074 → closest (n * c) (2 ^ (1074 - k)) ≡ closest (n * 2 ^ k * c) (2 ^ 1074)
units_low n k c h =
    let z : k + (1074 - k) ≡ 1074 = omega arith in
    sym (closest_shift n c k (1074 - k)) ∙ ap (λ (x : ℕ). closest (n * 2 ^ k * c) (2 ^ x)) z

pub units_high : (n k c : ℕ) → k ≡ 1075 → closest (n * 2 * c) (2 ^ 0) ≡ closest (n * 2 ^ k * c) (2 ^ 1074)
units_high n k c h =
    sym (closest_shift (n * 2) c 1074 0)
    ∙ ap (λ (x : ℕ). closest (x * c) (2 ^ 1074)) (mul_assoc n 2 (2 ^ 1074) ∙ ap (λ (x : ℕ). n * x) (sym (pow-add 2 1 1074) ∙ ap (λ (x : ℕ). 2 ^ x) (sym h)))
