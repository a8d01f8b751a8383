-- Whether n / d is at most a ratio, by numbers of 64 bits. Assumes nothing.
use mathlib.Core.Path.{◌≡◌, refl, sym, ap, ◌∙◌}
use mathlib.Core.Bool.{Bool, true, false, not}
use Prim.Native.Nat.{ℕ, ◌+◌, ◌-◌, ◌*◌, ◌/◌, ◌%◌, ◌^◌, ◌≤◌, ◌<◌}
use native.Mathlib.Nat.{le_trans, le_of_eq, le_of_lt, lt_of_le_of_lt, lt_of_lt_of_le, mul-le-mul, mul-le-mul_left, mul-le-mul_right}
use native.Mathlib.Nat.{mul_comm, mul_assoc, mul_right_comm, mul-one, le_of_mul-le-mul_right, le-div_iff_mul-le, mod-eq_of_lt}
use native.Mathlib.Omega.{arith}
use lib.Dec.{T, leb, leb→le, nleb→lt, lit<}
use lib.Pow.{pow-add, pow_pos, pow_mono}
use borrow.Author.Tests.{le-leb, lt-leb}

-- two numbers of 17 bits
pub product_fits : (a b : ℕ) → a ≤ 65536 → b ≤ 65536 → a * b < 2 ^ 64
product_fits a b f g = lt_of_le_of_lt (mul-le-mul f g) (lit< tt)

-- ---- m * d in two parts
pub upper_fits : (m d : ℕ) → m < 2 ^ 53 → d ≤ 65535 → m / 2 ^ 32 * d ≤ 2 ^ 21 * 65535
upper_fits m d f g = mul-le-mul (let l : m / 2 ^ 32 ≤ 2 ^ 21 = omega arith in l) g

pub lower_fits : (m d : ℕ) → d ≤ 65535 → m % 2 ^ 32 * d ≤ 2 ^ 32 * 65535
lower_fits m d g = mul-le-mul (let l : m % 2 ^ 32 ≤ 2 ^ 32 = omega arith in l) g

pub parts_sum : (m d : ℕ) → m / 2 ^ 32 * d + m % 2 ^ 32 * d / 2 ^ 32 ≡ m * d / 2 ^ 32
parts_sum m d = go (m / 2 ^ 32) (m % 2 ^ 32) (omega arith)
  where
    go : (h l : ℕ) → m ≡ h * 2 ^ 32 + l → h * d + l * d / 2 ^ 32 ≡ m * d / 2 ^ 32
    go h l e = let f : m * d ≡ h * d * 2 ^ 32 + l * d = ap (λ (z : ℕ). z * d) e ∙ split in omega arith
      where
        split : (h * 2 ^ 32 + l) * d ≡ h * d * 2 ^ 32 + l * d
        split = omega arith

-- ---- orders that are one
same_leb : (a b c d : ℕ) → (a ≤ b → c ≤ d) → (c ≤ d → a ≤ b) → leb a b ≡ leb c d
same_leb a b c d f g = go (leb a b) (leb c d) (leb→le a b) (nleb→lt a b) (leb→le c d) (nleb→lt c d)
  where
    go : (s t : Bool) → (T s → a ≤ b) → (T (not s) → b < a) → (T t → c ≤ d) → (T (not t) → d < c) → s ≡ t
    go true true h i j k = refl
    go false false h i j k = refl
    go true false h i j k = absurd (let l = f (h tt) in let m = k tt in omega arith)
    go false true h i j k = absurd (let l = g (j tt) in let m = i tt in omega arith)

-- ---- a ratio of 2 ^ 16 or more is above every fraction, and one below 2 ^ -16 is below
pub far_above : (n d m k : ℕ) → n ≤ 65535 → 1 ≤ d → 2 ^ 52 ≤ m → 1037 < k → 2 ^ 1074 * n < m * 2 ^ k * d
far_above n d m k a b c e =
    lt_of_le_of_lt (mul-le-mul_left (2 ^ 1074) a)
    (lt_of_lt_of_le (lit< tt) (le_trans (mul-le-mul c (pow_mono {i = 1038} {j = k} e))
    (le_trans (le_of_eq (sym (mul-one (m * 2 ^ k)))) (mul-le-mul_left (m * 2 ^ k) b))))

pub far_below : (n d m k : ℕ) → 1 ≤ n → d ≤ 65535 → m < 2 ^ 53 → k < 1006 → m * 2 ^ k * d < 2 ^ 1074 * n
far_below n d m k a b c e =
    let l : m ≤ 2 ^ 53 - 1 = omega arith in
    lt_of_le_of_lt (mul-le-mul (mul-le-mul l (pow_mono {i = k} {j = 1005} (omega arith))) b)
    (lt_of_lt_of_le (lit< tt) (le_trans (le_of_eq (sym (mul-one (2 ^ 1074)))) (mul-le-mul_left (2 ^ 1074) a)))

pub high_below : (n d m k : ℕ) → n ≤ 65535 → 1 ≤ d → 2 ^ 52 ≤ m → 1037 < k → true ≡ leb (2 ^ 1074 * n) (m * 2 ^ k * d)
high_below n d m k a b c e = sym (le-leb (2 ^ 1074 * n) (m * 2 ^ k * d) (le_of_lt (far_above n d m k a b c e)))

pub low_above : (n d m k : ℕ) → 1 ≤ n → d ≤ 65535 → m < 2 ^ 53 → k < 1006 → false ≡ leb (2 ^ 1074 * n) (m * 2 ^ k * d)
low_above n d m k a b c e = sym (lt-leb (2 ^ 1074 * n) (m * 2 ^ k * d) (far_below n d m k a b c e))

-- ---- between
shift_fits : (n t : ℕ) → n ≤ 65535 → t ≤ 36 → n * 2 ^ t < 2 ^ 64
shift_fits n t a b = lt_of_le_of_lt (mul-le-mul a (pow_mono {i = t} {j = 36} b)) (lit< tt)

units : (n t k : ℕ) → t + 32 + k ≡ 1074 → n * 2 ^ t * 2 ^ 32 * 2 ^ k ≡ 2 ^ 1074 * n
units n t k e =
    ap (λ (z : ℕ). z * 2 ^ k) (mul_assoc n (2 ^ t) (2 ^ 32) ∙ ap (λ (z : ℕ). n * z) (sym (pow-add 2 t 32)))
    ∙ mul_assoc n (2 ^ (t + 32)) (2 ^ k)
    ∙ ap (λ (z : ℕ). n * z) (sym (pow-add 2 (t + 32) k))
    ∙ ap (λ (z : ℕ). n * 2 ^ z) e
    ∙ mul_comm n (2 ^ 1074)

pub middle : (n d m k q : ℕ) → n ≤ 65535 → 1006 ≤ k → k ≤ 1037 → q ≡ m * d / 2 ^ 32 →
    leb (n * 2 ^ (1042 - k) % 2 ^ 64) q ≡ leb (2 ^ 1074 * n) (m * 2 ^ k * d)
middle n d m k q a b c e =
    let t = 1042 - k in
    let sum : t + 32 + k ≡ 1074 = omega arith in
    let u = units n t k sum in
    let v : m * d * 2 ^ k ≡ m * 2 ^ k * d = mul_right_comm m d (2 ^ k) in
    ap (λ (z : ℕ). leb z q) (mod-eq_of_lt {n = n * 2 ^ t} {m = 2 ^ 64} (shift_fits n t a (omega arith)))
    ∙ ap (λ (z : ℕ). leb (n * 2 ^ t) z) e
    ∙ same_leb (n * 2 ^ t) (m * d / 2 ^ 32) (2 ^ 1074 * n) (m * 2 ^ k * d)
    (λ h. le_trans (le_of_eq (sym u)) (le_trans (mul-le-mul_right (2 ^ k) ((le-div_iff_mul-le (pow_pos 32)).0 h)) (le_of_eq v)))
    (λ h. (le-div_iff_mul-le (pow_pos 32)).1
    (le_of_mul-le-mul_right {k = 2 ^ k} (le_trans (le_of_eq u) (le_trans h (le_of_eq (sym v)))) (pow_pos k)))
