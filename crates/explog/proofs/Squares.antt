-- L's turns against the powers of y: 2 ^ B * y' * M ^ n is at most y ^ n * M, and little less. Assumes nothing.
use Rattle.std.proofs.Common.{◌≡◌, ℕ, zero, suc, ◌+◌, ◌*◌, ◌/◌, ◌^◌, ◌<◌, ◌≤◌, Bool, true, false, not, T, leb, refl, subst, lt_of_le_of_lt, le_of_lt, mul-le-mul_right, mod-lt, mul-le-mul, lt_of_mul-lt-mul_right, mul-le-mul_left, mul-lt-mul_of_pos_right, pow-suc, div-add-mod', le_of_mul-le-mul_right, arith, lit<, leb→le, pow-add}
use native.Mathlib.Nat.{mul-lt-mul_of_pos_left, pow-zero}
use lib.Dec.{nleb→lt}
use Rattle.base.specs.Said.{pick}
use Rattle.powers.specs.Log.{y_of, b_of}
use Rattle.log_roots.proofs.Ratio.{two_pow}
use Rattle.log_roots.proofs.Halving.{pow_one}

-- ---- a turn, on any numbers: X is 2 ^ B, Y is y0 ^ n, Z is M ^ n, w is 2 or 1
square_low : (M X Y Z y w q : ℕ) → 0 < M → X * y * Z ≤ Y * M → M * (w * q) ≤ y * y → X * X * w * q * (Z * Z) ≤ Y * Y * M
square_low M X Y Z y w q pos h g =
    le_of_mul-le-mul_right {k = M} (omega (arith, mul-le-mul h h, mul-le-mul_left (X * X * (Z * Z)) g)) pos

square_high : (D X Y Z y w q : ℕ) → 0 < D → Y * D ≤ X * y * Z → y * y ≤ D * (w * q) → Y * Y * D ≤ X * X * w * q * (Z * Z)
square_high D X Y Z y w q pos h g =
    le_of_mul-le-mul_right {k = D} (omega (arith, mul-le-mul h h, mul-le-mul_left (X * X * (Z * Z)) g)) pos

-- y0 is where it began
pub record Turn (M n B y y0 : ℕ) : Type 0 where
  pub above : M ≤ y
  pub below : y < 2 * M
  pub low : 2 ^ B * y * M ^ n ≤ y0 ^ n * M
  pub high : y0 ^ n * (M + 1) ≤ 2 ^ B * y * (M + 1) ^ n

-- s is y * y / M, and q is s / w, both rounded down; w is 2 ^ d
next : (M n B y y0 s q d w : ℕ) → 0 < M → w ≡ 2 ^ d → s * M ≤ y * y → y * y < s * M + M → w * q ≤ s → s < w * q + w → M ≤ q → q < 2 * M
    → Turn M n B y y0 → Turn M (n + n) (B + B + d) q y0
next M n B y y0 s q d w pos e s-low s-high q-low q-high q-above q-below h =
    let l : M * (w * q) ≤ y * y = omega (arith, mul-le-mul_left M q-low) in
    let f : y * y ≤ (M + 1) * (w * q) = omega (arith, mul-le-mul_left M q-high, mul-le-mul_left w q-above) in
    record {
      above = q-above;
      below = q-below;
      low = rw (pow-add 2 (B + B) d, pow-add 2 B B, pow-add M n n, pow-add y0 n n, ← e) (square_low M (2 ^ B) (y0 ^ n) (M ^ n) y w q pos h.low l);
      high = rw (pow-add 2 (B + B) d, pow-add 2 B B, pow-add (M + 1) n n, pow-add y0 n n, ← e) (square_high (M + 1) (2 ^ B) (y0 ^ n) ((M + 1) ^ n) y w q (omega arith) h.high f);
    }

begin : (M y : ℕ) → M ≤ y → y < 2 * M → Turn M 1 0 y y
begin M y a b = record { above = a; below = b; low = rw (pow_one M, pow_one y) (omega arith); high = rw (pow_one (M + 1), pow_one y) (omega arith) }

-- the next digit and the next y, over a test t of s ≥ 2 * M
turn : (M n B y y0 s : ℕ) → 0 < M → s * M ≤ y * y → y * y < s * M + M → (t : Bool) → (T t → 2 * M ≤ s) → (T (not t) → s < 2 * M)
    → Turn M n B y y0 → Turn M (n + n) (B * 2 + pick t 1 0) (pick t (s / 2) s) y0
turn M n B y y0 s pos s-low s-high t f g h = subst (λ (x : ℕ). Turn M (n + n) (x + pick t 1 0) (pick t (s / 2) s) y0) two (go t f g)
  where
    two : B + B ≡ B * 2
    two = omega arith

    least : M ≤ s
    least = let a : M < s + 1 = lt_of_mul-lt-mul_right M (lt_of_le_of_lt (mul-le-mul h.above h.above) (omega arith)) in omega arith

    most : s < 4 * M
    most =
        let a : y * y ≤ y * (2 * M) = mul-le-mul_left y (le_of_lt h.below) in
        let b : y * (2 * M) < 2 * M * (2 * M) = mul-lt-mul_of_pos_right h.below (omega arith) in
        lt_of_mul-lt-mul_right M (omega arith)

    go : (t : Bool) → (T t → 2 * M ≤ s) → (T (not t) → s < 2 * M) → Turn M (n + n) (B + B + pick t 1 0) (pick t (s / 2) s) y0
    go true f g = let k = f tt in let l = least in let m = most in
        next M n B y y0 s (s / 2) 1 2 pos refl s-low s-high (omega arith) (omega arith) (omega arith) (omega arith) h
    go false f g = let k = g tt in let l = least in
        next M n B y y0 s s 0 1 pos refl s-low s-high (omega arith) (omega arith) (omega arith) (omega arith) h

-- ---- turns one after another: y and B by the rule of L, with M for 2 ^ 62
abbrev pub Turned : ℕ → (ℕ → ℕ) → (ℕ → ℕ) → Type 0
Turned M y B = (k : ℕ) → (let s = y k * y k / M in
    (y (suc k) ≡ pick (leb (2 * M) s) (s / 2) s) × (B (suc k) ≡ B k * 2 + pick (leb (2 * M) s) 1 0))

pub turned : (M y0 : ℕ) (y B : ℕ → ℕ) → 0 < M → M ≤ y0 → y0 < 2 * M → y 0 ≡ y0 → B 0 ≡ 0 → Turned M y B
    → (k : ℕ) → Turn M (2 ^ k) (B k) (y k) y0
turned M y0 y B some a b is none rule zero = rw (is, none) (begin M y0 a b)
turned M y0 y B some a b is none rule (suc k) =
    let s = y k * y k / M in
    let e = div-add-mod' (y k * y k) M in
    let m = mod-lt (y k * y k) {m = M} some in
    rw (two_pow k, (rule k).0, (rule k).1) (turn M (2 ^ k) (B k) (y k) y0 s some (omega arith) (omega arith)
    (leb (2 * M) s) (leb→le (2 * M) s) (nleb→lt (2 * M) s) (turned M y0 y B some a b is none rule k))

-- L's own
pub turns : (y0 : ℕ) → 2 ^ 62 ≤ y0 → y0 < 2 ^ 63 → (k : ℕ) → Turn (2 ^ 62) (2 ^ k) (b_of y0 k) (y_of y0 k) y0
unfolding b_of y_of
turns y0 a b = turned (2 ^ 62) y0 (y_of y0) (b_of y0) (lit< tt) a b refl refl (λ k. (refl, refl))

-- ---- the end
-- (1 + 1 / M) ^ n is at most (M + 1) / (M + 1 - n)
pub bernoulli : (M n c : ℕ) → n + c ≡ M + 1 → (M + 1) ^ n * c ≤ M ^ n * (M + 1)
bernoulli M zero c e = rw (pow-zero (M + 1), pow-zero M) (omega arith)
bernoulli M (suc n) c e =
    let h = bernoulli M n (c + 1) (omega arith) in
    let l : c ≤ M = omega arith in
    rw (pow-suc (M + 1) n, pow-suc M n) (omega (arith, mul-le-mul_right M h, mul-le-mul_left ((M + 1) ^ n) l))

pub end_low : (M X Y Z y : ℕ) → 0 < M → M ≤ y → X * y * Z ≤ Y * M → X * Z ≤ Y
end_low M X Y Z y pos a h = le_of_mul-le-mul_right {k = M} (omega (arith, mul-le-mul_left (X * Z) a)) pos

-- Y is y0 ^ n, X is 2 ^ B, Z is M ^ n, A is (M + 1) ^ n
pub end_high : (M X Y Z A y c : ℕ) → 0 < X * Z → y < 2 * M → Y * (M + 1) ≤ X * y * A → A * c ≤ Z * (M + 1) → Y * c < X * Z * (2 * M)
end_high M X Y Z A y c pos below h k =
    let one : Y * c ≤ X * y * Z = le_of_mul-le-mul_right {k = M + 1} (omega (arith, mul-le-mul_right c h, mul-le-mul_left (X * y) k)) (omega arith) in
    let two : X * Z * y < X * Z * (2 * M) = mul-lt-mul_of_pos_left below pos in
    omega arith
