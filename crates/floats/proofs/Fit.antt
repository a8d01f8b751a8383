-- What it says of a number that it fits an f64. Assumes nothing.
use Rattle.std.proofs.Common.{◌≡◌, ℕ, zero, suc, ◌+◌, ◌*◌, ◌%◌, ◌^◌, ◌<◌, ◌≤◌, Bool, true, ◌&&◌, T, eqb, ltb, leb, ℤ, pos, negsuc, sym, refl, ap, ◌∙◌, subst, lt_irrefl, mul_assoc, mul-lt-mul_of_pos_right, one-mul, mul-one, arith, eqb→eq, ltb→lt, leb→le, pow_pos, pow-add, eqb-true}
use native.Mathlib.Nat.{pow-succ'}
use lib.Ieee.Exact.{round_exact}
use lib.Ieee.Back.{whole_unique}
use lib.Ieee.{fin, binary64, up, down, round, fits}
use lib.Ieee.Fits.{and_l, and_r, round-fits}

-- of a number that is not 0: odd digits, fewer than 54, an exponent in range
pub fits_says : (s : Bool) (m : ℕ) (e : ℤ) → 0 < m → fits binary64 (fin s m e) ≡ true
    → (m % 2 ≡ 1) × (m < 2 ^ 53) × (down e ≤ 2 ^ 1074) × (m * up e < 2 ^ 1024 * down e)
unfolding fits
fits_says s zero e p h = absurd (lt_irrefl 0 p)
fits_says s (suc m) e p h =
    let t : T (fits binary64 (fin s (suc m) e)) = subst T (sym h) tt in
    let a = eqb (suc m % 2) 1 in
    let b = ltb (suc m) (2 ^ 53) in
    let c = leb (down e) (2 ^ 1074) in
    let d = ltb (suc m * up e) (2 ^ 1024 * down e) in (
      eqb→eq (suc m % 2) 1 (and_l a b (and_l (a && b) c (and_l (a && b && c) d t))),
      ltb→lt (suc m) (2 ^ 53) (and_r a b (and_l (a && b) c (and_l (a && b && c) d t))),
      leb→le (down e) (2 ^ 1074) (and_r (a && b) c (and_l (a && b && c) d t)),
      ltb→lt (suc m * up e) (2 ^ 1024 * down e) (and_r (a && b && c) d t),
    )

-- a whole number that fits is what its value rounds to
pub whole_round : (s : Bool) (m k : ℕ) → 0 < m → fits binary64 (fin s m (pos k)) ≡ true → round binary64 s (m * 2 ^ k) 1 ≡ fin s m (pos k)
whole_round s m k p h =
    let f = fits_says s m (pos k) p h in
    whole_unique binary64 (round binary64 s (m * 2 ^ k) 1) (fin s m (pos k)) s (m * 2 ^ k)
    (round-fits binary64 s (m * 2 ^ k) 1) (subst T (sym h) tt)
    (round_exact binary64 s (m * 2 ^ k) 1 m (k + 1074) (pow_pos 0) f.1 (big f.3) (rw (pow-add, mul-one, ← mul_assoc)))
    (refl, refl)
  where
    big : m * 2 ^ k < 2 ^ 1024 * 1 → m * 2 ^ (k + 1074) < 2 ^ (1074 + 1024)
    big h = subst (λ (x : ℕ). x < 2 ^ 2098) (mul_assoc m (2 ^ k) (2 ^ 1074) ∙ ap (λ (x : ℕ). m * x) (sym (pow-add 2 k 1074))) (mul-lt-mul_of_pos_right h (pow_pos 1074))

-- the exponent of a zero that fits
pub zero_exp : (s : Bool) (e : ℤ) → fits binary64 (fin s 0 e) ≡ true → e ≡ pos 0
unfolding fits
zero_exp s e h = flat e (eqb-true (up e * down e) 1 h)
  where
    two_up : (p : ℕ) → 0 < p → 2 * p ≡ 1 → ⊥
    two_up p h e = omega arith

    flat : (e : ℤ) → up e * down e ≡ 1 → e ≡ pos 0
    flat (pos zero) h = refl
    flat (pos (suc k)) h = absurd (two_up (2 ^ k) (pow_pos k) (sym (pow-succ' 2 k) ∙ sym (mul-one (2 ^ suc k)) ∙ h))
    flat (negsuc k) h = absurd (two_up (2 ^ k) (pow_pos k) (sym (pow-succ' 2 k) ∙ sym (one-mul (2 ^ suc k)) ∙ h))
