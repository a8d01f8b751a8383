-- A few bits of a number, in their place; and one computed test of all numbers below another. Assumes nothing.
use mathlib.Core.Path.{◌≡◌, sym, ap, ◌∙◌, subst}
use mathlib.Core.Bool.{Bool, true, ◌&&◌}
use Prim.Native.Nat.{ℕ, zero, suc, ◌+◌, ◌-◌, ◌*◌, ◌/◌, ◌%◌, ◌^◌, ◌≤◌, ◌<◌}
use native.Mathlib.Decide.{dec_le}
use native.Mathlib.Omega.{arith}
use lib.Dec.{T}
use lib.Pow.{field, mod-mod-pow, shr-shr, shl-shr}
use lib.Ieee.Fits.{and_l, and_r}

-- the n bits of b above its w lowest, in their place
abbrev pub cut : ℕ → ℕ → ℕ → ℕ
cut b w n = b / 2 ^ w % 2 ^ n * 2 ^ w

pub bit_of : (b w n j : ℕ) → j < n → b / 2 ^ (w + j) % 2 ≡ cut b w n / 2 ^ (w + j) % 2
bit_of b w n j h =
    let r = n - suc j in
    let e : n ≡ r + 1 + j = omega arith in
    let a = b / 2 ^ w in
    let x : b / 2 ^ (w + j) ≡ a / 2 ^ j = sym (shr-shr b w j) in
    let y : cut b w n / 2 ^ (w + j) ≡ a % 2 ^ n / 2 ^ j = sym (shr-shr (cut b w n) w j) ∙ ap (λ (z : ℕ). z / 2 ^ j) (shl-shr (a % 2 ^ n) w) in
    let z : a % 2 ^ n / 2 ^ j ≡ a / 2 ^ j % 2 ^ (r + 1) = ap (λ (z : ℕ). a % 2 ^ z / 2 ^ j) e ∙ field a (r + 1) j in
    ap (λ (z : ℕ). z % 2) x ∙ sym (ap (λ (z : ℕ). z % 2) (y ∙ z) ∙ mod-mod-pow (a / 2 ^ j) r 1)

-- the test at each number below n
unfoldable pub upto : (ℕ → Bool) → ℕ → Bool
upto f zero = true
upto f (suc n) = f n && upto f n

pub upto_at : (f : ℕ → Bool) (n k : ℕ) → T (upto f n) → k < n → T (f k)
unfolding upto
upto_at f zero k t h = absurd (omega arith)
upto_at f (suc n) k t h = go (dec_le n k) (upto_at f n k (and_r (f n) (upto f n) t))
  where
    go : Dec (n ≤ k) → (k < n → T (f k)) → T (f k)
    go (yes l) r = let e : n ≡ k = omega arith in subst (λ (x : ℕ). T (f x)) e (and_l (f n) (upto f n) t)
    go (no l) r = r (omega arith)
