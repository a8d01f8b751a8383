-- The odd part from a number's trailing zeros: what halving while it is even comes to. Assumes nothing.
use mathlib.Core.Path.{◌≡◌, refl, sym, ap, ◌∙◌}
use mathlib.Core.Bool.{Bool}
use Prim.Native.Nat.{ℕ, zero, suc, ◌*◌, ◌/◌, ◌%◌, ◌^◌, ◌≤◌, ◌<◌}
use native.Mathlib.Nat.{pow-succ', div-div-eq-div-mul, div-one, mod-eq_of_lt, one-mul}
use native.Mathlib.Omega.{arith}
use lib.Count.{count_trailing_zeros, under}
use lib.Dec.{eqb}
use lib.Pow.{pow_mono, pow_pos}
use borrow.Author.Tests.{ne_eqb}
use Rattle.base.specs.Said.{pick}
use Rattle.math.specs.OddPart.{halved_while_even}

-- a number above 0 has fewer trailing zeros than digits
pub trailing_lt : (k n : ℕ) → 0 < n → n < 2 ^ k → count_trailing_zeros k n < k
unfolding count_trailing_zeros
trailing_lt zero n p h = absurd (omega arith)
trailing_lt (suc k) n p h = go (n % 2) refl (λ q. trailing_lt k (n / 2) q (omega (arith, pow-succ' 2 k)))
  where
    go : (r : ℕ) → n % 2 ≡ r → (0 < n / 2 → count_trailing_zeros k (n / 2) < k) → under r (count_trailing_zeros k (n / 2)) < suc k
    go zero e f = let l = f (omega arith) in omega arith
    go (suc r) e f = omega arith

-- over 2 to its trailing zeros it is what halving comes to
shifted_is : (k n : ℕ) → 0 < n → n < 2 ^ k → n / 2 ^ count_trailing_zeros k n ≡ halved_while_even k n
unfolding count_trailing_zeros halved_while_even
shifted_is zero n p h = absurd (omega arith)
shifted_is (suc k) n p h = go (n % 2) refl (λ q. shifted_is k (n / 2) q (omega (arith, pow-succ' 2 k)))
  where
    go : (r : ℕ) → n % 2 ≡ r → (0 < n / 2 → n / 2 / 2 ^ count_trailing_zeros k (n / 2) ≡ halved_while_even k (n / 2))
        → n / 2 ^ under r (count_trailing_zeros k (n / 2)) ≡ pick (eqb r 0) (halved_while_even k (n / 2)) n
    go zero e f =
        let t = count_trailing_zeros k (n / 2) in
        ap (λ (x : ℕ). n / x) (pow-succ' 2 t) ∙ sym (div-div-eq-div-mul n 2 (2 ^ t)) ∙ f (omega arith)
    go (suc r) e f = div-one n ∙ sym (ap (λ (b : Bool). pick b (halved_while_even k (n / 2)) n) (ne_eqb (suc r) 0 (omega arith)))

module _ (n : ℕ) (some : 0 < n) (small : n < 2 ^ 16) where
  -- the power of two that the code divides by fits 16 bits
  power_fits : 1 * 2 ^ count_trailing_zeros 16 n % 2 ^ 16 ≡ 2 ^ count_trailing_zeros 16 n
  power_fits =
      let t = count_trailing_zeros 16 n in
      let l : 2 ^ t ≤ 2 ^ 15 = pow_mono {i = t} {j = 15} (omega (arith, trailing_lt 16 n some small)) in
      ap (λ (x : ℕ). x % 2 ^ 16) (one-mul (2 ^ t)) ∙ mod-eq_of_lt {n = 2 ^ t} {m = 2 ^ 16} (omega arith)

  -- and is above 0
  pub divisor_some : 0 < 1 * 2 ^ count_trailing_zeros 16 n % 2 ^ 16
  divisor_some = rw power_fits (pow_pos (count_trailing_zeros 16 n))

  pub divided_is : n / (1 * 2 ^ count_trailing_zeros 16 n % 2 ^ 16) ≡ halved_while_even 16 n
  divided_is = ap (λ (x : ℕ). n / x) power_fits ∙ shifted_is 16 n some small
