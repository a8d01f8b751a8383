-- A PITCH OVER A POWER OF TWO, TIMES IT AGAIN, is the pitch itself: neither step rounds. Assumes nothing.
use mathlib.Core.Path.{◌≡◌, refl, sym, ap, ◌∙◌, subst}
use mathlib.Core.Bool.{Bool, true, false}
use Prim.Native.Nat.{ℕ, suc, ◌+◌, ◌-◌, ◌*◌, ◌^◌, ◌≤◌, ◌<◌}
use native.Mathlib.Nat.{le_trans, le_of_eq, lt_of_lt_of_le, lt_of_le_of_lt, lt_of_not-le, lt_irrefl, mul_assoc, mul_comm, mul_left_comm}
use native.Mathlib.Nat.{mul_right_comm, mul-pos, one-mul, mul-one, mul-le-mul_left, mul-le-mul_right, le_of_mul-le-mul_right}
use native.Mathlib.Decide.{dec_le}
use native.Mathlib.Omega.{arith}
use lib.Dec.{T, lit<, lit≤}
use lib.IntN.{ℤ, pos, negsuc}
use lib.Pow.{pow-add, pow_pos, pow_mono, pow-lt, shl_lt}
use lib.Signed.{mag}
use lib.Ieee.{Float, fin, binary64, up, down, mul, div, fits}
use lib.Ieee.Exact.{HasValue, round_exact}
use lib.Ieee.Fits.{up_pos, down_pos}
use lib.Ieee.Positive.{positive_of_value, mul_at}
use Rattle.floats.specs.Floats.{two_to}
use Rattle.floats.specs.Ranges.{in_reach}
use Rattle.floats.proofs.Between.{over_within, within_more, within_reach}
use Rattle.floats.proofs.Decode.{Located, located}
use Rattle.floats.proofs.Ranges.{Within, within_fin}
use Rattle.floats.proofs.Value.{same_value, round_again}

-- x / d of q digits and j zeros, in units of 2 ^ -1074, lies in 2 ^ -10..2 ^ 20: how many zeros it has
module _ (x d q j : ℕ) (some : 0 < d) (same : x * 2 ^ 1074 ≡ q * 2 ^ j * d) where
  zeros : q < 2 ^ 53 → d ≤ x * 2 ^ 10 → 1012 ≤ j
  zeros small low = go (dec_le 1012 j)
    where
      at_least : 2 ^ 1064 * d ≤ q * 2 ^ j * d
      at_least =
          le_trans (mul-le-mul_left (2 ^ 1064) low)
          (le_of_eq (mul_left_comm (2 ^ 1064) x (2 ^ 10) ∙ ap (λ (z : ℕ). x * z) (sym (pow-add 2 1064 10)) ∙ same))

      go : Dec (1012 ≤ j) → 1012 ≤ j
      go (yes h) = h
      go (no h) =
          let few : 53 + j ≤ 1064 = omega (arith, lt_of_not-le h) in
          let most : 2 ^ 1064 ≤ q * 2 ^ j = le_of_mul-le-mul_right {k = d} at_least some in
          absurd (lt_irrefl (2 ^ 1064) (lt_of_le_of_lt most (lt_of_lt_of_le (shl_lt 53 j small) (pow_mono few))))

  at_most : x ≤ 2 ^ 20 * d → q * 2 ^ j ≤ 2 ^ 1094
  at_most high =
      le_of_mul-le-mul_right {k = d}
      (le_trans (le_of_eq (sym same)) (le_trans (mul-le-mul_right (2 ^ 1074) high)
      (le_of_eq (mul_right_comm (2 ^ 20) d (2 ^ 1074) ∙ ap (λ (z : ℕ). z * d) (sym (pow-add 2 20 1074))))))
      some

module _ (m : ℕ) (e : ℤ) (some : 0 < m) (low : down e ≤ m * up e * 2 ^ 10) (high : m * up e ≤ 2 ^ 20 * down e) {s : Bool} {q j : ℕ}
    (l : Located (fin false m e) s q j) where
  units_are : m * up e * 2 ^ 1074 ≡ q * 2 ^ j * down e
  units_are = (same_value (fin false m e) false s (m * up e) (down e) (q * 2 ^ j) (2 ^ 1074) (refl, refl) l.value).0

  -- the quotient has its digits, with other zeros
  quotient_value : (z : ℤ) → mag z < 880 →
      HasValue (div binary64 (fin false m e) (two_to z)) false (m * up e * down z) (1 * up z * down e)
  unfolding div
  quotient_value (pos k) h =
      let few : k ≤ j = omega (arith, zeros (m * up e) (down e) q j (down_pos e) units_are l.small low) in
      let back : j - k + k ≡ j = omega arith in
      let powers : 2 ^ j ≡ 2 ^ (j - k) * 2 ^ k = ap (λ (z : ℕ). 2 ^ z) (sym back) ∙ pow-add 2 (j - k) k in
      let less : 53 + (j - k) ≤ 2098 = omega (arith, l.under) in
      round_exact binary64 false (m * up e * 1) (1 * 2 ^ k * down e) q (j - k)
      (mul-pos (mul-pos (lit< tt) (pow_pos k)) (down_pos e)) l.small
      (lt_of_lt_of_le (shl_lt 53 (j - k) l.small) (pow_mono less))
      (ap (λ (z : ℕ). z * 2 ^ 1074) (mul-one (m * up e)) ∙ units_are
      ∙ rw (powers, one-mul (2 ^ k)) (simp (mul_assoc, mul_comm, mul_left_comm)))
  quotient_value (negsuc k) h =
      let less : 1094 + suc k < 2098 = omega arith in
      let powers : q * 2 ^ (j + suc k) ≡ q * 2 ^ j * 2 ^ suc k =
      ap (λ (z : ℕ). q * z) (pow-add 2 j (suc k)) ∙ sym (mul_assoc q (2 ^ j) (2 ^ suc k)) in
      let top : q * 2 ^ (j + suc k) ≤ 2 ^ (1094 + suc k) =
      le_trans (le_of_eq powers) (le_trans (mul-le-mul_right (2 ^ suc k) (at_most (m * up e) (down e) q j (down_pos e) units_are high))
      (le_of_eq (sym (pow-add 2 1094 (suc k))))) in
      round_exact binary64 false (m * up e * 2 ^ suc k) (1 * down e) q (j + suc k) (mul-pos (lit< tt) (down_pos e)) l.small
      (lt_of_le_of_lt top (pow-lt less))
      (mul_right_comm (m * up e) (2 ^ suc k) (2 ^ 1074) ∙ ap (λ (z : ℕ). z * 2 ^ suc k) units_are
      ∙ rw (powers, one-mul (down e)) (mul_right_comm (q * 2 ^ j) (down e) (2 ^ suc k)))

  -- so the product has the value that was divided
  there_and_back : T (fits binary64 (fin false m e)) → (z : ℤ) → mag z < 880 →
      mul binary64 (div binary64 (fin false m e) (two_to z)) (two_to z) ≡ fin false m e
  there_and_back f z h =
      let x = m * up e in
      let v = quotient_value z h in
      let a : 0 < x * down z = mul-pos (mul-pos some (up_pos e)) (down_pos z) in
      let c : 0 < 1 * up z * down e = mul-pos (mul-pos (lit< tt) (up_pos z)) (down_pos e) in
      mul_at binary64 (div binary64 (fin false m e) (two_to z)) (two_to z) (x * down z) (1 * up z * down e) (1 * up z) (down z)
      (positive_of_value (div binary64 (fin false m e) (two_to z)) (x * down z) (1 * up z * down e) v a) tt c (down_pos z) v (refl, refl)
      ∙ round_again (fin false m e) false (x * down z * (1 * up z)) (1 * up z * down e * down z) (mul-pos c (down_pos z)) f
      (refl, cross x (down z) (1 * up z) (down e))
    where
      cross : (x a b d : ℕ) → x * (b * d * a) ≡ x * a * b * d
      cross x a b d = simp (mul_assoc, mul_comm, mul_left_comm)

-- ---- a usable pitch
power_within : (z : ℤ) → mag z < 880 → Within 880 880 (two_to z)
power_within (pos k) h =
    let few : k ≤ 880 = omega arith in
    within_fin 1 (pos k) (lit< tt) (mul-pos (mul-pos (lit< tt) (pow_pos k)) (pow_pos 880))
    (le_trans (le_of_eq (one-mul (2 ^ k))) (pow_mono few))
power_within (negsuc k) h = within_fin 1 (negsuc k) (lit< tt) (pow_mono h) (mul-pos (pow_pos 880) (pow_pos (suc k)))

module _ (z : ℤ) (few : mag z < 880) where
  pub over_reach : (p : Float) → Within 10 20 p → in_reach (div binary64 p (two_to z)) ≡ true
  over_reach p w = within_reach (within_more (lit≤ tt) (lit≤ tt) (over_within (lit≤ tt) (lit≤ tt) w (power_within z few)))

  pub over_and_times : (p : Float) → Within 10 20 p → fits binary64 p ≡ true → mul binary64 (div binary64 p (two_to z)) (two_to z) ≡ p
  over_and_times p (within_fin m e some low high) f =
      let t : T (fits binary64 (fin false m e)) = subst T (sym f) tt in
      there_and_back m e some low high (located (fin false m e) t tt) t z few
