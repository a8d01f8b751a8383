-- A period that is not 1.0 has cents that are not 0: a product with a whole number is zero only where the number is. Assumes nothing.
use mathlib.Core.Path.{◌≡◌, refl, sym, ◌∙◌, ap, subst}
use mathlib.Core.Bool.{true, false}
use Prim.Native.Nat.{ℕ, zero, suc, ◌-◌, ◌*◌, ◌^◌, ◌≤◌, ◌<◌}
use native.Mathlib.Nat.{le_trans, le_of_eq, mul-one, mul-pos, mul-le-mul_left, mul-le-mul_right, zero-mul, pos_of_ne-zero, zero-lt-suc}
use native.Mathlib.Omega.{arith}
use lib.Dec.{T, eqb, lit<, lit≤}
use lib.IntN.{ℤ, pos, negsuc, ◌+ℤ◌, ◌-ℤ◌, ◌*ℤ◌}
use lib.Ieee.{Float, nan, inf, fin, binary64, fits, up, down, round, size, mul, neg, eq, le, of_bits}
use lib.Ieee.Fits.{down_pos, up_pos, mul-fits, round-fits}
use lib.Ieee.Bits.{is_true}
use lib.Ieee.Order.{round_mono}
use lib.Ieee.Positive.{above, above_of_le}
use borrow.Author.Tests.{ne_eqb}
use Rattle.base.specs.Said.{gives}
use Rattle.base.proofs.Said.{same_value}
use Rattle.explog.specs.Rules.{L, log_of, log_at, octaves_of}
use Rattle.explog.specs.Log.{b_of}
use Rattle.explog.proofs.Reach.{log_sized}
use Rattle.pitch.specs.Ratios.{twelve_f, hundred_f, as_cents}
use Rattle.floats.proofs.Ranges.{generator_says}
use Rattle.floats.specs.Floats.{zero_f}
use Rattle.floats.specs.Ranges.{in_reach, in_generator}
use Rattle.floats.proofs.Order.{Zero}
use Rattle.floats.proofs.Sign.{round_neg}
use Rattle.floats.proofs.Sized.{Sized, sized}
use Rattle.floats.proofs.Value.{round_again}
use Rattle.rank2.specs.Asked.{SomeCents}
use Rattle.rank2.proofs.Given.{log_said, reach, cents_said, cents_given}
use Rattle.rank2.proofs.Sizes.{mul_sized, not_zero}

-- above zero, either way round, is not zero
above_some : (z : Float) → T (above z) → (eq z Zero ≡ false) × (eq (neg z) Zero ≡ false)
unfolding eq neg
above_some nan t = absurd t
above_some (inf true) t = absurd t
above_some (inf false) t = (refl, refl)
above_some (fin true m e) t = absurd t
above_some (fin false zero e) t = absurd t
above_some (fin false (suc m) e) t =
    let z : 0 * 1 * down e ≡ 0 = omega (arith, zero-mul (down e)) in
    let h = ne_eqb (suc m * up e * 1) (0 * 1 * down e) (λ q. omega (arith, q, z, mul-pos (zero-lt-suc m) (up_pos e))) in
    (rw h, rw h)

product_above : (m i d : ℕ) (e : ℤ) → 0 < m → 0 < i → T (fits binary64 (fin false m e)) → T (above (round binary64 false (m * up e * (i * 2 ^ d)) (down e * 1)))
product_above m i d e p q f =
    let x = fin false m e in
    let b : round binary64 false (m * up e) (down e) ≡ x = round_again x false (m * up e) (down e) (down_pos e) f (refl, refl) in
    let k : 0 < i * 2 ^ d = mul-pos q (lib.Pow.pow_pos d) in
    above_of_le x (round binary64 false (m * up e * (i * 2 ^ d)) (down e * 1)) (lib.Dec.lt→ltb 0 m p)
    (subst (λ (y : Float). T (le y (round binary64 false (m * up e * (i * 2 ^ d)) (down e * 1)))) b
    (round_mono binary64 (m * up e) (down e) (m * up e * (i * 2 ^ d)) (down e * 1) (down_pos e) (mul-pos (down_pos e) (lit< tt)) (more (m * up e) (i * 2 ^ d) (down e) k)))
  where
    more : (a k c : ℕ) → 0 < k → a * (c * 1) ≤ a * k * c
    more a k c h = le_trans (le_of_eq (ap (λ (z : ℕ). a * z) (mul-one c))) (mul-le-mul_right c (le_trans (le_of_eq (sym (mul-one a))) (mul-le-mul_left a h)))

pub some_product : (i d : ℕ) (x : Float) {n : ℕ} → 0 < i → fits binary64 x ≡ true → Sized n x → eq x Zero ≡ false → eq (mul binary64 x (fin false i (pos d))) Zero ≡ false
unfolding mul neg
some_product i d x q f (sized false m e l) h = (above_some (round binary64 false (m * up e * (i * 2 ^ d)) (down e * 1)) (product_above m i d e (pos_of_ne-zero (not_zero false m e h)) q (subst T (sym f) tt))).0
some_product i d x q f (sized true m e l) h =
    let p = pos_of_ne-zero (not_zero true m e h) in
    subst (λ (y : Float). eq y Zero ≡ false) (round_neg binary64 false (m * up e * (i * 2 ^ d)) (down e * 1))
    (above_some (round binary64 false (m * up e * (i * 2 ^ d)) (down e * 1)) (product_above m i d e p q (lib.Ieee.Fits.neg-fits binary64 (fin true m e) (subst T (sym f) tt)))).1

rounded : (z : ℤ) → fits binary64 (octaves_of z) ≡ true
unfolding octaves_of
rounded (pos n) = is_true (fits binary64 (round binary64 false n (2 ^ 52))) (round-fits binary64 false n (2 ^ 52))
rounded (negsuc n) = is_true (fits binary64 (round binary64 true (suc n) (2 ^ 52))) (round-fits binary64 true (suc n) (2 ^ 52))

-- L gives an f64
log_fits : (r : Float) → fits binary64 r ≡ true → in_reach r ≡ true → fits binary64 (log_of r) ≡ true
unfolding log_of log_at fits
log_fits nan f h = refl
log_fits (inf s) f h = refl
log_fits (fin s m e) f h = go ((e -ℤ pos (53 - size m)) +ℤ pos 52) (b_of (m * 2 ^ (53 - size m) * 2 ^ 10) 52)
  where
    by : (z : ℤ) → fits binary64 (octaves_of z) ≡ true
    by z = rounded z

    go : (z : ℤ) (b : ℕ) → fits binary64 (octaves_of (z *ℤ pos (2 ^ 52) +ℤ pos b)) ≡ true
    go z b = by (z *ℤ pos (2 ^ 52) +ℤ pos b)

-- THE PERIOD'S CENTS
twelve_is : twelve_f ≡ fin false 3 (pos 2)
unfolding of_bits
twelve_is = refl

hundred_is : hundred_f ≡ fin false 25 (pos 2)
unfolding of_bits
hundred_is = refl

pub period_some : (r : Float) (held : fits binary64 r ≡ true) (g : in_generator r ≡ true) {octaves c : Float} → L r ≡ gives octaves → eq octaves zero_f ≡ false → gives c ≡ as_cents r → SomeCents c
unfolding of_bits
period_some r held g {octaves} {c} e o q =
    let u = cents_given r held g q in
    let w : log_of r ≡ octaves = same_value (log_of r) octaves (sym (log_said r (reach r held g)) ∙ e) in
    let s₀ = log_sized 32 r (log_of r) (lit≤ tt) held (generator_says r g) (log_said r (reach r held g)) in
    let o₀ : eq (log_of r) Zero ≡ false = ap (λ (x : Float). eq x Zero) w ∙ o in
    let o₁ = some_product 3 2 (log_of r) (lit< tt) (log_fits r held (reach r held g)) s₀ o₀ in
    let x₁ = mul binary64 (log_of r) (fin false 3 (pos 2)) in
    let s₁ = mul_sized {n = 32} {k = 12} (lit≤ tt) s₀ (sized false 3 (pos 2) (lit≤ tt)) in
    let o₂ = some_product 25 2 x₁ (lit< tt) (is_true (fits binary64 x₁) (mul-fits binary64 (log_of r) (fin false 3 (pos 2)))) s₁ o₁ in
    let z : mul binary64 x₁ (fin false 25 (pos 2)) ≡ c = same_value _ c (rw (← twelve_is, ← hundred_is) (sym (cents_said r held g)) ∙ sym q) in
    record { usable = u.1; some = subst (λ (y : Float). eq y Zero ≡ false) z o₂ }
