-- The remainder of two f64s in units of 2 ^ -1074: whole numbers, shifted in pieces. Assumes nothing.
use mathlib.Core.Path.{◌≡◌, refl, sym, ap, ◌∙◌}
use mathlib.Core.Bool.{Bool, true, false, ◌&&◌, true≢false}
use Prim.Native.Nat.{ℕ, zero, suc, ◌+◌, ◌-◌, ◌*◌, ◌/◌, ◌%◌, ◌^◌, ◌≤◌, ◌<◌}
use native.Mathlib.Nat.{zero-mul, mul-pos, mul_comm, mul_assoc, mul_right_comm, add-mul, div-add-mod', mod-lt, mod-eq_of_lt, mul-add-mod_self_right, mul-lt-mul_of_pos_right, lt_of_lt_of_le, mul-le-mul_right, le_of_eq, le_of_lt, le_trans, pos_of_ne-zero}
use native.Mathlib.Omega.{arith}
use lib.Arith.{digits_mod}
use lib.Dec.{T, lit<}
use lib.IntN.{pos}
use lib.Pow.{pow_pos, pow-add, pow_mono, shl_lt}
use lib.Ieee.{Float, nan, inf, fin, binary64, fits, up, down, round, rem, mul, neg, lt, eq, of_int, of_bits}
use lib.Ieee.Back.{round_whole}
use lib.Ieee.Exact.{HasValue}
use lib.Ieee.Fits.{up_pos, down_pos}
use lib.Ieee.Positive.{positive_of_value, mul_at}
use lib.Ieee.Scale.{finite, round_same}
use borrow.Author.Tests.{ne_eqb, eq-eqb}
use Rattle.floats.specs.Floats.{zero_f}
use Rattle.floats.proofs.Sign.{round_neg}
use Rattle.floats.proofs.Value.{round_again}

-- ---- whole numbers
-- both sides k times as large
pub mod_times : (x y k : ℕ) → 0 < y → 0 < k → x * k % (y * k) ≡ x % y * k
mod_times x y k p q =
    let e : x * k ≡ x / y * (y * k) + x % y * k = ap (λ (z : ℕ). z * k) (sym (div-add-mod' x y)) ∙ add-mul (x / y * y) (x % y) k ∙ ap (λ (z : ℕ). z + x % y * k) (mul_assoc (x / y) y k) in
    ap (λ (z : ℕ). z % (y * k)) e ∙ digits_mod (x / y) (mul-lt-mul_of_pos_right (mod-lt x p) q)

-- a remainder taken on the way
pub mod_on_way : (x y k : ℕ) → x % y * k % y ≡ x * k % y
mod_on_way x y k =
    let e : x * k ≡ x / y * k * y + x % y * k = ap (λ (z : ℕ). z * k) (sym (div-add-mod' x y)) ∙ add-mul (x / y * y) (x % y) k ∙ ap (λ (z : ℕ). z + x % y * k) (mul_right_comm (x / y) y k) in
    sym (ap (λ (z : ℕ). z % y) e ∙ mul-add-mod_self_right (x / y * k) y (x % y * k))

-- eleven bits of the shift
pub shift_more : (x y left : ℕ) → 11 ≤ left → x * 2 ^ 11 % y * 2 ^ (left - 11) % y ≡ x * 2 ^ left % y
shift_more x y left h =
    let e : 11 + (left - 11) ≡ left = omega arith in
    mod_on_way (x * 2 ^ 11) y (2 ^ (left - 11)) ∙ ap (λ (z : ℕ). z % y) (mul_assoc x (2 ^ 11) (2 ^ (left - 11)) ∙ ap (λ (z : ℕ). x * z) (sym (pow-add 2 11 (left - 11)) ∙ ap (λ (z : ℕ). 2 ^ z) e))

-- ---- the remainder in units
same_rest : (X Y A B c g : ℕ) → 0 < Y → 0 < B → 0 < c → 0 < g → X * c ≡ A * g → Y * c ≡ B * g → X % Y * c ≡ A % B * g
same_rest X Y A B c g py pb pc pg h k = sym (mod_times X Y c py pc) ∙ (λ i. h i % k i) ∙ mod_times A B g pb pg

pub rem_units : (a b : Float) (s t : Bool) (A B : ℕ) → HasValue a s A (2 ^ 1074) → HasValue b t B (2 ^ 1074) → 0 < B → rem binary64 a b ≡ round binary64 s (A % B) (2 ^ 1074)
unfolding rem
rem_units (fin u m e) (fin v n d) s t A B x y p =
    let c = 2 ^ 1074 in
    let some : n ≡ 0 → ⊥ = λ z. no_zero n (up d) c B (down d) (down_pos d) p y.1 z in
    let py : 0 < n * up d * down e = mul-pos (mul-pos (pos_of_ne-zero some) (up_pos d)) (down_pos e) in
    let hx : m * up e * down d * c ≡ A * (down e * down d) = mul_right_comm (m * up e) (down d) c ∙ ap (λ (z : ℕ). z * down d) x.1 ∙ mul_assoc A (down e) (down d) in
    let hy : n * up d * down e * c ≡ B * (down e * down d) = mul_right_comm (n * up d) (down e) c ∙ ap (λ (z : ℕ). z * down e) y.1 ∙ mul_assoc B (down d) (down e) ∙ ap (λ (z : ℕ). B * z) (mul_comm (down d) (down e)) in
    rw (ne_eqb n 0 some)
    (ap (λ (z : Bool). round binary64 z (m * up e * down d % (n * up d * down e)) (down e * down d)) x.0
    ∙ round_same binary64 s (m * up e * down d % (n * up d * down e)) (down e * down d) (A % B) c (mul-pos (down_pos e) (down_pos d)) (pow_pos 1074)
    (same_rest (m * up e * down d) (n * up d * down e) A B c (down e * down d) py p (pow_pos 1074) (mul-pos (down_pos e) (down_pos d)) hx hy))
  where
    no_zero : (n u c B g : ℕ) → 0 < g → 0 < B → n * u * c ≡ B * g → n ≡ 0 → ⊥
    no_zero n u c B g pg pb h z =
        let q : 0 < B * g = mul-pos pb pg in
        let e : n * u * c ≡ 0 = ap (λ (i : ℕ). i * u * c) z ∙ ap (λ (i : ℕ). i * c) (zero-mul u) ∙ zero-mul c in
        omega arith
rem_units nan b s t A B x y p = elim x [ ]
rem_units (inf _) b s t A B x y p = elim x [ ]
rem_units (fin u m e) nan s t A B x y p = elim y [ ]
rem_units (fin u m e) (inf _) s t A B x y p = elim y [ ]

-- ---- put together again
pub size_zero : (d k : ℕ) → d ≡ 0 → of_bits binary64 0 ≡ round binary64 false (d * 2 ^ k) (2 ^ 1074)
unfolding of_bits round
size_zero d k e = let z : d * 2 ^ k ≡ 0 = ap (λ (n : ℕ). n * 2 ^ k) e ∙ zero-mul (2 ^ k) in rw z

pub size_some : (d k : ℕ) (y : Float) → (d ≡ 0 → ⊥) → d < 2 ^ 53 → HasValue y false (2 ^ k) (2 ^ 1074) → mul binary64 (of_int binary64 (pos d)) y ≡ round binary64 false (d * 2 ^ k) (2 ^ 1074)
unfolding of_int
size_some d k y n h v =
    let p = pos_of_ne-zero n in
    let x = round binary64 false d 1 in
    let u = round_whole binary64 false d (le_of_lt h) in
    mul_at binary64 x y d 1 (2 ^ k) (2 ^ 1074) (positive_of_value x d 1 u p) (positive_of_value y (2 ^ k) (2 ^ 1074) v (pow_pos k)) (lit< tt) (pow_pos 1074) u v

pub with_sign : (s : Bool) (a c : ℕ) (x : Float) → x ≡ round binary64 false a c → s ≡ true → neg x ≡ round binary64 s a c
with_sign s a c x h e = ap neg h ∙ round_neg binary64 false a c ∙ ap (λ (t : Bool). round binary64 t a c) (sym e)

pub without_sign : (s : Bool) (a c : ℕ) (x : Float) → x ≡ round binary64 false a c → s ≡ false → x ≡ round binary64 s a c
without_sign s a c x h e = h ∙ ap (λ (t : Bool). round binary64 t a c) (sym e)

-- ---- the ways of the code
-- by zero
pub by_zero : (a b : Float) (t : Bool) (d k : ℕ) → T (finite a) → HasValue b t (d * 2 ^ k) (2 ^ 1074) → d ≡ 0 → nan ≡ rem binary64 a b
unfolding rem
by_zero (fin s m e) (fin u n f) t d k h v z = rw (eq-eqb n 0 (none n (up f) (2 ^ 1074) (down f) (up_pos f) (pow_pos 1074) (v.1 ∙ ap (λ (i : ℕ). i * 2 ^ k * down f) z ∙ ap (λ (i : ℕ). i * down f) (zero-mul (2 ^ k)) ∙ zero-mul (down f))))
  where
    none : (n u c g : ℕ) → 0 < u → 0 < c → n * u * c ≡ 0 → n ≡ 0
    none zero u c g p q e = refl
    none (suc n) u c g p q e = let l : 0 < suc n * u * c = mul-pos (mul-pos (omega arith) p) q in absurd (omega arith)
by_zero nan b t d k h v z = elim h [ ]
by_zero (inf _) b t d k h v z = elim h [ ]
by_zero (fin s m e) nan t d k h v z = elim v [ ]
by_zero (fin s m e) (inf _) t d k h v z = elim v [ ]

module _ (a b : Float) (s t : Bool) (da ka db kb : ℕ) (x : HasValue a s (da * 2 ^ ka) (2 ^ 1074)) (y : HasValue b t (db * 2 ^ kb) (2 ^ 1074)) (some : db ≡ 0 → ⊥) where
  some_units : 0 < db * 2 ^ kb
  some_units = mul-pos (pos_of_ne-zero some) (pow_pos kb)

  -- a is below b
  pub is_below : T (fits binary64 a) → da < 2 ^ 53 → (0 < kb → 2 ^ 52 ≤ db) → ka < kb → a ≡ rem binary64 a b
  is_below f h n l =
      let k : 53 + ka ≤ 52 + kb = omega arith in
      let p : 0 < kb = omega arith in
      let u : da * 2 ^ ka < db * 2 ^ kb = lt_of_lt_of_le (shl_lt 53 ka h) (le_trans (pow_mono k) (le_trans (le_of_eq (pow-add 2 52 kb)) (mul-le-mul_right (2 ^ kb) (n p)))) in
      sym (rem_units a b s t (da * 2 ^ ka) (db * 2 ^ kb) x y some_units ∙ ap (λ (z : ℕ). round binary64 s z (2 ^ 1074)) (mod-eq_of_lt u) ∙ round_again a s (da * 2 ^ ka) (2 ^ 1074) (pow_pos 1074) f x)

  -- a has the larger exponent, or the same
  pub is_shifted : kb ≤ ka → rem binary64 a b ≡ round binary64 s (da * 2 ^ (ka - kb) % db * 2 ^ kb) (2 ^ 1074)
  is_shifted l =
      let e : ka - kb + kb ≡ ka = omega arith in
      let q : da * 2 ^ ka ≡ da * 2 ^ (ka - kb) * 2 ^ kb = ap (λ (z : ℕ). da * z) (ap (λ (z : ℕ). 2 ^ z) (sym e) ∙ pow-add 2 (ka - kb) kb) ∙ sym (mul_assoc da (2 ^ (ka - kb)) (2 ^ kb)) in
      rem_units a b s t (da * 2 ^ ka) (db * 2 ^ kb) x y some_units
      ∙ ap (λ (z : ℕ). round binary64 s z (2 ^ 1074)) (ap (λ (z : ℕ). z % (db * 2 ^ kb)) q ∙ mod_times (da * 2 ^ (ka - kb)) db (2 ^ kb) (pos_of_ne-zero some) (pow_pos kb))

-- what is no number
pub no_dividend : (a b : Float) → finite a ≡ false → nan ≡ rem binary64 a b
unfolding rem
no_dividend nan b h = refl
no_dividend (inf s) b h = refl
no_dividend (fin s m e) b h = absurd (true≢false h)

pub by_infinity : (a b : Float) → finite a ≡ true → finite b ≡ false → eq b b ≡ true → a ≡ rem binary64 a b
unfolding rem eq
by_infinity nan b h g t = absurd (true≢false (sym h))
by_infinity (inf s) b h g t = absurd (true≢false (sym h))
by_infinity (fin s m e) nan h g t = absurd (true≢false (sym t))
by_infinity (fin s m e) (inf u) h g t = refl
by_infinity (fin s m e) (fin u n d) h g t = absurd (true≢false g)

pub by_nan : (a b : Float) → finite a ≡ true → finite b ≡ false → eq b b ≡ false → b ≡ rem binary64 a b
unfolding rem eq
by_nan nan b h g t = absurd (true≢false (sym h))
by_nan (inf s) b h g t = absurd (true≢false (sym h))
by_nan (fin s m e) nan h g t = refl
by_nan (fin s m e) (inf true) h g t = absurd (true≢false t)
by_nan (fin s m e) (inf false) h g t = absurd (true≢false t)
by_nan (fin s m e) (fin u n d) h g t = absurd (true≢false g)

-- between the infinities
pub is_number : (x : Float) → lt (inf true) x && lt x (inf false) ≡ finite x
unfolding lt
is_number nan = refl
is_number (inf true) = refl
is_number (inf false) = refl
is_number (fin s m e) = refl

-- ---- a remainder below zero: the test of what the call answered
pub tested : (x r : Float) (t : Bool) → r ≡ x → lt r zero_f ≡ t → lt x zero_f ≡ t
tested x r t e h = ap (λ (y : Float). lt y zero_f) (sym e) ∙ h
