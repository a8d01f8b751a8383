-- Numbers between two powers of two, and between -n * 2 ^ k and n * 2 ^ k: what rounding, dividing and turning over keep of that.
-- Assumes nothing.
use Rattle.std.proofs.Common.{◌≡◌, ℕ, suc, ◌+◌, ◌-◌, ◌*◌, ◌^◌, ◌<◌, ◌≤◌, true, false, ◌&&◌, ◌||◌, T, eqb, ltb, ℤ, pos, negsuc, sym, refl, ap, ◌∙◌, subst, inl, inr, true≢false, le_trans, le_of_eq, lt_of_le_of_lt, mul-le-mul_right, mul_assoc, mul_comm, mul-le-mul, add_comm, eq-or-lt_of_le, mul-le-mul_left, mul-pos, one-mul, zero-mul, mul-one, mul_right_comm, mul_left_comm, arith, lit<, lit≤, lt→ltb, pow_pos, pow_mono, pow-add, ne_eqb}
use lib.Dec.{eqb_refl}
use lib.Pow.{pow-lt}
use lib.Ieee.{Float, nan, inf, fin, binary64, up, down, round, le, lt, eq, of_bits, of_int, div}
use lib.Ieee.Back.{round_whole}
use lib.Ieee.Exact.{HasValue, round_exact}
use lib.Ieee.Fits.{down_pos, and_i, up_pos}
use lib.Ieee.Order.{round_mono, le_of_values}
use lib.Ieee.Positive.{num, den, positive, own_value, positive_of_value, between, values_of_le}
use lib.Ieee.Bits.{is_true}
use Rattle.floats.specs.Ranges.{in_reach, in_search, in_generator}
use Rattle.floats.proofs.Ranges.{Within, within_fin, and_true}
use Rattle.floats.specs.Floats.{one_f}
use Rattle.floats.proofs.Compare.{le_pos, le_neg, or_left, or_right}
use Rattle.floats.proofs.Sized.{Sized, sized}

-- ---- a fraction between two powers of two rounds to a number between them
module _ (a : ℕ) (small : a ≤ 1000) where
  low_value : HasValue (round binary64 false 1 (2 ^ a)) false 1 (2 ^ a)
  low_value =
      let e : 1074 - a + a ≡ 1074 = omega arith in
      let j : 1074 - a < 2098 = omega arith in
      round_exact binary64 false 1 (2 ^ a) 1 (1074 - a) (pow_pos a) (lit< tt) (lt_of_le_of_lt (le_of_eq (one-mul (2 ^ (1074 - a)))) (pow-lt j))
      (ap (λ (z : ℕ). 1 * 2 ^ z) (sym e) ∙ ap (λ (z : ℕ). 1 * z) (pow-add 2 (1074 - a) a) ∙ sym (mul_assoc 1 (2 ^ (1074 - a)) (2 ^ a)))

  high_value : HasValue (round binary64 false (2 ^ a) 1) false (2 ^ a) 1
  high_value =
      let j : a + 1074 < 2098 = omega arith in
      round_exact binary64 false (2 ^ a) 1 1 (a + 1074) (lit< tt) (lit< tt) (lt_of_le_of_lt (le_of_eq (one-mul (2 ^ (a + 1074)))) (pow-lt j))
      (sym (pow-add 2 a 1074) ∙ sym (one-mul (2 ^ (a + 1074))) ∙ sym (mul-one (1 * 2 ^ (a + 1074))))

within_of : (a b : ℕ) (y : Float) → T (positive y) → 1 * den y ≤ num y * 2 ^ a → num y * 1 ≤ 2 ^ b * den y → Within a b y
within_of a b nan p l h = absurd p
within_of a b (inf s) p l h = absurd p
within_of a b (fin true m e) p l h = absurd p
within_of a b (fin false m e) p l h =
    within_fin m e (lib.Dec.ltb→lt 0 m p) (le_trans (le_of_eq (sym (one-mul (down e)))) l) (le_trans (le_of_eq (sym (mul-one (m * up e)))) h)

pub round_within : (a b n d : ℕ) → a ≤ 1000 → b ≤ 1000 → 0 < d → d ≤ n * 2 ^ a → n ≤ 2 ^ b * d → Within a b (round binary64 false n d)
round_within a b n d sa sb p l h =
    let lo = round binary64 false 1 (2 ^ a) in
    let hi = round binary64 false (2 ^ b) 1 in
    let y = round binary64 false n d in
    let vl = low_value a sa in
    let vh = high_value b sb in
    let pl : T (positive lo) = positive_of_value lo 1 (2 ^ a) vl (lit< tt) in
    let ph : T (positive hi) = positive_of_value hi (2 ^ b) 1 vh (pow_pos b) in
    let tl : T (le lo y) = round_mono binary64 1 (2 ^ a) n d (pow_pos a) p (le_trans (le_of_eq (one-mul d)) l) in
    let th : T (le y hi) = round_mono binary64 n d (2 ^ b) 1 p (lit< tt) (le_trans (le_of_eq (mul-one n)) h) in
    let py : T (positive y) = between lo y hi pl ph tl th in
    let vy = own_value y py in
    within_of a b y py (values_of_le lo y 1 (2 ^ a) (num y) (den y) pl py vl vy tl) (values_of_le y hi (num y) (den y) (2 ^ b) 1 py ph vy vh th)

-- what lies in a smaller range lies in a larger one
pub within_more : {a b c d : ℕ} {x : Float} → a ≤ c → b ≤ d → Within a b x → Within c d x
within_more h k (within_fin m e p l u) = within_fin m e p (le_trans l (mul-le-mul_left (m * up e) (pow_mono h))) (le_trans u (mul-le-mul_right (down e) (pow_mono k)))

-- the tests of the ranges
in_range : (a b : ℕ) {x : Float} → Within (suc a) b x → le (fin false 1 (negsuc a)) x && le x (fin false 1 (pos b)) ≡ true
in_range a b (within_fin m e p l u) =
    is_true (le (fin false 1 (negsuc a)) (fin false m e) && le (fin false m e) (fin false 1 (pos b)))
    (and_i (le (fin false 1 (negsuc a)) (fin false m e)) (le (fin false m e) (fin false 1 (pos b)))
    (le_of_values (fin false 1 (negsuc a)) (fin false m e) 1 (2 ^ suc a) (m * up e) (down e) (pow_pos (suc a)) (down_pos e) (refl, refl) (refl, refl) (le_trans (le_of_eq (one-mul (down e))) l))
    (le_of_values (fin false m e) (fin false 1 (pos b)) (m * up e) (down e) (2 ^ b) 1 (down_pos e) (lit< tt) (refl, refl) (refl, mul-one (1 * 2 ^ b) ∙ one-mul (2 ^ b) ∙ sym (mul-one (2 ^ b))) (le_trans (le_of_eq (mul-one (m * up e))) u)))

pub within_reach : {x : Float} → Within 900 900 x → in_reach x ≡ true
within_reach w = in_range 899 900 w

pub within_search : {x : Float} → Within 64 64 x → in_search x ≡ true
within_search w = in_range 63 64 w

pub within_generator : {x : Float} → Within 32 32 x → in_generator x ≡ true
within_generator w = in_range 31 32 w

-- ---- quotients
some : (k i : ℕ) (d : ℤ) → 0 < k → i * up d * 1 ≡ k * down d → i ≡ 0 → ⊥
some k i d p v z =
    let e : i * up d * 1 ≡ 0 = ap (λ (j : ℕ). j * up d * 1) z ∙ ap (λ (j : ℕ). j * 1) (zero-mul (up d)) in
    let q : 0 < k * down d = mul-pos p (down_pos d) in
    omega arith

-- one whole number above zero over another
pub quotient_within : (a b n k : ℕ) (x y : Float) → a ≤ 1000 → b ≤ 1000 → HasValue x false n 1 → HasValue y false k 1 → 0 < k → k ≤ n * 2 ^ a → n ≤ 2 ^ b * k → Within a b (div binary64 x y)
unfolding div
quotient_within a b n k (fin true m e) y sa sb v w p l h = absurd (true≢false v.0)
quotient_within a b n k (fin false m e) (fin true i d) sa sb v w p l h = absurd (true≢false w.0)
quotient_within a b n k (fin false m e) (fin false i d) sa sb v w p l h =
    let x : m * up e ≡ n * down e = sym (mul-one (m * up e)) ∙ v.1 in
    let y : i * up d ≡ k * down d = sym (mul-one (i * up d)) ∙ w.1 in
    let c : i * up d * down e ≡ k * (down e * down d) = ap (λ (z : ℕ). z * down e) y ∙ mul_assoc k (down d) (down e) ∙ ap (λ (z : ℕ). k * z) (mul_comm (down d) (down e)) in
    let g : m * up e * down d ≡ n * (down e * down d) = ap (λ (z : ℕ). z * down d) x ∙ mul_assoc n (down e) (down d) in
    rw (ne_eqb i 0 (some k i d p w.1), c, g)
    (round_within a b (n * (down e * down d)) (k * (down e * down d)) sa sb (mul-pos p (mul-pos (down_pos e) (down_pos d)))
    (le_trans (mul-le-mul_right (down e * down d) l) (le_of_eq (mul_right_comm n (2 ^ a) (down e * down d))))
    (le_trans (mul-le-mul_right (down e * down d) h) (le_of_eq (mul_assoc (2 ^ b) k (down e * down d)))))
quotient_within a b n k nan y sa sb v w p l h = elim v [ ]
quotient_within a b n k (inf _) y sa sb v w p l h = elim v [ ]
quotient_within a b n k (fin false m e) nan sa sb v w p l h = elim w [ ]
quotient_within a b n k (fin false m e) (inf _) sa sb v w p l h = elim w [ ]

-- of 16 bits each, as floats
whole_value : (n : ℕ) → n ≤ 65535 → HasValue (of_int binary64 (pos n)) false n 1
unfolding of_int
whole_value n h = round_whole binary64 false n (le_trans h (lit≤ tt))

pub fraction_within : (n d : ℕ) → 1 ≤ n → n ≤ 65535 → 1 ≤ d → d ≤ 65535 →
    Within 16 16 (div binary64 (of_int binary64 (pos n)) (of_int binary64 (pos d)))
fraction_within n d a b c e =
    quotient_within 16 16 n d (of_int binary64 (pos n)) (of_int binary64 (pos d)) (lit≤ tt) (lit≤ tt)
    (whole_value n b) (whole_value d e) c (omega (arith, a, e)) (omega (arith, b, c))

-- a ratio turned over
not_zero : (m : ℕ) → 0 < m → m ≡ 0 → ⊥
not_zero m p z = omega arith

pub inverse_within : {a b : ℕ} {x : Float} → a ≤ 1000 → b ≤ 1000 → Within a b x → Within b a (div binary64 one_f x)
unfolding div of_bits
inverse_within {a} {b} sa sb (within_fin m e p l h) =
    let n : 1 * 1 * down e ≡ down e = one-mul (down e) in
    let d : m * up e * 1 ≡ m * up e = mul-one (m * up e) in
    rw (ne_eqb m 0 (not_zero m p), n, d)
    (round_within b a (down e) (m * up e) sb sa (mul-pos p (up_pos e))
    (le_trans h (le_of_eq (mul_comm (2 ^ b) (down e)))) (le_trans l (le_of_eq (mul_comm (m * up e) (2 ^ a)))))

-- one ratio over another
crossed : (p q r s k l : ℕ) → q ≤ p * 2 ^ k → r ≤ 2 ^ l * s → r * q ≤ p * s * 2 ^ (k + l)
crossed p q r s k l h g =
    let e : 2 ^ l * s * (p * 2 ^ k) ≡ p * s * (2 ^ k * 2 ^ l) = simp (mul_assoc, mul_comm, mul_left_comm) in
    le_trans (mul-le-mul g h) (le_of_eq (e ∙ ap (λ (z : ℕ). p * s * z) (sym (pow-add 2 k l))))

pub over_within : {a b c d : ℕ} {x y : Float} → a + d ≤ 1000 → b + c ≤ 1000 → Within a b x → Within c d y → Within (a + d) (b + c) (div binary64 x y)
unfolding div
over_within {a} {b} {c} {d} sa sb (within_fin m e p l h) (within_fin n f q r u) =
    rw (ne_eqb n 0 (not_zero n q))
    (round_within (a + d) (b + c) (m * up e * down f) (n * up f * down e) sa sb (mul-pos (mul-pos q (up_pos f)) (down_pos e))
    (crossed (m * up e) (down e) (n * up f) (down f) a d l u)
    (le_trans (crossed_down (n * up f) (down f) (m * up e) (down e) c b r h) (le_of_eq (ap (λ (z : ℕ). 2 ^ z * (n * up f * down e)) (add_comm c b)))))
  where
    crossed_down : (p q r s k l : ℕ) → q ≤ p * 2 ^ k → r ≤ 2 ^ l * s → r * q ≤ 2 ^ (k + l) * (p * s)
    crossed_down p q r s k l h g = le_trans (crossed p q r s k l h g) (le_of_eq (mul_comm (p * s) (2 ^ (k + l))))

-- ---- from -n * 2 ^ k to n * 2 ^ k
pub range_sized : (n k : ℕ) (x : Float) → le (fin true n (pos k)) x && le x (fin false n (pos k)) ≡ true → Sized (n * 2 ^ k) x
unfolding le lt eq
range_sized n k x h = let t = and_true (le (fin true n (pos k)) x) (le x (fin false n (pos k))) h in go x t.0 t.1
  where
    go : (x : Float) → T (le (fin true n (pos k)) x) → T (le x (fin false n (pos k))) → Sized (n * 2 ^ k) x
    go nan a b = absurd a
    go (inf true) a b = absurd a
    go (inf false) a b = absurd b
    go (fin true m e) a b = sized true m e (subst (λ (z : ℕ). z ≤ n * 2 ^ k * down e) (mul-one (m * up e)) (le_neg n m (pos k) e a))
    go (fin false m e) a b = sized false m e (subst (λ (z : ℕ). z ≤ n * 2 ^ k * down e) (mul-one (m * up e)) (le_pos m n e (pos k) b))

same_or_less : (a b : ℕ) → b ≤ a → T (ltb b a || (eqb a b && true))
same_or_less a b h = elim (eq-or-lt_of_le h) [
  | inl e ↦ or_right (ltb b a) (eqb a b && true) (subst (λ (z : ℕ). T (eqb a z && true)) (sym e) (and_i (eqb a a) true (eqb_refl a) tt))
  | inr l ↦ or_left (ltb b a) (eqb a b && true) (lt→ltb b a l)
]

pub sized_range : (n k : ℕ) {x : Float} → 0 < n * 2 ^ k → Sized (n * 2 ^ k) x → T (le (fin true n (pos k)) x) × T (le x (fin false n (pos k)))
unfolding le lt eq
sized_range n k p (sized false m e h) = (
  or_left (ltb 0 (n * 2 ^ k * down e + m * up e * 1)) (eq (fin true n (pos k)) (fin false m e))
      (lt→ltb 0 (n * 2 ^ k * down e + m * up e * 1) (omega (arith, mul-pos p (down_pos e)))),
  le_of_values (fin false m e) (fin false n (pos k)) (m * up e) (down e) (n * 2 ^ k) 1 (down_pos e) (omega arith) (refl, refl) (refl, refl) (le_trans (le_of_eq (mul-one (m * up e))) h),
)
sized_range n k p (sized true m e h) = (
  same_or_less (n * 2 ^ k * down e) (m * up e * 1) (le_trans (le_of_eq (mul-one (m * up e))) h),
  or_left (ltb 0 (m * up e * 1 + n * 2 ^ k * down e)) (eq (fin true m e) (fin false n (pos k)))
      (lt→ltb 0 (m * up e * 1 + n * 2 ^ k * down e) (omega (arith, mul-pos p (down_pos e)))),
)
