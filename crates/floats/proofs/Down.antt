-- The largest whole number that is not above a number: below zero the whole part, or one further down. Assumes nothing.
use Rattle.std.proofs.Common.{◌≡◌, ℕ, ◌+◌, ◌-◌, ◌*◌, ◌/◌, ◌%◌, ◌^◌, ◌<◌, ◌≤◌, true, false, T, ℤ, pos, negsuc, sym, refl, ap, ◌∙◌, subst, true≢false, add-zero, mod-lt, div-lt_iff_lt-mul, add-mul, lt_of_mul-lt-mul_right, one-mul, div-add-mod', zero-mul, mul-one, mul_right_comm, le_of_mul-le-mul_right, div-one, arith, lt→ltb, ltb-false, ltb-true}
use lib.Ieee.Exact.{HasValue}
use lib.Ieee.Back.{round_whole}
use lib.Arith.{digits_div}
use lib.Ieee.{Float, nan, inf, fin, binary64, up, down, round, neg, lt, fits, to_unsigned, of_int}
use lib.Ieee.Fits.{down_pos}
use Rattle.floats.specs.Floats.{trunc, floor}
use Rattle.floats.proofs.Order.{Zero, Negative, ninf, nfin, zero_number}
use Rattle.floats.proofs.Fit.{fits_says, whole_round, zero_exp}
use Rattle.floats.proofs.Sign.{round_neg}
use Rattle.floats.proofs.Whole.{Past64, uncapped, cut_lt, no_fraction}

-- -2 ^ 53: from there down every f64 is whole
abbrev Past_53 : Float
Past_53 = fin true 1 (pos 53)

-- where x is not below zero, floor and trunc are one
floor_zero : (m : ℕ) (e : ℤ) → fits binary64 (fin true m e) ≡ true → m ≡ 0 → trunc (fin true m e) ≡ floor (fin true m e)
unfolding trunc floor
floor_zero m e f z =
    let k : e ≡ pos 0 = zero_exp true e (rw z at f) in
    rw (z, k)

pub floor_rest : (x : Float) → fits binary64 x ≡ true → lt x Zero ≡ false → trunc x ≡ floor x
unfolding lt trunc floor
floor_rest nan f h = refl
floor_rest (inf s) f h = refl
floor_rest (fin false m e) f h = refl
floor_rest (fin true m e) f h = floor_zero m e f (zero_number m e (omega (arith, ltb-false 0 (m * up e * 1 + 0 * 1 * down e) h, zero-mul (down e))))

-- x above -2 ^ 53, below 0
pub data Low53 : Float → Type 0 where
  low53 : (m : ℕ) (e : ℤ) → 0 < m → m * up e < 2 ^ 53 * down e → Low53 (fin true m e)

pub is_low53 : {x : Float} → Negative x → lt Past_53 x ≡ true → Low53 x
unfolding lt
is_low53 ninf h = absurd (subst T (sym h) tt)
is_low53 (nfin m e p) h = low53 m e p (omega (arith, ltb-true (m * up e * 1) (1 * 2 ^ 53 * down e) h))

pub low_requires : {x : Float} → Low53 x → T (lt (fin true 1 (pos 0)) (neg x)) × T (lt (neg x) Past64)
unfolding lt neg
low_requires (low53 m e p h) = (
  lt→ltb 0 (1 * 1 * down e + m * up e * 1) (omega (arith, down_pos e)),
  lt→ltb (m * up e * 1) (1 * 2 ^ 64 * down e) (omega arith),
)

-- the whole part of -x
abbrev part : Float → ℕ
part x = to_unsigned 64 (neg x)

part_is : (m : ℕ) (e : ℤ) → m * up e < 2 ^ 53 * down e → part (fin true m e) ≡ m * up e / down e
unfolding to_unsigned neg
part_is m e h = uncapped (m * up e / down e) (2 ^ 64) (cut_lt m e (omega (arith, h)))

pub part_lt : {x : Float} → Low53 x → part x < 2 ^ 53
part_lt (low53 m e p h) = rw (part_is m e h) ((div-lt_iff_lt-mul (down_pos e)).1 h)

-- a whole number below a fraction
crossed : (x n d' d : ℕ) → x * 1 ≡ n * d' → x * d ≡ n * d * d'
crossed x n d' d h = ap (λ (y : ℕ). y * d) (sym (mul-one x) ∙ h) ∙ mul_right_comm n d' d

pub lt_whole : (y : Float) (n m : ℕ) (e : ℤ) → HasValue y false n 1 → lt y (fin false m e) ≡ true → n * down e < m * up e
unfolding lt
lt_whole (fin true m' e') n m e v h = absurd (true≢false v.0)
lt_whole (fin false m' e') n m e v h =
    lt_of_mul-lt-mul_right (down e')
    (subst (λ (z : ℕ). z < m * up e * down e') (crossed (m' * up e') n (down e') (down e) v.1) (ltb-true (m' * up e' * down e) (m * up e * down e') h))
lt_whole nan n m e v h = elim v [ ]
lt_whole (inf _) n m e v h = elim v [ ]

pub le_whole : (y : Float) (n m : ℕ) (e : ℤ) → HasValue y false n 1 → lt y (fin false m e) ≡ false → m * up e ≤ n * down e
unfolding lt
le_whole (fin true m' e') n m e v h = absurd (true≢false v.0)
le_whole (fin false m' e') n m e v h =
    le_of_mul-le-mul_right
    (subst (λ (z : ℕ). m * up e * down e' ≤ z) (crossed (m' * up e') n (down e') (down e) v.1) (ltb-false (m' * up e' * down e) (m * up e * down e') h))
    (down_pos e')
le_whole nan n m e v h = elim v [ ]
le_whole (inf _) n m e v h = elim v [ ]

-- rounded up where something is left over, and where nothing is
ceil_up : (N D : ℕ) → 0 < D → N / D * D < N → (N + (D - 1)) / D ≡ N / D + 1
ceil_up N D p h =
    let e : N + (D - 1) ≡ (N / D + 1) * D + (N % D - 1) = rw (add-mul, one-mul) (omega (arith, div-add-mod' N D)) in
    ap (λ (x : ℕ). x / D) e ∙ digits_div (N / D + 1) (omega (arith, mod-lt N p))

ceil_same : (N D : ℕ) → 0 < D → N ≤ N / D * D → (N + (D - 1)) / D ≡ N / D
ceil_same N D p h =
    let e : N + (D - 1) ≡ N / D * D + (D - 1) = omega (arith, div-add-mod' N D) in
    ap (λ (x : ℕ). x / D) e ∙ digits_div (N / D) (omega arith)

-- a whole part that is below -x is one short
pub floor_up : {x : Float} → Low53 x → lt (of_int binary64 (pos (part x))) (neg x) ≡ true → neg (of_int binary64 (pos (part x + 1))) ≡ floor x
unfolding of_int floor neg
floor_up (low53 m e p h) g =
    let n = m * up e / down e in
    let u : lt (round binary64 false n 1) (fin false m e) ≡ true = rw (part_is m e h) at g in
    let v = lt_whole (round binary64 false n 1) n m e (round_whole binary64 false n (omega (arith, (div-lt_iff_lt-mul {y = 2 ^ 53} (down_pos e)).1 h))) u in
    ap (λ (k : ℕ). neg (round binary64 false (k + 1) 1)) (part_is m e h)
    ∙ round_neg binary64 false (n + 1) 1
    ∙ ap (λ (k : ℕ). round binary64 true k 1) (sym (ceil_up (m * up e) (down e) (down_pos e) v))

pub floor_same : {x : Float} → Low53 x → lt (of_int binary64 (pos (part x))) (neg x) ≡ false → neg (of_int binary64 (pos (part x))) ≡ floor x
unfolding of_int floor neg
floor_same (low53 m e p h) g =
    let n = m * up e / down e in
    let u : lt (round binary64 false n 1) (fin false m e) ≡ false = rw (part_is m e h) at g in
    let v = le_whole (round binary64 false n 1) n m e (round_whole binary64 false n (omega (arith, (div-lt_iff_lt-mul {y = 2 ^ 53} (down_pos e)).1 h))) u in
    ap (λ (k : ℕ). neg (round binary64 false k 1)) (part_is m e h)
    ∙ round_neg binary64 false n 1
    ∙ ap (λ (k : ℕ). round binary64 true k 1) (sym (ceil_same (m * up e) (down e) (down_pos e) v))

-- from -2 ^ 53 down: the number itself
floor_large : (m : ℕ) (e : ℤ) → 0 < m → fits binary64 (fin true m e) ≡ true → 2 ^ 53 * down e ≤ m * up e → fin true m e ≡ floor (fin true m e)
unfolding floor
floor_large m (pos k) p f h = sym (ap (λ (n : ℕ). round binary64 true n 1) (div-one (m * 2 ^ k + 0) ∙ add-zero (m * 2 ^ k)) ∙ whole_round true m k p f)
floor_large m (negsuc k) p f h = absurd (no_fraction m k (fits_says true m (negsuc k) p f).1 (omega (arith, h)))

pub floor_below : {x : Float} → Negative x → fits binary64 x ≡ true → lt Past_53 x ≡ false → x ≡ floor x
unfolding lt floor
floor_below ninf f h = refl
floor_below (nfin m e p) f h = floor_large m e p f (omega (arith, ltb-false (m * up e * 1) (1 * 2 ^ 53 * down e) h))
