-- How large an f64 is: |x| is at most a whole number, and what the float steps keep of that. Assumes nothing.
use Rattle.std.proofs.Common.{◌≡◌, ℕ, zero, suc, ◌+◌, ◌-◌, ◌*◌, ◌/◌, ◌%◌, ◌^◌, ◌<◌, ◌≤◌, min, Bool, true, false, cond, not, ◌&&◌, T, ltb, ℤ, pos, neg_ℤ, sym, ap, ◌∙◌, subst, true≢false, le_trans, le_of_eq, mul-le-mul_right, mul_assoc, mul_comm, div-lt_iff_lt-mul, add-mul, mul-pos, mul-one, mul_right_comm, le_of_mul-le-mul_right, arith, lit<, lt→ltb, ne_eqb}
use mathlib.Core.Bool.{beq}
use Prim.Native.Nat.{compare}
use native.Mathlib.Nat.{div-le_of_le-mul}
use lib.Ieee.{Float, inf, fin, binary64, up, down, size, nearest, odd, units, round, neg, sum, add, sub, div, lt, le, eq, unlike, of_int, to_signed, nan}
use lib.Ieee.Exact.{HasValue}
use lib.Ieee.Back.{round_whole}
use lib.Ieee.Fits.{down_pos, up_pos, round_is}
use lib.Ieee.Order.{round_mono}
use lib.Ieee.Bits.{is_true}
use Rattle.floats.specs.Floats.{trunc, floor, least_i32, past_i32}
use Rattle.floats.proofs.Compare.{le_pos, or_left}
use Rattle.floats.proofs.Sign.{round_neg}

-- |x| is at most n
pub data Sized (n : ℕ) : Float → Type 0 where
  sized : (s : Bool) (m : ℕ) (e : ℤ) → m * up e ≤ n * down e → Sized n (fin s m e)

pub size_of : {n : ℕ} {s : Bool} {m : ℕ} {e : ℤ} → Sized n (fin s m e) → m * up e ≤ n * down e
size_of (sized s m e h) = h

pub sized_neg : {n : ℕ} {x : Float} → Sized n x → Sized n (neg x)
unfolding neg
sized_neg (sized s m e h) = sized (not s) m e h

pub sized_more : {n k : ℕ} {x : Float} → n ≤ k → Sized n x → Sized k x
sized_more l (sized s m e h) = sized s m e (le_trans h (mul-le-mul_right (down e) l))

-- ---- a rounded number has the sign that it was given
data Shape (s : Bool) : Float → Type 0 where
  number : (m : ℕ) (e : ℤ) → Shape s (fin s m e)
  endless : Shape s (inf s)

odd_shape : (d : ℕ) (s : Bool) (q k l : ℕ) → Shape s (odd d s q k l)
unfolding odd
odd_shape d s zero k l = number _ _
odd_shape d s (suc q) k l = number _ _

units_shape : (s : Bool) (q k : ℕ) → Shape s (units binary64 s q k)
unfolding units
units_shape s q k = go (ltb (q * 2 ^ k) (2 ^ 2098))
  where
    go : (b : Bool) → Shape s (cond b (odd 54 s q k 1074) (inf s))
    go true = odd_shape 54 s q k 1074
    go false = endless

round_shape : (s : Bool) (a b : ℕ) → Shape s (round binary64 s a b)
round_shape s a b =
    let n = a * 2 ^ 1074 in
    let k = size (n / b) - 53 in
    subst (Shape s) (sym (round_is binary64 s a b)) (units_shape s (nearest (n / (b * 2 ^ k)) (compare (n % (b * 2 ^ k) * 2) (b * 2 ^ k))) k)

-- ---- rounding keeps a whole bound
at_most : (n m : ℕ) (e : ℤ) (hi : Float) → HasValue hi false n 1 → T (le (fin false m e) hi) → Sized n (fin false m e)
at_most n m e (fin true k d) v t = absurd (true≢false v.0)
at_most n m e (fin false k d) v t =
    sized false m e
    (le_of_mul-le-mul_right
    (le_trans (le_pos m k e d t) (le_of_eq (ap (λ (z : ℕ). z * down e) (sym (mul-one (k * up d)) ∙ v.1) ∙ mul_right_comm n (down d) (down e))))
    (down_pos d))
at_most n m e nan v t = elim v [ ]
at_most n m e (inf _) v t = elim v [ ]

not_endless : (n : ℕ) (hi : Float) → HasValue hi false n 1 → T (le (inf false) hi) → ⊥
unfolding le lt eq
not_endless n (fin s k d) v t = t
not_endless n nan v t = elim v [ ]
not_endless n (inf _) v t = elim v [ ]

under_whole : {y : Float} (n : ℕ) (hi : Float) → Shape false y → HasValue hi false n 1 → T (le y hi) → Sized n y
under_whole n hi (number m e) v t = at_most n m e hi v t
under_whole n hi endless v t = absurd (not_endless n hi v t)

round_up_sized : (n a b : ℕ) → n ≤ 2 ^ 53 → 0 < b → a ≤ n * b → Sized n (round binary64 false a b)
round_up_sized n a b h p l =
    under_whole n (round binary64 false n 1) (round_shape false a b) (round_whole binary64 false n h)
    (round_mono binary64 a b n 1 p (lit< tt) (le_trans (le_of_eq (mul-one a)) l))

pub round_sized : (n : ℕ) (s : Bool) (a b : ℕ) → n ≤ 2 ^ 53 → 0 < b → a ≤ n * b → Sized n (round binary64 s a b)
round_sized n false a b h p l = round_up_sized n a b h p l
round_sized n true a b h p l = subst (Sized n) (round_neg binary64 false a b) (sized_neg (round_up_sized n a b h p l))

-- ---- sums
pub times_le : (x n c d : ℕ) → x ≤ n * c → x * d ≤ n * (c * d)
times_le x n c d h = le_trans (mul-le-mul_right d h) (le_of_eq (mul_assoc n c d))

sum_like : (n k : ℕ) (s t : Bool) (a b c : ℕ) → n + k ≤ 2 ^ 53 → 0 < c → a ≤ n * c → b ≤ k * c → Sized (n + k) (sum binary64 s a t b c)
unfolding sum
sum_like n k s t a b c h p l r = go (beq s t) (ltb a b) (s && ltb b a)
  where
    go : (x y z : Bool) → Sized (n + k) (cond x (round binary64 s (a + b) c) (cond y (round binary64 t (b - a) c) (round binary64 z (a - b) c)))
    go true y z = round_sized (n + k) s (a + b) c h p (omega (arith, add-mul n k c))
    go false true z = round_sized (n + k) t (b - a) c h p (omega (arith, add-mul n k c))
    go false false z = round_sized (n + k) z (a - b) c h p (omega (arith, add-mul n k c))

pub add_sized : {n k : ℕ} {x y : Float} → n + k ≤ 2 ^ 53 → Sized n x → Sized k y → Sized (n + k) (add binary64 x y)
unfolding add
add_sized {n} {k} h (sized s m e l) (sized t i d r) =
    sum_like n k s t (m * up e * down d) (i * up d * down e) (down e * down d) h (mul-pos (down_pos e) (down_pos d))
    (times_le (m * up e) n (down e) (down d) l)
    (le_trans (times_le (i * up d) k (down d) (down e) r) (le_of_eq (ap (λ (z : ℕ). k * z) (mul_comm (down d) (down e)))))

pub sub_sized : {n k : ℕ} {x y : Float} → n + k ≤ 2 ^ 53 → Sized n x → Sized k y → Sized (n + k) (sub binary64 x y)
unfolding sub
sub_sized h p q = add_sized h p (sized_neg q)

-- ---- quotients
-- |x| is at most n times |y|
pub div_sized_by : (n : ℕ) (s t : Bool) (m i : ℕ) (e d : ℤ) → n ≤ 2 ^ 53 → (i ≡ 0 → ⊥) → m * up e * down d ≤ n * (i * up d * down e) → Sized n (div binary64 (fin s m e) (fin t i d))
unfolding div
div_sized_by n s t m i e d h z l =
    rw (ne_eqb i 0 z)
    (round_sized n (unlike s t) (m * up e * down d) (i * up d * down e) h (mul-pos (mul-pos (native.Mathlib.Nat.pos_of_ne-zero z) (up_pos d)) (down_pos e)) l)

pub trunc_sized : {n : ℕ} {x : Float} → n ≤ 2 ^ 53 → Sized n x → Sized n (trunc x)
unfolding trunc
trunc_sized {n} h (sized s m e l) =
    round_sized n s (m * up e / down e) 1 h (lit< tt) (le_trans (div-le_of_le-mul (down e) (le_trans l (le_of_eq (mul_comm n (down e))))) (le_of_eq (sym (mul-one n))))

-- the floor of a number below zero is no larger than a whole bound either
ceil_le : (A D n : ℕ) → 0 < D → A ≤ n * D → (A + (D - 1)) / D ≤ n
ceil_le A D n p h = let l : (A + (D - 1)) / D < n + 1 = (div-lt_iff_lt-mul p).1 (omega (arith, add-mul n 1 D)) in omega arith

pub floor_sized : {n : ℕ} {x : Float} → n ≤ 2 ^ 53 → Sized n x → Sized n (floor x)
unfolding floor trunc
floor_sized {n} h (sized false m e l) = trunc_sized h (sized false m e l)
floor_sized {n} h (sized true m e l) =
    round_sized n true ((m * up e + (down e - 1)) / down e) 1 h (lit< tt) (le_trans (ceil_le (m * up e) (down e) n (down_pos e) l) (le_of_eq (sym (mul-one n))))

-- a number as a whole number, and that as a float again
of_int_sized : (n k : ℕ) (s : Bool) → n ≤ 2 ^ 53 → k ≤ n → Sized n (of_int binary64 (cond s (neg_ℤ (pos k)) (pos k)))
unfolding of_int
of_int_sized n k false h l = round_sized n false k 1 h (lit< tt) (omega arith)
of_int_sized n zero true h l = round_sized n false 0 1 h (lit< tt) (omega arith)
of_int_sized n (suc k) true h l = round_sized n true (suc k) 1 h (lit< tt) (omega arith)

pub signed_sized : {n : ℕ} (h : ℕ) {x : Float} → n ≤ 2 ^ 53 → Sized n x → Sized n (of_int binary64 (to_signed h x))
unfolding to_signed
signed_sized {n} h g (sized false m e l) =
    let d : m * up e / down e ≤ n = div-le_of_le-mul (down e) (le_trans l (le_of_eq (mul_comm n (down e)))) in
    of_int_sized n (min (m * up e / down e) (2 ^ h - 1)) false g (omega arith)
signed_sized {n} h g (sized true m e l) =
    let d : m * up e / down e ≤ n = div-le_of_le-mul (down e) (le_trans l (le_of_eq (mul_comm n (down e)))) in
    of_int_sized n (min (m * up e / down e) (2 ^ h)) true g (omega arith)

-- ---- such a quotient is an i32
in_i32 : {n : ℕ} {x : Float} → n < 2 ^ 31 → Sized n x → T (le (fin true 1 (pos 31)) x) × T (lt x (fin false 1 (pos 31)))
unfolding le lt
in_i32 {n} h (sized false m e l) = (
  or_left (ltb 0 (1 * 2 ^ 31 * down e + m * up e * 1)) (eq (fin true 1 (pos 31)) (fin false m e)) (lt→ltb 0 (1 * 2 ^ 31 * down e + m * up e * 1) (omega (arith, down_pos e))),
  lt→ltb (m * up e * 1) (1 * 2 ^ 31 * down e) (omega (arith, down_pos e, l, mul-le-mul_right (down e) h, add-mul n 1 (down e))),
)
in_i32 {n} h (sized true m e l) = (
  or_left (ltb (m * up e * 1) (1 * 2 ^ 31 * down e)) (eq (fin true 1 (pos 31)) (fin true m e)) (lt→ltb (m * up e * 1) (1 * 2 ^ 31 * down e) (omega (arith, down_pos e, l, mul-le-mul_right (down e) h, add-mul n 1 (down e)))),
  lt→ltb 0 (m * up e * 1 + 1 * 2 ^ 31 * down e) (omega (arith, down_pos e)),
)

pub sized_count : {n : ℕ} (x : Float) → n < 2 ^ 31 → Sized n x → (le least_i32 x && lt x past_i32) ≡ true
sized_count x h p = let t = in_i32 h p in rw (is_true (le (fin true 1 (pos 31)) x) t.0, is_true (lt x (fin false 1 (pos 31))) t.1)
