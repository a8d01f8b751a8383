-- How large the steps of a segment are: so many times a float, and where the largest of them is in a range, all are. Assumes nothing.
use Rattle.std.proofs.Common.{◌≡◌, ℕ, ◌*◌, ◌^◌, ◌<◌, ◌≤◌, Bool, true, false, ◌&&◌, T, eqb, ℤ, pos, sym, refl, ◌∙◌, subst, le_trans, le_of_eq, mul-le-mul_right, mul_assoc, mul_comm, mul-le-mul_left, mul-pos, zero-mul, mul-one, mul_right_comm, le_of_mul-le-mul_right, arith, lit<, eqb-true}
use lib.Ieee.{Float, nan, inf, fin, binary64, up, down, round, size, neg, mul, unlike, le, lt, eq, of_int}
use lib.Ieee.Back.{round_whole}
use lib.Ieee.Exact.{HasValue}
use lib.Ieee.Fits.{down_pos}
use lib.Ieee.Order.{round_mono}
use lib.Ieee.Scale.{round_same}
use Rattle.floats.specs.Floats.{float}
use Rattle.floats.proofs.Compare.{le_pos}
use Rattle.floats.proofs.Sign.{round_neg}
use Rattle.floats.proofs.Sized.{Sized, sized, sized_neg}

-- ---- so many times a float, rounded once
times_of : (s : Bool) (m j : ℕ) (e : ℤ) (y : Float) → HasValue y false j 1 → mul binary64 (fin s m e) y ≡ round binary64 s (m * up e * j) (down e)
unfolding mul
times_of s m j e (fin true i d) v = absurd (mathlib.Core.Bool.true≢false v.0)
times_of s m j e (fin false i d) v =
    let w : i * up d ≡ j * down d = sym (mul-one (i * up d)) ∙ v.1 in
    rw (go s) (round_same binary64 s (m * up e * (i * up d)) (down e * down d) (m * up e * j) (down e) (mul-pos (down_pos e) (down_pos d)) (down_pos e) (cross (m * up e) (i * up d) j (down e) (down d) w))
  where
    go : (s : Bool) → unlike s false ≡ s
    go true = refl
    go false = refl

    cross : (a b j c d : ℕ) → b ≡ j * d → a * b * c ≡ a * j * (c * d)
    cross a b j c d h = rw h (simp (mul_assoc, mul_comm, native.Mathlib.Nat.mul_left_comm))
times_of s m j e nan v = elim v [ ]
times_of s m j e (inf _) v = elim v [ ]

pub times : (s : Bool) (m : ℕ) (e : ℤ) (j : ℕ) → j ≤ 2 ^ 53 → mul binary64 (fin s m e) (float j) ≡ round binary64 s (m * up e * j) (down e)
unfolding of_int
times s m e j h = times_of s m j e (round binary64 false j 1) (round_whole binary64 false j h)

-- ---- between zero and a float of some size
zero_size : (m n : ℕ) (e : ℤ) → m * up e ≡ 0 → m * up e ≤ n * down e
zero_size m n e h = omega (arith, h)

both_eq : (a b : Bool) → T (a && b) → T a × T b
both_eq true true t = (tt, tt)
both_eq true false t = absurd t
both_eq false b t = absurd t

under : (n : ℕ) (x y : Float) → T (le (fin false 0 (pos 0)) x) → T (le x y) → Sized n y → Sized n x
unfolding le lt eq
under n nan y z t q = absurd z
under n (inf true) y z t q = absurd z
under n (inf false) y z t (sized s k d l) = absurd t
under n (fin true m e) y z t q =
    let b = both_eq (eqb (0 * 1 * down e) (m * up e * 1)) (eqb (0 * 1 * down e) 0) z in
    sized true m e (zero_size m n e (omega (arith, zero-mul (down e), eqb-true (0 * 1 * down e) (m * up e * 1) (lib.Ieee.Bits.is_true (eqb (0 * 1 * down e) (m * up e * 1)) b.0))))
under n (fin false m e) y z t (sized false k d l) =
    sized false m e
    (le_of_mul-le-mul_right
    (le_trans (le_pos m k e d t) (le_trans (mul-le-mul_right (down e) l) (le_of_eq (mul_right_comm n (down d) (down e)))))
    (down_pos d))
under n (fin false m e) y z t (sized true k d l) =
    let b = both_eq (eqb (m * up e * down d) (k * up d * down e)) (eqb (m * up e * down d) 0) t in
    let w : m * up e * down d ≡ 0 = eqb-true (m * up e * down d) 0 (lib.Ieee.Bits.is_true (eqb (m * up e * down d) 0) b.1) in
    sized false m e (le_of_mul-le-mul_right (le_trans (le_of_eq w) (let z : 0 ≤ n * down e * down d = omega arith in z)) (down_pos d))

zero_is : round binary64 false 0 1 ≡ fin false 0 (pos 0)
unfolding round size
zero_is = refl

-- a smaller number, rounded, is no larger
smaller_up : (n a b d : ℕ) → 0 < d → a ≤ b → Sized n (round binary64 false b d) → Sized n (round binary64 false a d)
smaller_up n a b d p h q =
    under n (round binary64 false a d) (round binary64 false b d)
    (subst (λ (x : Float). T (le x (round binary64 false a d))) zero_is (round_mono binary64 0 1 a d (lit< tt) p (omega (arith, zero-mul d))))
    (round_mono binary64 a d b d p p (mul-le-mul_right d h))
    q

smaller : (n : ℕ) (s : Bool) (a b d : ℕ) → 0 < d → a ≤ b → Sized n (round binary64 s b d) → Sized n (round binary64 s a d)
smaller n false a b d p h q = smaller_up n a b d p h q
smaller n true a b d p h q =
    subst (Sized n) (round_neg binary64 false a d)
    (sized_neg (smaller_up n a b d p h (subst (Sized n) (round_neg binary64 true b d) (sized_neg q))))

-- FEWER TIMES a float is no larger
pub fewer_times : {n : ℕ} {x : Float} (j k : ℕ) → j ≤ k → k ≤ 2 ^ 53 → Sized 900 x → Sized n (mul binary64 x (float k)) → Sized n (mul binary64 x (float j))
fewer_times {n} j k h g (sized s m e l) q =
    subst (Sized n) (sym (times s m e j (le_trans h g)))
    (smaller n s (m * up e * j) (m * up e * k) (down e) (down_pos e) (mul-le-mul_left (m * up e) h) (subst (Sized n) (times s m e k g) q))
