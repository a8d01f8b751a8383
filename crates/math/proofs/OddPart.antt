-- What halving while a number is even comes to is its odd part, and there is one. Assumes nothing.
use mathlib.Core.Path.{◌≡◌, refl, sym, ap, ◌∙◌}
use mathlib.Core.Bool.{Bool, true, false}
use Prim.Native.Nat.{ℕ, zero, suc, ◌+◌, ◌*◌, ◌/◌, ◌%◌, ◌^◌, ◌≤◌, ◌<◌}
use native.Mathlib.Nat.{pow-succ', le_trans, le_of_eq, mul-one, mul-zero, zero-mul, mul_assoc, mul_left_comm, mul-le-mul_left}
use native.Mathlib.Omega.{arith}
use lib.Dec.{eqb}
use lib.Pow.{pow_pos, pow-add}
use borrow.Author.Tests.{eqb-true, eqb-false}
use Rattle.base.specs.Said.{pick}
use Rattle.math.specs.OddPart.{OddPart, halved_while_even}

from_half : (n m : ℕ) → n % 2 ≡ 0 → OddPart (n / 2) m → OddPart n m
from_half n m h (OddPart.none e z) = OddPart.none (omega (arith, h, e)) z
from_half n m h (OddPart.odd k e o) =
    let p : m * 2 ^ suc k ≡ 2 * (m * 2 ^ k) = rw pow-succ' (mul_left_comm m 2 (2 ^ k)) in
    OddPart.odd (suc k) (omega (arith, h, e, p)) o

pub halved_is : (k n : ℕ) → n < 2 ^ k → OddPart n (halved_while_even k n)
unfolding halved_while_even
halved_is zero n h = OddPart.none (omega arith) (omega arith)
halved_is (suc k) n h = by (eqb (n % 2) 0) refl (halved_is k (n / 2) (omega (arith, pow-succ' 2 k)))
  where
    by : (t : Bool) → eqb (n % 2) 0 ≡ t → OddPart (n / 2) (halved_while_even k (n / 2)) → OddPart n (pick t (halved_while_even k (n / 2)) n)
    by true e o = from_half n _ (eqb-true (n % 2) 0 e) o
    by false e o = let z = eqb-false (n % 2) 0 e in OddPart.odd 0 (omega arith) (omega (arith, z))

-- an odd number times a power of two determines the odd number
same_odd : (k k' m m' : ℕ) → m * 2 ^ k ≡ m' * 2 ^ k' → m % 2 ≡ 1 → m' % 2 ≡ 1 → m ≡ m'
same_odd zero zero m m' e o o' = omega (arith, e)
same_odd zero (suc k') m m' e o o' =
    let p : m' * 2 ^ suc k' ≡ 2 * (m' * 2 ^ k') = rw pow-succ' (mul_left_comm m' 2 (2 ^ k')) in absurd (omega (arith, e, p, o))
same_odd (suc k) zero m m' e o o' =
    let p : m * 2 ^ suc k ≡ 2 * (m * 2 ^ k) = rw pow-succ' (mul_left_comm m 2 (2 ^ k)) in absurd (omega (arith, e, p, o'))
same_odd (suc k) (suc k') m m' e o o' =
    let p : m * 2 ^ suc k ≡ 2 * (m * 2 ^ k) = rw pow-succ' (mul_left_comm m 2 (2 ^ k)) in
    let p' : m' * 2 ^ suc k' ≡ 2 * (m' * 2 ^ k') = rw pow-succ' (mul_left_comm m' 2 (2 ^ k')) in
    same_odd k k' m m' (omega (arith, e, p, p')) o o'

never : (k m : ℕ) → m * 2 ^ k ≡ 0 → m % 2 ≡ 1 → ⊥
never k m e o = omega (arith, o, mul_pos_zero k m e)
  where
    mul_pos_zero : (k m : ℕ) → m * 2 ^ k ≡ 0 → m ≡ 0
    mul_pos_zero zero m e = omega (arith, e)
    mul_pos_zero (suc k) m e =
        let p : m * 2 ^ suc k ≡ 2 * (m * 2 ^ k) = rw pow-succ' (mul_left_comm m 2 (2 ^ k)) in mul_pos_zero k m (omega (arith, e, p))

pub one_part : {n m m' : ℕ} → OddPart n m → OddPart n m' → m ≡ m'
one_part (OddPart.none e z) (OddPart.none e' z') = z ∙ sym z'
one_part {n} {m} {m'} (OddPart.none e z) (OddPart.odd k e' o) = absurd (never k m' (sym e' ∙ e) o)
one_part {n} {m} {m'} (OddPart.odd k e o) (OddPart.none e' z) = absurd (never k m (sym e ∙ e') o)
one_part {n} {m} {m'} (OddPart.odd k e o) (OddPart.odd k' e' o') = same_odd k k' m m' (sym e ∙ e') o o'

-- ---- the odd part of a multiple
-- it is no larger than the number
pub odd_le : {n m : ℕ} → OddPart n m → m ≤ n
odd_le (OddPart.none e z) = omega (arith, e, z)
odd_le {n} {m} (OddPart.odd k e o) = le_trans (le_of_eq (sym (mul-one m))) (le_trans (mul-le-mul_left m (pow_pos k)) (le_of_eq (sym e)))

-- doubling leaves it
pub odd_doubled : {n m : ℕ} (k : ℕ) → OddPart n m → OddPart (n * 2 ^ k) m
odd_doubled {n} k (OddPart.none e z) = OddPart.none (ap (λ (x : ℕ). x * 2 ^ k) e ∙ zero-mul (2 ^ k)) z
odd_doubled {n} {m} k (OddPart.odd j e o) =
    OddPart.odd (j + k) (ap (λ (x : ℕ). x * 2 ^ k) e ∙ mul_assoc m (2 ^ j) (2 ^ k) ∙ ap (λ (x : ℕ). m * x) (sym (pow-add 2 j k))) o

-- of a number above 0 it is above 0
pub odd_some : {n m : ℕ} → OddPart n m → 1 ≤ n → 1 ≤ m
odd_some (OddPart.none e z) h = absurd (omega (arith, e, h))
odd_some (OddPart.odd k e o) h = omega (arith, o)

-- of a product it is the product
odd_product : (a b : ℕ) → a % 2 ≡ 1 → b % 2 ≡ 1 → a * b % 2 ≡ 1
odd_product a b e f =
    let half : a * b ≡ 2 * (a / 2 * b) + b = ap (λ (x : ℕ). x * b) (let s : a ≡ a / 2 * 2 + 1 = omega (arith, e) in s) ∙ omega arith in
    omega (arith, f, half)

pub odd_times : {g n a b : ℕ} → OddPart g a → OddPart n b → OddPart (g * n) (a * b)
odd_times {n = n} {b = b} (OddPart.none e z) y = OddPart.none (ap (λ (x : ℕ). x * n) e ∙ zero-mul n) (ap (λ (x : ℕ). x * b) z ∙ zero-mul b)
odd_times {g} {a = a} (OddPart.odd k e o) (OddPart.none f z) =
    OddPart.none (ap (λ (x : ℕ). g * x) f ∙ mul-zero g) (ap (λ (x : ℕ). a * x) z ∙ mul-zero a)
odd_times {g} {n} {a} {b} (OddPart.odd k e o) (OddPart.odd j f p) =
    OddPart.odd (k + j) ((λ i. e i * f i) ∙ mixed (2 ^ k) (2 ^ j) ∙ ap (λ (x : ℕ). a * b * x) (sym (pow-add 2 k j))) (odd_product a b o p)
  where
    mixed : (x y : ℕ) → a * x * (b * y) ≡ a * b * (x * y)
    mixed x y = omega arith
