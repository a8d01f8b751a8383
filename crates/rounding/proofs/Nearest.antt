-- Half a quotient and its rest, rounded to the nearest, a tie to the even one. Assumes nothing.
use Rattle.std.proofs.Common.{◌≡◌, ℕ, zero, suc, ◌+◌, ◌-◌, ◌*◌, ◌/◌, ◌%◌, ◌^◌, ◌<◌, ◌≤◌, Bool, true, false, not, T, eqb, sym, refl, ap, ◌∙◌, subst, mod-lt, mul_comm, one-mul, zero-mul, add-one, arith, lit<, eqb→eq, leb→le}
use Prim.Native.Nat.{compare, Ordering}
use native.Mathlib.Nat.{div-div-eq-div-mul}
use lib.Dec.{is_le, compare_is_eq, nleb→lt, eqb_refl, eqb-suc-zero}
use lib.Arith.{digits_div, digits_mod, mod-mul, lt_of_le-ne}
use lib.Ieee.{nearest}
use lib.Ieee.Nearest.{closest}
use Rattle.base.specs.Said.{pick}
use Rattle.rounding.specs.Nearest.{rounded_half}

-- what `nearest` picks, by the comparison of the rest with a half
Cmp : Ordering → ℕ → ℕ → Type 0
Cmp Ordering.lt a b = a < b
Cmp Ordering.eq a b = a ≡ b
Cmp Ordering.gt a b = b < a

cmp : (a b : ℕ) → Cmp (compare a b) a b
unfolding Cmp
cmp a b = go (compare a b) (leb→le a b) (nleb→lt a b) (eqb→eq a b) (λ (e : a ≡ b). subst (λ (x : ℕ). T (eqb a x)) e (eqb_refl a))
  where
    go : (o : Ordering) → (T (is_le o) → a ≤ b) → (T (not (is_le o)) → b < a) → (T (compare_is_eq o) → a ≡ b) → (a ≡ b → T (compare_is_eq o)) → Cmp o a b
    go Ordering.lt h k e n = lt_of_le-ne (h tt) n
    go Ordering.eq h k e n = e tt
    go Ordering.gt h k e n = k tt

pub near_lt : (w a b : ℕ) → a < b → nearest w (compare a b) ≡ w
unfolding Cmp
near_lt w a b h = go (compare a b) (cmp a b)
  where
    go : (o : Ordering) → Cmp o a b → nearest w o ≡ w
    go Ordering.lt c = refl
    go Ordering.eq c = absurd (omega (arith, c, h))
    go Ordering.gt c = absurd (omega (arith, c, h))

pub near_eq : (w a b : ℕ) → a ≡ b → nearest w (compare a b) ≡ w + w % 2
unfolding Cmp
near_eq w a b h = go (compare a b) (cmp a b)
  where
    go : (o : Ordering) → Cmp o a b → nearest w o ≡ w + w % 2
    go Ordering.lt c = absurd (omega (arith, c, h))
    go Ordering.eq c = refl
    go Ordering.gt c = absurd (omega (arith, c, h))

pub near_gt : (w a b : ℕ) → b < a → nearest w (compare a b) ≡ w + 1
unfolding Cmp
near_gt w a b h = go (compare a b) (cmp a b)
  where
    go : (o : Ordering) → Cmp o a b → nearest w o ≡ w + 1
    go Ordering.lt c = absurd (omega (arith, c, h))
    go Ordering.eq c = absurd (omega (arith, c, h))
    go Ordering.gt c = sym (add-one w)

-- half a quotient with its rest, to the nearest
pub half_closest : (q e r : ℕ) → r < e → closest (q * e + r) (e * 2) ≡ rounded_half q r
half_closest q e r p =
    let a = q * e + r in
    let w : a / (e * 2) ≡ q / 2 = sym (div-div-eq-div-mul a e 2) ∙ ap (λ (x : ℕ). x / 2) (digits_div q p) in
    let m : a % (e * 2) ≡ q % 2 * e + r =
    ap (λ (x : ℕ). a % x) (mul_comm e 2) ∙ mod-mul a {m = 2} {c = e} (lit< tt) (omega arith)
    ∙ ap (λ (x : ℕ). x % 2 * e + a % e) (digits_div q p) ∙ ap (λ (x : ℕ). q % 2 * e + x) (digits_mod q p) in
    ap (λ (x : ℕ). nearest x (compare (a % (e * 2) * 2) (e * 2))) w
    ∙ ap (λ (x : ℕ). nearest (q / 2) (compare (x * 2) (e * 2))) m
    ∙ go (q % 2) r (mod-lt q (lit< tt)) p
  where
    h : ℕ
    h = q / 2

    go : (b r : ℕ) → b < 2 → r < e → nearest h (compare ((b * e + r) * 2) (e * 2)) ≡ pick (eqb b 0) h (pick (eqb r 0) (h + h % 2) (h + 1))
    go zero r l k = near_lt h ((0 * e + r) * 2) (e * 2) (omega (arith, zero-mul e))
    go (suc zero) zero l k = near_eq h ((1 * e + 0) * 2) (e * 2) (omega (arith, one-mul e))
    go (suc zero) (suc r) l k = rw (eqb-suc-zero r) (near_gt h ((1 * e + suc r) * 2) (e * 2) (omega (arith, one-mul e)))
    go (suc (suc b)) r l k = absurd (omega arith)

-- the bounds of the result
pub half_low : (q r : ℕ) → 2 ^ 53 ≤ q → 2 ^ 52 ≤ rounded_half q r
half_low q r h = go (eqb (q % 2) 0) (eqb r 0)
  where
    go : (a b : Bool) → 2 ^ 52 ≤ pick a (q / 2) (pick b (q / 2 + q / 2 % 2) (q / 2 + 1))
    go true b = omega arith
    go false true = omega arith
    go false false = omega arith

pub half_high : (q r : ℕ) → q < 2 ^ 54 → rounded_half q r ≤ 2 ^ 53
half_high q r h = go (eqb (q % 2) 0) (eqb r 0)
  where
    go : (a b : Bool) → pick a (q / 2) (pick b (q / 2 + q / 2 % 2) (q / 2 + 1)) ≤ 2 ^ 53
    go true b = omega arith
    go false true = omega arith
    go false false = omega arith
