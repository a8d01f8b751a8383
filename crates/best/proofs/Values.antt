-- The best fraction as a value: it is in lowest terms, a ratio that is an allowed fraction is answered by that, and with limit 0 there is
-- none. Assumes nothing.
use mathlib.Core.Path.{◌≡◌, sym, ap, ◌∙◌, subst}
use mathlib.Core.Logic.{◌⊎◌, inl, inr}
use mathlib.Core.Bool.{true, false}
use Prim.Native.Nat.{ℕ, ◌*◌, ◌≤◌, ◌<◌}
use native.Mathlib.Nat.{le_trans, le_of_eq, lt_of_lt_of_le, lt_of_le_of_lt, le_antisymm, mul_comm, one-mul, mul-zero, zero-mul, mul-pos}
use native.Mathlib.Nat.{mul-le-mul_right, le_of_mul-le-mul_right, mul-lt-mul_of_pos_right}
use native.Mathlib.Omega.{arith}
use lib.Dec.{leb, lit<}
use borrow.Author.Tests.{le-leb, lt-leb}
use Rattle.base.proofs.Integers.{split}
use Rattle.math.specs.OddPart.{OddPart, odd_part}
use Rattle.math.proofs.OddPart.{one_part, odd_some, odd_times}
use Rattle.math.proofs.Theorems.{odd_part_law}
use Rattle.best.specs.Best.{Allowed, NoFurther, Best}
use Rattle.best.proofs.Choice.{to_far, from_far}

-- a number of 16 bits has its odd part
its_odd : (n : ℕ) → n ≤ 65535 → OddPart n (odd_part n)
its_odd n h = odd_part_law n (lt_of_le_of_lt h (lit< tt))

-- no number's odd part is 0
pub none_allowed : {n : ℕ} → Allowed 0 n → ⊥
none_allowed {n} a = let l = odd_some (its_odd n a.held) a.some in omega (arith, a.within, l)

-- ---- a divisor of an allowed number is allowed
module _ (g n : ℕ) (some : 1 ≤ g * n) (held : g * n ≤ 65535) where
  -- neither factor is 0
  pub left_some : 1 ≤ g
  left_some = go (split 0 g)
    where
      none : g ≡ 0 → g * n ≡ 0
      none e = ap (λ (x : ℕ). x * n) e ∙ zero-mul n

      go : (0 < g) ⊎ (g ≤ 0) → 1 ≤ g
      go (inl h) = h
      go (inr h) = absurd (let z = none (omega arith) in omega (arith, some, z))

  pub right_some : 1 ≤ n
  right_some = go (split 0 n)
    where
      none : n ≡ 0 → g * n ≡ 0
      none e = ap (λ (x : ℕ). g * x) e ∙ mul-zero g

      go : (0 < n) ⊎ (n ≤ 0) → 1 ≤ n
      go (inl h) = h
      go (inr h) = absurd (let z = none (omega arith) in omega (arith, some, z))

  right_held : n ≤ 65535
  right_held = le_trans (le_of_eq (sym (one-mul n))) (le_trans (mul-le-mul_right n left_some) held)

  left_held : g ≤ 65535
  left_held = le_trans (le_of_eq (sym (one-mul g))) (le_trans (mul-le-mul_right g right_some) (le_trans (le_of_eq (mul_comm n g)) held))

  divisor_odd : odd_part n ≤ odd_part (g * n)
  divisor_odd =
      let a = its_odd g left_held in
      let same : odd_part (g * n) ≡ odd_part g * odd_part n = one_part (its_odd (g * n) held) (odd_times a (its_odd n right_held)) in
      le_trans (le_of_eq (sym (one-mul (odd_part n)))) (le_trans (mul-le-mul_right (odd_part n) (odd_some a left_some)) (le_of_eq (sym same)))

  pub divisor_allowed : {limit : ℕ} → Allowed limit (g * n) → Allowed limit n
  divisor_allowed a = record { some = right_some; held = right_held; within = le_trans divisor_odd a.within }

-- ---- a fraction and the same without a common factor are as far
same_far : (A C g n d : ℕ) → 0 < g → NoFurther A C n d (g * n) (g * d)
same_far A C g n d some = go (split (A * d) (C * n))
  where
    turned : (a b c : ℕ) → a * (b * c) ≡ a * c * b
    turned a b c = omega arith

    go : (A * d < C * n) ⊎ (C * n ≤ A * d) → NoFurther A C n d (g * n) (g * d)
    go (inr h) = to_far A C n d (g * n) (g * d) true true (le-leb _ _ h)
        (le-leb _ _ (le_trans (le_of_eq (turned C g n)) (le_trans (mul-le-mul_right g h) (le_of_eq (sym (turned A g d))))))
        (le_of_eq (mixed A C d n))
      where
        mixed : (A C d n : ℕ) → A * d * (C * (g * n)) ≡ A * (g * d) * (C * n)
        mixed A C d n = omega arith
    go (inl h) = to_far A C n d (g * n) (g * d) false false (lt-leb _ _ h)
        (lt-leb _ _ (lt_of_le_of_lt (le_of_eq (turned A g d))
        (lt_of_lt_of_le (mul-lt-mul_of_pos_right h some) (le_of_eq (sym (turned C g n))))))
        (le_of_eq (mixed A C d n))
      where
        mixed : (A C d n : ℕ) → C * n * (A * (g * d)) ≡ C * (g * n) * (A * d)
        mixed A C d n = omega arith

module _ (A C limit n d : ℕ) (b : Best A C limit n d) where
  pub no_common : (g p q : ℕ) → n ≡ g * p → d ≡ g * q → g ≡ 1
  no_common g p q e f =
      let an = subst (Allowed limit) e b.numer in
      let ad = subst (Allowed limit) f b.denom in
      let some = left_some g p an.some an.held in
      let far : NoFurther A C p q n d =
      subst (λ (x : ℕ). NoFurther A C p q x d) (sym e)
      (subst (λ (y : ℕ). NoFurther A C p q (g * p) y) (sym f) (same_far A C g p q some)) in
      go (right_some g q ad.some ad.held) some
      (b.ties p q (divisor_allowed g p an.some an.held an) (divisor_allowed g q ad.some ad.held ad) far)
    where
      -- a factor above 1 would leave a smaller denominator
      go : 1 ≤ q → 1 ≤ g → (d < q) ⊎ ((d ≡ q) × (n ≤ p)) → g ≡ 1
      go h k (inl l) = absurd (let m : q ≤ g * q = le_trans (le_of_eq (sym (one-mul q))) (mul-le-mul_right q k) in omega (arith, f, m, l))
      go h k (inr (z, _)) = le_antisymm (le_of_mul-le-mul_right {k = q} (le_of_eq (sym f ∙ z ∙ sym (one-mul q))) h) k

  -- where A / C is an allowed fraction, the best is no further from it: it is the same number
  pub met : 0 < C → (p q : ℕ) → Allowed limit p → Allowed limit q → A * q ≡ C * p → A * d ≡ C * n
  met c p q ap-allowed aq e = go (split (A * d) (C * n))
    where
      some : 0 < C * p
      some = mul-pos c ap-allowed.some

      far : NoFurther A C n d p q
      far = b.nearest p q ap-allowed aq

      side : leb (C * p) (A * q) ≡ true
      side = le-leb (C * p) (A * q) (le_of_eq (sym e))

      -- A / C and p / q are one number, over which both sides are taken
      over : (x y : ℕ) → x * (C * p) ≤ A * q * y → x ≤ y
      over x y h = le_of_mul-le-mul_right {k = C * p} (le_trans h (le_of_eq (ap (λ (z : ℕ). z * y) e ∙ mul_comm (C * p) y))) some

      go : (A * d < C * n) ⊎ (C * n ≤ A * d) → A * d ≡ C * n
      go (inl h) =
          let l = over (C * n) (A * d) (from_far A C n d p q false true (lt-leb (C * n) (A * d) h) side far) in
          absurd (omega (arith, h, l))
      go (inr h) = le_antisymm (over (A * d) (C * n) (from_far A C n d p q true true (le-leb (C * n) (A * d) h) side far)) h
