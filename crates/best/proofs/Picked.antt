-- Which of the two fractions is chosen, and that it is the best of all. Assumes nothing.
use mathlib.Core.Path.{◌≡◌, refl, sym, ap, ◌∙◌, subst}
use mathlib.Core.Logic.{◌⊎◌, inl, inr}
use mathlib.Core.Bool.{Bool, true, false, ◌&&◌, ◌||◌}
use Prim.Native.Nat.{ℕ, ◌+◌, ◌-◌, ◌*◌, ◌^◌, ◌≤◌, ◌<◌}
use native.Mathlib.Nat.{le_of_eq, le_of_lt, lt_of_le_of_lt, lt_of_lt_of_le, not-le_of_lt, mul_assoc, mul-zero, zero-mul, mul-pos}
use native.Mathlib.Nat.{mul-le-mul, mul-lt-mul_of_pos_right}
use native.Mathlib.Omega.{arith}
use lib.Dec.{T, leb, ltb, eqb, lit≤, lit<}
use lib.Pow.{pow-add, pow_pos}
use borrow.Author.Tests.{ltb-true, ltb-false, eqb-true, eqb-false, leb-true, leb-false}
use Rattle.base.proofs.Integers.{split}
use Rattle.math.specs.OddPart.{halved_while_even}
use Rattle.best.specs.Best.{Allowed, Best}
use Rattle.best.specs.Walked.{BelowOrNone, AboveOrNone, Seen, Finished, Two, LowWins, HighWins, Picks}
use Rattle.best.specs.declared.Candidate.{Candidate}
use Rattle.best.specs.declared.Walk.{Walk}
use Rattle.best.proofs.Below.{far_above, far_below}
use Rattle.best.proofs.Passing.{all_seen}
use Rattle.best.proofs.Choice.{low_best, high_best}

-- two numbers of 16 bits
pub product_32 : (a b : ℕ) → a ≤ 65535 → b ≤ 65535 → a * b < 2 ^ 32
product_32 a b f g = lt_of_le_of_lt (mul-le-mul f g) (lit< tt)

-- ---- products that are nothing
none_left : (A d e : ℕ) → e ≡ 0 → A * d * (A * e) ≡ 0
none_left A d e z = ap (λ (x : ℕ). A * d * (A * x)) z ∙ ap (λ (x : ℕ). A * d * x) (mul-zero A) ∙ mul-zero (A * d)

none_right : (C n o : ℕ) → n ≡ 0 → C * n * (C * o) ≡ 0
none_right C n o z = ap (λ (x : ℕ). C * x * (C * o)) z ∙ ap (λ (x : ℕ). x * (C * o)) (mul-zero C) ∙ zero-mul (C * o)

module _ (A C : ℕ) (low high : Candidate) where
  pub picks_low : LowWins A C low high → Picks A C low high true
  picks_low h = record { is_low = λ _. h; is_high = λ e. absurd (subst T e tt) }

  pub picks_high : HighWins A C low high → Picks A C low high false
  picks_high h = record { is_low = λ e. absurd (subst T (sym e) tt); is_high = λ _. h }

  -- ---- one of the two is none
  module _ (two : Two A C low high) where
    above_some : low.numer ≡ 0 → 0 < high.denom
    above_some e = go two.some
      where
        go : (1 ≤ low.numer) ⊎ (1 ≤ high.denom) → 0 < high.denom
        go (inl h) = absurd (omega arith)
        go (inr h) = h

    below_some : high.denom ≡ 0 → 0 < low.numer
    below_some e = go two.some
      where
        go : (1 ≤ low.numer) ⊎ (1 ≤ high.denom) → 0 < low.numer
        go (inl h) = h
        go (inr h) = absurd (omega arith)

    pub none_above : 0 < C → high.denom ≡ 0 → LowWins A C low high
    none_above c e =
        inl (lt_of_le_of_lt (le_of_eq (none_left A low.denom high.denom e))
        (mul-pos (mul-pos c (below_some e)) (mul-pos c two.high_numer)))

    pub none_below : 0 < A → low.numer ≡ 0 → HighWins A C low high
    none_below a e =
        inl (lt_of_le_of_lt (le_of_eq (none_right C low.numer high.numer e))
        (mul-pos (mul-pos a two.low_denom) (mul-pos a (above_some e))))

    -- and what is none does not win
    pub low_some : 0 < A → LowWins A C low high → low.numer ≡ 0 → ⊥
    low_some a l e = go l
      where
        left : 0 < A * low.denom * (A * high.denom)
        left = mul-pos (mul-pos a two.low_denom) (mul-pos a (above_some e))

        right : C * low.numer * (C * high.numer) ≡ 0
        right = none_right C low.numer high.numer e

        go : LowWins A C low high → ⊥
        go (inl h) = omega (arith, h, right)
        go (inr (h, _)) = omega (arith, h, left, right)

    pub high_some : 0 < C → HighWins A C low high → high.denom ≡ 0 → ⊥
    high_some c l e = go l
      where
        left : A * low.denom * (A * high.denom) ≡ 0
        left = none_left A low.denom high.denom e

        right : 0 < C * low.numer * (C * high.numer)
        right = mul-pos (mul-pos c (below_some e)) (mul-pos c two.high_numer)

        go : HighWins A C low high → ⊥
        go (inl h) = omega (arith, h, left)
        go (inr (h, _)) = omega (arith, h, left, right)

-- ---- both are there: the ratio is between two fractions, and both sides of the comparison are over 2 ^ (2 * k)
module _ (m k : ℕ) (low high : Candidate) (two : Two (m * 2 ^ k) (2 ^ 1074) low high) where
  pub exponent_least : m < 2 ^ 53 → (low.numer ≡ 0 → ⊥) → 1006 ≤ k
  exponent_least small some = go (split k 1006) two.low_is
    where
      go : (k < 1006) ⊎ (1006 ≤ k) → (low.numer ≡ 0) ⊎ (2 ^ 1074 * low.numer ≤ m * 2 ^ k * low.denom) → 1006 ≤ k
      go (inr h) _ = h
      go (inl h) (inl e) = absurd (some e)
      go (inl h) (inr b) =
          let far = far_below low.numer low.denom m k (omega (arith, some)) two.low_held.denom small h in
          absurd (not-le_of_lt far b)

  pub exponent_most : 2 ^ 52 ≤ m → (high.denom ≡ 0 → ⊥) → k ≤ 1037
  exponent_most normal some = go (split 1037 k) two.high_is
    where
      go : (1037 < k) ⊎ (k ≤ 1037) → (high.denom ≡ 0) ⊎ (m * 2 ^ k * high.denom < 2 ^ 1074 * high.numer) → k ≤ 1037
      go (inr h) _ = h
      go (inl h) (inl e) = absurd (some e)
      go (inl h) (inr b) =
          let far = far_above high.numer high.denom m k two.high_held.numer (omega (arith, some)) normal h in
          absurd (not-le_of_lt b (le_of_lt far))

module _ (m k n1 d1 n2 d2 : ℕ) (least : 1006 ≤ k) (most : k ≤ 1037) where
  X0 : ℕ
  X0 = m * m * (d1 * d2)

  Y0 : ℕ
  Y0 = n1 * n2 * 2 ^ ((1037 - k) * 2 + 74)

  left : m * 2 ^ k * d1 * (m * 2 ^ k * d2) ≡ X0 * 2 ^ (k + k)
  unfolding X0
  left = go (2 ^ k) ∙ ap (λ (z : ℕ). m * m * (d1 * d2) * z) (sym (pow-add 2 k k))
    where
      go : (p : ℕ) → m * p * d1 * (m * p * d2) ≡ m * m * (d1 * d2) * (p * p)
      go p = omega arith

  right : 2 ^ 1074 * n1 * (2 ^ 1074 * n2) ≡ Y0 * 2 ^ (k + k)
  unfolding Y0
  right =
      let e : 1074 + 1074 ≡ (1037 - k) * 2 + 74 + (k + k) = omega arith in
      go (2 ^ 1074)
      ∙ ap (λ (z : ℕ). n1 * n2 * z)
      (sym (pow-add 2 1074 1074) ∙ ap (λ (z : ℕ). 2 ^ z) e ∙ pow-add 2 ((1037 - k) * 2 + 74) (k + k))
      ∙ sym (mul_assoc (n1 * n2) (2 ^ ((1037 - k) * 2 + 74)) (2 ^ (k + k)))
    where
      go : (p : ℕ) → p * n1 * (p * n2) ≡ n1 * n2 * (p * p)
      go p = omega arith

  less : X0 < Y0 → m * 2 ^ k * d1 * (m * 2 ^ k * d2) < 2 ^ 1074 * n1 * (2 ^ 1074 * n2)
  less h = lt_of_le_of_lt (le_of_eq left) (lt_of_lt_of_le (mul-lt-mul_of_pos_right h (pow_pos (k + k))) (le_of_eq (sym right)))

  more : Y0 < X0 → 2 ^ 1074 * n1 * (2 ^ 1074 * n2) < m * 2 ^ k * d1 * (m * 2 ^ k * d2)
  more h = lt_of_le_of_lt (le_of_eq right) (lt_of_lt_of_le (mul-lt-mul_of_pos_right h (pow_pos (k + k))) (le_of_eq (sym left)))

  even : X0 ≡ Y0 → m * 2 ^ k * d1 * (m * 2 ^ k * d2) ≡ 2 ^ 1074 * n1 * (2 ^ 1074 * n2)
  even h = left ∙ ap (λ (z : ℕ). z * 2 ^ (k + k)) h ∙ sym right

  abbrev Low : Type 0
  Low = (m * 2 ^ k * d1 * (m * 2 ^ k * d2) < 2 ^ 1074 * n1 * (2 ^ 1074 * n2))
      ⊎ ((m * 2 ^ k * d1 * (m * 2 ^ k * d2) ≡ 2 ^ 1074 * n1 * (2 ^ 1074 * n2)) × (d1 ≤ d2))

  abbrev High : Type 0
  High = (2 ^ 1074 * n1 * (2 ^ 1074 * n2) < m * 2 ^ k * d1 * (m * 2 ^ k * d2))
      ⊎ ((2 ^ 1074 * n1 * (2 ^ 1074 * n2) ≡ m * 2 ^ k * d1 * (m * 2 ^ k * d2)) × (d2 < d1))

  lows : (x y z : Bool) → ltb X0 Y0 ≡ x → eqb X0 Y0 ≡ y → leb d1 d2 ≡ z → (x || (y && z)) ≡ true → Low
  lows true y z e f g h = inl (less (ltb-true X0 Y0 e))
  lows false true true e f g h = inr (even (eqb-true X0 Y0 f), leb-true d1 d2 g)
  lows false true false e f g h = absurd (subst T (sym h) tt)
  lows false false z e f g h = absurd (subst T (sym h) tt)

  highs : (x y z : Bool) → ltb X0 Y0 ≡ x → eqb X0 Y0 ≡ y → leb d1 d2 ≡ z → (x || (y && z)) ≡ false → High
  highs true y z e f g h = absurd (subst T h tt)
  highs false true true e f g h = absurd (subst T h tt)
  highs false true false e f g h = inr (sym (even (eqb-true X0 Y0 f)), leb-false d1 d2 g)
  highs false false z e f g h = inl (more (apart (eqb-false X0 Y0 f) (ltb-false X0 Y0 e)))
    where
      apart : (X0 ≡ Y0 → ⊥) → Y0 ≤ X0 → Y0 < X0
      apart n l = omega (arith, n)

pub by_less : (m k : ℕ) (low high : Candidate) (r : Bool) → 1006 ≤ k → k ≤ 1037 →
    (let a = m * m * (low.denom * high.denom) in
    let b = low.numer * high.numer * 2 ^ ((1037 - k) * 2 + 74) in
    r ≡ (ltb a b || (eqb a b && leb low.denom high.denom))) → Picks (m * 2 ^ k) (2 ^ 1074) low high r
unfolding X0 Y0
by_less m k low high r a b e = record {
  is_low = λ h. lows m k low.numer low.denom high.numer high.denom a b _ _ _ refl refl refl (sym e ∙ h);
  is_high = λ h. highs m k low.numer low.denom high.numer high.denom a b _ _ _ refl refl refl (sym e ∙ h);
}

-- ---- the end of a walk
-- 1 is allowed by every limit but 0
pub one_allowed : (limit : ℕ) → 1 ≤ limit → Allowed limit 1
unfolding halved_while_even
one_allowed limit h = record { some = omega arith; held = lit≤ tt; within = h }

module _ (A C limit : ℕ) (w : Walk) (a : 0 < A) (c : 0 < C) (some-limit : 1 ≤ limit) (f : Finished A C limit w) where
  all : (p q : ℕ) → Allowed limit p → Allowed limit q → Seen A C w.low.numer w.low.denom w.high.numer w.high.denom p q
  all = all_seen f.passed f.ended

  -- 1 / 1 was passed, so one of the two is there
  pub two : Two A C w.low w.high
  two = record {
    low_held = f.ready.low;
    high_held = f.ready.high;
    low_denom = f.passed.met.low_denom;
    high_numer = f.passed.met.high_numer;
    low_is = below f.passed.met.low_is;
    high_is = above f.passed.met.high_is;
    some = go (split (A * 1) (C * 1));
  }
    where
      below : BelowOrNone A C limit w.low.numer w.low.denom →
          (w.low.numer ≡ 0) ⊎ (C * w.low.numer ≤ A * w.low.denom)
      below (inl e) = inl e
      below (inr (_, _, h)) = inr h

      above : AboveOrNone A C limit w.high.numer w.high.denom →
          (w.high.denom ≡ 0) ⊎ (A * w.high.denom < C * w.high.numer)
      above (inl e) = inl e
      above (inr (_, _, h)) = inr h

      one : Allowed limit 1
      one = one_allowed limit some-limit

      go : (A * 1 < C * 1) ⊎ (C * 1 ≤ A * 1) → (1 ≤ w.low.numer) ⊎ (1 ≤ w.high.denom)
      go (inl h) = inr (let k = (all 1 1 one one).high h in let l = f.passed.met.high_numer in omega arith)
      go (inr h) = inl (let k = (all 1 1 one one).low h in let l = f.passed.met.low_denom in omega arith)

  -- the chosen one is the best of all
  pub low_answer : LowWins A C w.low w.high → Best A C limit w.low.numer w.low.denom
  low_answer l = go f.passed.met.low_is
    where
      go : BelowOrNone A C limit w.low.numer w.low.denom → Best A C limit w.low.numer w.low.denom
      go (inl e) = absurd (low_some A C w.low w.high two a l e)
      go (inr (an, ad, b)) = low_best A C limit _ _ _ _ _ a c f.passed.met all an ad b l

  pub high_answer : HighWins A C w.low w.high → Best A C limit w.high.numer w.high.denom
  high_answer l = go f.passed.met.high_is
    where
      go : AboveOrNone A C limit w.high.numer w.high.denom → Best A C limit w.high.numer w.high.denom
      go (inl e) = absurd (high_some A C w.low w.high two c l e)
      go (inr (an, ad, b)) = high_best A C limit _ _ _ _ _ a c f.passed.met all an ad b l
