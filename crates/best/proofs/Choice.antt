-- Of the best fraction below A / C and the best one above it, the nearer is the best of all; of two as near the one with the smaller
-- denominator. And there is one answer. Assumes nothing.
use mathlib.Core.Path.{◌≡◌, sym, ap, ◌∙◌, subst}
use mathlib.Core.Logic.{◌⊎◌, inl, inr}
use mathlib.Core.Bool.{Bool, true, false}
use Prim.Native.Nat.{ℕ, ◌*◌, ◌≤◌, ◌<◌}
use native.Mathlib.Nat.{le_trans, le_of_eq, le_of_lt, lt_of_lt_of_le, lt_of_le_of_lt, not-le_of_lt, le_antisymm}
use native.Mathlib.Nat.{mul-le-mul_left, mul-le-mul_right, le_of_mul-le-mul_right, le_of_mul-le-mul_left, lt_of_mul-lt-mul_left}
use native.Mathlib.Nat.{mul_comm, mul-pos, eq_of_mul-eq-mul_right}
use native.Mathlib.Omega.{arith}
use lib.Dec.{leb}
use borrow.Author.Tests.{le-leb, lt-leb}
use Rattle.base.proofs.Integers.{split}
use Rattle.base.specs.Said.{pick}
use Rattle.best.specs.Best.{Allowed, NoFurther, Best}
use Rattle.best.specs.Walked.{AboveOrNone, Met, Seen}

-- ---- orders
-- less, or equal and more besides, is at most
at_most : {x y : ℕ} {Z : Type 0} → (x < y) ⊎ ((x ≡ y) × Z) → x ≤ y
at_most (inl h) = le_of_lt h
at_most (inr (e, _)) = le_of_eq e

-- no larger a denominator, and where it is the same no larger a numerator
settled : (n d p q : ℕ) → d ≤ q → (d ≡ q → n ≤ p) → (d < q) ⊎ ((d ≡ q) × (n ≤ p))
settled n d p q h g = by (split d q)
  where
    by : (d < q) ⊎ (q ≤ d) → (d < q) ⊎ ((d ≡ q) × (n ≤ p))
    by (inl l) = inl l
    by (inr l) = let e = le_antisymm h l in inr (e, g e)

-- ---- which is larger: `NoFurther` where n / d and p / q lie on sides that are known
module _ (A C n d p q : ℕ) where
  abbrev Far : Bool → Bool → Type 0
  Far s t = pick s (A * d) (C * n) * pick t (C * p) (A * q) ≤ pick t (A * q) (C * p) * pick s (C * n) (A * d)

  pub to_far : (s t : Bool) → leb (C * n) (A * d) ≡ s → leb (C * p) (A * q) ≡ t → Far s t → NoFurther A C n d p q
  to_far s t e f h = subst (λ (b : Bool). Far b (leb (C * p) (A * q))) (sym e) (subst (λ (b : Bool). Far s b) (sym f) h)

  pub from_far : (s t : Bool) → leb (C * n) (A * d) ≡ s → leb (C * p) (A * q) ≡ t → NoFurther A C n d p q → Far s t
  from_far s t e f h = subst (λ (b : Bool). Far s b) f (subst (λ (b : Bool). Far b (leb (C * p) (A * q))) e h)

-- ---- products of the same factors
swap : (A C d p : ℕ) → A * d * (C * p) ≡ p * d * (A * C)
swap A C d p = omega arith

swap_back : (A C d p : ℕ) → C * p * (A * d) ≡ p * d * (A * C)
swap_back A C d p = mul_comm (C * p) (A * d) ∙ swap A C d p

module _ (A C n1 d1 n2 d2 p q : ℕ) where
  abbrev X : ℕ
  X = A * d1 * (A * d2)

  abbrev Y : ℕ
  Y = C * n1 * (C * n2)

  -- p / q above, no nearer than n2 / d2
  first : n2 * q ≤ p * d2 → A * d1 * (A * q) * n2 ≤ X * p
  first h = let k = mul-le-mul_left (A * d1 * A) h in omega arith

  second : Y * p ≡ C * n1 * (C * p) * n2
  second = omega arith

  -- p / q below, no nearer than n1 / d1
  third : p * d1 ≤ n1 * q → C * p * (C * n2) * d1 ≤ Y * q
  third h = let k = mul-le-mul_left (C * C * n2) h in omega arith

  fourth : X * q ≡ A * q * (A * d2) * d1
  fourth = omega arith

-- ---- what is chosen
module _ (A C limit d n1 d1 n2 d2 : ℕ) (A-some : 0 < A) (C-some : 0 < C) (m : Met A C limit d n1 d1 n2 d2)
    (all : (p q : ℕ) → Allowed limit p → Allowed limit q → Seen A C n1 d1 n2 d2 p q) where
  both : 0 < A * C
  both = mul-pos A-some C-some

  -- the one below
  module _ (an : Allowed limit n1) (ad : Allowed limit d1) (below : C * n1 ≤ A * d1)
      (chosen : (A * d1 * (A * d2) < C * n1 * (C * n2)) ⊎ ((A * d1 * (A * d2) ≡ C * n1 * (C * n2)) × (d1 ≤ d2))) where
    low_nearest : (p q : ℕ) → Allowed limit p → Allowed limit q → NoFurther A C n1 d1 p q
    low_nearest p q a b = go (split (A * q) (C * p))
      where
        go : (A * q < C * p) ⊎ (C * p ≤ A * q) → NoFurther A C n1 d1 p q
        go (inr h) = to_far A C n1 d1 p q true true (le-leb (C * n1) (A * d1) below) (le-leb (C * p) (A * q) h)
            (le_trans (le_of_eq (swap A C d1 p))
            (le_trans (mul-le-mul_right (A * C) ((all p q a b).low h)) (le_of_eq (sym (swap A C q n1)))))
        go (inl h) = to_far A C n1 d1 p q true false (le-leb (C * n1) (A * d1) below) (lt-leb (C * p) (A * q) h)
            (le_trans (le_of_mul-le-mul_right {k = n2}
            (le_trans (first A C n1 d1 n2 d2 p q ((all p q a b).high h))
            (le_trans (mul-le-mul_right p (at_most chosen)) (le_of_eq (second A C n1 d1 n2 d2 p q))))
            m.high_numer) (le_of_eq (mul_comm (C * n1) (C * p))))

    low_ties : (p q : ℕ) → Allowed limit p → Allowed limit q → NoFurther A C p q n1 d1 → (d1 < q) ⊎ ((d1 ≡ q) × (n1 ≤ p))
    low_ties p q a b f = go (split (A * q) (C * p))
      where
        -- one below that is as near is the same number
        same : C * p ≤ A * q → (d1 < q) ⊎ ((d1 ≡ q) × (n1 ≤ p))
        same h =
            let g = from_far A C p q n1 d1 true true (le-leb (C * p) (A * q) h) (le-leb (C * n1) (A * d1) below) f in
            let k : n1 * q ≤ p * d1 =
            le_of_mul-le-mul_right {k = A * C} (le_trans (le_of_eq (sym (swap A C q n1))) (le_trans g (le_of_eq (swap A C d1 p)))) both in
            let e : p * d1 ≡ n1 * q = le_antisymm ((all p q a b).low h) k in
            settled n1 d1 p q ((all p q a b).low_tie h e)
            (λ z. le_of_mul-le-mul_right {k = q} (le_of_eq (sym e ∙ ap (λ (x : ℕ). p * x) z)) b.some)

        -- one above that is as near is the same number as n2 / d2
        other : A * q < C * p → (d1 < q) ⊎ ((d1 ≡ q) × (n1 ≤ p))
        other h =
            let g = from_far A C p q n1 d1 false true (lt-leb (C * p) (A * q) h) (le-leb (C * n1) (A * d1) below) f in
            let x = all p q a b in
            let one = first A C n1 d1 n2 d2 p q (x.high h) in
            let two = second A C n1 d1 n2 d2 p q in
            let three : C * n1 * (C * p) * n2 ≤ A * d1 * (A * q) * n2 =
            mul-le-mul_right n2 (le_trans (le_of_eq (mul_comm (C * n1) (C * p))) g) in
            let met-same : C * n1 * (C * n2) ≤ A * d1 * (A * d2) =
            le_of_mul-le-mul_right {k = p} (le_trans (le_of_eq two) (le_trans three one)) a.some in
            by chosen x met-same (le_trans (mul-le-mul_right p (at_most chosen)) (le_trans (le_of_eq two) three))
          where
            by : (A * d1 * (A * d2) < C * n1 * (C * n2)) ⊎ ((A * d1 * (A * d2) ≡ C * n1 * (C * n2)) × (d1 ≤ d2))
                → Seen A C n1 d1 n2 d2 p q → C * n1 * (C * n2) ≤ A * d1 * (A * d2)
                → A * d1 * (A * d2) * p ≤ A * d1 * (A * q) * n2 → (d1 < q) ⊎ ((d1 ≡ q) × (n1 ≤ p))
            by (inl l) x k j = absurd (not-le_of_lt l k)
            by (inr (e, l)) x k j =
                let cancelled : p * d2 ≤ n2 * q =
                le_of_mul-le-mul_left {k = A * d1 * A} (omega arith) (mul-pos (mul-pos A-some ad.some) A-some) in
                let equal : n2 * q ≡ p * d2 = le_antisymm (x.high h) cancelled in
                let early : d2 ≤ q = x.high_tie h equal in
                settled n1 d1 p q (le_trans l early)
                (λ z. last m.high_is z (le_antisymm (subst (λ (y : ℕ). y ≤ d2) z l) early) equal)
              where
                last : AboveOrNone A C limit n2 d2 → d1 ≡ q → q ≡ d2 → n2 * q ≡ p * d2 → n1 ≤ p
                last (inl z) u v w = absurd (let s = b.some in omega arith)
                last (inr (_, _, over)) u v w =
                    let np : n2 ≡ p = eq_of_mul-eq-mul_right q b.some n2 p (w ∙ ap (λ (y : ℕ). p * y) (sym v)) in
                    let c : C * n1 < C * n2 = lt_of_le_of_lt below (subst (λ (y : ℕ). A * y < C * n2) (sym (u ∙ v)) over) in
                    le_trans (le_of_lt (lt_of_mul-lt-mul_left C c)) (le_of_eq np)

        go : (A * q < C * p) ⊎ (C * p ≤ A * q) → (d1 < q) ⊎ ((d1 ≡ q) × (n1 ≤ p))
        go (inr h) = same h
        go (inl h) = other h

    pub low_best : Best A C limit n1 d1
    low_best = record { numer = an; denom = ad; nearest = low_nearest; ties = low_ties }

  -- the one above
  module _ (an : Allowed limit n2) (ad : Allowed limit d2) (above : A * d2 < C * n2)
      (chosen : (C * n1 * (C * n2) < A * d1 * (A * d2)) ⊎ ((C * n1 * (C * n2) ≡ A * d1 * (A * d2)) × (d2 < d1))) where
    high_nearest : (p q : ℕ) → Allowed limit p → Allowed limit q → NoFurther A C n2 d2 p q
    high_nearest p q a b = go (split (A * q) (C * p))
      where
        go : (A * q < C * p) ⊎ (C * p ≤ A * q) → NoFurther A C n2 d2 p q
        go (inl h) = to_far A C n2 d2 p q false false (lt-leb (C * n2) (A * d2) above) (lt-leb (C * p) (A * q) h)
            (le_trans (le_of_eq (swap_back A C q n2))
            (le_trans (mul-le-mul_right (A * C) ((all p q a b).high h)) (le_of_eq (sym (swap_back A C d2 p)))))
        go (inr h) = to_far A C n2 d2 p q false true (lt-leb (C * n2) (A * d2) above) (le-leb (C * p) (A * q) h)
            (le_trans (le_of_eq (mul_comm (C * n2) (C * p))) (le_of_mul-le-mul_right {k = d1}
            (le_trans (third A C n1 d1 n2 d2 p q ((all p q a b).low h))
            (le_trans (mul-le-mul_right q (at_most chosen)) (le_of_eq (fourth A C n1 d1 n2 d2 p q))))
            m.low_denom))

    high_ties : (p q : ℕ) → Allowed limit p → Allowed limit q → NoFurther A C p q n2 d2 → (d2 < q) ⊎ ((d2 ≡ q) × (n2 ≤ p))
    high_ties p q a b f = go (split (A * q) (C * p))
      where
        same : A * q < C * p → (d2 < q) ⊎ ((d2 ≡ q) × (n2 ≤ p))
        same h =
            let g = from_far A C p q n2 d2 false false (lt-leb (C * p) (A * q) h) (lt-leb (C * n2) (A * d2) above) f in
            let k : p * d2 ≤ n2 * q =
            le_of_mul-le-mul_right {k = A * C}
            (le_trans (le_of_eq (sym (swap_back A C d2 p))) (le_trans g (le_of_eq (swap_back A C q n2)))) both in
            let e : n2 * q ≡ p * d2 = le_antisymm ((all p q a b).high h) k in
            settled n2 d2 p q ((all p q a b).high_tie h e)
            (λ z. le_of_mul-le-mul_right {k = q} (le_of_eq (e ∙ ap (λ (x : ℕ). p * x) z)) b.some)

        other : C * p ≤ A * q → (d2 < q) ⊎ ((d2 ≡ q) × (n2 ≤ p))
        other h =
            let g = from_far A C p q n2 d2 true false (le-leb (C * p) (A * q) h) (lt-leb (C * n2) (A * d2) above) f in
            let x = all p q a b in
            let one = third A C n1 d1 n2 d2 p q (x.low h) in
            let two = fourth A C n1 d1 n2 d2 p q in
            let three : A * q * (A * d2) * d1 ≤ C * p * (C * n2) * d1 =
            mul-le-mul_right d1 (le_trans g (le_of_eq (mul_comm (C * n2) (C * p)))) in
            let met-same : A * d1 * (A * d2) ≤ C * n1 * (C * n2) =
            le_of_mul-le-mul_right {k = q} (le_trans (le_of_eq two) (le_trans three one)) b.some in
            by chosen x met-same (le_trans (mul-le-mul_right q (at_most chosen)) (le_trans (le_of_eq two) three))
          where
            by : (C * n1 * (C * n2) < A * d1 * (A * d2)) ⊎ ((C * n1 * (C * n2) ≡ A * d1 * (A * d2)) × (d2 < d1))
                → Seen A C n1 d1 n2 d2 p q → A * d1 * (A * d2) ≤ C * n1 * (C * n2)
                → C * n1 * (C * n2) * q ≤ C * p * (C * n2) * d1 → (d2 < q) ⊎ ((d2 ≡ q) × (n2 ≤ p))
            by (inl l) x k j = absurd (not-le_of_lt l k)
            by (inr (e, l)) x k j =
                let cancelled : n1 * q ≤ p * d1 =
                le_of_mul-le-mul_left {k = C * C * n2} (omega arith) (mul-pos (mul-pos C-some C-some) m.high_numer) in
                inl (lt_of_lt_of_le l (x.low_tie h (le_antisymm (x.low h) cancelled)))

        go : (A * q < C * p) ⊎ (C * p ≤ A * q) → (d2 < q) ⊎ ((d2 ≡ q) × (n2 ≤ p))
        go (inl h) = same h
        go (inr h) = other h

    pub high_best : Best A C limit n2 d2
    high_best = record { numer = an; denom = ad; nearest = high_nearest; ties = high_ties }

-- ---- there is one answer
pub best_one : (A C limit n d p q : ℕ) → Best A C limit n d → Best A C limit p q → (n ≡ p) × (d ≡ q)
best_one A C limit n d p q s t =
    go (s.ties p q t.numer t.denom (t.nearest n d s.numer s.denom))
    (t.ties n d s.numer s.denom (s.nearest p q t.numer t.denom))
  where
    go : (d < q) ⊎ ((d ≡ q) × (n ≤ p)) → (q < d) ⊎ ((q ≡ d) × (p ≤ n)) → (n ≡ p) × (d ≡ q)
    go (inl h) (inl k) = absurd (omega arith)
    go (inl h) (inr (e, k)) = absurd (omega arith)
    go (inr (e, h)) (inl k) = absurd (omega arith)
    go (inr (e, h)) (inr (f, k)) = (le_antisymm h k, e)
