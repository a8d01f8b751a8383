-- A walk over all fractions n / d: below A / C the numerator goes up, above it the denominator. What was passed is no nearer than the
-- best fraction below and the best one above that were met. Assumes nothing.
use mathlib.Core.Path.{◌≡◌, refl, sym, ap, ◌∙◌, subst}
use mathlib.Core.Logic.{◌⊎◌, inl, inr}
use Prim.Native.Nat.{ℕ, ◌*◌, ◌≤◌, ◌<◌}
use native.Mathlib.Nat.{le_trans, le_of_eq, le_of_lt, lt_of_lt_of_le, lt_of_le_of_lt, not-le_of_lt}
use native.Mathlib.Nat.{mul-le-mul_left, mul-le-mul_right, mul-lt-mul_of_pos_right, lt_of_mul-lt-mul_right}
use native.Mathlib.Nat.{mul_comm, mul_assoc, mul_right_comm, mul_left_comm}
use native.Mathlib.Omega.{arith}
use Rattle.base.proofs.Integers.{split}
use Rattle.best.specs.Best.{Allowed}
use Rattle.best.specs.Walked.{Seen, Passed}

-- ---- fractions: x / y at most z / w is x * w ≤ z * y
-- o / p is below n / d, and q / r is at most o / p
below_of : (n d o p q r : ℕ) → 0 < r → o * d < n * p → q * p ≤ o * r → q * d < n * r
below_of n d o p q r R h k = lt_of_mul-lt-mul_right p
    (lt_of_le_of_lt (le_trans (le_of_eq (mul_right_comm q d p)) (mul-le-mul_right d k))
    (lt_of_le_of_lt (le_of_eq (mul_right_comm o r d))
    (lt_of_lt_of_le (mul-lt-mul_of_pos_right h R) (le_of_eq (mul_right_comm n p r)))))

-- o / p is above n / d, and q / r is at least o / p
above_of : (n d o p q r : ℕ) → 0 < q → n * p < o * d → o * r ≤ q * p → n * r < q * d
above_of n d o p q r Q h k = lt_of_mul-lt-mul_right o
    (lt_of_le_of_lt (le_trans (le_of_eq (mul_assoc n r o ∙ ap (λ (z : ℕ). n * z) (mul_comm r o))) (mul-le-mul_left n k))
    (lt_of_le_of_lt (le_of_eq (mul_left_comm n q p ∙ mul_comm q (n * p)))
    (lt_of_lt_of_le (mul-lt-mul_of_pos_right h Q) (le_of_eq (mul_right_comm o d q ∙ mul_assoc o q d ∙ mul_comm o (q * d))))))

-- ---- the start: nothing is passed
pub begin : (A C limit : ℕ) → Passed A C limit 1 1 0 1 1 0
begin A C limit = record {
  met = record {
    low_denom = omega arith;
    low_early = omega arith;
    low_is = inl refl;
    high_numer = omega arith;
    high_early = omega arith;
    high_is = inl refl;
  };
  seen = λ p q a b s. absurd (none p q a b s);
}
  where
    none : (p q : ℕ) → Allowed limit p → Allowed limit q → (p < 1) ⊎ (q < 1) → ⊥
    none p q a b (inl h) = omega (arith, a.some, h)
    none p q a b (inr h) = omega (arith, b.some, h)

-- ---- what a step passes
-- of numbers below m, where those of interest above n are at least m, it is below n or n itself
near : (n m p : ℕ) → (n < p → m ≤ p) → p < m → (p < n) ⊎ (p ≡ n)
near n m p first h = go (split p n) (split n p)
  where
    go : (p < n) ⊎ (n ≤ p) → (n < p) ⊎ (p ≤ n) → (p < n) ⊎ (p ≡ n)
    go (inl l) _ = inl l
    go (inr l) (inl g) = absurd (let k = first g in omega arith)
    go (inr l) (inr g) = inr (omega arith)

-- what is passed by a step to the next numerator, m: what was, and n over d or more
more_numer : (n d m p q : ℕ) → (n < p → m ≤ p) → (p < m) ⊎ (q < d) → ((p < n) ⊎ (q < d)) ⊎ ((p ≡ n) × (d ≤ q))
more_numer n d m p q first s = go (split q d) s
  where
    at_n : d ≤ q → (p < n) ⊎ (p ≡ n) → ((p < n) ⊎ (q < d)) ⊎ ((p ≡ n) × (d ≤ q))
    at_n k (inl h) = inl (inl h)
    at_n k (inr h) = inr (h, k)

    go : (q < d) ⊎ (d ≤ q) → (p < m) ⊎ (q < d) → ((p < n) ⊎ (q < d)) ⊎ ((p ≡ n) × (d ≤ q))
    go (inl k) _ = inl (inr k)
    go (inr k) (inl h) = at_n k (near n m p first h)
    go (inr k) (inr h) = absurd (omega arith)

-- and by one to the next denominator: n or more over d
more_denom : (n d m p q : ℕ) → (d < q → m ≤ q) → (p < n) ⊎ (q < m) → ((p < n) ⊎ (q < d)) ⊎ ((q ≡ d) × (n ≤ p))
more_denom n d m p q first s = go (split p n) s
  where
    at_d : n ≤ p → (q < d) ⊎ (q ≡ d) → ((p < n) ⊎ (q < d)) ⊎ ((q ≡ d) × (n ≤ p))
    at_d k (inl h) = inl (inr h)
    at_d k (inr h) = inr (h, k)

    go : (p < n) ⊎ (n ≤ p) → (p < n) ⊎ (q < m) → ((p < n) ⊎ (q < d)) ⊎ ((q ≡ d) × (n ≤ p))
    go (inl k) _ = inl (inl k)
    go (inr k) (inl h) = absurd (omega arith)
    go (inr k) (inr h) = at_d k (near d m q first h)

module _ (A C limit n d m n1 d1 n2 d2 : ℕ) (s : Passed A C limit n d n1 d1 n2 d2) where
  -- ---- n / d lies below, and m is the next numerator: n over d or more is below too
  module _ (first : (p : ℕ) → Allowed limit p → n < p → m ≤ p) (below : C * n ≤ A * d) where
    under : (q : ℕ) → d ≤ q → C * n ≤ A * q
    under q h = le_trans below (mul-le-mul_left A h)

    -- and is not better than what was met
    pub keep_low : n * d1 ≤ n1 * d → Passed A C limit m d n1 d1 n2 d2
    keep_low k = record { met = s.met; seen = λ p q a b h. go p q a b (more_numer n d m p q (first p a) h) }
      where
        here : (q : ℕ) → d ≤ q → Seen A C n1 d1 n2 d2 n q
        here q h = record {
          low = λ _. le_trans k (mul-le-mul_left n1 h);
          low_tie = λ _ _. le_trans s.met.low_early h;
          high = λ g. absurd (not-le_of_lt g (under q h));
          high_tie = λ g. absurd (not-le_of_lt g (under q h));
        }

        go : (p q : ℕ) → Allowed limit p → Allowed limit q → ((p < n) ⊎ (q < d)) ⊎ ((p ≡ n) × (d ≤ q)) → Seen A C n1 d1 n2 d2 p q
        go p q a b (inl h) = s.seen p q a b h
        go p q a b (inr (e, h)) = subst (λ (z : ℕ). Seen A C n1 d1 n2 d2 z q) (sym e) (here q h)

    -- or is better
    pub take_low : Allowed limit n → Allowed limit d → n1 * d < n * d1 → Passed A C limit m d n d n2 d2
    take_low an ad k = record {
      met = let t = s.met in record {
        low_denom = ad.some;
        low_early = omega arith;
        low_is = inr (an, ad, below);
        high_numer = t.high_numer;
        high_early = t.high_early;
        high_is = t.high_is;
      };
      seen = λ p q a b h. go p q a b (more_numer n d m p q (first p a) h);
    }
      where
        here : (q : ℕ) → d ≤ q → Seen A C n d n2 d2 n q
        here q h = record {
          low = λ _. mul-le-mul_left n h;
          low_tie = λ _ _. h;
          high = λ g. absurd (not-le_of_lt g (under q h));
          high_tie = λ g. absurd (not-le_of_lt g (under q h));
        }

        then : (p q : ℕ) → Allowed limit q → Seen A C n1 d1 n2 d2 p q → Seen A C n d n2 d2 p q
        then p q b t =
            let less : C * p ≤ A * q → p * d < n * q = λ g. below_of n d n1 d1 p q b.some k (t.low g) in
            record {
              low = λ g. le_of_lt (less g);
              low_tie = λ g e. absurd (let l = less g in omega arith);
              high = t.high;
              high_tie = t.high_tie;
            }

        go : (p q : ℕ) → Allowed limit p → Allowed limit q → ((p < n) ⊎ (q < d)) ⊎ ((p ≡ n) × (d ≤ q)) → Seen A C n d n2 d2 p q
        go p q a b (inl h) = then p q b (s.seen p q a b h)
        go p q a b (inr (e, h)) = subst (λ (z : ℕ). Seen A C n d n2 d2 z q) (sym e) (here q h)

  -- ---- n / d lies above, and m is the next denominator: n or more over d is above too
  module _ (later : d < m) (first : (q : ℕ) → Allowed limit q → d < q → m ≤ q) (above : A * d < C * n) where
    over : (p : ℕ) → n ≤ p → A * d < C * p
    over p h = lt_of_lt_of_le above (mul-le-mul_left C h)

    pub keep_high : n2 * d ≤ n * d2 → Passed A C limit n m n1 d1 n2 d2
    keep_high k = record {
      met = let t = s.met in record {
        low_denom = t.low_denom;
        low_early = omega (arith, t.low_early);
        low_is = t.low_is;
        high_numer = t.high_numer;
        high_early = omega (arith, t.high_early);
        high_is = t.high_is;
      };
      seen = λ p q a b h. go p q a b (more_denom n d m p q (first q b) h);
    }
      where
        here : (p : ℕ) → n ≤ p → Seen A C n1 d1 n2 d2 p d
        here p h = record {
          low = λ g. absurd (not-le_of_lt (over p h) g);
          low_tie = λ g. absurd (not-le_of_lt (over p h) g);
          high = λ _. le_trans k (mul-le-mul_right d2 h);
          high_tie = λ _ _. s.met.high_early;
        }

        go : (p q : ℕ) → Allowed limit p → Allowed limit q → ((p < n) ⊎ (q < d)) ⊎ ((q ≡ d) × (n ≤ p)) → Seen A C n1 d1 n2 d2 p q
        go p q a b (inl h) = s.seen p q a b h
        go p q a b (inr (e, h)) = subst (λ (z : ℕ). Seen A C n1 d1 n2 d2 p z) (sym e) (here p h)

    pub take_high : Allowed limit n → Allowed limit d → n * d2 < n2 * d → Passed A C limit n m n1 d1 n d
    take_high an ad k = record {
      met = let t = s.met in record {
        low_denom = t.low_denom;
        low_early = omega (arith, t.low_early);
        low_is = t.low_is;
        high_numer = an.some;
        high_early = omega arith;
        high_is = inr (an, ad, above);
      };
      seen = λ p q a b h. go p q a b (more_denom n d m p q (first q b) h);
    }
      where
        here : (p : ℕ) → n ≤ p → Seen A C n1 d1 n d p d
        here p h = record {
          low = λ g. absurd (not-le_of_lt (over p h) g);
          low_tie = λ g. absurd (not-le_of_lt (over p h) g);
          high = λ _. mul-le-mul_right d h;
          high_tie = λ _ _. omega arith;
        }

        then : (p q : ℕ) → Allowed limit p → Seen A C n1 d1 n2 d2 p q → Seen A C n1 d1 n d p q
        then p q a t =
            let less : A * q < C * p → n * q < p * d = λ g. above_of n d n2 d2 p q a.some k (t.high g) in
            record {
              low = t.low;
              low_tie = t.low_tie;
              high = λ g. le_of_lt (less g);
              high_tie = λ g e. absurd (let l = less g in omega arith);
            }

        go : (p q : ℕ) → Allowed limit p → Allowed limit q → ((p < n) ⊎ (q < d)) ⊎ ((q ≡ d) × (n ≤ p)) → Seen A C n1 d1 n d p q
        go p q a b (inl h) = then p q a (s.seen p q a b h)
        go p q a b (inr (e, h)) = subst (λ (z : ℕ). Seen A C n1 d1 n d p z) (sym e) (here p h)

-- ---- the end: all is passed where one of the two has left 16 bits
pub all_seen : {A C limit n d n1 d1 n2 d2 : ℕ} → Passed A C limit n d n1 d1 n2 d2 → (65535 < n) ⊎ (65535 < d)
    → (p q : ℕ) → Allowed limit p → Allowed limit q → Seen A C n1 d1 n2 d2 p q
all_seen s (inl h) p q a b = s.seen p q a b (inl (let l = a.held in omega arith))
all_seen s (inr h) p q a b = s.seen p q a b (inr (let l = b.held in omega arith))
