-- The next allowed number after n: (n / 2 ^ k + 1) * 2 ^ k, for the least k of which n / 2 ^ k is below the limit. Assumes nothing.
use mathlib.Core.Path.{◌≡◌, sym, ap, ◌∙◌, subst}
use mathlib.Core.Logic.{◌⊎◌, inl, inr}
use Prim.Native.Nat.{ℕ, ◌+◌, ◌-◌, ◌*◌, ◌/◌, ◌%◌, ◌^◌, ◌≤◌, ◌<◌}
use native.Mathlib.Nat.{le_trans, le_of_eq, lt_of_le_of_lt, lt_of_lt_of_le, not-le_of_lt, mul-le-mul_right, mul_comm, mul_assoc, one-mul}
use native.Mathlib.Nat.{mod-eq_of_lt, div-lt_iff_lt-mul, le-div_iff_mul-le}
use native.Mathlib.Omega.{arith}
use lib.Dec.{lit<}
use lib.Pow.{pow-add, pow_pos, pow_mono}
use Rattle.base.proofs.Integers.{split}
use Rattle.math.specs.OddPart.{OddPart, odd_part}
use Rattle.math.proofs.OddPart.{one_part, odd_le, odd_doubled}
use Rattle.math.proofs.Theorems.{odd_part_law}
use Rattle.best.specs.Best.{Allowed}
use Rattle.best.specs.Walked.{Next}

-- where n has the limit's number of 2 ^ k or more, k is below 16
pub fewer : (n limit k : ℕ) → n ≤ 65535 → 1 ≤ limit → limit ≤ n / 2 ^ k → k < 16
fewer n limit k a b h = go (split k 16)
  where
    at_most : 2 ^ k ≤ n
    at_most = le_trans (le_of_eq (sym (one-mul (2 ^ k)))) (le_trans (mul-le-mul_right (2 ^ k) b) ((le-div_iff_mul-le (pow_pos k)).0 h))

    go : (k < 16) ⊎ (16 ≤ k) → k < 16
    go (inl l) = l
    go (inr l) = absurd (not-le_of_lt (lt_of_le_of_lt a (lit< tt)) (le_trans (pow_mono {i = 16} {j = k} l) at_most))

-- one k more of which n has as many
pub more : (n limit k : ℕ) → ((j : ℕ) → j < k → limit ≤ n / 2 ^ j) → limit ≤ n / 2 ^ k → (j : ℕ) → j < k + 1 → limit ≤ n / 2 ^ j
more n limit k all h j l = go (split j k)
  where
    go : (j < k) ⊎ (k ≤ j) → limit ≤ n / 2 ^ j
    go (inl g) = all j g
    go (inr g) = subst (λ (z : ℕ). limit ≤ n / 2 ^ z) (let e : k ≡ j = omega arith in e) h

module _ (n limit k : ℕ) (small : n ≤ 65535) (few : k ≤ 16) (now-fewer : n / 2 ^ k < limit)
    (all : (j : ℕ) → j < k → limit ≤ n / 2 ^ j) where
  abbrev u : ℕ
  u = n / 2 ^ k + 1

  most : u * 2 ^ k ≤ 65536
  most =
      let e : 16 - k + k ≡ 16 = omega arith in
      let whole : 2 ^ (16 - k) * 2 ^ k ≡ 65536 = sym (pow-add 2 (16 - k) k) ∙ ap (λ (z : ℕ). 2 ^ z) e in
      let l : n / 2 ^ k < 2 ^ (16 - k) =
      (div-lt_iff_lt-mul (pow_pos k)).1 (lt_of_lt_of_le (lt_of_le_of_lt small (lit< tt)) (le_of_eq (sym whole))) in
      le_trans (mul-le-mul_right (2 ^ k) (let g : u ≤ 2 ^ (16 - k) = omega arith in g)) (le_of_eq whole)

  above : n < u * 2 ^ k
  above = (div-lt_iff_lt-mul (pow_pos k)).0 (let l : n / 2 ^ k < u = omega arith in l)

  -- an allowed number above n is a multiple of 2 ^ k: a smaller power of two would leave more than the limit
  first : (p : ℕ) → Allowed limit p → n < p → u * 2 ^ k ≤ p
  first p a h = by (odd_part p) a.within (odd_part_law p (lt_of_le_of_lt a.held (lit< tt)))
    where
      by : (m : ℕ) → m ≤ limit → OddPart p m → u * 2 ^ k ≤ p
      by m l (OddPart.none e z) = absurd (omega (arith, e, h))
      by m l (OddPart.odd t e o) = go (split t k)
        where
          go : (t < k) ⊎ (k ≤ t) → u * 2 ^ k ≤ p
          go (inl g) = absurd (not-le_of_lt h (le_trans (le_of_eq e) ((le-div_iff_mul-le (pow_pos t)).0 (le_trans l (all t g)))))
          go (inr g) =
              let f : p ≡ m * 2 ^ (t - k) * 2 ^ k =
              e ∙ ap (λ (z : ℕ). m * 2 ^ z) (let s : t ≡ t - k + k = omega arith in s)
              ∙ ap (λ (z : ℕ). m * z) (pow-add 2 (t - k) k) ∙ sym (mul_assoc m (2 ^ (t - k)) (2 ^ k)) in
              let l : n / 2 ^ k < m * 2 ^ (t - k) = (div-lt_iff_lt-mul (pow_pos k)).1 (lt_of_lt_of_le h (le_of_eq f)) in
              le_trans (mul-le-mul_right (2 ^ k) (let g : u ≤ m * 2 ^ (t - k) = omega arith in g)) (le_of_eq (sym f))

  -- its odd part is that of u, which is at most the limit
  is_within : u * 2 ^ k ≤ 65535 → odd_part (u * 2 ^ k) ≤ limit
  is_within h =
      let small-u : u ≤ u * 2 ^ k =
      le_trans (le_of_eq (sym (one-mul u))) (le_trans (mul-le-mul_right u (pow_pos k)) (le_of_eq (mul_comm (2 ^ k) u))) in
      let own = odd_part_law u (lt_of_le_of_lt (le_trans small-u h) (lit< tt)) in
      let same : odd_part (u * 2 ^ k) ≡ odd_part u =
      one_part (odd_part_law (u * 2 ^ k) (lt_of_le_of_lt h (lit< tt))) (odd_doubled k own) in
      le_trans (le_of_eq same) (le_trans (odd_le own) (omega (arith, now-fewer)))

  next_is : Next limit n (u * 2 ^ k)
  next_is = record {
    above = above;
    first = first;
    most = most;
    is_allowed = λ h. record { some = omega (arith, above); held = h; within = is_within h };
  }

  -- as the code computes it
  pub next_found : Next limit n (u * 2 ^ k % 2 ^ 64)
  next_found = subst (Next limit n) (sym (mod-eq_of_lt {n = u * 2 ^ k} {m = 2 ^ 64} (lt_of_le_of_lt most (lit< tt)))) next_is
