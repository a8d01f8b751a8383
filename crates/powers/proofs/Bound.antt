-- What keeps P below 2 ^ 63: P_k * T_k is at most 2 ^ 125, since a step multiplies P by T_(k+1) / 2 ^ 62 at most and T_(k+1) squared is at most 2 ^ 62 * T_k. Assumes nothing.
use mathlib.Core.Path.{subst, ◌≡◌, refl, sym, ap, ◌∙◌}
use mathlib.Core.Bool.{Bool, true, false}
use Prim.Native.Nat.{ℕ, zero, suc, ◌+◌, ◌-◌, ◌*◌, ◌/◌, ◌%◌, ◌^◌, ◌≤◌, ◌<◌}
use native.Mathlib.Nat.{div-div-eq-div-mul, mul-zero, mul-one, le_antisymm, le_trans, le_of_eq, le_of_lt, lt_of_le_of_lt, mul_comm, mul_assoc, mul_left_comm, mul_right_comm, mul-le-mul_left, mul-le-mul_right, le_of_mul-le-mul_right, le-div_iff_mul-le, div-mul-le_self, mul-div_cancel}
use native.Mathlib.Numerals.{add-one}
use native.Mathlib.Omega.{arith}
use lib.Dec.{T, leb, eqb, leb→le, lit<, lit≤}
use lib.Pow.{pow-add, pow_pos}
use Rattle.base.specs.Said.{pick}
use Rattle.powers.specs.Root.{root, root_from}
use Rattle.powers.specs.Exp.{t_of, p_of, step_e}
use Rattle.powers.specs.Inner.{IsFactor, factor_of, Factor, Power}
use Rattle.powers.proofs.Entries.{t_above}

-- the root's square is at most the number
from_low : (k n r : ℕ) → r * r ≤ n → root_from k n r * root_from k n r ≤ n
unfolding root_from
from_low zero n r h = h
from_low (suc k) n r h = from_low k n (pick b (r + 2 ^ k) r) (go b (leb→le ((r + 2 ^ k) * (r + 2 ^ k)) n))
  where
    b : Bool
    b = leb ((r + 2 ^ k) * (r + 2 ^ k)) n

    go : (b : Bool) → (T b → (r + 2 ^ k) * (r + 2 ^ k) ≤ n) → pick b (r + 2 ^ k) r * pick b (r + 2 ^ k) r ≤ n
    go true t = t tt
    go false t = h

pub t_square : (k : ℕ) → t_of (k + 1) * t_of (k + 1) ≤ 2 ^ 62 * t_of k
unfolding t_of root
t_square k = rw add-one (from_low 64 (2 ^ 62 * t_of k) 0 (omega arith))

-- a step keeps the bound
module _ (p t u : ℕ) (sq : u * u ≤ 2 ^ 62 * t) (above : 2 ^ 62 < u) (bound : p * t ≤ 2 ^ 125) where
  pub bound_set : p * u / 2 ^ 62 * u ≤ 2 ^ 125
  bound_set = le_of_mul-le-mul_right
      (le_trans (le_of_eq (mul_right_comm (p * u / 2 ^ 62) u (2 ^ 62)))
      (le_trans (mul-le-mul_right u (div-mul-le_self (p * u) (2 ^ 62)))
      (le_trans (le_of_eq (mul_assoc p u u))
      (le_trans (mul-le-mul_left p sq)
      (le_trans (le_of_eq (mul_left_comm p (2 ^ 62) t ∙ mul_comm (2 ^ 62) (p * t))) (mul-le-mul_right (2 ^ 62) bound))))))
      (pow_pos 62)

  falls : u ≤ t
  falls = le_of_mul-le-mul_right (le_trans (le_trans sq (mul-le-mul_right t (le_of_lt above))) (le_of_eq (mul_comm u t))) (le_trans (lit< tt) above)

  pub bound_clear : p * u ≤ 2 ^ 125
  bound_clear = le_trans (mul-le-mul_left p falls) bound

pub below : (p t : ℕ) → 2 ^ 62 < t → p * t ≤ 2 ^ 125 → p < 2 ^ 63
below p t a h = lt_of_le_of_lt ((le-div_iff_mul-le {k = 2 ^ 62 + 1} (lit< tt)).1 (le_trans (mul-le-mul_left p a) h)) (lit< tt)

pub rises : (p t : ℕ) → 2 ^ 62 ≤ p → 2 ^ 62 < t → 2 ^ 62 ≤ p * t / 2 ^ 62
rises p t hp ht = (le-div_iff_mul-le (pow_pos 62)).1 (le_trans (mul-le-mul_right (2 ^ 62) hp) (mul-le-mul_left p (le_of_lt ht)))

-- ---- one step, whatever the bit
module _ (p t u : ℕ) (low : 2 ^ 62 ≤ p) (sq : u * u ≤ 2 ^ 62 * t) (above : 2 ^ 62 < u) (bound : p * t ≤ 2 ^ 125) where
  step_above : (c : Bool) → 2 ^ 62 ≤ step_e c p u
  step_above true = rises p u low above
  step_above false = low

  step_bound : (c : Bool) → step_e c p u * u ≤ 2 ^ 125
  step_bound true = bound_set p t u sq above bound
  step_bound false = bound_clear p t u sq above bound

-- a step that multiplies by 2 ^ 62 changes nothing
step_is : (c : Bool) (p t : ℕ) → p * pick c t (2 ^ 62) / 2 ^ 62 ≡ step_e c p t
step_is true p t = refl
step_is false p t = mul-div_cancel p (pow_pos 62)

-- the place k * bit holds the factor of the bit
at_bit : (c k r : ℕ) → c < 2 → 1 ≤ k → IsFactor (k * c) r → (r ≡ pick (eqb c 1) (t_of k) (2 ^ 62)) × (r < 2 ^ 63)
at_bit c zero r b low e = absurd (omega arith)
at_bit zero (suc k) r b low e = let f : IsFactor 0 r = subst (λ (z : ℕ). IsFactor z r) (mul-zero (suc k)) e in (f.is, f.below)
at_bit (suc zero) (suc k) r b low e = let f : IsFactor (suc k) r = subst (λ (z : ℕ). IsFactor z r) (mul-one (suc k)) e in (f.is, f.below)
at_bit (suc (suc c)) (suc k) r b low e = absurd (omega arith)

pub chosen : (b k r : ℕ) → 1 ≤ k → IsFactor (k * (b / 2 ^ (52 - k) % 2)) r → Factor b k r
chosen b k r low e = let a = at_bit (b / 2 ^ (52 - k) % 2) k r (omega arith) low e in record { is = a.0; below = a.1 }

-- and it is a place of the table
pub place : (b k : ℕ) → k ≤ 52 → k * (b / 2 ^ (52 - k) % 2) ≤ 52
place b k h = le_trans (mul-le-mul_left k (let l : b / 2 ^ (52 - k) % 2 ≤ 1 = omega arith in l)) (omega arith)

p_next : (b k : ℕ) → p_of b (k + 1) ≡ step_e (eqb (b / 2 ^ (52 - (k + 1)) % 2) 1) (p_of b k) (t_of (k + 1))
unfolding p_of
p_next b k = rw add-one

-- a step always multiplies
pub p_step : (b k : ℕ) → p_of b (suc k) ≡ p_of b k * factor_of b (suc k) / 2 ^ 62
unfolding p_of
p_step b k = sym (step_is (eqb (b / 2 ^ (52 - suc k) % 2) 1) (p_of b k) (t_of (suc k)))

pub start : (b : ℕ) → Power b 0 (2 ^ 62)
unfolding t_of p_of
start b = record { is = refl; above = lit≤ tt; bound = lit≤ tt }

pub stepped : (b k p r : ℕ) → k < 52 → Power b k p → r ≡ step_e (eqb (b / 2 ^ (52 - (k + 1)) % 2) 1) p (t_of (k + 1)) → Power b (k + 1) r
stepped b k p r h i e =
    let c = eqb (b / 2 ^ (52 - (k + 1)) % 2) 1 in
    let u = t_of (k + 1) in
    let a : 2 ^ 62 < u = t_above (k + 1) (omega arith) in
    record {
      is = e ∙ ap (λ (x : ℕ). step_e c x u) i.is ∙ sym (p_next b k);
      above = rw e (step_above p (t_of k) u i.above (t_square k) a i.bound c);
      bound = rw e (step_bound p (t_of k) u i.above (t_square k) a i.bound c);
    }

-- the code's step
pub next : (b k p f r : ℕ) → k < 52 → Power b k p → Factor b (k + 1) f → r ≡ p * f / 2 ^ 62 → Power b (k + 1) r
next b k p f r h i g q =
    let c = eqb (b / 2 ^ (52 - (k + 1)) % 2) 1 in
    stepped b k p r h i (q ∙ ap (λ (x : ℕ). p * x / 2 ^ 62) g.is ∙ step_is c p (t_of (k + 1)))

-- P after k steps, whatever b
pub powers : (b k : ℕ) → k ≤ 52 → Power b k (p_of b k)
unfolding t_of p_of
powers b zero h = start b
powers b (suc k) h = subst (λ (j : ℕ). Power b j (p_of b j)) (add-one k) (stepped b k (p_of b k) (p_of b (k + 1)) h (powers b k (omega arith)) (p_next b k))

pub power_below : (b k p : ℕ) → k ≤ 52 → Power b k p → p < 2 ^ 63
power_below b k p h i = below p (t_of k) (t_above k h) i.bound

-- a loop that runs while k < j ends at j
pub arrived : (b j k p : ℕ) → k ≤ j → j ≤ k → Power b k p → Power b j p
arrived b j k p h g i = subst (λ (x : ℕ). Power b x p) (le_antisymm h g) i
