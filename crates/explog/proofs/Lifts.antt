-- The steps after step 32 multiply by so little that the product is all but the sum: within a third of 1, from above. Assumes nothing.
use Rattle.std.proofs.Common.{◌≡◌, ℕ, zero, suc, ◌+◌, ◌-◌, ◌*◌, ◌/◌, ◌%◌, ◌^◌, ◌<◌, ◌≤◌, Bool, true, false, eqb, leb, get_or, sym, ap, subst, le_trans, mul-le-mul_right, mul-le-mul, mul-le-mul_left, pow-suc, arith, leb→le, pow_mono}
use native.Mathlib.Nat.{pow-zero}
use Rattle.base.specs.Said.{pick}
use Rattle.powers.specs.Exp.{t_of}
use Rattle.powers.specs.Inner.{factor_of}
use Rattle.powers.proofs.Factors.{entries}
use Rattle.powers.proofs.Entries.{t_entry}
use Rattle.power_parts.specs.Parts.{product_of, rise_of}
use Rattle.power_parts.proofs.Bits.{upto, upto_at}
use Rattle.explog.proofs.Spread.{good}

-- ---- the largest sum of n steps, and the room that it leaves
unfoldable most : ℕ → ℕ
most zero = 0
most (suc n) = most n + (get_or entries (suc (32 + n)) 0 - 2 ^ 62)

roomy : ℕ → Bool
roomy n = leb (64 * (most n * (get_or entries (suc (32 + n)) 0 - 2 ^ 62))) (2 ^ 62)

room : (n : ℕ) → n < 20 → 64 * (most n * (get_or entries (suc (32 + n)) 0 - 2 ^ 62)) ≤ 2 ^ 62
unfolding roomy upto most entries
room n h = leb→le _ _ (upto_at roomy 20 n tt h)

-- what a step adds is T_k - 2 ^ 62 at most
adds : (b k : ℕ) → k < 52 → factor_of b (suc k) - 2 ^ 62 ≤ get_or entries (suc k) 0 - 2 ^ 62
adds b k h = subst (λ (x : ℕ). factor_of b (suc k) - 2 ^ 62 ≤ x - 2 ^ 62) (sym (t_entry k h)) (go (eqb (b / 2 ^ (52 - suc k) % 2) 1))
  where
    go : (c : Bool) → pick c (t_of (suc k)) (2 ^ 62) - 2 ^ 62 ≤ t_of (suc k) - 2 ^ 62
    go true = omega arith
    go false = omega arith

rise_most : (b n : ℕ) → n ≤ 20 → rise_of b 32 n ≤ most n
unfolding rise_of most
rise_most b zero h = omega arith
rise_most b (suc n) h = let a = rise_most b n (omega arith) in let c = adds b (32 + n) (omega arith) in omega arith

-- ---- X is the product of n factors, S their sum beyond M, Z is M ^ n
pub record Lifted (M X S n Z : ℕ) : Type 0 where
  pub low : (M + S) * Z ≤ X * M
  pub high : 4096 * (X * M) ≤ (4096 * (M + S) + 65 * n) * Z

next : (M X S n Z F t : ℕ) → F ≡ M + t → 64 * (S * t) ≤ M → 65 * n * t ≤ M → Lifted M X S n Z → Lifted M (X * F) (S + t) (suc n) (Z * M)
next M X S n Z F t e one two h = record {
  low = omega (arith, mul-le-mul_right (M + t) h.low, ap (λ (x : ℕ). X * M * x) e);
  high = omega (arith, mul-le-mul_right (M + t) h.high, ap (λ (x : ℕ). X * M * x) e, mul-le-mul_right Z one, mul-le-mul_right Z two);
}

lifted : (b n : ℕ) → n ≤ 20 → Lifted (2 ^ 62) (product_of b 32 n) (rise_of b 32 n) n ((2 ^ 62) ^ n)
unfolding product_of rise_of
lifted b zero h = rw (pow-zero (2 ^ 62)) (record { low = omega arith; high = omega arith })
lifted b (suc n) h =
    let k = 32 + n in
    let F = factor_of b (suc k) in
    let t = F - 2 ^ 62 in
    let g = good b k (omega arith) in
    let e : F ≡ 2 ^ 62 + t = let a = g.above in omega arith in
    let one : 64 * (rise_of b 32 n * t) ≤ 2 ^ 62 = le_trans (mul-le-mul_left 64 (mul-le-mul (rise_most b n (omega arith)) (adds b k (omega arith)))) (room n (omega arith)) in
    let two : 65 * n * t ≤ 2 ^ 62 = small n t (2 ^ suc k) F (2 ^ 62) (le_trans (let l : 65 * n ≤ 2 ^ 33 = omega arith in l) (pow_mono {i = 33} {j = suc k} (omega arith))) e g.near in
    rw (pow-suc (2 ^ 62) n) (next (2 ^ 62) (product_of b 32 n) (rise_of b 32 n) n ((2 ^ 62) ^ n) F t e one two (lifted b n (omega arith)))
  where
    small : (n t W F M : ℕ) → 65 * n ≤ W → F ≡ M + t → F * W ≤ M * W + M → 65 * n * t ≤ M
    small n t W F M few e g = let a : t * W ≤ M = omega (arith, ap (λ (x : ℕ). x * W) e) in le_trans (mul-le-mul_right t few) (omega arith)

pub lift : (b : ℕ) → Lifted (2 ^ 62) (product_of b 32 20) (rise_of b 32 20) 20 ((2 ^ 62) ^ 20)
lift b = lifted b 20 (omega arith)
