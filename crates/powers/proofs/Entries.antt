-- The table's rule at each entry, by one computed test, and what it says of T_k. Assumes nothing.
use mathlib.Core.Path.{◌≡◌, sym, subst}
use mathlib.Core.Bool.{Bool, ◌&&◌}
use Prim.Native.Nat.{ℕ, zero, suc, ◌+◌, ◌-◌, ◌^◌, ◌≤◌, ◌<◌}
use native.Mathlib.Omega.{arith}
use lib.Dec.{T, eqb, ltb, eqb→eq, ltb→lt, lit<, lit≤}
use lib.ListN.{get_or}
use lib.Ieee.Fits.{and_l, and_r}
use Rattle.powers.specs.Root.{root, root_from}
use Rattle.powers.specs.Exp.{t_of}
use Rattle.powers.specs.Inner.{IsFactor, factor_at}
use Rattle.powers.proofs.Every.{every, at_each}
use Rattle.powers.proofs.Factors.{entries}

-- the test of one entry
right : ℕ → ℕ → Bool
right k x = eqb x (factor_at k) && (ltb (2 ^ 62) (x + (1 - k)) && ltb x (2 ^ 63))

-- one computed test over the whole table
holds : (k : ℕ) → k < 53 → T (right k (get_or entries k 0))
unfolding entries right every t_of root root_from
holds k h = at_each right entries tt k h

entry : (k : ℕ) → k < 53 → IsFactor k (get_or entries k 0)
unfolding right
entry k h =
    let x = get_or entries k 0 in
    let v = factor_at k in
    let a = ltb (2 ^ 62) (x + (1 - k)) in
    let t = holds k h in
    let u = and_r (eqb x v) (a && ltb x (2 ^ 63)) t in
    record {
      is = eqb→eq x v (and_l (eqb x v) (a && ltb x (2 ^ 63)) t);
      above = ltb→lt (2 ^ 62) (x + (1 - k)) (and_l a (ltb x (2 ^ 63)) u);
      below = ltb→lt x (2 ^ 63) (and_r a (ltb x (2 ^ 63)) u);
    }

-- an arm of the code's table
pub entry_at : (i k : ℕ) → i ≡ k → k < 53 → IsFactor i (get_or entries k 0)
entry_at i k e h = subst (λ (z : ℕ). IsFactor z (get_or entries k 0)) (sym e) (entry k h)

-- T_k from the table: above 2 ^ 62, and below 2 ^ 63 but for T_0
pub t_above : (k : ℕ) → k ≤ 52 → 2 ^ 62 < t_of k
unfolding t_of
t_above zero h = lit< tt
t_above (suc k) h = let e = entry (suc k) (omega arith) in subst (λ (x : ℕ). 2 ^ 62 < x) e.is (omega (arith, e.above))

pub t_below : (k : ℕ) → k ≤ 52 → t_of k ≤ 2 ^ 63
unfolding t_of
t_below zero h = lit≤ tt
t_below (suc k) h = let e = entry (suc k) (omega arith) in subst (λ (x : ℕ). x ≤ 2 ^ 63) e.is (omega (arith, e.below))

-- T_k as the list has it
pub t_entry : (k : ℕ) → k < 52 → get_or entries (suc k) 0 ≡ t_of (suc k)
t_entry k h = (entry (suc k) (omega arith)).is
