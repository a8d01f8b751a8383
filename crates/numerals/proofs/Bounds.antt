-- How far a run of digits, a sign, a dot and the mark of an exponent reach in a text. Assumes nothing.
use mathlib.Core.Path.{◌≡◌, refl}
use mathlib.Core.List.{List, [], ◌∷◌}
use mathlib.Core.Bool.{Bool, true, false}
use Prim.Native.Nat.{ℕ, suc, ◌+◌, ◌-◌, ◌^◌, ◌≤◌, ◌<◌}
use native.Mathlib.Omega.{arith}
use lib.ListN.{length, get_or, drop, length-drop}
use lib.Dec.{ltb, eqb}
use borrow.Author.Tests.{ltb-true}
use Rattle.base.specs.Said.{pick}
use Rattle.numerals.specs.Scan.{grown_by, counted_by, digit_run_of, run_at, after_sign, after_dot, mark_at}
use Rattle.numerals.specs.declared.Run.{Run}
use Rattle.numerals.proofs.Runs.{grown_small, counted_le}
use Rattle.integers.specs.Digits.{is_digit}
use Rattle.integers.proofs.Digits.{digit_is}

-- a byte that is found to be a digit
-- a run starts at `at`, ends within the text, and its counts are no more than its end
pub record Bounded (at length : ℕ) (r : Run) : Type 0 where
  pub starts : at ≤ r.at
  pub ends : r.at ≤ length
  pub counts : r.significant ≤ r.at
  pub small : r.n < 10 ^ 18

run_bounds : (n count at : ℕ) (s : List ℕ) → n < 10 ^ 18 → count ≤ at → Bounded at (at + length s) (digit_run_of n count at s)
unfolding digit_run_of
run_bounds n count at [] h g = record { starts = omega arith; ends = omega arith; counts = g; small = h }
run_bounds n count at (b ∷ s) h g = go (is_digit b) refl (run_bounds (grown_by n (b - 48)) (counted_by n (b - 48) count) (at + 1) s)
  where
    go : (t : Bool) → is_digit b ≡ t → (grown_by n (b - 48) < 10 ^ 18 → counted_by n (b - 48) count ≤ at + 1 → Bounded (at + 1) (at + 1 + length s) (digit_run_of (grown_by n (b - 48)) (counted_by n (b - 48) count) (at + 1) s))
        → Bounded at (at + suc (length s)) (pick t (digit_run_of (grown_by n (b - 48)) (counted_by n (b - 48) count) (at + 1) s) (record { n = n; significant = count; at = at }))
    go true e ih =
        let i = ih (grown_small n (b - 48) h (omega (arith, digit_is b e))) (omega (arith, counted_le n (b - 48) count)) in
        record { starts = omega (arith, i.starts); ends = omega (arith, i.ends); counts = i.counts; small = i.small }
    go false e ih = record { starts = omega arith; ends = omega arith; counts = g; small = h }

-- the run that a call answered
pub run_in : (s : List ℕ) (n count at : ℕ) {r : Run} → n < 10 ^ 18 → count ≤ at → at ≤ length s → r ≡ run_at s n count at → Bounded at (length s) r
run_in s n count at h g l e =
    let b = run_bounds n count at (drop at s) h g in
    let z : at + length (drop at s) ≡ length s = omega (arith, length-drop at s) in
    rw (e, ← z) b

pub sign_in : (s : List ℕ) (at : ℕ) → at ≤ length s → (at ≤ after_sign s at) × (after_sign s at ≤ length s)
sign_in s at h = go (ltb at (length s)) refl (eqb (get_or s at 0) 43) (eqb (get_or s at 0) 45)
  where
    go : (t : Bool) → ltb at (length s) ≡ t → (a b : Bool) → (at ≤ pick t (pick a (at + 1) (pick b (at + 1) at)) at) × (pick t (pick a (at + 1) (pick b (at + 1) at)) at ≤ length s)
    go true e true b = (omega arith, omega (arith, ltb-true at (length s) e))
    go true e false true = (omega arith, omega (arith, ltb-true at (length s) e))
    go true e false false = (omega arith, omega arith)
    go false e a b = (omega arith, omega arith)

pub dot_in : (s : List ℕ) (at : ℕ) → at ≤ length s → (at ≤ after_dot s at) × (after_dot s at ≤ length s)
dot_in s at h = go (ltb at (length s)) refl (eqb (get_or s at 0) 46)
  where
    go : (t : Bool) → ltb at (length s) ≡ t → (a : Bool) → (at ≤ pick t (pick a (at + 1) at) at) × (pick t (pick a (at + 1) at) at ≤ length s)
    go true e true = (omega arith, omega (arith, ltb-true at (length s) e))
    go true e false = (omega arith, omega arith)
    go false e a = (omega arith, omega arith)

pub mark_in : (s : List ℕ) (at : ℕ) → mark_at s at ≡ true → at < length s
mark_in s at e = go (ltb at (length s)) refl e
  where
    go : (t : Bool) → ltb at (length s) ≡ t → pick t (pick (eqb (get_or s at 0) 101) true (eqb (get_or s at 0) 69)) false ≡ true → at < length s
    go true p q = ltb-true at (length s) p
    go false p q = let z : ◌≡◌ {A = ℕ} 0 1 = cc in absurd (omega arith)
