-- The number of a scanned numeral is below 10^18. Assumes nothing.
use Rattle.std.specs.Prelude.{None, Some, Option}
use mathlib.Core.Path.{refl}
use mathlib.Core.List.{List}
use mathlib.Core.Bool.{Bool, true, false}
use Prim.Native.Nat.{ℕ, ◌+◌, ◌-◌, ◌^◌, ◌≤◌, ◌<◌}
use native.Mathlib.Omega.{arith}
use lib.ListN.{length}
use lib.Dec.{eqb}
use Rattle.base.specs.Said.{pick}
use Rattle.numerals.specs.Scan.{after_sign, after_dot, word_at, exponent_at, run_at, ended_at, after_part, number_at, scaled, scan_of, minus_first}
use Rattle.numerals.specs.declared.Run.{Run}
use Rattle.numerals.specs.declared.Numeral.{Numeral}
use Rattle.numerals.proofs.Bounds.{run_in, dot_in, sign_in}

-- the number of a numeral is below 10^18
abbrev pub Small : (Option Numeral) → Type 0
Small (Some x) = x.n < 10 ^ 18
Small None = Unit {0}

ended_small : (s : List ℕ) (found : ℕ) (x : Numeral) (end : ℕ) → x.n < 10 ^ 18 → Small (ended_at s found x end)
ended_small s found x end h = go (eqb found 0) (eqb end (length s)) (exponent_at s end)
  where
    go : (a b c : Bool) → Small (pick a None (pick b (Some x) (pick c (Some (scaled x)) None)))
    go true b c = tt
    go false true c = h
    go false false true = h
    go false false false = tt

part_small : (s : List ℕ) (negative : Bool) (found dot : ℕ) (r : Run) → r.n < 10 ^ 18 → Small (after_part s negative found dot r)
part_small s negative found dot r h =
    ended_small s (found + (r.at - dot)) (record { negative = negative; n = r.n; significant = r.significant; places = r.at - dot; plain = true }) r.at h

number_small : (s : List ℕ) (negative : Bool) (from : ℕ) → from ≤ length s → Small (number_at s negative from)
number_small s negative from h =
    let w = run_in s 0 0 from (omega arith) (omega arith) h refl in
    let d = dot_in s (run_at s 0 0 from).at w.ends in
    let p = run_in s (run_at s 0 0 from).n (run_at s 0 0 from).significant (after_dot s (run_at s 0 0 from).at) w.small (omega (arith, w.counts, d.0)) d.1 refl in
    part_small s negative ((run_at s 0 0 from).at - from) (after_dot s (run_at s 0 0 from).at)
    (run_at s (run_at s 0 0 from).n (run_at s 0 0 from).significant (after_dot s (run_at s 0 0 from).at)) p.small

pub scan_small : (s : List ℕ) → Small (scan_of s)
unfolding scan_of
scan_small s = go (word_at s (after_sign s 0)) (number_small s (minus_first s) (after_sign s 0) (sign_in s 0 (omega arith)).1)
  where
    go : (t : Bool) → Small (number_at s (minus_first s) (after_sign s 0)) →
        Small (pick t (Some (record { negative = minus_first s; n = 0; significant = 0; places = 0; plain = false })) (number_at s (minus_first s) (after_sign s 0)))
    go true h = omega arith
    go false h = h
