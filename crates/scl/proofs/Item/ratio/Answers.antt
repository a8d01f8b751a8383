-- `Item::ratio` meets its contract, case by case: u32 numbers are f64 numbers, and below 2^32.
-- Assumes nothing.
use mathlib.Core.Path.{sym, ◌∙◌, ap}
use Prim.Native.Nat.{ℕ}
use native.Mathlib.Omega.{arith}
use lib.IntN.{pos}
use lib.Ieee.{binary64, div, of_int}
use Rattle.pitch.specs.Given.{computed}
use Rattle.scl.specs.Items.{ratio_of}
use Rattle.scl.specs.declared.Item.TheVariants.{Cents, Fraction}
use Rattle.scl.proofs.Theorems.{usable_ratio}
use Rattle.scl.proofs.Item.ratio.Goals as goal

pub returns-in-Cents : goal.returns-in-Cents
returns-in-Cents c =
    let is = c.from_cents.ensures ∙ ap ratio_of (sym c.in-Cents.is) in
    record {
      value = is;
      reached = λ u. rw (is, c.in-Cents.is) (usable_ratio (Cents c.in-Cents.cents) tt (rw c.in-Cents.is at u));
    }

pub returns-in-Fraction : goal.returns-in-Fraction
returns-in-Fraction c =
    let is = c.checked_ratio.ensures
    ∙ ap (λ (d : ℕ). computed (div binary64 (of_int binary64 (pos c.in-Fraction.numer)) (of_int binary64 (pos d)))) c.denom_of.ensures
    ∙ ap ratio_of (sym c.in-Fraction.is) in
    record {
      value = is;
      reached = λ u. rw (is, c.in-Fraction.is) (usable_ratio (Fraction c.in-Fraction.numer c.in-Fraction.denom) (omega (arith, c.row_known-1.given), omega (arith, c.denom_of.ensures, c.row_known-in-Fraction-1.given)) (rw c.in-Fraction.is at u));
    }
