-- `read_magnitude` answers the number that the digits write, within `top`.
-- Invariant: what all of them are is what the rest makes of the number so far, which is within `top`.
use mathlib.Core.Path.{◌≡◌, sym, ◌∙◌}
use Prim.Native.Nat.{◌+◌, ◌*◌}
use native.Mathlib.Omega.{arith}
use lib.ListN.{drop, get_or}
use Rattle.integers.specs.Integer.{scan, magnitude_of}
use Rattle.integers.proofs.Scan.{scan_step, scan_stop, scan_over, scan_end, mag_none, mag_scan, empty_length, full_length}
use Rattle.integers.proofs.Digits.{ascii_digit}
use Rattle.integers.proofs.read_magnitude.Goals as goal
use Rattle.integers.proofs.read_magnitude.Goals.{After-from}

pub returns-then-is_empty : goal.returns-then-is_empty
returns-then-is_empty c = sym (mag_none _ _ 0 (empty_length _ c.is_empty.ensures c.if-is_empty.true))

pub loop-b-init : goal.loop-b-init
loop-b-init c = (omega arith, mag_scan _ _ 0 (full_length _ c.is_empty.ensures c.if-is_empty.false))

pub returns-then-not-is_ascii_digit : goal.returns-then-not-is_ascii_digit
returns-then-not-is_ascii_digit c =
    sym (c.loop-b.invariant.1 ∙ scan_stop _ _ _ _ c.loop-b-test.true (ascii_digit (get_or c.args.digits.now c.loop-b.b-index 0) ∙ sym c.is_ascii_digit.ensures.value ∙ c.if-not-is_ascii_digit.true))

-- a turn reads a digit
turn : (c : After-from) →
    magnitude_of c.args.top c.args.digits.now ≡ scan c.args.top (c.loop-b.number * 10 + c.from.result) (drop (c.loop-b.b-index + 1) c.args.digits.now)
turn c =
    rw c.from.ensures
    (c.loop-b.invariant.1 ∙ scan_step _ _ _ _ c.loop-b-test.true (ascii_digit (get_or c.args.digits.now c.loop-b.b-index 0) ∙ sym c.is_ascii_digit.ensures.value ∙ c.if-not-is_ascii_digit.false))

pub returns-then-number-top : goal.returns-then-number-top
returns-then-number-top c = sym (turn (goal.at.returns-then-number-top c).After-from ∙ scan_over _ _ _ c.if-number-top.true)

pub loop-b-preserved : goal.loop-b-preserved
loop-b-preserved c = (omega arith, turn (goal.at.loop-b-preserved c).After-from)

pub returns : goal.returns
returns c = sym (c.loop-b.invariant.1 ∙ scan_end _ _ _ _ c.loop-b-test.false c.loop-b.invariant.0)
