-- `digits` meets its contract. The loop's invariant: the run from `from` on is the run from `at` on, after what was read.
use mathlib.Core.Path.{◌≡◌, sym, ◌∙◌}
use native.Mathlib.Omega.{arith}
use mathlib.Core.Bool.{true}
use Prim.Native.Nat.{◌≤◌}
use lib.ListN.{get_or, length}
use Rattle.integers.specs.Digits.{is_digit}
use Rattle.numerals.proofs.Runs.{run_step, run_stop, run_end, grown_small, counted_le}
use Rattle.integers.proofs.Digits.{ascii_digit, digit_is}
use Rattle.numerals.proofs.digits.Goals as goal

pub returns-then-not-is_ascii_digit : goal.returns-then-not-is_ascii_digit
returns-then-not-is_ascii_digit c =
    let b = get_or c.args.s.now c.loop-at.at 0 in
    sym (c.loop-at.invariant.3 ∙ run_stop _ _ _ _ c.loop-at-test.true (ascii_digit b ∙ sym c.is_ascii_digit.ensures.value ∙ c.if-not-is_ascii_digit.true))

pub loop-at-preserved : goal.loop-at-preserved
loop-at-preserved c =
    let b = get_or c.args.s.now c.loop-at.at 0 in
    let d : is_digit b ≡ true = ascii_digit b ∙ sym c.is_ascii_digit.ensures.value ∙ c.if-not-is_ascii_digit.false in
    let small : c.from-d.result ≤ 9 = omega (arith, c.from-d.ensures, (digit_is b d).1) in (
      omega arith,
      omega (arith, c.counted-significant.ensures, counted_le c.loop-at.number c.from-d.result c.loop-at.significant),
      rw c.grown-number.ensures (grown_small c.loop-at.number c.from-d.result c.loop-at.invariant.2 small),
      rw (c.grown-number.ensures, c.counted-significant.ensures, c.from-d.ensures) (c.loop-at.invariant.3 ∙ run_step _ _ _ _ c.loop-at-test.true d),
    )

pub returns : goal.returns
returns c =
    let e : c.loop-at.at ≡ length c.args.s.now = omega arith in
    rw (← e) (sym (c.loop-at.invariant.3 ∙ run_end _ _ _ _ c.loop-at-test.false))
