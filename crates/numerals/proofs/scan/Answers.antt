-- `scan` meets its contract: the sign, then a word or a number.
-- Each return rewrites with what the calls answered.
use mathlib.Core.Path.{sym, ◌∙◌}
use native.Mathlib.Omega.{arith}
use Prim.Native.Nat.{◌≤◌}
use lib.ListN.{length}
use Rattle.numerals.specs.Scan.{scan_of}
use Rattle.numerals.proofs.Bounds.{sign_in}
use Rattle.numerals.proofs.scan.Goals as goal
use Rattle.numerals.proofs.scan.Goals.{After-after_sign-from}

sign_within : (c : After-after_sign-from) → c.after_sign-from.result ≤ length c.args.s.now
sign_within c = rw c.after_sign-from.ensures (sign_in c.args.s.now 0 (omega arith)).1

pub is_word-requires : goal.is_word-requires
is_word-requires c = sign_within (goal.at.is_word-requires c).After-after_sign-from

pub returns-then-is_word : goal.returns-then-is_word
unfolding scan_of
returns-then-is_word c = rw (← c.after_sign-from.ensures, ← c.is_negative-negative.ensures, sym c.is_word.ensures ∙ c.if-is_word.true)

pub scan_number-requires : goal.scan_number-requires
scan_number-requires c = sign_within (goal.at.scan_number-requires c).After-after_sign-from

pub returns : goal.returns
unfolding scan_of
returns c = rw (← c.after_sign-from.ensures, ← c.is_negative-negative.ensures, sym c.is_word.ensures ∙ c.if-is_word.false) c.scan_number.ensures
