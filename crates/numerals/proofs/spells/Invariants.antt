-- `spells` meets its contract. The loop's invariant: what is left of both, from place i on, decides.
use mathlib.Core.Path.{◌≡◌}
use Prim.Native.Nat.{◌+◌}
use lib.ListN.{drop}
use Rattle.numerals.specs.Scan.{spelled}
use Rattle.numerals.proofs.spells.Given as goal

abbrev pub invariant-loop-i : goal.invariant-loop-i
invariant-loop-i l = spelled (drop l.from l.s) l.w ≡ spelled (drop (l.from + l.i) l.s) (drop l.i l.w)
