-- `fill` meets its contract. The invariant: the first i places hold the first i pitch values.
-- Assumes nothing.
use mathlib.Core.Path.{◌≡◌}
use Prim.Native.Nat.{◌≤◌}
use lib.ListN.{length, take}
use Rattle.base.specs.Said.{gives}
use Rattle.rank2.specs.Notes.{pitch_at, ratios_from}
use Rattle.rank2.proofs.notes.fill.Given as goal

abbrev pub invariant-loop-i : goal.invariant-loop-i
invariant-loop-i l =
    (length l.ratio ≡ length l.initial.ratio) × (l.i ≤ length l.initial.ratio) × (length l.initial.ratio ≤ 65535) × (gives (take l.i l.ratio) ≡ ratios_from (pitch_at l.period l.generator_cents l.period_cents l.positive) 0 l.i)
