-- `pad` meets its contract: unmapped entries from one place up to another.
-- The invariant: padding what the table is now, from here on, gives what padding the whole gives.
use mathlib.Core.Path.{◌≡◌}
use Prim.Native.Nat.{◌-◌}
use lib.ListN.{length}
use Rattle.kbm_read.specs.Reader.{padded}
use Rattle.kbm_read.proofs.pad.Given as goal

abbrev pub invariant-loop-i : goal.invariant-loop-i
invariant-loop-i l = (length l.map ≡ length l.initial.map) × (padded (l.to - l.from) l.from l.initial.map ≡ padded (l.to - l.i) l.i l.map)
