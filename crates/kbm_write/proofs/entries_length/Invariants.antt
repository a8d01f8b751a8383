-- `entries_length` meets its contract. The invariant: what was counted and the length of the lines that are left make the
-- length of all, and no line is longer than 32.
use mathlib.Core.Path.{◌≡◌}
use Prim.Native.Nat.{◌+◌, ◌-◌, ◌*◌, ◌≤◌}
use native.Mathlib.Omega.{arith}
use lib.IntN.{pos}
use lib.ListN.{length, drop, get_or}
use mir.Facts.{to_z-of_z}
use mir.Syntax.{w32}
use borrow.Author.Rules.{rules}
use Rattle.kbm_write.specs.Export.{table_text}
use Rattle.kbm_write.proofs.Entries.{line_at, table_length, table_ends}
use Rattle.kbm_write.proofs.entries_length.Given as goal

abbrev pub invariant-loop-number : goal.invariant-loop-number
invariant-loop-number l = (l.number-index ≤ length l.map) × (l.total + length (table_text (drop l.number-index l.map)) ≡ length (table_text l.map)) × (l.total ≤ 32 * l.number-index)
