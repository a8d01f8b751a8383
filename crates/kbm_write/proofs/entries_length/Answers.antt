-- `entries_length` meets its contract. The invariant: what was counted and the length of the lines that are left make the
-- length of all, and no line is longer than 32.
use mathlib.Core.Path.{◌≡◌}
use Prim.Native.Nat.{◌+◌, ◌-◌, ◌*◌, ◌≤◌}
use native.Mathlib.Omega.{arith}
use lib.IntN.{pos}
use lib.ListN.{length, drop, get_or}
use mir.Facts.{to_z-of_z}
use mir.Syntax.{w32}
use borrow.Author.Rules.{rules}
use Rattle.kbm_write.specs.Export.{table_text}
use Rattle.kbm_write.proofs.Entries.{line_at, table_length, table_ends}
use Rattle.kbm_write.proofs.entries_length.Goals as goal
use Rattle.kbm_write.proofs.entries_length.Goals.{After-entry_length-total}

-- what was counted is the line of the entry at `i`
counted : (c : After-entry_length-total) → c.entry_length-total.result ≡ length (line_at c.args.map.now c.loop-number.number-index)
counted c =
    rw (to_z-of_z {w = w32} {z = get_or c.args.map.now c.loop-number.number-index (pos 0)} (search rules)) at c.entry_length-total.ensures.0

pub loop-number-init : goal.loop-number-init
loop-number-init c = (omega arith, omega arith, omega arith)

pub overflow_add-total : goal.overflow_add-total
overflow_add-total c = omega (arith, c.entry_length-total.ensures.1)

pub loop-number-preserved : goal.loop-number-preserved
loop-number-preserved c = (omega arith, omega (arith, counted c, table_length c.args.map.now c.loop-number.number-index (omega arith)), omega (arith, c.entry_length-total.ensures.1))

pub returns : goal.returns
returns c = (omega (arith, table_ends c.args.map.now c.loop-number.number-index (omega arith)), omega arith)
