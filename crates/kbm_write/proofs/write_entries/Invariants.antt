-- `write_entries` meets its contract. The invariant: with the lines that are left written too, from `next` on, the bytes are
-- as promised.
use mathlib.Core.Path.{◌≡◌, refl, sym, ap, ◌∙◌}
use mathlib.Core.List.{List}
use Prim.Native.Nat.{ℕ, ◌+◌, ◌-◌, ◌≤◌}
use native.Mathlib.Omega.{arith}
use lib.IntN.{pos}
use lib.ListN.{length, drop, get_or}
use lib.Seq.{sets, length-sets}
use mir.Facts.{to_z-of_z}
use mir.Syntax.{w32}
use borrow.Author.Rules.{rules}
use Rattle.kbm_write.specs.Export.{table_text}
use Rattle.kbm_write.proofs.Entries.{line_at, table_length, table_sets, table_end}
use Rattle.kbm_write.proofs.write_entries.Given as goal

abbrev pub invariant-loop-number : goal.invariant-loop-number
invariant-loop-number l =
    (l.number-index ≤ length l.map) × (length l.out ≡ length l.initial.out) × (l.next + length (table_text (drop l.number-index l.map)) ≡ l.at + length (table_text l.map))
    × (sets l.out l.next (table_text (drop l.number-index l.map)) ≡ sets l.initial.out l.at (table_text l.map))
