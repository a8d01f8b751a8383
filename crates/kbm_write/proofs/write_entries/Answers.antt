-- `write_entries` meets its contract. The invariant: with the lines that are left written too, from `next` on, the bytes are
-- as promised.
use mathlib.Core.Path.{◌≡◌, refl, sym, ap, ◌∙◌}
use mathlib.Core.List.{List}
use Prim.Native.Nat.{ℕ, ◌+◌, ◌-◌, ◌≤◌}
use native.Mathlib.Omega.{arith}
use lib.IntN.{pos}
use lib.ListN.{length, drop, get_or}
use lib.Seq.{sets, length-sets}
use mir.Facts.{to_z-of_z}
use mir.Syntax.{w32}
use borrow.Author.Rules.{rules}
use Rattle.kbm_write.specs.Export.{table_text}
use Rattle.kbm_write.proofs.Entries.{line_at, table_length, table_sets, table_end}
use Rattle.base.proofs.Clauses.{as_pair}
use Rattle.kbm_write.proofs.write_entries.Goals as goal
use Rattle.kbm_write.proofs.write_entries.Goals.{After-write_entry-next}

-- what was written is the line of the entry at `i`
wrote : (c : After-write_entry-next) → (c.write_entry-next.result ≡ c.loop-number.next + length (line_at c.args.map.now c.loop-number.number-index))
    × (c.write_entry-next.new.out ≡ sets c.loop-number.out c.loop-number.next (line_at c.args.map.now c.loop-number.number-index))
wrote c =
    rw (to_z-of_z {w = w32} {z = get_or c.args.map.now c.loop-number.number-index (pos 0)} (search rules)) at (as_pair c.write_entry-next.ensures)

pub loop-number-init : goal.loop-number-init
loop-number-init c = (omega arith, refl, refl, refl)

pub write_entry-next-requires : goal.write_entry-next-requires
write_entry-next-requires c =
    rw (to_z-of_z {w = w32} {z = get_or c.args.map.now c.loop-number.number-index (pos 0)} (search rules))
    (omega (arith, table_length c.args.map.now c.loop-number.number-index (omega arith), c.requires.1))

pub loop-number-preserved : goal.loop-number-preserved
loop-number-preserved c =
    let h = wrote (goal.at.loop-number-preserved c).After-write_entry-next in (
      omega arith,
      rw h.1 (length-sets c.loop-number.out c.loop-number.next (line_at c.args.map.now c.loop-number.number-index) ∙ c.loop-number.invariant.1),
      omega (arith, h.0, table_length c.args.map.now c.loop-number.number-index (omega arith)),
      table_sets c.args.map.now c.loop-number.number-index (omega arith) c.loop-number.out c.write_entry-next.new.out c.loop-number.next c.write_entry-next.result h.1 h.0 ∙ c.loop-number.invariant.3,
    )

pub shape_of-out : goal.shape_of-out
shape_of-out c = c.loop-number.invariant.1

pub returns : goal.returns
returns c =
    let e = table_end c.args.map.now c.loop-number.number-index (omega arith) in
    record {
      value = omega (arith, ap length e);
      out_after = sym (ap (λ (t : List ℕ). sets c.loop-number.out c.loop-number.next t) e) ∙ c.loop-number.invariant.3;
    }
