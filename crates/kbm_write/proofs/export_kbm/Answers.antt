-- `export_kbm` meets its contract: 10 for the table or the pitch, else what the entries' text gives.
-- Assumes nothing.
use mathlib.Core.Path.{◌≡◌, refl, sym, ◌∙◌}
use mathlib.Core.Bool.{true}
use native.Mathlib.Omega.{arith}
use lib.ListN.{length, take, length-take}
use Rattle.kbm.specs.Table.{is_table}
use Rattle.kbm_write.specs.Export.{export_of}
use Rattle.kbm_write.proofs.Room.{table_fits}
use borrow.Author.Rules.{rules}
use Rattle.base.proofs.Clauses.{as_pair}
use Rattle.base.proofs.Clauses.{value_and_out}
use Rattle.kbm_write.proofs.export_kbm.Goals as goal
use Rattle.kbm_write.proofs.export_kbm.Goals.{Then-is_table, else-is_table-via-then-is_table+else-is_in_pitch, else-is_table-via-else-is_table}

-- the table can be used, so its entries are as many as its count
table : (c : Then-is_table) → is_table c.args.kbm.count c.args.map.now ≡ true
table c = sym c.is_table.ensures ∙ c.if-is_table.true

taken_length : (c : Then-is_table) → length (take c.args.kbm.count c.args.map.now) ≡ c.args.kbm.count
taken_length c =
    let table : is_table c.args.kbm.count c.args.map.now ≡ true = sym c.is_table.ensures ∙ c.if-is_table.true in
    let h = table_fits c.args.kbm.count c.args.map.now table in
    simp length-take (omega (arith, h))

pub slice_bounds-write_held-end : goal.slice_bounds-write_held-end
slice_bounds-write_held-end c = sym (taken_length (goal.at.slice_bounds-write_held-end c).Then-is_table)

pub write_held-requires : goal.write_held-requires
write_held-requires c = (sym c.is_in_pitch.ensures ∙ c.if-is_in_pitch.true, omega (arith, taken_length (goal.at.write_held-requires c).Then-is_table, c.well_formed.0.1.1.1.1.1.1.0.1))

pub returns-then-is_in_pitch : goal.returns-then-is_in_pitch
unfolding export_of
returns-then-is_in_pitch c =
    value_and_out
    (rw (table (goal.at.returns-then-is_in_pitch c).Then-is_table, sym c.is_in_pitch.ensures ∙ c.if-is_in_pitch.true) (as_pair c.write_held.ensures))

pub returns : goal.returns
unfolding export_of
returns c =
    elim c.else-is_table.branch [
      | else-is_table-via-then-is_table+else-is_in_pitch w ↦ record {
        value = rw (sym c.is_table.ensures ∙ w.if-is_table.true, sym w.is_in_pitch.ensures ∙ w.if-is_in_pitch.false) refl;
        out_after = rw (sym c.is_table.ensures ∙ w.if-is_table.true, sym w.is_in_pitch.ensures ∙ w.if-is_in_pitch.false) refl;
      }
      | else-is_table-via-else-is_table w ↦ record {
        value = rw (sym c.is_table.ensures ∙ w.if-is_table.false) refl;
        out_after = rw (sym c.is_table.ensures ∙ w.if-is_table.false) refl;
      }
    ]
