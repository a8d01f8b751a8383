-- `write_held` meets its contract: 11 from the exact last key, then from the exact middle key, else the text by its room.
-- Assumes nothing.
use mathlib.Core.Path.{◌≡◌, sym, ap, ◌∙◌}
use Prim.Native.Nat.{◌^◌, ◌<◌}
use native.Mathlib.Omega.{arith}
use lib.Dec.{lit<}
use lib.IntN.{pos, ◌+ℤ◌, ◌-ℤ◌}
use mir.Facts.{to_z-of_z, to_z_pos, sfits_widen}
use mir.Syntax.{w16, w32}
use mir.Val.{SFits}
use Rattle.base.specs.Integers.{held}
use Rattle.base.specs.Said.{outcome, gives}
use Rattle.base.proofs.Machine.{told_held}
use Rattle.kbm_write.specs.Export.{last_key_of, middle_key_of}
use Rattle.kbm_write.proofs.Room.{held_is}
use borrow.Author.Rules.{rules}
use Rattle.base.proofs.Clauses.{as_pair, value_and_out}
use Rattle.kbm_write.proofs.write_held.Goals as goal
use Rattle.kbm_write.proofs.write_held.Goals.{In_ok-last, In_ok-middle, Start}

-- the fields fit their widths
octave_fits : (c : Start) → SFits w16 c.args.kbm.octave
octave_fits c = record { sfits = c.well_formed.0.1.1.1.1.1.0.1 }

octave_wide : (c : Start) → SFits w32 c.args.kbm.octave
octave_wide c =
    let octave_fits : SFits w16 c.args.kbm.octave = record { sfits = c.well_formed.0.1.1.1.1.1.0.1 } in
    sfits_widen {w = w16} tt octave_fits

size_fits : (c : Start) → c.args.kbm.count < 2 ^ 31
size_fits c = omega (arith, c.well_formed.0.1.1.1.1.1.1.0.1)

start_fits : (c : Start) → SFits w32 c.args.kbm.start.0
start_fits c = record { sfits = c.well_formed.0.1.1.1.0.1.1.0.1 }

reference_fits : (c : Start) → SFits w32 c.args.kbm.root.reference.0
reference_fits c = record { sfits = c.well_formed.0.1.1.0.1.1.0.1.1.0.1 }

last_fits : (c : In_ok-last) → SFits w32 c.in_ok-last.last
last_fits c = search rules

middle_fits : (c : In_ok-middle) → SFits w32 c.in_ok-middle.middle
middle_fits c = search rules

-- what `to_i32` said is `held` of the exact last key
told_last : (c : In_ok-last) → held (last_key_of c.args.kbm) ≡ gives c.in_ok-last.last
told_last c =
    let end_fits : SFits w32 c.args.kbm.end.0 = record { sfits = c.well_formed.0.1.1.1.1.0.1.1.0.1 } in
    sym (told_held ◌-ℤ◌ c.args.kbm.end.0 (pos 1) end_fits (record { sfits = lit< tt }) (record { sfits = c.difference.type_inv }) c.difference.ensures c.to_i32.ensures)
    ∙ ap outcome c.in_ok-last.was

-- and of the exact middle key
told_middle : (c : In_ok-middle) → held (middle_key_of c.args.kbm) ≡ gives c.in_ok-middle.middle
told_middle c =
    sym (told_held ◌+ℤ◌ c.args.kbm.root.reference.0 c.args.kbm.root.offset (search rules) (search rules) (record { sfits = c.sum.type_inv }) c.sum.ensures c.to_i32-2.ensures)
    ∙ ap outcome c.in_ok-middle.was

pub returns : goal.returns
returns c =
    let s = (goal.at.returns c).Start in
    let l = (goal.at.returns c).In_ok-last in
    let m = (goal.at.returns c).In_ok-middle in
    let e = rw (to_z_pos w32 {n = c.args.kbm.count} (size_fits s), to_z-of_z {w = w32} (start_fits s), to_z-of_z {w = w32} (last_fits l), to_z-of_z {w = w32} (middle_fits m), to_z-of_z {w = w32} (reference_fits s), to_z-of_z {w = w16} (octave_fits s), to_z-of_z {w = w32} (octave_wide s), held_is (last_key_of c.args.kbm) (told_last l), held_is (middle_key_of c.args.kbm) (told_middle m)) at (as_pair c.write_mapping.ensures) in
    value_and_out (rw (told_last l, told_middle m) e)
