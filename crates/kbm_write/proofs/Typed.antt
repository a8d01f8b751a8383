-- A mapping that `export_kbm` writes, whose numbers are of their types, is one that the theorems speak of. Assumes nothing.
use mathlib.Core.Path.{◌≡◌, ◌∙◌}
use mathlib.Core.Bool.{true}
use mathlib.Core.List.{List}
use Prim.Native.Nat.{◌≤◌}
use native.Mathlib.Omega.{arith}
use lib.Dec.{leb}
use lib.IntN.{ℤ}
use lib.ListN.{length, take, length-take}
use lib.Ieee.Bits.{is_true}
use Rattle.base.specs.Integers.{in_i32}
use Rattle.floats.proofs.Ranges.{and_true}
use Rattle.kbm.specs.Table.{in_i16, are_entries, table_of}
use Rattle.kbm.specs.declared.Kbm.{Kbm}
use Rattle.kbm.proofs.Table.{length_entries, entries_typed}
use Rattle.kbm_write.specs.Export.{Writable}
use Rattle.kbm_write.specs.Typed.{TypedKbm}
use Rattle.kbm_write.proofs.Room.{table_fits}

-- what a writable mapping of the program's types is
pub typed : (kbm : Kbm) (map : List ℤ) → Writable kbm map → in_i32 kbm.start.0 ≡ true → in_i32 kbm.end.0 ≡ true → in_i32 kbm.root.reference.0 ≡ true
    → in_i16 kbm.octave ≡ true → kbm.count ≤ 65535 → TypedKbm kbm (table_of kbm.count map)
typed kbm map w s e r o c =
    let h = table_fits kbm.count map w.table in
    let n : length (take kbm.count map) ≡ kbm.count = simp length-take (omega (arith, h)) in
    record {
      start = s;
      end = e;
      reference = r;
      pitch = w.pitch;
      octave = o;
      size = c;
      last = w.last;
      middle = w.middle;
      degrees = entries_typed (take kbm.count map) (is_true (are_entries (take kbm.count map)) (and_true (leb kbm.count (length map)) (are_entries (take kbm.count map)) w.table).1);
      counted = length_entries (take kbm.count map) ∙ n;
    }
