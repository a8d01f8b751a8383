-- The numbers of a mapping are of their types, as those of every value in the program are: what the theorems on
-- exports start from. Assumes nothing.
use Rattle.std.specs.Prelude.{ℤ}
use Rattle.std.specs.Prelude.{◌≡◌, true, List, ◌≤◌, length, Option}
use Rattle.base.specs.Integers.{in_i32}
use Rattle.floats.specs.Ranges.{in_pitch}
use Rattle.kbm.specs.Table.{in_i16, AreI16}
use Rattle.kbm.specs.declared.Kbm.{Kbm}
use Rattle.kbm_write.specs.Export.{last_key_of, middle_key_of}

-- keys and octave are of their types, the pitch is usable, last and middle key are keys, and the entries are as many as the count
pub record TypedKbm (kbm : Kbm) (es : List (Option ℤ)) : Type 0 where
  pub start : in_i32 kbm.start.0 ≡ true
  pub end : in_i32 kbm.end.0 ≡ true
  pub reference : in_i32 kbm.root.reference.0 ≡ true
  pub pitch : in_pitch kbm.root.pitch.0 ≡ true
  pub octave : in_i16 kbm.octave ≡ true
  pub size : kbm.count ≤ 65535
  pub last : in_i32 (last_key_of kbm) ≡ true
  pub middle : in_i32 (middle_key_of kbm) ≡ true
  pub degrees : AreI16 es
  pub counted : length es ≡ kbm.count

-- the numbers of a mapping are of their types, as those of every `Kbm` of the program are
pub record OfTypes (kbm : Kbm) : Type 0 where
  pub start : in_i32 kbm.start.0 ≡ true
  pub end : in_i32 kbm.end.0 ≡ true
  pub reference : in_i32 kbm.root.reference.0 ≡ true
  pub octave : in_i16 kbm.octave ≡ true
  pub count : kbm.count ≤ 65535
