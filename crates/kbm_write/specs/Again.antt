-- An export read again: which mappings come back. The reader takes no backwards range (25), its types for reference and middle key are
-- narrower than the mapping's, and three decimals may say less than the pitch. Assumes nothing.
use Rattle.std.specs.Prelude.{◌≡◌, true, ◌<ℤ◌}
use Rattle.writing.specs.Thousandths.{nearest_three}
use Rattle.kbm.specs.Table.{in_i16}
use Rattle.kbm.specs.declared.Kbm.{Kbm}
use Rattle.kbm_write.specs.Export.{middle_key_of}

-- the range has a key, reference and middle key fit i16, and the pitch is the f64 nearest its own three decimals
pub record ComesBack (kbm : Kbm) : Type 0 where
  pub forward : kbm.start.0 <ℤ kbm.end.0
  pub reference : in_i16 kbm.root.reference.0 ≡ true
  pub middle : in_i16 (middle_key_of kbm) ≡ true
  pub pitch : nearest_three kbm.root.pitch.0 ≡ kbm.root.pitch.0
