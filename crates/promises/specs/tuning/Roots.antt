-- The root of a mapping that every call on a tuning takes, its offset turned over too: document 01, "Pitch is usable from 2^-10 to 2^20 Hz", "A
-- root offset of -2147483648 gives 11 in pitch calls". Assumes nothing.
use Rattle.std.specs.Prelude.{◌≡◌, true, ◌<◌, negsuc}
use Rattle.std.specs.Int.Signed.{mag}
use Rattle.kbm.specs.Root.{is_root}
use Rattle.kbm.specs.declared.Kbm.{Kbm}

-- its pitch is usable, and its offset is a number of 32 bits, not the least of them
pub record Usable (k : Kbm) : Type 0 where
  pub pitch : is_root k.root ≡ true
  pub offset : mag k.root.offset < 2147483648
  pub turns : k.root.offset ≡ negsuc 2147483647 → ⊥
