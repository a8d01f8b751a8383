-- WHAT `kbmcopy` PRINTS, document 01, "Writing", over the language of mappings. No reader is named here. Assumes nothing.
use Rattle.std.specs.Prelude.{◌≡◌, List, ℕ, ◌≤◌, ◌<◌, length, Option, ℤ}
use Rattle.base.specs.Numbers.{no_room}
use Rattle.kbm.specs.declared.Kbm.{Kbm}
use Rattle.kbm_read.specs.Language.{MappingText, FaultText}
use Rattle.kbm_write.specs.Export.{export_text}
use Rattle.copying.specs.Copy.{refused_text}

-- the input is a mapping file with at most 8,192 entries
pub record Copied (s : List ℕ) (k : Kbm) (es : List (Option ℤ)) : Type 0 where
  pub short : length s ≤ 65536
  pub mapping : MappingText s k es
  pub places : length es ≤ 8192

-- it is none, and this is its earliest fault, 12 where it needs more places
pub record Faulty (s : List ℕ) (n d : ℕ) : Type 0 where
  pub short : length s ≤ 65536
  pub fault : FaultText 8192 s n d

-- for the input s the text t is printed: "its export, or one line `refused NUMBER DETAIL`. .. input over 65,536 bytes gives
-- `refused 12 0`"
pub data Prints (s t : List ℕ) : Type 0 where
  copied : (k : Kbm) (es : List (Option ℤ)) → Copied s k es → t ≡ export_text k es → Prints s t
  faulty : (n d : ℕ) → Faulty s n d → t ≡ refused_text n d → Prints s t
  long : 65536 < length s → t ≡ refused_text no_room 0 → Prints s t
