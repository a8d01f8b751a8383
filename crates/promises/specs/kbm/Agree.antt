-- One text read twice: what it says as Scala's pages have it, and what it says by document 01, are the same numbers and entries. The degrees
-- of its keys are another matter (Sounding). Assumes nothing.
use Rattle.std.specs.Prelude.{◌≡◌, false, List, ◌^◌, pos, ◌+ℤ◌, ◌-ℤ◌, Option, ℤ}
use Rattle.std.specs.Float.Ieee.{round}
use Rattle.std.specs.Float.{binary64}
use Rattle.kbm.specs.declared.Kbm.{Kbm}
use Rattle.kbm_read.specs.Language.{added}
use Rattle.kbm_write.specs.Published as P

-- the numbers and entries of a text as published are those of document 01: the end is the key after the last, the offset lies between
-- reference and middle key, the pitch is the f64 nearest the frequency, and entries left out are added as unmapped
pub record Agree (m : P.Mapping) (k : Kbm) (es : List (Option ℤ)) : Type 0 where
  pub size : m.size ≡ k.count
  pub first : m.first ≡ k.start.0
  pub last : m.last +ℤ pos 1 ≡ k.end.0
  pub reference : m.reference ≡ k.root.reference.0
  pub middle : m.middle -ℤ m.reference ≡ k.root.offset
  pub octave : m.octave ≡ k.octave
  pub entries : es ≡ added m.size m.given
  pub pitch : k.root.pitch.0 ≡ round binary64 false m.hertz (10 ^ m.places)
