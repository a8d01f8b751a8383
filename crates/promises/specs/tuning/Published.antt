-- THE PITCH OF A KEY AS PUBLISHED: by Scala's pages the reference key sounds the frequency, and every other key sounds in the ratio of the
-- scale's degrees. Said of what a mapping file says, with no reader and no loop; document 02, W1, has the ratio as two rounded steps, and
-- its order of refusals. That the calls answer so is proofs/tuning/Published.antt. Assumes nothing.
use Rattle.std.specs.Prelude.{◌≡◌, true, false, List, ◌↔◌, ℤ, ◌-ℤ◌, Float}
use Rattle.std.specs.Float.{binary64}
use Rattle.std.specs.Float.Ieee.{mul, div}
use Rattle.base.specs.Integers.{in_i32}
use Rattle.base.specs.Numbers.{overflow, key_out_of_range, unmapped_key, beyond_reach, reference_unmapped}
use Rattle.base.specs.Said.{Said, gives, refuses}
use Rattle.floats.specs.Ranges.{in_reach}
use Rattle.scl.specs.declared.Item.{Item}
use Rattle.kbm_write.specs.Published as P
use Rattle.relative.specs.Pitches.{pitch_from}
use Rattle.relative.specs.Relative.{relative_pitch_of}
use Rattle.promises.specs.kbm.Sounding.{SoundsWithin, SilentWithin, SoundsPast}

-- ---- the reference key. "The range doesn't limit the reference key": it may be retuned or not
-- it sounds the degree r as published; its distance from the middle key and r are numbers of 32 bits
pub record ReferenceSounds (m : P.Mapping) (r : ℤ) : Type 0 where
  pub near : in_i32 (m.reference -ℤ m.middle) ≡ true
  pub held : in_i32 r ≡ true
  pub sounds : P.Sounds m m.reference r

-- it sounds no degree as published; its distance from the middle key is a number of 32 bits ("11 for d, 19")
pub record ReferenceSilent (m : P.Mapping) : Type 0 where
  pub near : in_i32 (m.reference -ℤ m.middle) ≡ true
  pub silent : (r : ℤ) → P.Sounds m m.reference r → ⊥

-- its distance from the middle key, or the degree that it sounds as published, is no number of 32 bits
pub data ReferencePast (m : P.Mapping) : Type 0 where
  distance : in_i32 (m.reference -ℤ m.middle) ≡ false → ReferencePast m
  degree : (r : ℤ) → P.Sounds m m.reference r → in_i32 r ≡ false → ReferencePast m

-- THE REFERENCE KEY'S OWN DEGREE IS AS PUBLISHED: a degree exactly where it sounds that one, 19 exactly where it sounds none, 11 exactly
-- where a number passes 32 bits
pub record ReferenceAs (m : P.Mapping) (answer : Said ℤ) : Type 0 where
  pub degree : (r : ℤ) → (answer ≡ gives r) ↔ ReferenceSounds m r
  pub silent : (answer ≡ refuses reference_unmapped 0) ↔ ReferenceSilent m
  pub past : (answer ≡ refuses overflow 0) ↔ ReferencePast m

-- ---- the pitch of a key, where the reference key sounds p Hz
-- the key sounds one degree and the reference key another, and s is what comes of p in the ratio of the two: `TwoSteps` below, or 18
pub record InRatio (m : P.Mapping) (items : List Item) (p : Float) (key : ℤ) (s : Said Float) : Type 0 where
  pub degree : ℤ
  pub root : ℤ
  pub sounds : SoundsWithin m key degree
  pub reference : ReferenceSounds m root
  pub pitch : pitch_from items p root degree ≡ s

-- the key sounds a degree, and the reference key none: there is nothing that p could be the pitch of
pub record NoReference (m : P.Mapping) (key : ℤ) : Type 0 where
  pub degree : ℤ
  pub asked : SoundsWithin m key degree
  pub reference : ReferenceSilent m

-- a number of the key passes 32 bits; or the key sounds a degree, and a number of the reference key does
pub data EitherPast (m : P.Mapping) (key : ℤ) : Type 0 where
  asked : SoundsPast m key → EitherPast m key
  reference : (d : ℤ) → SoundsWithin m key d → ReferencePast m → EitherPast m key

-- THE PITCH OF A KEY IS AS PUBLISHED: x Hz exactly where the ratio gives x, 18 exactly where it goes beyond reach; 16 exactly where the
-- key is not retuned, 17 exactly where it sounds no degree; 19 exactly where it does and the reference key does not; 11 in the cases left
pub record PitchedAs (m : P.Mapping) (items : List Item) (p : Float) (key : ℤ) (answer : Said Float) : Type 0 where
  pub pitch : (x : Float) → (answer ≡ gives x) ↔ InRatio m items p key (gives x)
  pub beyond : (answer ≡ refuses beyond_reach 0) ↔ InRatio m items p key (refuses beyond_reach 0)
  pub outside : (answer ≡ refuses key_out_of_range 0) ↔ (P.Retuned m key → ⊥)
  pub silent : (answer ≡ refuses unmapped_key 0) ↔ SilentWithin m key
  pub reference_silent : (answer ≡ refuses reference_unmapped 0) ↔ NoReference m key
  pub past : (answer ≡ refuses overflow 0) ↔ EitherPast m key

-- ---- the ratio
-- "The pitch is reference pitch divided by the relative pitch of the reference key's own degree, times that of the key's degree": two
-- steps, each rounded once to an f64 that lies in 2^-900..2^900
pub record TwoSteps (items : List Item) (p : Float) (root degree : ℤ) (x : Float) : Type 0 where
  pub below : Float
  pub above : Float
  pub of_root : relative_pitch_of items root ≡ gives below
  pub of_degree : relative_pitch_of items degree ≡ gives above
  pub quotient : in_reach (div binary64 p below) ≡ true
  pub product : in_reach (mul binary64 (div binary64 p below) above) ≡ true
  pub is : x ≡ mul binary64 (div binary64 p below) above
