-- What a search that was not refused says: which entry it found, and how its degree comes from it. That the calls say it is
-- proofs/Theorems.antt. Assumes nothing.
use Rattle.std.specs.Prelude.{◌≡◌, true, List, ℕ, ℤ, pos, ◌+ℤ◌, Float}
use Rattle.base.specs.Numbers.{overflow, beyond_reach}
use Rattle.base.specs.Said.{Said, gives, refuses}
use Rattle.floats.specs.Ranges.{in_search}
use Rattle.pitch.specs.Pitches.{between_pitches}
use Rattle.sorting.specs.Entries.{Entry}
use Rattle.scl.specs.declared.Item.{Item}
use Rattle.kbm.specs.declared.KbmRoot.{KbmRoot}
use Rattle.relative.specs.Pitches.{root_degree, root_pitch}
use Rattle.searching.specs.Nearest.{Searched}
use Rattle.searching.specs.declared.Found.{Found}
use Rattle.searching.specs.Degrees.{approximation, declared_of}
use Rattle.searching.specs.declared.approximation.Approximation.{Approximation}

-- of a ratio x: the entry is nearest to x reduced by the period, and a is its degree with its deviation
pub record Finds (items : List Item) (es : List Entry) (x : Float) (degree : Found → Said Approximation) (a : Approximation) : Type 0 where
  pub found : Found
  pub searched : Searched items es x found
  pub degree_is : degree found ≡ gives a

-- of a pitch: x is the ratio from the root's pitch up to it
pub record FindsPitch (items : List Item) (es : List Entry) (root : KbmRoot) (pitch : Float) (degree : Found → Said Approximation) (a : Approximation) : Type 0 where
  pub root_at : ℤ
  pub sounding : Float
  pub ratio : Float
  pub root_given : root_degree root ≡ gives root_at
  pub is_pitch : root_pitch items root.pitch.0 root_at ≡ gives sounding
  pub is_ratio : between_pitches sounding pitch ≡ gives ratio
  pub searched : in_search ratio ≡ true
  pub finds : Finds items es ratio degree a

-- of a key: so many steps above the reference key as the found degree says, with its deviation
pub record FindsKey (count : ℕ) (items : List Item) (es : List Entry) (root : KbmRoot) (pitch : Float) (a : Approximation) : Type 0 where
  pub degree : Approximation
  pub finds : FindsPitch items es root pitch (declared_of count) degree
  pub key_is : a ≡ approximation degree.deviation (root.reference.0 +ℤ degree.approx_value)

-- ---- "A scale without items answers degree 0 with the ratio itself"
-- of a pitch: the ratio from the root's pitch up to it
pub record FindsNone (items : List Item) (root : KbmRoot) (pitch : Float) (a : Approximation) : Type 0 where
  pub root_at : ℤ
  pub sounding : Float
  pub ratio : Float
  pub root_given : root_degree root ≡ gives root_at
  pub is_pitch : root_pitch items root.pitch.0 root_at ≡ gives sounding
  pub is_ratio : between_pitches sounding pitch ≡ gives ratio
  pub searched : in_search ratio ≡ true
  pub answer : a ≡ approximation ratio (pos 0)

-- ---- which refusals are left, once tables, root and target are usable: a degree or key, 11 or 18
pub data Answers (s : Said Approximation) : Type 0 where
  answered : (a : Approximation) → s ≡ gives a → Answers s
  passed : s ≡ refuses overflow 0 → Answers s
  beyond : s ≡ refuses beyond_reach 0 → Answers s
