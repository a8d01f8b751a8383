-- THE DEGREE OF A KEY, BY THE TEXT OF A MAPPING FILE: document 01, "Keys" and "Mapping", and document 02, W1, said of the text's own
-- lines: the values of its seven required lines, and the tokens of the lines after them. No table and no reader is named here. What counts
-- keys takes the line that is counted from first: `reference_key` is 01's counting, `middle_key` W1's. Assumes nothing.
use Rattle.std.specs.Prelude.{◌≡◌, true, false, List, [], ◌∷◌, ◌⊎◌, ℕ, ◌^◌, ◌≤◌, ◌<◌, ℤ, ◌+ℤ◌, ◌-ℤ◌, ◌*ℤ◌, length, get_or, ◌≤ℤ◌, ◌<ℤ◌, Option}
use Rattle.base.specs.Integers.{Divides, in_i32}
use Rattle.base.specs.Numbers.{overflow, key_out_of_range, unmapped_key}
use Rattle.base.specs.Said.{Said, gives, refuses}
use Rattle.integers.specs.IntegerText.{IntText}
use Rattle.kbm.specs.declared.Kbm.{Kbm}
use Rattle.kbm_read.specs.Language.{required, Values, size_of, MappingText}

-- the tokens of the lines after the seven required ones: the entries that the text writes
abbrev pub entry_tokens : {s : List ℕ} {k : Kbm} {es : List (Option ℤ)} → MappingText s k es → List (List ℕ)
entry_tokens t = t.lines.rest

-- what the required lines say: the first and the last key, the middle key, the reference key, the formal octave
abbrev pub first_key : Values required → ℤ
first_key vs = vs.1.0

abbrev pub last_key : Values required → ℤ
last_key vs = vs.1.1.0

abbrev pub middle_key : Values required → ℤ
middle_key vs = vs.1.1.1.0

abbrev pub reference_key : Values required → ℤ
reference_key vs = vs.1.1.1.1.0

abbrev pub formal_octave : Values required → ℤ
formal_octave vs = vs.1.1.1.1.1.1.0

-- "For a key in first..last"
abbrev pub Inside : Values required → ℤ → Type 0
Inside vs key = (first_key vs ≤ℤ key) × (key ≤ℤ last_key vs)

-- below the first key, or above the last
abbrev pub Outside : Values required → ℤ → Type 0
Outside vs key = (key <ℤ first_key vs) ⊎ (last_key vs <ℤ key)

-- "let d = key - reference key"; in W1 "d is key minus middle key"
abbrev pub steps : (Values required → ℤ) → Values required → ℤ → ℤ
steps origin vs key = key -ℤ origin vs

-- "d = q*size + r, 0 <= r < size": counting d keys round the map from the key of that line comes to its place r, q times
-- round. A map without entries has no place to come to
abbrev pub Counts : (Values required → ℤ) → Values required → ℤ → ℤ → ℕ → Type 0
Counts origin vs key q r = Divides (steps origin vs key) (size_of vs) q r

-- place r of the map is unmapped: its token is `x` or `X`, or it lies past the entries written ("missing entries are added as unmapped
-- up to the size")
abbrev pub NotMapped : List (List ℕ) → ℕ → Type 0
NotMapped ts r = ((get_or ts r [] ≡ 120 ∷ []) ⊎ (get_or ts r [] ≡ 88 ∷ [])) ⊎ (length ts ≤ r)

-- place r of the map has the degree e: its token is that integer
abbrev pub MappedTo : List (List ℕ) → ℕ → ℤ → Type 0
MappedTo ts r e = (r < length ts) × IntText true (2 ^ 15) (get_or ts r []) e

-- A KEY WITHOUT A DEGREE: below the first key, above the last, or the map has entries and the place reached is unmapped. (The place is
-- looked up only where d is a number of 32 bits: "Order: 16, 11 for d, 17, 11")
pub data Silent (origin : Values required → ℤ) (vs : Values required) (ts : List (List ℕ)) (key : ℤ) : Type 0 where
  under : key <ℤ first_key vs → Silent origin vs ts key
  over : last_key vs <ℤ key → Silent origin vs ts key
  gap : in_i32 (steps origin vs key) ≡ true → (q : ℤ) (r : ℕ) → Counts origin vs key q r → NotMapped ts r → Silent origin vs ts key

-- A KEY WHOSE NUMBERS PASS 32 BITS: d does, or "entry + q*formal octave" of the place reached does
pub data TooFar (origin : Values required → ℤ) (vs : Values required) (ts : List (List ℕ)) (key : ℤ) : Type 0 where
  distance : in_i32 (steps origin vs key) ≡ false → TooFar origin vs ts key
  degree : (q : ℤ) (r : ℕ) (e : ℤ) → Counts origin vs key q r → MappedTo ts r e → in_i32 (e +ℤ q *ℤ formal_octave vs) ≡ false →
      TooFar origin vs ts key

-- what is said of a key, case by case in 01's order
pub data SaidOf (origin : Values required → ℤ) (vs : Values required) (ts : List (List ℕ)) (key : ℤ) (s : Said ℤ) : Type 0 where
  outside : Outside vs key → s ≡ refuses key_out_of_range 0 → SaidOf origin vs ts key s
  far : Inside vs key → in_i32 (steps origin vs key) ≡ false → s ≡ refuses overflow 0 → SaidOf origin vs ts key s
  linear : Inside vs key → in_i32 (steps origin vs key) ≡ true → size_of vs ≡ 0 → s ≡ gives (steps origin vs key) →
      SaidOf origin vs ts key s
  gap : Inside vs key → in_i32 (steps origin vs key) ≡ true → (q : ℤ) (r : ℕ) → Counts origin vs key q r → NotMapped ts r →
      s ≡ refuses unmapped_key 0 → SaidOf origin vs ts key s
  steep : Inside vs key → in_i32 (steps origin vs key) ≡ true → (q : ℤ) (r : ℕ) (e : ℤ) → Counts origin vs key q r → MappedTo ts r e →
      in_i32 (e +ℤ q *ℤ formal_octave vs) ≡ false → s ≡ refuses overflow 0 → SaidOf origin vs ts key s
  degree : Inside vs key → in_i32 (steps origin vs key) ≡ true → (q : ℤ) (r : ℕ) (e : ℤ) → Counts origin vs key q r → MappedTo ts r e →
      in_i32 (e +ℤ q *ℤ formal_octave vs) ≡ true → s ≡ gives (e +ℤ q *ℤ formal_octave vs) → SaidOf origin vs ts key s
