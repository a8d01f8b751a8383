-- What a key of a mapping has: document 01, "Keys", as a relation. "For a key in first..last let d = key - reference key [..]
-- Order: 16, 11 for d, 17, 11." That the code answers it is `key_has` of proofs/Theorems.antt. Assumes nothing.
use Rattle.std.specs.Prelude.{◌≡◌, Bool, true, false, List, ◌⊎◌, ℕ, ℤ, ◌+ℤ◌, ◌-ℤ◌, ◌*ℤ◌, length, get_or, Some, None, Option}
use Rattle.base.specs.Integers.{Divides, in_i32}
use Rattle.base.specs.Numbers.{overflow, key_out_of_range, unmapped_key}
use Rattle.base.specs.Said.{Said, gives, refuses}
use Rattle.key.specs.declared.PianoKey.{PianoKey}
use Rattle.kbm.specs.Degree.{in_range}
use Rattle.kbm.specs.declared.Kbm.{Kbm}

-- the key is in first..last
abbrev pub in_keys : Kbm → PianoKey → Bool
in_keys kbm key = in_range kbm.start kbm.end key

-- d: the keys from the reference key up to this one
abbrev pub distance : Kbm → PianoKey → ℤ
distance kbm key = key.0 -ℤ kbm.root.reference.0

-- counting d keys round these entries reaches e: "d = q*size + r, 0 <= r < size", and e is entry r
pub record Reaches (es : List (Option ℤ)) (d : ℤ) (q : ℤ) (e : (Option ℤ)) : Type 0 where
  pub place : ℕ
  pub counted : Divides d (length es) q place
  pub found : get_or es place None ≡ e

-- what is said of a key, case by case in 01's order
pub data Has (kbm : Kbm) (es : List (Option ℤ)) (key : PianoKey) (s : Said ℤ) : Type 0 where
  outside : in_keys kbm key ≡ false → s ≡ refuses key_out_of_range 0 → Has kbm es key s
  far : in_keys kbm key ≡ true → in_i32 (distance kbm key) ≡ false → s ≡ refuses overflow 0 → Has kbm es key s
  plain : in_keys kbm key ≡ true → in_i32 (distance kbm key) ≡ true → length es ≡ 0 → s ≡ gives (distance kbm key) → Has kbm es key s
  none : in_keys kbm key ≡ true → in_i32 (distance kbm key) ≡ true → (q : ℤ) → Reaches es (distance kbm key) q None → s ≡ refuses unmapped_key 0 → Has kbm es key s
  passed : in_keys kbm key ≡ true → in_i32 (distance kbm key) ≡ true → (q e : ℤ) → Reaches es (distance kbm key) q (Some e) →
      in_i32 (e +ℤ q *ℤ kbm.octave) ≡ false → s ≡ refuses overflow 0 → Has kbm es key s
  degree : in_keys kbm key ≡ true → in_i32 (distance kbm key) ≡ true → (q e : ℤ) → Reaches es (distance kbm key) q (Some e) →
      in_i32 (e +ℤ q *ℤ kbm.octave) ≡ true → s ≡ gives (e +ℤ q *ℤ kbm.octave) → Has kbm es key s

-- no degree: 16 or 17
abbrev pub Lacks : Said ℤ → Type 0
Lacks s = (s ≡ refuses key_out_of_range 0) ⊎ (s ≡ refuses unmapped_key 0)

-- the key is inside, its distance is a number of 32 bits, and the entry that counting round reaches is unmapped
pub record Gap (kbm : Kbm) (es : List (Option ℤ)) (key : PianoKey) : Type 0 where
  pub inside : in_keys kbm key ≡ true
  pub near : in_i32 (distance kbm key) ≡ true
  pub quotient : ℤ
  pub reached : Reaches es (distance kbm key) quotient None

-- the entry that counting round reaches is mapped, and its degree is outside 32 bits
pub record Passes (kbm : Kbm) (es : List (Option ℤ)) (key : PianoKey) : Type 0 where
  pub quotient : ℤ
  pub entry : ℤ
  pub reached : Reaches es (distance kbm key) quotient (Some entry)
  pub past : in_i32 (entry +ℤ quotient *ℤ kbm.octave) ≡ false
