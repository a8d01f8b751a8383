-- The contracts of the calls for C that have one form, each of what the call answers (s), what stood behind its pointers, its result (r)
-- and what stands there after it. A call of its own kind has a relation of its own in its crate's specs/Calls.antt. Assumes nothing.
use Rattle.std.specs.Prelude.{◌≡◌, List, ℕ}
use Rattle.base.specs.Said.{Said}
use Rattle.base.specs.Tables.{after}
use Rattle.writing.specs.Fitted.{text_length}
use Rattle.telbijan_answers.specs.Interface.{result, kept, field_of}

-- nothing is stored
abbrev pub Answered : {A : Type 0} → Said A → ℕ → Type 0
Answered s r = r ≡ result s

-- the value is stored; a refusal leaves what was there
abbrev pub Stored : {A : Type 0} → Said A → A → ℕ → A → Type 0
Stored s old r new = (r ≡ result s) × (new ≡ kept s old)

-- a part of the value is stored
abbrev pub StoredPart : {A B : Type 0} → (A → B) → Said A → B → ℕ → B → Type 0
StoredPart part s old r new = (r ≡ result s) × (new ≡ kept (field_of part s) old)

-- two parts of the value are stored
abbrev pub StoredTwo : {A B C : Type 0} → (A → B) → (A → C) → Said A → B → C → ℕ → B → C → Type 0
StoredTwo first second s old other r new more =
    (r ≡ result s) × (new ≡ kept (field_of first s) old) × (more ≡ kept (field_of second s) other)

-- a text is written into the lent bytes, and how many bytes it has is stored; a refusal leaves both
abbrev pub Written : Said (List ℕ) → List ℕ → ℕ → ℕ → List ℕ → ℕ → Type 0
Written s old size r new written =
    (r ≡ result (text_length s)) × (new ≡ after s (λ t. t) old) × (written ≡ kept (text_length s) size)
