-- How the interface for C says what a call answers: the result is 0 or a refusal's code, and a value is stored where the
-- caller lent room for it; a refusal leaves that room as it was. Assumes nothing.
use Rattle.std.specs.Prelude.{ℕ, ◌+◌, ◌*◌, ◌/◌, ◌%◌, ◌^◌, ◌≤◌}
use Rattle.base.specs.Said.{Said, gives, refuses}

-- detail * 256 + number (the detail's last 56 bits; no text has as many lines)
abbrev pub code : ℕ → ℕ → ℕ
code number detail = detail % 2 ^ 56 * 256 + number % 256

-- 0 accepted, else the refusal's code
abbrev pub result : {A : Type 0} → Said A → ℕ
result (gives a) = 0
result (refuses number detail) = code number detail

-- a refusal's number can be taken back from its code: it is not 0, and has 8 bits
abbrev pub Coded : {A : Type 0} → Said A → Type 0
Coded (gives a) = Unit {0}
Coded (refuses number detail) = (1 ≤ number) × (number ≤ 255)

-- the value given, or what was there
abbrev pub kept : {A : Type 0} → Said A → A → A
kept (gives a) old = a
kept (refuses number detail) old = old

-- a part of the value given; a refusal stays
abbrev pub field_of : {A B : Type 0} → (A → B) → Said A → Said B
field_of part (gives a) = gives (part a)
field_of part (refuses number detail) = refuses number detail

-- the number and the detail that a caller takes from a result
abbrev pub number_in : ℕ → ℕ
number_in r = r % 256

abbrev pub detail_in : ℕ → ℕ
detail_in r = r / 256
