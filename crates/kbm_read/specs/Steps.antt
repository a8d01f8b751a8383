-- Document 01, "Mapping": what one line of a mapping file adds to what the lines before it said, and what it gives the table. Assumes nothing.
use Rattle.std.specs.Prelude.{Bool, true, false, List, [], ◌∷◌, ℕ, ◌+◌, ◌^◌, leb, ltb, eqb, ℤ, pos, nat_abs, ◌+ℤ◌, None, Some, Option, Result, Float}
use Rattle.std.specs.Int.Signed.{le_z}
use Rattle.base.specs.Numbers.{not_utf8, int_value, float_value, keyboard_mapping, unusable, overflow, no_room}
use Rattle.base.specs.Numbers.{backwards_range}
use Rattle.base.specs.Said.{Said, gives, refuses, pick, and_then}
use Rattle.floats.specs.Ranges.{in_pitch}
use Rattle.decimals.specs.Answers.{says_decimal}
use Rattle.decimals.specs.DecimalScan.{read_decimal}
use Rattle.integers.specs.AtLine.{int_at}
use Rattle.integers.specs.Integer.{Int, value, none, read_int}
use Rattle.decimals.specs.declared.DecimalError.{DecimalError}
use Rattle.text.specs.Reading.{Meaning, invalid, blank, comment, content}
use Rattle.kbm_read.specs.declared.line.Due.{Due}
use Rattle.kbm_read.specs.declared.line.Due.TheVariants as due
use Rattle.kbm_read.specs.declared.line.Found.{Found}
use Rattle.kbm_read.specs.declared.line.Found.TheVariants as found
use Rattle.kbm_read.specs.declared.line.Head.{Head}
use Rattle.kbm_read.specs.declared.line.State.{State}

-- the next line that is due, with what was said so far
abbrev pub goes_on : Due → Head → Said State
goes_on d h = gives (record { due = d; head = h; count = 0 })

-- what each required line, number k with token t, adds to what was said
abbrev pub take_size : ℕ → List ℕ → Head → Said State
take_size k t h =
    and_then (int_at int_value k (read_int false (2 ^ 16) t)) (λ z. goes_on due.FirstKey
    (record { size = nat_abs z; first = h.first; end = h.end; middle = h.middle; reference = h.reference; hz = h.hz; octave = h.octave }))

abbrev pub take_first : ℕ → List ℕ → Head → Said State
take_first k t h =
    and_then (int_at int_value k (read_int true (2 ^ 31) t)) (λ z. goes_on due.LastKey
    (record { size = h.size; first = z; end = h.end; middle = h.middle; reference = h.reference; hz = h.hz; octave = h.octave }))

-- the last key: 11 for the largest, 25 below the first
abbrev pub last_taken : ℕ → Head → ℤ → Said State
last_taken k h z =
    pick (le_z (pos 2147483647) z) (refuses overflow k) (pick (le_z h.first z) (goes_on due.MiddleKey
    (record { size = h.size; first = h.first; end = z +ℤ pos 1; middle = h.middle; reference = h.reference; hz = h.hz; octave = h.octave }))
    (refuses backwards_range k))

abbrev pub take_last : ℕ → List ℕ → Head → Said State
take_last k t h =
    and_then (int_at int_value k (read_int true (2 ^ 31) t)) (last_taken k h)

abbrev pub take_middle : ℕ → List ℕ → Head → Said State
take_middle k t h =
    and_then (int_at int_value k (read_int true (2 ^ 15) t)) (λ z. goes_on due.ReferenceKey
    (record { size = h.size; first = h.first; end = h.end; middle = z; reference = h.reference; hz = h.hz; octave = h.octave }))

abbrev pub take_reference : ℕ → List ℕ → Head → Said State
take_reference k t h =
    and_then (int_at int_value k (read_int true (2 ^ 15) t)) (λ z. goes_on due.ReferencePitch
    (record { size = h.size; first = h.first; end = h.end; middle = h.middle; reference = z; hz = h.hz; octave = h.octave }))

-- the reference pitch: 7, 9, and 10 outside 2^-10..2^20
abbrev pub reference_pitch_said : ℕ → Head → (Result Float DecimalError) → Said State
reference_pitch_said k h x =
    and_then (says_decimal float_value k x) (λ v. pick (in_pitch v) (goes_on due.Octave
    (record { size = h.size; first = h.first; end = h.end; middle = h.middle; reference = h.reference; hz = v; octave = h.octave }))
    (refuses unusable k))

abbrev pub take_pitch : ℕ → List ℕ → Head → Said State
take_pitch k t h = reference_pitch_said k h (read_decimal t)

abbrev pub take_octave : ℕ → List ℕ → Head → Said State
take_octave k t h =
    and_then (int_at int_value k (read_int true (2 ^ 15) t)) (λ z. goes_on due.Entries
    (record { size = h.size; first = h.first; end = h.end; middle = h.middle; reference = h.reference; hz = h.hz; octave = z }))

-- t is `x` (120) or `X` (88)
abbrev pub is_cross : List ℕ → Bool
is_cross [] = false
is_cross (b ∷ []) = pick (eqb b 120) true (eqb b 88)
is_cross (b ∷ c ∷ t) = false

-- a degree, where the token is one
abbrev pub degree_in : Int → (Option (Option ℤ))
degree_in (value z) = Some (Some z)
degree_in none = None

-- the entry that a token is
unfoldable pub entry_in : List ℕ → (Option (Option ℤ))
entry_in t = pick (is_cross t) (Some None) (degree_in (read_int true (2 ^ 15) t))

-- an entry takes a place: 8, and 12 where there is none
abbrev pub entry_placed : ℕ → ℕ → State → (Option (Option ℤ)) → Said State
entry_placed room k s (Some e) = pick (leb room s.count) (refuses no_room k) (gives (record { due = due.Entries; head = s.head; count = s.count + 1 }))
entry_placed room k s None = refuses keyboard_mapping k

abbrev pub take_entry : ℕ → ℕ → List ℕ → State → Said State
take_entry room k t s = entry_placed room k s (entry_in t)

-- the token of the line that is due
abbrev pub take_due : ℕ → ℕ → List ℕ → State → Due → Said State
take_due room k t s due.Size = take_size k t s.head
take_due room k t s due.FirstKey = take_first k t s.head
take_due room k t s due.LastKey = take_last k t s.head
take_due room k t s due.MiddleKey = take_middle k t s.head
take_due room k t s due.ReferenceKey = take_reference k t s.head
take_due room k t s due.ReferencePitch = take_pitch k t s.head
take_due room k t s due.Octave = take_octave k t s.head
take_due room k t s due.Entries = take_entry room k t s

unfoldable pub take_token : ℕ → ℕ → List ℕ → State → Said State
take_token room k t s = take_due room k t s s.due

-- what line k says
abbrev pub take_meaning : ℕ → ℕ → Meaning → State → Said State
take_meaning room k invalid s = refuses not_utf8 k
take_meaning room k blank s = gives s
take_meaning room k comment s = gives s
take_meaning room k (content m t) s = take_token room k t s

-- an entry, where the token is one
abbrev pub found_entry : (Option (Option ℤ)) → Found
found_entry (Some e) = found.Is e
found_entry None = found.Nothing

-- what a line gives the table, where n required lines are still to come
abbrev pub found_in : ℕ → Meaning → Found
found_in n invalid = found.Nothing
found_in n blank = found.Nothing
found_in n comment = found.Nothing
found_in n (content m t) = pick (ltb 0 n) found.Required (found_entry (entry_in t))
