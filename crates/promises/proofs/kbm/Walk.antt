-- The reader's walk over the lines of an export. Assumes nothing.
use Rattle.std.specs.Prelude.{Some, None, Option, Ok}
use mathlib.Core.Path.{◌≡◌, refl, sym, ap}
use mathlib.Core.Bool.{Bool, true, false}
use mathlib.Core.List.{List, [], ◌∷◌}
use Prim.Native.Nat.{ℕ, suc, ◌+◌, ◌^◌, ◌≤◌, ◌<◌}
use native.Mathlib.Nat.{add-zero}
use native.Mathlib.Omega.{arith}
use lib.Dec.{lit<}
use lib.Ieee.{Float}
use lib.IntN.{ℤ, pos, ◌+ℤ◌}
use lib.ListN.{length}
use lib.Signed.{le_z, mag}
use borrow.Author.Tests.{lt-leb, le-ltb, ne_eqb}
use Rattle.base.specs.Said.{gives}
use Rattle.floats.specs.Ranges.{in_pitch}
use Rattle.decimals.specs.DecimalScan.{read_decimal}
use Rattle.integers.specs.Digits.{AllDigits}
use Rattle.integers.specs.Integer.{value, read_int}
use Rattle.integers.specs.IntegerText.{IntText}
use Rattle.printing.specs.PrintText.{whole_text}
use Rattle.decimals.specs.declared.DecimalError.TheVariants as decimal
use Rattle.integers.proofs.Language.{complete}
use Rattle.kbm.specs.Table.{in_i16, AreI16}
use Rattle.kbm.proofs.Entries.{mag_i16}
use Rattle.listing.specs.Reader.{walk_lines, given_after}
use Rattle.kbm_read.specs.Reader.{is_cross, entry_in, take_token, finished, walk, unread, mapping_of, given_from}
use Rattle.kbm_read.specs.declared.line.Due.TheVariants as due
use Rattle.kbm_read.specs.declared.line.Head.{Head}
use Rattle.kbm_write.specs.Export.{entry_texts}
use Rattle.writing.proofs.Plain.{selves}
use Rattle.writing.proofs.Printed.{signed_reads}

-- a printed integer of a type with a sign is read as that integer
pub whole_value : (top : ℕ) (z : ℤ) → 0 < top → mag z < top → top < 10 ^ 18 → read_int true top (whole_text z) ≡ value z
whole_value top z p h l = sym (complete true top p z (whole_text z) (signed_reads top z h l))

-- an integer is no cross
digits_not : (t : List ℕ) → AllDigits t → is_cross t ≡ false
digits_not [] a = refl
digits_not (b ∷ []) a = rw (ne_eqb b 120 (λ e. omega (arith, e, a.0)), ne_eqb b 88 (λ e. omega (arith, e, a.0)))
digits_not (b ∷ c ∷ t) a = refl

sign_not : (b : ℕ) (t : List ℕ) → 0 < length t → is_cross (b ∷ t) ≡ false
sign_not b [] h = absurd (omega arith)
sign_not b (c ∷ t) h = refl

integer_not : {signed : Bool} {top : ℕ} {t : List ℕ} {z : ℤ} → IntText signed top t z → is_cross t ≡ false
integer_not {signed} {top} {t} (IntText.plain n d h e) = digits_not t d.each
integer_not (IntText.plus u n s d h e) = rw s (sign_not 43 u d.some)
integer_not (IntText.minus u n g s d h e) = rw s (sign_not 45 u d.some)

-- a printed degree is read as that entry
pub degree_in : (z : ℤ) → in_i16 z ≡ true → entry_in (whole_text z) ≡ Some (Some z)
unfolding entry_in
degree_in z h =
    let i = signed_reads (2 ^ 15) z (mag_i16 z h) (lit< tt) in
    rw (integer_not i, whole_value (2 ^ 15) z (lit< tt) (mag_i16 z h) (lit< tt))

pub cross_in : entry_in (120 ∷ []) ≡ Some None
unfolding entry_in
cross_in = refl

-- what the seven lines say, together
abbrev pub head_is : ℕ → ℤ → ℤ → ℤ → ℤ → Float → ℤ → Head
head_is size first last middle reference hz octave =
    record { size = size; first = first; end = last +ℤ pos 1; middle = middle; reference = reference; hz = hz; octave = octave }

-- THE SEVEN LINES: each token is read, and the next line is due
pub head_read : (room : ℕ) (t1 t2 t3 t4 t5 t6 t7 : List ℕ) (ts : List (List ℕ)) {size : ℕ} {first last middle reference : ℤ} {hz : Float} {octave : ℤ}
    → read_int false (2 ^ 16) t1 ≡ value (pos size) → read_int true (2 ^ 31) t2 ≡ value first → read_int true (2 ^ 31) t3 ≡ value last
    → le_z (pos 2147483647) last ≡ false → le_z first last ≡ true → read_int true (2 ^ 15) t4 ≡ value middle → read_int true (2 ^ 15) t5 ≡ value reference
    → read_decimal t6 ≡ Ok hz → in_pitch hz ≡ true → read_int true (2 ^ 15) t7 ≡ value octave
    → walk room 1 unread (selves (t1 ∷ t2 ∷ t3 ∷ t4 ∷ t5 ∷ t6 ∷ t7 ∷ ts))
    ≡ walk room 8 (record { due = due.Entries; head = head_is size first last middle reference hz octave; count = 0 }) (selves ts)
unfolding walk_lines selves take_token
head_read room t1 t2 t3 t4 t5 t6 t7 ts e1 e2 e3 n3 u3 e4 e5 e6 n6 e7 = rw (e1, e2, e3, n3, u3, e4, e5, e6, n6, e7)

-- THE ENTRIES: each takes a place, where there are enough
pub entries_read : (room k : ℕ) (h : Head) (n : ℕ) (es : List (Option ℤ)) → AreI16 es → n + length es ≤ room
    → walk room k (record { due = due.Entries; head = h; count = n }) (selves (entry_texts es)) ≡ finished room (record { due = due.Entries; head = h; count = n + length es })
unfolding walk_lines selves entry_texts take_token
entries_read room k h n [] d l = rw (add-zero n)
entries_read room k h n (Some z ∷ es) d l =
    let e : n + 1 + length es ≡ n + suc (length es) = omega arith in
    rw (degree_in z d.0, lt-leb room n (omega arith), entries_read room (k + 1) h (n + 1) es d.1 (omega arith), e)
entries_read room k h n (None ∷ es) d l =
    let e : n + 1 + length es ≡ n + suc (length es) = omega arith in
    rw (cross_in, lt-leb room n (omega arith), entries_read room (k + 1) h (n + 1) es d.1 (omega arith), e)

-- the end: as many entries as the size says, which have their places
pub ends_read : (room : ℕ) (h : Head) (n : ℕ) → n ≡ h.size → n ≤ 65535 → n ≤ room → finished room (record { due = due.Entries; head = h; count = n }) ≡ gives (mapping_of h)
unfolding finished
ends_read room h n e l r = rw (le-ltb room h.size (omega arith), le-ltb 65535 n (omega arith), le-ltb h.size n (omega arith))

-- the entries that the lines give
pub entries_given : (es : List (Option ℤ)) → AreI16 es → given_from 0 (selves (entry_texts es)) ≡ es
unfolding given_after selves entry_texts
entries_given [] d = refl
entries_given (Some z ∷ es) d = rw (degree_in z d.0) (ap (λ (l : List (Option ℤ)). Some z ∷ l) (entries_given es d.1))
entries_given (None ∷ es) d = rw cross_in (ap (λ (l : List (Option ℤ)). None ∷ l) (entries_given es d.1))

pub head_given : (t1 t2 t3 t4 t5 t6 t7 : List ℕ) (ts : List (List ℕ)) → given_from 7 (selves (t1 ∷ t2 ∷ t3 ∷ t4 ∷ t5 ∷ t6 ∷ t7 ∷ ts)) ≡ given_from 0 (selves ts)
unfolding given_after selves
head_given t1 t2 t3 t4 t5 t6 t7 ts = refl
