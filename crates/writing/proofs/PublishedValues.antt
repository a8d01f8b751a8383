-- What is printed, in the published formats: no word is a comment, a value alone stands on its line, a printed integer is a whole
-- number. Assumes nothing.
use mathlib.Core.Path.{refl, sym}
use mathlib.Core.Bool.{true, false}
use mathlib.Core.List.{List, [], ◌∷◌, ◌++◌, append-nil}
use Prim.Native.Nat.{ℕ, suc, ◌^◌, ◌<◌}
use native.Mathlib.Omega.{arith}
use lib.IntN.{ℤ, pos, negsuc}
use lib.Signed.{mag}
use Rattle.integers.specs.IntegerText.{Digits}
use Rattle.printing.specs.PrintText.{whole_text}
use Rattle.writing.specs.PublishedLines as P
use Rattle.writing.proofs.Plain.{Word, Words}
use Rattle.writing.proofs.Printed.{integer_form, digits_of_law}

-- no word is a comment
no_comment : (t : List ℕ) → Word t → P.PublishedComment t → ⊥
no_comment [] w c = c
no_comment (b ∷ t) w c = omega (arith, c, w.each.0)

pub all_kept : (ts : List (List ℕ)) → Words ts → P.Kept ts ts
all_kept [] w = P.Kept.none
all_kept (t ∷ ts) w = P.Kept.kept (no_comment t w.0) (all_kept ts w.1)

-- a value alone stands on its line
pub alone : (t : List ℕ) → P.Stands t t
alone t = record { before = []; rest = []; whole = sym (append-nil t); blank = tt; ends = tt }

-- the digits of a printed number
pub number_digits : (n : ℕ) → n < 10 ^ 18 → Digits (whole_text (pos n)) n
number_digits n h = let f = integer_form false n h in rw f.text (digits_of_law n false f)

-- a printed integer is a whole number
pub whole_number : (z : ℤ) → mag z < 2147483648 → P.Whole (whole_text z) z
whole_number (pos n) h = P.Whole.plain n (number_digits n (omega arith)) refl
whole_number (negsuc n) h =
    let f = integer_form true (suc n) (omega arith) in
    P.Whole.minus (f.whole ++ f.part) (suc n) f.text (digits_of_law (suc n) true f) refl

pub number : (z : ℤ) → mag z < 2147483648 → P.Number (whole_text z) z
number z h = record { token = whole_text z; stands = alone (whole_text z); value = whole_number z h }
