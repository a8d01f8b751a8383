-- Document 01, "Writing": a number as text. Decimals "from the exact value, ties to even, sign kept: -0.0 gives -0.000";
-- integers as declared. Over 0 to 4 decimals, with an optional plus (request W3). Assumes nothing.
use Rattle.std.specs.Prelude.{Bool, true, false, List, [], ◌∷◌, ◌++◌, ℕ, zero, suc, ◌+◌, ◌*◌, ◌/◌, ◌%◌, ◌^◌, ltb, leb, ℤ, pos, negsuc, length, Float, Some, None, Option}
use Rattle.std.proofs.lemmas.List.Edits.{sets}
use Rattle.std.specs.Float.{nan, inf, fin}
use Rattle.std.specs.Float.Ieee.{up, down}
use Rattle.std.specs.Float.Ieee.Nearest.{closest}
use Rattle.base.specs.Said.{pick}
use Rattle.floats.specs.Units.{negative}

-- |x| is at most 2^53 (x is m * up e / down e)
abbrev pub limited : Float → Bool
limited nan = false
limited (inf s) = false
limited (fin s m e) = leb (m * up e) (2 ^ 53 * down e)

-- |x| * 10^d, from the exact value, to the nearest whole number, a tie to the even one
abbrev pub scaled_of : ℕ → Float → ℕ
scaled_of d nan = 0
scaled_of d (inf s) = 0
scaled_of d (fin s m e) = closest (m * up e * 10 ^ d) (down e)

-- the last k decimal digits of n
abbrev pub digits_of : ℕ → ℕ → List ℕ
digits_of zero n = []
digits_of (suc k) n = (48 + n / 10 ^ k % 10) ∷ digits_of k n

-- how many decimal digits n has, at least 1 and at most f + 1
abbrev pub width_of : ℕ → ℕ → ℕ
width_of zero n = 1
width_of (suc f) n = pick (ltb n 10) 1 (suc (width_of f (n / 10)))

-- the sign: a minus, or a plus where one is asked for
abbrev pub sign_text : Bool → Bool → List ℕ
sign_text true plus = 45 ∷ []
sign_text false true = 43 ∷ []
sign_text false false = []

-- the dot, where there are decimals
abbrev pub point_text : ℕ → List ℕ
point_text d = pick (ltb 0 d) (46 ∷ []) []

-- sign, the last k digits of the whole part, dot, d decimals
abbrev pub parts_text : Bool → Bool → ℕ → ℕ → ℕ → ℕ → List ℕ
parts_text s plus whole k part d = sign_text s plus ++ (digits_of k whole ++ (point_text d ++ digits_of d part))

-- the number n / 10^d with d decimals
abbrev pub fixed_text : ℕ → Bool → Bool → ℕ → List ℕ
fixed_text d s plus n = parts_text s plus (n / 10 ^ d) (width_of 18 (n / 10 ^ d)) (n % 10 ^ d) d

-- x with d decimals
abbrev pub text_of : ℕ → Bool → Float → List ℕ
text_of d plus x = fixed_text d (negative x) plus (scaled_of d x)

-- an integer
abbrev pub integer_text : Bool → ℕ → List ℕ
integer_text s n = parts_text s false n (width_of 18 n) 0 0

-- a whole number with its sign
abbrev pub whole_text : ℤ → List ℕ
whole_text (pos n) = integer_text false n
whole_text (negsuc n) = integer_text true (suc n)

-- whether a text has room in l from `at` on
abbrev pub room : List ℕ → ℕ → List ℕ → Bool
room l at t = leb (at + length t) (length l)

-- where the next byte goes, or no room
abbrev pub placed : List ℕ → ℕ → List ℕ → (Option ℕ)
placed l at t = pick (room l at t) (Some (at + length t)) None

-- the lent bytes after: those of the text from `at` on, or as they were
abbrev pub written : List ℕ → ℕ → List ℕ → List ℕ
written l at t = pick (room l at t) (sets l at t) l
