-- What the code of a scan computes, step for step: document 01, "Lines", Decimal. Which texts these are is said without a
-- reader in FloatText. Assumes nothing.
use Rattle.std.specs.Prelude.{List, [], ◌∷◌, Bool, true, false, ℕ, ◌+◌, ◌-◌, ◌*◌, ◌^◌, length, get_or, drop, ltb, eqb, None, Some, Option}
use Rattle.base.specs.Said.{pick}
use Rattle.integers.specs.Digits.{is_digit}
use Rattle.numerals.specs.declared.Run.{Run}
use Rattle.numerals.specs.declared.Numeral.{Numeral}

-- n with the digit d after it; a number of 18 digits stays as it is
abbrev pub grown_by : ℕ → ℕ → ℕ
grown_by n d = pick (ltb n (10 ^ 17)) (n * 10 + d) n

-- one digit more, unless all so far are zeros
abbrev pub counted_by : ℕ → ℕ → ℕ → ℕ
counted_by n d count = pick (eqb (n + d) 0) count (count + 1)

-- the digits at the start of a text that stands at `at`, after the number n of `count` digits
unfoldable pub digit_run_of : ℕ → ℕ → ℕ → List ℕ → Run
digit_run_of n count at [] = record { n = n; significant = count; at = at }
digit_run_of n count at (b ∷ s) =
    pick (is_digit b) (digit_run_of (grown_by n (b - 48)) (counted_by n (b - 48) count) (at + 1) s) (record { n = n; significant = count; at = at })

-- the digits from `at` on
abbrev pub run_at : List ℕ → ℕ → ℕ → ℕ → Run
run_at s n count at = digit_run_of n count at (drop at s)

-- a letter in lower case; any other byte as it is
abbrev pub lowered : ℕ → ℕ
lowered b = pick (ltb b 65) b (pick (ltb 90 b) b (b + 32))

-- whether a text is a word, in any case
unfoldable pub spelled : List ℕ → List ℕ → Bool
spelled [] [] = true
spelled [] (c ∷ w) = false
spelled (b ∷ s) [] = false
spelled (b ∷ s) (c ∷ w) = pick (eqb (lowered b) c) (spelled s w) false

-- `inf`, `infinity`, `nan`
abbrev pub inf_text : List ℕ
inf_text = 105 ∷ 110 ∷ 102 ∷ []

abbrev pub infinity_text : List ℕ
infinity_text = 105 ∷ 110 ∷ 102 ∷ 105 ∷ 110 ∷ 105 ∷ 116 ∷ 121 ∷ []

abbrev pub nan_text : List ℕ
nan_text = 110 ∷ 97 ∷ 110 ∷ []

-- whether the text from `at` on is one of the words
abbrev pub word_at : List ℕ → ℕ → Bool
word_at s at = pick (spelled (drop at s) inf_text) true (pick (spelled (drop at s) infinity_text) true (spelled (drop at s) nan_text))

-- whether the text starts with a minus
abbrev pub minus_first : List ℕ → Bool
minus_first s = pick (ltb 0 (length s)) (eqb (get_or s 0 0) 45) false

-- the place after a sign at `at`
abbrev pub after_sign : List ℕ → ℕ → ℕ
after_sign s at = pick (ltb at (length s)) (pick (eqb (get_or s at 0) 43) (at + 1) (pick (eqb (get_or s at 0) 45) (at + 1) at)) at

-- the place after a dot at `at`
abbrev pub after_dot : List ℕ → ℕ → ℕ
after_dot s at = pick (ltb at (length s)) (pick (eqb (get_or s at 0) 46) (at + 1) at) at

-- whether one or more digits stand from `at` on, up to the end
abbrev pub digits_to_end : List ℕ → ℕ → Bool
digits_to_end s at = pick (ltb at (run_at s 0 0 at).at) (eqb (run_at s 0 0 at).at (length s)) false

-- whether `e` or `E` stands at `at`
abbrev pub mark_at : List ℕ → ℕ → Bool
mark_at s at = pick (ltb at (length s)) (pick (eqb (get_or s at 0) 101) true (eqb (get_or s at 0) 69)) false

-- whether an exponent stands from `at` on
abbrev pub exponent_at : List ℕ → ℕ → Bool
exponent_at s at = pick (mark_at s at) (digits_to_end s (after_sign s (at + 1))) false

-- a numeral with an exponent
abbrev pub scaled : Numeral → Numeral
scaled x = record { negative = x.negative; n = x.n; significant = x.significant; places = x.places; plain = false }

-- x, where `found` digits were read and the text ends at `end`, or an exponent stands there
abbrev pub ended_at : List ℕ → ℕ → Numeral → ℕ → (Option Numeral)
ended_at s found x end =
    pick (eqb found 0) None
    (pick (eqb end (length s)) (Some x) (pick (exponent_at s end) (Some (scaled x)) None))

-- the same, where the digits r from `dot` on follow `found` digits
abbrev pub after_part : List ℕ → Bool → ℕ → ℕ → Run → (Option Numeral)
after_part s negative found dot r =
    ended_at s (found + (r.at - dot)) (record { negative = negative; n = r.n; significant = r.significant; places = r.at - dot; plain = true }) r.at

-- the same, where the digits r stand from `from` on
abbrev pub after_whole : List ℕ → Bool → ℕ → Run → (Option Numeral)
after_whole s negative from r = after_part s negative (r.at - from) (after_dot s r.at) (run_at s r.n r.significant (after_dot s r.at))

-- the numeral that the text from `from` on is, after its sign
abbrev pub number_at : List ℕ → Bool → ℕ → (Option Numeral)
number_at s negative from = after_whole s negative from (run_at s 0 0 from)

-- the numeral that a text is
unfoldable pub scan_of : List ℕ → (Option Numeral)
scan_of s =
    pick (word_at s (after_sign s 0)) (Some (record { negative = minus_first s; n = 0; significant = 0; places = 0; plain = false }))
    (number_at s (minus_first s) (after_sign s 0))
