-- Lines written one after another into lent bytes, and how long they are. Assumes nothing.
use Rattle.std.specs.Prelude.{Some, Option}
use mathlib.Core.Path.{◌≡◌, refl, sym, ap, ◌∙◌}
use mathlib.Core.Bool.{true, false}
use mathlib.Core.List.{List, [], ◌∷◌, ◌++◌, append_assoc, append-nil}
use Prim.Native.Nat.{ℕ, suc, ◌+◌, ◌/◌, ◌%◌, ◌^◌, ◌≤◌, ◌<◌}
use native.Mathlib.Numerals.{add-one}
use native.Mathlib.Omega.{arith}
use lib.IntN.{ℤ, pos, negsuc}
use lib.ListN.{length, drop, get_or, set, length-append}
use lib.Seq.{sets, length-sets, drop-cons, drop-length}
use lib.Ieee.{Float}
use borrow.Author.Tests.{le-leb}
use Rattle.floats.specs.Units.{negative}
use Rattle.printing.specs.PrintText.{scaled_of, text_of, whole_text, integer_text, width_of, room, placed, written}
use Rattle.printing.proofs.Texts.{sets_append, parts_length, width_le, sign_le, point_le}
use Rattle.writing.specs.Lines.{line, lines_text, number_text, place_reached}

-- a line is one byte longer than its text
pub length_line : (t : List ℕ) → length (line t) ≡ length t + 1
length_line t = length-append t (10 ∷ [])

-- a text is written at a place with room for it and for the byte that ends it
module _ (l : List ℕ) (at : ℕ) (t : List ℕ) (b : ℕ) {p : (Option ℕ)} (told : p ≡ placed l at t) (h : at + length (t ++ (b ∷ [])) ≤ length l) where
  roomy : room l at t ≡ true
  roomy = le-leb (at + length t) (length l) (omega (arith, length-append t (b ∷ []), h))

  -- so the place after the text is reached
  reached : p ≡ Some (at + length t)
  reached = rw roomy at told

  place_is : place_reached p ≡ at + length t
  place_is = ap place_reached reached

  module _ {m : List ℕ} (w : m ≡ written l at t) where
    text_written : m ≡ sets l at t
    text_written = rw roomy at w

    length_kept : length m ≡ length l
    length_kept = rw text_written (length-sets l at t)

    -- the last byte has its place there
    pub end_fits : (p ≡ Some (place_reached p)) × (place_reached p < length m)
    end_fits = (reached ∙ ap Some (sym place_is), omega (arith, length_kept, place_is, length-append t (b ∷ []), h))

    -- and with it the text is ended
    pub ended : {r : ℕ} {o : List ℕ} → r ≡ place_reached p + 1 → o ≡ set m (place_reached p) b → (r ≡ at + length (t ++ (b ∷ []))) × (o ≡ sets l at (t ++ (b ∷ [])))
    ended e f = (
      omega (arith, e, place_is, length-append t (b ∷ [])),
      f ∙ rw text_written (sets_append l at (place_reached p) t (b ∷ []) place_is),
    )

-- how long the line of a number is at most
pub whole_short : (z : ℤ) → length (line (whole_text z)) ≤ 32
whole_short (pos n) = omega (arith, length_line (integer_text false n), parts_length false false n (width_of 18 n) 0 0, width_le 18 n, sign_le false false, point_le 0)
whole_short (negsuc n) = omega (arith, length_line (integer_text true (suc n)), parts_length true false (suc n) (width_of 18 (suc n)) 0 0, width_le 18 (suc n), sign_le true false, point_le 0)

-- a number and any byte after it
pub length_number : (n end : ℕ) → length (number_text n end) ≡ length (whole_text (pos n)) + 1
length_number n end = length-append (whole_text (pos n)) (end ∷ [])

pub number_short : (n end : ℕ) → length (number_text n end) ≤ 20
number_short n end = omega (arith, length_number n end, parts_length false false n (width_of 18 n) 0 0, width_le 18 n)

pub decimal_short : (d : ℕ) (x : Float) → d ≤ 4 → length (line (text_of d false x)) ≤ 32
decimal_short d x h =
    let n = scaled_of d x in
    omega (arith, length_line (text_of d false x), parts_length (negative x) false (n / 10 ^ d) (width_of 18 (n / 10 ^ d)) (n % 10 ^ d) d, width_le 18 (n / 10 ^ d), sign_le (negative x) false, point_le d)

-- the lines of a list of texts, one after another
pub lines_cons : (t : List ℕ) (ts : List (List ℕ)) → length (lines_text (t ∷ ts)) ≡ length (line t) + length (lines_text ts)
unfolding lines_text
lines_cons t ts = length-append (line t) (lines_text ts)

pub lines_append : (ts us : List (List ℕ)) → lines_text (ts ++ us) ≡ lines_text ts ++ lines_text us
unfolding lines_text
lines_append [] us = refl
lines_append (t ∷ ts) us = rw (lines_append ts us) (sym (append_assoc (line t) (lines_text ts) (lines_text us)))

-- one line more is written, and then the others
pub then_lines : (l m : List ℕ) (at next : ℕ) (t : List ℕ) (ts : List (List ℕ)) → m ≡ sets l at (line t) → next ≡ at + length (line t) → sets m next (lines_text ts) ≡ sets l at (lines_text (t ∷ ts))
unfolding lines_text
then_lines l m at next t ts e p = rw e (sets_append l at next (line t) (lines_text ts) p)

pub last_line : (l : List ℕ) (at : ℕ) (t : List ℕ) → sets l at (line t) ≡ sets l at (lines_text (t ∷ []))
unfolding lines_text
last_line l at t = ap (λ (u : List ℕ). sets l at u) (sym (append-nil (line t)))

-- the first of the lines that are left, and those after it
module _ (left t rest : List ℕ) (e : left ≡ line t ++ rest) where
  pub step_length : length left ≡ length (line t) + length rest
  step_length = rw e (length-append (line t) rest)

  -- one line more is written
  pub step_sets : (l m : List ℕ) (at next : ℕ) → m ≡ sets l at (line t) → next ≡ at + length (line t) → sets m next rest ≡ sets l at left
  step_sets l m at next f p = rw (e, f) (sets_append l at next (line t) rest p)

-- the bytes of a text, one by one
module _ (t : List ℕ) (i : ℕ) where
  pub byte_sets : (l : List ℕ) (at : ℕ) → i < length t → sets (set l at (get_or t i 0)) (at + 1) (line (drop (i + 1) t)) ≡ sets l at (line (drop i t))
  byte_sets l at h = rw (add-one i, add-one at, drop-cons t i 0 h)

  -- and LF after the last
  pub end_sets : (l : List ℕ) (at : ℕ) → i ≡ length t → set l at 10 ≡ sets l at (line (drop i t))
  end_sets l at h = rw (h, drop-length t)
