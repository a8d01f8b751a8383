-- Worked integers of document 01, computed. Assumes nothing.
use mathlib.Core.Path.{◌≡◌, refl}
use mathlib.Core.List.{List, [], ◌∷◌}
use mathlib.Core.Bool.{true, false}
use Prim.Native.Nat.{ℕ, ◌^◌}
use lib.IntN.{pos, negsuc}
use Rattle.integers.specs.Integer.{Int, value, none, read_int, scan, magnitude_of, read_signed}

-- what a text is as a u16, as a u32 and as an i16
abbrev u16 : List ℕ → Int
u16 = read_int false (2 ^ 16)

abbrev u32 : List ℕ → Int
u32 = read_int false (2 ^ 32)

abbrev i16 : List ℕ → Int
i16 = read_int true (2 ^ 15)

pub record Samples : Type 0 where
  -- `-0` is no u16, and 0 as an i16; `+3` passes, and so do leading zeros
  pub minus_zero : u16 (45 ∷ 48 ∷ []) ≡ none
  pub signed_zero : i16 (45 ∷ 48 ∷ []) ≡ value (pos 0)
  pub plus_three : u32 (43 ∷ 51 ∷ []) ≡ value (pos 3)
  pub leading_zeros : u16 (48 ∷ 48 ∷ 48 ∷ 48 ∷ 48 ∷ 48 ∷ 48 ∷ 48 ∷ 48 ∷ 55 ∷ []) ≡ value (pos 7)
  -- nothing, a sign alone and two signs are no integers
  pub empty : i16 [] ≡ none
  pub sign_alone : i16 (43 ∷ []) ≡ none
  pub two_signs : i16 (43 ∷ 45 ∷ 49 ∷ []) ≡ none
  -- 4294967295 is a u32, and 4294967296 is none
  pub largest : u32 (52 ∷ 50 ∷ 57 ∷ 52 ∷ 57 ∷ 54 ∷ 55 ∷ 50 ∷ 57 ∷ 53 ∷ []) ≡ value (pos 4294967295)
  pub too_large : u32 (52 ∷ 50 ∷ 57 ∷ 52 ∷ 57 ∷ 54 ∷ 55 ∷ 50 ∷ 57 ∷ 54 ∷ []) ≡ none
  -- -32768 is an i16, and 32768 is none
  pub lowest : i16 (45 ∷ 51 ∷ 50 ∷ 55 ∷ 54 ∷ 56 ∷ []) ≡ value (negsuc 32767)
  pub over : i16 (51 ∷ 50 ∷ 55 ∷ 54 ∷ 56 ∷ []) ≡ none
  -- `1e5` and `2!` are none
  pub exponent : u32 (49 ∷ 101 ∷ 53 ∷ []) ≡ none
  pub mark : u16 (50 ∷ 33 ∷ []) ≡ none

pub samples : Samples
unfolding scan magnitude_of read_signed
samples =
    record {
      minus_zero = refl;
      signed_zero = refl;
      plus_three = refl;
      leading_zeros = refl;
      empty = refl;
      sign_alone = refl;
      two_signs = refl;
      largest = refl;
      too_large = refl;
      lowest = refl;
      over = refl;
      exponent = refl;
      mark = refl;
    }
