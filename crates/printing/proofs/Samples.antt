-- Samples of numbers printed, by computation alone: document 01, "Sample lines" and "Writing". Assumes nothing.
use mathlib.Core.Path.{◌≡◌, refl}
use mathlib.Core.Bool.{true, false}
use mathlib.Core.List.{[], ◌∷◌}
use lib.IntN.{pos, negsuc}
use lib.Ieee.{of_bits, round, binary64}
use Rattle.floats.specs.Units.{negative}
use Rattle.printing.specs.PrintText.{text_of, whole_text}

-- printed texts
pub record PrintSamples : Type 0 where
  -- 0.0625 with 3 decimals prints 0.062
  pub p1 : text_of 3 false (of_bits binary64 0x3fb0000000000000) ≡ 48 ∷ 46 ∷ 48 ∷ 54 ∷ 50 ∷ []
  -- 0.1875 with 3 decimals prints 0.188
  pub p2 : text_of 3 false (of_bits binary64 0x3fc8000000000000) ≡ 48 ∷ 46 ∷ 49 ∷ 56 ∷ 56 ∷ []
  -- -0.0 with 3 decimals prints -0.000
  pub p3 : text_of 3 false (of_bits binary64 0x8000000000000000) ≡ 45 ∷ 48 ∷ 46 ∷ 48 ∷ 48 ∷ 48 ∷ []
  -- 261.6256 with 3 decimals prints 261.626
  pub p4 : text_of 3 false (of_bits binary64 0x40705a027525460b) ≡ 50 ∷ 54 ∷ 49 ∷ 46 ∷ 54 ∷ 50 ∷ 54 ∷ []
  -- 4503599627370496 with 2 decimals prints +4503599627370496.00
  pub p5 : text_of 2 true (of_bits binary64 0x4330000000000000) ≡ 43 ∷ 52 ∷ 53 ∷ 48 ∷ 51 ∷ 53 ∷ 57 ∷ 57 ∷ 54 ∷ 50 ∷ 55 ∷ 51 ∷ 55 ∷ 48 ∷ 52 ∷ 57 ∷ 54 ∷ 46 ∷ 48 ∷ 48 ∷ []
  -- -2251799813685248.0 with 2 decimals prints -2251799813685248.00
  pub p6 : text_of 2 true (of_bits binary64 0xc320000000000000) ≡ 45 ∷ 50 ∷ 50 ∷ 53 ∷ 49 ∷ 55 ∷ 57 ∷ 57 ∷ 56 ∷ 49 ∷ 51 ∷ 54 ∷ 56 ∷ 53 ∷ 50 ∷ 52 ∷ 56 ∷ 46 ∷ 48 ∷ 48 ∷ []
  -- 0.5 with 0 decimals prints 0
  pub p7 : text_of 0 false (of_bits binary64 0x3fe0000000000000) ≡ 48 ∷ []
  -- 1.5 with 0 decimals prints 2
  pub p8 : text_of 0 false (of_bits binary64 0x3ff8000000000000) ≡ 50 ∷ []
  -- 2.5 with 0 decimals prints 2
  pub p9 : text_of 0 false (of_bits binary64 0x4004000000000000) ≡ 50 ∷ []
  -- 9007199254740992 with 4 decimals prints 9007199254740992.0000
  pub p10 : text_of 4 false (of_bits binary64 0x4340000000000000) ≡ 57 ∷ 48 ∷ 48 ∷ 55 ∷ 49 ∷ 57 ∷ 57 ∷ 50 ∷ 53 ∷ 52 ∷ 55 ∷ 52 ∷ 48 ∷ 57 ∷ 57 ∷ 50 ∷ 46 ∷ 48 ∷ 48 ∷ 48 ∷ 48 ∷ []
  -- 1.5 with 4 decimals prints +1.5000
  pub p11 : text_of 4 true (of_bits binary64 0x3ff8000000000000) ≡ 43 ∷ 49 ∷ 46 ∷ 53 ∷ 48 ∷ 48 ∷ 48 ∷ []
  -- -0.04 with 1 decimals prints -0.0
  pub p12 : text_of 1 true (of_bits binary64 0xbfa47ae147ae147b) ≡ 45 ∷ 48 ∷ 46 ∷ 48 ∷ []
  -- 0.9999999 with 3 decimals prints 1.000
  pub p13 : text_of 3 false (of_bits binary64 0x3fefffffca501acb) ≡ 49 ∷ 46 ∷ 48 ∷ 48 ∷ 48 ∷ []
  -- 0
  pub i1 : whole_text (pos 0) ≡ 48 ∷ []
  -- 65535
  pub i2 : whole_text (pos 65535) ≡ 54 ∷ 53 ∷ 53 ∷ 51 ∷ 53 ∷ []
  -- -32768
  pub i3 : whole_text (negsuc 32767) ≡ 45 ∷ 51 ∷ 50 ∷ 55 ∷ 54 ∷ 56 ∷ []
  -- -2147483648
  pub i4 : whole_text (negsuc 2147483647) ≡ 45 ∷ 50 ∷ 49 ∷ 52 ∷ 55 ∷ 52 ∷ 56 ∷ 51 ∷ 54 ∷ 52 ∷ 56 ∷ []
  -- 4294967295
  pub i5 : whole_text (pos 4294967295) ≡ 52 ∷ 50 ∷ 57 ∷ 52 ∷ 57 ∷ 54 ∷ 55 ∷ 50 ∷ 57 ∷ 53 ∷ []

pub print_samples : PrintSamples
unfolding of_bits round negative
print_samples = record { p1 = refl; p2 = refl; p3 = refl; p4 = refl; p5 = refl; p6 = refl; p7 = refl; p8 = refl; p9 = refl; p10 = refl; p11 = refl; p12 = refl; p13 = refl; i1 = refl; i2 = refl; i3 = refl; i4 = refl; i5 = refl }
