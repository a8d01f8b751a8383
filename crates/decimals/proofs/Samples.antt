-- Samples of decimals read, by computation alone: document 01, "Sample lines", and the readings of "Lines".
-- Assumes nothing.
use Rattle.std.specs.Prelude.{Ok, Err}
use Rattle.std.proofs.Common.{◌≡◌, [], ◌∷◌, refl}
use lib.Ieee.{of_bits, round, binary64}
use Rattle.numerals.specs.Scan.{digit_run_of, spelled, scan_of}
use Rattle.decimals.specs.DecimalScan.{read_decimal}
use Rattle.decimals.specs.declared.DecimalError.TheVariants.{Unsupported, Bad}

-- numerals that 9 is given for
pub record UnsupportedSamples : Type 0 where
  -- `1.e5`
  pub u1 : read_decimal (49 ∷ 46 ∷ 101 ∷ 53 ∷ []) ≡ (Err Unsupported)
  -- `+inf`
  pub u2 : read_decimal (43 ∷ 105 ∷ 110 ∷ 102 ∷ []) ≡ (Err Unsupported)
  -- `-nan`
  pub u3 : read_decimal (45 ∷ 110 ∷ 97 ∷ 110 ∷ []) ≡ (Err Unsupported)
  -- `iNfInItY`
  pub u4 : read_decimal (105 ∷ 78 ∷ 102 ∷ 73 ∷ 110 ∷ 73 ∷ 116 ∷ 89 ∷ []) ≡ (Err Unsupported)
  -- `0.0000000000000000000`
  pub u5 : read_decimal (48 ∷ 46 ∷ 48 ∷ 48 ∷ 48 ∷ 48 ∷ 48 ∷ 48 ∷ 48 ∷ 48 ∷ 48 ∷ 48 ∷ 48 ∷ 48 ∷ 48 ∷ 48 ∷ 48 ∷ 48 ∷ 48 ∷ 48 ∷ 48 ∷ []) ≡ (Err Unsupported)
  -- `100000000000000000000.`
  pub u6 : read_decimal (49 ∷ 48 ∷ 48 ∷ 48 ∷ 48 ∷ 48 ∷ 48 ∷ 48 ∷ 48 ∷ 48 ∷ 48 ∷ 48 ∷ 48 ∷ 48 ∷ 48 ∷ 48 ∷ 48 ∷ 48 ∷ 48 ∷ 48 ∷ 48 ∷ 46 ∷ []) ≡ (Err Unsupported)
  -- `1e+05`
  pub u7 : read_decimal (49 ∷ 101 ∷ 43 ∷ 48 ∷ 53 ∷ []) ≡ (Err Unsupported)
  -- `-1.5E-3`
  pub u8 : read_decimal (45 ∷ 49 ∷ 46 ∷ 53 ∷ 69 ∷ 45 ∷ 51 ∷ []) ≡ (Err Unsupported)

pub unsupported_samples : UnsupportedSamples
unfolding digit_run_of spelled scan_of read_decimal
unsupported_samples = record { u1 = refl; u2 = refl; u3 = refl; u4 = refl; u5 = refl; u6 = refl; u7 = refl; u8 = refl }

-- texts that are no numerals
pub record BadSamples : Type 0 where
  -- the empty text
  pub b1 : read_decimal ([]) ≡ (Err Bad)
  -- `infinit`
  pub b2 : read_decimal (105 ∷ 110 ∷ 102 ∷ 105 ∷ 110 ∷ 105 ∷ 116 ∷ []) ≡ (Err Bad)
  -- `1e`
  pub b3 : read_decimal (49 ∷ 101 ∷ []) ≡ (Err Bad)
  -- `1e+`
  pub b4 : read_decimal (49 ∷ 101 ∷ 43 ∷ []) ≡ (Err Bad)
  -- `.e5`
  pub b5 : read_decimal (46 ∷ 101 ∷ 53 ∷ []) ≡ (Err Bad)
  -- `.`
  pub b6 : read_decimal (46 ∷ []) ≡ (Err Bad)
  -- `+`
  pub b7 : read_decimal (43 ∷ []) ≡ (Err Bad)
  -- `-`
  pub b8 : read_decimal (45 ∷ []) ≡ (Err Bad)
  -- `+-1`
  pub b9 : read_decimal (43 ∷ 45 ∷ 49 ∷ []) ≡ (Err Bad)
  -- `1.2.3`
  pub b10 : read_decimal (49 ∷ 46 ∷ 50 ∷ 46 ∷ 51 ∷ []) ≡ (Err Bad)
  -- `5/4`
  pub b11 : read_decimal (53 ∷ 47 ∷ 52 ∷ []) ≡ (Err Bad)
  -- `nan.`
  pub b12 : read_decimal (110 ∷ 97 ∷ 110 ∷ 46 ∷ []) ≡ (Err Bad)
  -- `0x1`
  pub b13 : read_decimal (48 ∷ 120 ∷ 49 ∷ []) ≡ (Err Bad)
  -- ` 1`
  pub b14 : read_decimal (32 ∷ 49 ∷ []) ≡ (Err Bad)

pub bad_samples : BadSamples
unfolding digit_run_of spelled scan_of read_decimal
bad_samples = record { b1 = refl; b2 = refl; b3 = refl; b4 = refl; b5 = refl; b6 = refl; b7 = refl; b8 = refl; b9 = refl; b10 = refl; b11 = refl; b12 = refl; b13 = refl; b14 = refl }

-- numerals with their nearest f64
pub record ValueSamples : Type 0 where
  -- `38400.0000000000001`
  pub v1 : read_decimal (51 ∷ 56 ∷ 52 ∷ 48 ∷ 48 ∷ 46 ∷ 48 ∷ 48 ∷ 48 ∷ 48 ∷ 48 ∷ 48 ∷ 48 ∷ 48 ∷ 48 ∷ 48 ∷ 48 ∷ 48 ∷ 49 ∷ []) ≡ Ok (of_bits binary64 0x40e2c00000000000)
  -- `-0`
  pub v2 : read_decimal (45 ∷ 48 ∷ []) ≡ Ok (of_bits binary64 0x8000000000000000)
  -- `261.6256`
  pub v3 : read_decimal (50 ∷ 54 ∷ 49 ∷ 46 ∷ 54 ∷ 50 ∷ 53 ∷ 54 ∷ []) ≡ Ok (of_bits binary64 0x40705a027525460b)
  -- `000000000000000000000.5`
  pub v4 : read_decimal (48 ∷ 48 ∷ 48 ∷ 48 ∷ 48 ∷ 48 ∷ 48 ∷ 48 ∷ 48 ∷ 48 ∷ 48 ∷ 48 ∷ 48 ∷ 48 ∷ 48 ∷ 48 ∷ 48 ∷ 48 ∷ 48 ∷ 48 ∷ 48 ∷ 46 ∷ 53 ∷ []) ≡ Ok (of_bits binary64 0x3fe0000000000000)
  -- `0.000000000000000000`
  pub v5 : read_decimal (48 ∷ 46 ∷ 48 ∷ 48 ∷ 48 ∷ 48 ∷ 48 ∷ 48 ∷ 48 ∷ 48 ∷ 48 ∷ 48 ∷ 48 ∷ 48 ∷ 48 ∷ 48 ∷ 48 ∷ 48 ∷ 48 ∷ 48 ∷ []) ≡ Ok (of_bits binary64 0x0000000000000000)
  -- `+.1`
  pub v6 : read_decimal (43 ∷ 46 ∷ 49 ∷ []) ≡ Ok (of_bits binary64 0x3fb999999999999a)
  -- `9007199254740993`
  pub v7 : read_decimal (57 ∷ 48 ∷ 48 ∷ 55 ∷ 49 ∷ 57 ∷ 57 ∷ 50 ∷ 53 ∷ 52 ∷ 55 ∷ 52 ∷ 48 ∷ 57 ∷ 57 ∷ 51 ∷ []) ≡ Ok (of_bits binary64 0x4340000000000000)
  -- `999999999999999999.`
  pub v8 : read_decimal (57 ∷ 57 ∷ 57 ∷ 57 ∷ 57 ∷ 57 ∷ 57 ∷ 57 ∷ 57 ∷ 57 ∷ 57 ∷ 57 ∷ 57 ∷ 57 ∷ 57 ∷ 57 ∷ 57 ∷ 57 ∷ 46 ∷ []) ≡ Ok (of_bits binary64 0x43abc16d674ec800)

pub value_samples : ValueSamples
unfolding digit_run_of spelled scan_of read_decimal round of_bits
value_samples = record { v1 = refl; v2 = refl; v3 = refl; v4 = refl; v5 = refl; v6 = refl; v7 = refl; v8 = refl }
