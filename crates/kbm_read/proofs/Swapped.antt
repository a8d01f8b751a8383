-- THERE ARE SUCH TEXTS: first key 60 and last key 59, all else good, is a mapping file but for the rule of W8 (`UnorderedText`), with no
-- key in its range. So `shrinks` leaves something out, and `lost` speaks of something. Assumes nothing.
use mathlib.Core.Path.{◌≡◌, refl}
use mathlib.Core.Bool.{true}
use mathlib.Core.List.{List, [], ◌∷◌}
use Prim.Native.Nat.{ℕ, ◌^◌}
use native.Mathlib.Omega.{arith}
use lib.Dec.{lit<, lit≤}
use lib.Ieee.{binary64, of_bits, round, le}
use lib.IntN.{pos}
use lib.Signed.{le_z_yes, ◌≤ℤ◌}
use Rattle.integers.proofs.Language.{sound}
use Rattle.integers.specs.Integer.{scan, magnitude_of, read_signed}
use Rattle.numerals.specs.Scan.{spelled, scan_of}
use Rattle.numerals.specs.Scan as numerals
use Rattle.decimals.specs.DecimalScan.{read_decimal}
use Rattle.text.specs.Cut.{lines}
use Rattle.text.specs.ReadLine.{token_length, meaning_by, meanings, said_in}
use Rattle.text.proofs.LineLanguage.{strict_text}
use Rattle.white.specs.Trim.{width_by, run}
use Rattle.utf8.specs.Utf8Machine.{lead_of, utf8_step}
use Rattle.utf8.specs.Utf8Machine as utf8
use Rattle.kbm.specs.declared.Kbm.{Kbm}
use Rattle.kbm_read.specs.Language.{Required, mapping_from, blanks}
use Rattle.kbm_read.specs.Backwards.{UnorderedText}
use Rattle.kbm_read.proofs.Fields.{read_gives}

abbrev swapped : Kbm
swapped = mapping_from (0, (pos 60, (pos 59, (pos 60, (pos 60, (of_bits binary64 0x4020_0000_0000_0000, (pos 0, tt)))))))

abbrev swapped_file : List ℕ
swapped_file = 48 ∷ 10 ∷ 54 ∷ 48 ∷ 10 ∷ 53 ∷ 57 ∷ 10 ∷ 54 ∷ 48 ∷ 10 ∷ 54 ∷ 48 ∷ 10 ∷ 56 ∷ 10 ∷ 48 ∷ 10 ∷ []

pub swapped_text : UnorderedText swapped_file swapped [] × (swapped.end.0 ≤ℤ swapped.start.0)
unfolding lines meaning_by meanings token_length width_by run lead_of utf8_step utf8.utf8_from scan magnitude_of read_signed numerals.digit_run_of spelled scan_of read_decimal blanks round of_bits le
swapped_text = (
  record {
    says = said_in swapped_file;
    text = strict_text swapped_file;
    first = (48 ∷ []) ∷ (54 ∷ 48 ∷ []) ∷ (53 ∷ 57 ∷ []) ∷ (54 ∷ 48 ∷ []) ∷ (54 ∷ 48 ∷ []) ∷ (56 ∷ []) ∷ (48 ∷ []) ∷ [];
    rest = [];
    tokens = (refl, (refl, (refl, (refl, (refl, (refl, (refl, tt)))))));
    values = (0, (pos 60, (pos 59, (pos 60, (pos 60, (of_bits binary64 0x4020_0000_0000_0000, (pos 0, tt)))))));
    head = (
      read_gives Required.size (pos 0) 0 (48 ∷ []) 0 refl,
      (
        read_gives Required.first (pos 0) 0 (54 ∷ 48 ∷ []) (pos 60) refl,
        (
          (sound true (2 ^ 31) (lit< tt) (pos 59) (53 ∷ 57 ∷ []) refl, λ e. let z : ◌≡◌ {A = ℕ} 59 2147483647 = cc in omega arith),
          (
            read_gives Required.middle (pos 60) 0 (54 ∷ 48 ∷ []) (pos 60) refl,
            (
              read_gives Required.reference (pos 60) 0 (54 ∷ 48 ∷ []) (pos 60) refl,
              (
                read_gives Required.pitch (pos 60) 0 (56 ∷ []) (of_bits binary64 0x4020_0000_0000_0000) refl,
                (read_gives Required.octave (pos 60) 0 (48 ∷ []) (pos 0) refl, tt),
              ),
            ),
          ),
        ),
      ),
    );
    given = [];
    are = tt;
    not_large = lit≤ tt;
    consistent = lit≤ tt;
    mapping = refl;
    entries = refl;
  },
  le_z_yes tt,
)
