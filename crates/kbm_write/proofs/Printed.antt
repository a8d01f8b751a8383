-- What is printed of a mapping, read again: the pitch's text is a decimal of the f64 nearest to its three decimals; the entries'
-- texts are words. Assumes nothing.
use Rattle.std.specs.Prelude.{ℤ}
use Rattle.std.specs.Prelude.{Some, None, Option}
use mathlib.Core.Path.{◌≡◌}
use mathlib.Core.Bool.{true, false}
use mathlib.Core.List.{List, [], ◌∷◌}
use Prim.Native.Nat.{◌^◌, ◌≤◌}
use native.Mathlib.Omega.{arith}
use lib.Ieee.{Float}
use Rattle.floats.proofs.Sized.{sized}
use Rattle.floats.specs.Ranges.{in_pitch}
use Rattle.floats.proofs.Ranges.{Within, within_fin, pitch_says}
use Rattle.decimals.specs.DecimalText.{DecimalText}
use Rattle.printing.specs.PrintText.{scaled_of, text_of}
use Rattle.writing.specs.Thousandths.{nearest_three}
use Rattle.writing.proofs.Plain.{Words}
use Rattle.writing.proofs.Printed.{whole_word, three_reads}
use Rattle.writing.proofs.Widths.{few_thousandths}
use Rattle.kbm_write.specs.Export.{entry_texts}
use Rattle.kbm_write.proofs.Lines.{pitch_limited}

pub entry_words : (es : List (Option ℤ)) → Words (entry_texts es)
unfolding entry_texts
entry_words [] = tt
entry_words (Some d ∷ es) = (whole_word d, entry_words es)
entry_words (None ∷ es) = (record { some = omega arith; each = ((omega arith, omega arith), tt) }, entry_words es)

-- a pitch has few digits: at most 1048576.000
pub pitch_few : (x : Float) → in_pitch x ≡ true → scaled_of 3 x ≤ 1048576000
pitch_few x h = go (pitch_says x h)
  where
    go : {y : Float} → Within 10 20 y → scaled_of 3 y ≤ 1048576000
    go (within_fin m e p l h) = few_thousandths (2 ^ 20) (sized false m e h)

-- a printed pitch is a decimal: the f64 nearest to its three decimals
pub pitch_reads : (x : Float) → in_pitch x ≡ true → DecimalText (text_of 3 false x) (nearest_three x)
pitch_reads x h = three_reads x (pitch_limited x h) (omega (arith, pitch_few x h))
