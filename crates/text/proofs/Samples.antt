-- Worked lines of document 01's reading, computed. Assumes nothing.
use mathlib.Core.Path.{◌≡◌, refl}
use mathlib.Core.List.{List, [], ◌∷◌}
use Prim.Native.Nat.{ℕ}
use Rattle.text.specs.Cut.{lines}
use Rattle.text.specs.Reading.{Meaning, invalid, blank, comment, content}
use Rattle.text.specs.ReadLine.{token_length, strictly, meaning_by}
use Rattle.white.specs.Trim.{width_by, run}
use Rattle.utf8.specs.Utf8Machine.{lead_of, utf8_step, utf8_from}

-- what a line says
abbrev says : List ℕ → Meaning
says = meaning_by strictly

pub record Samples : Type 0 where
  -- `a` CR `b` is one line; CR LF and LF end one, and none follows a final LF
  pub one_line : lines (97 ∷ 13 ∷ 98 ∷ []) ≡ (97 ∷ 13 ∷ 98 ∷ []) ∷ []
  pub two_lines : lines (97 ∷ 13 ∷ 10 ∷ 98 ∷ 10 ∷ []) ≡ (97 ∷ []) ∷ (98 ∷ []) ∷ []
  -- `2` CR `3` and `2` FF `x` have token `2`; U+000B trims, and does not split
  pub at_cr : says (50 ∷ 13 ∷ 51 ∷ []) ≡ content (50 ∷ 13 ∷ 51 ∷ []) (50 ∷ [])
  pub at_ff : says (50 ∷ 12 ∷ 120 ∷ []) ≡ content (50 ∷ 12 ∷ 120 ∷ []) (50 ∷ [])
  pub at_vt : says (11 ∷ 50 ∷ 11 ∷ 51 ∷ 11 ∷ []) ≡ content (50 ∷ 11 ∷ 51 ∷ []) (50 ∷ 11 ∷ 51 ∷ [])
  -- U+00A0 is trimmed and does not split; before `!` it leaves a comment
  pub at_nbsp : says (50 ∷ 194 ∷ 160 ∷ 99 ∷ 194 ∷ 160 ∷ []) ≡ content (50 ∷ 194 ∷ 160 ∷ 99 ∷ []) (50 ∷ 194 ∷ 160 ∷ 99 ∷ [])
  pub a_comment : says (194 ∷ 160 ∷ 33 ∷ 99 ∷ []) ≡ comment
  -- `dà`, whose last byte is A0, is not trimmed
  pub grave : says (100 ∷ 195 ∷ 160 ∷ []) ≡ content (100 ∷ 195 ∷ 160 ∷ []) (100 ∷ 195 ∷ 160 ∷ [])
  -- U+FEFF, U+200B and U+180E are no White_Space: `!` after one starts no comment
  pub byte_order_mark : says (239 ∷ 187 ∷ 191 ∷ 33 ∷ []) ≡ content (239 ∷ 187 ∷ 191 ∷ 33 ∷ []) (239 ∷ 187 ∷ 191 ∷ 33 ∷ [])
  pub zero_width : says (226 ∷ 128 ∷ 139 ∷ 33 ∷ []) ≡ content (226 ∷ 128 ∷ 139 ∷ 33 ∷ []) (226 ∷ 128 ∷ 139 ∷ 33 ∷ [])
  pub mongolian : says (225 ∷ 160 ∷ 142 ∷ 33 ∷ []) ≡ content (225 ∷ 160 ∷ 142 ∷ 33 ∷ []) (225 ∷ 160 ∷ 142 ∷ 33 ∷ [])
  -- of a blank line nothing is left; a surrogate, an overlong form and a cut character are no UTF-8, in a comment too
  pub nothing_left : says (227 ∷ 128 ∷ 128 ∷ 32 ∷ []) ≡ blank
  pub surrogate : says (33 ∷ 237 ∷ 160 ∷ 128 ∷ []) ≡ invalid
  pub overlong : says (33 ∷ 192 ∷ 160 ∷ []) ≡ invalid
  pub cut_short : says (33 ∷ 226 ∷ 128 ∷ []) ≡ invalid

pub samples : Samples
unfolding lines meaning_by token_length width_by run lead_of utf8_step utf8_from
samples =
    record {
      one_line = refl;
      two_lines = refl;
      at_cr = refl;
      at_ff = refl;
      at_vt = refl;
      at_nbsp = refl;
      a_comment = refl;
      grave = refl;
      byte_order_mark = refl;
      zero_width = refl;
      mongolian = refl;
      nothing_left = refl;
      surrogate = refl;
      overlong = refl;
      cut_short = refl;
    }
