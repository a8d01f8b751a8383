-- Samples of the round trip: a scale whose export is read as the same scale, and scales that differ from it in one thing and do not come
-- back. Assumes nothing.
use Rattle.std.specs.Prelude.{◌≡◌, false, List, [], ◌∷◌, ℕ, suc, Some, None}
use Rattle.std.specs.Float.Ieee.{round}
use Rattle.std.specs.Float.{binary64}
use Rattle.scl.specs.declared.Item.{Item}
use Rattle.scl.specs.declared.Item.TheVariants.{Cents, Fraction}
use Rattle.base.specs.Said.{refuses}
use Rattle.scl_read.specs.Language.{ScaleText}
use Rattle.scl_read.specs.Reader.{read_of}
use Rattle.scl_write.specs.Export.{scale_text}
use Rattle.scl_write.specs.Published as P
use Rattle.sorting.specs.Entries.{Entry}

-- `a b`
abbrev pub words : List ℕ
words = 97 ∷ 32 ∷ 98 ∷ []

-- 701.955 cents, 3/2 and 2
abbrev pub fifths : List Item
fifths = Cents (round binary64 false 701955 1000) ∷ Fraction 3 (Some 2) ∷ Fraction 2 None ∷ []

-- 0.0625 cents, which are written as 0.062
abbrev pub sixteenth : List Item
sixteenth = Cents (round binary64 false 1 16) ∷ []

-- the export with this description and these items is read as a scale of just these
abbrev pub Again : List ℕ → List Item → Type 0
Again description items = (list : List Entry) × ScaleText (scale_text description items) description items list

pub record Back : Type 0 where
  -- `a b`, `3`, `701.955`, `3/2`, `2`, each with LF
  pub bytes : scale_text words fifths ≡ 97 ∷ 32 ∷ 98 ∷ 10 ∷ 51 ∷ 10 ∷ 55 ∷ 48 ∷ 49 ∷ 46 ∷ 57 ∷ 53 ∷ 53 ∷ 10 ∷ 51 ∷ 47 ∷ 50 ∷ 10 ∷ 50 ∷ 10 ∷ []
  pub back : Again words fifths
  -- cents of more than three decimals; no description; a space after it; LF in it; `!` before it
  pub sixteenth_lost : Again words sixteenth → ⊥
  pub empty_lost : Again [] fifths → ⊥
  pub space_lost : Again (97 ∷ 32 ∷ []) fifths → ⊥
  pub lf_lost : Again (97 ∷ 10 ∷ 98 ∷ []) fifths → ⊥
  pub mark_lost : Again (33 ∷ 97 ∷ []) fifths → ⊥

-- A BLANK DESCRIPTION: nothing, `2`, `1`, `3/2`, each with LF. As published two notes, 1 and 3/2
abbrev pub blank_text : List ℕ
blank_text = 10 ∷ 50 ∷ 10 ∷ 49 ∷ 10 ∷ 51 ∷ 47 ∷ 50 ∷ 10 ∷ []

abbrev pub blank_scale : P.Scale
blank_scale = record { description = []; pitches = P.Pitch.ratio 1 1 ∷ P.Pitch.ratio 3 2 ∷ [] }

-- THE PARTING: by document 01 the same text has the description `2` and one note, 3/2
pub record Parting : Type 0 where
  pub published : P.PublishedText blank_text blank_scale
  pub list : List Entry
  pub here : ScaleText blank_text (50 ∷ []) (Fraction 3 (Some 2) ∷ []) list

-- SOMETHING THAT FOLLOWS A VALUE: `d`, `1`, `5/4E`, each with LF. As published one note, 5/4
abbrev pub followed_text : List ℕ
followed_text = 100 ∷ 10 ∷ 49 ∷ 10 ∷ 53 ∷ 47 ∷ 52 ∷ 69 ∷ 10 ∷ []

abbrev pub followed_scale : P.Scale
followed_scale = record { description = 100 ∷ []; pitches = P.Pitch.ratio 5 4 ∷ [] }

-- by document 01 the denominator cannot be read, at line 3, whatever room there is
pub record Following : Type 0 where
  pub published : P.PublishedText followed_text followed_scale
  pub here : (places : ℕ) → read_of (suc places) followed_text ≡ refuses 6 3
