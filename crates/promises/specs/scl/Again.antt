-- An export of a scale read again: which scales come back. A description is read as one trimmed line with content, and three decimals may
-- say less than a cents value. Document 01, "Lines", "Scale" and "Writing". Assumes nothing.
use Rattle.std.specs.Prelude.{◌≡◌, List, [], ◌∷◌, ℕ}
use Rattle.scl.specs.declared.Item.{Item}
use Rattle.scl.specs.declared.Item.TheVariants.{Cents, Fraction}
use Rattle.text.specs.Lines.{NoLF}
use Rattle.text.specs.Reading.{Comment}
use Rattle.utf8.specs.Characters.{Utf8, encode}
use Rattle.white.specs.White.{WhiteSpace, Trimmed}
use Rattle.writing.specs.Thousandths.{nearest_three}

-- a cents value is the f64 nearest its own three decimals; fractions and integers are written as declared
abbrev pub ItemBack : Item → Type 0
ItemBack (Cents c) = nearest_three c ≡ c
ItemBack (Fraction n d) = Unit {0}

abbrev pub ItemsBack : List Item → Type 0
ItemsBack [] = Unit {0}
ItemsBack (i ∷ is) = ItemBack i × ItemsBack is

-- a description that is the whole trimmed line of a text: UTF-8, not blank, trimmed of White_Space at both ends, without LF, no comment
pub record Described (description : List ℕ) : Type 0 where
  pub utf8 : Utf8 description
  pub not_blank : description ≡ [] → ⊥
  pub trimmed : Trimmed WhiteSpace encode description description
  pub no_lf : NoLF description
  pub no_mark : Comment description → ⊥

-- the scale comes back
pub record ComesBack (description : List ℕ) (items : List Item) : Type 0 where
  pub described : Described description
  pub cents : ItemsBack items
