-- One text read twice: what it says as Scala's pages have it, and what it says by document 01. Assumes nothing.
use Rattle.std.specs.Prelude.{◌≡◌, List, [], ◌∷◌, ℕ, ◌^◌}
use Rattle.std.specs.Float.Ieee.{round}
use Rattle.std.specs.Float.{binary64}
use Rattle.scl.specs.Items.{denom_of}
use Rattle.scl.specs.declared.Item.{Item}
use Rattle.scl.specs.declared.Item.TheVariants.{Cents, Fraction}
use Rattle.scl_write.specs.Published as P
use Rattle.utf8.specs.Characters.{encode}
use Rattle.white.specs.White.{WhiteSpace, Trimmed}

-- the item is the pitch value: cents the f64 nearest to them, a ratio exactly, where an integer is a ratio over 1
abbrev pub Same : P.Pitch → Item → Type 0
Same (P.Pitch.cents minus n k) (Cents c) = c ≡ round binary64 minus n (10 ^ k)
Same (P.Pitch.cents minus n k) (Fraction p q) = ⊥
Same (P.Pitch.ratio n d) (Cents c) = ⊥
Same (P.Pitch.ratio n d) (Fraction p q) = (p ≡ n) × (denom_of q ≡ d)

abbrev pub AllSame : List P.Pitch → List Item → Type 0
AllSame [] [] = Unit {0}
AllSame [] (i ∷ is) = ⊥
AllSame (p ∷ ps) [] = ⊥
AllSame (p ∷ ps) (i ∷ is) = Same p i × AllSame ps is

-- the description of 01 is the published one, trimmed, and the items are the pitch values
pub record Agree (m : P.Scale) (description : List ℕ) (items : List Item) : Type 0 where
  pub described : Trimmed WhiteSpace encode m.description description
  pub pitches : AllSame m.pitches items
