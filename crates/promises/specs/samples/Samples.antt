-- Document 01, "Sample lines (* = proved)": the table of the starred ones, each as what a definition says. Assumes nothing.
use Rattle.std.specs.Prelude.{◌≡◌, false, List, [], ◌∷◌, ℕ, suc, ℤ, pos, neg_ℤ, Float}
use Rattle.std.specs.Float.{binary64}
use Rattle.std.specs.Float.Ieee.{round}
use Rattle.base.specs.Said.{Said, gives, refuses}
use Rattle.explog.specs.Rules.{E, L}
use Rattle.kbm.specs.Degree.{scale_degree_of}
use Rattle.kbm.specs.Samples.{sample, sample_table}
use Rattle.key.specs.Keys.{key}
use Rattle.math.specs.Division.{division_of}
use Rattle.printing.specs.PrintText.{text_of}
use Rattle.pitch.specs.declared.Pitch.{Pitch}
use Rattle.scl_read.specs.Reader.{read_of}

-- a decimal with four places, as 0.0625
abbrev pub ten_thousandths : ℕ → Float
ten_thousandths n = round binary64 false n 10000

-- what a key has in the mapping of the sample, whatever its pitch and its middle key
abbrev pub KeyHas : ℕ → Said ℤ → Type 0
KeyHas number said = (pitch : Pitch) (offset : ℤ) → scale_degree_of (sample pitch offset) sample_table (key (pos number)) ≡ said

-- the scale of description `x` and one note draws this number at its third line, which is the item, whatever its tables' room
abbrev pub ItemDraws : List ℕ → ℕ → Type 0
ItemDraws item number = (places : ℕ) → read_of (suc places) (120 ∷ 10 ∷ 49 ∷ 10 ∷ item) ≡ refuses number 3

pub record Samples : Type 0 where
  -- "Entries 0, x, 2, octave 5, keys 0 to 127, reference 60: 60 gives 0; 61 gives 17; 63 gives 5; 59 gives -3; 128 gives 16.
  -- Middle 62 changes none."
  pub key60 : KeyHas 60 (gives (pos 0))
  pub key61 : KeyHas 61 (refuses 17 0)
  pub key63 : KeyHas 63 (gives (pos 5))
  pub key59 : KeyHas 59 (gives (neg_ℤ (pos 3)))
  pub key128 : KeyHas 128 (refuses 16 0)
  -- "-2147483648 by 65535: -32769 remainder 32767"
  pub division : division_of (neg_ℤ (pos 2147483648)) 65535 ≡ gives (record { quotient = neg_ℤ (pos 32769); remainder = 32767 })
  -- "`5/ 4` gives 6; `3/0` gives 10; `1e5` gives 3; `1.e5` gives 9"
  pub split_denom : ItemDraws (53 ∷ 47 ∷ 32 ∷ 52 ∷ []) 6
  pub zero_denom : ItemDraws (51 ∷ 47 ∷ 48 ∷ []) 10
  pub no_integer : ItemDraws (49 ∷ 101 ∷ 53 ∷ []) 3
  pub exponent : ItemDraws (49 ∷ 46 ∷ 101 ∷ 53 ∷ []) 9
  -- "0.0625 prints 0.062; 0.1875 prints 0.188"
  pub prints_even : text_of 3 false (ten_thousandths 625) ≡ 48 ∷ 46 ∷ 48 ∷ 54 ∷ 50 ∷ []
  pub prints_up : text_of 3 false (ten_thousandths 1875) ≡ 48 ∷ 46 ∷ 49 ∷ 56 ∷ 56 ∷ []
  -- "L(2) = 1, E(1) = 2"
  pub logarithm : L (ten_thousandths 20000) ≡ gives (ten_thousandths 10000)
  pub power : E (ten_thousandths 10000) ≡ gives (ten_thousandths 20000)
