-- THE LIMITS OF DOCUMENT 01 on Scala's published scale format: what a published text must be besides, so that 01 takes it, given room (12),
-- each with the sentence of 01 that it comes from and the number that it draws. Assumes nothing.
use Rattle.std.specs.Prelude.{◌≡◌, true, List, [], ◌∷◌, ◌++◌, ◌⊎◌, ℕ, ◌^◌, ◌≤◌, ◌<◌, length, Some}
use Rattle.std.specs.Float.Ieee.{round}
use Rattle.std.specs.Float.{binary64}
use Rattle.base.specs.Said.{gives}
use Rattle.decimals.specs.DecimalText.{from_nonzero}
use Rattle.floats.specs.Floats.{one_f}
use Rattle.scl.specs.Items.{is_usable_cents, ratio_of}
use Rattle.scl.specs.Table.{implicit}
use Rattle.scl.specs.declared.Item.{Item}
use Rattle.scl.specs.declared.Item.TheVariants.{Cents, Fraction}
use Rattle.scl_tables.specs.Build.{last_of}
use Rattle.scl_write.specs.Published as P
use Rattle.text.specs.Reading.{Comment, Stops}
use Rattle.utf8.specs.Characters.{Each, in_bytes, encode}
use Rattle.white.specs.White.{WhiteSpace, Trimmed}
use Rattle.promises.specs.kbm.Limits.{AllUtf8}

-- of a pitch value. Cents: "9 is given exactly for .. over 18 digits from the first nonzero digit on, or over 18 digits after the dot";
-- "Usable: .. cents from -38,400 to 38,400", else 10. "All three integers are u32": 5, 6, 3
abbrev pub ValueWithin : {t : List ℕ} {p : P.Pitch} → P.PitchText t p → Type 0
ValueWithin (P.PitchText.cents {minus} {n} {k} x) = (length (from_nonzero (x.whole ++ x.part)) ≤ 18) × (k ≤ 18) × (is_usable_cents (round binary64 minus n (10 ^ k)) ≡ true)
ValueWithin (P.PitchText.ratio a b n d e x y p q) = (n < 2 ^ 32) × (d < 2 ^ 32)
ValueWithin (P.PitchText.whole n x p) = n < 2 ^ 32

abbrev pub AllWithin : (ls : List (List ℕ)) (ps : List P.Pitch) → P.PitchLines ls ps → Type 0
AllWithin [] [] v = Unit {0}
AllWithin [] (p ∷ ps) v = ⊥
AllWithin (l ∷ ls) [] v = ⊥
AllWithin (l ∷ ls) (p ∷ ps) v = ValueWithin v.0.2 × AllWithin ls ps v.1

-- of what follows a value on its line: "trimmed of Unicode White_Space at both ends"; "A line's token runs to the first space, tab, LF,
-- form feed or CR", so white space to the end, or one of these bytes first. Else the value is part of a longer token: 3, 4, 5, 6 or 9
abbrev pub Apart : List ℕ → Type 0
Apart rest = Stops rest ⊎ ((cs : List ℕ) × Each WhiteSpace cs × (rest ≡ in_bytes encode cs))

abbrev pub AllApart : (ls : List (List ℕ)) (ps : List P.Pitch) → P.PitchLines ls ps → Type 0
AllApart [] [] v = Unit {0}
AllApart [] (p ∷ ps) v = ⊥
AllApart (l ∷ ls) [] v = ⊥
AllApart (l ∷ ls) (p ∷ ps) v = Apart v.0.1.rest × AllApart ls ps v.1

-- a pitch value as it sounds
abbrev pub heard : P.Pitch → Item
heard (P.Pitch.cents minus n k) = Cents (round binary64 minus n (10 ^ k))
heard (P.Pitch.ratio n d) = Fraction n (Some d)

abbrev pub all_heard : List P.Pitch → List Item
all_heard [] = []
all_heard (p ∷ ps) = heard p ∷ all_heard ps

-- the text p, whose meaning is m, is within them
pub record WithinLimits {s : List ℕ} {m : P.Scale} (p : P.PublishedText s m) : Type 0 where
  -- "Each line, comment or not, must be UTF-8": 1
  pub utf8 : AllUtf8 p.parts
  -- "empty ones and those starting with `!` drop out", trimmed: of such a description's text the number of notes would be the description
  pub not_blank : Trimmed WhiteSpace encode m.description [] → ⊥
  pub no_mark : (d : List ℕ) → Trimmed WhiteSpace encode m.description d → Comment d → ⊥
  -- "note count (u16, 3)"; "13: over 65,535 entries". "`-` only for signed types", so that `-0` is no count: 3
  pub count : length m.pitches ≤ 65535
  pub unsigned : (t : List ℕ) → p.notes.token ≡ 45 ∷ t → ⊥
  -- each pitch value, and what follows it on its line
  pub values_apart : AllApart p.rest m.pitches p.values
  pub values_within : AllWithin p.rest m.pitches p.values
  -- "Reading or building a scale of two or more items gives 18 .. exactly when L(period) = 0": the last of two or more does not sound as 1
  pub reach : 2 ≤ length m.pitches → ratio_of (last_of (implicit ∷ all_heard m.pitches)) ≡ gives one_f → ⊥
