-- A BACKWARDS RANGE, document 02, W8: "Refuse a mapping whose last key is below its first. The Rust accepts it; demand 3's language shrinks
-- by these texts [..] 25, at the last-key line, after 3 and 11 there". Which texts draw 25; and the language but for this rule, which has
-- them where nothing else is wrong. No reader is named here. Assumes nothing.
use Rattle.std.specs.Prelude.{◌≡◌, true, List, [], ◌∷◌, ◌++◌, ℕ, ◌+◌, ◌^◌, ◌≤◌, ℤ, pos, length, ◌<ℤ◌, Option}
use Rattle.integers.specs.IntegerText.{IntText}
use Rattle.kbm.specs.declared.Kbm.{Kbm}
use Rattle.listing.specs.Listing.{Format, GiveAll}
use Rattle.text.specs.Reading.{Meaning, content, Says, strict}
use Rattle.kbm_read.specs.Language.{Required, required, Value, Values, Seen, unseen, Gives, Entries, Tokens, Begins}
use Rattle.kbm_read.specs.Language.{mapping, size_of, mapping_from, added}

-- THE TEXTS THAT DRAW 25, at line d: good lines up to a first key, and then, at that line, a last key below it. Whatever follows
pub record BackwardsText (s : List ℕ) (d : ℕ) : Type 0 where
  pub says : List Meaning
  pub text : Says strict s says
  pub before : List Meaning
  pub trimmed : List ℕ
  pub token : List ℕ
  pub after : List Meaning
  pub whole : says ≡ before ++ content trimmed token ∷ after
  pub line : d ≡ length before + 1
  pub size : ℕ
  pub first : ℤ
  pub lines : Begins before (Required.size ∷ Required.first ∷ []) (size, (first, tt)) []
  pub last : ℤ
  pub is_last : IntText true (2 ^ 31) token last
  pub not_largest : last ≡ pos 2147483647 → ⊥
  pub below : last <ℤ first

-- ---- THE LANGUAGE BUT FOR THIS RULE
-- as `Gives`, but that the last key may be below the first
abbrev pub Unordered : (f : Required) → Seen → List ℕ → Value f → Type 0
Unordered Required.size key t n = Gives Required.size key t n
Unordered Required.first key t z = Gives Required.first key t z
Unordered Required.last key t z = IntText true (2 ^ 31) t z × (z ≡ pos 2147483647 → ⊥)
Unordered Required.middle key t z = Gives Required.middle key t z
Unordered Required.reference key t z = Gives Required.reference key t z
Unordered Required.pitch key t v = Gives Required.pitch key t v
Unordered Required.octave key t z = Gives Required.octave key t z

-- a format for the values of good lines alone: nothing is said here of what other lines draw
abbrev pub unordered : Format
unordered = record {
  Word = mapping.Word;
  word = mapping.word;
  Required = Required;
  required = required;
  Value = Value;
  Seen = Seen;
  unseen = unseen;
  see = mapping.see;
  Gives = Unordered;
  Wrong = λ f key t n. ⊥;
  Entry = Option ℤ;
  Is = mapping.Is;
  Bad = λ t n. ⊥;
}

-- the text s is a mapping file of k with the entries es, if its keys may stand in any order
pub record UnorderedText (s : List ℕ) (k : Kbm) (es : List (Option ℤ)) : Type 0 where
  pub says : List Meaning
  pub text : Says strict s says
  pub first : List (List ℕ)
  pub rest : List (List ℕ)
  pub tokens : Tokens says (first ++ rest)
  pub values : Values required
  pub head : GiveAll unordered unseen required first values
  pub given : List (Option ℤ)
  pub are : Entries rest given
  pub not_large : length (added (size_of values) given) ≤ 65535
  pub consistent : length given ≤ size_of values
  pub mapping : k ≡ mapping_from values
  pub entries : es ≡ added (size_of values) given
