-- Document 01, "Lines": "[A line] is trimmed of Unicode White_Space at both ends; empty ones and those starting with `!` drop out.
-- A line's token runs to the first space, tab, LF, form feed or CR". What a line is; which ones drop out is for the format of the
-- file to say. No reader is named here. Assumes nothing.
use Rattle.std.specs.Prelude.{◌≡◌, List, [], ◌∷◌, ◌++◌, ℕ}
use Rattle.utf8.specs.Characters.{Each, Row, span, Among, Scalar, encode}
use Rattle.white.specs.White.{WhiteSpace, Trimmed}
use Rattle.text.specs.Lines.{Lines}

-- what a line's reading depends on: the characters there are and their bytes, and which of them are trimmed
pub record Reading : Type 1 where
  pub Character : ℕ → Type 0
  pub bytes : ℕ → List ℕ
  pub White : ℕ → Type 0

-- document 01's reading: UTF-8, White_Space at both ends
abbrev pub strict : Reading
strict = record { Character = Scalar; bytes = encode; White = WhiteSpace }

-- space, tab, LF, form feed, CR: where a token ends (U+000B does not)
abbrev pub Splits : ℕ → Type 0
Splits b = Among (span 32 32 ∷ span 9 9 ∷ span 10 10 ∷ span 12 12 ∷ span 13 13 ∷ []) b

-- nothing, or a byte that splits and more
abbrev pub Stops : List ℕ → Type 0
Stops [] = Unit {0}
Stops (b ∷ r) = Splits b

-- t is m up to the first byte that splits
pub record Token (m t : List ℕ) : Type 0 where
  pub rest : List ℕ
  pub whole : m ≡ t ++ rest
  pub inside : Each (λ b. Splits b → ⊥) t
  pub stops : Stops rest

-- a comment: it starts with `!` (33)
abbrev pub Comment : List ℕ → Type 0
Comment m = (t : List ℕ) × (m ≡ 33 ∷ t)

-- what a line says: that it is no text of the reading's characters, that nothing of it is left, that it is a comment, or its trimmed
-- part and its token
pub data Meaning : Type 0 where
  invalid : Meaning
  blank : Meaning
  comment : Meaning
  content : List ℕ → List ℕ → Meaning

-- the line l says x
pub data Line (R : Reading) (l : List ℕ) (x : Meaning) : Type 0 where
  not_text : (Row R.Character R.bytes l → ⊥) → x ≡ invalid → Line R l x
  is_blank : Row R.Character R.bytes l → Trimmed R.White R.bytes l [] → x ≡ blank → Line R l x
  is_comment : Row R.Character R.bytes l → (m : List ℕ) → Trimmed R.White R.bytes l m → Comment m → x ≡ comment → Line R l x
  says : Row R.Character R.bytes l → (m t : List ℕ) → Trimmed R.White R.bytes l m → (m ≡ [] → ⊥) → (Comment m → ⊥) → Token m t → x ≡ content m t → Line R l x

-- each of the lines says so
abbrev pub EachLine : Reading → List (List ℕ) → List Meaning → Type 0
EachLine R [] [] = Unit {0}
EachLine R [] (x ∷ xs) = ⊥
EachLine R (l ∷ ls) [] = ⊥
EachLine R (l ∷ ls) (x ∷ xs) = Line R l x × EachLine R ls xs

-- the text s says xs, line by line
pub record Says (R : Reading) (s : List ℕ) (xs : List Meaning) : Type 0 where
  pub parts : List (List ℕ)
  pub lines : Lines s parts
  pub each : EachLine R parts xs
