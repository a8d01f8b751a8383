-- Characters and the bytes that stand for them; and UTF-8, the encodings of Unicode scalar values (The Unicode Standard, D76 and
-- D92). Document 01, "Lines": "Each line, comment or not, must be UTF-8." Assumes nothing.
use Rattle.std.specs.Prelude.{◌≡◌, List, [], ◌∷◌, ◌++◌, ◌⊎◌, ℕ, ◌+◌, ◌/◌, ◌%◌, ◌≤◌, ◌<◌, ltb}
use Rattle.base.specs.Said.{pick}

-- each member of a row is so
abbrev pub Each : (ℕ → Type 0) → List ℕ → Type 0
Each P [] = Unit {0}
Each P (c ∷ cs) = P c × Each P cs

-- the bytes of a row of characters, by the bytes of each
unfoldable pub in_bytes : (ℕ → List ℕ) → List ℕ → List ℕ
in_bytes bytes [] = []
in_bytes bytes (c ∷ cs) = bytes c ++ in_bytes bytes cs

-- s is a row of these characters
pub record Row (Character : ℕ → Type 0) (bytes : ℕ → List ℕ) (s : List ℕ) : Type 0 where
  pub codes : List ℕ
  pub each : Each Character codes
  pub text : s ≡ in_bytes bytes codes

-- the numbers from one to another, both among them
pub record Span : Type 0 where
  pub first : ℕ
  pub last : ℕ

abbrev pub span : ℕ → ℕ → Span
span a z = record { first = a; last = z }

-- c is in one of the spans
abbrev pub Among : List Span → ℕ → Type 0
Among [] c = ⊥
Among (s ∷ ss) c = ((s.first ≤ c) × (c ≤ s.last)) ⊎ Among ss c

-- a Unicode scalar value: any code point but the surrogates
abbrev pub Scalar : ℕ → Type 0
Scalar c = (c < 0xD800) ⊎ ((0xE000 ≤ c) × (c < 0x110000))

-- the bytes of a scalar value in UTF-8: one below 0x80, two below 0x800, three below 0x10000, else four
unfoldable pub encode : ℕ → List ℕ
encode c =
    pick (ltb c 0x80) (c ∷ [])
    (pick (ltb c 0x800) ((0xC0 + c / 64) ∷ (0x80 + c % 64) ∷ [])
    (pick (ltb c 0x10000) ((0xE0 + c / 4096) ∷ (0x80 + c / 64 % 64) ∷ (0x80 + c % 64) ∷ [])
    ((0xF0 + c / 262144) ∷ (0x80 + c / 4096 % 64) ∷ (0x80 + c / 64 % 64) ∷ (0x80 + c % 64) ∷ [])))

-- s is UTF-8
abbrev pub Utf8 : List ℕ → Type 0
Utf8 s = Row Scalar encode s
