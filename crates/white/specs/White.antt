-- Document 01, "Lines": "[A line] is trimmed of Unicode White_Space at both ends". No reader is named here. Assumes nothing.
use Rattle.std.specs.Prelude.{◌≡◌, List, [], ◌∷◌, ◌++◌, ℕ}
use Rattle.utf8.specs.Characters.{Each, in_bytes, span, Among}

-- Unicode's White_Space (PropList): U+0009-000D, 0020, 0085, 00A0, 1680, 2000-200A, 2028, 2029, 202F, 205F, 3000
abbrev pub WhiteSpace : ℕ → Type 0
WhiteSpace c =
    Among (span 0x0009 0x000D ∷ span 0x0020 0x0020 ∷ span 0x0085 0x0085 ∷ span 0x00A0 0x00A0 ∷ span 0x1680 0x1680 ∷
    span 0x2000 0x200A ∷ span 0x2028 0x2028 ∷ span 0x2029 0x2029 ∷ span 0x202F 0x202F ∷ span 0x205F 0x205F ∷ span 0x3000 0x3000 ∷ []) c

-- m is s trimmed: white characters, m, white characters, and m neither starts nor ends with one
pub record Trimmed (White : ℕ → Type 0) (bytes : ℕ → List ℕ) (s m : List ℕ) : Type 0 where
  pub before : List ℕ
  pub after : List ℕ
  pub white_before : Each White before
  pub white_after : Each White after
  pub whole : s ≡ in_bytes bytes before ++ (m ++ in_bytes bytes after)
  pub starts : (c : ℕ) (t : List ℕ) → White c → m ≡ bytes c ++ t → ⊥
  pub ends : (c : ℕ) (t : List ℕ) → White c → m ≡ t ++ bytes c → ⊥
