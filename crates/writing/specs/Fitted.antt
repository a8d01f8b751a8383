-- Document 01, "Writing": "12 exactly when the text is longer than the lent bytes". Assumes nothing.
use Rattle.std.specs.Prelude.{List, ℕ, leb, length}
use Rattle.base.specs.Numbers.{no_room}
use Rattle.base.specs.Said.{Said, gives, refuses, pick, and_then}

-- a text where so many bytes hold it, else 12
unfoldable pub fitted : ℕ → List ℕ → Said (List ℕ)
fitted room t = pick (leb (length t) room) (gives t) (refuses no_room 0)

-- the number of bytes written
abbrev pub text_length : Said (List ℕ) → Said ℕ
text_length said = and_then said (λ t. gives (length t))
