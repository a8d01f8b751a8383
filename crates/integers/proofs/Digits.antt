-- The test of a digit, and what it says of a byte; rows of digits. Assumes nothing.
use mathlib.Core.Path.{◌≡◌, refl}
use mathlib.Core.List.{List, [], ◌∷◌, ◌++◌}
use mathlib.Core.Bool.{Bool, true, false}
use Prim.Native.Nat.{ℕ, ◌≤◌, ◌<◌}
use native.Mathlib.Omega.{arith}
use Rattle.std.specs.Char.{is_ascii_digit}
use Rattle.std.proofs.lemmas.Bool.{cases_lt}
use mathlib.Core.Logic.{inl, inr}
use lib.Dec.{leb, ltb}
use borrow.Author.Tests.{lt-ltb, le-ltb, le-leb, lt-leb, ltb-false, leb-true}
use Rattle.base.specs.Said.{pick}
use Rattle.integers.specs.Digits.{AllDigits, is_digit}

-- a byte is a digit, or stands below or above them
pub digit_yes : (b : ℕ) → 48 ≤ b → b ≤ 57 → is_digit b ≡ true
digit_yes b l h = simp (le-ltb b 48 l, le-leb b 57 h)

pub digit_low : (b : ℕ) → b < 48 → is_digit b ≡ false
digit_low b h = simp (lt-ltb b 48 h)

pub digit_high : (b : ℕ) → 57 < b → is_digit b ≡ false
digit_high b h = simp (le-ltb b 48 (omega arith), lt-leb b 57 h)

pub digit_is : (b : ℕ) → is_digit b ≡ true → (48 ≤ b) × (b ≤ 57)
digit_is b e = go (ltb b 48) refl e
  where
    go : (t : Bool) → ltb b 48 ≡ t → pick t false (leb b 57) ≡ true → (48 ≤ b) × (b ≤ 57)
    go true p q = let z : ◌≡◌ {A = ℕ} 0 1 = cc in absurd (omega arith)
    go false p q = (ltb-false b 48 p, leb-true b 57 q)

-- one row after another
pub all_append : (a b : List ℕ) → AllDigits a → AllDigits b → AllDigits (a ++ b)
all_append [] b h k = k
all_append (c ∷ a) b h k = (h.0, all_append a b h.1 k)

-- std's test of a digit is this one
pub ascii_digit : (b : ℕ) → is_digit b ≡ is_ascii_digit b
ascii_digit b =
    elim (cases_lt b 48) [
      | inl l ↦ simp (lt-ltb b 48 l, lt-leb 48 b l)
      | inr l ↦ simp (le-ltb b 48 l, le-leb 48 b l)
    ]
