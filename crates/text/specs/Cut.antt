-- Document 01, "Lines": the lines of a text as the code walks it. `Lines` says what they are, `proofs/LinesLanguage` that the two
-- agree. Assumes nothing.
use Rattle.std.specs.Prelude.{◌≡◌, List, [], ◌∷◌, Bool, false, ℕ, suc, ◌+◌, ◌-◌, ◌≤◌, ◌<◌, eqb, length, take, drop}
use Rattle.base.specs.Said.{pick}
use Rattle.text.specs.declared.lines.Ends.{Ends}

-- s goes on with LF
abbrev pub at_lf : List ℕ → Bool
at_lf [] = false
at_lf (b ∷ s) = eqb b 10

-- b, before s, is the CR of a CR LF
abbrev pub is_cr : ℕ → List ℕ → Bool
is_cr b s = pick (eqb b 13) (at_lf s) false

-- a byte in front of the first line
abbrev pub push : ℕ → List (List ℕ) → List (List ℕ)
push b [] = (b ∷ []) ∷ []
push b (l ∷ ls) = (b ∷ l) ∷ ls

-- the lines of a text
unfoldable pub lines : List ℕ → List (List ℕ)
lines [] = []
lines (b ∷ s) = pick (eqb b 10) ([] ∷ lines s) (pick (is_cr b s) (lines s) (push b (lines s)))

-- where the first line of s ends, and where the next one starts, if s starts at i
unfoldable pub cut : ℕ → List ℕ → Ends
cut i [] = record { end = i; next = i }
cut i (b ∷ s) =
    pick (eqb b 10) (record { end = i; next = i + 1 })
    (pick (is_cr b s) (record { end = i; next = i + 2 }) (cut (i + 1) s))

-- how long the first line is
unfoldable pub len : List ℕ → ℕ
len [] = 0
len (b ∷ s) = pick (eqb b 10) 0 (pick (is_cr b s) 0 (suc (len s)))

-- how far behind its start the next one starts
unfoldable pub skip : List ℕ → ℕ
skip [] = 0
skip (b ∷ s) = pick (eqb b 10) 1 (pick (is_cr b s) 2 (suc (skip s)))

-- what `next_line` answers from `at` on: the first of the lines left, and where the others start
pub record NextLine (s : List ℕ) (at : ℕ) (l : Ends) : Type 0 where
  pub first : lines (drop at s) ≡ take (l.end - at) (drop at s) ∷ lines (drop l.next s)
  pub starts : at ≤ l.end
  pub ends : l.end ≤ length s
  pub moves : at < l.next
  pub stays : l.next ≤ length s
