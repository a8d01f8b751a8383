-- What the lines of a text say, with their places in the whole text. `ReadLine` says the same of what they say alone, and
-- `proofs/Placed` that the two agree. Assumes nothing.
use Rattle.std.specs.Prelude.{List, [], ◌∷◌, Bool, true, false, ℕ, ◌+◌, eqb}
use Rattle.text.specs.Cut.{lines}
use Rattle.text.specs.ReadLine.{Way, strictly, line_by}
use Rattle.text.specs.declared.line.LineSays.{LineSays}

-- where lines start in what stands from k on: at its first byte, if a line is to start there, and at each byte after an LF
unfoldable pub starts_from : Bool → ℕ → List ℕ → List ℕ
starts_from fresh k [] = []
starts_from true k (b ∷ s) = k ∷ starts_from (eqb b 10) (k + 1) s
starts_from false k (b ∷ s) = starts_from (eqb b 10) (k + 1) s

-- what lines say that start there
unfoldable pub placed_by : Way → List ℕ → List (List ℕ) → List LineSays
placed_by w [] ls = []
placed_by w (k ∷ ks) [] = []
placed_by w (k ∷ ks) (l ∷ ls) = line_by w k l ∷ placed_by w ks ls

-- what the lines from k on say, s being what stands there
abbrev pub placed_from : ℕ → List ℕ → List LineSays
placed_from k s = placed_by strictly (starts_from true k s) (lines s)

-- what the lines of a text say, with their places
abbrev pub placed_in : List ℕ → List LineSays
placed_in text = placed_from 0 text
