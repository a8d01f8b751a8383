-- The contracts of the calls of this crate that are of their own kind; the others have those of telbijan_answers/specs/Calls.antt.
-- Assumes nothing.
use Rattle.std.specs.Prelude.{◌≡◌, List, ℕ, ℤ, Float, length}
use Rattle.base.specs.Said.{Said}
use Rattle.key.specs.Keys.{key}
use Rattle.scl.specs.Table.{ItemTable, items_in}
use Rattle.kbm.specs.declared.Kbm.{Kbm}
use Rattle.tuning.specs.Run.{key_pitches, key_pitches_from_middle, run_of, after_hz, after_numbers}
use Rattle.searching.specs.declared.approximation.Approximation.{Approximation}
use Rattle.telbijan_answers.specs.Interface.{result}
use Rattle.telbijan_answers.specs.Calls.{StoredTwo}

-- what a search found, a degree or a key, and the deviation from it are stored
abbrev pub SearchStored : Said Approximation → ℤ → Float → ℕ → ℤ → Float → Type 0
SearchStored s old apart r found deviation = StoredTwo (λ a. a.approx_value) (λ a. a.deviation) s old apart r found deviation

-- of a scale of so many items and a mapping over its table, what each key of a run says is written: its pitch and its number
abbrev pub RunWritten : ℕ → ItemTable → Kbm → List ℤ → (ℕ → Said Float) → ℕ → List Float → List ℕ → ℕ → List Float → List ℕ → Type 0
RunWritten count t kbm map says keys hz ns r pitches numbers =
    (r ≡ result (run_of count t kbm map keys (length hz) (length ns)))
    × (pitches ≡ after_hz (run_of count t kbm map keys (length hz) (length ns)) says keys hz)
    × (numbers ≡ after_numbers (run_of count t kbm map keys (length hz) (length ns)) says keys ns)

-- counted from the reference key
abbrev pub PitchesOf : ℕ → ItemTable → Kbm → List ℤ → ℤ → ℕ → List Float → List ℕ → ℕ → List Float → List ℕ → Type 0
PitchesOf count t kbm map first keys hz ns r pitches numbers = RunWritten count t kbm map
    (key_pitches (items_in count t) kbm map (key first)) keys hz ns r pitches numbers

-- counted from the middle key
abbrev pub PitchesFromMiddle : ℕ → ItemTable → Kbm → List ℤ → ℤ → ℕ → List Float → List ℕ → ℕ → List Float → List ℕ → Type 0
PitchesFromMiddle count t kbm map first keys hz ns r pitches numbers = RunWritten count t kbm map
    (key_pitches_from_middle (items_in count t) kbm map (key first)) keys hz ns r pitches numbers
