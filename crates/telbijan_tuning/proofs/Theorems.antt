-- For each input, refused ones too, a function of the interface has one possible result, and each value behind a pointer and each
-- lent part of memory one possible state after it: document 01, "What the contracts settle". A line for each. Assumes nothing.
use mathlib.Core.List.{List}
use Prim.Native.Nat.{ℕ}
use lib.IntN.{ℤ}
use lib.Ieee.{Float}
use lib.ListN.{length}
use Rattle.base.proofs.Said.{one_result}
use Rattle.key.specs.declared.PianoKey.{PianoKey}
use Rattle.sorted.specs.Lent.{ListTable}
use Rattle.scl.specs.Table.{ItemTable, items_in}
use Rattle.kbm.specs.declared.Kbm.{Kbm}
use Rattle.kbm.specs.declared.KbmRoot.{KbmRoot}
use Rattle.tuning.specs.Run.{key_pitches, key_pitches_from_middle, run_of, after_hz, after_numbers}
use Rattle.telbijan_answers.specs.Interface.{result, kept, field_of}
use Rattle.base.specs.Said.{Said, One}
use Rattle.searching.specs.declared.approximation.Approximation.{Approximation}
use Rattle.telbijan_tuning.specs.Tunings.{period_said, relative_said, sorted_relative_said, pitch_said, key_pitch_said, sorted_pitch_said, maybe_pitch_said, maybe_degree_pitch_said}
use Rattle.telbijan_tuning.specs.Tunings.{maybe_pitch_from_middle_said}
use Rattle.telbijan_tuning.specs.Searches.{find_said, find_sorted_said, find_pitch_said, find_pitch_sorted_said, find_key_said}

-- ---- pitches
pub period_one : (count : ℕ) (t : ItemTable) (old : Float) → One (λ r. r) (result (period_said count t)) × One (λ r. r) (kept (period_said count t) old)
period_one count t old = (one_result (result (period_said count t)), one_result (kept (period_said count t) old))

pub relative_pitch_of_one : (count : ℕ) (t : ItemTable) (degree : ℤ) (old : Float) → One (λ r. r) (result (relative_said count t degree)) × One (λ r. r) (kept (relative_said count t degree) old)
relative_pitch_of_one count t degree old = (one_result (result (relative_said count t degree)), one_result (kept (relative_said count t degree) old))

pub sorted_relative_pitch_of_one : (count : ℕ) (t : ItemTable) (l : ListTable) (degree : ℤ) (old : Float) → One (λ r. r) (result (sorted_relative_said count t l degree)) × One (λ r. r) (kept (sorted_relative_said count t l degree) old)
sorted_relative_pitch_of_one count t l degree old = (one_result (result (sorted_relative_said count t l degree)), one_result (kept (sorted_relative_said count t l degree) old))

pub pitch_of_one : (count : ℕ) (t : ItemTable) (root : KbmRoot) (degree : ℤ) (old : Float) → One (λ r. r) (result (pitch_said count t root degree)) × One (λ r. r) (kept (pitch_said count t root degree) old)
pitch_of_one count t root degree old = (one_result (result (pitch_said count t root degree)), one_result (kept (pitch_said count t root degree) old))

pub pitch_of_key_one : (count : ℕ) (t : ItemTable) (root : KbmRoot) (key : PianoKey) (old : Float) → One (λ r. r) (result (key_pitch_said count t root key)) × One (λ r. r) (kept (key_pitch_said count t root key) old)
pitch_of_key_one count t root key old = (one_result (result (key_pitch_said count t root key)), one_result (kept (key_pitch_said count t root key) old))

pub sorted_pitch_of_one : (count : ℕ) (t : ItemTable) (l : ListTable) (root : KbmRoot) (degree : ℤ) (old : Float) → One (λ r. r) (result (sorted_pitch_said count t l root degree)) × One (λ r. r) (kept (sorted_pitch_said count t l root degree) old)
sorted_pitch_of_one count t l root degree old = (one_result (result (sorted_pitch_said count t l root degree)), one_result (kept (sorted_pitch_said count t l root degree) old))

pub maybe_pitch_of_one : (count : ℕ) (t : ItemTable) (kbm : Kbm) (map : List ℤ) (key : PianoKey) (old : Float) → One (λ r. r) (result (maybe_pitch_said count t kbm map key)) × One (λ r. r) (kept (maybe_pitch_said count t kbm map key) old)
maybe_pitch_of_one count t kbm map key old = (one_result (result (maybe_pitch_said count t kbm map key)), one_result (kept (maybe_pitch_said count t kbm map key) old))

pub maybe_pitch_of_degree_one : (count : ℕ) (t : ItemTable) (kbm : Kbm) (map : List ℤ) (degree : ℤ) (old : Float) → One (λ r. r) (result (maybe_degree_pitch_said count t kbm map degree)) × One (λ r. r) (kept (maybe_degree_pitch_said count t kbm map degree) old)
maybe_pitch_of_degree_one count t kbm map degree old = (one_result (result (maybe_degree_pitch_said count t kbm map degree)), one_result (kept (maybe_degree_pitch_said count t kbm map degree) old))

pub pitches_of_one : (count : ℕ) (t : ItemTable) (kbm : Kbm) (map : List ℤ) (first : PianoKey) (keys : ℕ) (pitches : List Float) (numbers : List ℕ) → One (λ r. r) (result (run_of count t kbm map keys (length pitches) (length numbers))) × (One (λ r. r) (after_hz (run_of count t kbm map keys (length pitches) (length numbers)) (key_pitches (items_in count t) kbm map first) keys pitches) × One (λ r. r) (after_numbers (run_of count t kbm map keys (length pitches) (length numbers)) (key_pitches (items_in count t) kbm map first) keys numbers))
pitches_of_one count t kbm map first keys pitches numbers = (one_result (result (run_of count t kbm map keys (length pitches) (length numbers))), (one_result (after_hz (run_of count t kbm map keys (length pitches) (length numbers)) (key_pitches (items_in count t) kbm map first) keys pitches), one_result (after_numbers (run_of count t kbm map keys (length pitches) (length numbers)) (key_pitches (items_in count t) kbm map first) keys numbers)))

-- ---- counted from the middle key
pub maybe_pitch_from_middle_one : (count : ℕ) (t : ItemTable) (kbm : Kbm) (map : List ℤ) (key : PianoKey) (old : Float) →
    One (λ r. r) (result (maybe_pitch_from_middle_said count t kbm map key))
    × One (λ r. r) (kept (maybe_pitch_from_middle_said count t kbm map key) old)
maybe_pitch_from_middle_one count t kbm map key old =
    let said = maybe_pitch_from_middle_said count t kbm map key in
    (one_result (result said), one_result (kept said old))

pub pitches_from_middle_one : (count : ℕ) (t : ItemTable) (kbm : Kbm) (map : List ℤ) (first : PianoKey) (keys : ℕ) (pitches : List Float)
    (numbers : List ℕ) →
    One (λ r. r) (result (run_of count t kbm map keys (length pitches) (length numbers)))
    × (One (λ r. r) (after_hz (run_of count t kbm map keys (length pitches) (length numbers))
    (key_pitches_from_middle (items_in count t) kbm map first) keys pitches)
    × One (λ r. r) (after_numbers (run_of count t kbm map keys (length pitches) (length numbers))
    (key_pitches_from_middle (items_in count t) kbm map first) keys numbers))
pitches_from_middle_one count t kbm map first keys pitches numbers =
    let said = run_of count t kbm map keys (length pitches) (length numbers) in
    let each = key_pitches_from_middle (items_in count t) kbm map first in
    (one_result (result said), (one_result (after_hz said each keys pitches), one_result (after_numbers said each keys numbers)))

-- ---- searches
-- of any search: the result, the number and the deviation that it stores
abbrev pub OneSearch : Said Approximation → ℤ → Float → Type 0
OneSearch s number deviation = One (λ r. r) (result s) × (One (λ r. r) (kept (field_of (λ a. a.approx_value) s) number) × One (λ r. r) (kept (field_of (λ a. a.deviation) s) deviation))

one_search : (s : Said Approximation) (number : ℤ) (deviation : Float) → OneSearch s number deviation
one_search s number deviation = (one_result (result s), (one_result (kept (field_of (λ a. a.approx_value) s) number), one_result (kept (field_of (λ a. a.deviation) s) deviation)))

pub find_by_relative_pitch_one : (count : ℕ) (t : ItemTable) (l : ListTable) (target : Float) (number : ℤ) (deviation : Float) → OneSearch (find_said count t l target) number deviation
find_by_relative_pitch_one count t l target = one_search (find_said count t l target)

pub find_by_relative_pitch_sorted_one : (count : ℕ) (t : ItemTable) (l : ListTable) (target : Float) (number : ℤ) (deviation : Float) → OneSearch (find_sorted_said count t l target) number deviation
find_by_relative_pitch_sorted_one count t l target = one_search (find_sorted_said count t l target)

pub find_by_pitch_one : (count : ℕ) (t : ItemTable) (l : ListTable) (root : KbmRoot) (pitch : Float) (number : ℤ) (deviation : Float) → OneSearch (find_pitch_said count t l root pitch) number deviation
find_by_pitch_one count t l root pitch = one_search (find_pitch_said count t l root pitch)

pub find_by_pitch_sorted_one : (count : ℕ) (t : ItemTable) (l : ListTable) (root : KbmRoot) (pitch : Float) (number : ℤ) (deviation : Float) → OneSearch (find_pitch_sorted_said count t l root pitch) number deviation
find_by_pitch_sorted_one count t l root pitch = one_search (find_pitch_sorted_said count t l root pitch)

pub find_key_by_pitch_one : (count : ℕ) (t : ItemTable) (l : ListTable) (root : KbmRoot) (pitch : Float) (number : ℤ) (deviation : Float) → OneSearch (find_key_said count t l root pitch) number deviation
find_key_by_pitch_one count t l root pitch = one_search (find_key_said count t l root pitch)
