-- What the functions of this crate say is a value or one of document 01's numbers, and of a pitch counted from the middle key also 19, so a
-- result is 0 exactly where a value is stored (`zero_accepted` of telbijan_answers). A line for each; of the numbers that a run of keys
-- stores, `stored-number` and `stored_from_middle` of tuning.
-- Assumes nothing.
use mathlib.Core.List.{List}
use Prim.Native.Nat.{ℕ}
use lib.Dec.{lit≤}
use lib.IntN.{ℤ}
use lib.ListN.{length}
use lib.Ieee.{Float}
use Rattle.base.specs.Numbers.{reference_unmapped}
use Rattle.base.specs.Said.{Numbered, NumberedOr}
use Rattle.key.specs.declared.PianoKey.{PianoKey}
use Rattle.sorted.specs.Lent.{ListTable}
use Rattle.scl.specs.Table.{ItemTable}
use Rattle.kbm.specs.declared.Kbm.{Kbm}
use Rattle.kbm.specs.declared.KbmRoot.{KbmRoot}
use Rattle.relative.proofs.Numbers as relative
use Rattle.tuning.proofs.Numbers as tuning
use Rattle.tuning.proofs.MiddleNumbers as middle
use Rattle.tuning.specs.Run.{run_of}
use Rattle.finding.proofs.Numbers as finding
use Rattle.telbijan_answers.specs.Interface.{Coded}
use Rattle.telbijan_answers.proofs.Interface.{coded_or}
use Rattle.telbijan_tuning.specs.Tunings.{maybe_pitch_from_middle_said}
use Rattle.telbijan_tuning.specs.Tunings.{period_said, relative_said, sorted_relative_said, pitch_said, key_pitch_said, sorted_pitch_said, maybe_pitch_said, maybe_degree_pitch_said}
use Rattle.telbijan_tuning.specs.Searches.{find_said, find_sorted_said, find_pitch_said, find_pitch_sorted_said, find_key_said}

-- ---- pitches
pub period_numbered : (count : ℕ) (t : ItemTable) → Numbered (period_said count t)
period_numbered count t = relative.period_numbered count t

pub relative_pitch_of_numbered : (count : ℕ) (t : ItemTable) (degree : ℤ) → Numbered (relative_said count t degree)
relative_pitch_of_numbered count t degree = relative.relative_pitch_of_numbered count t degree

pub sorted_relative_pitch_of_numbered : (count : ℕ) (t : ItemTable) (l : ListTable) (degree : ℤ) → Numbered (sorted_relative_said count t l degree)
sorted_relative_pitch_of_numbered count t l degree = relative.sorted_relative_pitch_of_numbered count t l degree

pub pitch_of_numbered : (count : ℕ) (t : ItemTable) (root : KbmRoot) (degree : ℤ) → Numbered (pitch_said count t root degree)
pitch_of_numbered count t root degree = tuning.pitch_of_numbered count t root degree

pub pitch_of_key_numbered : (count : ℕ) (t : ItemTable) (root : KbmRoot) (key : PianoKey) → Numbered (key_pitch_said count t root key)
pitch_of_key_numbered count t root key = tuning.pitch_of_key_numbered count t root key

pub sorted_pitch_of_numbered : (count : ℕ) (t : ItemTable) (l : ListTable) (root : KbmRoot) (degree : ℤ) → Numbered (sorted_pitch_said count t l root degree)
sorted_pitch_of_numbered count t l root degree = tuning.sorted_pitch_of_numbered count t l root degree

pub maybe_pitch_of_numbered : (count : ℕ) (t : ItemTable) (kbm : Kbm) (map : List ℤ) (key : PianoKey) → Numbered (maybe_pitch_said count t kbm map key)
maybe_pitch_of_numbered count t kbm map key = tuning.maybe_pitch_of_numbered count t kbm map key

pub maybe_pitch_of_degree_numbered : (count : ℕ) (t : ItemTable) (kbm : Kbm) (map : List ℤ) (degree : ℤ) → Numbered (maybe_degree_pitch_said count t kbm map degree)
maybe_pitch_of_degree_numbered count t kbm map degree = tuning.maybe_pitch_of_degree_numbered count t kbm map degree

pub pitches_of_numbered : (count : ℕ) (t : ItemTable) (kbm : Kbm) (map : List ℤ) (keys : ℕ) (pitches : List Float) (numbers : List ℕ) → Numbered (run_of count t kbm map keys (length pitches) (length numbers))
pitches_of_numbered count t kbm map keys pitches numbers = tuning.run_numbered count t kbm map keys (length pitches) (length numbers)

-- counted from the middle key: 19 too
pub maybe_pitch_from_middle_numbered : (count : ℕ) (t : ItemTable) (kbm : Kbm) (map : List ℤ) (key : PianoKey) →
    NumberedOr reference_unmapped (maybe_pitch_from_middle_said count t kbm map key)
maybe_pitch_from_middle_numbered count t kbm map key = middle.maybe_pitch_from_middle_numbered count t kbm map key

pub maybe_pitch_from_middle_coded : (count : ℕ) (t : ItemTable) (kbm : Kbm) (map : List ℤ) (key : PianoKey) →
    Coded (maybe_pitch_from_middle_said count t kbm map key)
maybe_pitch_from_middle_coded count t kbm map key = coded_or (lit≤ tt) (lit≤ tt) (maybe_pitch_from_middle_numbered count t kbm map key)

pub pitches_from_middle_numbered : (count : ℕ) (t : ItemTable) (kbm : Kbm) (map : List ℤ) (keys : ℕ) (pitches : List Float)
    (numbers : List ℕ) → Numbered (run_of count t kbm map keys (length pitches) (length numbers))
pitches_from_middle_numbered count t kbm map keys pitches numbers = pitches_of_numbered count t kbm map keys pitches numbers

-- ---- searches
pub find_by_relative_pitch_numbered : (count : ℕ) (t : ItemTable) (l : ListTable) (target : Float) → Numbered (find_said count t l target)
find_by_relative_pitch_numbered count t l target = finding.find_by_relative_pitch_numbered count t l target

pub find_by_relative_pitch_sorted_numbered : (count : ℕ) (t : ItemTable) (l : ListTable) (target : Float) → Numbered (find_sorted_said count t l target)
find_by_relative_pitch_sorted_numbered count t l target = finding.find_by_relative_pitch_sorted_numbered count t l target

pub find_by_pitch_numbered : (count : ℕ) (t : ItemTable) (l : ListTable) (root : KbmRoot) (pitch : Float) → Numbered (find_pitch_said count t l root pitch)
find_by_pitch_numbered count t l root pitch = finding.find_by_pitch_numbered count t l root pitch

pub find_by_pitch_sorted_numbered : (count : ℕ) (t : ItemTable) (l : ListTable) (root : KbmRoot) (pitch : Float) → Numbered (find_pitch_sorted_said count t l root pitch)
find_by_pitch_sorted_numbered count t l root pitch = finding.find_by_pitch_sorted_numbered count t l root pitch

pub find_key_by_pitch_numbered : (count : ℕ) (t : ItemTable) (l : ListTable) (root : KbmRoot) (pitch : Float) → Numbered (find_key_said count t l root pitch)
find_key_by_pitch_numbered count t l root pitch = finding.find_key_by_pitch_numbered count t l root pitch
