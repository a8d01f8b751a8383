-- The calls of this crate refuse with detail 0: a line for each. Assumes nothing.
use mathlib.Core.Path.{refl, sym, subst}
use mathlib.Core.List.{List}
use Prim.Native.Nat.{ℕ}
use lib.IntN.{ℤ}
use lib.ListN.{length}
use lib.Ieee.{Float}
use Rattle.base.specs.Said.{Said}
use Rattle.key.specs.declared.PianoKey.{PianoKey}
use Rattle.sorting.specs.Entries.{Entry}
use Rattle.sorted.specs.Lent.{ListTable}
use Rattle.scl.specs.Table.{ItemTable}
use Rattle.scl.specs.declared.Item.{Item}
use Rattle.kbm.specs.Degree.{degree_of}
use Rattle.kbm.specs.Keys.{Has}
use Rattle.kbm.specs.Middle.{reference_degree}
use Rattle.kbm.specs.ReferenceKey.{ReferenceHas}
use Rattle.std.specs.Prelude.{Option}
use Rattle.kbm.specs.declared.Kbm.{Kbm}
use Rattle.kbm.specs.declared.KbmRoot.{KbmRoot}
use Rattle.kbm.proofs.Language.{has}
use Rattle.kbm.proofs.Middle.{reference_has}
use Rattle.relative.specs.Relative.{relative_pitch_of, sorted_relative_pitch_of}
use Rattle.relative.specs.Pitches.{root_pitch, pitch_from, sorted_pitch_from, pitch_of, sorted_pitch_of}
use Rattle.searching.specs.Refusals.{OrBeyond}
use Rattle.searching.specs.Search.{chosen_of, nearest_of, search_of}
use Rattle.searching.proofs.Refusals.{reduced_or}
use Rattle.finding.specs.Find.{pitch_search_from, pitch_search_of}
use Rattle.tuning.specs.Run.{run_of}
use Rattle.telbijan_tuning.specs.Tunings.{period_said, relative_said, sorted_relative_said, pitch_said, key_pitch_said, sorted_pitch_said, maybe_pitch_said, maybe_degree_pitch_said}
use Rattle.telbijan_tuning.specs.Tunings.{maybe_pitch_from_middle_said}
use Rattle.telbijan_tuning.specs.Searches.{find_said, find_sorted_said, find_pitch_said, find_pitch_sorted_said, find_key_said}
use Rattle.telbijan_answers.specs.Details.{Undetailed}
use Rattle.telbijan_answers.proofs.Details.{steps, held_undetailed, exp_undetailed, log_undetailed, as_ratio_undetailed}

ruleset floats = (steps, held_undetailed, exp_undetailed, log_undetailed, as_ratio_undetailed)

-- ---- the pitches that the calls have below them
relative_undetailed : (items : List Item) (d : ℤ) → Undetailed (relative_pitch_of items d)
unfolding relative_pitch_of
relative_undetailed items d = search floats depth 12

sorted_relative_undetailed : (items : List Item) (es : List Entry) (d : ℤ) → Undetailed (sorted_relative_pitch_of items es d)
unfolding sorted_relative_pitch_of
sorted_relative_undetailed items es d = search floats depth 12

root_pitch_undetailed : (items : List Item) (hz : Float) (at : ℤ) → Undetailed (root_pitch items hz at)
unfolding root_pitch
root_pitch_undetailed items hz at = search (floats, relative_undetailed) depth 12

from_undetailed : (items : List Item) (hz : Float) (at d : ℤ) → Undetailed (pitch_from items hz at d)
unfolding pitch_from
from_undetailed items hz at d = search (floats, relative_undetailed, root_pitch_undetailed) depth 12

pitch_undetailed : (items : List Item) (root : KbmRoot) (d : ℤ) → Undetailed (pitch_of items root d)
unfolding pitch_of
pitch_undetailed items root d = search (floats, from_undetailed) depth 12

sorted_pitch_undetailed : (items : List Item) (es : List Entry) (root : KbmRoot) (d : ℤ) → Undetailed (sorted_pitch_of items es root d)
unfolding sorted_pitch_of sorted_pitch_from
sorted_pitch_undetailed items es root d = search (floats, sorted_relative_undetailed, root_pitch_undetailed) depth 12

has_undetailed : {kbm : Kbm} {es : List (Option ℤ)} {k : PianoKey} {s : Said ℤ} → Has kbm es k s → Undetailed s
has_undetailed (Has.outside a e) = subst Undetailed (sym e) Undetailed.number
has_undetailed (Has.far a b e) = subst Undetailed (sym e) Undetailed.number
has_undetailed (Has.plain a b c e) = subst Undetailed (sym e) (Undetailed.value _)
has_undetailed (Has.none a b q r e) = subst Undetailed (sym e) Undetailed.number
has_undetailed (Has.passed a b q z r c e) = subst Undetailed (sym e) Undetailed.number
has_undetailed (Has.degree a b q z r c e) = subst Undetailed (sym e) (Undetailed.value _)

degree_undetailed : (kbm : Kbm) (es : List (Option ℤ)) (k : PianoKey) → Undetailed (degree_of kbm es k)
degree_undetailed kbm es k = has_undetailed (has kbm es k)

-- the reference key's, counted from the middle key
reference_undetailed : (kbm : Kbm) (es : List (Option ℤ)) → Undetailed (reference_degree kbm es)
reference_undetailed kbm es = go ((reference_has kbm es (reference_degree kbm es)).0 refl)
  where
    go : {s : Said ℤ} → ReferenceHas kbm es s → Undetailed s
    go (ReferenceHas.far n e) = subst Undetailed (sym e) Undetailed.number
    go (ReferenceHas.plain n l e) = subst Undetailed (sym e) (Undetailed.value _)
    go (ReferenceHas.none n q r e) = subst Undetailed (sym e) Undetailed.number
    go (ReferenceHas.passed n q z r c e) = subst Undetailed (sym e) Undetailed.number
    go (ReferenceHas.degree n q z r c e) = subst Undetailed (sym e) (Undetailed.value _)

-- ---- pitches
module _ (count : ℕ) (t : ItemTable) where
  pub period_undetailed : Undetailed (period_said count t)
  period_undetailed = search floats

  pub relative_pitch_of_undetailed : (degree : ℤ) → Undetailed (relative_said count t degree)
  relative_pitch_of_undetailed degree = search (steps, relative_undetailed)

  pub sorted_relative_pitch_of_undetailed : (l : ListTable) (degree : ℤ) → Undetailed (sorted_relative_said count t l degree)
  sorted_relative_pitch_of_undetailed l degree = search (steps, sorted_relative_undetailed)

  pub pitch_of_undetailed : (root : KbmRoot) (degree : ℤ) → Undetailed (pitch_said count t root degree)
  pitch_of_undetailed root degree = search (steps, pitch_undetailed)

  pub pitch_of_key_undetailed : (root : KbmRoot) (key : PianoKey) → Undetailed (key_pitch_said count t root key)
  pitch_of_key_undetailed root key = search (steps, held_undetailed, pitch_undetailed)

  pub sorted_pitch_of_undetailed : (l : ListTable) (root : KbmRoot) (degree : ℤ) → Undetailed (sorted_pitch_said count t l root degree)
  sorted_pitch_of_undetailed l root degree = search (steps, sorted_pitch_undetailed)

  module _ (kbm : Kbm) (map : List ℤ) where
    pub maybe_pitch_of_undetailed : (key : PianoKey) → Undetailed (maybe_pitch_said count t kbm map key)
    maybe_pitch_of_undetailed key = search (steps, degree_undetailed, pitch_undetailed) depth 12

    pub maybe_pitch_of_degree_undetailed : (degree : ℤ) → Undetailed (maybe_degree_pitch_said count t kbm map degree)
    maybe_pitch_of_degree_undetailed degree = search (steps, held_undetailed, degree_undetailed, pitch_undetailed) depth 12

    pub maybe_pitch_from_middle_undetailed : (key : PianoKey) → Undetailed (maybe_pitch_from_middle_said count t kbm map key)
    maybe_pitch_from_middle_undetailed key = search (steps, degree_undetailed, reference_undetailed, from_undetailed) depth 12

    pub pitches_of_undetailed : (keys : ℕ) (pitches : List Float) (numbers : List ℕ) → Undetailed (run_of count t kbm map keys (length pitches) (length numbers))
    pitches_of_undetailed keys pitches numbers = search steps

    pub pitches_from_middle_undetailed : (keys : ℕ) (pitches : List Float) (numbers : List ℕ) →
        Undetailed (run_of count t kbm map keys (length pitches) (length numbers))
    pitches_from_middle_undetailed keys pitches numbers = pitches_of_undetailed keys pitches numbers

-- ---- searches
or_undetailed : {A : Type 0} {s : Said A} → OrBeyond s → Undetailed s
or_undetailed (OrBeyond.given a e) = subst Undetailed (sym e) (Undetailed.value a)
or_undetailed (OrBeyond.beyond e) = subst Undetailed (sym e) Undetailed.number

chosen_undetailed : (lower upper target : Float) → Undetailed (chosen_of lower upper target)
unfolding chosen_of
chosen_undetailed lower upper target = search steps depth 20

nearest_undetailed : (es : List Entry) (periods : ℤ) (target : Float) → Undetailed (nearest_of es periods target)
unfolding nearest_of
nearest_undetailed es periods target = search (steps, chosen_undetailed)

search_undetailed : (items : List Item) (es : List Entry) (x : Float) → Undetailed (search_of items es x)
unfolding search_of
search_undetailed items es x = search (floats, or_undetailed, reduced_or, nearest_undetailed) depth 12

pitch_search_undetailed : (items : List Item) (es : List Entry) (root : KbmRoot) (pitch : Float) → Undetailed (pitch_search_of items es root pitch)
unfolding pitch_search_of pitch_search_from
pitch_search_undetailed items es root pitch = search (steps, held_undetailed, root_pitch_undetailed, search_undetailed) depth 12

module _ (count : ℕ) (t : ItemTable) (l : ListTable) where
  pub find_by_relative_pitch_undetailed : (target : Float) → Undetailed (find_said count t l target)
  find_by_relative_pitch_undetailed target = search (steps, held_undetailed, search_undetailed)

  pub find_by_relative_pitch_sorted_undetailed : (target : Float) → Undetailed (find_sorted_said count t l target)
  find_by_relative_pitch_sorted_undetailed target = search (steps, held_undetailed, search_undetailed)

  module _ (root : KbmRoot) (pitch : Float) where
    pub find_by_pitch_undetailed : Undetailed (find_pitch_said count t l root pitch)
    find_by_pitch_undetailed = search (steps, held_undetailed, pitch_search_undetailed)

    pub find_by_pitch_sorted_undetailed : Undetailed (find_pitch_sorted_said count t l root pitch)
    find_by_pitch_sorted_undetailed = search (steps, held_undetailed, pitch_search_undetailed)

    pub find_key_by_pitch_undetailed : Undetailed (find_key_said count t l root pitch)
    find_key_by_pitch_undetailed = search (steps, held_undetailed, pitch_search_undetailed) depth 12
