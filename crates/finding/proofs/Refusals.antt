-- Which refusals the searches leave, once tables, root and target are usable: 11 and 18. Document 01, "Scales and searches".
-- Assumes nothing.
use mathlib.Core.Path.{◌≡◌, refl, ◌∙◌, ap}
use mathlib.Core.Bool.{Bool, true, false, ◌&&◌}
use mathlib.Core.List.{List}
use Prim.Native.Nat.{ℕ}
use lib.Dec.{lit≤}
use lib.IntN.{ℤ, pos, ◌+ℤ◌, ◌-ℤ◌, ◌*ℤ◌}
use lib.Ieee.{Float, binary64, fits, div}
use Rattle.base.specs.Integers.{in_i32, held}
use Rattle.base.specs.Numbers.{overflow}
use Rattle.base.specs.Said.{Said, gives, refuses, pick, and_then}
use Rattle.floats.specs.Ranges.{in_reach, in_search, in_pitch}
use Rattle.floats.proofs.Between.{within_more, within_reach}
use Rattle.floats.proofs.Ranges.{pitch_says}
use Rattle.pitch.specs.Pitches.{between_pitches}
use Rattle.sorting.specs.Entries.{Entry}
use Rattle.sorted.specs.Lent.{ListTable, list_in, is_list}
use Rattle.scl.specs.Table.{ItemTable, items_in, is_items}
use Rattle.scl.specs.declared.Item.{Item}
use Rattle.kbm.specs.Root.{is_root}
use Rattle.kbm.specs.declared.KbmRoot.{KbmRoot}
use Rattle.relative.specs.Refusals.{ReachedOrBeyond}
use Rattle.relative.specs.Scales.{tested, is_scale}
use Rattle.relative.specs.Pitches.{root_pitch}
use Rattle.relative.proofs.Theorems.{root_reached}
use Rattle.searching.specs.Refusals.{OrBeyond}
use Rattle.searching.specs.Search.{search_of}
use Rattle.searching.specs.declared.Found.{Found}
use Rattle.searching.proofs.Refusals.{move, on, computed_or, search_refusals}
use Rattle.searching.proofs.Within.{search_reach}
use Rattle.searching.specs.Degrees.{approximation, declared_of, ascending_of, key_of}
use Rattle.searching.specs.declared.approximation.Approximation.{Approximation}
use Rattle.finding.specs.Find.{computed_search, pitch_search_from, pitch_search_of}
use Rattle.finding.specs.Says.{Answers}
use Rattle.finding.proofs.Theorems.{quotient_held}

-- ---- the degree of what was found: 11 outside 32 bits
shift : {s t : Said Approximation} → t ≡ s → Answers s → Answers t
shift e (Answers.answered a h) = Answers.answered a (e ∙ h)
shift e (Answers.passed h) = Answers.passed (e ∙ h)
shift e (Answers.beyond h) = Answers.beyond (e ∙ h)

held_answers : (deviation : Float) (z : ℤ) → Answers (and_then (held z) (λ v. gives (approximation deviation v)))
unfolding held
held_answers deviation z = go (in_i32 z)
  where
    go : (b : Bool) → Answers (and_then (pick b (gives z) (refuses overflow 0)) (λ v. gives (approximation deviation v)))
    go true = Answers.answered (approximation deviation z) refl
    go false = Answers.passed refl

from_found : {s : Said Found} (degree : Found → Said Approximation) → ((f : Found) → Answers (degree f)) → OrBeyond s → Answers (and_then s degree)
from_found degree k (OrBeyond.given f e) = shift (ap (λ (t : Said Found). and_then t degree) e) (k f)
from_found degree k (OrBeyond.beyond e) = Answers.beyond (ap (λ (t : Said Found). and_then t degree) e)

pub declared_answers : (count : ℕ) (f : Found) → Answers (declared_of count f)
declared_answers count f = held_answers f.deviation (pos f.place +ℤ (f.periods -ℤ f.wraps) *ℤ pos count)

pub ascending_answers : (count : ℕ) (f : Found) → Answers (ascending_of count f)
ascending_answers count f = held_answers f.deviation (pos f.index +ℤ f.periods *ℤ pos count)

pub key_answers : (root : KbmRoot) {s : Said Approximation} → Answers s → Answers (and_then s (key_of root))
key_answers root (Answers.answered a e) = shift (ap (λ (t : Said Approximation). and_then t (key_of root)) e) (held_answers a.deviation (root.reference.0 +ℤ a.approx_value))
key_answers root (Answers.passed e) = Answers.passed (ap (λ (t : Said Approximation). and_then t (key_of root)) e)
key_answers root (Answers.beyond e) = Answers.beyond (ap (λ (t : Said Approximation). and_then t (key_of root)) e)

-- ---- the calls
module _ (count : ℕ) (t : ItemTable) (l : ListTable) (it : is_items count t ≡ true) (li : is_list count l ≡ true) (degree : Found → Said Approximation) (k : (f : Found) → Answers (degree f)) where
  abbrev items : List Item
  items = items_in count t

  abbrev es : List Entry
  es = list_in count l

  -- of a ratio in 2^-64..2^64: 11 for the degree, or 18
  pub relative_answers : (x : Float) → fits binary64 x ≡ true → in_search x ≡ true → Answers (tested (is_scale count t l && in_search x) (and_then (search_of items es x) degree))
  relative_answers x fx sx = rw (it, li, sx) (from_found degree k (search_refusals count t l it li x fx (search_reach x sx)))

  module _ (root : KbmRoot) (o : is_root root ≡ true) (pitch : Float) (p : in_pitch pitch ≡ true) where
    hz_reach : (hz : Float) → in_pitch hz ≡ true → in_reach hz ≡ true
    hz_reach hz h = within_reach (within_more (lit≤ tt) (lit≤ tt) (pitch_says hz h))

    ratio_or : (hz : Float) → in_reach hz ≡ true → OrBeyond (between_pitches hz pitch)
    ratio_or hz h = move (rw (h, hz_reach pitch p) refl) (computed_or (div binary64 pitch hz))

    computed_search_law : (hz : Float) → in_reach hz ≡ true → OrBeyond (and_then (between_pitches hz pitch) (computed_search items es))
    computed_search_law hz h = on (computed_search items es) (ratio_or hz h) (λ x e. go x e (in_search x) refl)
      where
        go : (x : Float) → between_pitches hz pitch ≡ gives x → (b : Bool) → in_search x ≡ b → OrBeyond (pick (in_search x) (search_of items es x) (refuses 18 0))
        go x e true s = rw s (search_refusals count t l it li x (quotient_held hz pitch x e) (search_reach x s))
        go x e false s = rw s (OrBeyond.beyond refl)

    from_or : (at : ℤ) → OrBeyond (pitch_search_from items es root.pitch.0 at pitch)
    unfolding pitch_search_from
    from_or at = go (root_reached items root.pitch.0 (hz_reach root.pitch.0 o) at)
      where
        go : ReachedOrBeyond (root_pitch items root.pitch.0 at) → OrBeyond (and_then (root_pitch items root.pitch.0 at) (λ hz. and_then (between_pitches hz pitch) (computed_search items es)))
        go (ReachedOrBeyond.reached hz r e) = move (ap (λ (s : Said Float). and_then s (λ hz. and_then (between_pitches hz pitch) (computed_search items es))) e) (computed_search_law hz r)
        go (ReachedOrBeyond.beyond e) = OrBeyond.beyond (ap (λ (s : Said Float). and_then s (λ hz. and_then (between_pitches hz pitch) (computed_search items es))) e)

    -- of a pitch in 2^-10..2^20: 11 for the root offset or the degree, or 18
    pub pitch_answers : Answers (tested (is_scale count t l && (is_root root && in_pitch pitch)) (and_then (pitch_search_of items es root pitch) degree))
    unfolding pitch_search_of held
    pitch_answers = rw (it, li, o, p) (go (in_i32 (pos 0 -ℤ root.offset)))
      where
        go : (b : Bool) → Answers (and_then (and_then (pick b (gives (pos 0 -ℤ root.offset)) (refuses overflow 0)) (λ at. pitch_search_from items es root.pitch.0 at pitch)) degree)
        go true = from_found degree k (from_or (pos 0 -ℤ root.offset))
        go false = Answers.passed refl
