-- A lent list: "list ratios lie in 2^-900..2^900 and never fall, with places within the count" (document 01, "Scales and
-- searches"); and where a search starts: "the first entry not below the target". Assumes nothing.
use Rattle.std.specs.Prelude.{◌≡◌, Bool, true, not, ◌&&◌, List, [], ◌∷◌, map, ℕ, zero, suc, ◌+◌, ◌≤◌, ◌<◌, leb, ltb, ℤ, length, get_or, take, Float}
use Rattle.std.specs.Float.{nan}
use Rattle.std.specs.Float.Ieee.{lt}
use Rattle.base.specs.Said.{pick}
use Rattle.floats.specs.Floats.{zero_f}
use Rattle.floats.specs.Ranges.{in_reach}
use Rattle.sorting.specs.Entries.{Entry, zip}
use Rattle.sorting.specs.Stable.{NeverFalls}

-- the columns of a list
abbrev pub places_of : List Entry → List ℕ
places_of = map (λ (e : Entry). e.place)

abbrev pub ratios_of : List Entry → List Float
ratios_of = map (λ (e : Entry). e.ratio)

abbrev pub wraps_of : List Entry → List ℤ
wraps_of = map (λ (e : Entry). e.wraps)

-- the three columns, as they are lent
pub record ListTable : Type 0 where
  pub places : List ℕ
  pub ratios : List Float
  pub wraps : List ℤ

abbrev pub list_table : List ℕ → List Float → List ℤ → ListTable
list_table ps rs ws = record { places = ps; ratios = rs; wraps = ws }

-- the list that they stand for in a scale of count items: one entry for place 0 and one for each; the columns may be longer
abbrev pub list_in : ℕ → ListTable → List Entry
list_in count t = zip (take (count + 1) t.places) (take (count + 1) t.ratios) (take (count + 1) t.wraps)

-- ---- what may be asked of a list
-- each ratio lies in 2^-900..2^900
abbrev pub AllInReach : List Float → Type 0
AllInReach rs = (i : ℕ) → i < length rs → in_reach (get_or rs i nan) ≡ true

-- each place is at most n
abbrev pub AllAtMost : ℕ → List ℕ → Type 0
AllAtMost n ps = (i : ℕ) → i < length ps → get_or ps i 0 ≤ n

-- a list of count items that a call may use: each column has a place for every entry
pub record Listed (count : ℕ) (t : ListTable) : Type 0 where
  pub places_room : count < length t.places
  pub ratios_room : count < length t.ratios
  pub wraps_room : count < length t.wraps
  pub reach : AllInReach (ratios_of (list_in count t))
  pub rises : NeverFalls (ratios_of (list_in count t))
  pub within : AllAtMost count (places_of (list_in count t))

-- ---- the same as tests
-- after the ratio p, r lies in the range and is not below p
unfoldable pub may_follow : Float → Float → Bool
may_follow p r = in_reach r && not (lt r p)

-- so does each ratio after the one before it
unfoldable pub usable_after : Float → List Float → Bool
usable_after p [] = true
usable_after p (r ∷ rs) = may_follow p r && usable_after r rs

abbrev pub usable : List Float → Bool
usable rs = usable_after zero_f rs

-- each place is at most n
unfoldable pub are_within : ℕ → List ℕ → Bool
are_within n [] = true
are_within n (p ∷ ps) = leb p n && are_within n ps

-- each column has a place for count items after place 0
abbrev pub have_list : ℕ → ListTable → Bool
have_list count t = ltb count (length t.places) && ltb count (length t.ratios) && ltb count (length t.wraps)

-- a list of count items: room in each column, then ratios and places
abbrev pub is_list : ℕ → ListTable → Bool
is_list count t = have_list count t && (usable (ratios_of (list_in count t)) && are_within count (places_of (list_in count t)))

-- ---- where a search starts
-- the place of the first ratio that is not below x: the length where there is none
abbrev pub first_not_below : List Float → Float → ℕ
first_not_below [] x = 0
first_not_below (r ∷ rs) x = pick (lt r x) (suc (first_not_below rs x)) 0

-- ---- an arrangement
-- n places from k on
abbrev pub from : ℕ → ℕ → List ℕ
from k zero = []
from k (suc n) = k ∷ from (suc k) n
