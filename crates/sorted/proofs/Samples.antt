-- The definitions at work: 3/2, 1, 3/2 and 5/4 sorted, and their repeats. Assumes nothing.
use mathlib.Core.Path.{◌≡◌, refl}
use mathlib.Core.Bool.{false}
use mathlib.Core.List.{List, [], ◌∷◌, map}
use lib.IntN.{pos, negsuc}
use lib.Count.{count_trailing_zeros}
use lib.Ieee.{fin, lt, le, eq, div, round, units, of_bits, of_fields, odd, climb, span, size}
use Rattle.sorting.specs.Entries.{Entry, zip}
use Rattle.sorting.specs.Order.{lower, sort_by}
use Rattle.sorted.specs.Lent.{from}
use Rattle.sorted.specs.Repeats.{keep}

sample : List Entry
sample = zip (from 0 4) (fin false 3 (negsuc 0) ∷ fin false 1 (pos 0) ∷ fin false 3 (negsuc 0) ∷ fin false 5 (negsuc 1) ∷ []) (pos 7 ∷ pos 8 ∷ pos 9 ∷ pos 10 ∷ [])

stable_sample : map (λ (e : Entry). e.place) (sort_by lower sample) ≡ 1 ∷ 3 ∷ 0 ∷ 2 ∷ []
unfolding sample lt
stable_sample = refl

-- place 2 gives way to place 0, which was first
repeat_sample : map (λ (e : Entry). e.place) (keep (sort_by lower sample)) ≡ 1 ∷ 3 ∷ 0 ∷ 0 ∷ []
unfolding sample lt le div round units odd count_trailing_zeros of_bits of_fields climb span size eq
repeat_sample = refl
