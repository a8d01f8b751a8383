-- SAMPLES OF LISTS AND SEARCHES that tell apart what is easily exchanged: the declared degree and the ascending one; a period below 1,
-- whose turned-over entry takes place 0; the lowest of repeated entries and the first declared; the two sides of the tolerance. Lists
-- and degrees are those that the given Rust answers with E and L in place of exp2 and log2. Document 01, "Scales and searches".
-- Assumes nothing.
use Rattle.std.specs.Prelude.{◌≡◌, true, false, List, [], ◌∷◌, ℕ, pos, negsuc, neg_ℤ, Float, Some}
use Rattle.std.specs.Float.{fin, binary64}
use Rattle.std.specs.Float.Ieee.{round}
use Rattle.base.specs.Said.{Said, gives, and_then}
use Rattle.pitch.specs.Ratios.{from_cents}
use Rattle.scl.specs.Table.{implicit}
use Rattle.scl.specs.declared.Item.{Item}
use Rattle.scl.specs.declared.Item.TheVariants.{Cents, Fraction}
use Rattle.scl_tables.specs.Build.{entry, sorted_of}
use Rattle.searching.specs.Degrees.{approximation, declared_of, ascending_of}
use Rattle.searching.specs.Search.{found_at, nearest_of, search_of}
use Rattle.searching.specs.declared.Found.{Found}
use Rattle.sorting.specs.Entries.{Entry}

abbrev pub one : Float
one = fin false 1 (pos 0)

abbrev pub two : Float
two = fin false 1 (pos 1)

-- ---- items -300. and -1200. cents: (2, 1.0, 1) (1, 1.6817928305074288, 1) (0, 2.0, 1)
abbrev pub downward : List Item
downward = implicit ∷ Cents (fin true 75 (pos 2)) ∷ Cents (fin true 75 (pos 4)) ∷ []

abbrev pub minor_third : Entry
minor_third = entry 1 (fin false 1893530391196907 (negsuc 49)) (pos 1)

abbrev pub downward_list : List Entry
downward_list = entry 2 one (pos 1) ∷ minor_third ∷ entry 0 two (pos 1) ∷ []

-- 0.9 lies a period up and 1.070286403502449 above the second entry
abbrev pub downward_far : Float
downward_far = fin false 2410070723996669 (negsuc 50)

abbrev pub downward_found : Found
downward_found = found_at minor_third 1 (pos 1) downward_far

-- ---- items 5/3, 80/3 and 2/1: (0, 1.0, 0) (2, 1.666666666666666, 4) twice (3, 2.0, 0)
abbrev pub thirds : List Item
thirds = implicit ∷ Fraction 5 (Some 3) ∷ Fraction 80 (Some 3) ∷ Fraction 2 (Some 1) ∷ []

abbrev pub lower_third : Entry
lower_third = entry 2 (fin false 938249922368853 (negsuc 48)) (pos 4)

abbrev pub thirds_list : List Entry
thirds_list = entry 0 one (pos 0) ∷ lower_third ∷ lower_third ∷ entry 3 two (pos 0) ∷ []

-- 5/3 lies 1.0000000000000002 above the third entry
abbrev pub thirds_far : Float
thirds_far = fin false 4503599627370497 (negsuc 51)

abbrev pub thirds_found : Found
thirds_found = found_at lower_third 2 (pos 0) thirds_far

-- ---- item 100. cents, whose list is 1.0 and 1.0594630943592953: "the 0.999999 tolerance" lets 1.0 reach a little beyond the middle
abbrev pub upper : Entry
upper = entry 1 (fin false 4771397596969315 (negsuc 51)) (pos 0)

abbrev pub semitone_list : List Entry
semitone_list = entry 0 one (pos 0) ∷ upper ∷ []

-- ten-thousandths of a cent, searched in it
abbrev pub near_cents : ℕ → Said Found
near_cents n = and_then (from_cents (round binary64 false n 10000)) (nearest_of semitone_list (pos 0))

pub record DegreeSamples : Type 0 where
  -- "override of the period's entry" for a period below 1; 0.9 has the declared degree 1 and the ascending one 3
  pub downward_sorted : sorted_of downward ≡ gives downward_list
  pub downward_finds : search_of downward downward_list (round binary64 false 9 10) ≡ gives downward_found
  pub downward_declared : declared_of 2 downward_found ≡ gives (approximation downward_far (pos 1))
  pub downward_ascending : ascending_of 2 downward_found ≡ gives (approximation downward_far (pos 3))
  -- the lowest ratio stays and not the first declared, so that 5/3 has the declared degree -10; the ascending one is 2
  pub thirds_sorted : sorted_of thirds ≡ gives thirds_list
  pub thirds_finds : search_of thirds thirds_list (round binary64 false 5 3) ≡ gives thirds_found
  pub thirds_declared : declared_of 3 thirds_found ≡ gives (approximation thirds_far (neg_ℤ (pos 10)))
  pub thirds_ascending : ascending_of 3 thirds_found ≡ gives (approximation thirds_far (pos 2))
  -- 50.0008 cents are near degree 0, 50.0009 cents near degree 1; the deviations are 1.0293027122822307 and 0.9715324462147065
  pub below_tolerance : near_cents 500008 ≡ gives (found_at (entry 0 one (pos 0)) 0 (pos 0) (fin false 4635567311485695 (negsuc 51)))
  pub above_tolerance : near_cents 500009 ≡ gives (found_at upper 1 (pos 0) (fin false 8750786325501797 (negsuc 52)))
