-- Four scales and what pitches and searches in them answer: "Only item 2/1: ratio 3.0 gives degree 2" (document 01, "Sample lines"); a
-- degree whose pitch, searched, is answered by another degree, as in the Rust; the first of equal entries; a degree below place 0.
-- Assumes nothing.
use Rattle.std.specs.Prelude.{false, List, [], ◌∷◌, ℕ, pos, negsuc, Float, Some}
use Rattle.std.specs.Float.{fin}
use Rattle.pitch.specs.Ratios.{two_f}
use Rattle.sorting.specs.Entries.{Entry}
use Rattle.scl.specs.Table.{implicit}
use Rattle.scl.specs.declared.Item.{Item}
use Rattle.scl.specs.declared.Item.TheVariants.{Fraction}
use Rattle.scl_tables.specs.Build.{entry}
use Rattle.searching.specs.Degrees.{approximation}
use Rattle.searching.specs.declared.approximation.Approximation.{Approximation}

-- place 0 and the item numer / 1
abbrev pub only : ℕ → List Item
only numer = implicit ∷ Fraction numer (Some 1) ∷ []

-- 1.0, and the period
abbrev pub only_list : Float → List Entry
only_list period = entry 0 (fin false 1 (pos 0)) (pos 0) ∷ entry 1 period (pos 0) ∷ []

abbrev pub three_f : Float
three_f = fin false 3 (pos 0)

-- ---- item 2/1: 3.0 is searched
-- 0.7499999999999999
abbrev pub three_answer : Approximation
three_answer = approximation (fin false 6755399441055743 (negsuc 52)) (pos 2)

-- ---- item 3/1: the pitch of degree 17 is searched
-- 129140162.99999967 and 387420488.99999946
abbrev pub seventeenth : Float
seventeenth = fin false 4333224817852405 (negsuc 24)

abbrev pub eighteenth : Float
eighteenth = fin false 6499837226778615 (negsuc 23)

-- degree 18, with deviation 0.9999999999999987: the quotient is rounded before it is cut, the remainder is exact
abbrev pub parted_answer : Approximation
parted_answer = approximation (fin false 2251799813685245 (negsuc 50)) (pos 18)

-- ---- items 1/1 five times and 2/1: 1.0 is searched, which six entries equal
abbrev pub repeated_items : List Item
repeated_items = implicit ∷ Fraction 1 (Some 1) ∷ Fraction 1 (Some 1) ∷ Fraction 1 (Some 1) ∷ Fraction 1 (Some 1) ∷ Fraction 1 (Some 1) ∷ Fraction 2 (Some 1) ∷ []

abbrev pub unison : Entry
unison = entry 0 (fin false 1 (pos 0)) (pos 0)

abbrev pub repeated_list : List Entry
repeated_list = unison ∷ unison ∷ unison ∷ unison ∷ unison ∷ unison ∷ entry 6 two_f (pos 0) ∷ []

-- "Its start is the first entry not below the target": the ascending degree is the first of the equal ones
abbrev pub repeated_answer : Approximation
repeated_answer = approximation (fin false 1 (pos 0)) (pos 0)

-- ---- items 9/8, 5/4 and 2/1: a degree below place 0
abbrev pub three : List Item
three = implicit ∷ Fraction 9 (Some 8) ∷ Fraction 5 (Some 4) ∷ Fraction 2 (Some 1) ∷ []

-- 0.625: one period down and 5/4 up ("Truncating, not flooring" is ruled out: it would be 9/8)
abbrev pub below_pitch : Float
below_pitch = fin false 5 (negsuc 2)
