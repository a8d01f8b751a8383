-- "stable order": document 01, "Scales and searches"; the Rust's `sort_by` with `total_cmp` of the ratios. Assumes nothing.
use Rattle.std.specs.Prelude.{Bool, List, [], ◌∷◌}
use Rattle.std.specs.Float.Ieee.{lt}
use Rattle.base.specs.Said.{pick}
use Rattle.sorting.specs.Entries.{Entry}

-- x comes strictly before y: by ratio alone
abbrev pub lower : Entry → Entry → Bool
lower x y = lt x.ratio y.ratio

-- x goes in front of the first that it is not after
abbrev pub insert_by : {A : Type 0} → (A → A → Bool) → A → List A → List A
insert_by b x [] = x ∷ []
insert_by b x (y ∷ ys) = pick (b y x) (y ∷ insert_by b x ys) (x ∷ y ∷ ys)

-- THE stable order
abbrev pub sort_by : {A : Type 0} → (A → A → Bool) → List A → List A
sort_by b [] = []
sort_by b (x ∷ xs) = insert_by b x (sort_by b xs)
