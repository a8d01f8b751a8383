-- What the code goes through: the pushes one by one, and its look at the last item. Assumes nothing.
use Rattle.std.specs.Prelude.{Float, ◌≡◌, ℕ, zero, suc, ◌≤◌, true, List, [], ◌∷◌, Option, None, Some}
use Rattle.std.specs.Float.{binary64}
use Rattle.std.specs.Float.Ieee.{fits}
use Rattle.base.specs.Numbers.{beyond_reach}
use Rattle.base.specs.Said.{Said, gives, refuses, pick, and_then}
use Rattle.floats.specs.Ranges.{in_reach}
use Rattle.scl.specs.Table.{implicit}
use Rattle.scl.specs.declared.Item.{Item}
use Rattle.scl_tables.specs.Build.{last_of, is_beyond}
use Rattle.scl_build.specs.Builder.{Built, after_one}
use Rattle.generate.specs.Generated.{items_from}
use Rattle.harmonics.specs.Segment.{steps_of, segment_count}
use Rattle.harmonics.specs.Harmonics.{item_at}
use Rattle.harmonics.specs.declared.segment.SegmentType.{SegmentType}

-- the builder and its table after the push of what is said
abbrev pub after_said : Built → Said Item → Built
after_said s (gives i) = after_one s i
after_said s (refuses number detail) = s

-- the items that are said, from place k on
abbrev pub with_said : Said Item → List Item → List Item
with_said (gives i) is = i ∷ is
with_said (refuses number detail) is = is

unfoldable pub said_from : (ℕ → Said Item) → ℕ → ℕ → List Item
said_from f k zero = []
said_from f k (suc n) = with_said (f k) (said_from f (suc k) n)

-- a segment without divisions has so many items; an equal step is a ratio
abbrev pub StepsReach : ℕ → ℕ → (Option Float) → Type 0
StepsReach size n None = n ≤ size
StepsReach size n (Some step) = (in_reach step ≡ true) × (fits binary64 step ≡ true)

-- the steps where all items are said and the last one is within reach
unfoldable pub looked : SegmentType → ℕ → ℕ → ℕ → (Option Float) → Said (Option Float)
looked type start size n steps =
    and_then (items_from (item_at type start size steps) 1 n) (λ is. pick (is_beyond n (last_of (implicit ∷ is))) (refuses beyond_reach 0) (gives steps))

abbrev pub planned : SegmentType → ℕ → ℕ → (Option ℕ) → Said (Option Float)
planned type start size divisions = and_then (steps_of start size divisions) (λ steps. looked type start size (segment_count size divisions) steps)
