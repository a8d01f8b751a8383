-- Samples of the best fraction, which would object to another definition. Document 02, W14. Assumes nothing.
use mathlib.Core.Path.{◌≡◌, refl}
use mathlib.Core.Bool.{false}
use mathlib.Core.Logic.{◌⊎◌, inl, inr}
use Prim.Native.Nat.{ℕ, ◌^◌, ◌≤◌, ◌<◌}
use native.Mathlib.Nat.{not-le_of_lt}
use lib.Dec.{lit≤, lit<}
use lib.IntN.{pos, negsuc}
use lib.Ieee.{Float, fin, binary64, round, size, div, of_int}
use Rattle.floats.specs.Units.{units_of}
use Rattle.math.specs.OddPart.{halved_while_even}
use Rattle.best.specs.Answers.{deviation_of}
use Rattle.best.specs.Best.{Allowed, NoFurther, Best}

-- ---- "from 1 to 65,535 whose odd parts are within the limit"
pub ends_allowed : Allowed 1 1 × Allowed 65535 65535 × Allowed 3 49152
unfolding halved_while_even
ends_allowed = (
  record { some = lit≤ tt; held = lit≤ tt; within = lit≤ tt },
  record { some = lit≤ tt; held = lit≤ tt; within = lit≤ tt },
  record { some = lit≤ tt; held = lit≤ tt; within = lit≤ tt },
)

pub none_else : (Allowed 65535 0 → ⊥) × (Allowed 65535 65536 → ⊥) × (Allowed 3 40 → ⊥) × (Allowed 8 9 → ⊥)
unfolding halved_while_even
none_else = (
  λ a. not-le_of_lt (lit< tt) a.some,
  λ a. not-le_of_lt (lit< tt) a.held,
  λ a. not-le_of_lt (lit< tt) a.within,
  λ a. not-le_of_lt (lit< tt) a.within,
)

-- ---- 1.575, by its digits; the walk of `nearest_fraction` answers 8 / 5 for it, and 14 / 9 is nearer
abbrev x1575 : Float
x1575 = fin false 7093169413108531 (negsuc 51)

pub is_1575 : x1575 ≡ round binary64 false 1575 1000
unfolding round size
is_1575 = refl

pub not_eight_fifths : Best (units_of x1575) (2 ^ 1074) 9 8 5 → ⊥
unfolding units_of halved_while_even
not_eight_fifths b =
    not-le_of_lt (lit< tt) (b.nearest 14 9 (record { some = lit≤ tt; held = lit≤ tt; within = lit≤ tt })
    (record { some = lit≤ tt; held = lit≤ tt; within = lit≤ tt }))

-- ---- the deviation is the ratio over the fraction, rounded twice: 1.36 over 4 / 3 is 1.0200000000000002, and not 1.02
abbrev x136 : Float
x136 = fin false 6124895493223875 (negsuc 51)

pub is_136 : x136 ≡ round binary64 false 136 100
unfolding round size
is_136 = refl

thirds : div binary64 (of_int binary64 (pos 4)) (of_int binary64 (pos 3)) ≡ fin false 6004799503160661 (negsuc 51)
unfolding div of_int round size
thirds = refl

over_thirds : div binary64 x136 (fin false 6004799503160661 (negsuc 51)) ≡ fin false 4593671619917907 (negsuc 51)
unfolding div round size
over_thirds = refl

pub from_four_thirds : deviation_of x136 4 3 ≡ fin false 4593671619917907 (negsuc 51)
from_four_thirds = rw thirds over_thirds

-- ---- "closest in ratio", not in difference: of 2.9, 4 is nearer than 2; of 2, 1 and 4 are as near
pub not_two : Best 29 10 1 2 1 → ⊥
unfolding halved_while_even
not_two b =
    not-le_of_lt (lit< tt) (b.nearest 4 1 (record { some = lit≤ tt; held = lit≤ tt; within = lit≤ tt })
    (record { some = lit≤ tt; held = lit≤ tt; within = lit≤ tt }))

pub as_near : NoFurther 2 1 1 1 4 1 × NoFurther 2 1 4 1 1 1
as_near = (lit≤ tt, lit≤ tt)

-- ---- "ties go to the smaller denominator": 1 is 1 / 1, not 2 / 2
pub not_two_halves : Best 1 1 65535 2 2 → ⊥
unfolding halved_while_even
not_two_halves b =
    let one : Allowed 65535 1 = record { some = lit≤ tt; held = lit≤ tt; within = lit≤ tt } in
    go (b.ties 1 1 one one (lit≤ tt))
  where
    go : (2 < 1) ⊎ ((◌≡◌ {A = ℕ} 2 1) × (2 ≤ 1)) → ⊥
    go (inl h) = not-le_of_lt h (lit≤ tt)
    go (inr (_, h)) = not-le_of_lt (lit< tt) h
