-- The notes of a rank-2 temperament, as the Rust's `create_rank2_temperament_scale` makes them, its f64 steps in its order with document
-- 01's E and L. Assumes nothing.
use Rattle.std.specs.Prelude.{List, [], ◌∷◌, ℕ, zero, suc, ◌-◌, leb, eqb, Float}
use Rattle.std.specs.Float.{binary64}
use Rattle.std.specs.Float.Ieee.{mul, neg, lt}
use Rattle.base.specs.Said.{Said, gives, pick, and_then}
use Rattle.floats.specs.Floats.{float, zero_f}
use Rattle.pitch.specs.Ratios.{from_cents}
use Rattle.sorting.specs.Order.{sort_by}
use Rattle.remainder.specs.Euclid.{rem_euclid}

-- `pos_range.chain(neg_range)`: 1, 2, .. up to the positive generations, then -1, -2, ..
abbrev pub generation_at : ℕ → ℕ → Float
generation_at positive i = pick (leb i positive) (float i) (neg (float (i - positive)))

-- `bounded_note`
abbrev pub bounded_at : Float → Float → ℕ → ℕ → Float
bounded_at generator period positive i = rem_euclid (mul binary64 (generation_at positive i) generator) period

-- the i-th note, by the cents of generator and period
abbrev pub note_at : Float → Float → ℕ → ℕ → Said Float
note_at generator period positive i = from_cents (bounded_at generator period positive i)

-- `pitch_values`: the period, then the notes
abbrev pub pitch_at : Float → Float → Float → ℕ → ℕ → Said Float
pitch_at ratio generator period positive i = pick (eqb i 0) (gives ratio) (note_at generator period positive i)

-- the pitch values k, k + 1, .., n of them
unfoldable pub ratios_from : (ℕ → Said Float) → ℕ → ℕ → Said (List Float)
ratios_from f k zero = gives []
ratios_from f k (suc n) = and_then (f k) (λ r. and_then (ratios_from f (suc k) n) (λ rs. gives (r ∷ rs)))

-- the highest one of some ratios above 0.0
unfoldable pub highest_of : List Float → Float
highest_of [] = zero_f
highest_of (r ∷ rs) = pick (lt (highest_of rs) r) r (highest_of rs)

-- the highest one of the pitch values k, k + 1, .., n of them
unfoldable pub highest_from : (ℕ → Said Float) → ℕ → ℕ → Said Float
highest_from f k zero = gives zero_f
highest_from f k (suc n) = and_then (f k) (λ r. and_then (highest_from f (suc k) n) (λ h. gives (pick (lt h r) r h)))

-- `sort_by(total_cmp)`: by the ratio alone
abbrev pub ascending : List Float → List Float
ascending rs = sort_by lt rs
