-- The walk of `nearest_fraction`: document 01, "Scales and searches": it "follows its loop: odd limit 0 answers 0/0 with
-- infinite deviation", and 10 outside 2^-64..2^64. The Rust's `NearestFraction::for_ratio`, step by step. Assumes nothing.
use Rattle.std.specs.Prelude.{◌≡◌, Bool, true, false, ◌&&◌, ℕ, zero, suc, ◌+◌, ◌≤◌, ltb, leb, ℤ, pos, Float}
use Rattle.std.specs.declared.ops.ControlFlow.{ControlFlow}
use Rattle.std.specs.declared.ops.ControlFlow.TheVariants.{Continue, Break}
use Rattle.std.specs.Float.{inf, binary64}
use Rattle.std.specs.Float.Ieee.{div, lt, of_int}
use Rattle.base.specs.Numbers.{unusable}
use Rattle.base.specs.Said.{Said, gives, refuses, pick, and_then}
use Rattle.floats.specs.Floats.{floor, count}
use Rattle.floats.specs.Ranges.{in_reach, in_search}
use Rattle.explog.specs.Rules.{L}
use Rattle.math.specs.OddPart.{odd_part}
use Rattle.pitch.specs.Given.{computed}
use Rattle.pitch.specs.Ratios.{from_octaves, upward}
use Rattle.fraction.specs.declared.Fraction.{Fraction}
use Rattle.fraction.specs.declared.NearestFraction.{NearestFraction}
use Rattle.fraction.specs.declared.Walk.{Walk}

abbrev pub fraction : ℕ → ℕ → Fraction
fraction numer denom = record { numer = numer; denom = denom }

abbrev pub walk_of : Fraction → Fraction → Fraction → Float → Walk
walk_of low high best deviation = record { low = low; high = high; best = best; deviation = deviation }

-- between 0/1 and 1/0, with 0/0 as the best and an infinite deviation
abbrev pub widest : Walk
widest = walk_of (fraction 0 1) (fraction 1 0) (fraction 0 0) (inf false)

-- a fraction as a float
abbrev pub float_of : Fraction → Float
float_of f = div binary64 (of_int binary64 (pos f.numer)) (of_int binary64 (pos f.denom))

-- both odd parts are over the limit: the walk ends
unfoldable pub both_over : Fraction → ℕ → Bool
both_over f limit = ltb limit (odd_part f.numer) && ltb limit (odd_part f.denom)

-- both are within it: the fraction counts
unfoldable pub both_within : Fraction → ℕ → Bool
both_within f limit = leb (odd_part f.numer) limit && leb (odd_part f.denom) limit

-- the fraction in the middle becomes the best, where it counts and is nearer
unfoldable pub improved : Walk → Fraction → Float → ℕ → Walk
improved w mid deviation limit =
    pick (both_within mid limit && lt (upward deviation) (upward w.deviation)) (walk_of w.low w.high mid deviation) w

-- past the fraction in the middle: below it, above it, or there
unfoldable pub passed : Walk → Fraction → Float → (ControlFlow Walk Walk)
passed w mid target =
    pick (lt target (float_of mid)) (Continue (walk_of w.low mid w.best w.deviation))
    (pick (lt (float_of mid) target) (Continue (walk_of mid w.high w.best w.deviation)) (Break w))

-- one turn at the fraction in the middle
unfoldable pub turn_at : Walk → Fraction → Float → ℕ → (ControlFlow Walk Walk)
turn_at w mid target limit =
    pick (both_over mid limit) (Break w) (passed (improved w mid (div binary64 target (float_of mid)) limit) mid target)

-- one turn: the fraction in the middle adds numerators and denominators; the walk ends where one of them leaves 16 bits
unfoldable pub turn_of : Walk → Float → ℕ → (ControlFlow Walk Walk)
turn_of w target limit =
    let numer = w.low.numer + w.high.numer in
    let denom = w.low.denom + w.high.denom in
    pick (ltb 65535 numer) (Break w) (pick (ltb 65535 denom) (Break w) (turn_at w (fraction numer denom) target limit))

-- what comes of a turn: the end, or the rest of the walk
abbrev pub end_of : (ControlFlow Walk Walk) → (Walk → Walk) → Walk
end_of (Continue w) rest = rest w
end_of (Break w) rest = w

-- turns to the end, at most so many
unfoldable pub walked : ℕ → Walk → Float → ℕ → Walk
walked zero w target limit = w
walked (suc k) w target limit = end_of (turn_of w target limit) (λ next. walked k next target limit)

-- more turns than a walk over fractions of 16 bits can have: `walk_ends` of proofs/WalkEnds.antt
abbrev pub turns : ℕ
turns = 262144

-- the best of the walk towards a target
unfoldable pub best_for : Float → ℤ → ℕ → NearestFraction
best_for target octaves limit =
    let w = walked turns widest target limit in
    record { numer = w.best.numer; denom = w.best.denom; deviation = record { 0 = w.deviation }; num_octaves = octaves }

-- the ratio over a power of two, and the best fraction for what is left
abbrev pub over_power : Float → ℕ → ℤ → Float → Said NearestFraction
over_power r limit octaves power = and_then (computed (div binary64 r power)) (λ target. gives (best_for target octaves limit))

-- the ratio without so many octaves
abbrev pub without_octaves : Float → ℕ → ℤ → Said NearestFraction
without_octaves r limit octaves = and_then (from_octaves (of_int binary64 octaves)) (over_power r limit octaves)

-- its whole octaves: the floor of its logarithm
abbrev pub without_whole : Float → ℕ → Float → Said NearestFraction
without_whole r limit octaves = and_then (count (floor octaves)) (without_octaves r limit)

abbrev pub reduced_nearest : Float → ℕ → Said NearestFraction
reduced_nearest r limit = and_then (L r) (without_whole r limit)

-- "10 for a ratio outside 2^-64..2^64 and else follows its loop"
unfoldable pub nearest_fraction : Float → ℕ → Said NearestFraction
nearest_fraction r limit = pick (in_search r) (reduced_nearest r limit) (refuses unusable 0)

-- 0/0 with infinite deviation, and the octaves that were taken off
abbrev pub no_fraction : ℤ → NearestFraction
no_fraction octaves = record { numer = 0; denom = 0; deviation = record { 0 = inf false }; num_octaves = octaves }

-- a fraction of 16 bits, above zero and not infinite
pub record Proper (f : Fraction) : Type 0 where
  pub numer_some : 1 ≤ f.numer
  pub denom_some : 1 ≤ f.denom
  pub numer_held : f.numer ≤ 65535
  pub denom_held : f.denom ≤ 65535

-- what is answered with any other limit: a fraction within it, with a deviation in the range
pub record InLimit (limit : ℕ) (q : NearestFraction) : Type 0 where
  pub proper : Proper (fraction q.numer q.denom)
  pub within : both_within (fraction q.numer q.denom) limit ≡ true
  pub deviation : in_reach q.deviation.0 ≡ true
