-- For each input, refused ones too, a function of the interface has one possible result, and each value behind a pointer and each
-- lent part of memory one possible state after it: document 01, "What the contracts settle". A line for each. Assumes nothing.
use mathlib.Core.Path.{◌≡◌, sym, ap, ◌∙◌}
use Prim.Native.Nat.{ℕ}
use lib.IntN.{ℤ}
use lib.Ieee.{Float}
use mathlib.Core.Bool.{Bool}
use Rattle.base.specs.Said.{Said, One}
use Rattle.base.proofs.Said.{one_result}
use Rattle.math.specs.Division.{quotient_of, remainder_of, division_of}
use Rattle.math.specs.OddPart.{odd_part}
use Rattle.telbijan_answers.specs.Interface.{result, kept, field_of}
use Rattle.key.specs.Keys.{key, key_after, steps_between, midi_of}
use Rattle.explog.specs.Rules.{E, L}
use Rattle.fraction.specs.NearestFraction.{nearest_fraction}
use Rattle.pitch.specs.Pitches.{from_hz, pitch_times, pitch_over, between_pitches}
use Rattle.pitch.specs.Ratios.{from_float, from_octaves, from_semitones, from_cents, as_octaves, as_semitones, as_cents, stretched_by, deviation_from, repeated, divided_into, steps_of_size, inverse, absolute, is_negligible, total_cmp}
use Rattle.best.specs.declared.BestFraction.{BestFraction}
use Rattle.best.proofs.Theorems.{said_one}
use Rattle.telbijan_numbers.specs.Calls.{RatioBestFraction}
use Rattle.telbijan_numbers.specs.Orders.{order_number}

-- ---- numbers, keys and powers
pub i32_div_u_one : (numer : ℤ) (denom : ℕ) (quotient : ℤ) → One (λ r. r) (result (quotient_of numer denom)) × One (λ r. r) (kept (quotient_of numer denom) quotient)
i32_div_u_one numer denom quotient = (one_result (result (quotient_of numer denom)), one_result (kept (quotient_of numer denom) quotient))

pub i32_rem_u_one : (numer : ℤ) (denom : ℕ) (remainder : ℕ) → One (λ r. r) (result (remainder_of numer denom)) × One (λ r. r) (kept (remainder_of numer denom) remainder)
i32_rem_u_one numer denom remainder = (one_result (result (remainder_of numer denom)), one_result (kept (remainder_of numer denom) remainder))

pub i32_dr_u_one : (numer : ℤ) (denom : ℕ) (quotient : ℤ) (remainder : ℕ) → One (λ r. r) (result (division_of numer denom)) × (One (λ r. r) (kept (field_of (λ p. p.quotient) (division_of numer denom)) quotient) × One (λ r. r) (kept (field_of (λ p. p.remainder) (division_of numer denom)) remainder))
i32_dr_u_one numer denom quotient remainder = (one_result (result (division_of numer denom)), (one_result (kept (field_of (λ p. p.quotient) (division_of numer denom)) quotient), one_result (kept (field_of (λ p. p.remainder) (division_of numer denom)) remainder)))

pub odd_factors_u16_one : (number : ℕ) → One (λ r. r) (odd_part number)
odd_factors_u16_one number = one_result (odd_part number)

pub checked_midi_number_one : (number : ℤ) (midi : ℕ) → One (λ r. r) (result (midi_of (key number))) × One (λ r. r) (kept (midi_of (key number)) midi)
checked_midi_number_one number midi = (one_result (result (midi_of (key number))), one_result (kept (midi_of (key number)) midi))

pub num_keys_before_one : (number : ℤ) (other : ℤ) (steps : ℤ) → One (λ r. r) (result (steps_between (key number) (key other))) × One (λ r. r) (kept (steps_between (key number) (key other)) steps)
num_keys_before_one number other steps = (one_result (result (steps_between (key number) (key other))), one_result (kept (steps_between (key number) (key other)) steps))

pub plus_steps_one : (number : ℤ) (steps : ℤ) (after : ℤ) → One (λ r. r) (result (key_after (key number) steps)) × One (λ r. r) (kept (field_of (λ k. k.0) (key_after (key number) steps)) after)
plus_steps_one number steps after = (one_result (result (key_after (key number) steps)), one_result (kept (field_of (λ k. k.0) (key_after (key number) steps)) after))

pub exp2_one : (x : Float) (power : Float) → One (λ r. r) (result (E x)) × One (λ r. r) (kept (E x) power)
exp2_one x power = (one_result (result (E x)), one_result (kept (E x) power))

pub log2_one : (x : Float) (logarithm : Float) → One (λ r. r) (result (L x)) × One (λ r. r) (kept (L x) logarithm)
log2_one x logarithm = (one_result (result (L x)), one_result (kept (L x) logarithm))

-- ---- ratios and pitches
pub ratio_from_float_one : (value : Float) (ratio : Float) → One (λ r. r) (result (from_float value)) × One (λ r. r) (kept (from_float value) ratio)
ratio_from_float_one value ratio = (one_result (result (from_float value)), one_result (kept (from_float value) ratio))

pub ratio_from_octaves_one : (octaves : Float) (ratio : Float) → One (λ r. r) (result (from_octaves octaves)) × One (λ r. r) (kept (from_octaves octaves) ratio)
ratio_from_octaves_one octaves ratio = (one_result (result (from_octaves octaves)), one_result (kept (from_octaves octaves) ratio))

pub ratio_from_semitones_one : (semitones : Float) (ratio : Float) → One (λ r. r) (result (from_semitones semitones)) × One (λ r. r) (kept (from_semitones semitones) ratio)
ratio_from_semitones_one semitones ratio = (one_result (result (from_semitones semitones)), one_result (kept (from_semitones semitones) ratio))

pub ratio_from_cents_one : (cents : Float) (ratio : Float) → One (λ r. r) (result (from_cents cents)) × One (λ r. r) (kept (from_cents cents) ratio)
ratio_from_cents_one cents ratio = (one_result (result (from_cents cents)), one_result (kept (from_cents cents) ratio))

pub ratio_between_pitches_one : (first : Float) (second : Float) (ratio : Float) → One (λ r. r) (result (between_pitches first second)) × One (λ r. r) (kept (between_pitches first second) ratio)
ratio_between_pitches_one first second ratio = (one_result (result (between_pitches first second)), one_result (kept (between_pitches first second) ratio))

pub ratio_stretched_by_one : (value : Float) (stretch : Float) (ratio : Float) → One (λ r. r) (result (stretched_by value stretch)) × One (λ r. r) (kept (stretched_by value stretch) ratio)
ratio_stretched_by_one value stretch ratio = (one_result (result (stretched_by value stretch)), one_result (kept (stretched_by value stretch) ratio))

pub ratio_deviation_from_one : (value : Float) (reference : Float) (ratio : Float) → One (λ r. r) (result (deviation_from value reference)) × One (λ r. r) (kept (deviation_from value reference) ratio)
ratio_deviation_from_one value reference ratio = (one_result (result (deviation_from value reference)), one_result (kept (deviation_from value reference) ratio))

pub ratio_repeated_one : (value : Float) (times : Float) (ratio : Float) → One (λ r. r) (result (repeated value times)) × One (λ r. r) (kept (repeated value times) ratio)
ratio_repeated_one value times ratio = (one_result (result (repeated value times)), one_result (kept (repeated value times) ratio))

pub ratio_divided_into_equal_steps_one : (value : Float) (steps : Float) (ratio : Float) → One (λ r. r) (result (divided_into value steps)) × One (λ r. r) (kept (divided_into value steps) ratio)
ratio_divided_into_equal_steps_one value steps ratio = (one_result (result (divided_into value steps)), one_result (kept (divided_into value steps) ratio))

pub ratio_num_equal_steps_of_size_one : (value : Float) (step : Float) (count : Float) → One (λ r. r) (result (steps_of_size value step)) × One (λ r. r) (kept (steps_of_size value step) count)
ratio_num_equal_steps_of_size_one value step count = (one_result (result (steps_of_size value step)), one_result (kept (steps_of_size value step) count))

pub ratio_as_octaves_one : (value : Float) (octaves : Float) → One (λ r. r) (result (as_octaves value)) × One (λ r. r) (kept (as_octaves value) octaves)
ratio_as_octaves_one value octaves = (one_result (result (as_octaves value)), one_result (kept (as_octaves value) octaves))

pub ratio_as_semitones_one : (value : Float) (semitones : Float) → One (λ r. r) (result (as_semitones value)) × One (λ r. r) (kept (as_semitones value) semitones)
ratio_as_semitones_one value semitones = (one_result (result (as_semitones value)), one_result (kept (as_semitones value) semitones))

pub ratio_as_cents_one : (value : Float) (cents : Float) → One (λ r. r) (result (as_cents value)) × One (λ r. r) (kept (as_cents value) cents)
ratio_as_cents_one value cents = (one_result (result (as_cents value)), one_result (kept (as_cents value) cents))

pub ratio_inv_one : (value : Float) (ratio : Float) → One (λ r. r) (result (inverse value)) × One (λ r. r) (kept (inverse value) ratio)
ratio_inv_one value ratio = (one_result (result (inverse value)), one_result (kept (inverse value) ratio))

pub ratio_abs_one : (value : Float) (ratio : Float) → One (λ r. r) (result (absolute value)) × One (λ r. r) (kept (absolute value) ratio)
ratio_abs_one value ratio = (one_result (result (absolute value)), one_result (kept (absolute value) ratio))

pub pitch_from_hz_one : (value : Float) (hz : Float) → One (λ r. r) (result (from_hz value)) × One (λ r. r) (kept (from_hz value) hz)
pitch_from_hz_one value hz = (one_result (result (from_hz value)), one_result (kept (from_hz value) hz))

pub pitch_times_ratio_one : (value : Float) (ratio : Float) (hz : Float) → One (λ r. r) (result (pitch_times value ratio)) × One (λ r. r) (kept (pitch_times value ratio) hz)
pitch_times_ratio_one value ratio hz = (one_result (result (pitch_times value ratio)), one_result (kept (pitch_times value ratio) hz))

pub pitch_over_ratio_one : (value : Float) (ratio : Float) (hz : Float) → One (λ r. r) (result (pitch_over value ratio)) × One (λ r. r) (kept (pitch_over value ratio) hz)
pitch_over_ratio_one value ratio hz = (one_result (result (pitch_over value ratio)), one_result (kept (pitch_over value ratio) hz))

pub ratio_is_negligible_one : (value : Float) (negligible : Bool) → One (λ r. r) (result (is_negligible value)) × One (λ r. r) (kept (is_negligible value) negligible)
ratio_is_negligible_one value negligible = (one_result (result (is_negligible value)), one_result (kept (is_negligible value) negligible))

pub ratio_total_cmp_one : (value : Float) (other : Float) (order : ℤ) → One (λ r. r) (result (total_cmp value other)) × One (λ r. r) (kept (field_of order_number (total_cmp value other)) order)
ratio_total_cmp_one value other order = (one_result (result (total_cmp value other)), one_result (kept (field_of order_number (total_cmp value other)) order))

pub ratio_nearest_fraction_one : (value : Float) (limit : ℕ) (numer : ℕ) (denom : ℕ) (deviation : Float) (octaves : ℤ) → One (λ r. r) (result (nearest_fraction value limit)) × (One (λ r. r) (kept (field_of (λ f. f.numer) (nearest_fraction value limit)) numer) × (One (λ r. r) (kept (field_of (λ f. f.denom) (nearest_fraction value limit)) denom) × (One (λ r. r) (kept (field_of (λ f. f.deviation.0) (nearest_fraction value limit)) deviation) × One (λ r. r) (kept (field_of (λ f. f.num_octaves) (nearest_fraction value limit)) octaves))))
ratio_nearest_fraction_one value limit numer denom deviation octaves = (one_result (result (nearest_fraction value limit)), (one_result (kept (field_of (λ f. f.numer) (nearest_fraction value limit)) numer), (one_result (kept (field_of (λ f. f.denom) (nearest_fraction value limit)) denom), (one_result (kept (field_of (λ f. f.deviation.0) (nearest_fraction value limit)) deviation), one_result (kept (field_of (λ f. f.num_octaves) (nearest_fraction value limit)) octaves)))))

-- what is said is one, and with it all that is stored
pub ratio_best_fraction_one : (value : Float) (limit oldNumer oldDenom : ℕ) (oldDeviation : Float)
    (r numer denom : ℕ) (deviation : Float) (r' numer' denom' : ℕ) (deviation' : Float) →
    RatioBestFraction value limit oldNumer oldDenom oldDeviation r numer denom deviation →
    RatioBestFraction value limit oldNumer oldDenom oldDeviation r' numer' denom' deviation' →
    (r ≡ r') × (numer ≡ numer') × (denom ≡ denom') × (deviation ≡ deviation')
ratio_best_fraction_one value limit oldNumer oldDenom oldDeviation r numer denom deviation r' numer' denom' deviation'
    (said, best, a, b, c, d) (said', best', a', b', c', d') =
    let e : said ≡ said' = said_one best best' in (
      a ∙ ap (λ (s : Said BestFraction). result s) e ∙ sym a',
      b ∙ ap (λ (s : Said BestFraction). kept (field_of (λ f. f.numer) s) oldNumer) e ∙ sym b',
      c ∙ ap (λ (s : Said BestFraction). kept (field_of (λ f. f.denom) s) oldDenom) e ∙ sym c',
      d ∙ ap (λ (s : Said BestFraction). kept (field_of (λ f. f.deviation.0) s) oldDeviation) e ∙ sym d',
    )
