-- Each call of this crate has one result. Assumes nothing.
use Rattle.std.specs.declared.cmp.Ordering.{Ordering}
use mathlib.Core.Bool.{Bool}
use lib.Ieee.{Float}
use Rattle.base.specs.Said.{Said, One, outcome}
use Rattle.base.proofs.Said.{one_result, one_said, one_read}
use Rattle.floats.specs.Floats.{one_f}
use Rattle.floats.proofs.Theorems.{float_one}
use Rattle.pitch.specs.Answers.{says_ratio, says_pitch}
use Rattle.pitch.specs.Given.{computed}
use Rattle.pitch.specs.Pitches.{from_hz, as_hz, pitch_times, pitch_over, between_pitches}
use Rattle.pitch.specs.Ratios.{two_f, upward, from_float, from_octaves, from_semitones, from_cents, as_float, as_octaves, as_semitones, as_cents, stretched_by, deviation_from, repeated, divided_into, steps_of_size, inverse, absolute, is_negligible, total_cmp}
use Rattle.pitch.specs.declared.Ratio.{Ratio}

pub ratio_one : (s : Said Float) → One says_ratio s
ratio_one = one_read (λ r. r.0) (λ a b e i. record { 0 = e i })

pub pitch_one : (s : Said Float) → One says_pitch s
pitch_one = one_read (λ p. p.0) (λ a b e i. record { 0 = e i })

pub bool_one : (s : Said Bool) → One outcome s
bool_one = one_said

pub order_one : (s : Said Ordering) → One outcome s
order_one = one_said

-- ---- two results of one input are equal
pub checked_ratio_one : (x : Float) → One says_ratio (computed x)
checked_ratio_one x = ratio_one (computed x)

pub checked_pitch_one : (x : Float) → One says_pitch (computed x)
checked_pitch_one x = pitch_one (computed x)

pub upwards_one : (x : Float) → One (λ r. r) (upward x)
upwards_one x = one_result (upward x)

pub octave_one : One {A = Ratio} (λ r. r) (record { 0 = two_f })
octave_one = one_result (record { 0 = two_f })

pub unison_one : One {A = Ratio} (λ r. r) (record { 0 = one_f })
unison_one = one_result (record { 0 = one_f })

pub from_hz_one : (hz : Float) → One says_pitch (from_hz hz)
from_hz_one hz = pitch_one (from_hz hz)

pub as_hz_one : (hz : Float) → One outcome (as_hz hz)
as_hz_one hz = float_one (as_hz hz)

pub times_one : (hz r : Float) → One says_pitch (pitch_times hz r)
times_one hz r = pitch_one (pitch_times hz r)

pub over_one : (hz r : Float) → One says_pitch (pitch_over hz r)
over_one hz r = pitch_one (pitch_over hz r)

pub from_float_one : (x : Float) → One says_ratio (from_float x)
from_float_one x = ratio_one (from_float x)

pub from_octaves_one : (x : Float) → One says_ratio (from_octaves x)
from_octaves_one x = ratio_one (from_octaves x)

pub from_semitones_one : (x : Float) → One says_ratio (from_semitones x)
from_semitones_one x = ratio_one (from_semitones x)

pub from_cents_one : (x : Float) → One says_ratio (from_cents x)
from_cents_one x = ratio_one (from_cents x)

pub between_pitches_one : (a b : Float) → One says_ratio (between_pitches a b)
between_pitches_one a b = ratio_one (between_pitches a b)

pub stretched_by_one : (a b : Float) → One says_ratio (stretched_by a b)
stretched_by_one a b = ratio_one (stretched_by a b)

pub deviation_from_one : (a b : Float) → One says_ratio (deviation_from a b)
deviation_from_one a b = ratio_one (deviation_from a b)

pub repeated_one : (r n : Float) → One says_ratio (repeated r n)
repeated_one r n = ratio_one (repeated r n)

pub divided_into_equal_steps_one : (r n : Float) → One says_ratio (divided_into r n)
divided_into_equal_steps_one r n = ratio_one (divided_into r n)

pub num_equal_steps_of_size_one : (r s : Float) → One outcome (steps_of_size r s)
num_equal_steps_of_size_one r s = float_one (steps_of_size r s)

pub as_float_one : (r : Float) → One outcome (as_float r)
as_float_one r = float_one (as_float r)

pub as_octaves_one : (r : Float) → One outcome (as_octaves r)
as_octaves_one r = float_one (as_octaves r)

pub as_semitones_one : (r : Float) → One outcome (as_semitones r)
as_semitones_one r = float_one (as_semitones r)

pub as_cents_one : (r : Float) → One outcome (as_cents r)
as_cents_one r = float_one (as_cents r)

pub inv_one : (r : Float) → One says_ratio (inverse r)
inv_one r = ratio_one (inverse r)

pub abs_one : (r : Float) → One says_ratio (absolute r)
abs_one r = ratio_one (absolute r)

pub is_negligible_one : (r : Float) → One outcome (is_negligible r)
is_negligible_one r = bool_one (is_negligible r)

pub total_cmp_one : (a b : Float) → One outcome (total_cmp a b)
total_cmp_one a b = order_one (total_cmp a b)
