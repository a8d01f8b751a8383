-- What the functions of this crate say is a value or one of document 01's numbers, so a result is 0 exactly where a value is stored
-- (`zero_accepted` of telbijan_answers). Assumes nothing.
use mathlib.Core.Bool.{◌&&◌}
use Prim.Native.Nat.{ℕ}
use native.Mathlib.Omega.{arith}
use lib.Dec.{eqb}
use lib.IntN.{ℤ, pos, ◌+ℤ◌, ◌-ℤ◌}
use lib.Signed.{le_z}
use lib.Ieee.{Float, binary64, mul, div, lt, le, of_int}
use Rattle.base.specs.Integers.{in_i32, held}
use Rattle.base.specs.Said.{Numbered}
use Rattle.base.proofs.Said.{numbered_pick, numbered_then}
use Rattle.key.specs.Keys.{key, key_after, steps_between, midi_of}
use Rattle.key.specs.declared.PianoKey.{PianoKey}
use Rattle.math.specs.Division.{quotient_of, remainder_of, division_of}
pub use Rattle.pitch.proofs.Numbers.{exp_numbered, log_numbered, from_octaves_numbered, as_octaves_numbered, as_semitones_numbered, as_cents_numbered, inverse_numbered}
use Rattle.floats.specs.Floats.{floor, count, least_i32, past_i32}
use Rattle.floats.specs.Ranges.{in_search, negligible}
use Rattle.fraction.specs.NearestFraction.{best_for, nearest_fraction}
use Rattle.pitch.specs.Pitches.{from_hz, pitch_times, pitch_over, between_pitches}
use Rattle.pitch.proofs.Numbers.{given_numbered, both_numbered, computed_numbered, log_numbered}
use Rattle.pitch.specs.Ratios.{from_float, from_semitones, from_cents, stretched_by, deviation_from, repeated, divided_into, steps_of_size, absolute, is_negligible, order_of, total_cmp, upward, twelve_f, cents_f}

-- ---- numbers, keys and powers
pub quotient_numbered : (z : ℤ) (s : ℕ) → Numbered (quotient_of z s)
unfolding quotient_of
quotient_numbered z s = numbered_pick (eqb s 0) (Numbered.number (omega arith) (omega arith)) (Numbered.value _)

pub remainder_numbered : (z : ℤ) (s : ℕ) → Numbered (remainder_of z s)
unfolding remainder_of
remainder_numbered z s = numbered_pick (eqb s 0) (Numbered.number (omega arith) (omega arith)) (Numbered.value _)

pub division_numbered : (z : ℤ) (s : ℕ) → Numbered (division_of z s)
unfolding division_of
division_numbered z s = numbered_pick (eqb s 0) (Numbered.number (omega arith) (omega arith)) (Numbered.value _)

pub held_numbered : (z : ℤ) → Numbered (held z)
unfolding held
held_numbered z = numbered_pick (in_i32 z) (Numbered.value _) (Numbered.number (omega arith) (omega arith))

pub key_after_numbered : (k : PianoKey) (steps : ℤ) → Numbered (key_after k steps)
key_after_numbered k steps = numbered_then (held_numbered (k.0 +ℤ steps)) (λ z. Numbered.value (key z))

pub steps_between_numbered : (k other : PianoKey) → Numbered (steps_between k other)
steps_between_numbered k other = held_numbered (other.0 -ℤ k.0)

pub midi_numbered : (k : PianoKey) → Numbered (midi_of k)
unfolding midi_of
midi_numbered k = numbered_pick (le_z (pos 0) k.0 && le_z k.0 (pos 127)) (Numbered.value _) (Numbered.number (omega arith) (omega arith))

-- ---- ratios and pitches
pub from_float_numbered : (x : Float) → Numbered (from_float x)
from_float_numbered x = given_numbered x (Numbered.value x)

pub from_semitones_numbered : (x : Float) → Numbered (from_semitones x)
from_semitones_numbered x = from_octaves_numbered (div binary64 x twelve_f)

pub from_cents_numbered : (x : Float) → Numbered (from_cents x)
from_cents_numbered x = from_octaves_numbered (div binary64 x cents_f)

pub stretched_by_numbered : (x y : Float) → Numbered (stretched_by x y)
stretched_by_numbered x y = both_numbered x y (computed_numbered (mul binary64 x y))

pub deviation_from_numbered : (x y : Float) → Numbered (deviation_from x y)
deviation_from_numbered x y = both_numbered x y (computed_numbered (div binary64 x y))

pub repeated_numbered : (x y : Float) → Numbered (repeated x y)
repeated_numbered x y = numbered_then (as_octaves_numbered x) (λ o. from_octaves_numbered (mul binary64 o y))

pub divided_into_numbered : (x y : Float) → Numbered (divided_into x y)
divided_into_numbered x y = numbered_then (as_octaves_numbered x) (λ o. from_octaves_numbered (div binary64 o y))

pub steps_of_size_numbered : (x y : Float) → Numbered (steps_of_size x y)
steps_of_size_numbered x y = numbered_then (as_octaves_numbered x) (λ o. numbered_then (as_octaves_numbered y) (λ s. Numbered.value _))

pub absolute_numbered : (x : Float) → Numbered (absolute x)
absolute_numbered x = given_numbered x (computed_numbered (upward x))

pub is_negligible_numbered : (x : Float) → Numbered (is_negligible x)
is_negligible_numbered x = given_numbered x (Numbered.value (negligible x))

pub total_cmp_numbered : (x y : Float) → Numbered (total_cmp x y)
total_cmp_numbered x y = both_numbered x y (Numbered.value (order_of x y))

pub from_hz_numbered : (x : Float) → Numbered (from_hz x)
from_hz_numbered x = given_numbered x (Numbered.value x)

pub pitch_times_numbered : (x y : Float) → Numbered (pitch_times x y)
pitch_times_numbered x y = both_numbered x y (computed_numbered (mul binary64 x y))

pub pitch_over_numbered : (x y : Float) → Numbered (pitch_over x y)
pitch_over_numbered x y = both_numbered x y (computed_numbered (div binary64 x y))

pub between_pitches_numbered : (x y : Float) → Numbered (between_pitches x y)
between_pitches_numbered x y = both_numbered x y (computed_numbered (div binary64 y x))

count_numbered : (q : Float) → Numbered (count q)
count_numbered q = numbered_pick (le least_i32 q && lt q past_i32) (Numbered.value _) (Numbered.number (omega arith) (omega arith))

pub nearest_fraction_numbered : (x : Float) (limit : ℕ) → Numbered (nearest_fraction x limit)
unfolding nearest_fraction
nearest_fraction_numbered x limit =
    numbered_pick (in_search x)
    (numbered_then (log_numbered x) (λ o. numbered_then (count_numbered (floor o)) (λ octaves. numbered_then (from_octaves_numbered (of_int binary64 octaves)) (λ p. numbered_then (computed_numbered (div binary64 x p)) (λ target. Numbered.value (best_for target octaves limit))))))
    (Numbered.number (omega arith) (omega arith))
