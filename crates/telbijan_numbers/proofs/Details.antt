-- The calls of this crate refuse with detail 0: a line for each. Assumes nothing.
use Prim.Native.Nat.{ℕ}
use lib.IntN.{ℤ}
use lib.Ieee.{Float}
use Rattle.key.specs.Keys.{key_after, steps_between, midi_of}
use Rattle.key.specs.declared.PianoKey.{PianoKey}
use Rattle.math.specs.Division.{quotient_of, remainder_of, division_of}
use Rattle.fraction.specs.NearestFraction.{nearest_fraction}
use Rattle.pitch.specs.Pitches.{from_hz, pitch_times, pitch_over, between_pitches}
use Rattle.pitch.specs.Ratios.{from_float, from_octaves, from_semitones, from_cents, as_octaves, as_semitones, stretched_by, deviation_from, inverse, repeated, divided_into, steps_of_size, absolute, is_negligible, total_cmp}
use Rattle.telbijan_answers.specs.Details.{Undetailed}
use Rattle.telbijan_answers.proofs.Details.{steps, held_undetailed, exp_undetailed, log_undetailed}

-- ---- numbers and keys; E, L and sums of 32 bits are of telbijan_answers
module _ (z : ℤ) (s : ℕ) where
  pub quotient_undetailed : Undetailed (quotient_of z s)
  unfolding quotient_of
  quotient_undetailed = search steps

  pub remainder_undetailed : Undetailed (remainder_of z s)
  unfolding remainder_of
  remainder_undetailed = search steps

  pub division_undetailed : Undetailed (division_of z s)
  unfolding division_of
  division_undetailed = search steps

pub key_after_undetailed : (k : PianoKey) (n : ℤ) → Undetailed (key_after k n)
key_after_undetailed k n = search (steps, held_undetailed)

pub steps_between_undetailed : (k other : PianoKey) → Undetailed (steps_between k other)
steps_between_undetailed k other = search held_undetailed

pub midi_undetailed : (k : PianoKey) → Undetailed (midi_of k)
unfolding midi_of
midi_undetailed k = search steps

-- ---- ratios and pitches; `as_cents` is of telbijan_answers
module _ (x : Float) where
  pub from_float_undetailed : Undetailed (from_float x)
  from_float_undetailed = search steps

  pub from_octaves_undetailed : Undetailed (from_octaves x)
  from_octaves_undetailed = search (steps, exp_undetailed)

  pub from_semitones_undetailed : Undetailed (from_semitones x)
  from_semitones_undetailed = search (steps, exp_undetailed)

  pub from_cents_undetailed : Undetailed (from_cents x)
  from_cents_undetailed = search (steps, exp_undetailed)

  pub as_octaves_undetailed : Undetailed (as_octaves x)
  as_octaves_undetailed = search (steps, log_undetailed)

  pub as_semitones_undetailed : Undetailed (as_semitones x)
  as_semitones_undetailed = search (steps, log_undetailed)

  pub inverse_undetailed : Undetailed (inverse x)
  inverse_undetailed = search steps

  pub absolute_undetailed : Undetailed (absolute x)
  absolute_undetailed = search steps

  pub is_negligible_undetailed : Undetailed (is_negligible x)
  is_negligible_undetailed = search steps

  pub from_hz_undetailed : Undetailed (from_hz x)
  from_hz_undetailed = search steps

  pub nearest_fraction_undetailed : (limit : ℕ) → Undetailed (nearest_fraction x limit)
  unfolding nearest_fraction
  nearest_fraction_undetailed limit = search (steps, exp_undetailed, log_undetailed) depth 12

  module _ (y : Float) where
    pub stretched_by_undetailed : Undetailed (stretched_by x y)
    stretched_by_undetailed = search steps

    pub deviation_from_undetailed : Undetailed (deviation_from x y)
    deviation_from_undetailed = search steps

    pub repeated_undetailed : Undetailed (repeated x y)
    repeated_undetailed = search (steps, exp_undetailed, log_undetailed) depth 12

    pub divided_into_undetailed : Undetailed (divided_into x y)
    divided_into_undetailed = search (steps, exp_undetailed, log_undetailed) depth 12

    pub steps_of_size_undetailed : Undetailed (steps_of_size x y)
    steps_of_size_undetailed = search (steps, log_undetailed) depth 12

    pub total_cmp_undetailed : Undetailed (total_cmp x y)
    total_cmp_undetailed = search steps

    pub pitch_times_undetailed : Undetailed (pitch_times x y)
    pitch_times_undetailed = search steps

    pub pitch_over_undetailed : Undetailed (pitch_over x y)
    pitch_over_undetailed = search steps

    pub between_pitches_undetailed : Undetailed (between_pitches x y)
    between_pitches_undetailed = search steps
