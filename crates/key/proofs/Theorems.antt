-- Each call on keys has one result. Document 01, "What is taken", 2. Assumes nothing.
use mathlib.Core.Path.{refl}
use mathlib.Core.Logic.{inl, inr}
use lib.IntN.{ℤ}
use Rattle.base.specs.Said.{One, outcome}
use Rattle.base.proofs.Said.{one_result, one_said}
use Rattle.integer_math.proofs.Theorems.{i32_one}
use Rattle.key.specs.Keys.{key, key_after, steps_between, midi_of}
use Rattle.key.specs.declared.PianoKey.{PianoKey}

pub from_midi_number_one : (z : ℤ) → One (λ r. r) (key z)
from_midi_number_one z = one_result (key z)

pub midi_number_one : (k : PianoKey) → One (λ r. r) k.0
midi_number_one k = one_result k.0

pub checked_midi_number_one : (k : PianoKey) → One outcome (midi_of k)
checked_midi_number_one k = one_said (midi_of k)

pub num_keys_before_one : (k other : PianoKey) → One outcome (steps_between k other)
num_keys_before_one k other = i32_one (steps_between k other)

pub plus_steps_one : (k : PianoKey) (steps : ℤ) → One outcome (key_after k steps)
plus_steps_one k steps = one_said (key_after k steps)
