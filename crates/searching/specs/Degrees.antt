-- The degree or key of what a search found, over exact integers: "A degree or found key outside i32 gives 11" (document 01, "Scales
-- and searches"). Assumes nothing.
use Rattle.std.specs.Prelude.{ℕ, ℤ, pos, ◌+ℤ◌, ◌-ℤ◌, ◌*ℤ◌, Float, Result}
use Rattle.base.specs.Integers.{held}
use Rattle.base.specs.Said.{Said, gives, and_then, outcome_by}
use Rattle.base.specs.declared.Refusal.{Refusal}
use Rattle.kbm.specs.declared.KbmRoot.{KbmRoot}
use Rattle.searching.specs.declared.Found.{Found}
use Rattle.searching.specs.declared.approximation.Approximation.{Approximation}
use Rattle.searching.specs.declared.approximation.NearestKey.{NearestKey}

abbrev pub approximation : Float → ℤ → Approximation
approximation deviation value = record { approx_value = value; deviation = deviation }

-- `pitch_index + (num_periods - num_wraparounds) * num_items`
abbrev pub declared_of : ℕ → Found → Said Approximation
declared_of count f = and_then (held (pos f.place +ℤ (f.periods -ℤ f.wraps) *ℤ pos count)) (λ z. gives (approximation f.deviation z))

-- `sorted_pitch_index + num_periods * num_items`
abbrev pub ascending_of : ℕ → Found → Said Approximation
ascending_of count f = and_then (held (pos f.index +ℤ f.periods *ℤ pos count)) (λ z. gives (approximation f.deviation z))

-- `ref_key.midi_number() + degree`
abbrev pub key_of : KbmRoot → Approximation → Said Approximation
key_of root a = and_then (held (root.reference.0 +ℤ a.approx_value)) (λ z. gives (approximation a.deviation z))

-- what an answer says whose number is a key
abbrev pub says_key_search : Result NearestKey Refusal → Said Approximation
says_key_search = outcome_by (λ k. k.0)
