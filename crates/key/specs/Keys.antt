-- Keys: document 01, "What is taken", 2: "Sums outside i32 give 11; `checked_midi_number` gives 16 outside 0..127".
-- Over exact integers. Assumes nothing.
use Rattle.std.specs.Prelude.{◌&&◌, ℕ, ℤ, pos, nat_abs, ◌+ℤ◌, ◌-ℤ◌}
use Rattle.std.specs.Int.Signed.{le_z}
use Rattle.base.specs.Integers.{held}
use Rattle.base.specs.Numbers.{key_out_of_range}
use Rattle.base.specs.Said.{Said, gives, refuses, pick, and_then}
use Rattle.key.specs.declared.PianoKey.{PianoKey}

-- the key of a number
abbrev pub key : ℤ → PianoKey
key z = record { 0 = z }

-- the key that many steps after a key
abbrev pub key_after : PianoKey → ℤ → Said PianoKey
key_after k steps = and_then (held (k.0 +ℤ steps)) (λ z. gives (key z))

-- the steps from one key up to another
abbrev pub steps_between : PianoKey → PianoKey → Said ℤ
steps_between k other = held (other.0 -ℤ k.0)

-- the number of a key in 0..127
unfoldable pub midi_of : PianoKey → Said ℕ
midi_of k = pick (le_z (pos 0) k.0 && le_z k.0 (pos 127)) (gives (nat_abs k.0)) (refuses key_out_of_range 0)
