-- Samples at the ends of 32 bits, and those of the Rust's own example, by computation. Assumes nothing.
use mathlib.Core.Path.{◌≡◌, refl}
use mathlib.Core.List.{[], ◌∷◌}
use lib.IntN.{pos, neg_ℤ}
use Rattle.base.specs.Integers.{held}
use Rattle.base.specs.Said.{gives, refuses}
use Rattle.key.specs.Keys.{key}
use Rattle.pitch.specs.declared.Pitch.{Pitch}
use Rattle.kbm.specs.Degree.{degree_at, scale_degree_of}
use Rattle.kbm.specs.Samples.{steep, Shown}
use Rattle.kbm.specs.Table.{are_entries, entries_of}

pub steep_low : (pitch : Pitch) → scale_degree_of (steep pitch) (neg_ℤ (pos 1) ∷ []) (key (neg_ℤ (pos 65536))) ≡ gives (pos 2147483647)
unfolding scale_degree_of degree_at are_entries entries_of held
steep_low pitch = refl

pub steep_high : (pitch : Pitch) → scale_degree_of (steep pitch) (neg_ℤ (pos 1) ∷ []) (key (pos 65536)) ≡ refuses 11 0
unfolding scale_degree_of degree_at are_entries entries_of held
steep_high pitch = refl

pub shown_holds : (pitch : Pitch) → Shown pitch
unfolding scale_degree_of degree_at are_entries entries_of held
shown_holds pitch = record { at9 = refl; at10 = refl; at60 = refl; at61 = refl; at62 = refl; at67 = refl; at99 = refl; at100 = refl }
