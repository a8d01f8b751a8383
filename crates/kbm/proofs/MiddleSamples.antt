-- The samples of the counting from the middle key, by computation. Assumes nothing.
use mathlib.Core.Path.{refl}
use Rattle.base.specs.Integers.{held}
use Rattle.pitch.specs.declared.Pitch.{Pitch}
use Rattle.kbm.specs.Degree.{degree_at, scale_degree_of}
use Rattle.kbm.specs.MiddleSamples.{FromMiddle, ExactMiddle, ReferenceKeys}
use Rattle.kbm.specs.Table.{are_entries, entries_of}

pub from_middle : (pitch : Pitch) → FromMiddle pitch
unfolding scale_degree_of degree_at are_entries entries_of held
from_middle pitch =
    record {
      at60 = refl;
      at61 = refl;
      at62 = refl;
      at63 = refl;
      at64 = refl;
      at65 = refl;
      at127 = refl;
      at128 = refl;
      reference = refl;
      unusable = refl;
    }

pub exact_middle : (pitch : Pitch) → ExactMiddle pitch
unfolding scale_degree_of degree_at are_entries entries_of held
exact_middle pitch = record { at59 = refl; at60 = refl; reference = refl; low = refl; lower = refl }

pub reference_keys : (pitch : Pitch) → ReferenceKeys pitch
unfolding scale_degree_of degree_at are_entries entries_of held
reference_keys pitch = record { outside = refl; asked = refl; far = refl; none = refl; first = refl }
