-- COUNTING FROM THE MIDDLE KEY: document 02, W1. "d is key minus middle key [..] Middle is the exact sum of reference and offset". All else
-- is document 01, "Keys", over exact integers: the middle key need not be a number of 32 bits. Assumes nothing.
use Rattle.std.specs.Prelude.{ℤ, pos, ◌+ℤ◌, eqb, ◌≡◌, List, [], ◌∷◌, Some, Option}
use Rattle.base.specs.Numbers.{unmapped_key, reference_unmapped}
use Rattle.base.specs.Said.{Said, gives, refuses, pick}
use Rattle.key.specs.Keys.{key}
use Rattle.key.specs.declared.PianoKey.{PianoKey}
use Rattle.kbm.specs.Degree.{degree_from, scale_degree_of}
use Rattle.kbm.specs.declared.Counting.{Counting}
use Rattle.kbm.specs.declared.Counting.TheVariants.{Reference, Middle}
use Rattle.kbm.specs.declared.Kbm.{Kbm}
use Rattle.kbm.specs.declared.KbmRoot.{KbmRoot}

-- "Middle is the exact sum of reference and offset"
abbrev pub middle_of : KbmRoot → ℤ
middle_of root = root.reference.0 +ℤ root.offset

-- the mapping whose keys are counted from another key. It serves for its degrees only: its pitch stays that of the old reference key
abbrev pub counted_from : PianoKey → Kbm → Kbm
counted_from origin kbm =
    record {
      root = record { reference = origin; pitch = kbm.root.pitch; offset = pos 0 };
      start = kbm.start;
      end = kbm.end;
      octave = kbm.octave;
      count = kbm.count;
    }

-- the mapping whose keys are counted from the middle key
abbrev pub at_middle : Kbm → Kbm
at_middle kbm = counted_from (key (middle_of kbm.root)) kbm

-- THE DEGREE of a key, counted from the middle key: "Order: 16, 11 for d, 17, 11" as in document 01
abbrev pub scale_degree_from_middle : Kbm → List ℤ → PianoKey → Said ℤ
scale_degree_from_middle kbm map = scale_degree_of (at_middle kbm) map

-- ---- the reference key, which sounds the root's pitch
-- "19, reference key unmapped": what is 17 of an asked key
abbrev pub of_reference : Said ℤ → Said ℤ
of_reference (gives z) = gives z
of_reference (refuses n d) = pick (eqb n unmapped_key) (refuses reference_unmapped d) (refuses n d)

-- the reference key's own degree. "The range doesn't limit the reference key"; "for the reference key 11 for d, 19, 11"
abbrev pub reference_degree : Kbm → List (Option ℤ) → Said ℤ
reference_degree kbm es = of_reference (degree_from (key (middle_of kbm.root)) kbm.root.reference kbm.octave es)

-- no entry, or 0 the first: where middle and reference key are one, the reference key then has degree 0 (`reference_zero` of
-- proofs/Middle.antt)
abbrev pub StartsAtZero : List (Option ℤ) → Type 0
StartsAtZero [] = Unit {0}
StartsAtZero (e ∷ es) = e ≡ Some (pos 0)

-- ---- "a Scala counting beside the old one, chosen by the caller"
-- the key that is counted from
abbrev pub origin : Counting → KbmRoot → PianoKey
origin Reference root = root.reference
origin Middle root = key (middle_of root)

-- the mapping in either counting: in the old one, the degrees of the mapping itself
abbrev pub counted : Counting → Kbm → Kbm
counted counting kbm = counted_from (origin counting kbm.root) kbm
