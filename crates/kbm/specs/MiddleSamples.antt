-- Samples of the counting from the middle key: document 01's mapping with middle key 62, middle keys outside 32 bits, and reference keys
-- outside the range, unmapped and too far. Assumes nothing.
use Rattle.std.specs.Prelude.{◌≡◌, [], ◌∷◌, ℕ, ℤ, pos, negsuc}
use Rattle.base.specs.Said.{gives, refuses}
use Rattle.key.specs.Keys.{key}
use Rattle.pitch.specs.declared.Pitch.{Pitch}
use Rattle.kbm.specs.Middle.{scale_degree_from_middle, reference_degree}
use Rattle.kbm.specs.Samples.{sample, sample_table}
use Rattle.kbm.specs.Table.{unmapped, table_of}
use Rattle.kbm.specs.declared.Kbm.{Kbm}

-- a mapping of these keys, reference, offset, octave and count
abbrev pub mapping : Pitch → ℤ → ℤ → ℤ → ℤ → ℤ → ℕ → Kbm
mapping pitch start end reference offset octave count = record {
  root = record { reference = key reference; pitch = pitch; offset = offset };
  start = key start;
  end = key end;
  octave = octave;
  count = count;
}

-- the least offset, -2147483648
abbrev least : ℤ
least = negsuc 2147483647

-- entries 0, x, 2, octave 5, keys 0 to 127, reference 60, middle 62: the first entry is key 62's, and the reference key has none
pub record FromMiddle (pitch : Pitch) : Type 0 where
  pub at60 : scale_degree_from_middle (sample pitch (pos 2)) sample_table (key (pos 60)) ≡ refuses 17 0
  pub at61 : scale_degree_from_middle (sample pitch (pos 2)) sample_table (key (pos 61)) ≡ gives (negsuc 2)
  pub at62 : scale_degree_from_middle (sample pitch (pos 2)) sample_table (key (pos 62)) ≡ gives (pos 0)
  pub at63 : scale_degree_from_middle (sample pitch (pos 2)) sample_table (key (pos 63)) ≡ refuses 17 0
  pub at64 : scale_degree_from_middle (sample pitch (pos 2)) sample_table (key (pos 64)) ≡ gives (pos 2)
  pub at65 : scale_degree_from_middle (sample pitch (pos 2)) sample_table (key (pos 65)) ≡ gives (pos 5)
  pub at127 : scale_degree_from_middle (sample pitch (pos 2)) sample_table (key (pos 127)) ≡ gives (pos 107)
  pub at128 : scale_degree_from_middle (sample pitch (pos 2)) sample_table (key (pos 128)) ≡ refuses 16 0
  pub reference : reference_degree (sample pitch (pos 2)) (table_of 3 sample_table) ≡ refuses 19 0
  -- a table that cannot be used, before all else
  pub unusable : scale_degree_from_middle (sample pitch (pos 2)) (pos 0 ∷ pos 40000 ∷ pos 2 ∷ []) (key (pos 128)) ≡ refuses 10 0

-- middle keys outside 32 bits, no entries: only the distance is tested
pub record ExactMiddle (pitch : Pitch) : Type 0 where
  pub at59 : scale_degree_from_middle (mapping pitch (pos 0) (pos 128) (pos 60) least (pos 0) 0) [] (key (pos 59)) ≡ gives (pos 2147483647)
  pub at60 : scale_degree_from_middle (mapping pitch (pos 0) (pos 128) (pos 60) least (pos 0) 0) [] (key (pos 60)) ≡ refuses 11 0
  pub reference : reference_degree (mapping pitch (pos 0) (pos 128) (pos 60) least (pos 0) 0) [] ≡ refuses 11 0
  pub low : scale_degree_from_middle (mapping pitch (pos 0) (pos 2147483647) (pos 2147483647) (pos 2147483647) (pos 0) 0) []
      (key (pos 2147483646)) ≡ gives (negsuc 2147483647)
  pub lower : scale_degree_from_middle (mapping pitch (pos 0) (pos 2147483647) (pos 2147483647) (pos 2147483647) (pos 0) 0) []
      (key (pos 2147483645)) ≡ refuses 11 0

-- the reference key: no range limits it; 19 comes before 11 for the degree
pub record ReferenceKeys (pitch : Pitch) : Type 0 where
  -- keys 60 to 60, reference 69, middle 60
  pub outside : reference_degree (mapping pitch (pos 60) (pos 61) (pos 69) (negsuc 8) (pos 1) 1) (table_of 1 (pos 0 ∷ [])) ≡ gives (pos 9)
  pub asked : scale_degree_from_middle (mapping pitch (pos 60) (pos 61) (pos 69) (negsuc 8) (pos 1) 1) (pos 0 ∷ []) (key (pos 69)) ≡ refuses 16 0
  -- 70000 formal octaves of 32767 degrees above the middle key
  pub far : reference_degree (mapping pitch (pos 0) (pos 10) (pos 70000) (negsuc 69999) (pos 32767) 1) (table_of 1 (pos 0 ∷ [])) ≡ refuses 11 0
  pub none : reference_degree (mapping pitch (pos 0) (pos 10) (pos 70000) (negsuc 69999) (pos 32767) 1) (table_of 1 (unmapped ∷ [])) ≡ refuses 19 0
  -- with an entry the distance is tested first
  pub first : reference_degree (mapping pitch (pos 0) (pos 10) (pos 60) least (pos 0) 1) (table_of 1 (unmapped ∷ [])) ≡ refuses 11 0
