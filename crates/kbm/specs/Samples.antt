-- Mappings for samples: that of document 01's starred ones ("Entries 0, x, 2, octave 5, keys 0 to 127, reference 60"), one at the
-- ends of 32 bits, and the Rust's own example. Assumes nothing.
use Rattle.std.specs.Prelude.{◌≡◌, List, [], ◌∷◌, ℤ, pos, neg_ℤ}
use Rattle.base.specs.Said.{gives, refuses}
use Rattle.key.specs.Keys.{key}
use Rattle.pitch.specs.declared.Pitch.{Pitch}
use Rattle.kbm.specs.Degree.{scale_degree_of}
use Rattle.kbm.specs.Table.{unmapped}
use Rattle.kbm.specs.declared.Kbm.{Kbm}

-- a mapping with any pitch and any middle key
abbrev pub sample : Pitch → ℤ → Kbm
sample pitch offset = record { root = record { reference = key (pos 60); pitch = pitch; offset = offset }; start = key (pos 0); end = key (pos 128); octave = pos 5; count = 3 }

-- entries 0, x, 2
abbrev pub sample_table : List ℤ
sample_table = pos 0 ∷ unmapped ∷ pos 2 ∷ []

-- exact values, not steps of 32 bits: one entry -1, formal octave -32768, reference key 0
abbrev pub steep : Pitch → Kbm
steep pitch = record {
  root = record { reference = key (pos 0); pitch = pitch; offset = pos 0 };
  start = key (neg_ℤ (pos 100000));
  end = key (pos 100000);
  octave = neg_ℤ (pos 32768);
  count = 1;
}

-- the Rust's own example: entries 0, 4, x, 4, octave 17, keys 10 to 99, reference 62
abbrev pub rust_example : Pitch → Kbm
rust_example pitch = record { root = record { reference = key (pos 62); pitch = pitch; offset = pos 0 }; start = key (pos 10); end = key (pos 100); octave = pos 17; count = 4 }

abbrev pub rust_table : List ℤ
rust_table = pos 0 ∷ pos 4 ∷ unmapped ∷ pos 4 ∷ []

pub record Shown (pitch : Pitch) : Type 0 where
  pub at9 : scale_degree_of (rust_example pitch) rust_table (key (pos 9)) ≡ refuses 16 0
  pub at10 : scale_degree_of (rust_example pitch) rust_table (key (pos 10)) ≡ gives (neg_ℤ (pos 221))
  pub at60 : scale_degree_of (rust_example pitch) rust_table (key (pos 60)) ≡ refuses 17 0
  pub at61 : scale_degree_of (rust_example pitch) rust_table (key (pos 61)) ≡ gives (neg_ℤ (pos 13))
  pub at62 : scale_degree_of (rust_example pitch) rust_table (key (pos 62)) ≡ gives (pos 0)
  pub at67 : scale_degree_of (rust_example pitch) rust_table (key (pos 67)) ≡ gives (pos 21)
  pub at99 : scale_degree_of (rust_example pitch) rust_table (key (pos 99)) ≡ gives (pos 157)
  pub at100 : scale_degree_of (rust_example pitch) rust_table (key (pos 100)) ≡ refuses 16 0
