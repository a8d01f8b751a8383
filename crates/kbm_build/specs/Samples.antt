-- Builds of small ranges, each as what is said of it: document 02, W8, "in a builder, detail 0, after 15 and before 13". Assumes nothing.
use Rattle.std.specs.Prelude.{◌≡◌, [], ◌∷◌, ℕ, ℤ, pos, negsuc, Some, None, Option}
use Rattle.std.specs.Float.{binary64}
use Rattle.std.specs.Float.Ieee.{of_bits}
use Rattle.base.specs.Said.{gives, refuses}
use Rattle.key.specs.Keys.{key}
use Rattle.kbm.specs.declared.KbmRoot.{KbmRoot}
use Rattle.kbm_build.specs.Builder.{built}
use Rattle.kbm_build.specs.declared.KbmBuilder.{KbmBuilder}

-- reference key 60 at so many Hz by their bits: 8 Hz, 0 Hz
abbrev root_at : ℕ → KbmRoot
root_at bits = record { reference = key (pos 60); pitch = record { 0 = of_bits binary64 bits }; offset = pos 0 }

abbrev pub eight : KbmRoot
eight = root_at 0x4020_0000_0000_0000

abbrev pub mute : KbmRoot
mute = root_at 0

-- a builder with so many entries in a table of so many places
abbrev pub builder : KbmRoot → ℤ → ℤ → (Option ℤ) → ℕ → ℕ → KbmBuilder
builder root start end octave count room =
    record { root = root; start = key start; end = key end; octave = octave; room = room; count = count }

pub record Samples : Type 0 where
  -- up to, not including, 60: the last key of 60.. is 59, and of 61.. too; of the largest range backwards
  pub none : built (builder eight (pos 60) (pos 60) None 0 0) [] ≡ refuses 25 0
  pub swapped : built (builder eight (pos 61) (pos 60) (Some (pos 12)) 1 1) (pos 0 ∷ []) ≡ refuses 25 0
  pub far : built (builder eight (pos 2147483647) (negsuc 2147483647) None 0 0) [] ≡ refuses 25 0
  -- one key stays
  pub one_key : built (builder eight (pos 60) (pos 61) None 0 0) [] ≡
      gives (record { root = eight; start = key (pos 60); end = key (pos 61); octave = pos 0; count = 0 })
  -- 10 comes first, of the root, the table (40000 is no entry) and the state (of another table), and 15
  pub root_first : built (builder mute (pos 61) (pos 60) (Some (pos 12)) 0 0) [] ≡ refuses 10 0
  pub table_first : built (builder eight (pos 61) (pos 60) (Some (pos 12)) 1 1) (pos 40000 ∷ []) ≡ refuses 10 0
  pub state_first : built (builder eight (pos 61) (pos 60) (Some (pos 12)) 1 2) (pos 0 ∷ []) ≡ refuses 10 0
  pub octave_first : built (builder eight (pos 61) (pos 60) None 1 1) (pos 0 ∷ []) ≡ refuses 15 0
