-- The whole text: how its four runs of lines make it, and what is answered by its room. Assumes nothing.
use mathlib.Core.Path.{◌≡◌, ap, ◌∙◌}
use mathlib.Core.Bool.{Bool, true, false, ◌&&◌}
use mathlib.Core.List.{List, [], ◌∷◌, ◌++◌, append_assoc}
use Prim.Native.Nat.{ℕ, ◌+◌, ◌≤◌}
use native.Mathlib.Omega.{arith}
use lib.Dec.{leb, leb→le}
use lib.IntN.{ℤ}
use lib.ListN.{length, take, length-append}
use Rattle.base.specs.Integers.{in_i32, held}
use Rattle.base.specs.Numbers.{unusable, overflow}
use Rattle.base.specs.Said.{gives, refuses, pick, and_then}
use Rattle.floats.proofs.Ranges.{and_true}
use Rattle.floats.specs.Ranges.{in_pitch}
use Rattle.writing.specs.Fitted.{fitted}
use Rattle.writing.specs.Lines.{line, lines_text}
use Rattle.writing.proofs.Lines.{lines_append}
use Rattle.writing.proofs.Room.{Fitting, pick_fitting, then_fitting, fitted_fitting}
use Rattle.kbm.specs.Table.{is_table, are_entries, table_of}
use Rattle.kbm.specs.declared.Kbm.{Kbm}
use Rattle.kbm_write.specs.Export.{last_key_of, middle_key_of, export_text, held_text, export_of}

-- keys, pitch, formal octave, entries
module _ (keys : List (List ℕ)) (pitch octave : List ℕ) (entries : List (List ℕ)) where
  pub four_runs : lines_text ((keys ++ (pitch ∷ octave ∷ [])) ++ entries) ≡ lines_text keys ++ (line pitch ++ (line octave ++ lines_text entries))
  unfolding lines_text
  four_runs =
      ap lines_text (append_assoc keys (pitch ∷ octave ∷ []) entries)
      ∙ lines_append keys ((pitch ∷ octave ∷ []) ++ entries)

  pub four_length : length (lines_text ((keys ++ (pitch ∷ octave ∷ [])) ++ entries)) ≡ length (lines_text keys) + (length (line pitch) + (length (line octave) + length (lines_text entries)))
  four_length = rw four_runs (simp length-append)

-- a number that 32 bits hold is the one answered
pub held_is : (d : ℤ) {z : ℤ} → held d ≡ gives z → z ≡ d
unfolding held
held_is d {z} e = go (in_i32 d) e
  where
    go : (b : Bool) → pick b (gives d) (refuses overflow 0) ≡ gives z → z ≡ d
    go true e = cc
    go false e = let n : ◌≡◌ {A = ℕ} 0 1 = cc in absurd (omega arith)

-- a usable table has its count of places
pub table_fits : (count : ℕ) (map : List ℤ) → is_table count map ≡ true → count ≤ length map
table_fits count map h = leb→le count (length map) (and_true (leb count (length map)) (are_entries (take count map)) h).0

-- what is given has room
pub export_fitting : (kbm : Kbm) (map : List ℤ) (room : ℕ) → Fitting room (export_of kbm map room)
unfolding export_of
export_fitting kbm map room =
    let t = export_text kbm (table_of kbm.count map) in
    pick_fitting room (is_table kbm.count map && in_pitch kbm.root.pitch.0) (held_text kbm (table_of kbm.count map) room) (refuses unusable 0)
    (then_fitting room (held (last_key_of kbm)) (λ last. and_then (held (middle_key_of kbm)) (λ middle. fitted room t))
    (λ last. then_fitting room (held (middle_key_of kbm)) (λ middle. fitted room t) (λ middle. fitted_fitting room t))) tt
