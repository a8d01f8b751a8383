-- The definitions, opened as the code comes to them. Assumes nothing.
use mathlib.Core.Path.{◌≡◌, sym, ◌∙◌, ap}
use mathlib.Core.List.{List}
use Prim.Native.Nat.{ℕ, ◌-◌, ◌≤◌}
use native.Mathlib.Omega.{arith}
use lib.IntN.{ℤ, pos}
use lib.ListN.{length, get_or}
use lib.Ieee.{Float}
use borrow.Author.Tests.{eq-eqb, ne_eqb}
use Rattle.base.specs.Integers.{floor_div, floor_mod}
use Rattle.base.specs.Said.{Said, gives, and_then}
use Rattle.base.proofs.Integers.{floor_mod_lt}
use Rattle.sorting.specs.Entries.{Entry}
use Rattle.scl.specs.Items.{ratio_of}
use Rattle.scl.specs.Table.{no_item}
use Rattle.scl.specs.declared.Item.{Item}
use Rattle.scl_tables.specs.Build.{last_of, count_of}
use Rattle.relative.specs.Relative.{periods_of, place_of, stretched, relative_pitch_of, sorted_relative_pitch_of}
use Rattle.relative.specs.Scales.{no_entry}

-- ---- the parts of a degree
module _ (count : ℕ) (d : ℤ) where
  pub periods_none : count ≡ 0 → pos 0 ≡ periods_of count d
  unfolding periods_of
  periods_none e = rw (eq-eqb count 0 e)

  pub periods_some : (count ≡ 0 → ⊥) → floor_div d count ≡ periods_of count d
  unfolding periods_of
  periods_some n = rw (ne_eqb count 0 n)

  pub place_none : count ≡ 0 → (0 ≡ place_of count d) × (0 ≤ count)
  unfolding place_of
  place_none e = (rw (eq-eqb count 0 e), omega arith)

  pub place_some : (count ≡ 0 → ⊥) → (floor_mod d count ≡ place_of count d) × (floor_mod d count ≤ count)
  unfolding place_of
  place_some n = (rw (ne_eqb count 0 n), let l = floor_mod_lt d count (omega (arith, n)) in omega (arith, l))

-- ---- relative pitches
module _ (items : List Item) (count : ℕ) (d : ℤ) {period : Float} (n : length items - 1 ≡ count) (h : gives period ≡ ratio_of (last_of items)) where
  pub relative_told : {r : Float} → gives r ≡ ratio_of (get_or items (place_of count d) no_item) → stretched period (periods_of count d) r ≡ relative_pitch_of items d
  unfolding relative_pitch_of
  relative_told k =
      ap (λ (s : Said Float). and_then s (λ ratio. stretched period (periods_of count d) ratio)) k
      ∙ ap (λ (m : ℕ). and_then (ratio_of (get_or items (place_of m d) no_item)) (λ ratio. stretched period (periods_of m d) ratio)) (sym n)
      ∙ ap (λ (s : Said Float). and_then s (λ p. and_then (ratio_of (get_or items (place_of (count_of items) d) no_item)) (λ ratio. stretched p (periods_of (count_of items) d) ratio))) h

  pub sorted_told : (es : List Entry) → stretched period (periods_of count d) (get_or es (place_of count d) no_entry).ratio ≡ sorted_relative_pitch_of items es d
  unfolding sorted_relative_pitch_of
  sorted_told es =
      ap (λ (m : ℕ). stretched period (periods_of m d) (get_or es (place_of m d) no_entry).ratio) (sym n)
      ∙ ap (λ (s : Said Float). and_then s (λ p. stretched p (periods_of (count_of items) d) (get_or es (place_of (count_of items) d) no_entry).ratio)) h
