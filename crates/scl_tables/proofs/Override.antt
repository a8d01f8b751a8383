-- The override of the period's entry in the columns, and the whole build. Assumes nothing.
use mathlib.Core.Path.{◌≡◌, sym, ◌∙◌, ap}
use mathlib.Core.Bool.{Bool, true, false}
use mathlib.Core.Logic.{inl, inr}
use mathlib.Core.List.{List}
use Prim.Native.Nat.{ℕ, ◌-◌, ◌<◌}
use native.Mathlib.Omega.{arith}
use lib.Dec.{lit≤}
use lib.IntN.{ℤ, pos}
use lib.ListN.{length, set, length-set}
use lib.Seq.{set-get_or, get_or-set_same, get_or-set_other}
use lib.Ieee.{Float, nan, le, div, binary64}
use Rattle.base.specs.Said.{Said, gives, pick, and_then}
use Rattle.floats.specs.Floats.{one_f}
use Rattle.floats.specs.Ranges.{in_reach}
use Rattle.floats.proofs.Ranges.{reach_says}
use Rattle.pitch.specs.Ratios.{inverse}
use Rattle.sorting.specs.Entries.{Entry, zip, Columns}
use Rattle.sorted.specs.Lent.{AllInReach, from}
use Rattle.sorted.specs.Repeats.{arranged}
use Rattle.sorting.proofs.Columns.{length_zip, zip_set, zip_columns}
use Rattle.sorting.proofs.Theory.{same?}
use Rattle.sorted.proofs.Numbering.{length_from, get_d_from}
use Rattle.scl.specs.Items.{ratio_of}
use Rattle.scl_tables.specs.Build.{entry, entries_from, overridden, last_of, sorted_of}
use Rattle.scl.specs.declared.Item.{Item}
use Rattle.floats.proofs.Between.{within_reach, inverse_within}

-- a period turned over stays in the range
pub turned_reach : (period : Float) → in_reach period ≡ true → in_reach (div binary64 one_f period) ≡ true
turned_reach period h = within_reach (inverse_within (lit≤ tt) (lit≤ tt) (reach_says period h))

pub turned : (period : Float) → in_reach period ≡ true → inverse period ≡ gives (div binary64 one_f period)
turned period h = rw (h, turned_reach period h)

-- a place keeps its number
own_place : (n i : ℕ) → i < n → set (from 0 n) i i ≡ from 0 n
own_place n i h = ap (λ (x : ℕ). set (from 0 n) i x) (sym (get_d_from 0 n i h ∙ omega arith)) ∙ set-get_or (from 0 n) i 0

abbrev ratios_after : Float → List Float → List Float
ratios_after period rs = pick (le one_f period) (set rs (length rs - 1) period) (set rs 0 (div binary64 one_f period))

abbrev wraps_after : Float → List Float → List ℤ → List ℤ
wraps_after period rs ws = pick (le one_f period) (set ws (length rs - 1) (pos 0)) (set ws 0 (pos 1))

module _ (period : Float) (p : in_reach period ≡ true) (rs : List Float) (ws : List ℤ) (some : 0 < length rs) (lw : length ws ≡ length rs) where
  abbrev n : ℕ
  n = length rs

  lr : length rs ≡ length (from 0 n)
  lr = sym (length_from 0 n)

  size : length (zip (from 0 n) rs ws) ≡ n
  size = length_zip (from 0 n) rs ws lr (lw ∙ lr) ∙ sym lr

  -- one entry changed
  changed : (i : ℕ) (r : Float) (w : ℤ) → i < n → set (zip (from 0 n) rs ws) i (entry i r w) ≡ zip (from 0 n) (set rs i r) (set ws i w)
  changed i r w h = zip_set (from 0 n) rs ws i i r w lr (lw ∙ lr) ∙ ap (λ (l : List ℕ). zip l (set rs i r) (set ws i w)) (own_place n i h)

  override_is : overridden period (zip (from 0 n) rs ws) ≡ gives (zip (from 0 n) (ratios_after period rs) (wraps_after period rs ws))
  override_is = go (le one_f period)
    where
      go : (b : Bool) → pick b (gives (set (zip (from 0 n) rs ws) (length (zip (from 0 n) rs ws) - 1) (entry (length (zip (from 0 n) rs ws) - 1) period (pos 0))))
          (and_then (inverse period) (λ r. gives (set (zip (from 0 n) rs ws) 0 (entry 0 r (pos 1)))))
          ≡ gives (zip (from 0 n) (pick b (set rs (length rs - 1) period) (set rs 0 (div binary64 one_f period))) (pick b (set ws (length rs - 1) (pos 0)) (set ws 0 (pos 1))))
      go true = ap (λ (k : ℕ). gives (set (zip (from 0 n) rs ws) (k - 1) (entry (k - 1) period (pos 0)))) size ∙ ap gives (changed (n - 1) period (pos 0) (omega arith))
      go false = rw (turned period p) (ap gives (changed 0 (div binary64 one_f period) (pos 1) some))

  kept : (i : ℕ) (r : Float) → i < n → in_reach r ≡ true → AllInReach rs → AllInReach (set rs i r)
  kept i r h q a j l = elim (same? j i) [
    | inl e ↦ rw (e, get_or-set_same rs i r nan h) q
    | inr e ↦ rw (get_or-set_other rs i j r nan e) (a j (omega (arith, l, length-set rs i r)))
  ]

  pub after_reach : AllInReach rs → AllInReach (ratios_after period rs)
  after_reach a = go (le one_f period)
    where
      go : (b : Bool) → AllInReach (pick b (set rs (length rs - 1) period) (set rs 0 (div binary64 one_f period)))
      go true = kept (n - 1) period (omega arith) p a
      go false = kept 0 (div binary64 one_f period) some (turned_reach period p) a

  -- ---- the whole build
  pub built : (items : List Item) (ps₀ : List ℕ) {ps : List ℕ} {rs₂ rs' : List Float} {ws₂ ws' : List ℤ} → length ps₀ ≡ n → gives period ≡ ratio_of (last_of items) → gives (zip (from 0 n) rs ws) ≡ entries_from period 0 items
      → rs₂ ≡ ratios_after period rs → ws₂ ≡ wraps_after period rs ws → Columns (arranged (zip (from 0 (length ps₀)) rs₂ ws₂)) ps rs' ws'
      → gives (zip ps rs' ws') ≡ sorted_of items
  unfolding sorted_of
  built items ps₀ l h e er ew c =
      ap gives (zip_columns c ∙ (λ j. arranged (zip (from 0 (l j)) (er j) (ew j))))
      ∙ sym (ap (λ (s : Said (List Entry)). and_then s (λ fs. gives (arranged fs))) override_is)
      ∙ ap (λ (s : Said (List Entry)). and_then s (λ es. and_then (overridden period es) (λ fs. gives (arranged fs)))) e
      ∙ ap (λ (s : Said Float). and_then s (λ r. and_then (entries_from r 0 items) (λ es. and_then (overridden r es) (λ fs. gives (arranged fs))))) h
