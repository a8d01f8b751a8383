-- A refusal of a scale's list has one of 01's numbers. Assumes nothing.
use mathlib.Core.Bool.{◌&&◌}
use mathlib.Core.List.{List, [], ◌∷◌}
use Prim.Native.Nat.{ℕ, suc}
use native.Mathlib.Omega.{arith}
use lib.Dec.{leb}
use lib.Ieee.{Float, le, lt, eq}
use Rattle.base.specs.Said.{Numbered}
use Rattle.base.proofs.Said.{numbered_pick, numbered_then}
use Rattle.floats.specs.Floats.{zero_f, one_f, least_i32, past_i32, count}
use Rattle.floats.specs.Ranges.{negligible}
use Rattle.remainder.specs.Euclid.{rem_euclid, div_euclid}
use Rattle.scl.specs.declared.Item.{Item}
use Rattle.pitch.proofs.Numbers.{log_numbered, from_octaves_numbered, inverse_numbered}
use Rattle.scl.proofs.Numbers.{as_ratio_numbered}
use Rattle.scl_tables.specs.Reduce.{reduced_by}
use Rattle.scl_tables.specs.Build.{reduced_entry, entries_from, last_of, count_of, sorted_of, scale_of, sized_of}

count_numbered : (q : Float) → Numbered (count q)
count_numbered q = numbered_pick (le least_i32 q && lt q past_i32) (Numbered.value _) (Numbered.number (omega arith) (omega arith))

reduced_numbered : (period ratio : Float) → Numbered (reduced_by period ratio)
reduced_numbered period ratio =
    numbered_pick (negligible period) (Numbered.value _)
    (numbered_then (log_numbered period) (λ size. numbered_then (log_numbered ratio) (λ octaves. numbered_then (from_octaves_numbered (rem_euclid octaves size)) (λ r. numbered_then (count_numbered (div_euclid octaves size)) (λ w. Numbered.value _)))))

entry_numbered : (period : Float) (place : ℕ) (i : Item) → Numbered (reduced_entry period place i)
entry_numbered period place i = numbered_then (as_ratio_numbered i) (λ r. numbered_then (reduced_numbered period r) (λ x. Numbered.value _))

entries_numbered : (period : Float) (k : ℕ) (is : List Item) → Numbered (entries_from period k is)
entries_numbered period k [] = Numbered.value []
entries_numbered period k (i ∷ is) = numbered_then (entry_numbered period k i) (λ e. numbered_then (entries_numbered period (suc k) is) (λ es. Numbered.value (e ∷ es)))

sorted_numbered : (is : List Item) → Numbered (sorted_of is)
unfolding sorted_of
sorted_numbered is =
    numbered_then (as_ratio_numbered (last_of is)) (λ period. numbered_then (entries_numbered period 0 is) (λ es. numbered_then (numbered_pick (le one_f period) (Numbered.value _) (numbered_then (inverse_numbered period) (λ turned. Numbered.value _))) (λ fs. Numbered.value _)))

scale_numbered : (is : List Item) → Numbered (scale_of is)
unfolding scale_of
scale_numbered is =
    numbered_then (as_ratio_numbered (last_of is)) (λ period. numbered_then (log_numbered period) (λ size. numbered_pick (leb 2 (count_of is) && eq size zero_f) (Numbered.number (omega arith) (omega arith)) (sorted_numbered is)))

pub sized_numbered : (is : List Item) → Numbered (sized_of is)
sized_numbered is = numbered_pick (leb (count_of is) 65535) (scale_numbered is) (Numbered.number (omega arith) (omega arith))
