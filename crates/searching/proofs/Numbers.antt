-- What a search says is a value or one of document 01's numbers, whatever the tables hold. Assumes nothing.
use mathlib.Core.Path.{sym, subst}
use mathlib.Core.Bool.{◌&&◌}
use mathlib.Core.List.{List}
use Prim.Native.Nat.{◌-◌}
use native.Mathlib.Omega.{arith}
use lib.Dec.{eqb}
use lib.IntN.{ℤ}
use lib.ListN.{get_or}
use lib.Ieee.{Float, binary64, lt, eq, mul, div}
use Rattle.base.specs.Said.{Said, Numbered}
use Rattle.base.proofs.Said.{numbered_pick, numbered_then}
use Rattle.floats.specs.Floats.{zero_f}
use Rattle.pitch.proofs.Numbers.{both_numbered, computed_numbered, log_numbered, inverse_numbered}
use Rattle.sorting.specs.Entries.{Entry}
use Rattle.scl.specs.declared.Item.{Item}
use Rattle.scl.proofs.Numbers.{as_ratio_numbered}
use Rattle.scl_tables.specs.Build.{last_of, count_of}
use Rattle.relative.specs.Scales.{no_entry}
use Rattle.searching.specs.Refusals.{OrBeyond}
use Rattle.searching.specs.Search.{tolerance, chosen_of, upper_of, nearest_of, search_of}
use Rattle.searching.proofs.Refusals.{reduced_or}

or_numbered : {A : Type 0} {s : Said A} → OrBeyond s → Numbered s
or_numbered (OrBeyond.given a e) = subst Numbered (sym e) (Numbered.value a)
or_numbered (OrBeyond.beyond e) = subst Numbered (sym e) (Numbered.number (omega arith) (omega arith))

chosen_numbered : (lower upper target : Float) → Numbered (chosen_of lower upper target)
unfolding chosen_of
chosen_numbered lower upper target =
    numbered_then (both_numbered upper target (computed_numbered (div binary64 upper target))) (λ up.
    numbered_then (both_numbered target lower (computed_numbered (div binary64 target lower))) (λ down.
    numbered_then (both_numbered down tolerance (computed_numbered (mul binary64 down tolerance))) (λ bound.
    numbered_pick (lt bound up) (Numbered.value _) (numbered_then (inverse_numbered up) (λ turned. Numbered.value _)))))

nearest_numbered : (es : List Entry) (periods : ℤ) (target : Float) → Numbered (nearest_of es periods target)
unfolding nearest_of
nearest_numbered es periods target = numbered_then (chosen_numbered (get_or es (upper_of es target - 1) no_entry).ratio (get_or es (upper_of es target) no_entry).ratio target) (λ c. Numbered.value _)

pub search_numbered : (items : List Item) (es : List Entry) (x : Float) → Numbered (search_of items es x)
unfolding search_of
search_numbered items es x =
    numbered_pick (eqb (count_of items) 0) (Numbered.value _)
    (numbered_then (as_ratio_numbered (last_of items)) (λ period.
    numbered_then (log_numbered period) (λ size.
    numbered_pick (eqb (count_of items) 1 && eq size zero_f) (Numbered.number (omega arith) (omega arith))
    (numbered_then (or_numbered (reduced_or period x)) (λ y. nearest_numbered es y.wraps y.ratio)))))
