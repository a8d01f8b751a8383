-- Lent columns of items, one parameter each, as the calls for C take them: `items_before kind cents numer denom` is the table that stands
-- behind them as the call finds it, and telbijan_answers/specs/Lent.antt says the names that their contracts use. Assumes nothing.
use Rattle.std.specs.Prelude.{List, ℕ, Float}
use Rattle.std.specs.Borrow.{Bor}
use denote.Triple.Both.{Both}
use Rattle.scl.specs.Table.{ItemTable, item_table}

-- a parameter that is a column of A, before the call and after it
abbrev pub Column : Type 0 → Type 0
Column A = Both (Bor (List A)) (Bor (List A))

abbrev pub items_lent : Bor (List ℕ) → Bor (List Float) → Bor (List ℕ) → Bor (List ℕ) → ItemTable
items_lent kind cents numer denom = item_table kind.now cents.now numer.now denom.now

abbrev pub items_before : Column ℕ → Column Float → Column ℕ → Column ℕ → ItemTable
items_before kind cents numer denom = items_lent kind.entry cents.entry numer.entry denom.entry
