-- A list built in the first places of longer columns: what is asked of the parts, and that the rest keeps what it holds. Assumes nothing.
use mathlib.Core.Path.{◌≡◌, sym, ◌∙◌, ap}
use mathlib.Core.Bool.{true}
use mathlib.Core.List.{List, ◌++◌}
use Prim.Native.Nat.{ℕ, ◌+◌, ◌<◌}
use native.Mathlib.Omega.{arith}
use lib.IntN.{ℤ}
use lib.Ieee.{Float}
use lib.ListN.{length, take, drop}
use lib.Seq.{length-take-le}
use Rattle.base.specs.Said.{Said, gives}
use Rattle.base.specs.Tables.{over}
use Rattle.sorting.specs.Entries.{Entry, zip}
use Rattle.sorting.proofs.Columns.{columns_zip}
use Rattle.sorted.specs.Lent.{ListTable, list_table}
use Rattle.scl.specs.Table.{ItemTable, is_items}
use Rattle.scl.proofs.Table.{items_roomy}
use Rattle.scl_tables.specs.Build.{after_list}

-- ---- what the parts are asked
module _ (count : ℕ) (t : ItemTable) (h : is_items count t ≡ true) where
  pub kinds_part : length (take (count + 1) t.kinds) ≡ count + 1
  kinds_part = length-take-le (count + 1) t.kinds (items_roomy count t h).kinds

pub list_part : {A : Type 0} (count : ℕ) (l : List A) → count < length l → length (take (count + 1) l) ≡ count + 1
list_part count l h = length-take-le (count + 1) l (omega (arith, h))

-- ---- what is left of the columns
column : {A : Type 0} (n : ℕ) (old new new' : List A) → length new ≡ n → new ≡ new' → new ++ drop n old ≡ over old new'
column n old new new' l e = ap (λ k. new ++ drop k old) (sym l) ∙ ap (over old) e

pub part_list : (n : ℕ) (t : ListTable) {s : Said (List Entry)} (ps : List ℕ) (rs : List Float) (ws : List ℤ) → length ps ≡ n → length rs ≡ n → length ws ≡ n → gives (zip ps rs ws) ≡ s
    → list_table (ps ++ drop n t.places) (rs ++ drop n t.ratios) (ws ++ drop n t.wraps) ≡ after_list s t
part_list n t ps rs ws lp lr lw h =
    let c = columns_zip ps rs ws (lr ∙ sym lp) (lw ∙ sym lp) in
    let p = column n t.places ps _ lp c.places in
    let r = column n t.ratios rs _ lr c.ratios in
    let w = column n t.wraps ws _ lw c.wraps in
    (λ i. record { places = p i; ratios = r i; wraps = w i }) ∙ ap (λ s. after_list s t) h
