-- What the calls on a sorted list come to, and that each has one result. Document 01, "Scales and searches". Assumes nothing.
use mathlib.Core.Path.{◌≡◌, refl}
use mathlib.Core.Bool.{Bool, true, false}
use mathlib.Core.List.{List, [], ◌∷◌}
use Prim.Native.Nat.{ℕ, zero, suc, ◌<◌}
use native.Mathlib.Nat.{le_of_suc-le-suc, not-suc-le-zero}
use lib.ListN.{length, get_or, take}
use lib.IntN.{ℤ, pos}
use lib.Ieee.{Float, nan, lt}
use Rattle.base.specs.Said.{pick, One}
use Rattle.base.proofs.Said.{one_result}
use Rattle.sorting.specs.Entries.{zip, Columns}
use Rattle.sorting.proofs.Columns.{columns_one}
use Rattle.sorted.specs.Lent.{ListTable, list_table, is_list, first_not_below, from}
use Rattle.sorted.specs.Repeats.{arranged}

-- "Its start is the first entry not below the target": all before it are below
pub below_before : (rs : List Float) (x : Float) (k : ℕ) → k < first_not_below rs x → lt (get_or rs k nan) x ≡ true
below_before [] x k h = absurd (not-suc-le-zero h)
below_before (r ∷ rs) x zero h = go (lt r x) h
  where
    go : (b : Bool) → 0 < pick b (suc (first_not_below rs x)) 0 → b ≡ true
    go true h = refl
    go false h = absurd (not-suc-le-zero h)
below_before (r ∷ rs) x (suc k) h = below_before rs x k (go (lt r x) h)
  where
    go : (b : Bool) → suc k < pick b (suc (first_not_below rs x)) 0 → k < first_not_below rs x
    go true h = le_of_suc-le-suc h
    go false h = absurd (not-suc-le-zero h)

-- and it is not
pub not_below_at : (rs : List Float) (x : Float) → first_not_below rs x < length rs → lt (get_or rs (first_not_below rs x) nan) x ≡ false
not_below_at [] x h = absurd (not-suc-le-zero h)
not_below_at (r ∷ rs) x h = go (lt r x) refl (λ l. not_below_at rs x l) h
  where
    go : (b : Bool) → lt r x ≡ b → (first_not_below rs x < length rs → lt (get_or rs (first_not_below rs x) nan) x ≡ false) → pick b (suc (first_not_below rs x)) 0 < suc (length rs) → lt (get_or (r ∷ rs) (pick b (suc (first_not_below rs x)) 0) nan) x ≡ false
    go true e more h = more (le_of_suc-le-suc h)
    go false e more h = e

-- ---- two results of one input are equal
pub arrange_one : (place : List ℕ) (ratio : List Float) (wraps : List ℤ) {ps ps' : List ℕ} {rs rs' : List Float} {ws ws' : List ℤ} → Columns (arranged (zip (from 0 (length place)) ratio wraps)) ps rs ws → Columns (arranged (zip (from 0 (length place)) ratio wraps)) ps' rs' ws'
    → (ps ≡ ps') × (rs ≡ rs') × (ws ≡ ws')
arrange_one place ratio wraps = columns_one (arranged (zip (from 0 (length place)) ratio wraps))

pub number_one : (place : List ℕ) → One (λ r. r) (from 0 (length place))
number_one place = one_result (from 0 (length place))

pub is_list_one : (t : ListTable) (count : ℕ) → One (λ r. r) (is_list count t)
is_list_one t count = one_result (is_list count t)

pub first_not_below_one : (rs : List Float) (x : Float) → One (λ r. r) (first_not_below rs x)
first_not_below_one rs x = one_result (first_not_below rs x)

-- the columns that are lent to be read
pub columns_new_one : (ps : List ℕ) (rs : List Float) (ws : List ℤ) → One (λ r. r) (list_table ps rs ws)
columns_new_one ps rs ws = one_result (list_table ps rs ws)

pub columns_place_one : (t : ListTable) (i : ℕ) → One (λ r. r) (get_or t.places i 0)
columns_place_one t i = one_result (get_or t.places i 0)

pub columns_ratio_one : (t : ListTable) (i : ℕ) → One (λ r. r) (get_or t.ratios i nan)
columns_ratio_one t i = one_result (get_or t.ratios i nan)

pub columns_wraps_one : (t : ListTable) (i : ℕ) → One (λ r. r) (get_or t.wraps i (pos 0))
columns_wraps_one t i = one_result (get_or t.wraps i (pos 0))

pub columns_holds_one : (t : ListTable) (count : ℕ) → One (λ r. r) (is_list count t)
columns_holds_one t count = one_result (is_list count t)

pub columns_first_not_below_one : (t : ListTable) (n : ℕ) (x : Float) → One (λ r. r) (first_not_below (take n t.ratios) x)
columns_first_not_below_one t n x = one_result (first_not_below (take n t.ratios) x)
