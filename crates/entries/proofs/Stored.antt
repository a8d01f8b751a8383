-- What a list of structs holds after the columns' first entries were stored in it. Assumes nothing.
use mathlib.Core.Path.{◌≡◌, refl, ◌∙◌, ap}
use Prim.Native.Nat.{ℕ, zero, suc, ◌≤◌}
use native.Mathlib.Nat.{le_of_suc-le-suc, not-suc-le-zero}
use mathlib.Core.List.{List, [], ◌∷◌}
use lib.IntN.{ℤ}
use lib.ListN.{length, set, length-set}
use lib.Ieee.{Float}
use Rattle.base.specs.Tables.{over}
use Rattle.sorting.specs.Entries.{Entry}
use Rattle.sorted.specs.Lent.{list_table}
use Rattle.entries.specs.declared.SortedEntry.{SortedEntry}
use Rattle.entries.specs.Entries.{as_entries, first_of, sorted_entry_at, filled}

pub length_filled : (g : ℕ → SortedEntry) (n : ℕ) (l : List SortedEntry) → length (filled g n l) ≡ length l
length_filled g zero l = refl
length_filled g (suc n) l = length-set (filled g n l) n (g n) ∙ length_filled g n l

-- the first entry, and those after it
filled_first : (g : ℕ → SortedEntry) (n : ℕ) (y : SortedEntry) (l : List SortedEntry) → filled g (suc n) (y ∷ l) ≡ g 0 ∷ filled (λ i. g (suc i)) n l
filled_first g zero y l = refl
filled_first g (suc n) y l = ap (λ (m : List SortedEntry). set m (suc n) (g (suc n))) (filled_first g n y l)

-- n entries stored place by place are the columns' first n, and after them what was there
pub filled_is : (n : ℕ) (ps : List ℕ) (rs : List Float) (ws : List ℤ) (l : List SortedEntry) → n ≤ length l → n ≤ length ps → n ≤ length rs → n ≤ length ws
    → as_entries (filled (sorted_entry_at ps rs ws) n l) ≡ over (as_entries l) (first_of n (list_table ps rs ws))
filled_is zero ps rs ws l a b c d = refl
filled_is (suc n) ps rs ws [] a b c d = absurd (not-suc-le-zero a)
filled_is (suc n) [] rs ws (y ∷ l) a b c d = absurd (not-suc-le-zero b)
filled_is (suc n) (p ∷ ps) [] ws (y ∷ l) a b c d = absurd (not-suc-le-zero c)
filled_is (suc n) (p ∷ ps) (r ∷ rs) [] (y ∷ l) a b c d = absurd (not-suc-le-zero d)
filled_is (suc n) (p ∷ ps) (r ∷ rs) (w ∷ ws) (y ∷ l) a b c d =
    ap as_entries (filled_first (sorted_entry_at (p ∷ ps) (r ∷ rs) (w ∷ ws)) n y l)
    ∙ ap (λ (m : List Entry). record { place = p; ratio = r; wraps = w } ∷ m) (filled_is n ps rs ws l (le_of_suc-le-suc a) (le_of_suc-le-suc b) (le_of_suc-le-suc c) (le_of_suc-le-suc d))
