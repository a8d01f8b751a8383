-- One computed test over a whole table is the table's rule at each entry. Assumes nothing.
use mathlib.Core.Path.{◌≡◌, subst}
use mathlib.Core.Bool.{Bool, true, ◌&&◌}
use mathlib.Core.List.{List, [], ◌∷◌}
use Prim.Native.Nat.{ℕ, zero, suc, ◌+◌, ◌<◌}
use native.Mathlib.Omega.{arith}
use lib.Dec.{T}
use lib.ListN.{length, get_or}
use lib.Ieee.Fits.{and_l, and_r}

-- the test at each entry of a table, with its place; the first place is i
unfoldable pub every : (ℕ → ℕ → Bool) → ℕ → List ℕ → Bool
every test i [] = true
every test i (x ∷ xs) = test i x && every test (suc i) xs

from : (test : ℕ → ℕ → Bool) (i : ℕ) (xs : List ℕ) → T (every test i xs) → (k j : ℕ) → k < length xs → j ≡ i + k → T (test j (get_or xs k 0))
unfolding every
from test i [] t k j h e = absurd (omega arith)
from test i (x ∷ xs) t zero j h e = let s : i ≡ j = omega arith in subst (λ (p : ℕ). T (test p x)) s (and_l (test i x) (every test (suc i) xs) t)
from test i (x ∷ xs) t (suc k) j h e = from test (suc i) xs (and_r (test i x) (every test (suc i) xs) t) k j (omega arith) (omega arith)

pub at_each : (test : ℕ → ℕ → Bool) (xs : List ℕ) → T (every test 0 xs) → (k : ℕ) → k < length xs → T (test k (get_or xs k 0))
at_each test xs t k h = from test 0 xs t k k h (omega arith)
