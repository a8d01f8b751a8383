-- What `root` of specs/ is: the whole part of the square root. Assumes nothing.
use Rattle.std.proofs.Common.{◌≡◌, ℕ, zero, suc, ◌+◌, ◌*◌, ◌^◌, ◌<◌, ◌≤◌, Bool, true, false, not, T, leb, subst, pow-suc, arith, leb→le}
use lib.Dec.{nleb→lt}
use Rattle.base.specs.Said.{pick}
use Rattle.explog.specs.Root.{root, root_from}

-- ---- the root: r * r ≤ n < (r + 1) * (r + 1)
record Between (n k r : ℕ) : Type 0 where
  low : r * r ≤ n
  high : n < (r + 2 ^ k) * (r + 2 ^ k)

from_between : (k n r : ℕ) → Between n k r → Between n 0 (root_from k n r)
unfolding root_from
from_between zero n r h = h
from_between (suc k) n r h = from_between k n (pick b (r + 2 ^ k) r) (go b (leb→le q n) (nleb→lt q n))
  where
    q : ℕ
    q = (r + 2 ^ k) * (r + 2 ^ k)

    b : Bool
    b = leb ((r + 2 ^ k) * (r + 2 ^ k)) n

    twice : r + 2 ^ suc k ≡ r + 2 ^ k + 2 ^ k
    twice = let e = pow-suc 2 k in omega arith

    go : (b : Bool) → (T b → (r + 2 ^ k) * (r + 2 ^ k) ≤ n) → (T (not b) → n < (r + 2 ^ k) * (r + 2 ^ k)) → Between n k (pick b (r + 2 ^ k) r)
    go true t f = record { low = t tt; high = subst (λ (x : ℕ). n < x * x) twice h.high }
    go false t f = record { low = h.low; high = f tt }

pub root_is : (n : ℕ) → n < 2 ^ 128 → (root n * root n ≤ n) × (n < (root n + 1) * (root n + 1))
unfolding root
root_is n h = let z = from_between 64 n 0 (record { low = omega arith; high = h }) in (z.low, z.high)
