-- "floor of the square root" (document 01, T_k); that `root` is it is `root_floor` of explog/proofs/Theorems. Assumes nothing.
use Rattle.std.specs.Prelude.{ℕ, zero, suc, ◌+◌, ◌*◌, ◌^◌, leb}
use Rattle.base.specs.Said.{pick}

-- the largest number r + d, d < 2 ^ k, whose square is at most n: digit by digit, the highest first
unfoldable pub root_from : ℕ → ℕ → ℕ → ℕ
root_from zero n r = r
root_from (suc k) n r = root_from k n (pick (leb ((r + 2 ^ k) * (r + 2 ^ k)) n) (r + 2 ^ k) r)

-- the largest number below 2 ^ 64 whose square is at most n
unfoldable pub root : ℕ → ℕ
root n = root_from 64 n 0
