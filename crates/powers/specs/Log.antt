-- y and B of document 01, "Logarithm and power". Assumes nothing.
use Rattle.std.specs.Prelude.{ℕ, zero, suc, ◌+◌, ◌*◌, ◌/◌, ◌^◌, leb}
use Rattle.base.specs.Said.{pick}

-- "y becomes floor(y*y/2^62)"
abbrev pub squared : ℕ → ℕ
squared y = y * y / 2 ^ 62

-- "with y halved (floor) if y >= 2^63"
abbrev pub halved : ℕ → ℕ
halved s = pick (leb (2 ^ 63) s) (s / 2) s

-- y after k turns
unfoldable pub y_of : ℕ → ℕ → ℕ
y_of y zero = y
y_of y (suc k) = halved (squared (y_of y k))

-- B after k turns: "the next bit of B, high first, is 1 .. if y >= 2^63"
unfoldable pub b_of : ℕ → ℕ → ℕ
b_of y zero = 0
b_of y (suc k) = b_of y k * 2 + pick (leb (2 ^ 63) (squared (y_of y k))) 1 0
