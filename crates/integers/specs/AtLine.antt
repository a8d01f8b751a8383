-- An integer at a line of a text: what is said of it, where anything else is refused by a number. Assumes nothing.
use Rattle.std.specs.Prelude.{ℕ, ℤ}
use Rattle.base.specs.Said.{Said, gives, refuses}
use Rattle.integers.specs.Integer.{Int, value, none}

-- what is said at line k of an integer that was read
abbrev pub int_at : ℕ → ℕ → Int → Said ℤ
int_at number k (value z) = gives z
int_at number k none = refuses number k
