-- The odd part of a number: what is left of it once every factor of two is taken out. Assumes nothing.
use Rattle.std.specs.Prelude.{◌≡◌, ℕ, zero, suc, ◌*◌, ◌/◌, ◌%◌, ◌^◌, eqb}
use Rattle.base.specs.Said.{pick}

-- n is m times a power of two, and m is odd, or both are 0
pub data OddPart (n m : ℕ) : Type 0 where
  none : n ≡ 0 → m ≡ 0 → OddPart n m
  odd : (k : ℕ) → n ≡ m * 2 ^ k → m % 2 ≡ 1 → OddPart n m

-- n halved while it is even, at most so many times
unfoldable pub halved_while_even : ℕ → ℕ → ℕ
halved_while_even zero n = n
halved_while_even (suc k) n = pick (eqb (n % 2) 0) (halved_while_even k (n / 2)) n

-- the odd part of a number of 16 bits; that it is that is `odd_part_law` of proofs/Theorems.antt
abbrev pub odd_part : ℕ → ℕ
odd_part n = halved_while_even 16 n
