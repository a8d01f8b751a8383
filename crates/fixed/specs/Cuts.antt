-- A number of 10^d taken apart, as the code hands it on; what number it is, the contracts say. Assumes nothing.
use Rattle.std.specs.Prelude.{ℕ, ◌/◌, ◌%◌, ◌^◌}
use Rattle.fixed.specs.declared.Cut.{Cut}

-- a number of 10^d: its whole part, and what is left
abbrev pub cut_at : ℕ → ℕ → Cut
cut_at d n = record { whole = n / 10 ^ d; part = n % 10 ^ d }
