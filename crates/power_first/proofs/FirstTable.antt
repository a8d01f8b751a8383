-- Request W7: "a table of 1,024 entries, one for each pattern of the top ten bits, entry i equal to what those ten steps give", over the
-- whole table at once. Each arm of the code holds four entries of this list, one of each quarter. Assumes nothing.
use mathlib.Core.Path.{◌≡◌, refl}
use Prim.Native.Nat.{ℕ, ◌*◌, ◌/◌, ◌^◌, ◌<◌}
use native.Mathlib.Omega.{arith}
use lib.ListN.{get_or, length}
use Rattle.powers.specs.Exp.{p_of}
use Rattle.power_first.proofs.Rows.{first_steps, first_steps_at}

-- as many entries as ten bits have patterns
pub all_entries : length first_steps ≡ 1024
unfolding first_steps
all_entries = refl

-- entry i is P after ten steps for the fraction whose ten highest bits are i and whose others are clear
pub entry_is : (i : ℕ) → i < 1024 → get_or first_steps i 0 ≡ p_of (i * 2 ^ 42) 10
entry_is i h = (first_steps_at (i * 2 ^ 42) i (omega arith) h).is

-- and for every fraction with these highest bits
pub entry_serves : (b : ℕ) → b < 2 ^ 52 → get_or first_steps (b / 2 ^ 42) 0 ≡ p_of b 10
entry_serves b h = (first_steps_at b (b / 2 ^ 42) (omega arith) (omega arith)).is
