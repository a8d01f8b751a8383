-- Which number a run stores beside a key, once its tables, its root and its room are usable: 0 exactly where the key sounds, else the
-- number that refuses it. That a run stores no other is `stored-number` of proofs/Numbers.antt, and counted from the middle key
-- `stored_from_middle` of proofs/MiddleNumbers.antt. Assumes nothing.
use Rattle.std.specs.Prelude.{◌≡◌, ℕ, Float}
use Rattle.base.specs.Numbers.{overflow, key_out_of_range, unmapped_key, beyond_reach, reference_unmapped}
use Rattle.base.specs.Said.{Said, gives, refuses}

-- by what the single call says of the key
pub data Beside (s : Said Float) : ℕ → Type 0 where
  sounds : (x : Float) → s ≡ gives x → Beside s 0
  passed : s ≡ refuses overflow 0 → Beside s overflow
  outside : s ≡ refuses key_out_of_range 0 → Beside s key_out_of_range
  unmapped : s ≡ refuses unmapped_key 0 → Beside s unmapped_key
  beyond : s ≡ refuses beyond_reach 0 → Beside s beyond_reach

-- counted from the middle key: these, or 19
pub data BesideFromMiddle (s : Said Float) : ℕ → Type 0 where
  known : {n : ℕ} → Beside s n → BesideFromMiddle s n
  reference : s ≡ refuses reference_unmapped 0 → BesideFromMiddle s reference_unmapped
