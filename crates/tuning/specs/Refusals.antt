-- Which refusals the pitch of a key leaves once tables and root are usable: what refuses its degree, then 11 for the root offset, then 18.
-- That the calls say no other is proofs/Theorems.antt. Assumes nothing.
use Rattle.std.specs.Prelude.{◌≡◌, ℤ, Float}
use Rattle.base.specs.Numbers.{overflow, key_out_of_range, unmapped_key}
use Rattle.base.specs.Said.{Said, gives, refuses}
use Rattle.kbm.specs.declared.KbmRoot.{KbmRoot}
use Rattle.relative.specs.RootedRefusals.{Pitched}

-- by the degree that a key has, or why it has none
pub data KeySounds (root : KbmRoot) (degree : Said ℤ) (s : Said Float) : Type 0 where
  outside : degree ≡ refuses key_out_of_range 0 → s ≡ refuses key_out_of_range 0 → KeySounds root degree s
  unmapped : degree ≡ refuses unmapped_key 0 → s ≡ refuses unmapped_key 0 → KeySounds root degree s
  passed : degree ≡ refuses overflow 0 → s ≡ refuses overflow 0 → KeySounds root degree s
  sounds : (d : ℤ) → degree ≡ gives d → Pitched root s → KeySounds root degree s
