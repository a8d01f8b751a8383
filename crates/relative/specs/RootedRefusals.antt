-- Which refusals a pitch of usable tables and a usable root leaves: 11 for the root offset, and 18. That the calls say no other is
-- proofs/Theorems.antt. Assumes nothing.
use Rattle.std.specs.Prelude.{◌≡◌, negsuc, Float}
use Rattle.base.specs.Numbers.{overflow}
use Rattle.base.specs.Said.{Said, refuses}
use Rattle.kbm.specs.declared.KbmRoot.{KbmRoot}
use Rattle.relative.specs.Refusals.{ReachedOrBeyond}

-- a number in 2^-900..2^900 or 18, unless the offset cannot be turned over
pub data Pitched (root : KbmRoot) (s : Said Float) : Type 0 where
  pitched : (root.offset ≡ negsuc 2147483647 → ⊥) → ReachedOrBeyond s → Pitched root s
  unturned : root.offset ≡ negsuc 2147483647 → s ≡ refuses overflow 0 → Pitched root s
