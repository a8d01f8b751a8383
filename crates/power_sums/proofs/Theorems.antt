-- Two results of one input are equal, for every public call. Assumes nothing.
use mathlib.Core.Path.{◌≡◌}
use Prim.Native.Nat.{ℕ}
use Rattle.power_parts.specs.Parts.{Rise}
use Rattle.power_parts.proofs.One.{rise_one}

module _ (b q r : ℕ) where
  pub sum_1_one : Rise b 32 7 q → Rise b 32 7 r → q ≡ r
  sum_1_one = rise_one b 32 7 q r

  pub sum_2_one : Rise b 39 7 q → Rise b 39 7 r → q ≡ r
  sum_2_one = rise_one b 39 7 q r

  pub sum_3_one : Rise b 46 6 q → Rise b 46 6 r → q ≡ r
  sum_3_one = rise_one b 46 6 q r
