-- Two results of one input are equal, for every public call. Assumes nothing.
use mathlib.Core.Path.{◌≡◌}
use Prim.Native.Nat.{ℕ}
use Rattle.power_parts.specs.Parts.{Part}
use Rattle.power_parts.proofs.One.{part_one}

module _ (b q r : ℕ) where
  pub product_1_one : Part b 10 8 q → Part b 10 8 r → q ≡ r
  product_1_one = part_one b 10 8 q r

  pub product_2_one : Part b 18 7 q → Part b 18 7 r → q ≡ r
  product_2_one = part_one b 18 7 q r

  pub product_3_one : Part b 25 7 q → Part b 25 7 r → q ≡ r
  product_3_one = part_one b 25 7 q r
