-- Two results of one input are equal, for every public call. Assumes nothing.
use mathlib.Core.Path.{◌≡◌}
use Prim.Native.Nat.{ℕ}
use Rattle.powers.specs.Inner.{Power}
use Rattle.powers.proofs.Theorems.{power_steps_one}

module _ (b q r : ℕ) where
  pub first_steps_one : Power b 10 q → Power b 10 r → q ≡ r
  first_steps_one = power_steps_one b 10 q r
