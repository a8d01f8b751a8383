-- Two results of one input are equal, for every public call. Assumes nothing.
use mathlib.Core.Path.{◌≡◌}
use Prim.Native.Nat.{ℕ}
use Rattle.log_roots.specs.Roots.{Rooted}
use Rattle.log_roots.proofs.One.{rooted_one}

module _ (h q r : ℕ) where
  pub root_1_one : Rooted h 0 6 9124017994966720698 q → Rooted h 0 6 9124017994966720698 r → q ≡ r
  root_1_one = rooted_one h 0 6 9124017994966720698 q r

  pub root_2_one : Rooted h 6 6 4661115140909843940 q → Rooted h 6 6 4661115140909843940 r → q ≡ r
  root_2_one = rooted_one h 6 6 4661115140909843940 q r

  pub root_3_one : Rooted h 12 6 4612454302788355851 q → Rooted h 12 6 4612454302788355851 r → q ≡ r
  root_3_one = rooted_one h 12 6 4612454302788355851 q r

  pub root_4_one : Rooted h 18 6 4611698021886319766 q → Rooted h 18 6 4611698021886319766 r → q ≡ r
  root_4_one = rooted_one h 18 6 4611698021886319766 q r

  pub root_5_one : Rooted h 24 6 4611686205981193442 q → Rooted h 24 6 4611686205981193442 r → q ≡ r
  root_5_one = rooted_one h 24 6 4611686205981193442 q r
