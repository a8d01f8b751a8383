-- White space that E2 80 starts, test by test: U+2000 to 200A, 2028, 2029, 202F. Assumes nothing.
use mathlib.Core.Path.{◌≡◌}
use mathlib.Core.Bool.{true, false}
use Prim.Native.Nat.{ℕ, ◌≤◌, ◌<◌}
use lib.Dec.{eqb}
use borrow.Author.Tests.{lt-ltb, le-ltb, eq-eqb, ne_eqb}
use Rattle.white.specs.Trim.{general}

module _ (d : ℕ) where
  pub too_low : d < 128 → false ≡ general d
  too_low h = rw (lt-ltb d 128 h)

  module _ (low : 128 ≤ d) where
    pub in_row : d < 139 → true ≡ general d
    in_row h = rw (le-ltb d 128 low, lt-ltb d 139 h)

    module _ (past : 139 ≤ d) where
      pub at_2028 : d ≡ 168 → true ≡ general d
      at_2028 e = rw (le-ltb d 128 low, le-ltb d 139 past, eq-eqb d 168 e)

      module _ (n : d ≡ 168 → ⊥) where
        pub at_2029 : d ≡ 169 → true ≡ general d
        at_2029 e = rw (le-ltb d 128 low, le-ltb d 139 past, ne_eqb d 168 n, eq-eqb d 169 e)

        pub at_202_f : (d ≡ 169 → ⊥) → eqb d 175 ≡ general d
        at_202_f m = rw (le-ltb d 128 low, le-ltb d 139 past, ne_eqb d 168 n, ne_eqb d 169 m)
