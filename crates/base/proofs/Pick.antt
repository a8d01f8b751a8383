-- Laws of `pick` between Bools, which the definitions use for "and". Assumes nothing.
use mathlib.Core.Path.{◌≡◌, refl}
use mathlib.Core.Bool.{Bool, true, false}
use Prim.Native.Nat.{ℕ}
use native.Mathlib.Omega.{arith}
use Rattle.base.specs.Said.{pick}

-- both tests hold where the one and then the other does
pub pick_both : (x y : Bool) → pick x y false ≡ true → (x ≡ true) × (y ≡ true)
pick_both true y e = (refl, e)
pick_both false y e = let z : ◌≡◌ {A = ℕ} 0 1 = cc in absurd (omega arith)

-- where the second never holds, both never do
pub pick_never : (x : Bool) → pick x false false ≡ false
pick_never true = refl
pick_never false = refl

-- true is not false
pub true_not_false : true ≡ false → ⊥
true_not_false e = let z : ◌≡◌ {A = ℕ} 0 1 = cc in omega arith
