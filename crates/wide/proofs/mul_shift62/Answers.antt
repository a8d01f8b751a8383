-- The result is a * b / 2 ^ 62: the product of the doubles is four times the product.
-- No loop; `doubled` is the equation.
use mathlib.Core.Path.{◌≡◌, ◌∙◌}
use Prim.Native.Nat.{ℕ, ◌*◌, ◌/◌, ◌^◌}
use native.Mathlib.Nat.{mul_assoc, mul_right_comm}
use native.Mathlib.Omega.{arith}
use Rattle.wide.proofs.mul_shift62.Goals as goal

doubled : (a b : ℕ) → a * 2 * (b * 2) / 2 ^ 64 ≡ a * b / 2 ^ 62
doubled a b = omega (arith, mul_assoc (a * 2) b 2, mul_right_comm a 2 b)

pub returns : goal.returns
returns c = c.high_product.ensures ∙ doubled c.args.a c.args.b
