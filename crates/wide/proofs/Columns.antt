-- The product of two numbers of 64 bits by their halves: four products, added in columns of 32 bits. Assumes nothing.
use mathlib.Core.Path.{◌≡◌, sym, ap, ◌∙◌}
use Prim.Native.Nat.{ℕ, ◌+◌, ◌*◌, ◌/◌, ◌%◌, ◌^◌, ◌≤◌, ◌<◌}
use native.Mathlib.Nat.{add-mul, mul-add, mul_assoc, mul_right_comm, mul-le-mul, div-add-mod'}
use native.Mathlib.Omega.{arith}

-- two halves multiplied leave room for two carries
pub half_product : (a b : ℕ) → a < 2 ^ 32 → b < 2 ^ 32 → a * b ≤ 0xffff_fffe_0000_0001
half_product a b h k =
    let l : a ≤ 0xffff_ffff = omega arith in
    let m : b ≤ 0xffff_ffff = omega arith in
    mul-le-mul l m

-- one factor by its halves
by_halves : (a v : ℕ) → a * v ≡ a * (v / 2 ^ 32) * 2 ^ 32 + a * (v % 2 ^ 32)
by_halves a v =
    ap (λ (z : ℕ). a * z) (sym (div-add-mod' v (2 ^ 32)))
    ∙ mul-add a (v / 2 ^ 32 * 2 ^ 32) (v % 2 ^ 32)
    ∙ ap (λ (z : ℕ). z + a * (v % 2 ^ 32)) (sym (mul_assoc a (v / 2 ^ 32) (2 ^ 32)))

module _ (u v : ℕ) where
  abbrev upper : ℕ
  upper = u / 2 ^ 32 * (v / 2 ^ 32)

  abbrev left : ℕ
  left = u / 2 ^ 32 * (v % 2 ^ 32)

  abbrev right : ℕ
  right = u % 2 ^ 32 * (v / 2 ^ 32)

  abbrev low : ℕ
  low = u % 2 ^ 32 * (v % 2 ^ 32)

  -- both factors by their halves
  whole : u * v ≡ upper * 2 ^ 64 + (left + right) * 2 ^ 32 + low
  whole =
      let e : u * v ≡ u / 2 ^ 32 * 2 ^ 32 * v + u % 2 ^ 32 * v =
      ap (λ (z : ℕ). z * v) (sym (div-add-mod' u (2 ^ 32))) ∙ add-mul (u / 2 ^ 32 * 2 ^ 32) (u % 2 ^ 32) v in
      let m : u / 2 ^ 32 * 2 ^ 32 * v ≡ u / 2 ^ 32 * v * 2 ^ 32 = mul_right_comm (u / 2 ^ 32) (2 ^ 32) v in
      let a = by_halves (u / 2 ^ 32) v in
      let b = by_halves (u % 2 ^ 32) v in
      omega arith

  -- the upper half: what the columns carry out of the lower one
  pub columns : upper + left / 2 ^ 32 + right / 2 ^ 32 + (low / 2 ^ 32 + left % 2 ^ 32 + right % 2 ^ 32) / 2 ^ 32 ≡ u * v / 2 ^ 64
  columns = let w = whole in omega arith

  -- the lower half: the middle column without what it carries, and the lowest
  pub lower_columns : (low / 2 ^ 32 + left % 2 ^ 32 + right % 2 ^ 32) % 2 ^ 32 * 2 ^ 32 + low % 2 ^ 32 ≡ u * v % 2 ^ 64
  lower_columns = let w = whole in omega arith
