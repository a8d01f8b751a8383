-- Two results of one input are equal. Assumes nothing.
use mathlib.Core.Path.{◌≡◌, sym, ◌∙◌}
use Prim.Native.Nat.{ℕ, ◌*◌, ◌/◌, ◌%◌, ◌^◌}

pub high_product_one : (u v r s : ℕ) → r ≡ u * v / 2 ^ 64 → s ≡ u * v / 2 ^ 64 → r ≡ s
high_product_one u v r s p q = p ∙ sym q

pub low_product_one : (u v r s : ℕ) → r ≡ u * v % 2 ^ 64 → s ≡ u * v % 2 ^ 64 → r ≡ s
low_product_one u v r s p q = p ∙ sym q

pub mul_shift62_one : (a b r s : ℕ) → r ≡ a * b / 2 ^ 62 → s ≡ a * b / 2 ^ 62 → r ≡ s
mul_shift62_one a b r s p q = p ∙ sym q
