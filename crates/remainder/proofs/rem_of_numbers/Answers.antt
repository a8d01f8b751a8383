-- The result is the remainder of two numbers.
-- No loop; the three ways are laws of Modulo.antt over the two numbers' parts.
use mathlib.Core.Path.{◌≡◌, sym, ap, ◌∙◌, subst}
use mathlib.Core.Bool.{Bool, true}
use Prim.Native.Nat.{ℕ, ◌*◌, ◌-◌, ◌%◌, ◌^◌, ◌<◌}
use native.Mathlib.Nat.{mod-lt, lt_of_lt_of_le, le_of_lt, pos_of_ne-zero}
use borrow.Author.Rules.{rules}
use lib.Dec.{T}
use lib.Ieee.{Float, binary64, fits, div, of_bits, round}
use lib.Ieee.Exact.{HasValue}
use lib.Ieee.Scale.{finite}
use Rattle.floats.specs.Units.{Unpacked}
use Rattle.remainder.proofs.Modulo.{by_zero, is_below, is_shifted}
use Rattle.floats.proofs.Units.{unpacked_value}
use Rattle.remainder.proofs.rem_of_numbers.Goals as goal

value : (x : Float) (s : Bool) (d k : ℕ) → fits binary64 x ≡ true → T (finite x) → Unpacked x s d k → HasValue x s (d * 2 ^ k) (2 ^ 1074)
value x s d k f h u = unpacked_value x s d k (subst T (sym f) tt) h u

pub returns-then-y-eq0 : goal.returns-then-y-eq0
unfolding div of_bits
returns-then-y-eq0 c = by_zero _ _ _ _ _ c.requires.0 (value _ _ _ _ c.well_formed.1.0.1 c.requires.1 c.unpack-y.ensures) c.if-y-eq0.true

pub returns-then-x-y : goal.returns-then-x-y
returns-then-x-y c =
    is_below _ _ _ _ _ _ _ _ (value _ _ _ _ c.well_formed.0.1 c.requires.0 c.unpack-x.ensures) (value _ _ _ _ c.well_formed.1.0.1 c.requires.1 c.unpack-y.ensures) c.if-y-eq0.false (subst T (sym c.well_formed.0.1) tt)
    c.unpack-x.ensures.small c.unpack-y.ensures.normal c.if-x-y.true

-- what is left has fewer digits than the divisor
less : (r n d : ℕ) → r ≡ n % d → (d ≡ 0 → ⊥) → d < 2 ^ 53 → r < 2 ^ 53
less r n d e z h = subst (λ (x : ℕ). x < 2 ^ 53) (sym e) (lt_of_lt_of_le (mod-lt n (pos_of_ne-zero z)) (le_of_lt h))

pub pack-requires : goal.pack-requires
pack-requires c = (less _ _ _ c.shifted_rem.ensures c.if-y-eq0.false c.unpack-y.ensures.small, c.unpack-y.ensures.finite)

pub returns : goal.returns
returns c =
    c.pack.ensures
    ∙ ap (λ (r : ℕ). round binary64 c.unpack-x.result.negative (r * 2 ^ c.unpack-y.result.exponent) (2 ^ 1074)) c.shifted_rem.ensures
    ∙ sym (is_shifted _ _ _ _ _ _ _ _ (value _ _ _ _ c.well_formed.0.1 c.requires.0 c.unpack-x.ensures) (value _ _ _ _ c.well_formed.1.0.1 c.requires.1 c.unpack-y.ensures) c.if-y-eq0.false c.if-x-y.false)
