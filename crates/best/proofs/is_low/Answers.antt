-- Which of the two is chosen: where one is none the other, else by the comparison. No loop. Assumes nothing.
use native.Mathlib.Nat.{le_trans, mul-pos}
use native.Mathlib.Omega.{arith}
use lib.Dec.{lit<}
use lib.Pow.{pow_pos}
use Rattle.best.proofs.Picked.{picks_low, picks_high, none_above, none_below, exponent_least, exponent_most, by_less, product_32}
use Rattle.best.proofs.is_low.Goals as goal

pub returns-then-high-eq0 : goal.returns-then-high-eq0
returns-then-high-eq0 c = picks_low _ _ _ _ (none_above _ _ _ _ c.requires.0 (pow_pos 1074) c.if-high-eq0.true)

pub returns-then-low-eq0 : goal.returns-then-low-eq0
returns-then-low-eq0 c = picks_high _ _ _ _ (none_below _ _ _ _ c.requires.0 (mul-pos (le_trans (lit< tt) c.requires.1) (pow_pos c.args.k)) c.if-low-eq0.true)

pub overflow_sub-k : goal.overflow_sub-k
overflow_sub-k c = exponent_most _ _ _ _ c.requires.0 c.requires.1 c.if-high-eq0.false

pub is_less-requires : goal.is_less-requires
is_less-requires c =
    let least = exponent_least _ _ _ _ c.requires.0 c.requires.2 c.if-low-eq0.false in (
      c.requires.2,
      product_32 _ _ c.requires.0.low_held.denom c.requires.0.high_held.denom,
      product_32 _ _ c.requires.0.low_held.numer c.requires.0.high_held.numer,
      omega (arith, least),
    )

pub returns : goal.returns
returns c =
    by_less _ _ _ _ _ (exponent_least _ _ _ _ c.requires.0 c.requires.2 c.if-low-eq0.false)
    (exponent_most _ _ _ _ c.requires.0 c.requires.1 c.if-high-eq0.false) c.is_less.ensures
