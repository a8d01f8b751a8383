-- The nearer of the best below and the best above. No loop. Assumes nothing.
use Prim.Native.Nat.{◌*◌, ◌^◌, ◌<◌}
use native.Mathlib.Nat.{le_trans, mul-pos}
use lib.Dec.{lit<}
use lib.Pow.{pow_pos}
use Rattle.best.proofs.Picked.{two, low_answer, high_answer}
use Rattle.best.proofs.best_of.Goals as goal
use Rattle.best.proofs.best_of.Goals.{Start}

-- the ratio is above 0
above : (c : Start) → 0 < c.args.m * 2 ^ c.args.k
above c = mul-pos (le_trans (lit< tt) c.requires.1) (pow_pos c.args.k)

pub is_low-requires : goal.is_low-requires
is_low-requires c = (two _ _ _ _ (above (goal.at.is_low-requires c).Start) (pow_pos 1074) c.requires.0 c.walk_to_end-w.ensures, c.requires.1, c.requires.2)

pub returns-then-is_low : goal.returns-then-is_low
returns-then-is_low c =
    low_answer _ _ _ _ (above (goal.at.returns-then-is_low c).Start) (pow_pos 1074) c.requires.0 c.walk_to_end-w.ensures
    (c.is_low.ensures.is_low c.if-is_low.true)

pub returns : goal.returns
returns c =
    high_answer _ _ _ _ (above (goal.at.returns c).Start) (pow_pos 1074) c.requires.0 c.walk_to_end-w.ensures
    (c.is_low.ensures.is_high c.if-is_low.false)
