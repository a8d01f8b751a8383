-- `walk_to_end` meets its contract. The invariant: the rest of the walk comes to what the whole comes to, and turns
-- enough are left. The measure: the two fractions grow, and 16 bits hold them. Assumes nothing.
use Rattle.std.specs.declared.ops.ControlFlow.TheVariants.{Continue}
use mathlib.Core.Path.{◌≡◌, sym, ◌∙◌}
use Prim.Native.Nat.{◌≤◌}
use native.Mathlib.Omega.{arith}
use lib.Ieee.{div, of_bits}
use Rattle.fraction.specs.NearestFraction.{turn_of}
use Rattle.fraction.proofs.WalkEnds.{size, walking_start, walking_on, walking_end, walking_less}
use Rattle.fraction.proofs.walk_to_end.Goals as goal
use Rattle.fraction.proofs.walk_to_end.Goals.{In-Continue}

pub loop-next-init : goal.loop-next-init
unfolding div of_bits
loop-next-init c = walking_start c.args.target c.args.limit

-- the turn went on, to fractions of 16 bits
went : (c : In-Continue) → turn_of c.loop-next.w c.args.target c.args.limit ≡ Continue c.in-Continue.next
went c = sym c.turn.ensures ∙ c.in-Continue.is

small : (c : In-Continue) → size c.in-Continue.next ≤ 262140
unfolding size
small c = omega arith

pub loop-next-smaller : goal.loop-next-smaller
loop-next-smaller c = walking_less c.args.target c.args.limit c.loop-next.invariant (went c) (small c)

pub loop-next-preserved : goal.loop-next-preserved
loop-next-preserved c = walking_on c.args.target c.args.limit c.loop-next.invariant (went c) (small c)

pub returns-in-Break : goal.returns-in-Break
returns-in-Break c = walking_end c.args.target c.args.limit c.loop-next.invariant (sym c.turn.ensures ∙ c.in-Break.is)
