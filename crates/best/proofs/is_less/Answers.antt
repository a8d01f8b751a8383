-- m * m * a by its parts (`parts` of Squares.antt) against b * 2 ^ (t + 74): all above the last 74 + t bits, and where that is b, whether
-- the rest is nothing. No loop. Assumes nothing.
use mathlib.Core.Path.{sym, ap}
use mathlib.Core.Bool.{Bool, ◌&&◌, ◌||◌}
use Prim.Native.Nat.{◌+◌, ◌*◌, ◌/◌, ◌%◌, ◌^◌, ◌<◌}
use lib.Dec.{eqb}
use Rattle.best.proofs.Squares.{carried_held, g_small, Parts, parts, test_below, test_last}
use Rattle.best.proofs.is_less.Goals as goal
use Rattle.best.proofs.is_less.Goals.{After-low_product-low}

carried : (c : After-low_product-low) → c.high_product-carried.result < 2 ^ 32
carried c =
    carried_held _ _ _ _ _ c.high_product-high.ensures c.low_product-square.ensures c.high_product-carried.ensures
    c.requires.1

-- all above the last 74 bits
g_held : (c : After-low_product-low) → (c.high_product-high.result / 1024 * c.args.a + (c.high_product-high.result % 1024 * c.args.a + c.high_product-carried.result) / 1024) < 2 ^ 64
g_held c =
    g_small _ _ _ _ _ c.high_product-high.ensures c.low_product-square.ensures c.high_product-carried.ensures
    c.requires.1 c.requires.0

-- the product by its parts
in_parts : (c : After-low_product-low) →
    (Parts (c.args.m * c.args.m * c.args.a) (c.high_product-high.result / 1024 * c.args.a + (c.high_product-high.result % 1024 * c.args.a + c.high_product-carried.result) / 1024) ((c.high_product-high.result % 1024 * c.args.a + c.high_product-carried.result) % 1024) c.low_product-low.result)
in_parts c =
    parts _ _ _ _ _ c.high_product-high.ensures c.low_product-square.ensures c.high_product-carried.ensures c.requires.1
    _ c.low_product-low.ensures

pub returns-then-whole-b : goal.returns-then-whole-b
returns-then-whole-b c =
    sym (ap (λ (z : Bool). z || (eqb (c.args.m * c.args.m * c.args.a) (c.args.b * 2 ^ (c.args.t + 74)) && c.args.tie))
    (test_below _ _ _ _ _ _ (in_parts (goal.at.returns-then-whole-b c).After-low_product-low) c.if-whole-b.true))

pub returns : goal.returns
returns c = test_last _ _ _ _ _ _ (in_parts (goal.at.returns c).After-low_product-low) c.if-whole-b.false (g_held (goal.at.returns c).After-low_product-low) c.args.tie
