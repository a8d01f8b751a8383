-- `scaled` meets its contract: below 2^32 the fraction is taken to 2^32.
-- The bound: what is shifted stays below 2^33.
use mathlib.Core.Path.{◌≡◌, ap, ◌∙◌, sym}
use Prim.Native.Nat.{ℕ, ◌+◌, ◌-◌, ◌*◌, ◌%◌, ◌^◌, ◌<◌}
use native.Mathlib.Omega.{arith}
use native.Mathlib.Nat.{mod-eq_of_lt}
use lib.Ieee.Nearest.{closest}
use Rattle.fixed.proofs.Scale.{closest_shift, shifted_small}
use borrow.Author.Rules.{rules}
use Rattle.fixed.proofs.scaled.Goals as goal
use Rattle.fixed.proofs.scaled.Goals.{Then-t-lt32}

small : (c : Then-t-lt32) → c.args.m * 2 ^ (32 - c.args.t) < 2 ^ 33
small c = shifted_small c.args.m c.args.t c.if-t-lt32.true c.requires.1

shifted : (c : Then-t-lt32) → c.args.m * 2 ^ (32 - c.args.t) % 2 ^ 64 ≡ c.args.m * 2 ^ (32 - c.args.t)
shifted c =
    let small : c.args.m * 2 ^ (32 - c.args.t) < 2 ^ 33 = shifted_small c.args.m c.args.t c.if-t-lt32.true c.requires.1 in
    mod-eq_of_lt {n = c.args.m * 2 ^ (32 - c.args.t)} {m = 2 ^ 64} (omega (arith, small))

pub scaled_far-requires : goal.scaled_far-requires
scaled_far-requires c = omega (arith, shifted c, small c)

pub returns-then-t-lt32 : goal.returns-then-t-lt32
returns-then-t-lt32 c =
    let z : 32 - c.args.t + c.args.t ≡ 32 = omega arith in
    c.scaled_far.ensures
    ∙ ap (λ (x : ℕ). closest (x * 10 ^ c.args.d) (2 ^ 32)) (shifted (goal.at.returns-then-t-lt32 c).Then-t-lt32)
    ∙ ap (λ (x : ℕ). closest (c.args.m * 2 ^ (32 - c.args.t) * 10 ^ c.args.d) (2 ^ x)) (sym z)
    ∙ closest_shift c.args.m (10 ^ c.args.d) (32 - c.args.t) c.args.t
