-- `scaled_far` meets its contract: m * 10^d is p of 2^31 and l, and half of p / 2^(t - 32) is rounded by hand.
-- The bounds: p stays below 2^40.
use mathlib.Core.Path.{sym, ap, ◌∙◌}
use Prim.Native.Nat.{ℕ, ◌+◌, ◌-◌, ◌*◌, ◌/◌, ◌%◌, ◌^◌, ◌≤◌, ◌<◌}
use native.Mathlib.Omega.{arith}
use native.Mathlib.Nat.{mul-le-mul, div-le_self, mod-le, mod-lt}
use lib.Dec.{lit<}
use lib.Ieee.Nearest.{closest}
use Rattle.rounding.specs.Nearest.{rounded_half}
use Rattle.integers.proofs.Tens.{ten_le}
use Rattle.fixed.proofs.Scale.{split_product, scaled_is}
use borrow.Author.Rules.{rules}
use Rattle.fixed.proofs.scaled_far.Goals as goal
use Rattle.fixed.proofs.scaled_far.Goals.{After-pow10-ten}

small_ten : (c : After-pow10-ten) → c.pow10-ten.result ≤ 10 ^ 4
small_ten c = rw c.pow10-ten.ensures (ten_le c.args.d 4 (omega arith))

low_le : (c : After-pow10-ten) → c.args.m % 2 ^ 31 * c.pow10-ten.result ≤ 2 ^ 31 * 10 ^ 4
low_le c =
    let small_ten : c.pow10-ten.result ≤ 10 ^ 4 = rw c.pow10-ten.ensures (ten_le c.args.d 4 (omega arith)) in
    mul-le-mul {n₁ = c.args.m % 2 ^ 31} {n₂ = 2 ^ 31} (omega arith) small_ten

high_le : (c : After-pow10-ten) → c.args.m / 2 ^ 31 * c.pow10-ten.result ≤ 2 ^ 23 * 10 ^ 4
high_le c =
    let small_ten : c.pow10-ten.result ≤ 10 ^ 4 = rw c.pow10-ten.ensures (ten_le c.args.d 4 (omega arith)) in
    mul-le-mul {n₁ = c.args.m / 2 ^ 31} {n₂ = 2 ^ 23} (omega arith) small_ten

whole_lt : (c : After-pow10-ten) → (c.args.m / 2 ^ 31 * c.pow10-ten.result + c.args.m % 2 ^ 31 * c.pow10-ten.result / 2 ^ 31) < 2 ^ 40
whole_lt c =
    let small_ten : c.pow10-ten.result ≤ 10 ^ 4 = rw c.pow10-ten.ensures (ten_le c.args.d 4 (omega arith)) in
    let low_le : c.args.m % 2 ^ 31 * c.pow10-ten.result ≤ 2 ^ 31 * 10 ^ 4 = mul-le-mul {n₁ = c.args.m % 2 ^ 31} {n₂ = 2 ^ 31} (omega arith) small_ten in
    let high_le : c.args.m / 2 ^ 31 * c.pow10-ten.result ≤ 2 ^ 23 * 10 ^ 4 = mul-le-mul {n₁ = c.args.m / 2 ^ 31} {n₂ = 2 ^ 23} (omega arith) small_ten in
    omega (arith, low_le, high_le)

pub overflow_mul-low : goal.overflow_mul-low
overflow_mul-low c = omega (arith, low_le c)

pub overflow_mul-p : goal.overflow_mul-p
overflow_mul-p c = omega (arith, high_le c)

pub overflow_add-p : goal.overflow_add-p
overflow_add-p c = omega (arith, low_le c, high_le c)

pub overflow_add-under : goal.overflow_add-under
overflow_add-under c = omega (arith, c.under.ensures, mod-le (c.args.m / 2 ^ 31 * c.pow10-ten.result + c.args.m % 2 ^ 31 * c.pow10-ten.result / 2 ^ 31) (2 ^ (c.args.t - 32)), whole_lt (goal.at.overflow_add-under c).After-pow10-ten, small_ten (goal.at.overflow_add-under c).After-pow10-ten)

pub rounded_half-requires : goal.rounded_half-requires
rounded_half-requires c = omega (arith, c.above.ensures, div-le_self (c.args.m / 2 ^ 31 * c.pow10-ten.result + c.args.m % 2 ^ 31 * c.pow10-ten.result / 2 ^ 31) (2 ^ (c.args.t - 32)), whole_lt (goal.at.rounded_half-requires c).After-pow10-ten)

pub returns : goal.returns
returns c =
    let l = c.args.m % 2 ^ 31 * c.pow10-ten.result % 2 ^ 31 in
    c.rounded_half.ensures
    ∙ ap (λ (x : ℕ). rounded_half x (c.under.result + l)) c.above.ensures
    ∙ ap (λ (x : ℕ). rounded_half ((c.args.m / 2 ^ 31 * c.pow10-ten.result + c.args.m % 2 ^ 31 * c.pow10-ten.result / 2 ^ 31) / 2 ^ (c.args.t - 32)) (x + l)) c.under.ensures
    ∙ sym (scaled_is (c.args.m * c.pow10-ten.result) (c.args.m / 2 ^ 31 * c.pow10-ten.result + c.args.m % 2 ^ 31 * c.pow10-ten.result / 2 ^ 31) l (c.args.t - 32) c.args.t (omega arith) (split_product c.args.m c.pow10-ten.result) (mod-lt (c.args.m % 2 ^ 31 * c.pow10-ten.result) (lit< tt)))
    ∙ ap (λ (x : ℕ). closest (c.args.m * x) (2 ^ c.args.t)) c.pow10-ten.ensures
