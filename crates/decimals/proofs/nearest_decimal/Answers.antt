-- `nearest_decimal` meets its contract: one exact division for n up to 2^53; else long division by 10^k, but for k = 0, and for
-- k = 1, where n / 10 may pass 2^54 and the division is by 640 of n * 64.
use Rattle.std.proofs.Common.{◌≡◌, ℕ, ◌*◌, ◌^◌, ◌≤◌, false, pos, sym, ap, ◌∙◌, mul-one, arith, lit<, le→leb}
use native.Mathlib.Nat.{pow-le-pow_right}
use lib.Ieee.{Float, in_float, of_int, div, round, binary64}
use lib.Ieee.Scale.{round_same}
use Rattle.decimals.proofs.Exact.{exact_decimal}
use Rattle.decimals.proofs.nearest_decimal.Goals as goal

pub int_to_float-result : goal.int_to_float-result
unfolding in_float
int_to_float-result c = le→leb c.args.n (2 ^ 53) (omega arith)

pub returns-then-n-le-MOST_EXACT : goal.returns-then-n-le-MOST_EXACT
returns-then-n-le-MOST_EXACT c =
    ap (λ (d : Float). div binary64 (of_int binary64 (pos c.args.n)) d) (c.nearest_u64_to_f64.ensures ∙ ap (λ (d : ℕ). of_int binary64 (pos d)) c.pow10.ensures)
    ∙ exact_decimal c.args.n c.args.k (omega arith) (omega arith)

pub returns-then-k-eq0 : goal.returns-then-k-eq0
unfolding of_int
returns-then-k-eq0 c = c.nearest_u64_to_f64-then-k-eq0.ensures ∙ ap (λ (k : ℕ). round binary64 false c.args.n (10 ^ k)) (sym c.if-k-eq0.true)

pub returns-then-k-eq1 : goal.returns-then-k-eq1
returns-then-k-eq1 c =
    c.nearest_scaled.ensures
    ∙ round_same binary64 false (c.args.n * 64) 640 c.args.n 10 (lit< tt) (lit< tt) (omega arith)
    ∙ ap (λ (k : ℕ). round binary64 false c.args.n (10 ^ k)) (sym c.if-k-eq1.true)

pub nearest_scaled-requires-2 : goal.nearest_scaled-requires-2
nearest_scaled-requires-2 c =
    let e : c.pow10-2.result ≡ 10 ^ c.args.k = c.pow10-2.ensures in
    let lo : 10 ^ 2 ≤ 10 ^ c.args.k = pow-le-pow_right {n = 10} (lit< tt) {i = 2} {j = c.args.k} (omega arith) in
    let hi : 10 ^ c.args.k ≤ 10 ^ 18 = pow-le-pow_right {n = 10} (lit< tt) {i = c.args.k} {j = 18} (omega arith) in
    omega arith

pub returns : goal.returns
returns c =
    c.nearest_scaled-2.ensures
    ∙ ap (λ (n : ℕ). round binary64 false n c.pow10-2.result) (mul-one c.args.n)
    ∙ ap (λ (d : ℕ). round binary64 false c.args.n d) c.pow10-2.ensures
