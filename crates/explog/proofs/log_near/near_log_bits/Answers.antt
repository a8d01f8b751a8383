-- The result is B: by `decided` of Close.antt where the tests hold, else L's turns give it.
-- No loop.
use Rattle.std.proofs.Common.{ℕ, ◌^◌, ◌<◌, sym, refl, ap, ◌∙◌, subst, arith, lit<, lit≤, rules}
use Rattle.powers.specs.Log.{b_of}
use Rattle.powers.proofs.Turns.{b_size}
use Rattle.explog.proofs.Close.{divisor, sum_below, decided, none}
use Rattle.explog.proofs.log_near.near_log_bits.Goals as goal

pub overflow_add-q : goal.overflow_add-q
overflow_add-q c = omega (arith, c.root_power-q.ensures.below)

pub mul_shift62-requires : goal.mul_shift62-requires
mul_shift62-requires c = (omega (arith, c.root_power-q.ensures.below), sum_below _ _ c.if-t-lt-MOST_LAST.true (lit< tt))

pub mul_shift62-requires-then-mul_shift62-y : goal.mul_shift62-requires-then-mul_shift62-y
mul_shift62-requires-then-mul_shift62-y c = (omega (arith, c.root_power-q.ensures.below), sum_below _ _ c.if-t-lt-MOST_LAST.true (lit< tt))

pub returns-then-y-eq-ONE : goal.returns-then-y-eq-ONE
returns-then-y-eq-ONE c = record { is = sym (ap (λ (x : ℕ). b_of x 52) c.if-y-eq-ONE.true ∙ none); below = lit< tt }

pub returns-then-y-mul_shift62 : goal.returns-then-y-mul_shift62
returns-then-y-mul_shift62 c =
    let e = decided _ _ c.if-t-lt-MOST_LAST.true refl c.args.y _ _ _ _ _ c.requires.0 c.requires.1 c.rough_log-h.ensures c.root_power-q.ensures (lit≤ tt) (lit≤ tt) (lit≤ tt)
    (subst (λ (x : ℕ). x < c.args.y) c.mul_shift62.ensures c.if-mul_shift62-y.true)
    (subst (λ (x : ℕ). c.args.y < x) c.mul_shift62-then-mul_shift62-y.ensures c.if-y-mul_shift62.true) in
    record { is = sym e; below = subst (λ (x : ℕ). x < 2 ^ 52) e (b_size c.args.y 52) }
