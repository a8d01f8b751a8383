-- The result says the whole part of q as an i32, or 18 where q is outside.
-- No loop; inside, the 64-bit conversion and the cast keep the number (Counts.antt).
use Rattle.std.proofs.Common.{◌≡◌, ℤ, ap, ◌∙◌, w32, w64, SFits, to_z, of_z}
use lib.Ieee.{of_bits, neg, to_signed}
use lib.Ieee.Casts.{to_signed_in}
use mir.ValLaws.{to_z-of_z}
use Rattle.base.specs.Said.{gives}
use Rattle.floats.proofs.Counts.{in31, in63, same_signed}
use Rattle.floats.proofs.count_of.Goals as goal
use Rattle.floats.proofs.count_of.Goals.{After-truncating_f64_to_i64}

pub truncating_f64_to_i64-requires : goal.truncating_f64_to_i64-requires
unfolding of_bits neg
truncating_f64_to_i64-requires c =
    let within = in63 (in31 c.args.q c.if-q.true c.if-q-2.true) in
    record { lower_bound = within.0; upper_bound = within.1 }

-- what the callee gives is the i32
is : (c : After-truncating_f64_to_i64) → to_z w64 (of_z w64 c.truncating_f64_to_i64.result) ≡ to_signed 31 c.args.q
unfolding of_bits neg
is c =
    to_z-of_z w64 c.truncating_f64_to_i64.result (record { sfits = c.truncating_f64_to_i64.type_inv })
    ∙ c.truncating_f64_to_i64.ensures
    ∙ same_signed (in31 c.args.q c.if-q.true c.if-q-2.true)

fits32 : (c : After-truncating_f64_to_i64) → SFits w32 (to_signed 31 c.args.q)
fits32 c = record { sfits = to_signed_in 31 c.args.q }

pub overflow_cast-result : goal.overflow_cast-result
overflow_cast-result c = rw (is (goal.at.overflow_cast-result c).After-truncating_f64_to_i64) (fits32 (goal.at.overflow_cast-result c).After-truncating_f64_to_i64)

pub returns-then-q-2 : goal.returns-then-q-2
unfolding of_bits neg
returns-then-q-2 c =
    rw (c.if-q.true, c.if-q-2.true)
    (ap (λ (z : ℤ). gives (to_z w32 (of_z w32 z))) (is (goal.at.returns-then-q-2 c).After-truncating_f64_to_i64) ∙ ap gives (to_z-of_z w32 (to_signed 31 c.args.q) (fits32 (goal.at.returns-then-q-2 c).After-truncating_f64_to_i64)))

pub returns-else-q-2 : goal.returns-else-q-2
unfolding of_bits neg
returns-else-q-2 c = rw (c.if-q.true, c.if-q-2.false)

pub returns-else-q : goal.returns-else-q
unfolding of_bits neg
returns-else-q c = rw c.if-q.false
