-- "a public function's contract leaves one possible result" (document 01): a line for each public call. Assumes nothing.
use Rattle.std.proofs.Common.{◌≡◌, sym, refl, ◌∙◌, inl, inr}
use lib.Ieee.{Float}
use Rattle.base.specs.Said.{Said, One, outcome}
use Rattle.base.proofs.Said.{one_result, one_said}
use Rattle.floats.specs.Floats.{abs, trunc, floor, count}
use Rattle.floats.specs.Ranges.{within, in_reach, in_search, in_generator, in_pitch, negligible}
use Rattle.floats.specs.Units.{Unpacked}
use Rattle.integer_math.proofs.Theorems.{i32_one}
use Rattle.floats.specs.declared.Parts.{Parts}
use Rattle.floats.proofs.Units.{same_exponent, same_digits}

-- every call that answers a float or a refusal
pub float_one : (s : Said Float) → One outcome s
float_one = one_said

pub abs_of_one : (x : Float) → One (λ r. r) (abs x)
abs_of_one x = one_result (abs x)

pub trunc_of_one : (x : Float) → One (λ r. r) (trunc x)
trunc_of_one x = one_result (trunc x)

pub floor_of_one : (x : Float) → One (λ r. r) (floor x)
floor_of_one x = one_result (floor x)

pub count_of_one : (q : Float) → One outcome (count q)
count_of_one q = i32_one (count q)

-- the range tests
pub is_within_one : (low high x : Float) → One (λ r. r) (within low high x)
is_within_one low high x = one_result (within low high x)

pub is_in_reach_one : (x : Float) → One (λ r. r) (in_reach x)
is_in_reach_one x = one_result (in_reach x)

pub is_in_search_one : (x : Float) → One (λ r. r) (in_search x)
is_in_search_one x = one_result (in_search x)

pub is_in_generator_one : (x : Float) → One (λ r. r) (in_generator x)
is_in_generator_one x = one_result (in_generator x)

pub is_in_pitch_one : (x : Float) → One (λ r. r) (in_pitch x)
is_in_pitch_one x = one_result (in_pitch x)

pub is_negligible_one : (x : Float) → One (λ r. r) (negligible x)
is_negligible_one x = one_result (negligible x)

-- a finite f64 has one sign, one number of digits and one exponent
pub unpack_one : (x : Float) (p q : Parts) → Unpacked x p.negative p.digits p.exponent → Unpacked x q.negative q.digits q.exponent → p ≡ q
unpack_one x p q u v =
    let s : p.negative ≡ q.negative = u.sign ∙ sym v.sign in
    let k : p.exponent ≡ q.exponent = same_exponent u v in
    let d : p.digits ≡ q.digits = same_digits u v k in
    λ i. record { negative = s i; digits = d i; exponent = k i }
