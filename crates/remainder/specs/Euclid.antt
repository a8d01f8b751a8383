-- Euclidean division of two f64s as Rust's std has it: document 01, "All other float steps are the Rust's own". Assumes nothing.
use Rattle.std.specs.Prelude.{Float}
use Rattle.std.specs.Float.{binary64}
use Rattle.std.specs.Float.Ieee.{add, sub, div, rem, lt}
use Rattle.base.specs.Said.{pick}
use Rattle.floats.specs.Floats.{zero_f, one_f, abs, trunc}

-- f64::rem_euclid: the remainder, moved up by |b| where it is below zero
abbrev pub rem_euclid : Float → Float → Float
rem_euclid a b = pick (lt (rem binary64 a b) zero_f) (add binary64 (rem binary64 a b) (abs b)) (rem binary64 a b)

-- f64::div_euclid: the whole part of the quotient, one away where the remainder is below zero
abbrev pub div_euclid : Float → Float → Float
div_euclid a b =
    pick (lt (rem binary64 a b) zero_f)
    (pick (lt zero_f b) (sub binary64 (trunc (div binary64 a b)) one_f) (add binary64 (trunc (div binary64 a b)) one_f))
    (trunc (div binary64 a b))
