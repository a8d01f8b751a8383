-- A tested call goes on from its value as a whole: what refuses it is the answer. Assumes nothing.
use Rattle.std.specs.Prelude.{◌≡◌, Bool, true, false}
use mathlib.Core.Path.{refl}
use Rattle.base.specs.Said.{Said, and_then}
use Rattle.relative.specs.Scales.{tested}

pub then_tested : {A B : Type 0} (test : Bool) (s : Said A) (f : A → Said B) → and_then (tested test s) f ≡ tested test (and_then s f)
then_tested true s f = refl
then_tested false s f = refl
