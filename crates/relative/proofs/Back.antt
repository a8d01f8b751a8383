-- From a value that a step or a test gave back to what came before it. Assumes nothing.
use mathlib.Core.Path.{◌≡◌, refl}
use mathlib.Core.Bool.{Bool, true, false}
use Prim.Native.Nat.{ℕ}
use Rattle.base.specs.Said.{Said, gives, refuses, pick, and_then}
use Rattle.scl_tables.proofs.Answered.{never}

pub then_given : {A B : Type 0} (s : Said A) (f : A → Said B) {v : B} → and_then s f ≡ gives v → (a : A) × ((s ≡ gives a) × (f a ≡ gives v))
then_given (gives a) f e = (a, (refl, e))
then_given (refuses n d) f e = never e refl

pub pick_given : {A : Type 0} (b : Bool) (s : Said A) (n : ℕ) {v : A} → pick b s (refuses n 0) ≡ gives v → (b ≡ true) × (s ≡ gives v)
pick_given true s n e = (refl, e)
pick_given false s n e = never e refl

pub pick_other : {A : Type 0} (b : Bool) (s : Said A) (n : ℕ) {v : A} → pick b (refuses n 0) s ≡ gives v → s ≡ gives v
pick_other true s n e = never e refl
pick_other false s n e = e
