-- For each input a function of this crate has one possible result, and the value behind its pointer one possible state after it.
-- Assumes nothing.
use Rattle.std.specs.Prelude.{Result}
use Rattle.key.specs.declared.PianoKey.{PianoKey}
use Rattle.key.specs.declared.Degree.{Degree}
use Rattle.scl.specs.declared.Scl.{Scl}
use Rattle.pitch.specs.declared.Pitch.{Pitch}
use Rattle.pitch.specs.declared.Ratio.{Ratio}
use Prim.Native.Nat.{ℕ}
use lib.IntN.{ℤ}
use lib.Ieee.{Float}
use Rattle.base.specs.Said.{Said, One, said_by}
use Rattle.base.proofs.Said.{one_result}
use Rattle.telbijan_answers.specs.Interface.{code, result, kept, field_of}

-- of what s says: one result, and one value stored
stored_one : {A : Type 0} (s : Said A) (old : A) → One (λ r. r) (result s) × One (λ v. v) (kept s old)
stored_one s old = (one_result (result s), one_result (kept s old))

-- a refusal of any type, by its number and its detail
module _ {R : Type 0} (number detail : R → ℕ) where
  pub code_of_one : (refusal : R) → One (λ r. r) (code (number refusal) (detail refusal))
  code_of_one refusal = one_result (code (number refusal) (detail refusal))

  pub answered_one : {A : Type 0} (answer : Result A R) → One (λ r. r) (result (said_by number detail (λ a. a) answer))
  answered_one answer = one_result (result (said_by number detail (λ a. a) answer))

  pub store_one : {A : Type 0} (answer : Result A R) (old : A) → One (λ r. r) (result (said_by number detail (λ a. a) answer))
      × One (λ v. v) (kept (said_by number detail (λ a. a) answer) old)
  store_one answer old = stored_one (said_by number detail (λ a. a) answer) old

  pub store_key_one : (answer : Result PianoKey R) (old : ℤ) → One (λ r. r) (result (said_by number detail (λ a. a) answer))
      × One (λ v. v) (kept (field_of (λ k. k.0) (said_by number detail (λ a. a) answer)) old)
  store_key_one answer old =
      let said = said_by number detail (λ a. a) answer in
      (one_result (result said), one_result (kept (field_of (λ k. k.0) said) old))

  pub store_ratio_one : (answer : Result Ratio R) (old : Float) → One (λ r. r) (result (said_by number detail (λ r. r.0) answer))
      × One (λ v. v) (kept (said_by number detail (λ r. r.0) answer) old)
  store_ratio_one answer old = stored_one (said_by number detail (λ r. r.0) answer) old

  pub store_pitch_one : (answer : Result Pitch R) (old : Float) → One (λ r. r) (result (said_by number detail (λ p. p.0) answer))
      × One (λ v. v) (kept (said_by number detail (λ p. p.0) answer) old)
  store_pitch_one answer old = stored_one (said_by number detail (λ p. p.0) answer) old

  pub store_degree_one : (answer : Result Degree R) (old : ℤ) → One (λ r. r) (result (said_by number detail (λ d. d.0) answer))
      × One (λ v. v) (kept (said_by number detail (λ d. d.0) answer) old)
  store_degree_one answer old = stored_one (said_by number detail (λ d. d.0) answer) old

  pub store_scl_one : (answer : Result Scl R) (old : ℕ) → One (λ r. r) (result (said_by number detail (λ s. s.count) answer))
      × One (λ v. v) (kept (said_by number detail (λ s. s.count) answer) old)
  store_scl_one answer old = stored_one (said_by number detail (λ s. s.count) answer) old
