-- Two results of one input are equal: the general law, of which each public call has a line. Assumes nothing.
use mathlib.Core.Path.{◌≡◌, refl, sym, ◌∙◌, ap}
use mathlib.Core.Bool.{Bool, true, false}
use Prim.Native.Nat.{ℕ}
use native.Mathlib.Omega.{arith}
use lib.Dec.{eqb}
use Rattle.std.specs.Prelude.{Result, Ok, Err}
use Rattle.base.specs.Numbers.{number_of}
use Rattle.base.specs.Said.{Said, gives, refuses, refusal, outcome, outcome_by, Numbered, NumberedOr, pick, and_then, One}
use Rattle.base.specs.declared.Reason.{Reason}
use Rattle.base.specs.declared.Reason.TheVariants as reason
use Rattle.base.specs.declared.Refusal.{Refusal}
use Rattle.base.specs.declared.AnyRefusal.{AnyRefusal}

-- a contract `r ≡ s` leaves one result
pub one_result : {A : Type 0} (s : A) → One (λ r. r) s
one_result s x y p q = p ∙ sym q

-- a reason has one number
pub number_one : (r : Reason) → One (λ n. n) (number_of r)
number_one r = one_result (number_of r)

-- a refusal has one number and one detail
pub number_Refusal_one : (r : Refusal) → One (λ n. n) (number_of r.reason)
number_Refusal_one r = one_result (number_of r.reason)

pub detail_Refusal_one : (r : Refusal) → One (λ n. n) r.detail
detail_Refusal_one r = one_result r.detail

pub number_AnyRefusal_one : (r : AnyRefusal) → One (λ n. n) r.number
number_AnyRefusal_one r = one_result r.number

pub detail_AnyRefusal_one : (r : AnyRefusal) → One (λ n. n) r.detail
detail_AnyRefusal_one r = one_result r.detail

-- the reason of a number; some reason where it is no reason's
abbrev reason_of : ℕ → Reason
reason_of n =
    pick (eqb n 1) reason.NotUtf8 (
    pick (eqb n 2) reason.LineMissing (
    pick (eqb n 3) reason.IntValue (
    pick (eqb n 4) reason.CentsValue (
    pick (eqb n 5) reason.Numer (
    pick (eqb n 6) reason.Denom (
    pick (eqb n 7) reason.FloatValue (
    pick (eqb n 8) reason.KeyboardMapping (
    pick (eqb n 9) reason.UnsupportedNumeral (
    pick (eqb n 10) reason.Unusable (
    pick (eqb n 11) reason.Overflow (
    pick (eqb n 12) reason.NoRoom (
    pick (eqb n 13) reason.TooLarge (
    pick (eqb n 14) reason.InconsistentCount (
    pick (eqb n 15) reason.FormalOctaveMissing (
    pick (eqb n 16) reason.KeyOutOfRange (
    pick (eqb n 17) reason.UnmappedKey (
    pick (eqb n 18) reason.BeyondReach (
    pick (eqb n 19) reason.ReferenceUnmapped (
    pick (eqb n 25) reason.BackwardsRange (
    reason.NoFraction))))))))))))))))))))

-- the number determines the reason
back : (r : Reason) → reason_of (number_of r) ≡ r
back reason.NotUtf8 = refl
back reason.LineMissing = refl
back reason.IntValue = refl
back reason.CentsValue = refl
back reason.Numer = refl
back reason.Denom = refl
back reason.FloatValue = refl
back reason.KeyboardMapping = refl
back reason.UnsupportedNumeral = refl
back reason.Unusable = refl
back reason.Overflow = refl
back reason.NoRoom = refl
back reason.TooLarge = refl
back reason.InconsistentCount = refl
back reason.FormalOctaveMissing = refl
back reason.KeyOutOfRange = refl
back reason.UnmappedKey = refl
back reason.BeyondReach = refl
back reason.ReferenceUnmapped = refl
back reason.BackwardsRange = refl
back reason.NoFraction = refl

pub same_reason : (r s : Reason) → number_of r ≡ number_of s → r ≡ s
same_reason r s e = sym (back r) ∙ ap reason_of e ∙ back s

-- a refusal said determines the refusal
pub same_refusal : {A : Type 0} (r s : Refusal) → refusal {A = A} r ≡ refusal {A = A} s → r ≡ s
same_refusal r s e =
    let n : r.reason ≡ s.reason = same_reason r.reason s.reason cc in
    let d : r.detail ≡ s.detail = cc in
    λ i. record { reason = n i; detail = d i }

-- a value said determines the value
pub same_value : {A : Type 0} (x y : A) → gives x ≡ gives y → x ≡ y
same_value x y e = cc

-- a refusal is no value, nor a value a refusal
pub no_value : {A B : Type 0} {a : A} {n d : ℕ} → refuses n d ≡ gives a → B
no_value e = let z : ◌≡◌ {A = ℕ} 0 1 = cc in absurd (omega arith)

pub no_refusal : {A B : Type 0} {a : A} {n d : ℕ} → gives a ≡ refuses n d → B
no_refusal e = no_value (sym e)

-- two refusals are one
pub same_refuses : {A : Type 0} {a b c d : ℕ} → ◌≡◌ {A = Said A} (refuses a b) (refuses c d) → (a ≡ c) × (b ≡ d)
same_refuses e = (cc, cc)

-- and so does what a result says, where what is read of a value tells it from another
module _ {A B : Type 0} (f : A → B) (apart : (a b : A) → f a ≡ f b → a ≡ b) where
  same_said : (x y : Result A Refusal) → outcome_by f x ≡ outcome_by f y → x ≡ y
  same_said (Ok a) (Ok b) e = ap Ok (apart a b (same_value _ _ e))
  same_said (Ok a) (Err s) e = no_refusal e
  same_said (Err r) (Ok b) e = no_value e
  same_said (Err r) (Err s) e = ap Err (same_refusal r s e)

  pub one_read : (s : Said B) → One (outcome_by f) s
  one_read s x y p q = same_said x y (p ∙ sym q)

-- where the value said is the value itself
same_plain : {A : Type 0} (x y : Result A Refusal) → outcome x ≡ outcome y → x ≡ y
same_plain (Ok a) (Ok b) e = ap Ok (same_value a b e)
same_plain (Ok a) (Err s) e = no_refusal e
same_plain (Err r) (Ok b) e = no_value e
same_plain (Err r) (Err s) e = ap Err (same_refusal r s e)

pub one_said : {A : Type 0} (s : Said A) → One outcome s
one_said s x y p q = same_plain x y (p ∙ sym q)

-- a step that goes on from an answer: x is what a call answered, told what its contract says of it, and x' what a match made of it
pub and_then_law : {X A B : Type 0} (says : X → Said A) (f : A → Said B) {x x' : X} {s : Said A} → says x ≡ s → x ≡ x' → and_then (says x') f ≡ and_then s f
and_then_law says f told is = ap (λ s. and_then s f) (ap says (sym is) ∙ told)

-- a refusal keeps its number through a test and through a step
pub numbered_pick : {A : Type 0} (b : Bool) {x y : Said A} → Numbered x → Numbered y → Numbered (pick b x y)
numbered_pick true p q = p
numbered_pick false p q = q

pub numbered_then : {A B : Type 0} {s : Said A} {f : A → Said B} → Numbered s → ((a : A) → Numbered (f a)) → Numbered (and_then s f)
numbered_then (Numbered.value a) m = m a
numbered_then (Numbered.number low high) m = Numbered.number low high

-- and so with one number more
module _ {more : ℕ} where
  pub or_pick : {A : Type 0} (b : Bool) {x y : Said A} → NumberedOr more x → NumberedOr more y → NumberedOr more (pick b x y)
  or_pick true p q = p
  or_pick false p q = q

  pub or_then : {A B : Type 0} {s : Said A} {f : A → Said B} → NumberedOr more s → ((a : A) → NumberedOr more (f a)) → NumberedOr more (and_then s f)
  or_then (NumberedOr.known (Numbered.value a)) m = m a
  or_then (NumberedOr.known (Numbered.number low high)) m = NumberedOr.known (Numbered.number low high)
  or_then NumberedOr.other m = NumberedOr.other
