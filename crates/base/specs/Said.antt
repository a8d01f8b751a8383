-- What a call answers, in document 01's words: a value, or the number and the detail of a refusal. `outcome` reads a call's
-- `Result` so, and the contracts speak of what is said. Assumes nothing.
use Rattle.std.specs.Prelude.{◌≡◌, ℕ, ◌≤◌, Bool, true, false, Result, Ok, Err}
use Rattle.base.specs.Numbers.{number_of}
use Rattle.base.specs.declared.Refusal.{Refusal}

-- number 0 with its value, or a refusal: its number and its detail
pub data Said (A : Type 0) : Type 0 where
  gives : A → Said A
  refuses : ℕ → ℕ → Said A

-- number 0: a value is said, and no refusal
pub record Accepted {A : Type 0} (s : Said A) : Type 0 where
  pub value : A
  pub is : s ≡ gives value

-- what can be said: a refusal has one of 01's numbers, 1 to 18; a call of document 02 with another number says so by itself
pub data Numbered {A : Type 0} : Said A → Type 0 where
  value : (a : A) → Numbered (gives a)
  number : {n d : ℕ} → 1 ≤ n → n ≤ 18 → Numbered (refuses n d)

-- the same, or this one number more
pub data NumberedOr {A : Type 0} (more : ℕ) : Said A → Type 0 where
  known : {s : Said A} → Numbered s → NumberedOr more s
  other : {d : ℕ} → NumberedOr more (refuses more d)

-- what a `Refusal` says
abbrev pub refusal : {A : Type 0} → Refusal → Said A
refusal r = refuses (number_of r.reason) r.detail

-- what a result says whose value is read by `f`, and its refusal's number by `n` and its detail by `d`
abbrev pub said_by : {R A B : Type 0} → (R → ℕ) → (R → ℕ) → (A → B) → Result A R → Said B
said_by n d f (Ok a) = gives (f a)
said_by n d f (Err r) = refuses (n r) (d r)

-- what a result says whose value is read by `f`
abbrev pub outcome_by : {A B : Type 0} → (A → B) → Result A Refusal → Said B
outcome_by = said_by (λ r. number_of r.reason) (λ r. r.detail)

-- what a result says
abbrev pub outcome : {A : Type 0} → Result A Refusal → Said A
outcome = outcome_by (λ a. a)

-- where a test holds the first, else the second
abbrev pub pick : {A : Type 0} → Bool → A → A → A
pick true a b = a
pick false a b = b

-- a value goes on to the next step; a refusal is the answer
abbrev pub and_then : {A B : Type 0} → Said A → (A → Said B) → Said B
and_then (gives a) f = f a
and_then (refuses n d) f = refuses n d

-- "leaves one possible result": two results of which a contract `says r ≡ s` holds are equal
abbrev pub One : {A B : Type 0} → (A → B) → B → Type 0
One {A} {B} says s = (x y : A) → says x ≡ s → says y ≡ s → x ≡ y
