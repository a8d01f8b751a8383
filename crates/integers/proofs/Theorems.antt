-- The theorems of integers that a user of the readers cites: a text has one value, it is refused exactly when it is no integer
-- of the type, and two results of one input are equal. Assumes nothing.
use mathlib.Core.Path.{◌≡◌, refl, sym, ap, ◌∙◌}
use mathlib.Core.List.{List}
use mathlib.Core.Bool.{Bool, true, false}
use mathlib.Core.Logic.{◌↔◌}
use Prim.Native.Nat.{ℕ, ◌^◌, ◌<◌}
use native.Mathlib.Omega.{arith}
use lib.IntN.{ℤ, pos, nat_abs}
use Rattle.std.specs.Prelude.{Option, Some, None}
use Rattle.base.specs.Numbers.{int_value}
use Rattle.base.specs.Said.{One, outcome_by}
use Rattle.base.proofs.Said.{one_result, one_read}
use Rattle.base.proofs.Apart.{one_back}
use Rattle.integers.specs.AtLine.{int_at}
use Rattle.integers.specs.Integer.{Int, value, none, read_int, int_by}
use Rattle.integers.specs.IntegerText.{IntText}
use Rattle.integers.proofs.Language.{sound, complete}

module _ (sign : Bool) (top : ℕ) (h : 0 < top) (s : List ℕ) where
  -- a text is an integer of one value
  pub one_value : (y z : ℤ) → IntText sign top s y → IntText sign top s z → y ≡ z
  one_value y z p q =
      let e = complete sign top h y s p in
      let f = complete sign top h z s q in
      cc

  -- a text is refused exactly when it is no integer of the type
  pub refused : (none ≡ read_int sign top s) ↔ ((z : ℤ) → IntText sign top s z → ⊥)
  refused = (λ e z t. apart z (complete sign top h z s t ∙ sym e), λ f. by_case (read_int sign top s) refl f)
    where
      apart : (z : ℤ) → value z ≡ none → ⊥
      apart z e = let y : ◌≡◌ {A = ℕ} 0 1 = cc in omega arith

      by_case : (i : Int) → read_int sign top s ≡ i → ((z : ℤ) → IntText sign top s z → ⊥) → none ≡ read_int sign top s
      by_case (value z) e f = absurd (f z (sound sign top h z s (sym e)))
      by_case none e f = sym e

-- the answer that says an integer, by the value of a number
answer : {A : Type 0} → (ℤ → A) → Int → Option A
answer from (value z) = Some (from z)
answer from none = None

answer_same : {A : Type 0} (number : A → ℤ) (from : ℤ → A) → ((a : A) → from (number a) ≡ a) → (x : Option A) → answer from (int_by number x) ≡ x
unfolding answer
answer_same number from same (Some a) = ap Some (same a)
answer_same number from same None = refl

-- where a number has one value, what is read does too
pub read_one : {A : Type 0} (number : A → ℤ) (from : ℤ → A) → ((a : A) → from (number a) ≡ a) → (i : Int) → One (int_by number) i
read_one number from same i = one_back (int_by number) (answer from) (answer_same number from same) i

same_pos : (m n : ℕ) → pos m ≡ pos n → m ≡ n
same_pos m n e = cc

-- two results of one input are equal, for each type
module _ (s : List ℕ) where
  pub read_u16_one : One (int_by pos) (read_int false (2 ^ 16) s)
  read_u16_one = read_one pos nat_abs (λ n. refl) (read_int false (2 ^ 16) s)

  pub read_u32_one : One (int_by pos) (read_int false (2 ^ 32) s)
  read_u32_one = read_one pos nat_abs (λ n. refl) (read_int false (2 ^ 32) s)

  pub read_i16_one : One (int_by (λ z. z)) (read_int true (2 ^ 15) s)
  read_i16_one = read_one (λ z. z) (λ z. z) (λ z. refl) (read_int true (2 ^ 15) s)

  pub read_i32_one : One (int_by (λ z. z)) (read_int true (2 ^ 31) s)
  read_i32_one = read_one (λ z. z) (λ z. z) (λ z. refl) (read_int true (2 ^ 31) s)

-- and of a token at a line
module _ (token : List ℕ) (line : ℕ) where
  pub read_at_u16_one : One (outcome_by pos) (int_at int_value line (read_int false (2 ^ 16) token))
  read_at_u16_one = one_read pos same_pos (int_at int_value line (read_int false (2 ^ 16) token))

  pub read_at_u32_one : One (outcome_by pos) (int_at int_value line (read_int false (2 ^ 32) token))
  read_at_u32_one = one_read pos same_pos (int_at int_value line (read_int false (2 ^ 32) token))

  pub read_at_i16_one : One (outcome_by (λ z. z)) (int_at int_value line (read_int true (2 ^ 15) token))
  read_at_i16_one = one_read (λ z. z) (λ a b e. e) (int_at int_value line (read_int true (2 ^ 15) token))

  pub read_at_i32_one : One (outcome_by (λ z. z)) (int_at int_value line (read_int true (2 ^ 31) token))
  read_at_i32_one = one_read (λ z. z) (λ a b e. e) (int_at int_value line (read_int true (2 ^ 31) token))

-- an integer of each type has one number, and a number one integer
pub number_u16_one : (n : ℕ) → One (λ r. r) (pos n)
number_u16_one n = one_result (pos n)

pub number_u32_one : (n : ℕ) → One (λ r. r) (pos n)
number_u32_one n = one_result (pos n)

pub number_i16_one : (z : ℤ) → One (λ r. r) z
number_i16_one z = one_result z

pub number_i32_one : (z : ℤ) → One (λ r. r) z
number_i32_one z = one_result z

pub from_number_u16_one : (z : ℤ) → One pos z
from_number_u16_one z x y p q = same_pos x y (p ∙ sym q)

pub from_number_u32_one : (z : ℤ) → One pos z
from_number_u32_one z x y p q = same_pos x y (p ∙ sym q)

pub from_number_i16_one : (z : ℤ) → One (λ r. r) z
from_number_i16_one z = one_result z

pub from_number_i32_one : (z : ℤ) → One (λ r. r) z
from_number_i32_one z = one_result z

pub wide_one : (b : ℕ) → One (λ r. r) b
wide_one b = one_result b
