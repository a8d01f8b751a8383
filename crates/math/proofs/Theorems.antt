-- What the calls of this crate mean, and that each has one result. Document 01, "What is taken", 1.
-- Assumes nothing.
use mathlib.Core.Path.{◌≡◌, refl, sym, ◌∙◌, subst}
use mathlib.Core.Logic.{◌↔◌, inl, inr}
use Prim.Native.Nat.{ℕ, zero, suc, ◌^◌, ◌<◌}
use native.Mathlib.Omega.{arith}
use lib.IntN.{ℤ}
use borrow.Author.Tests.{ne_eqb}
use Rattle.base.specs.Integers.{Divides, floor_div, floor_mod}
use Rattle.base.specs.Said.{gives, refuses, One, outcome}
use Rattle.base.proofs.Division.{floor_divides, divides_one}
use Rattle.base.proofs.Said.{one_result, one_said, one_read}
use Rattle.integer_math.proofs.Theorems.{i32_one}
use Rattle.math.specs.Answers.{says_division}
use Rattle.math.specs.Division.{QuotientAndRemainder, quotient_of, remainder_of, division_of}
use Rattle.math.specs.OddPart.{OddPart, odd_part}
use Rattle.math.specs.declared.Division.{Division}
use Rattle.math.proofs.OddPart.{halved_is, one_part}

-- both parts, from each
abbrev parts : ℤ → ℕ → QuotientAndRemainder
parts q r = record { quotient = q; remainder = r }

pub gives_parts : {q q' : ℤ} {r r' : ℕ} → q ≡ q' → r ≡ r' → gives (parts q r) ≡ gives (parts q' r')
gives_parts p e = λ i. gives (parts (p i) (e i))

-- "Denominator 0 gives 10"
pub zero_refuses : (z : ℤ) → (quotient_of z 0 ≡ refuses 10 0) × (remainder_of z 0 ≡ refuses 10 0) × (division_of z 0 ≡ refuses 10 0)
unfolding quotient_of remainder_of division_of
zero_refuses z = (refl, refl, refl)

-- any other denominator gives the one quotient and the one remainder
pub positive_gives : (z : ℤ) (s : ℕ) → 0 < s →
    (quotient_of z s ≡ gives (floor_div z s)) × (remainder_of z s ≡ gives (floor_mod z s)) × (division_of z s ≡ gives (parts (floor_div z s) (floor_mod z s)))
unfolding quotient_of remainder_of division_of
positive_gives z s h = let t = ne_eqb s 0 (λ e. omega (arith, e, h)) in (rw t, rw t, rw t)

given_positive : (z : ℤ) (s : ℕ) (p : QuotientAndRemainder) → division_of z s ≡ gives p → 0 < s
unfolding division_of
given_positive z zero p e = let no : ◌≡◌ {A = ℕ} 0 1 = cc in absurd (omega arith)
given_positive z (suc k) p e = omega arith

-- numer = q*denom + r, 0 <= r < denom: what is given divides, and what divides is given
pub division_gives : (z : ℤ) (s : ℕ) (p : QuotientAndRemainder) → (division_of z s ≡ gives p) ↔ Divides z s p.quotient p.remainder
division_gives z s p = (there, back)
  where
    there : division_of z s ≡ gives p → Divides z s p.quotient p.remainder
    there e =
        let h = given_positive z s p e in
        let given : gives (parts (floor_div z s) (floor_mod z s)) ≡ gives p = sym (positive_gives z s h).2 ∙ e in
        let same : parts (floor_div z s) (floor_mod z s) ≡ p = cc in
        subst (λ (p : QuotientAndRemainder). Divides z s p.quotient p.remainder) same (floor_divides z s h)

    back : Divides z s p.quotient p.remainder → division_of z s ≡ gives p
    back d =
        let h : 0 < s = omega (arith, d.rest) in
        (positive_gives z s h).2 ∙ gives_parts (sym (divides_one d).0) (sym (divides_one d).1)

-- ---- the odd part
-- what `odd_factors_u16` answers is the odd part of a number of 16 bits, and a number has one
pub odd_part_law : (n : ℕ) → n < 2 ^ 16 → OddPart n (odd_part n)
odd_part_law n h = halved_is 16 n h

pub odd_part_one : (n m m' : ℕ) → OddPart n m → OddPart n m' → m ≡ m'
odd_part_one n m m' = one_part

parts_of : Division → QuotientAndRemainder
parts_of d = parts d.quotient d.remainder

parts_apart : (a b : Division) → parts_of a ≡ parts_of b → a ≡ b
unfolding parts_of
parts_apart a b e = λ i. record { quotient = (e i).quotient; remainder = (e i).remainder }

pub i32_div_u_one : (z : ℤ) (s : ℕ) → One outcome (quotient_of z s)
i32_div_u_one z s = i32_one (quotient_of z s)

pub i32_rem_u_one : (z : ℤ) (s : ℕ) → One outcome (remainder_of z s)
i32_rem_u_one z s = one_said (remainder_of z s)

pub i32_dr_u_one : (z : ℤ) (s : ℕ) → One says_division (division_of z s)
unfolding parts_of
i32_dr_u_one z s = one_read parts_of parts_apart (division_of z s)

pub odd_factors_u16_one : (n : ℕ) → One (λ r. r) (odd_part n)
odd_factors_u16_one n = one_result (odd_part n)
