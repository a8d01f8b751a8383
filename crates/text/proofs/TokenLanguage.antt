-- THE THEOREM OF TOKENS: a token is the one part up to the first space, tab, LF, form feed or CR
-- (document 01, "Lines"). Assumes nothing.
use mathlib.Core.Path.{◌≡◌, refl, sym, ◌∙◌, ap}
use mathlib.Core.List.{List, [], ◌∷◌, ◌++◌}
use mathlib.Core.Bool.{Bool, true, false}
use mathlib.Core.Logic.{◌↔◌, ◌⊎◌, inl, inr}
use Prim.Native.Nat.{ℕ, suc, ◌≤◌}
use native.Mathlib.Omega.{arith}
use lib.Dec.{eqb}
use lib.ListN.{length, take}
use lib.Seq.{take_at}
use borrow.Author.Tests.{eq-eqb, eqb-true}
use Rattle.base.specs.Said.{pick}
use Rattle.base.proofs.Pick.{true_not_false}
use Rattle.utf8.specs.Characters.{Each, span, Among}
use Rattle.text.specs.Reading.{Splits, Stops, Token}
use Rattle.text.specs.ReadLine.{splits, token_length}

-- where one of a row of tests on b holds, b is among their numbers, and the other way round
among_one : (n b : ℕ) {A : Type 0} {x : Bool} → (x ≡ true) ↔ A → (pick (eqb b n) true x ≡ true) ↔ (((n ≤ b) × (b ≤ n)) ⊎ A)
among_one n b {A} {x} f = (to (eqb b n) refl, back)
  where
    to : (t : Bool) → eqb b n ≡ t → pick t true x ≡ true → ((n ≤ b) × (b ≤ n)) ⊎ A
    to true p q = let e = eqb-true b n p in inl (omega arith, omega arith)
    to false p q = inr (f.0 q)

    always : (t : Bool) → pick t true true ≡ true
    always true = refl
    always false = refl

    back : ((n ≤ b) × (b ≤ n)) ⊎ A → pick (eqb b n) true x ≡ true
    back (inl h) = rw (eq-eqb b n (omega (arith, h.0, h.1)))
    back (inr a) = rw (f.1 a) (always (eqb b n))

among_last : (n b : ℕ) → (eqb b n ≡ true) ↔ Among (span n n ∷ []) b
among_last n b = (λ e. let p = eqb-true b n e in inl (omega arith, omega arith), back)
  where
    back : Among (span n n ∷ []) b → eqb b n ≡ true
    back (inl h) = eq-eqb b n (omega (arith, h.0, h.1))
    back (inr h) = absurd h

-- the code's test is the set
pub splits_is : (b : ℕ) → (splits b ≡ true) ↔ Splits b
splits_is b = among_one 32 b (among_one 9 b (among_one 10 b (among_one 12 b (among_last 13 b))))

-- a token and one byte more that does not split
token_more : (b : ℕ) (m t : List ℕ) → (Splits b → ⊥) → Token m t → Token (b ∷ m) (b ∷ t)
token_more b m t n x = record { rest = x.rest; whole = ap (λ (l : List ℕ). b ∷ l) x.whole; inside = (n, x.inside); stops = x.stops }

-- what the code takes is the token
pub token : (m : List ℕ) → Token m (take (token_length m) m)
unfolding token_length
token [] = record { rest = []; whole = refl; inside = tt; stops = tt }
token (b ∷ m) = go (splits b) refl (token m)
  where
    go : (x : Bool) → splits b ≡ x → Token m (take (token_length m) m) → Token (b ∷ m) (take (pick x 0 (suc (token_length m))) (b ∷ m))
    go true e t = record { rest = b ∷ m; whole = refl; inside = tt; stops = (splits_is b).0 e }
    go false e t = token_more b m (take (token_length m) m) (λ s. true_not_false (sym ((splits_is b).1 s) ∙ e)) t

-- and nothing else is
token_reach : (t r : List ℕ) → Each (λ b. Splits b → ⊥) t → Stops r → token_length (t ++ r) ≡ length t
unfolding token_length
token_reach [] [] x s = refl
token_reach [] (b ∷ r) x s = rw ((splits_is b).1 s)
token_reach (b ∷ t) r x s = go (splits b) refl (token_reach t r x.1 s)
  where
    go : (y : Bool) → splits b ≡ y → token_length (t ++ r) ≡ length t → pick y 0 (suc (token_length (t ++ r))) ≡ suc (length t)
    go true e h = absurd (x.0 ((splits_is b).0 e))
    go false e h = ap suc h

pub one_token : (m t : List ℕ) → Token m t → take (token_length m) m ≡ t
one_token m t x = rw x.whole (take_at t x.rest (token_length (t ++ x.rest)) (sym (token_reach t x.rest x.inside x.stops)))
