-- The laws of an integer at a line of a text: it is read exactly where the text is one, at every type; and it lies within its type.
-- Assumes nothing.
use mathlib.Core.Path.{◌≡◌, refl, sym, ◌∙◌, ap}
use mathlib.Core.Bool.{Bool, true, false, ◌&&◌}
use mathlib.Core.List.{List}
use mathlib.Core.Logic.{◌⊎◌, inl, inr}
use Prim.Native.Nat.{ℕ, zero, suc, ◌≤◌, ◌<◌}
use native.Mathlib.Omega.{arith}
use lib.IntN.{ℤ, pos, negsuc, nat_abs}
use lib.Signed.{le_z}
use borrow.Author.Tests.{le-leb}
use Rattle.base.specs.Said.{Said, gives, refuses, and_then}
use Rattle.base.proofs.Pick.{true_not_false}
use Rattle.base.proofs.Said.{same_value, no_value, no_refusal, same_refuses}
use Rattle.integers.specs.AtLine.{int_at}
use Rattle.integers.specs.Integer.{Int, value, none, read_int}
use Rattle.integers.specs.IntegerText.{IntText, NoInteger}
use Rattle.integers.proofs.Language.{sound, complete}
use Rattle.integers.proofs.Theorems.{refused}

-- INTEGERS, at every type: `on` is what is made of the value
module _ (number : ℕ) (sign : Bool) (top : ℕ) (some : 0 < top) (k : ℕ) (t : List ℕ) {A : Type 0} (on : ℤ → Said A) where
  -- read: there is an integer, and `on` gives
  pub int_gives : {a : A} → and_then (int_at number k (read_int sign top t)) on ≡ gives a → (z : ℤ) × IntText sign top t z × (on z ≡ gives a)
  int_gives {a} e = go (read_int sign top t) refl e
    where
      go : (i : Int) → read_int sign top t ≡ i → and_then (int_at number k i) on ≡ gives a → (z : ℤ) × IntText sign top t z × (on z ≡ gives a)
      go (value z) p q = (z, sound sign top some z t (sym p), q)
      go none p q = no_value q

  pub gives_int : {z : ℤ} → IntText sign top t z → and_then (int_at number k (read_int sign top t)) on ≡ on z
  gives_int {z} i = ap (λ i. and_then (int_at number k i) on) (sym (complete sign top some z t i))

  -- refused: there is none, or `on` refuses
  pub int_refuses : {n d : ℕ} → and_then (int_at number k (read_int sign top t)) on ≡ refuses n d →
      ((d ≡ k) × NoInteger number sign top t n) ⊎ ((z : ℤ) × IntText sign top t z × (on z ≡ refuses n d))
  int_refuses {n} {d} e = go (read_int sign top t) refl e
    where
      go : (i : Int) → read_int sign top t ≡ i → and_then (int_at number k i) on ≡ refuses n d →
          ((d ≡ k) × NoInteger number sign top t n) ⊎ ((z : ℤ) × IntText sign top t z × (on z ≡ refuses n d))
      go (value z) p q = inr (z, sound sign top some z t (sym p), q)
      go none p q = let r = same_refuses q in inl (sym r.1, (sym r.0, (refused sign top some t).0 (sym p)))

  pub refuses_int : {n : ℕ} → NoInteger number sign top t n → and_then (int_at number k (read_int sign top t)) on ≡ refuses n k
  refuses_int {n} w = rw w.0 (ap (λ i. and_then (int_at number k i) on) (sym ((refused sign top some t).1 w.1)))

-- the same, where what is made of the value is one always
module _ (number : ℕ) (sign : Bool) (top : ℕ) (some : 0 < top) (k : ℕ) (t : List ℕ) where
  pub int_is : (v : ℤ) → and_then (int_at number k (read_int sign top t)) (λ z. gives z) ≡ gives v → IntText sign top t v
  int_is v e = let r = int_gives number sign top some k t (λ z. gives z) e in rw (sym (same_value r.0 v r.2)) r.1

  pub int_wrong : {A : Type 0} (g : ℤ → A) {n d : ℕ} → and_then (int_at number k (read_int sign top t)) (λ z. gives (g z)) ≡ refuses n d → (d ≡ k) × NoInteger number sign top t n
  int_wrong g {n} {d} e = elim (int_refuses number sign top some k t (λ z. gives (g z)) e) [ inl w ↦ w | inr w ↦ no_refusal w.2 ]

-- an unsigned integer is not below 0
pub unsigned : (top : ℕ) (t : List ℕ) (z : ℤ) → IntText false top t z → pos (nat_abs z) ≡ z
unsigned top t z (IntText.plain n d h e) = rw e
unsigned top t z (IntText.plus s n p d h e) = rw e
unsigned top t z (IntText.minus s n g p d h e) = absurd (true_not_false (sym g))

-- an integer that is read is within its type
pub typed_int : (top most : ℕ) {t : List ℕ} {z : ℤ} → top ≤ suc most → IntText true top t z → le_z (negsuc most) z && le_z z (pos most) ≡ true
typed_int top most l (IntText.plain n d h e) = rw (e, le-leb n most (omega arith))
typed_int top most l (IntText.plus u n p d h e) = rw (e, le-leb n most (omega arith))
typed_int top most l (IntText.minus u zero g p d h e) = rw (e, le-leb 0 most (omega arith))
typed_int top most l (IntText.minus u (suc n) g p d h e) = rw (e, le-leb n most (omega arith))

-- an unsigned one is below the type's end
pub int_below : (top : ℕ) (t : List ℕ) (n : ℕ) → IntText false top t (pos n) → n < top
int_below top t n (IntText.plain k d h e) = let z : n ≡ k = cc in omega arith
int_below top t n (IntText.plus s k p d h e) = let z : n ≡ k = cc in omega arith
int_below top t n (IntText.minus s k g p d h e) = absurd (true_not_false (sym g))

-- r is what a reader answered, r' what a match made of it
pub int_step : {X A : Type 0} (of : X → Int) (number k : ℕ) (f : ℤ → Said A) {r r' : X} {i : Int} → of r ≡ i → r ≡ r' → and_then (int_at number k (of r')) f ≡ and_then (int_at number k i) f
int_step of number k f e q = ap (λ i. and_then (int_at number k i) f) (ap of (sym q) ∙ e)
