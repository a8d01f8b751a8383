-- Digits written one by one, how many there are, and texts written one after another. Assumes nothing.
use Rattle.std.specs.Prelude.{Some, None}
use mathlib.Core.Path.{◌≡◌, refl, ap, ◌∙◌}
use mathlib.Core.Bool.{Bool, true, false}
use mathlib.Core.List.{List, [], ◌∷◌, ◌++◌}
use Prim.Native.Nat.{ℕ, zero, suc, ◌+◌, ◌-◌, ◌/◌, ◌%◌, ◌^◌, ◌≤◌, ◌<◌}
use native.Mathlib.Nat.{lt_irrefl, pow-suc, div-lt_iff_lt-mul, add-zero}
use native.Mathlib.Numerals.{add-one}
use native.Mathlib.Omega.{arith}
use lib.Dec.{ltb, leb, lit<}
use lib.ListN.{length, set, length-append}
use lib.Seq.{sets}
use borrow.Author.Tests.{lt-ltb, le-ltb, le-leb, lt-leb}
use Rattle.base.specs.Said.{pick}
use Rattle.printing.specs.PrintText.{digits_of, width_of, sign_text, point_text, parts_text, placed, written}

-- one digit more is written
pub step_digits : (n p l i : ℕ) (out : List ℕ) → 0 < l → p ≡ 10 ^ (l - 1) → sets (set out i (48 + n / p % 10)) (i + 1) (digits_of (l - 1) n) ≡ sets out i (digits_of l n)
step_digits n p zero i out h e = absurd (lt_irrefl 0 h)
step_digits n p (suc l) i out h e =
    let z : suc l - 1 ≡ l = omega arith in
    let f : p ≡ 10 ^ l = e ∙ ap (λ (x : ℕ). 10 ^ x) z in
    rw (z, add-one i, f)

pub length_digits : (k n : ℕ) → length (digits_of k n) ≡ k
length_digits zero n = refl
length_digits (suc k) n = ap suc (length_digits k n)

-- how many digits
pub width_one : (f n : ℕ) → n < 10 → width_of f n ≡ 1
width_one zero n h = refl
width_one (suc f) n h = rw (lt-ltb n 10 h)

pub width_step : (f n : ℕ) → 0 < f → 10 ≤ n → width_of f n ≡ suc (width_of (f - 1) (n / 10))
width_step zero n p h = absurd (lt_irrefl 0 p)
width_step (suc f) n p h =
    let z : suc f - 1 ≡ f = omega arith in
    rw (le-ltb n 10 h, z)

pub shorter : (g n : ℕ) → 10 ≤ n → n < 10 ^ g → (1 < g) × (n / 10 < 10 ^ (g - 1))
shorter zero n h l = absurd (lt_irrefl 0 (omega arith))
shorter (suc zero) n h l = absurd (lt_irrefl 0 (omega arith))
shorter (suc (suc g)) n h l =
    let z : suc (suc g) - 1 ≡ suc g = omega arith in
    (omega arith, rw z ((div-lt_iff_lt-mul {y = 10 ^ suc g} (lit< tt)).1 (rw (pow-suc 10 (suc g)) at l)))

pub width_le : (f n : ℕ) → width_of f n ≤ f + 1
width_le zero n = omega arith
width_le (suc f) n = go (ltb n 10) (width_le f (n / 10))
  where
    go : (b : Bool) → width_of f (n / 10) ≤ f + 1 → pick b 1 (suc (width_of f (n / 10))) ≤ suc f + 1
    go true h = omega arith
    go false h = omega arith

-- how long the parts are
pub sign_le : (negative plus : Bool) → length (sign_text negative plus) ≤ 1
sign_le true plus = omega arith
sign_le false true = omega arith
sign_le false false = omega arith

pub point_le : (d : ℕ) → length (point_text d) ≤ 1
point_le d = go (ltb 0 d)
  where
    go : (b : Bool) → length {A = ℕ} (pick b (46 ∷ []) []) ≤ 1
    go true = omega arith
    go false = omega arith

pub parts_length : (s plus : Bool) (w k p d : ℕ) → length (parts_text s plus w k p d) ≡ length (sign_text s plus) + (k + (length (point_text d) + d))
parts_length s plus w k p d = simp (length-append, length_digits)

-- one text after another
pub sets_append : (l : List ℕ) (i j : ℕ) (a b : List ℕ) → j ≡ i + length a → sets (sets l i a) j b ≡ sets l i (a ++ b)
sets_append l i j [] b e = ap (λ (x : ℕ). sets l x b) (e ∙ add-zero i)
sets_append l i j (x ∷ a) b e = sets_append (set l i x) (suc i) j a b (omega (arith, e))

-- four texts, one after another
pub chain : (L0 L1 L2 L3 L4 : List ℕ) (at i j p : ℕ) (S D P E : List ℕ) → L1 ≡ sets L0 at S → L2 ≡ sets L1 i D → L3 ≡ sets L2 j P → L4 ≡ sets L3 p E
    → i ≡ at + length S → j ≡ i + length D → p ≡ j + length P → L4 ≡ sets L0 at (S ++ (D ++ (P ++ E)))
chain L0 L1 L2 L3 L4 at i j p S D P E e1 e2 e3 e4 a b c =
    e4
    ∙ ap (λ (l : List ℕ). sets l p E) e3 ∙ sets_append L2 j p P E c
    ∙ ap (λ (l : List ℕ). sets l j (P ++ E)) e2 ∙ sets_append L1 i j D (P ++ E) b
    ∙ ap (λ (l : List ℕ). sets l i (D ++ (P ++ E))) e1 ∙ sets_append L0 at i S (D ++ (P ++ E)) a

-- the answers
pub no_room : (l : List ℕ) (at : ℕ) (t : List ℕ) → length l < at + length t → (None ≡ placed l at t) × (l ≡ written l at t)
no_room l at t h =
    let z : leb (at + length t) (length l) ≡ false = lt-leb (at + length t) (length l) h in
    (rw z, rw z)

pub with_room : (l m : List ℕ) (at r : ℕ) (t : List ℕ) → at + length t ≤ length l → r ≡ at + length t → m ≡ sets l at t → (Some r ≡ placed l at t) × (m ≡ written l at t)
with_room l m at r t h e f =
    let z : leb (at + length t) (length l) ≡ true = le-leb (at + length t) (length l) h in
    (rw z (ap Some e), rw z f)
