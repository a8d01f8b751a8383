-- What a run over digits has counted, and the number that it has when there are at most 18. Assumes nothing.
use mathlib.Core.Path.{◌≡◌, refl, ◌∙◌, ap}
use mathlib.Core.List.{List, [], ◌∷◌, ◌++◌}
use mathlib.Core.Bool.{Bool, true, false}
use Prim.Native.Nat.{ℕ, suc, ◌+◌, ◌-◌, ◌*◌, ◌^◌, ◌≤◌, ◌<◌}
use native.Mathlib.Nat.{pow-succ', pow-suc, mul_assoc, add-mul}
use native.Mathlib.Omega.{arith}
use lib.ListN.{length}
use lib.Dec.{ltb, eqb}
use borrow.Author.Tests.{lt-ltb, ne_eqb, eqb-true, eqb-false}
use Rattle.base.specs.Said.{pick}
use Rattle.numerals.specs.FloatText.{from_nonzero}
use Rattle.integers.specs.Digits.{AllDigits, decimal}
use Rattle.numerals.specs.Scan.{grown_by, counted_by, digit_run_of}
use Rattle.integers.proofs.Tens.{ten_le}
use Rattle.integers.specs.Digits.{is_digit}
use Rattle.integers.proofs.Digits.{digit_yes, digit_is}

-- the number after the digits, and how many there are
abbrev pub grown_all : ℕ → List ℕ → ℕ
grown_all n [] = n
grown_all n (b ∷ s) = grown_all (grown_by n (b - 48)) s

abbrev pub counted_all : ℕ → ℕ → List ℕ → ℕ
counted_all n count [] = count
counted_all n count (b ∷ s) = counted_all (grown_by n (b - 48)) (counted_by n (b - 48) count) s

pub grown_append : (n : ℕ) (a b : List ℕ) → grown_all (grown_all n a) b ≡ grown_all n (a ++ b)
grown_append n [] b = refl
grown_append n (c ∷ a) b = grown_append (grown_by n (c - 48)) a b

pub counted_append : (n count : ℕ) (a b : List ℕ) → counted_all (grown_all n a) (counted_all n count a) b ≡ counted_all n count (a ++ b)
counted_append n count [] b = refl
counted_append n count (c ∷ a) b = counted_append (grown_by n (c - 48)) (counted_by n (c - 48) count) a b

-- no digit stands at the start
abbrev pub Stops : List ℕ → Type 0
Stops [] = Unit {0}
Stops (b ∷ s) = is_digit b ≡ false

-- a run over digits, up to what is none
pub run_over : (n count at : ℕ) (ds r : List ℕ) → AllDigits ds → Stops r →
    digit_run_of n count at (ds ++ r) ≡ record { n = grown_all n ds; significant = counted_all n count ds; at = at + length ds }
unfolding digit_run_of
run_over n count at [] [] d h = let z : at ≡ at + 0 = omega arith in ap (λ (i : ℕ). record { n = n; significant = count; at = i }) z
run_over n count at [] (b ∷ r) d h = let z : at ≡ at + 0 = omega arith in rw h (ap (λ (i : ℕ). record { n = n; significant = count; at = i }) z)
run_over n count at (b ∷ ds) r d h =
    let z : at + 1 + length ds ≡ at + suc (length ds) = omega arith in
    rw (digit_yes b d.0.0 d.0.1)
    (run_over (grown_by n (b - 48)) (counted_by n (b - 48) count) (at + 1) ds r d.1 h
    ∙ ap (λ (i : ℕ). record { n = grown_all (grown_by n (b - 48)) ds; significant = counted_all (grown_by n (b - 48)) (counted_by n (b - 48) count) ds; at = i }) z)

-- every text is digits and what starts with none
pub record Split (s : List ℕ) : Type 0 where
  pub digits : List ℕ
  pub rest : List ℕ
  pub each : AllDigits digits
  pub stops : Stops rest
  pub both : s ≡ digits ++ rest

pub split : (s : List ℕ) → Split s
split [] = record { digits = []; rest = []; each = tt; stops = tt; both = refl }
split (b ∷ s) = go (is_digit b) refl (split s)
  where
    go : (t : Bool) → is_digit b ≡ t → Split s → Split (b ∷ s)
    go true e p = record { digits = b ∷ p.digits; rest = p.rest; each = (digit_is b e, p.each); stops = p.stops; both = ap (λ (l : List ℕ). b ∷ l) p.both }
    go false e p = record { digits = []; rest = b ∷ s; each = tt; stops = e; both = refl }

-- after a nonzero digit each counts
counted_more : (n count : ℕ) (s : List ℕ) → 0 < n → counted_all n count s ≡ count + length s
counted_more n count [] h = omega arith
counted_more n count (b ∷ s) h =
    rw (ne_eqb (n + (b - 48)) 0 (λ e. omega arith))
    (counted_more (grown_by n (b - 48)) (count + 1) s (go (ltb n (10 ^ 17))) ∙ omega arith)
  where
    go : (t : Bool) → 0 < pick t (n * 10 + (b - 48)) n
    go true = omega arith
    go false = h

-- the count is that of the digits from the first nonzero one on
pub counted_is : (s : List ℕ) → AllDigits s → counted_all 0 0 s ≡ length (from_nonzero s)
counted_is [] d = refl
counted_is (b ∷ s) d = go (eqb b 48) refl (counted_is s d.1)
  where
    go : (t : Bool) → eqb b 48 ≡ t → counted_all 0 0 s ≡ length (from_nonzero s) →
        counted_all (0 * 10 + (b - 48)) (counted_by 0 (b - 48) 0) s ≡ length (pick t (from_nonzero s) (b ∷ s))
    go true e ih =
        let z : b - 48 ≡ 0 = omega (arith, eqb-true b 48 e) in
        rw z ih
    go false e ih =
        let p : 0 < b - 48 = omega (arith, lt_of_ne b d.0.0 (eqb-false b 48 e)) in
        rw (ne_eqb (0 + (b - 48)) 0 (λ k. omega arith)) (counted_more (0 * 10 + (b - 48)) 1 s (omega arith) ∙ omega arith)
      where
        lt_of_ne : (b : ℕ) → 48 ≤ b → (b ≡ 48 → ⊥) → 48 < b
        lt_of_ne b h k = omega (arith, h, k)

-- the arithmetic of one digit more
shift : (acc d p : ℕ) → (acc * 10 + d) * p ≡ acc * (10 * p) + d * p
shift acc d p = rw (add-mul, mul_assoc)

one_more : (acc d k r : ℕ) → (acc * 10 + d) * 10 ^ k + r ≡ acc * 10 ^ suc k + (d * 10 ^ k + r)
one_more acc d k r = rw pow-succ' (omega (arith, shift acc d (10 ^ k)))

-- a number of k digits grows to its value, up to 18 digits
grown_is : (k n : ℕ) (s : List ℕ) → n < 10 ^ k → k + length s ≤ 18 → AllDigits s → grown_all n s ≡ n * 10 ^ length s + decimal s
grown_is k n [] h l d = omega arith
grown_is k n (b ∷ s) h l d =
    let p : 10 ^ k ≤ 10 ^ 17 = ten_le k 17 (omega arith) in
    let q : n < 10 ^ 17 = omega arith in
    let g : n * 10 + (b - 48) < 10 ^ suc k = rw pow-suc (omega (arith, d.0)) in
    rw (lt-ltb n (10 ^ 17) q)
    (grown_is (suc k) (n * 10 + (b - 48)) s g (omega arith) d.1 ∙ one_more n (b - 48) (length s) (decimal s))

-- the number is what the digits write, where they are at most 18 from the first nonzero one on
pub value_is : (s : List ℕ) → AllDigits s → length (from_nonzero s) ≤ 18 → grown_all 0 s ≡ decimal s
value_is [] d h = refl
value_is (b ∷ s) d h = go (eqb b 48) refl h (value_is s d.1)
  where
    go : (t : Bool) → eqb b 48 ≡ t → length (pick t (from_nonzero s) (b ∷ s)) ≤ 18 → (length (from_nonzero s) ≤ 18 → grown_all 0 s ≡ decimal s) → grown_all 0 (b ∷ s) ≡ decimal (b ∷ s)
    go true e l ih =
        let z : b - 48 ≡ 0 = omega (arith, eqb-true b 48 e) in
        rw z (ih l ∙ omega arith)
    go false e l ih = grown_is 0 0 (b ∷ s) (omega arith) (omega arith) d ∙ omega arith
