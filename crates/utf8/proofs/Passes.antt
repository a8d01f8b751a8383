-- What eight bytes at a time pass, byte by byte. Assumes nothing.
use mathlib.Core.Path.{◌≡◌, refl, ap, ◌∙◌}
use mathlib.Core.List.{List}
use mathlib.Core.Bool.{Bool, true, false, ◌&&◌}
use mathlib.Core.Logic.{◌⊎◌, ⊎_elim}
use Prim.Native.Nat.{ℕ, zero, suc, ◌+◌, ◌-◌, ◌≤◌, ◌<◌}
use native.Mathlib.Nat.{eq-or-lt_of_le}
use native.Mathlib.Omega.{arith}
use lib.Dec.{leb}
use lib.ListN.{length, get_or}
use borrow.Author.Tests.{leb-true}
use Rattle.utf8.specs.Eights.{byte_between, eight_between, Passed}

-- both of two tests
both : (a b : Bool) → a && b ≡ true → (a ≡ true) × (b ≡ true)
both true true e = (refl, refl)
both true false e = let z : ◌≡◌ {A = ℕ} 0 1 = cc in absurd (omega arith)
both false b e = let z : ◌≡◌ {A = ℕ} 0 1 = cc in absurd (omega arith)

pub passed_none : (low high : ℕ) (s : List ℕ) (from : ℕ) → Passed low high s from from
passed_none low high s from = record { onward = omega arith; each = λ k a b. absurd (omega arith); inside = λ k a b. absurd (omega arith) }

-- the last of the numbers below i + 1, or one before it
last : (k i : ℕ) → k < i + 1 → (k ≡ i) ⊎ (k < i)
last k i h = eq-or-lt_of_le (omega arith)

module _ {low high : ℕ} {s : List ℕ} where
  -- one byte more
  passed_one : {from i j : ℕ} → Passed low high s from i → j ≡ i + 1 → i < length s → byte_between low high s i ≡ true → Passed low high s from j
  passed_one {from} {i} {j} p q h e =
      let b = both (leb low (get_or s i 0)) (leb (get_or s i 0) high) e in
      record {
        onward = omega (arith, p.onward);
        each = λ k a l. ⊎_elim (λ (z : k ≡ i). rw z (leb-true low (get_or s i 0) b.0, leb-true (get_or s i 0) high b.1)) (λ z. p.each k a z) (last k i (omega arith));
        inside = λ k a l. omega arith;
      }

  -- eight more
  pub passed_eight : {from i : ℕ} → Passed low high s from i → i + 8 ≤ length s → eight_between low high s i ≡ true → Passed low high s from (i + 8)
  passed_eight {from} {i} p h e =
      let q : (k : ℕ) → Bool = λ k. byte_between low high s (i + k) in
      let x = both ((byte_between low high s i && q 1) && (q 2 && q 3)) ((q 4 && q 5) && (q 6 && q 7)) e in
      let y = both (byte_between low high s i && q 1) (q 2 && q 3) x.0 in
      let z = both (q 4 && q 5) (q 6 && q 7) x.1 in
      let a = both (byte_between low high s i) (q 1) y.0 in
      let b = both (q 2) (q 3) y.1 in
      let c = both (q 4) (q 5) z.0 in
      let d = both (q 6) (q 7) z.1 in
      let p1 : Passed low high s from (i + 1) = passed_one p refl (omega arith) a.0 in
      let p2 : Passed low high s from (i + 2) = passed_one p1 (omega arith) (omega arith) a.1 in
      let p3 : Passed low high s from (i + 3) = passed_one p2 (omega arith) (omega arith) b.0 in
      let p4 : Passed low high s from (i + 4) = passed_one p3 (omega arith) (omega arith) b.1 in
      let p5 : Passed low high s from (i + 5) = passed_one p4 (omega arith) (omega arith) c.0 in
      let p6 : Passed low high s from (i + 6) = passed_one p5 (omega arith) (omega arith) c.1 in
      let p7 : Passed low high s from (i + 7) = passed_one p6 (omega arith) (omega arith) d.0 in
      passed_one p7 (omega arith) (omega arith) d.1

-- what no passed byte changes is the same behind them
pub pass_over : {X : Type 0} (f : ℕ → X) {low high : ℕ} {s : List ℕ} {from r : ℕ} → Passed low high s from r →
    ((k : ℕ) → k < length s → low ≤ get_or s k 0 → get_or s k 0 ≤ high → f k ≡ f (k + 1)) → f from ≡ f r
pass_over f {low} {high} {s} {from} {r} p step = let z : from + (r - from) ≡ r = omega (arith, p.onward) in go (r - from) (omega (arith, p.onward)) ∙ ap f z
  where
    go : (n : ℕ) → from + n ≤ r → f from ≡ f (from + n)
    go zero h = let z : from ≡ from + 0 = omega arith in ap f z
    go (suc n) h =
        let k = from + n in
        let e = p.each k (omega arith) (omega arith) in
        let z : k + 1 ≡ from + suc n = omega arith in
        go n (omega arith) ∙ step k (p.inside k (omega arith) (omega arith)) e.0 e.1 ∙ ap f z

-- the place reached is within the text
pub passed_end : {low high : ℕ} {s : List ℕ} {from r : ℕ} → Passed low high s from r → from ≤ length s → r ≤ length s
passed_end {r = zero} p h = omega arith
passed_end {s = s} {from = from} {r = suc r} p h = ⊎_elim (λ (e : from ≡ suc r). omega arith) (λ (l : from < suc r). let i = p.inside r (omega arith) (omega arith) in omega arith) (eq-or-lt_of_le p.onward)
