-- The highest note: it is the last one in ascending order. Assumes nothing.
use mathlib.Core.Path.{◌≡◌, refl, sym, ◌∙◌, ap}
use mathlib.Core.List.{List, [], ◌∷◌, ◌++◌}
use Prim.Native.Nat.{ℕ, zero, suc, ◌+◌, ◌-◌, ◌≤◌, ◌<◌}
use native.Mathlib.Omega.{arith}
use native.Mathlib.Numerals.{add-one}
use lib.ListN.{length, take, set}
use lib.Seq.{take-suc-set, take_all}
use lib.Ieee.{Float, lt}
use Rattle.base.specs.Said.{Said, gives, refuses, pick, and_then}
use Rattle.base.proofs.Said.{same_value, no_value, no_refusal}
use Rattle.floats.specs.Floats.{zero_f}
use Rattle.rank2.specs.Notes.{ratios_from, highest_of, highest_from}

-- ---- the loop
pub none_higher : (f : ℕ → Said Float) (n : ℕ) → gives zero_f ≡ highest_from f n (n - n)
unfolding highest_from
none_higher f n = let z : n - n ≡ 0 = omega arith in rw z

pub one_higher : (f : ℕ → Said Float) (n i : ℕ) {top note x : Float} → 0 < i → i ≤ n → gives top ≡ highest_from f i (n - i) → gives note ≡ f (i - 1) → x ≡ pick (lt top note) note top → gives x ≡ highest_from f (i - 1) (n - (i - 1))
unfolding highest_from
one_higher f n i p h t e q =
    let z : n - (i - 1) ≡ suc (n - i) = omega arith in
    let w : suc (i - 1) ≡ i = omega arith in
    rw (z, w, ← e, ← t) (ap gives q)

pub all_higher : (f : ℕ → Said Float) (n i : ℕ) {top : Float} → i ≤ 0 → gives top ≡ highest_from f i (n - i) → gives top ≡ highest_from f 0 n
all_higher f n i h t = let z : i ≡ 0 = omega arith in let y : n - 0 ≡ n = omega arith in rw (z, y) at t

-- ---- one more
pub ratios_snoc : (f : ℕ → Said Float) (n k : ℕ) (rs : List Float) {r : Float} → gives rs ≡ ratios_from f k n → gives r ≡ f (k + n) → gives (rs ++ (r ∷ [])) ≡ ratios_from f k (suc n)
unfolding ratios_from
ratios_snoc f zero k rs {r} e q =
    let z : k + 0 ≡ k = omega arith in
    let w : gives r ≡ f k = q ∙ ap f z in
    let v : rs ≡ [] = same_value rs [] e in
    rw (← w, v)
ratios_snoc f (suc n) k rs {r} e q =
    let z : k + suc n ≡ suc k + n = omega arith in
    go (f k) (ratios_from f (suc k) n) refl refl e (λ vs ey. ratios_snoc f n (suc k) vs {r = r} ey (q ∙ ap f z))
  where
    go : (x : Said Float) (y : Said (List Float)) → f k ≡ x → ratios_from f (suc k) n ≡ y → gives rs ≡ and_then x (λ v. and_then y (λ vs. gives (v ∷ vs)))
        → ((vs : List Float) → gives vs ≡ ratios_from f (suc k) n → gives (vs ++ (r ∷ [])) ≡ ratios_from f (suc k) (suc n))
        → gives (rs ++ (r ∷ [])) ≡ and_then (f k) (λ v. and_then (ratios_from f (suc k) (suc n)) (λ vs. gives (v ∷ vs)))
    go (gives v) (gives vs) ex ey g h =
        let u : rs ≡ v ∷ vs = same_value rs (v ∷ vs) g in
        rw (ex, ← h vs (sym ey), u)
    go (gives v) (refuses a d) ex ey g h = no_refusal g
    go (refuses a d) y ex ey g h = no_refusal g

-- ---- the column
module _ (f : ℕ → Said Float) where
  pub none_filled : (l : List Float) → gives (take 0 l) ≡ ratios_from f 0 0
  unfolding ratios_from
  none_filled l = refl

  pub one_filled : (l : List Float) (i : ℕ) {r : Float} → i < length l → gives (take i l) ≡ ratios_from f 0 i → gives r ≡ f i → gives (take (i + 1) (set l i r)) ≡ ratios_from f 0 (i + 1)
  one_filled l i {r} h e q =
      let z : 0 + i ≡ i = omega arith in
      rw (add-one i, take-suc-set l i r h) (ratios_snoc f i 0 (take i l) e (q ∙ ap f (sym z)))

  pub all_filled : (l : List Float) (i n : ℕ) → i ≤ n → length l ≡ n → length l ≤ i → gives (take i l) ≡ ratios_from f 0 i → gives l ≡ ratios_from f 0 n
  all_filled l i n h s g e = let z : i ≡ n = omega (arith, s) in ap gives (sym (take_all i l g)) ∙ e ∙ ap (ratios_from f 0) z

-- ---- the list's
pub highest_is : (f : ℕ → Said Float) (n k : ℕ) {rs : List Float} → ratios_from f k n ≡ gives rs → highest_from f k n ≡ gives (highest_of rs)
unfolding ratios_from highest_from highest_of
highest_is f zero k {rs} e = ap (λ (l : List Float). gives (highest_of l)) (same_value [] rs e)
highest_is f (suc n) k {rs} e = go (f k) (ratios_from f (suc k) n) (λ l q. highest_is f n (suc k) q) e
  where
    go : (x : Said Float) (y : Said (List Float)) → ((l : List Float) → y ≡ gives l → highest_from f (suc k) n ≡ gives (highest_of l)) → and_then x (λ r. and_then y (λ l. gives (r ∷ l))) ≡ gives rs
        → and_then x (λ r. and_then (highest_from f (suc k) n) (λ h. gives (pick (lt h r) r h))) ≡ gives (highest_of rs)
    go (gives r) (gives l) g q = rw (g l refl) (ap (λ (z : List Float). gives (highest_of z)) (same_value (r ∷ l) rs q))
    go (gives r) (refuses a d) g q = no_value q
    go (refuses a d) y g q = no_value q
