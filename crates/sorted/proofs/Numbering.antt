-- The places written in their own order, and the whole of an arrangement from its three steps. Assumes nothing.
use mathlib.Core.Path.{◌≡◌, refl, sym, ◌∙◌, ap, subst}
use Prim.Native.Nat.{ℕ, zero, suc, ◌+◌, ◌≤◌, ◌<◌}
use native.Mathlib.Nat.{le_of_suc-le-suc, not-suc-le-zero}
use native.Mathlib.Numerals.{add-one}
use native.Mathlib.Omega.{arith}
use mathlib.Core.List.{List, [], ◌∷◌, ◌++◌}
use lib.IntN.{ℤ}
use lib.ListN.{length, take, get_or, set}
use lib.Seq.{take-suc-set, take_all}
use lib.Ieee.{Float}
use Rattle.sorting.specs.Asked.{Ascending}
use Rattle.sorting.specs.Entries.{Entry, zip, Columns}
use Rattle.sorting.specs.Order.{lower, sort_by}
use Rattle.sorting.proofs.Columns.{zip_columns}
use Rattle.sorted.specs.Repeats.{keep}
use Rattle.sorted.specs.Lent.{from}

-- ---- the places written in their own order
pub length_from : (k n : ℕ) → length (from k n) ≡ n
length_from k zero = refl
length_from k (suc n) = ap suc (length_from (suc k) n)

pub get_d_from : (k n i : ℕ) → i < n → get_or (from k n) i 0 ≡ k + i
get_d_from k zero i h = absurd (not-suc-le-zero h)
get_d_from k (suc n) zero h = omega arith
get_d_from k (suc n) (suc i) h = get_d_from (suc k) n i (le_of_suc-le-suc h) ∙ omega arith

pub from_ascends : (n : ℕ) → Ascending (from 0 n)
from_ascends n i j h k =
    let jn : j < n = omega (arith, k, length_from 0 n) in
    omega (arith, h, get_d_from 0 n i (omega arith), get_d_from 0 n j jn)

pub from_snoc : (k n : ℕ) → from k (suc n) ≡ from k n ++ ((k + n) ∷ [])
from_snoc k zero = ap (λ (x : ℕ). x ∷ []) (omega arith)
from_snoc k (suc n) = ap (λ (l : List ℕ). k ∷ l) (from_snoc (suc k) n ∙ ap (λ (x : ℕ). from (suc k) n ++ (x ∷ [])) (omega arith))

pub numbered : (l : List ℕ) (i : ℕ) → i < length l → take i l ≡ from 0 i → take (i + 1) (set l i i) ≡ from 0 (i + 1)
numbered l i h e =
    rw (add-one i, take-suc-set l i i h)
    (ap (λ (t : List ℕ). t ++ (i ∷ [])) e ∙ ap (λ (x : ℕ). from 0 i ++ (x ∷ [])) (omega arith) ∙ sym (from_snoc 0 i))

pub number_done : (l l₀ : List ℕ) (i : ℕ) → length l ≡ length l₀ → i ≤ length l₀ → length l ≤ i → take i l ≡ from 0 i → l ≡ from 0 (length l₀)
number_done l l₀ i e h k t =
    let q : i ≡ length l₀ = omega arith in
    sym (take_all i l k) ∙ t ∙ ap (from 0) q

-- ---- the whole list
pub arranges : (rs₀ : List Float) (ws₀ : List ℤ) {ps₀ ps₁ ps₂ ps₃ : List ℕ} {rs₂ rs₃ : List Float} {ws₂ ws₃ : List ℤ} → ps₁ ≡ ps₀ → Columns (sort_by lower (zip ps₁ rs₀ ws₀)) ps₂ rs₂ ws₂ → Columns (keep (zip ps₂ rs₂ ws₂)) ps₃ rs₃ ws₃
    → Columns (keep (sort_by lower (zip ps₀ rs₀ ws₀))) ps₃ rs₃ ws₃
arranges rs₀ ws₀ {ps₀} {ps₁} {ps₂} {ps₃} {rs₂} {rs₃} {ws₂} {ws₃} e s k =
    subst (λ (es : List Entry). Columns (keep es) ps₃ rs₃ ws₃) (zip_columns s ∙ ap (λ (l : List ℕ). sort_by lower (zip l rs₀ ws₀)) e) k
