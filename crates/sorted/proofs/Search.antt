-- The search by halving: its invariant, and that what it ends with is the first place that is not below. Assumes nothing.
use mathlib.Core.Path.{◌≡◌, refl, sym, ◌∙◌, ap}
use mathlib.Core.Logic.{inl, inr}
use mathlib.Core.Bool.{true, false, true≢false}
use Prim.Native.Nat.{ℕ, zero, suc, ◌+◌, ◌≤◌, ◌<◌}
use native.Mathlib.Nat.{eq-or-lt_of_le}
use native.Mathlib.Omega.{arith}
use mathlib.Core.List.{List, [], ◌∷◌}
use lib.Dec.{T}
use lib.ListN.{length, get_or}
use lib.Ieee.{Float, nan, lt}
use lib.Ieee.Positive.{positive}
use Rattle.sorting.specs.Asked.{AllPositive}
use Rattle.sorting.specs.Stable.{NeverFalls}
use Rattle.sorted.specs.Lent.{first_not_below}
use Rattle.base.proofs.Integers.{bool_cases}
use Rattle.sorting.proofs.Order.{float_lel}

-- z ≤ x ≤ y
pub le_le : (x y z : Float) → T (positive x) → T (positive y) → T (positive z) → lt x z ≡ false → lt y x ≡ false → lt y z ≡ false
le_le x y z p q r h k = elim (bool_cases (lt y z)) [
  | inl e ↦ absurd (true≢false (sym (float_lel y x z q p r k e) ∙ h))
  | inr e ↦ e
]

-- what is known of a search between lo and hi
pub record Between (rs : List Float) (x : Float) (lo hi : ℕ) : Type 0 where
  pub order : lo ≤ hi
  pub end : hi ≤ length rs
  pub low : (k : ℕ) → k < lo → lt (get_or rs k nan) x ≡ true
  pub high : (k : ℕ) → hi ≤ k → k < length rs → lt (get_or rs k nan) x ≡ false

module _ {rs : List Float} {x : Float} {lo hi : ℕ} (a : AllPositive rs) (f : NeverFalls rs) (p : T (positive x)) (v : Between rs x lo hi) (mid : ℕ) (ml : lo ≤ mid) (mh : mid < hi) where
  inside : mid < length rs
  inside = omega (arith, v.end)

  pub raise : lt (get_or rs mid nan) x ≡ true → Between rs x (mid + 1) hi
  raise h = record {
    order = omega arith;
    end = v.end;
    low = λ k l. elim (eq-or-lt_of_le {n = k} {m = mid} (omega arith)) [
      | inl e ↦ rw e h
      | inr less ↦ float_lel (get_or rs mid nan) (get_or rs k nan) x (a mid inside) (a k (omega (arith, inside))) p (f k mid less inside) h
    ];
    high = v.high;
  }

  pub lower : lt (get_or rs mid nan) x ≡ false → Between rs x lo mid
  lower h = record {
    order = ml;
    end = omega (arith, v.end);
    low = v.low;
    high = λ k l lk. elim (eq-or-lt_of_le l) [
      | inl e ↦ rw (← e) h
      | inr less ↦ le_le (get_or rs mid nan) (get_or rs k nan) x (a mid inside) (a k lk) p h (f mid k less lk)
    ];
  }

-- what is below up to n, and not at n, has its first at n
pub is_first : (rs : List Float) (x : Float) (n : ℕ) → n ≤ length rs → ((k : ℕ) → k < n → lt (get_or rs k nan) x ≡ true) → (n < length rs → lt (get_or rs n nan) x ≡ false) → n ≡ first_not_below rs x
is_first [] x zero l b h = refl
is_first [] x (suc n) l b h = absurd (omega arith)
is_first (r ∷ rs) x zero l b h = simp (h (omega arith))
is_first (r ∷ rs) x (suc n) l b h = simp (b 0 (omega arith)) (ap suc (is_first rs x n (omega arith) (λ k lk. b (suc k) (omega arith)) (λ ln. h (omega arith))))

pub found : {rs : List Float} {x : Float} {lo hi : ℕ} → Between rs x lo hi → hi ≤ lo → lo ≡ first_not_below rs x
found {rs} {x} {lo} {hi} v l = is_first rs x lo (omega (arith, v.order, v.end)) v.low (λ h. v.high lo l h)
