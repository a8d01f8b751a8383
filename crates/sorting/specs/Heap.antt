-- What the inner functions of the sort are held to: the order of entries that are all different, and the heap. Assumes nothing.
use Rattle.std.specs.Prelude.{◌≡◌, ℕ, suc, ◌+◌, ◌*◌, ◌≤◌, ◌<◌, Bool, true, false, List, map, T, ltb, ℤ, length, get_or, set, take, drop, Float}
use Rattle.std.specs.Float.{nan}
use Rattle.std.specs.Float.Ieee.{lt}
use Rattle.std.specs.Float.Ieee.Positive.{positive}
use Rattle.base.specs.Said.{pick}
use Rattle.sorting.specs.Order.{sort_by}

-- ratio a at place p comes before ratio c at place q: the lower ratio first, and of equal ones the lower place
unfoldable pub comes : Float → ℕ → Float → ℕ → Bool
comes a p c q = pick (lt a c) true (pick (lt c a) false (ltb p q))

-- the same of two places, where f gives the ratio of each
unfoldable pub less : (ℕ → Float) → ℕ → ℕ → Bool
less f p q = comes (f p) p (f q) q

-- the same of the entries i and j of the columns ps and rs
unfoldable pub earlier_at : List ℕ → List Float → ℕ → ℕ → Bool
earlier_at ps rs i j = comes (get_or rs i nan) (get_or ps i 0) (get_or rs j nan) (get_or ps j 0)

-- the later one of c and j, where j is below k; else c
unfoldable pub later_of : (ℕ → ℕ → Bool) → ℕ → ℕ → ℕ → ℕ
later_of e c j k = pick (ltb j k) (pick (e c j) j c) c

-- the last one of i and its two children, of those below k
abbrev pub top_of : (ℕ → ℕ → Bool) → ℕ → ℕ → ℕ
top_of e i k = later_of e (later_of e i (2 * i + 1) k) (2 * i + 2) k

-- l with what stands at i and at j exchanged; d is what stands past the end
abbrev pub swapped : {A : Type 0} → A → List A → ℕ → ℕ → List A
swapped d l i j = set (set l i (get_or l j d)) j (get_or l i d)

-- no entry from s on comes before a child of its own that is below k
pub record Heap (b : ℕ → ℕ → Bool) (s k : ℕ) (l : List ℕ) : Type 0 where
  pub child : (i j : ℕ) → s ≤ i → 2 * i + 1 ≤ j → j ≤ 2 * i + 2 → j < k → b (get_or l i 0) (get_or l j 0) ≡ false

-- the first k entries hold what they held, in an order that has the heap from s on; the rest is as it was
pub record Sifted (f : ℕ → Float) (g : ℕ → ℤ) (s k : ℕ) (ps₀ ps : List ℕ) (rs : List Float) (ws : List ℤ) : Type 0 where
  pub ratios : rs ≡ map f ps
  pub wraps : ws ≡ map g ps
  pub same : length ps ≡ length ps₀
  pub first : sort_by (less f) (take k ps) ≡ sort_by (less f) (take k ps₀)
  pub rest : drop k ps ≡ drop k ps₀
  pub heap : Heap (less f) s k ps

-- what a sift does, whatever the ratio f and the wraps g of a place are
pub record Sifts (s k : ℕ) (ps₀ : List ℕ) (rs₀ : List Float) (ws₀ : List ℤ) (ps : List ℕ) (rs : List Float) (ws : List ℤ) : Type 0 where
  pub law : (f : ℕ → Float) (g : ℕ → ℤ) → ((p : ℕ) → T (positive (f p))) → rs₀ ≡ map f ps₀ → ws₀ ≡ map g ps₀ → Heap (less f) (suc s) k ps₀ → Sifted f g s k ps₀ ps rs ws
