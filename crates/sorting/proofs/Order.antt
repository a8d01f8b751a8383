-- The order of entries by ratio and place is strict and total. Assumes nothing.
use mathlib.Core.Path.{◌≡◌, refl, sym, ◌∙◌}
use mathlib.Core.Logic.{inl, inr}
use mathlib.Core.Bool.{Bool, true, false, true≢false}
use Prim.Native.Nat.{ℕ, ◌*◌, ◌≤◌, ◌<◌}
use native.Mathlib.Omega.{arith}
use lib.Dec.{T, ltb}
use borrow.Author.Tests.{ltb-true, ltb-false, lt-ltb, le-ltb}
use lib.Ieee.{Float, nan, inf, fin, lt}
use lib.Ieee.Positive.{num, den, den_pos, positive, through}
use Rattle.base.proofs.Integers.{bool_cases}
use Rattle.sorting.specs.Heap.{comes, less}

pub clash : {X : Type 0} {t : Bool} → t ≡ true → t ≡ false → X
clash p q = absurd (true≢false (sym p ∙ q))

-- on the positive, the order is that of the fractions
pub lt_cross : (x y : Float) → T (positive x) → T (positive y) → lt x y ≡ ltb (num x * den y) (num y * den x)
unfolding lt
lt_cross nan y p q = absurd p
lt_cross (inf s) y p q = absurd p
lt_cross (fin true m e) y p q = absurd p
lt_cross (fin false m e) nan p q = absurd q
lt_cross (fin false m e) (inf t) p q = absurd q
lt_cross (fin false m e) (fin true n d) p q = absurd q
lt_cross (fin false m e) (fin false n d) p q = refl

-- x ≤ z and z < y: x < y
pub float_lel : (z x y : Float) → T (positive z) → T (positive x) → T (positive y) → lt z x ≡ false → lt z y ≡ true → lt x y ≡ true
float_lel z x y p q r h k = elim (bool_cases (lt x y)) [
  | inl e ↦ e
  | inr e ↦
      let xz : num x * den z ≤ num z * den x = ltb-false _ _ (sym (lt_cross z x p q) ∙ h) in
      let zy : num z * den y < num y * den z = ltb-true _ _ (sym (lt_cross z y p r) ∙ k) in
      let yx : num y * den x ≤ num x * den y = ltb-false _ _ (sym (lt_cross x y q r) ∙ e) in
      let yz : num y * den z ≤ num z * den y = through (num y) (num x) (num z) (den y) (den x) (den z) (den_pos x) yx xz in
      absurd (omega (arith, zy, yz))
]

pub float_asym : (x y : Float) → T (positive x) → T (positive y) → lt y x ≡ true → lt x y ≡ false
float_asym x y p q h =
    let yx : num y * den x < num x * den y = ltb-true _ _ (sym (lt_cross y x q p) ∙ h) in
    lt_cross x y p q ∙ le-ltb (num x * den y) (num y * den x) (omega (arith, yx))

-- what the sort asks of an order
pub record Strict (b : ℕ → ℕ → Bool) : Type 0 where
  pub lel : (z x y : ℕ) → b z x ≡ false → b z y ≡ true → b x y ≡ true
  pub asym : (x y : ℕ) → b y x ≡ true → b x y ≡ false
  pub total : (x y : ℕ) → b x y ≡ false → b y x ≡ false → x ≡ y

module _ {b : ℕ → ℕ → Bool} (o : Strict b) where
  pub irrefl : (x : ℕ) → b x x ≡ false
  irrefl x = elim (bool_cases (b x x)) [ inl e ↦ clash e (o.asym x x e) | inr e ↦ e ]

  -- z is not before y, and y not before x: z is not before x
  pub ge_trans : (z y x : ℕ) → b z y ≡ false → b y x ≡ false → b z x ≡ false
  ge_trans z y x h k = elim (bool_cases (b z x)) [ inl e ↦ clash (o.lel z y x h e) k | inr e ↦ e ]

module _ (f : ℕ → Float) (pf : (p : ℕ) → T (positive (f p))) where
  lel : (z x y : ℕ) → lt (f z) (f x) ≡ false → lt (f z) (f y) ≡ true → lt (f x) (f y) ≡ true
  lel z x y = float_lel (f z) (f x) (f y) (pf z) (pf x) (pf y)

  -- x < z and z ≤ y: x < y
  lle : (z x y : ℕ) → lt (f x) (f z) ≡ true → lt (f y) (f z) ≡ false → lt (f x) (f y) ≡ true
  lle z x y h k = elim (bool_cases (lt (f x) (f y))) [ inl e ↦ e | inr e ↦ clash (lel x y z e h) k ]

  by_ratio : (p q : ℕ) → lt (f p) (f q) ≡ true → less f p q ≡ true
  unfolding less comes
  by_ratio p q h = simp h

  by_place : (p q : ℕ) → lt (f p) (f q) ≡ false → lt (f q) (f p) ≡ false → less f p q ≡ ltb p q
  unfolding less comes
  by_place p q h k = simp (h, k)

  not_before : (p q : ℕ) → lt (f p) (f q) ≡ false → lt (f q) (f p) ≡ true → less f p q ≡ false
  unfolding less comes
  not_before p q h k = simp (h, k)

  -- of two places one has the lower ratio, or they are told apart by place
  data Way (p q : ℕ) : Type 0 where
    lower : lt (f p) (f q) ≡ true → less f p q ≡ true → less f q p ≡ false → Way p q
    higher : lt (f q) (f p) ≡ true → less f p q ≡ false → less f q p ≡ true → Way p q
    tie : lt (f p) (f q) ≡ false → lt (f q) (f p) ≡ false → less f p q ≡ ltb p q → less f q p ≡ ltb q p → Way p q

  way : (p q : ℕ) → Way p q
  way p q = elim (bool_cases (lt (f p) (f q))) [
    | inl h ↦ lower h (by_ratio p q h) (not_before q p (float_asym (f q) (f p) (pf q) (pf p) h) h)
    | inr h ↦ elim (bool_cases (lt (f q) (f p))) [
      | inl k ↦ higher k (not_before p q h k) (by_ratio q p k)
      | inr k ↦ tie h k (by_place p q h k) (by_place q p k h)
    ]
  ]

  less_lel : (z x y : ℕ) → less f z x ≡ false → less f z y ≡ true → less f x y ≡ true
  less_lel z x y h k = go (way z x) (way z y) (way x y)
    where
      go : Way z x → Way z y → Way x y → less f x y ≡ true
      go (lower a₁ a₂ a₃) b c = clash a₂ h
      go (higher a₁ a₂ a₃) (lower b₁ b₂ b₃) c = by_ratio x y (lel z x y (float_asym (f z) (f x) (pf z) (pf x) a₁) b₁)
      go (higher a₁ a₂ a₃) (higher b₁ b₂ b₃) c = clash k b₂
      go (higher a₁ a₂ a₃) (tie b₁ b₂ b₃ b₄) c = by_ratio x y (lle z x y a₁ b₂)
      go (tie a₁ a₂ a₃ a₄) (lower b₁ b₂ b₃) c = by_ratio x y (lel z x y a₁ b₁)
      go (tie a₁ a₂ a₃ a₄) (higher b₁ b₂ b₃) c = clash k b₂
      go (tie a₁ a₂ a₃ a₄) (tie b₁ b₂ b₃ b₄) (lower c₁ c₂ c₃) = c₂
      go (tie a₁ a₂ a₃ a₄) (tie b₁ b₂ b₃ b₄) (higher c₁ c₂ c₃) = clash (lle x y z c₁ a₁) b₂
      go (tie a₁ a₂ a₃ a₄) (tie b₁ b₂ b₃ b₄) (tie c₁ c₂ c₃ c₄) =
          let zx : x ≤ z = ltb-false z x (sym a₃ ∙ h) in
          let zy : z < y = ltb-true z y (sym b₃ ∙ k) in
          c₃ ∙ lt-ltb x y (omega (arith, zx, zy))

  less_asym : (x y : ℕ) → less f y x ≡ true → less f x y ≡ false
  less_asym x y h = go (way y x)
    where
      go : Way y x → less f x y ≡ false
      go (lower a₁ a₂ a₃) = a₃
      go (higher a₁ a₂ a₃) = clash h a₂
      go (tie a₁ a₂ a₃ a₄) = let yx : y < x = ltb-true y x (sym a₃ ∙ h) in a₄ ∙ le-ltb x y (omega (arith, yx))

  less_total : (x y : ℕ) → less f x y ≡ false → less f y x ≡ false → x ≡ y
  less_total x y h k = go (way x y)
    where
      go : Way x y → x ≡ y
      go (lower a₁ a₂ a₃) = clash a₂ h
      go (higher a₁ a₂ a₃) = clash a₃ k
      go (tie a₁ a₂ a₃ a₄) = let yx : y ≤ x = ltb-false x y (sym a₃ ∙ h) in let xy : x ≤ y = ltb-false y x (sym a₄ ∙ k) in omega (arith, yx, xy)

  pub strict : Strict (less f)
  strict = record { lel = less_lel; asym = less_asym; total = less_total }
