-- The laws of `width_by`, in either direction: what it finds stands there, so that it fits. Assumes nothing.
use mathlib.Core.Path.{◌≡◌, refl, ap}
use mathlib.Core.List.{List, [], ◌∷◌}
use mathlib.Core.Bool.{Bool, true, false}
use Prim.Native.Nat.{ℕ, ◌≤◌}
use native.Mathlib.Omega.{arith}
use lib.Dec.{eqb}
use lib.ListN.{length, get_or}
use Rattle.base.proofs.Pick.{pick_never}
use Rattle.white.specs.Trim.{white1, white2, white3, back2, back3, white_width, width_by, front, back}

-- the character of n bytes that t starts with: one byte, two or three of the set
pub data Hit (two : ℕ → ℕ → Bool) (three : ℕ → ℕ → ℕ → Bool) (t : List ℕ) (n : ℕ) : Type 0 where
  none : n ≡ 0 → Hit two three t n
  hit1 : (x : ℕ) (r : List ℕ) → t ≡ x ∷ r → white1 x ≡ true → n ≡ 1 → Hit two three t n
  hit2 : (x y : ℕ) (r : List ℕ) → t ≡ x ∷ y ∷ r → two x y ≡ true → n ≡ 2 → Hit two three t n
  hit3 : (x y z : ℕ) (r : List ℕ) → t ≡ x ∷ y ∷ z ∷ r → three x y z ≡ true → n ≡ 3 → Hit two three t n

module _ (two : ℕ → ℕ → Bool) (three : ℕ → ℕ → ℕ → Bool) (no2 : (x : ℕ) → two x 0 ≡ false) (no3 : (x y : ℕ) → three x y 0 ≡ false) where
  -- what `width_by` gives is what stands there
  pub hit : (t : List ℕ) → Hit two three t (width_by two three t)
  unfolding width_by
  hit [] = Hit.none (rw (no2 0, no3 0 0))
  hit (x ∷ []) = go (white1 x) refl
    where
      go : (p : Bool) → white1 x ≡ p → Hit two three (x ∷ []) (white_width p (two x 0) (three x 0 0))
      go true p = Hit.hit1 x [] refl p refl
      go false p = Hit.none (rw (no2 x, no3 x 0))
  hit (x ∷ y ∷ []) = go (white1 x) refl (two x y) refl
    where
      go : (p : Bool) → white1 x ≡ p → (q : Bool) → two x y ≡ q → Hit two three (x ∷ y ∷ []) (white_width p q (three x y 0))
      go true p q e = Hit.hit1 x (y ∷ []) refl p refl
      go false p true e = Hit.hit2 x y [] refl e refl
      go false p false e = Hit.none (rw (no3 x y))
  hit (x ∷ y ∷ z ∷ r) = go (white1 x) refl (two x y) refl (three x y z) refl
    where
      go : (p : Bool) → white1 x ≡ p → (q : Bool) → two x y ≡ q → (u : Bool) → three x y z ≡ u → Hit two three (x ∷ y ∷ z ∷ r) (white_width p q u)
      go true p q e u f = Hit.hit1 x (y ∷ z ∷ r) refl p refl
      go false p true e u f = Hit.hit2 x y (z ∷ r) refl e refl
      go false p false e true f = Hit.hit3 x y z r refl f refl
      go false p false e false f = Hit.none refl

  pub fits : (t : List ℕ) → width_by two three t ≤ length t
  fits t = go (hit t)
    where
      go : Hit two three t (width_by two three t) → width_by two three t ≤ length t
      go (Hit.none e) = omega (arith, e)
      go (Hit.hit1 x r e p n) = omega (arith, n, ap length e)
      go (Hit.hit2 x y r e p n) = omega (arith, n, ap length e)
      go (Hit.hit3 x y z r e p n) = omega (arith, n, ap length e)

-- what the calls answered is the width at the start of t: b, c, d are its first bytes
pub width_told : (two : ℕ → ℕ → Bool) (three : ℕ → ℕ → ℕ → Bool) (t : List ℕ) {b c d : ℕ} {p q u : Bool} {r : ℕ} → b ≡ get_or t 0 0 → c ≡ get_or t 1 0 → d ≡ get_or t 2 0 →
    p ≡ white1 b → q ≡ two b c → u ≡ three b c d → r ≡ white_width p q u → r ≡ width_by two three t
unfolding width_by
width_told two three t eb ec ed ep eq eu e = rw (← eb, ← ec, ← ed, ← ep, ← eq, ← eu) e

-- the byte 0 is in no character: in front
front2 : (x : ℕ) → white2 x 0 ≡ false
front2 x = pick_never (eqb x 194)

front3 : (x y : ℕ) → white3 x y 0 ≡ false
front3 x y = simp pick_never

-- the two directions
pub front_hit : (t : List ℕ) → Hit white2 white3 t (front t)
front_hit = hit white2 white3 front2 front3

pub back_hit : (t : List ℕ) → Hit back2 back3 t (back t)
back_hit = hit back2 back3 (λ x. refl) (λ x y. refl)

pub front_fits : (t : List ℕ) → front t ≤ length t
front_fits = fits white2 white3 front2 front3

pub back_fits : (t : List ℕ) → back t ≤ length t
back_fits = fits back2 back3 (λ x. refl) (λ x y. refl)
