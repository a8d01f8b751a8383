-- The laws of a byte's first place along a slice, and of what stands before and after it. Assumes nothing.
use mathlib.Core.Path.{◌≡◌, refl, ap}
use mathlib.Core.Bool.{Bool, true, false}
use mathlib.Core.List.{List, [], ◌∷◌, ◌++◌}
use Prim.Native.Nat.{ℕ, suc, ◌+◌, ◌≤◌, ◌<◌}
use native.Mathlib.Numerals.{add-one}
use native.Mathlib.Omega.{arith}
use lib.Dec.{eqb}
use lib.ListN.{length, get_or, take, drop, drop_of_length-le}
use lib.Seq.{drop-cons}
use borrow.Author.Tests.{eq-eqb, ne_eqb, eqb-true, eqb-false}
use Rattle.base.specs.Said.{pick}
use Rattle.scl_read.specs.ItemText.{Contains, Free}
use Rattle.scl_read.specs.Tokens.{position_of}

-- the place is i bytes on, and then the place from there
abbrev pub Along : ℕ → List ℕ → ℕ → Type 0
Along b s i = position_of b s ≡ i + position_of b (drop i s)

module _ (b : ℕ) (s : List ℕ) (i : ℕ) (v : Along b s i) where
  module _ (h : i < length s) where
    pub find_here : get_or s i 0 ≡ b → i ≡ position_of b s
    unfolding position_of
    find_here e =
        let x : position_of b (drop i s) ≡ 0 = rw (drop-cons s i 0 h, eq-eqb (get_or s i 0) b e) in
        omega (arith, v, x)

    pub find_on : (get_or s i 0 ≡ b → ⊥) → Along b s (i + 1)
    unfolding position_of
    find_on n =
        let x : position_of b (drop i s) ≡ suc (position_of b (drop (i + 1) s)) = rw (drop-cons s i 0 h, ne_eqb (get_or s i 0) b n, add-one i) in
        omega (arith, v, x)

  pub find_none : length s ≤ i → i ≡ position_of b s
  unfolding position_of
  find_none h = omega (arith, v, ap (position_of b) (drop_of_length-le s h))

-- WHERE THE BYTE STANDS, its first place parts the text
pub place_parts : (b : ℕ) (t : List ℕ) → position_of b t < length t → (t ≡ take (position_of b t) t ++ b ∷ drop (position_of b t + 1) t) × Free b (take (position_of b t) t)
unfolding position_of
place_parts b [] h = absurd (omega arith)
place_parts b (c ∷ s) h = go (eqb c b) refl h (place_parts b s)
  where
    go : (x : Bool) → eqb c b ≡ x → pick x 0 (suc (position_of b s)) < suc (length s) → (position_of b s < length s → (s ≡ take (position_of b s) s ++ b ∷ drop (position_of b s + 1) s) × Free b (take (position_of b s) s)) →
        (c ∷ s ≡ take (pick x 0 (suc (position_of b s))) (c ∷ s) ++ b ∷ drop (pick x 0 (suc (position_of b s)) + 1) (c ∷ s)) × Free b (take (pick x 0 (suc (position_of b s))) (c ∷ s))
    go true p g ih = (ap (λ (k : ℕ). k ∷ s) (eqb-true c b p), tt)
    go false p g ih =
        let r = ih (omega arith) in
        let z : suc (position_of b s) + 1 ≡ suc (position_of b s + 1) = omega arith in
        (rw z (ap (λ (l : List ℕ). c ∷ l) r.0), (eqb-false c b p, r.1))

-- where it does not, the text is free of it
pub place_free : (b : ℕ) (t : List ℕ) → length t ≤ position_of b t → Free b t
unfolding position_of
place_free b [] h = tt
place_free b (c ∷ s) h = go (eqb c b) refl h (place_free b s)
  where
    go : (x : Bool) → eqb c b ≡ x → suc (length s) ≤ pick x 0 (suc (position_of b s)) → (length s ≤ position_of b s → Free b s) → Free b (c ∷ s)
    go true p g ih = absurd (omega arith)
    go false p g ih = (eqb-false c b p, ih (omega arith))

-- AND BACK
pub free_place : (b : ℕ) (t : List ℕ) → Free b t → position_of b t ≡ length t
unfolding position_of
free_place b [] f = refl
free_place b (c ∷ s) f = rw (ne_eqb c b f.0, free_place b s f.1)

pub parts_place : (b : ℕ) (u v : List ℕ) → Free b u → position_of b (u ++ b ∷ v) ≡ length u
unfolding position_of
parts_place b [] v f = rw (eq-eqb b b refl)
parts_place b (c ∷ u) v f = rw (ne_eqb c b f.0, parts_place b u v f.1)

within : (b : ℕ) (w v : List ℕ) → position_of b (w ++ b ∷ v) < length (w ++ b ∷ v)
unfolding position_of
within b [] v = rw (eq-eqb b b refl) (omega arith)
within b (c ∷ w) v = go (eqb c b) (within b w v)
  where
    go : (x : Bool) → position_of b (w ++ b ∷ v) < length (w ++ b ∷ v) → pick x 0 (suc (position_of b (w ++ b ∷ v))) < suc (length (w ++ b ∷ v))
    go true h = omega arith
    go false h = omega arith

pub has_place : (b : ℕ) (t : List ℕ) → Contains b t → position_of b t < length t
has_place b t (u, v, e) = rw e (within b u v)
