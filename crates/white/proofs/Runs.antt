-- The laws of `run`: how far characters reach from the start, a character at a time. Assumes nothing.
use mathlib.Core.Path.{◌≡◌, refl, sym, ◌∙◌, ap}
use mathlib.Core.List.{List, [], ◌∷◌, reverse}
use mathlib.Core.Bool.{Bool, true, false}
use Prim.Native.Nat.{ℕ, zero, suc, ◌+◌, ◌-◌, ◌≤◌}
use native.Mathlib.Omega.{arith}
use lib.Dec.{eqb}
use lib.ListN.{length, take, drop, length-drop, drop_of_length-le}
use lib.Seq.{drop-drop, take-length}
use borrow.Author.Tests.{eq-eqb, ne_eqb}
use Rattle.base.specs.Said.{pick}
use Rattle.white.specs.Trim.{run}
use Rattle.white.proofs.Backwards.{back_drop, length_back}

-- a run stays within the text
pub run_le : (width : List ℕ → ℕ) (k : ℕ) (t : List ℕ) → run width k t ≤ length t
unfolding run
run_le width k [] = omega arith
run_le width (suc k) (b ∷ s) = omega (arith, run_le width k s)
run_le width zero (b ∷ s) = go (eqb (width (b ∷ s)) 0) (run_le width (width (b ∷ s) - 1) s)
  where
    go : (x : Bool) → run width (width (b ∷ s) - 1) s ≤ length s → pick x 0 (suc (run width (width (b ∷ s) - 1) s)) ≤ suc (length s)
    go true h = omega arith
    go false h = omega arith

-- no character at the start, no run
pub run_none : (width : List ℕ → ℕ) (t : List ℕ) → width t ≡ 0 → run width 0 t ≡ 0
unfolding run
run_none width [] e = refl
run_none width (b ∷ s) e = rw (eq-eqb (width (b ∷ s)) 0 e)

module _ (width : List ℕ → ℕ) (fits : (t : List ℕ) → width t ≤ length t) where
  run_skip : (k : ℕ) (t : List ℕ) → k ≤ length t → run width k t ≡ k + run width 0 (drop k t)
  unfolding run
  run_skip zero t h = omega arith
  run_skip (suc k) [] h = absurd (omega arith)
  run_skip (suc k) (b ∷ s) h = omega (arith, run_skip k s (omega arith))

  -- a character at the start, and the run after it
  pub run_more : (t : List ℕ) → (width t ≡ 0 → ⊥) → run width 0 t ≡ width t + run width 0 (drop (width t) t)
  unfolding run
  run_more [] n = absurd (n (omega (arith, fits [])))
  run_more (b ∷ s) n = rw (ne_eqb (width (b ∷ s)) 0 n) (go (width (b ∷ s)) n (fits (b ∷ s)))
    where
      go : (w : ℕ) → (w ≡ 0 → ⊥) → w ≤ suc (length s) → suc (run width (w - 1) s) ≡ w + run width 0 (drop w (b ∷ s))
      go zero x h = absurd (x refl)
      go (suc w) x h =
          let y : suc w - 1 ≡ w = omega arith in
          rw y (omega (arith, run_skip w s (omega arith)))

  -- a character that was found at the start of t, n bytes long, and the run after it
  run_turn : (t : List ℕ) {n : ℕ} → n ≡ width t → (n ≡ 0 → ⊥) → (run width 0 t ≡ n + run width 0 (drop n t)) × (n ≤ length t)
  run_turn t e x = rw e (run_more t (λ z. x (e ∙ z)), fits t)

  -- THE LOOP FROM THE START: the run of s is i bytes and the run from there; n is what was found there
  pub ahead_turn : (s : List ℕ) (i : ℕ) → i ≤ length s → {n : ℕ} → n ≡ width (drop i s) → (n ≡ 0 → ⊥) → run width 0 s ≡ i + run width 0 (drop i s) →
      (i + n ≤ length s) × (run width 0 s ≡ i + n + run width 0 (drop (i + n) s))
  ahead_turn s i h {n} e x v =
      let t = run_turn (drop i s) e x in
      (omega (arith, t.1, length-drop i s), omega (arith, v, t.0, ap (run width 0) (drop-drop n i s)))

  -- THE LOOP FROM THE END: the run of s backwards is what stands behind e and the run before e
  pub behind_turn : (s : List ℕ) (e : ℕ) → e ≤ length s → {n : ℕ} → n ≡ width (reverse (take e s)) → (n ≡ 0 → ⊥) →
      run width 0 (reverse s) ≡ length s - e + run width 0 (reverse (take e s)) →
      (n ≤ e) × (run width 0 (reverse s) ≡ length s - (e - n) + run width 0 (reverse (take (e - n) s)))
  behind_turn s e h {n} p x v =
      let t = run_turn (reverse (take e s)) p x in
      let l : n ≤ e = omega (arith, t.1, length_back s e h) in
      (l, omega (arith, v, t.0, ap (run width 0) (back_drop s n e l h)))

module _ (width : List ℕ → ℕ) where
  -- how the loop from the start ends: no character there, or the end of s
  pub ahead_stop : (s : List ℕ) (i : ℕ) {n : ℕ} → n ≡ width (drop i s) → n ≡ 0 → run width 0 s ≡ i + run width 0 (drop i s) → i ≡ run width 0 s
  ahead_stop s i e z v = omega (arith, v, run_none width (drop i s) (sym e ∙ z))

  pub ahead_end : (s : List ℕ) (i : ℕ) → length s ≤ i → run width 0 s ≡ i + run width 0 (drop i s) → i ≡ run width 0 s
  unfolding run
  ahead_end s i h v = omega (arith, v, ap (run width 0) (drop_of_length-le s h))

  -- how the loop from the end starts, and how it ends: no character there, or the start of s
  pub behind_start : (s : List ℕ) → run width 0 (reverse s) ≡ length s - length s + run width 0 (reverse (take (length s) s))
  behind_start s = omega (arith, ap (λ (l : List ℕ). run width 0 (reverse l)) (take-length s))

  module _ (s : List ℕ) (e : ℕ) (h : e ≤ length s) (v : run width 0 (reverse s) ≡ length s - e + run width 0 (reverse (take e s))) where
    pub behind_stop : {n : ℕ} → n ≡ width (reverse (take e s)) → n ≡ 0 → e ≡ length s - run width 0 (reverse s)
    behind_stop p z = omega (arith, v, run_none width (reverse (take e s)) (sym p ∙ z))

    pub behind_end : e ≡ 0 → e ≡ length s - run width 0 (reverse s)
    unfolding run
    behind_end z = omega (arith, v, ap (λ (k : ℕ). run width 0 (reverse (take k s))) z)
