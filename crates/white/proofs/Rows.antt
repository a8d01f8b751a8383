-- Rows of characters at the start of a text: `run` passes exactly the longest one, in either direction. Assumes nothing.
use mathlib.Core.Path.{◌≡◌, refl, sym, ◌∙◌, ap}
use mathlib.Core.List.{List, [], ◌∷◌, ◌++◌, append_assoc}
use mathlib.Core.Logic.{◌⊎◌, inl, inr, ⊎_elim}
use Prim.Native.Nat.{ℕ, zero, suc, ◌+◌, ◌≤◌, ◌<◌}
use native.Mathlib.Omega.{arith}
use lib.ListN.{length, take, drop, length-append, length-drop, take-append-drop}
use lib.Seq.{drop-drop, drop_at}
use Rattle.utf8.specs.Characters.{Each, in_bytes}
use Rattle.white.specs.Trim.{run}
use Rattle.white.proofs.Runs.{run_none, run_more}

-- `width` gives the length of the character of the set that a text starts with, and 0 where it starts with none
pub record Measures (White : ℕ → Type 0) (bytes : ℕ → List ℕ) (width : List ℕ → ℕ) : Type 0 where
  pub fits : (t : List ℕ) → width t ≤ length t
  pub some : (c : ℕ) → White c → 0 < length (bytes c)
  pub meets : (c : ℕ) → White c → (u : List ℕ) → width (bytes c ++ u) ≡ length (bytes c)
  pub found : (t : List ℕ) → (width t ≡ 0 → ⊥) → (c : ℕ) × White c × (bytes c ≡ take (width t) t)

-- a number is 0 or not
pub zero_or : (n : ℕ) → (n ≡ 0) ⊎ (n ≡ 0 → ⊥)
zero_or zero = inl refl
zero_or (suc n) = inr (λ e. omega arith)

module _ (White : ℕ → Type 0) (bytes : ℕ → List ℕ) (width : List ℕ → ℕ) (m : Measures White bytes width) where
  -- a text starts with a character of the set exactly when its width there is not 0
  pub starts_not : (t : List ℕ) → width t ≡ 0 → (c : ℕ) (u : List ℕ) → White c → t ≡ bytes c ++ u → ⊥
  starts_not t z c u w e = omega (arith, m.some c w, m.meets c w u, ap width e, z)

  found_split : (t : List ℕ) → (width t ≡ 0 → ⊥) → (c : ℕ) × White c × (t ≡ bytes c ++ drop (width t) t)
  found_split t n =
      let f = m.found t n in
      (f.0, f.1, sym (take-append-drop (width t) t) ∙ ap (λ (l : List ℕ). l ++ drop (width t) t) (sym f.2))

  pub width_none : (t : List ℕ) → ((c : ℕ) (u : List ℕ) → White c → t ≡ bytes c ++ u → ⊥) → width t ≡ 0
  width_none t f = ⊎_elim (λ z. z) (λ n. let s = found_split t n in absurd (f s.0 (drop (width t) t) s.1 s.2)) (zero_or (width t))

  -- the run passes a row of characters
  pub run_row : (ws : List ℕ) → Each White ws → (u : List ℕ) → run width 0 (in_bytes bytes ws ++ u) ≡ length (in_bytes bytes ws) + run width 0 u
  unfolding in_bytes
  run_row [] x u = omega arith
  run_row (c ∷ ws) x u =
      let rest = in_bytes bytes ws ++ u in
      let t = bytes c ++ rest in
      let k = m.meets c x.0 rest in
      let more = run_more width m.fits t (λ z. omega (arith, k, m.some c x.0)) in
      let d : drop (width t) t ≡ rest = rw k (drop_at (bytes c) rest (length (bytes c)) refl) in
      rw (append_assoc (bytes c) (in_bytes bytes ws) u)
      (omega (arith, more, k, ap (run width 0) d, run_row ws x.1 u, length-append (bytes c) (in_bytes bytes ws)))

  -- what the run passes is a row of characters, and none follows it
  abbrev pub Passed : List ℕ → Type 0
  Passed t = (ws : List ℕ) × Each White ws × (t ≡ in_bytes bytes ws ++ drop (run width 0 t) t) × (width (drop (run width 0 t) t) ≡ 0)

  passed_none : (t : List ℕ) → width t ≡ 0 → Passed t
  unfolding in_bytes
  passed_none t z = rw (run_none width t z) ([], tt, refl, z)

  passed_more : (t : List ℕ) → (width t ≡ 0 → ⊥) → Passed (drop (width t) t) → Passed t
  unfolding in_bytes
  passed_more t x (ws, e, p, z) =
      let s = found_split t x in
      let tail : drop (run width 0 (drop (width t) t)) (drop (width t) t) ≡ drop (run width 0 t) t =
      drop-drop (run width 0 (drop (width t) t)) (width t) t ∙ ap (λ (k : ℕ). drop k t) (sym (run_more width m.fits t x)) in (
        s.0 ∷ ws,
        (s.1, e),
        s.2 ∙ ap (λ (l : List ℕ). bytes s.0 ++ l) (p ∙ ap (λ (l : List ℕ). in_bytes bytes ws ++ l) tail) ∙ sym (append_assoc (bytes s.0) (in_bytes bytes ws) (drop (run width 0 t) t)),
        ap width (sym tail) ∙ z,
      )

  passed_by : (n : ℕ) (t : List ℕ) → length t ≤ n → Passed t
  passed_by zero t h = passed_none t (omega (arith, m.fits t))
  passed_by (suc n) t h =
      ⊎_elim (λ z. passed_none t z)
      (λ x. passed_more t x (passed_by n (drop (width t) t) (omega (arith, x, m.fits t, length-drop (width t) t))))
      (zero_or (width t))

  pub passed : (t : List ℕ) → Passed t
  passed t = passed_by (length t) t (omega arith)
