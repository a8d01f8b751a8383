-- A sorted list's entries: "Of a sorted entry, its place, reduced ratio and wraparounds stand together" (document 01, "Scales
-- and searches"), in three lent columns. Assumes nothing.
use Rattle.std.specs.Prelude.{◌≡◌, ℕ, List, [], ◌∷◌, map, ℤ, Float}

pub record Entry : Type 0 where
  pub place : ℕ
  pub ratio : Float
  pub wraps : ℤ

-- three columns as one list of entries
abbrev pub zip : List ℕ → List Float → List ℤ → List Entry
zip [] rs ws = []
zip (p ∷ ps) [] ws = []
zip (p ∷ ps) (r ∷ rs) [] = []
zip (p ∷ ps) (r ∷ rs) (w ∷ ws) = record { place = p; ratio = r; wraps = w } ∷ zip ps rs ws

-- ps, rs and ws are the columns of the entries es
pub record Columns (es : List Entry) (ps : List ℕ) (rs : List Float) (ws : List ℤ) : Type 0 where
  pub places : ps ≡ map (λ (e : Entry). e.place) es
  pub ratios : rs ≡ map (λ (e : Entry). e.ratio) es
  pub wraps : ws ≡ map (λ (e : Entry). e.wraps) es
