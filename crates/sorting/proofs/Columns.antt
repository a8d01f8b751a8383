-- Three columns and their entries. Assumes nothing.
use mathlib.Core.Path.{◌≡◌, refl, sym, ◌∙◌, ap}
use Prim.Native.Nat.{ℕ, zero, suc, ◌<◌}
use native.Mathlib.Nat.{le_of_suc-le-suc, not-suc-le-zero}
use native.Mathlib.Omega.{arith}
use mathlib.Core.List.{List, [], ◌∷◌, map}
use lib.IntN.{ℤ, pos}
use lib.ListN.{length, get_or, set}
use lib.Ieee.{Float, nan}
use Rattle.sorting.specs.Entries.{Entry, zip, Columns}
use Rattle.sorting.specs.Order.{lower, sort_by}

pub map_map : {A B : Type 0} (g : A → B) (h : ℕ → A) (l : List ℕ) → map g (map h l) ≡ map (λ (x : ℕ). g (h x)) l
map_map g h [] = refl
map_map {A} {B} g h (x ∷ l) = ap (λ (m : List B). g (h x) ∷ m) (map_map g h l)

pub map_same : (h : ℕ → ℕ) → ((x : ℕ) → h x ≡ x) → (l : List ℕ) → map h l ≡ l
map_same h e [] = refl
map_same h e (x ∷ l) = rw (e x, map_same h e l)

-- columns of one length are those of their entries
pub columns_zip : (ps : List ℕ) (rs : List Float) (ws : List ℤ) → length rs ≡ length ps → length ws ≡ length ps → Columns (zip ps rs ws) ps rs ws
columns_zip [] [] [] h k = record { places = refl; ratios = refl; wraps = refl }
columns_zip [] [] (w ∷ ws) h k = absurd (omega arith)
columns_zip [] (r ∷ rs) ws h k = absurd (omega arith)
columns_zip (p ∷ ps) [] ws h k = absurd (omega arith)
columns_zip (p ∷ ps) (r ∷ rs) [] h k = absurd (omega arith)
columns_zip (p ∷ ps) (r ∷ rs) (w ∷ ws) h k =
    let v = columns_zip ps rs ws (omega arith) (omega arith) in record {
      places = ap (λ (l : List ℕ). p ∷ l) v.places;
      ratios = ap (λ (l : List Float). r ∷ l) v.ratios;
      wraps = ap (λ (l : List ℤ). w ∷ l) v.wraps;
    }

zip_map : (es : List Entry) → zip (map (λ (e : Entry). e.place) es) (map (λ (e : Entry). e.ratio) es) (map (λ (e : Entry). e.wraps) es) ≡ es
zip_map [] = refl
zip_map (e ∷ es) = ap (λ (l : List Entry). e ∷ l) (zip_map es)

pub zip_columns : {es : List Entry} {ps : List ℕ} {rs : List Float} {ws : List ℤ} → Columns es ps rs ws → zip ps rs ws ≡ es
zip_columns {es} c = rw (c.places, c.ratios, c.wraps) (zip_map es)

pub length_zip : (ps : List ℕ) (rs : List Float) (ws : List ℤ) → length rs ≡ length ps → length ws ≡ length ps → length (zip ps rs ws) ≡ length ps
length_zip ps rs ws h k = sym (ap length (columns_zip ps rs ws h k).places ∙ lib.ListN.length-map (zip ps rs ws) (λ (e : Entry). e.place))

-- what stands past the end
abbrev pub none : Entry
none = record { place = 0; ratio = nan; wraps = pos 0 }

pub zip_at : (ps : List ℕ) (rs : List Float) (ws : List ℤ) (i : ℕ) → length rs ≡ length ps → length ws ≡ length ps → i < length ps
    → get_or (zip ps rs ws) i none ≡ record { place = get_or ps i 0; ratio = get_or rs i nan; wraps = get_or ws i (pos 0) }
zip_at [] rs ws i h k l = absurd (not-suc-le-zero l)
zip_at (p ∷ ps) [] ws i h k l = absurd (omega arith)
zip_at (p ∷ ps) (r ∷ rs) [] i h k l = absurd (omega arith)
zip_at (p ∷ ps) (r ∷ rs) (w ∷ ws) zero h k l = refl
zip_at (p ∷ ps) (r ∷ rs) (w ∷ ws) (suc i) h k l = zip_at ps rs ws i (omega arith) (omega arith) (le_of_suc-le-suc l)

pub zip_set : (ps : List ℕ) (rs : List Float) (ws : List ℤ) (i p : ℕ) (r : Float) (w : ℤ) → length rs ≡ length ps → length ws ≡ length ps
    → set (zip ps rs ws) i (record { place = p; ratio = r; wraps = w }) ≡ zip (set ps i p) (set rs i r) (set ws i w)
zip_set [] rs ws i p r w h k = refl
zip_set (p' ∷ ps) [] ws i p r w h k = absurd (omega arith)
zip_set (p' ∷ ps) (r' ∷ rs) [] i p r w h k = absurd (omega arith)
zip_set (p' ∷ ps) (r' ∷ rs) (w' ∷ ws) zero p r w h k = refl
zip_set (p' ∷ ps) (r' ∷ rs) (w' ∷ ws) (suc i) p r w h k = ap (λ (l : List Entry). record { place = p'; ratio = r'; wraps = w' } ∷ l) (zip_set ps rs ws i p r w (omega arith) (omega arith))

-- ---- two results of one input are equal
-- the columns of a list are one
pub columns_one : (es : List Entry) {ps ps' : List ℕ} {rs rs' : List Float} {ws ws' : List ℤ} → Columns es ps rs ws → Columns es ps' rs' ws' → (ps ≡ ps') × (rs ≡ rs') × (ws ≡ ws')
columns_one es c d = (c.places ∙ sym d.places, c.ratios ∙ sym d.ratios, c.wraps ∙ sym d.wraps)

pub sort_entries_one : (place : List ℕ) (ratio : List Float) (wraps : List ℤ) {ps ps' : List ℕ} {rs rs' : List Float} {ws ws' : List ℤ} → Columns (sort_by lower (zip place ratio wraps)) ps rs ws → Columns (sort_by lower (zip place ratio wraps)) ps' rs' ws'
    → (ps ≡ ps') × (rs ≡ rs') × (ws ≡ ws')
sort_entries_one place ratio wraps = columns_one (sort_by lower (zip place ratio wraps))
