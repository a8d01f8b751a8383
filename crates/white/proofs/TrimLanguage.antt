-- THE THEOREM OF TRIMMING for document 01's reading: what the code leaves of a line is the line trimmed of Unicode White_Space at
-- both ends, and nothing else is. Assumes nothing.
use mathlib.Core.Path.{◌≡◌, refl, ◌∙◌, ap}
use mathlib.Core.List.{List, [], ◌∷◌, ◌++◌, reverse}
use mathlib.Core.Bool.{Bool, true, false}
use Prim.Native.Nat.{ℕ, ◌<◌}
use native.Mathlib.Omega.{arith}
use lib.ListN.{length, get_or, take, length-reverse}
use Rattle.utf8.specs.Characters.{encode}
use Rattle.white.specs.White.{WhiteSpace, Trimmed}
use Rattle.white.specs.Trim.{white1, white2, white3, back2, back3, white_width, width_by, front, back, trim_by}
use Rattle.white.proofs.Widths.{Hit, front_hit, back_hit, front_fits, back_fits}
use Rattle.white.proofs.WhiteSpaces.{Lead, Shape, shape, is1, is2, is3, lead2, lead3, lead_last}
use Rattle.white.proofs.Rows.{Measures}
use Rattle.white.proofs.Trims as trims

-- a white character has some bytes
some : (c : ℕ) → WhiteSpace c → 0 < length (encode c)
some c w = go (encode c) (shape c w)
  where
    go : (s : List ℕ) → Shape s → 0 < length s
    go s (Shape.shape1 b e l p) = rw e (omega arith)
    go s (Shape.shape2 b c e l p q r) = rw e (omega arith)
    go s (Shape.shape3 b c d e l p q r u v) = rw e (omega arith)

-- `front` measures White_Space at the start of a text
measures_front : Measures WhiteSpace encode front
unfolding width_by
measures_front =
    record {
      fits = front_fits;
      some = some;
      meets = λ c w u. meets (encode c) u (shape c w);
      found = λ t n. found t (front t) n (front_hit t);
    }
  where
    meets : (s u : List ℕ) → Shape s → front (s ++ u) ≡ length s
    meets s u (Shape.shape1 b e l p) = rw (e, p)
    meets s u (Shape.shape2 b c e l p q r) = rw (e, p, q)
    meets s u (Shape.shape3 b c d e l p q r x y) = rw (e, p, q, r)

    found : (t : List ℕ) (n : ℕ) → (n ≡ 0 → ⊥) → Hit white2 white3 t n → (c : ℕ) × WhiteSpace c × (encode c ≡ take n t)
    found t n x (Hit.none z) = absurd (x z)
    found t n x (Hit.hit1 b r e p k) = let w = is1 b p in (w.0, w.1, w.2 ∙ rw (k, e))
    found t n x (Hit.hit2 b c r e p k) = let w = is2 b c p in (w.0, w.1, w.2 ∙ rw (k, e))
    found t n x (Hit.hit3 b c d r e p k) = let w = is3 b c d p in (w.0, w.1, w.2 ∙ rw (k, e))

-- and `back` at its end, which is read backwards
measures_back : Measures WhiteSpace (λ c. reverse (encode c)) back
unfolding width_by
measures_back =
    record {
      fits = back_fits;
      some = λ c w. omega (arith, some c w, length-reverse (encode c));
      meets = λ c w u. meets (encode c) u (shape c w);
      found = λ t n. found t (back t) n (back_hit t);
    }
  where
    meets : (s u : List ℕ) → Shape s → back (reverse s ++ u) ≡ length (reverse s)
    meets s u (Shape.shape1 b e l p) = rw (e, p)
    meets s u (Shape.shape2 b c e l p q r) = rw (e, r, q)
    meets s u (Shape.shape3 b c d e l p q r x y) = rw (e, x, y, r)

    found : (t : List ℕ) (n : ℕ) → (n ≡ 0 → ⊥) → Hit back2 back3 t n → (c : ℕ) × WhiteSpace c × (reverse (encode c) ≡ take n t)
    found t n x (Hit.none z) = absurd (x z)
    found t n x (Hit.hit1 b r e p k) = let w = is1 b p in (w.0, w.1, ap reverse w.2 ∙ rw (k, e))
    found t n x (Hit.hit2 b c r e p k) = let w = is2 c b p in (w.0, w.1, ap reverse w.2 ∙ rw (k, e))
    found t n x (Hit.hit3 b c d r e p k) = let w = is3 d c b p in (w.0, w.1, ap reverse w.2 ∙ rw (k, e))

-- a text that starts with no white character still starts with none where a character follows it
joins_lead : (m : List ℕ) (b : ℕ) (v : List ℕ) → Lead b → 0 < length m → front m ≡ 0 → front (m ++ (b ∷ v)) ≡ 0
unfolding width_by
joins_lead [] b v l h z = absurd (omega arith)
joins_lead (x ∷ []) b v l h z = rw (no1 (white1 x) (white2 x 0) (white3 x 0 0) z, lead2 b l x, lead3 b l x (get_or v 0 0))
  where
    no1 : (p q r : Bool) → white_width p q r ≡ 0 → p ≡ false
    no1 true q r e = absurd (omega arith)
    no1 false q r e = refl
joins_lead (x ∷ y ∷ []) b v l h z =
    let n = no2 (white1 x) (white2 x y) (white3 x y 0) z in
    rw (n.0, n.1, lead_last b l x y)
  where
    no2 : (p q r : Bool) → white_width p q r ≡ 0 → (p ≡ false) × (q ≡ false)
    no2 true q r e = absurd (omega arith)
    no2 false true r e = absurd (omega arith)
    no2 false false r e = (refl, refl)
joins_lead (x ∷ y ∷ w ∷ m) b v l h z = z

joins : (m : List ℕ) (c : ℕ) (u : List ℕ) → 0 < length m → front m ≡ 0 → WhiteSpace c → front (m ++ (encode c ++ u)) ≡ 0
joins m c u h z w = go (encode c) (shape c w)
  where
    go : (s : List ℕ) → Shape s → front (m ++ (s ++ u)) ≡ 0
    go s (Shape.shape1 b e l p) = rw e (joins_lead m b u l h z)
    go s (Shape.shape2 b d e l p q r) = rw e (joins_lead m b (d ∷ u) l h z)
    go s (Shape.shape3 b d f e l p q r x y) = rw e (joins_lead m b (d ∷ f ∷ u) l h z)

-- THE THEOREM: what the code leaves is the trimmed text
pub trimmed : (s : List ℕ) → Trimmed WhiteSpace encode s (trim_by front back s)
trimmed = trims.trims WhiteSpace encode front back measures_front measures_back

-- and nothing else is
pub one_trimmed : (s m : List ℕ) → Trimmed WhiteSpace encode s m → trim_by front back s ≡ m
one_trimmed = trims.one_trim WhiteSpace encode front back measures_front measures_back joins
