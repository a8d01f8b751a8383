-- A list in order is its own sort. Assumes nothing.
use mathlib.Core.Path.{◌≡◌, refl, sym, ◌∙◌, ap, subst}
use mathlib.Core.Bool.{Bool, true, false, true≢false}
use Prim.Native.Nat.{ℕ, ◌+◌, ◌≤◌, ◌<◌}
use native.Mathlib.Numerals.{add-one}
use mathlib.Core.List.{List, [], ◌∷◌, map}
use lib.IntN.{ℤ}
use lib.ListN.{length, get_or, drop, drop_of_length-le}
use lib.Seq.{drop-cons}
use lib.Ieee.{Float, nan, lt}
use Rattle.base.specs.Said.{pick}
use Rattle.floats.specs.Floats.{zero_f}
use Rattle.sorting.specs.Entries.{Entry, zip, Columns}
use Rattle.sorting.specs.Order.{lower, insert_by, sort_by}
use Rattle.sorting.specs.Asked.{rises_from, in_order}
use Rattle.sorting.proofs.Columns.{columns_zip}

-- ---- the pass
pub rises_on : (last : Float) (rs : List Float) (i : ℕ) → i < length rs → lt (get_or rs i nan) last ≡ false → rises_from last (drop i rs) ≡ rises_from (get_or rs i nan) (drop (i + 1) rs)
rises_on last rs i h g = rw (add-one i, drop-cons rs i nan h) (simp g)

pub rises_stops : (last : Float) (rs : List Float) (i : ℕ) → i < length rs → lt (get_or rs i nan) last ≡ true → rises_from last (drop i rs) ≡ false
rises_stops last rs i h g = rw (drop-cons rs i nan h) (simp g)

pub rises_end : (last : Float) (rs : List Float) (i : ℕ) → length rs ≤ i → rises_from last (drop i rs) ≡ true
rises_end last rs i h = rw (drop_of_length-le rs {i = i} h)

-- ---- its own sort
rises_both : (b c : Bool) → pick b false c ≡ true → (b ≡ false) × (c ≡ true)
rises_both true c h = absurd (true≢false (sym h))
rises_both false c h = (refl, h)

own_sort : (p : Float) (es : List Entry) → rises_from p (map (λ (e : Entry). e.ratio) es) ≡ true → sort_by lower es ≡ es
own_sort p [] h = refl
own_sort p (e ∷ []) h = refl
own_sort p (e ∷ f ∷ es) h =
    let rest = map (λ (x : Entry). x.ratio) es in
    let a = (rises_both (lt e.ratio p) (rises_from e.ratio (f.ratio ∷ rest)) h).1 in
    let b = (rises_both (lt f.ratio e.ratio) (rises_from f.ratio rest) a).0 in
    ap (insert_by lower e) (own_sort e.ratio (f ∷ es) a) ∙ simp b

pub already : (ps : List ℕ) (rs : List Float) (ws : List ℤ) → length rs ≡ length ps → length ws ≡ length ps → in_order rs ≡ true → Columns (sort_by lower (zip ps rs ws)) ps rs ws
already ps rs ws lr lw h =
    let c = columns_zip ps rs ws lr lw in
    subst (λ (es : List Entry). Columns es ps rs ws) (sym (own_sort zero_f (zip ps rs ws) (subst (λ (l : List Float). in_order l ≡ true) c.ratios h))) c
