-- Ratios in ascending order: the column of sorted entries, and the last of them is the highest. Assumes nothing.
use mathlib.Core.Path.{◌≡◌, refl, ◌∙◌, ap}
use mathlib.Core.Bool.{Bool, true, false}
use mathlib.Core.List.{List, [], ◌∷◌, ◌++◌, map}
use Prim.Native.Nat.{zero, suc, ◌*◌}
use native.Mathlib.Nat.{zero-mul, mul-pos, zero-lt-suc}
use native.Mathlib.Omega.{arith}
use lib.Dec.{T}
use lib.Ieee.{Float, nan, inf, fin, up, down, lt, of_bits}
use lib.Ieee.Fits.{up_pos}
use borrow.Author.Tests.{lt-ltb}
use lib.Ieee.Positive.{positive}
use Rattle.base.specs.Said.{pick}
use Rattle.floats.specs.Floats.{zero_f}
use Rattle.sorting.specs.Entries.{Entry}
use Rattle.sorting.specs.Order.{lower, insert_by, sort_by}
use Rattle.sorting.proofs.Order.{float_lel, float_asym, clash}
use Rattle.rank2.specs.Notes.{highest_of}

-- ---- the ratios of sorted entries are the sorted ratios
abbrev ratio_in : Entry → Float
ratio_in e = e.ratio

insert_ratios : (x : Entry) (s : List Entry) → map ratio_in (insert_by lower x s) ≡ insert_by lt x.ratio (map ratio_in s)
insert_ratios x [] = refl
insert_ratios x (y ∷ ys) = go (lt y.ratio x.ratio) (insert_ratios x ys)
  where
    go : (b : Bool) → map ratio_in (insert_by lower x ys) ≡ insert_by lt x.ratio (map ratio_in ys)
        → map ratio_in (pick b (y ∷ insert_by lower x ys) (x ∷ y ∷ ys)) ≡ pick b (y.ratio ∷ insert_by lt x.ratio (map ratio_in ys)) (x.ratio ∷ y.ratio ∷ map ratio_in ys)
    go true e = ap (λ (l : List Float). y.ratio ∷ l) e
    go false e = refl

pub sorted_ratios : (es : List Entry) → map ratio_in (sort_by lower es) ≡ sort_by lt (map ratio_in es)
sorted_ratios [] = refl
sorted_ratios (e ∷ es) = insert_ratios e (sort_by lower es) ∙ ap (insert_by lt e.ratio) (sorted_ratios es)

-- ---- the last one
abbrev pub last_after : Float → List Float → Float
last_after d [] = d
last_after d (x ∷ xs) = last_after x xs

abbrev pub Positives : List Float → Type 0
Positives [] = Unit {0}
Positives (x ∷ xs) = T (positive x) × Positives xs

-- h is below none of them
abbrev NoneAbove : Float → List Float → Type 0
NoneAbove h [] = Unit {0}
NoneAbove h (x ∷ xs) = (lt h x ≡ false) × NoneAbove h xs

-- each is below x
abbrev AllBelow : Float → List Float → Type 0
AllBelow x [] = Unit {0}
AllBelow x (y ∷ ys) = (lt y x ≡ true) × AllBelow x ys

below_all : (h x : Float) (s : List Float) → T (positive h) → T (positive x) → Positives s → lt h x ≡ true → NoneAbove h s → AllBelow x s
below_all h x [] ph px ps e n = tt
below_all h x (y ∷ ys) ph px ps e n = (float_lel h y x ph ps.0 px n.0 e, below_all h x ys ph px ps.1 e n.1)

insert_end : (x : Float) (s : List Float) → AllBelow x s → insert_by lt x s ≡ s ++ (x ∷ [])
insert_end x [] b = refl
insert_end x (y ∷ ys) b = rw (b.0, insert_end x ys b.1)

last_end : (d x : Float) (s : List Float) → last_after d (s ++ (x ∷ [])) ≡ x
last_end d x [] = refl
last_end d x (y ∷ ys) = last_end y x ys

none_end : (x : Float) (s : List Float) → T (positive x) → Positives s → AllBelow x s → NoneAbove x (s ++ (x ∷ []))
none_end x [] px ps b = (go (lt x x) refl, tt)
  where
    go : (t : Bool) → lt x x ≡ t → lt x x ≡ false
    go true e = float_asym x x px px e
    go false e = e
none_end x (y ∷ ys) px ps b = (float_asym x y px ps.0 b.0, none_end x ys px ps.1 b.1)

-- where x is not above the last one, that stays
insert_kept : (d x : Float) (s : List Float) (y : Float) → lt (last_after y s) x ≡ false → last_after d (insert_by lt x (y ∷ s)) ≡ last_after y s
insert_kept d x [] y e = rw e
insert_kept d x (z ∷ zs) y e = go (lt y x) (insert_kept y x zs z e)
  where
    go : (b : Bool) → last_after y (insert_by lt x (z ∷ zs)) ≡ last_after z zs → last_after d (pick b (y ∷ insert_by lt x (z ∷ zs)) (x ∷ y ∷ z ∷ zs)) ≡ last_after z zs
    go true h = h
    go false h = refl

none_kept : (h x : Float) (s : List Float) → lt h x ≡ false → NoneAbove h s → NoneAbove h (insert_by lt x s)
none_kept h x [] e n = (e, tt)
none_kept h x (y ∷ ys) e n = go (lt y x) (none_kept h x ys e n.1)
  where
    go : (b : Bool) → NoneAbove h (insert_by lt x ys) → NoneAbove h (pick b (y ∷ insert_by lt x ys) (x ∷ y ∷ ys))
    go true m = (n.0, m)
    go false m = (e, (n.0, n.1))

insert_positive : (x : Float) (s : List Float) → T (positive x) → Positives s → Positives (insert_by lt x s)
insert_positive x [] px ps = (px, tt)
insert_positive x (y ∷ ys) px ps = go (lt y x) (insert_positive x ys px ps.1)
  where
    go : (b : Bool) → Positives (insert_by lt x ys) → Positives (pick b (y ∷ insert_by lt x ys) (x ∷ y ∷ ys))
    go true m = (ps.0, m)
    go false m = (px, (ps.0, ps.1))

pub sort_positive : (rs : List Float) → Positives rs → Positives (sort_by lt rs)
sort_positive [] p = tt
sort_positive (r ∷ rs) p = insert_positive r (sort_by lt rs) p.0 (sort_positive rs p.1)

-- ---- THE LAST ONE IS THE HIGHEST
zero_below : (x : Float) → T (positive x) → lt zero_f x ≡ true
unfolding lt of_bits
zero_below nan p = absurd p
zero_below (inf s) p = absurd p
zero_below (fin true m e) p = absurd p
zero_below (fin false zero e) p = absurd p
zero_below (fin false (suc m) e) p =
    let z : 0 * 1 * down e ≡ 0 = omega (arith, zero-mul (down e)) in
    lt-ltb (0 * 1 * down e) (suc m * up e * 1) (omega (arith, z, mul-pos (zero-lt-suc m) (up_pos e)))

last_positive : (y : Float) (ys : List Float) → T (positive y) → Positives ys → T (positive (last_after y ys))
last_positive y [] p ps = p
last_positive y (z ∷ zs) p ps = last_positive z zs ps.0 ps.1

below_last : (x : Float) (s : List Float) → T (positive x) → Positives s → lt (last_after zero_f s) x ≡ true → NoneAbove (last_after zero_f s) s → AllBelow x s
below_last x [] px ps e n = tt
below_last x (y ∷ ys) px ps e n = below_all (last_after y ys) x (y ∷ ys) (last_positive y ys ps.0 ps.1) px ps e n

kept_last : (x : Float) (s : List Float) → T (positive x) → lt (last_after zero_f s) x ≡ false → last_after zero_f (insert_by lt x s) ≡ last_after zero_f s
kept_last x [] px e = clash (zero_below x px) e
kept_last x (y ∷ ys) px e = insert_kept zero_f x ys y e

pub record Top (rs : List Float) : Type 0 where
  pub last : last_after zero_f (sort_by lt rs) ≡ highest_of rs
  pub none : NoneAbove (last_after zero_f (sort_by lt rs)) (sort_by lt rs)

pub highest_last : (rs : List Float) → Positives rs → Top rs
unfolding highest_of
highest_last [] p = record { last = refl; none = tt }
highest_last (r ∷ rs) p = go (lt (last_after zero_f (sort_by lt rs)) r) refl (highest_last rs p.1)
  where
    go : (b : Bool) → lt (last_after zero_f (sort_by lt rs)) r ≡ b → Top rs → Top (r ∷ rs)
    go true e t =
        let b = below_last r (sort_by lt rs) p.0 (sort_positive rs p.1) e t.none in
        let i = insert_end r (sort_by lt rs) b in
        let l : last_after zero_f (insert_by lt r (sort_by lt rs)) ≡ r = ap (last_after zero_f) i ∙ last_end zero_f r (sort_by lt rs) in
        record {
          last = l ∙ rw (← t.last, e);
          none = rw (l, i) (none_end r (sort_by lt rs) p.0 (sort_positive rs p.1) b);
        }
    go false e t =
        let l = kept_last r (sort_by lt rs) p.0 e in
        record {
          last = l ∙ t.last ∙ rw (← t.last, e);
          none = rw l (none_kept (last_after zero_f (sort_by lt rs)) r (sort_by lt rs) e t.none);
        }
