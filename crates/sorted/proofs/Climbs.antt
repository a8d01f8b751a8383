-- Ratios that go up from 2^-900 and end at 2^900 at most are those that lie in the range and never fall. Assumes nothing.
use mathlib.Core.Path.{◌≡◌, refl, sym, ◌∙◌, subst}
use mathlib.Core.Bool.{Bool, true, false, ◌&&◌}
use mathlib.Core.List.{List, [], ◌∷◌}
use Prim.Native.Nat.{◌*◌}
use lib.Dec.{T}
use lib.IntN.{pos, neg_ℤ}
use lib.ListN.{get_or}
use lib.Ieee.{Float, nan, inf, fin, lt, eq, le}
use lib.Ieee.Positive.{num, den, positive, above, le→cross, cross→le, le_trans_positive, above_of_le}
use borrow.Author.Tests.{ltb-false, le-ltb}
use Rattle.floats.specs.Floats.{two_to}
use Rattle.floats.specs.Ranges.{in_reach}
use Rattle.floats.proofs.Ranges.{and_true}
use Rattle.sorting.proofs.Order.{lt_cross}
use Rattle.sorted.specs.Lent.{may_follow, usable_after, usable}
use Rattle.sorted.proofs.Usable.{reach_positive, next, usable_in_reach, usable_rises, passes, usable_is}

-- the ends of the range
abbrev pub lowest : Float
lowest = two_to (neg_ℤ (pos 900))

abbrev pub highest : Float
highest = two_to (pos 900)

-- after the ratio p each is at least the one before it, and the last is at most 2^900
unfoldable pub climbs : Float → List Float → Bool
climbs p [] = le p highest
climbs p (r ∷ rs) = le p r && climbs r rs

-- ---- truth
is_true : (t : Bool) → T t → t ≡ true
is_true true h = refl
is_true false h = absurd h

of_true : (t : Bool) → t ≡ true → T t
of_true t h = subst T (sym h) tt

same : (a b : Bool) → (a ≡ true → b ≡ true) → (b ≡ true → a ≡ true) → a ≡ b
same true b f g = sym (f refl)
same false true f g = g refl
same false false f g = refl

-- ---- of two ratios one is at most the other exactly where the other is not below it
not_below : (p r : Float) → T (positive p) → T (positive r) → T (le p r) → lt r p ≡ false
not_below p r a c h = rw (lt_cross r p c a) (le-ltb (num r * den p) (num p * den r) (le→cross p r a c h))

at_most : (p r : Float) → T (positive p) → T (positive r) → lt r p ≡ false → le p r ≡ true
at_most p r a c h = is_true (le p r) (cross→le p r a c (ltb-false (num r * den p) (num p * den r) (sym (lt_cross r p c a) ∙ h)))

-- ---- what goes up and ends below the end is below it from the start
infinite : (rs : List Float) → climbs (inf false) rs ≡ true → T false
unfolding climbs le lt eq
infinite [] h = of_true false h
infinite (nan ∷ rs) h = of_true false h
infinite (inf true ∷ rs) h = of_true false h
infinite (inf false ∷ rs) h = infinite rs h
infinite (fin s m e ∷ rs) h = of_true false h

climbs_positive : (p : Float) (rs : List Float) → T (above p) → climbs p rs ≡ true → T (positive p)
climbs_positive nan rs a h = absurd a
climbs_positive (inf true) rs a h = absurd a
climbs_positive (inf false) rs a h = absurd (infinite rs h)
climbs_positive (fin true m e) rs a h = absurd a
climbs_positive (fin false m e) rs a h = a

record Step (p r : Float) (rs : List Float) : Type 0 where
  good : T (positive r)
  up : T (le p r)
  more : climbs r rs ≡ true

step : (p r : Float) (rs : List Float) → T (positive p) → climbs p (r ∷ rs) ≡ true → Step p r rs
unfolding climbs
step p r rs q h =
    let t = and_true (le p r) (climbs r rs) h in
    let c = is_true (climbs r rs) t.1 in
    record { good = climbs_positive r rs (above_of_le p r q t.0) c; up = t.0; more = c }

ends : (p : Float) (rs : List Float) → T (positive p) → climbs p rs ≡ true → T (le p highest)
unfolding climbs
ends p [] q h = of_true (le p highest) h
ends p (r ∷ rs) q h = let s = step p r rs q h in le_trans_positive p r highest q s.good tt s.up (ends r rs s.good s.more)

-- ---- so it is usable, and what is usable goes up so
climbs_passes : (p : Float) (rs : List Float) → T (positive p) → T (le lowest p) → climbs p rs ≡ true → usable_after p rs ≡ true
unfolding usable_after may_follow
climbs_passes p [] q l h = refl
climbs_passes p (r ∷ rs) q l h =
    let s = step p r rs q h in
    let m = le_trans_positive lowest p r tt q s.good l s.up in
    rw (is_true (le lowest r) m, is_true (le r highest) (ends r rs s.good s.more), not_below p r q s.good s.up) (climbs_passes r rs s.good m s.more)

passes_climbs : (p : Float) (rs : List Float) → in_reach p ≡ true → usable_after p rs ≡ true → climbs p rs ≡ true
unfolding climbs
passes_climbs p [] g h = is_true (le p highest) (and_true (le lowest p) (le p highest) g).1
passes_climbs p (r ∷ rs) g h =
    let n = next p r rs h in
    rw (at_most p r (reach_positive p g) (reach_positive r n.good) n.up) (passes_climbs r rs n.good n.more)

low_in_reach : in_reach lowest ≡ true
unfolding le lt eq
low_in_reach = refl

pub climbs_usable : (rs : List Float) → climbs lowest rs ≡ usable rs
climbs_usable rs = same (climbs lowest rs) (usable rs) there back
  where
    there : climbs lowest rs ≡ true → usable rs ≡ true
    there h =
        let u = climbs_passes lowest rs tt (and_true (le lowest lowest) (le lowest highest) low_in_reach).0 h in
        (usable_is rs).1 (usable_in_reach lowest rs u, usable_rises lowest rs u)

    above_lowest : (r : Float) → in_reach r ≡ true → lt r lowest ≡ false
    above_lowest r g = not_below lowest r tt (reach_positive r g) (and_true (le lowest r) (le r highest) g).0

    back : usable rs ≡ true → climbs lowest rs ≡ true
    back h =
        let m = (usable_is rs).0 h in
        passes_climbs lowest rs low_in_reach (passes lowest rs m.0 m.1 (λ k. above_lowest (get_or rs 0 nan) (m.0 0 k)))
