-- A lent list that passes the test is what a search asks for. Assumes nothing.
use mathlib.Core.Path.{◌≡◌, refl, sym}
use mathlib.Core.Logic.{inl, inr, ◌↔◌}
use mathlib.Core.Bool.{Bool, true, false, not, ◌&&◌, true≢false}
use Prim.Native.Nat.{ℕ, zero, suc, ◌*◌, ◌<◌, suc-le-suc}
use native.Mathlib.Nat.{le_of_suc-le-suc, not-suc-le-zero}
use native.Mathlib.Omega.{arith}
use mathlib.Core.List.{List, [], ◌∷◌, map}
use lib.Dec.{T, lt→ltb}
use lib.IntN.{pos}
use lib.ListN.{length, get_or}
use lib.Ieee.{Float, nan, inf, fin, up, down, lt, of_bits, of_fields, odd, climb, span, size}
use lib.Ieee.Positive.{positive}
use borrow.Author.Tests.{le-ltb}
use Rattle.floats.specs.Floats.{zero_f}
use Rattle.floats.specs.Ranges.{in_reach}
use Rattle.floats.proofs.Ranges.{Within, within_fin, reach_says}
use Rattle.sorting.specs.Entries.{Entry}
use Rattle.sorting.specs.Order.{lower, sort_by}
use Rattle.sorted.specs.Repeats.{keep}
use Rattle.sorting.specs.Asked.{AllPositive}
use Rattle.sorting.specs.Stable.{NeverFalls}
use Rattle.sorted.specs.Lent.{AllInReach, may_follow, usable_after, usable}
use Rattle.base.proofs.Integers.{bool_cases}
use Rattle.sorting.proofs.Order.{clash, float_lel, float_asym}
use Rattle.sorting.proofs.Work.{All}
use Rattle.sorting.proofs.Stable.{Good}
use Rattle.sorted.proofs.Facts.{arranged_all, arranged_falls}

nought : zero_f ≡ fin false 0 (pos 0)
unfolding of_bits of_fields odd climb span size
nought = refl

-- an entry whose ratio lies in the range
abbrev pub InReach : Entry → Type 0
InReach e = in_reach e.ratio ≡ true

-- what lies in the range is finite and above zero
reach_positive' : {x : Float} → Within 900 900 x → T (positive x)
reach_positive' (within_fin m e p l h) = lt→ltb 0 m p

pub reach_positive : (x : Float) → in_reach x ≡ true → T (positive x)
reach_positive x h = reach_positive' (reach_says x h)

pub all_positive : (rs : List Float) → AllInReach rs → AllPositive rs
all_positive rs a i h = reach_positive (get_or rs i nan) (a i h)

-- ---- what passes is what a search asks for
pub both : (a b : Bool) → (a && b) ≡ true → (a ≡ true) × (b ≡ true)
both true b h = (refl, h)
both false b h = absurd (true≢false (sym h))

not_true : (a : Bool) → not a ≡ true → a ≡ false
not_true true h = absurd (true≢false (sym h))
not_true false h = refl

pub record Next (p r : Float) (rs : List Float) : Type 0 where
  pub good : in_reach r ≡ true
  pub up : lt r p ≡ false
  pub more : usable_after r rs ≡ true

pub next : (p r : Float) (rs : List Float) → usable_after p (r ∷ rs) ≡ true → Next p r rs
unfolding may_follow usable_after
next p r rs h =
    let here = both (in_reach r && not (lt r p)) (usable_after r rs) h in
    let parts = both (in_reach r) (not (lt r p)) here.0 in
    record { good = parts.0; up = not_true (lt r p) parts.1; more = here.1 }

pub usable_in_reach : (p : Float) (rs : List Float) → usable_after p rs ≡ true → AllInReach rs
usable_in_reach p [] h i k = absurd (not-suc-le-zero k)
usable_in_reach p (r ∷ rs) h zero k = (next p r rs h).good
usable_in_reach p (r ∷ rs) h (suc i) k = usable_in_reach r rs (next p r rs h).more i (le_of_suc-le-suc k)

over : (x p r : Float) → T (positive x) → T (positive p) → T (positive r) → lt p x ≡ false → lt r p ≡ false → lt r x ≡ false
over x p r g q n l u = elim (bool_cases (lt r x)) [ inl e ↦ clash (float_lel r p x n q g u e) l | inr e ↦ e ]

no_lower : (x p : Float) (rs : List Float) → T (positive x) → T (positive p) → lt p x ≡ false → usable_after p rs ≡ true → (j : ℕ) → j < length rs → lt (get_or rs j nan) x ≡ false
no_lower x p [] g q l h j k = absurd (not-suc-le-zero k)
no_lower x p (r ∷ rs) g q l h zero k = let n = next p r rs h in over x p r g q (reach_positive r n.good) l n.up
no_lower x p (r ∷ rs) g q l h (suc j) k =
    let n = next p r rs h in
    let a = reach_positive r n.good in
    no_lower x r rs g a (over x p r g q a l n.up) n.more j (le_of_suc-le-suc k)

not_self : (x : Float) → T (positive x) → lt x x ≡ false
not_self x g = elim (bool_cases (lt x x)) [ inl e ↦ clash e (float_asym x x g g e) | inr e ↦ e ]

pub usable_rises : (p : Float) (rs : List Float) → usable_after p rs ≡ true → NeverFalls rs
usable_rises p [] h i j l k = absurd (not-suc-le-zero k)
usable_rises p (r ∷ rs) h i zero l k = absurd (not-suc-le-zero l)
usable_rises p (r ∷ rs) h zero (suc j) l k =
    let n = next p r rs h in
    let a = reach_positive r n.good in
    no_lower r r rs a a (not_self r a) n.more j (le_of_suc-le-suc k)
usable_rises p (r ∷ rs) h (suc i) (suc j) l k = usable_rises r rs (next p r rs h).more i j (le_of_suc-le-suc l) (le_of_suc-le-suc k)

-- ---- and what a search asks for passes
pub passes : (p : Float) (rs : List Float) → AllInReach rs → NeverFalls rs → (0 < length rs → lt (get_or rs 0 nan) p ≡ false) → usable_after p rs ≡ true
unfolding may_follow usable_after
passes p [] a f h = refl
passes p (r ∷ rs) a f h =
    let more = passes r rs (λ i k. a (suc i) (suc-le-suc k)) (λ i j l k. f (suc i) (suc j) (suc-le-suc l) (suc-le-suc k)) (λ k. f 0 1 (omega arith) (suc-le-suc k)) in
    rw (a 0 (omega arith), h (omega arith)) more

not_below_nought : (x : Float) → T (positive x) → lt x (fin false 0 (pos 0)) ≡ false
unfolding lt
not_below_nought nan p = absurd p
not_below_nought (inf s) p = absurd p
not_below_nought (fin true m e) p = absurd p
not_below_nought (fin false m e) p = le-ltb (m * up e * 1) (0 * down e) (omega arith)

pub usable_is : (rs : List Float) → (usable rs ≡ true) ↔ (AllInReach rs × NeverFalls rs)
usable_is rs = (
  λ h. (usable_in_reach zero_f rs h, usable_rises zero_f rs h),
  λ h. passes zero_f rs h.0 h.1 (λ k. rw nought (not_below_nought (get_or rs 0 nan) (reach_positive (get_or rs 0 nan) (h.0 0 k)))),
)

-- ---- the list that is left passes the test
all_reach : (s : List Entry) → All InReach s → AllInReach (map (λ (e : Entry). e.ratio) s)
all_reach [] a i h = absurd (not-suc-le-zero h)
all_reach (x ∷ s) a zero h = a.0
all_reach (x ∷ s) a (suc i) h = all_reach s a.1 i (le_of_suc-le-suc h)

all_good : (s : List Entry) → All InReach s → All Good s
all_good [] a = a
all_good (x ∷ s) a = (reach_positive x.ratio a.0, all_good s a.1)

pub arranged_usable : (s : List Entry) → All InReach s → usable (map (λ (e : Entry). e.ratio) (keep (sort_by lower s))) ≡ true
arranged_usable s a =
    let t = keep (sort_by lower s) in
    (usable_is (map (λ (e : Entry). e.ratio) t)).1 (all_reach t (arranged_all InReach s a), arranged_falls s (all_good s a))
