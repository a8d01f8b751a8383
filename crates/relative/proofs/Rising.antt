-- WITHIN A PERIOD ASCENDING DEGREES NEVER FALL: of two ascending degrees of one period the later has no lower relative pitch.
-- Assumes nothing.
use mathlib.Core.Path.{◌≡◌, sym, ◌∙◌, ap, subst}
use mathlib.Core.Bool.{true, false, ◌&&◌}
use mathlib.Core.Logic.{inl, inr}
use Prim.Native.Nat.{ℕ, ◌+◌, ◌*◌, ◌≤◌, ◌<◌}
use native.Mathlib.Nat.{le_refl, eq-or-lt_of_le}
use native.Mathlib.Omega.{arith}
use lib.Dec.{T}
use lib.IntN.{ℤ}
use lib.ListN.{get_or, take}
use lib.Seq.{get_or-take}
use lib.Ieee.{Float, binary64, nan, le, lt, mul, of_int}
use lib.Ieee.Bits.{is_true}
use lib.Ieee.Positive.{num, den, positive, cross→le, mul_mono}
use borrow.Author.Tests.{ltb-false}
use Rattle.base.specs.Numbers.{unusable, beyond_reach}
use Rattle.base.specs.Said.{gives}
use Rattle.base.proofs.Said.{same_value}
use Rattle.floats.specs.Ranges.{in_reach}
use Rattle.pitch.specs.Given.{computed}
use Rattle.pitch.specs.Ratios.{repeated, stretched_by}
use Rattle.sorting.specs.Entries.{Entry}
use Rattle.sorting.proofs.Order.{lt_cross}
use Rattle.sorted.specs.Lent.{ListTable, list_in, is_list}
use Rattle.sorted.proofs.Usable.{reach_positive}
use Rattle.scl.specs.Items.{ratio_of}
use Rattle.scl.specs.Table.{ItemTable, items_in, is_items}
use Rattle.scl.proofs.Table.{both}
use Rattle.scl_tables.specs.Build.{last_of, count_of}
use Rattle.relative.specs.Relative.{periods_of, place_of, stretched, sorted_relative_pitch_of}
use Rattle.relative.specs.Scales.{no_entry}
use Rattle.relative.proofs.Back.{then_given, pick_given}
use Rattle.relative.proofs.Places.{items_count, ratio_reach, list_at, ratios_part, ratios_rise}
use Rattle.relative.proofs.Theorems.{place_le}

-- ---- floats above zero
le_self : (x : Float) → T (positive x) → T (le x x)
le_self x p = cross→le x x p p (le_refl (num x * den x))

not_below : (x y : Float) → T (positive x) → T (positive y) → lt y x ≡ false → T (le x y)
not_below x y p q h = cross→le x y p q (ltb-false (num y * den x) (num x * den y) (sym (lt_cross y x q p) ∙ h))

-- ---- one product: what was given is the product of the base and the ratio
record Product (base r a : Float) : Type 0 where
  reach : in_reach base ≡ true
  is : mul binary64 base r ≡ a

product : (base r a : Float) → stretched_by base r ≡ gives a → Product base r a
product base r a e =
    let p = pick_given (in_reach base && in_reach r) (computed (mul binary64 base r)) unusable e in
    let v = pick_given (in_reach (mul binary64 base r)) (gives (mul binary64 base r)) beyond_reach p.1 in
    record { reach = (both (in_reach base) (in_reach r) p.0).0; is = same_value (mul binary64 base r) a v.1 }

-- two ratios so many periods up
stretched_rises : (period : Float) (q : ℤ) (r s a b : Float) → T (positive r) → T (positive s) → T (le r s) → stretched period q r ≡ gives a → stretched period q s ≡ gives b → T (le a b)
stretched_rises period q r s a b pr ps l e f =
    let x = then_given (repeated period (of_int binary64 q)) (λ base. stretched_by base r) e in
    let y = then_given (repeated period (of_int binary64 q)) (λ base. stretched_by base s) f in
    let same : y.0 ≡ x.0 = same_value y.0 x.0 (sym y.1.0 ∙ x.1.0) in
    let u = product x.0 r a x.1.1 in
    let v = product x.0 s b (subst (λ (z : Float). stretched_by z s ≡ gives b) same y.1.1) in
    let p = reach_positive x.0 u.reach in
    subst (λ (z : Float). T (le z b)) u.is (subst (λ (z : Float). T (le (mul binary64 x.0 r) z)) v.is (mul_mono binary64 x.0 x.0 r s p p pr ps (le_self x.0 p) l))

module _ (count : ℕ) (t : ItemTable) (l : ListTable) (it : is_items count t ≡ true) (li : is_list count l ≡ true) where
  abbrev at : ℕ → Float
  at i = get_or l.ratios i nan

  positive_at : (i : ℕ) → i ≤ count → T (positive (at i))
  positive_at i h = reach_positive (at i) (ratio_reach count l li i h)

  -- the ratios of a list never fall
  later : (i j : ℕ) → i < j → j ≤ count → lt (at j) (at i) ≡ false
  later i j h k =
      let rs = take (count + 1) l.ratios in
      let e = ratios_rise count l li i j h (omega (arith, k, ratios_part count l li)) in
      let f = subst (λ (x : Float). lt x (get_or rs i nan) ≡ false) (get_or-take (count + 1) l.ratios j nan (omega (arith, k))) e in
      subst (λ (x : Float). lt (at j) x ≡ false) (get_or-take (count + 1) l.ratios i nan (omega (arith, h, k))) f

  entries_rise : (i j : ℕ) → i ≤ j → j ≤ count → T (le (at i) (at j))
  entries_rise i j h k = elim (eq-or-lt_of_le h) [
    | inl e ↦ subst (λ (n : ℕ). T (le (at i) (at n))) e (le_self (at i) (positive_at i (omega (arith, h, k))))
    | inr m ↦ not_below (at i) (at j) (positive_at i (omega (arith, h, k))) (positive_at j k) (later i j m k)
  ]

  -- d and e lie in one period, d at no later place
  pub sorted_rises : (d e : ℤ) {a b : Float} → periods_of (count_of (items_in count t)) d ≡ periods_of (count_of (items_in count t)) e → place_of (count_of (items_in count t)) d ≤ place_of (count_of (items_in count t)) e
      → sorted_relative_pitch_of (items_in count t) (list_in count l) d ≡ gives a → sorted_relative_pitch_of (items_in count t) (list_in count l) e ≡ gives b → le a b ≡ true
  unfolding sorted_relative_pitch_of
  sorted_rises d e {a} {b} same order ea eb =
      let n = count_of (items_in count t) in
      let es = list_in count l in
      let i = place_of n d in
      let j = place_of n e in
      let ratio : ℕ → Float = λ k. (get_or es k no_entry).ratio in
      let x = then_given (ratio_of (last_of (items_in count t))) (λ p. stretched p (periods_of n d) (ratio i)) ea in
      let y = then_given (ratio_of (last_of (items_in count t))) (λ p. stretched p (periods_of n e) (ratio j)) eb in
      let one : y.0 ≡ x.0 = same_value y.0 x.0 (sym y.1.0 ∙ x.1.0) in
      let jc : j ≤ count = omega (arith, place_le n e, items_count count t it) in
      let ic : i ≤ count = omega (arith, order, jc) in
      let ri : ratio i ≡ at i = ap (λ (z : Entry). z.ratio) (list_at count l li i ic) in
      let rj : ratio j ≡ at j = ap (λ (z : Entry). z.ratio) (list_at count l li j jc) in
      let fa : stretched x.0 (periods_of n d) (at i) ≡ gives a = subst (λ (z : Float). stretched x.0 (periods_of n d) z ≡ gives a) ri x.1.1 in
      let fb : stretched x.0 (periods_of n d) (at j) ≡ gives b =
      subst (λ (z : Float). stretched x.0 (periods_of n d) z ≡ gives b) rj (subst (λ (q : ℤ). stretched x.0 q (ratio j) ≡ gives b) (sym same) (subst (λ (p : Float). stretched p (periods_of n e) (ratio j) ≡ gives b) one y.1.1)) in
      is_true (le a b) (stretched_rises x.0 (periods_of n d) (at i) (at j) a b (positive_at i ic) (positive_at j jc) (entries_rise i j order jc) fa fb)
