-- A reduction never refuses: of ratios in 2 ^ -900..2 ^ 900, by a period there that is not negligible, the count is an i32 and the
-- reduced ratio lies in the range. Assumes nothing.
use mathlib.Core.Path.{◌≡◌, refl, sym, ap, ◌∙◌, subst}
use mathlib.Core.Logic.{◌↔◌}
use mathlib.Core.Bool.{Bool, true, false}
use Prim.Native.Nat.{ℕ, suc, ◌+◌, ◌*◌, ◌^◌, ◌≤◌, ◌<◌}
use native.Mathlib.Nat.{le_trans, le_of_eq, one-mul}
use native.Mathlib.Omega.{arith}
use lib.Dec.{T, lit<, lit≤}
use lib.IntN.{ℤ, pos, negsuc}
use lib.Ieee.{Float, nan, inf, fin, binary64, fits, down, round, add, rem, lt, le, eq, of_bits, to_signed}
use lib.Ieee.Bits.{is_true}
use lib.Ieee.Fits.{add-fits, rem-fits, nan-fits, round-fits}
use Rattle.base.specs.Said.{Said, gives, pick, and_then}
use Rattle.base.proofs.Said.{same_value}
use Rattle.floats.specs.Floats.{abs, zero_f, one_f, count}
use Rattle.remainder.specs.Euclid.{rem_euclid, div_euclid}
use Rattle.floats.specs.Ranges.{in_reach, negligible}
use Rattle.floats.proofs.Compare.{le_pos}
use Rattle.floats.proofs.Ranges.{Within, reach_says}
use Rattle.explog.specs.Rules.{L, in_powers, log_of, log_at, octaves_of}
use Rattle.explog.proofs.Theorems.{log_far, log_zero, log_one}
use Rattle.scl_tables.specs.Reduce.{reduced_to, is_count, reduced_octaves, reduced_by}
use Rattle.scl_tables.specs.declared.reduction.Reduced.{Reduced}
use Rattle.floats.proofs.Sized.{Sized, sized, sized_count}
use Rattle.remainder.proofs.Bounds.{Apart, apart, rem_euclid_sized, div_euclid_sized}
use Rattle.explog.proofs.Reach.{log_sized, sized_powers}
use Rattle.floats.proofs.Between.{within_more, within_reach}
use Rattle.scl.proofs.Items.{octaves_ratio}

-- L never refuses what is in its range
pub log_gives : (x : Float) → in_reach x ≡ true → L x ≡ gives (log_of x)
unfolding L
log_gives x h = rw h

-- the octaves of a ratio, and of a period that is not negligible
pub octaves_sized : (x r : Float) → fits binary64 x ≡ true → in_reach x ≡ true → L x ≡ gives r → Sized 900 r
octaves_sized x r f h e = log_sized 900 x r (lit≤ tt) f (reach_says x h) e

far_apart : {a : ℕ} {r : Float} → Sized a r → T (le (fin false 1 (negsuc 19)) (abs r)) → Apart (2 ^ 20) r
unfolding abs
far_apart (sized s m e h) t = apart s m e (le_trans (le_of_eq (sym (one-mul (down e)))) (le_pos 1 m (negsuc 19) e t))

pub period_apart : (x r : Float) → fits binary64 x ≡ true → in_reach x ≡ true → negligible x ≡ false → L x ≡ gives r → Apart (2 ^ 20) r
unfolding of_bits
period_apart x r f h n e = far_apart (octaves_sized x r f h e) (log_far x r f e n)

rem_euclid_fits : (x y : Float) → fits binary64 x ≡ true → fits binary64 (rem_euclid x y) ≡ true
rem_euclid_fits x y f = go (lt (rem binary64 x y) zero_f)
  where
    go : (b : Bool) → fits binary64 (pick b (add binary64 (rem binary64 x y) (abs y)) (rem binary64 x y)) ≡ true
    go true = is_true (fits binary64 (add binary64 (rem binary64 x y) (abs y))) (add-fits binary64 (rem binary64 x y) (abs y))
    go false = is_true (fits binary64 (rem binary64 x y)) (rem-fits binary64 x y (subst T (sym f) tt))

-- what is said is a reduced ratio in 2 ^ -a..2 ^ a
pub record Reaches (a : ℕ) (s : Said Reduced) : Type 0 where
  pub value : Reduced
  pub is : s ≡ gives value
  pub between : Within a a value.ratio

counts : (a : ℕ) → a ≤ 900 → (a * 2 ^ 20 + 1 ≤ 2 ^ 53) × (a * 2 ^ 20 + 1 < 2 ^ 31)
counts a h = (omega arith, omega arith)

pub octaves_reach : (a : ℕ) (size octaves : Float) → a ≤ 900 → fits binary64 octaves ≡ true → Sized a octaves → Sized a size → Apart (2 ^ 20) size → Reaches a (reduced_octaves size octaves)
octaves_reach a size octaves l f o s p =
    let x = rem_euclid octaves size in
    let r = octaves_ratio a x l (rem_euclid_fits octaves size f) (rem_euclid_sized octaves size (le_trans l (lit≤ tt)) o s p) in
    let n = counts a l in
    let c = sized_count (div_euclid octaves size) n.1 (div_euclid_sized octaves size n.0 o p) in
    record { value = reduced_to r.value (to_signed 31 (div_euclid octaves size)); is = rw (r.is, c); between = r.between }

-- ---- of any ratio by any period in the range
ratio_fits : (z : ℤ) → fits binary64 (octaves_of z) ≡ true
unfolding octaves_of
ratio_fits (pos n) = is_true (fits binary64 (round binary64 false n (2 ^ 52))) (round-fits binary64 false n (2 ^ 52))
ratio_fits (negsuc n) = is_true (fits binary64 (round binary64 true (suc n) (2 ^ 52))) (round-fits binary64 true (suc n) (2 ^ 52))

log_fits : (x : Float) → fits binary64 (log_of x) ≡ true
unfolding log_of log_at
log_fits nan = is_true (fits binary64 nan) (nan-fits binary64)
log_fits (inf s) = is_true (fits binary64 nan) (nan-fits binary64)
log_fits (fin s m e) = ratio_fits _

-- the reduction of a ratio by a period, both in 2 ^ -a..2 ^ a, is not refused and lies there too
pub reduced_reaches : (a : ℕ) (period ratio : Float) → a ≤ 900 → fits binary64 period ≡ true → fits binary64 ratio ≡ true → Within a a period → Within a a ratio → Reaches a (reduced_by period ratio)
reduced_reaches a period ratio l fp fr wp wr = go (negligible period) refl
  where
    p : in_reach period ≡ true
    p = within_reach (within_more l l wp)

    r : in_reach ratio ≡ true
    r = within_reach (within_more l l wr)

    go : (b : Bool) → negligible period ≡ b → Reaches a (pick b (gives (reduced_to ratio (pos 0))) (and_then (L period) (λ size. and_then (L ratio) (reduced_octaves size))))
    go true n = record { value = reduced_to ratio (pos 0); is = refl; between = wr }
    go false n =
        let lp = log_gives period p in
        let lr = log_gives ratio r in
        rw (lp, lr)
        (octaves_reach a (log_of period) (log_of ratio) l (log_fits ratio) (log_sized a ratio (log_of ratio) l fr wr lr) (log_sized a period (log_of period) l fp wp lp) (period_apart period (log_of period) fp p n lp))

-- L(period) = 0 exactly for the period 1.0
pub period_one : (x r : Float) → fits binary64 x ≡ true → L x ≡ gives r → (eq r zero_f ≡ true) ↔ (x ≡ one_f)
unfolding of_bits eq
period_one x r f h = (
  λ z. log_zero x r f h z,
  λ e. rw (same_value r zero_f (sym h ∙ ap L e ∙ log_one)) refl,
)

-- ---- the steps of `reduce`
pub counted : (q : Float) → is_count q ≡ true → count q ≡ gives (to_signed 31 q)
counted q h = rw h

module _ (period ratio size octaves : Float) (fp : fits binary64 period ≡ true) (fr : fits binary64 ratio ≡ true) (p : in_reach period ≡ true) (r : in_reach ratio ≡ true)
    (n : negligible period ≡ false) (lp : L period ≡ gives size) (lr : L ratio ≡ gives octaves) where
  pub rem_in_powers : in_powers (rem_euclid octaves size) ≡ true
  rem_in_powers = sized_powers (rem_euclid octaves size) (rem_euclid_sized octaves size (lit≤ tt) (octaves_sized ratio octaves fr r lr) (octaves_sized period size fp p lp) (period_apart period size fp p n lp))

  pub div_is_count : is_count (div_euclid octaves size) ≡ true
  div_is_count = sized_count (div_euclid octaves size) (lit< tt) (div_euclid_sized octaves size (lit≤ tt) (octaves_sized ratio octaves fr r lr) (period_apart period size fp p n lp))

-- the reduced ratio lies in the range
pub reduced_reach : (period ratio : Float) {x : Reduced} → fits binary64 period ≡ true → fits binary64 ratio ≡ true → in_reach period ≡ true → in_reach ratio ≡ true → gives x ≡ reduced_by period ratio → in_reach x.ratio ≡ true
reduced_reach period ratio {x} fp fr p r h =
    let t = reduced_reaches 900 period ratio (lit≤ tt) fp fr (reach_says period p) (reach_says ratio r) in
    subst (λ (y : Reduced). in_reach y.ratio ≡ true) (sym (same_value x t.value (h ∙ t.is))) (within_reach t.between)
