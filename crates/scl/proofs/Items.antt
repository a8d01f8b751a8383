-- A usable item's ratio lies in 2 ^ -32..2 ^ 32. Assumes nothing.
use Rattle.std.specs.Prelude.{Some, None, Option}
use mathlib.Core.Path.{◌≡◌, sym, ◌∙◌, subst}
use mathlib.Core.Bool.{true, false}
use Prim.Native.Nat.{ℕ, ◌*◌, ◌^◌, ◌≤◌, ◌<◌}
use native.Mathlib.Nat.{le_trans, le_of_lt, mul-one}
use native.Mathlib.Omega.{arith}
use lib.Dec.{ltb, lit<, lit≤}
use lib.IntN.{ℤ, pos, ◌-ℤ◌}
use borrow.Author.Tests.{ltb-true}
use lib.Ieee.{Float, fin, binary64, fits, up, down, round, div, neg, of_int, of_bits}
use lib.Ieee.Back.{round_whole}
use lib.Ieee.Bits.{is_true}
use lib.Ieee.Exact.{HasValue}
use lib.Ieee.Fits.{div-fits, round-fits}
use Rattle.base.specs.Integers.{floor_div, floor_mod}
use Rattle.base.specs.Said.{Said, gives}
use Rattle.base.proofs.Said.{same_value}
use Rattle.floats.specs.Ranges.{in_reach}
use Rattle.floats.proofs.Ranges.{and_true, Within}
use Rattle.explog.specs.Rules.{E, in_powers, floor_of, power_of, times_power}
use Rattle.explog.specs.Exp.{p_of}
use Rattle.pitch.specs.Given.{computed}
use Rattle.pitch.specs.Ratios.{cents_f, from_octaves, from_cents}
use Rattle.scl.specs.Items.{is_usable_cents, is_usable_denom, is_usable, denom_of, ratio_of, Reached, Held}
use Rattle.scl.specs.declared.Item.{Item}
use Rattle.scl.specs.declared.Item.TheVariants.{Cents, Fraction}
use Rattle.floats.proofs.Between.{within_more, within_reach, within_generator, quotient_within, range_sized}
use Rattle.floats.proofs.Sized.{Sized, sized, sized_more, div_sized_by}
use Rattle.explog.proofs.Reach.{exp_within, powers_sized, sized_powers}

-- what is said is a ratio in 2 ^ -a..2 ^ a
pub record Ratio (a : ℕ) (s : Said Float) : Type 0 where
  pub value : Float
  pub is : s ≡ gives value
  pub between : Within a a value
  pub held : fits binary64 value ≡ true

-- so it lies in the range of all ratios
pub ratio_reach : {a : ℕ} {s : Said Float} {r : Float} → a ≤ 900 → Ratio a s → gives r ≡ s → in_reach r ≡ true
ratio_reach {a} {s} {r} l t h = subst (λ (x : Float). in_reach x ≡ true) (sym (same_value r t.value (h ∙ t.is))) (within_reach (within_more l l t.between))

pub ratio_reached : {s : Said Float} → Ratio 32 s → Reached s
ratio_reached t = record { value = t.value; is = t.is; within = within_generator t.between }

power_fits : (z : ℤ) → fits binary64 (power_of z) ≡ true
unfolding power_of times_power
power_fits z =
    let p = p_of (floor_mod z (2 ^ 52)) 52 in
    let k = floor_div z (2 ^ 52) -ℤ pos 62 in
    is_true (fits binary64 (round binary64 false (p * up k) (down k))) (round-fits binary64 false (p * up k) (down k))

-- E never refuses -900..900, and what it gives is in its range
pub octaves_ratio : (a : ℕ) (x : Float) → a ≤ 900 → fits binary64 x ≡ true → Sized a x → Ratio a (from_octaves x)
unfolding E
octaves_ratio a x s f h =
    let r = power_of (floor_of x) in
    let p = sized_powers x (sized_more s h) in
    let w : Within a a r = exp_within a x r s f h (rw p) in
    record { value = r; is = rw (p, within_reach (within_more s s w)); between = w; held = power_fits (floor_of x) }

-- E of any number in its range
pub powers_ratio : (x : Float) → fits binary64 x ≡ true → in_powers x ≡ true → Ratio 900 (from_octaves x)
powers_ratio x f h = octaves_ratio 900 x (lit≤ tt) f (powers_sized x h)

-- ---- cents
cents_over : {x : Float} → Sized (75 * 2 ^ 9) x → Sized 32 (div binary64 x (fin false 75 (pos 4)))
cents_over (sized s m e h) = div_sized_by 32 s false m 75 e (pos 4) (lit≤ tt) (λ z. omega arith) (omega (arith, mul-one (m * up e), h))

cents_sized : (c : Float) → is_usable_cents c ≡ true → Sized 32 (div binary64 c cents_f)
unfolding of_bits neg
cents_sized c h = cents_over (range_sized 75 9 c h)

pub cents_ratio : (c : Float) → is_usable_cents c ≡ true → Ratio 32 (from_cents c)
cents_ratio c h = octaves_ratio 32 (div binary64 c cents_f) (lit≤ tt) (is_true (fits binary64 (div binary64 c cents_f)) (div-fits binary64 c cents_f)) (cents_sized c h)

-- ---- fractions
whole : (n : ℕ) → n < 2 ^ 32 → HasValue (of_int binary64 (pos n)) false n 1
unfolding of_int
whole n h = round_whole binary64 false n (le_trans (le_of_lt h) (lit≤ tt))

module _ (n k : ℕ) (p : 0 < n) (h : n < 2 ^ 32) (q : 0 < k) (l : k < 2 ^ 32) where
  abbrev r : Float
  r = div binary64 (of_int binary64 (pos n)) (of_int binary64 (pos k))

  between : Within 32 32 r
  between = quotient_within 32 32 n k (of_int binary64 (pos n)) (of_int binary64 (pos k)) (lit≤ tt) (lit≤ tt) (whole n h) (whole k l) q (omega arith) (omega arith)

  pub fraction_reach : in_reach r ≡ true
  fraction_reach = within_reach (within_more (lit≤ tt) (lit≤ tt) between)

  fraction_ratio : Ratio 32 (computed r)
  fraction_ratio = record { value = r; is = rw fraction_reach; between = between; held = is_true (fits binary64 r) (div-fits binary64 (of_int binary64 (pos n)) (of_int binary64 (pos k))) }

  pub fraction_told : (gives r ≡ computed r) × (in_reach r ≡ true)
  fraction_told = (rw fraction_reach, fraction_reach)

denom_pos : (d : (Option ℕ)) → is_usable_denom d ≡ true → 0 < denom_of d
denom_pos (Some d) h = ltb-true 0 d h
denom_pos None h = lit< tt

-- a usable item's ratio lies in 2 ^ -32..2 ^ 32; so `as_ratio` never refuses it
pub item_ratio : (i : Item) → Held i → is_usable i ≡ true → Ratio 32 (ratio_of i)
item_ratio (Cents c) f h = cents_ratio c h
item_ratio (Fraction n d) f h =
    let t = and_true (ltb 0 n) (is_usable_denom d) h in
    fraction_ratio n (denom_of d) (lib.Dec.ltb→lt 0 n t.0) f.0 (denom_pos d (is_true (is_usable_denom d) t.1)) f.1

pub usable_fraction : (n : ℕ) (d : (Option ℕ)) → is_usable (Fraction n d) ≡ true → (0 < n) × (0 < denom_of d)
usable_fraction n d h = let t = and_true (ltb 0 n) (is_usable_denom d) h in (lib.Dec.ltb→lt 0 n t.0, denom_pos d (is_true (is_usable_denom d) t.1))
