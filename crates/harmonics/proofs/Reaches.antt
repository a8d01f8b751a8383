-- Each item of a segment can be used; its steps are in E's domain where the last one is. Assumes nothing.
use Rattle.std.specs.Prelude.{None, Some, Option}
use Rattle.std.proofs.Common.{◌≡◌, ℕ, ◌+◌, ◌-◌, ◌*◌, ◌^◌, ◌<◌, ◌≤◌, Bool, true, false, ◌⊎◌, sym, refl, ◌∙◌, subst, inl, inr, le_trans, le_of_eq, mul_assoc, mul_comm, mul-le-mul, arith, lit<, lit≤, lt-ltb}
use lib.Ieee.{Float, binary64, fits, up, down, mul, div, of_int}
use lib.Ieee.Bits.{is_true}
use lib.Ieee.Fits.{mul-fits, down_pos}
use Rattle.base.specs.Numbers.{beyond_reach}
use Rattle.base.specs.Said.{Said, gives, refuses}
use Rattle.base.proofs.Said.{same_value, no_value}
use Rattle.floats.specs.Floats.{float}
use Rattle.floats.specs.Ranges.{in_reach}
use Rattle.floats.proofs.Ranges.{Within, within_fin}
use Rattle.floats.proofs.Between.{round_within, over_within, within_reach}
use Rattle.floats.proofs.Sized.{Sized}
use Rattle.explog.specs.Rules.{E, in_powers, log_of}
use Rattle.explog.proofs.Reach.{powers_sized}
use Rattle.pitch.specs.Ratios.{from_octaves, repeated}
use Rattle.scl.proofs.Items.{octaves_ratio, powers_ratio}
use Rattle.scl_tables.proofs.Reaches.{log_gives, octaves_sized}
use Rattle.generate.proofs.Items.{Fine}
use Rattle.harmonics.specs.Segment.{near_at, whole_at, harmonic_of}
use Rattle.harmonics.specs.Harmonics.{as_item, item_at}
use Rattle.harmonics.specs.Steps.{StepsReach}
use Rattle.harmonics.specs.declared.segment.SegmentType.{SegmentType}
use Rattle.harmonics.specs.declared.segment.SegmentType.TheVariants.{Otonal, Utonal}
use Rattle.harmonics.proofs.NearHarmonics.{harmonic_some, harmonic_below}
use Rattle.harmonics.proofs.Sizes.{times, fewer_times}

-- E refuses nothing in -900..900, and all else by 18
no_power : (x : Float) → in_powers x ≡ false → from_octaves x ≡ refuses beyond_reach 0
unfolding E
no_power x h = rw h

-- what it gives is a ratio
pub power_held : (x r : Float) → fits binary64 x ≡ true → from_octaves x ≡ gives r → (in_reach r ≡ true) × (fits binary64 r ≡ true)
power_held x r f e = go (in_powers x) refl
  where
    go : (b : Bool) → in_powers x ≡ b → (in_reach r ≡ true) × (fits binary64 r ≡ true)
    go true h =
        let t = powers_ratio x f h in
        let q : t.value ≡ r = same_value t.value r (sym t.is ∙ e) in
        (subst (λ (y : Float). in_reach y ≡ true) q (within_reach t.between), subst (λ (y : Float). fits binary64 y ≡ true) q t.held)
    go false h = no_value (sym (no_power x h) ∙ e)

module _ (start size : ℕ) (some : 0 < start) (s-small : start < 2 ^ 16) (z-small : size < 2 ^ 16) where
  -- the number that a harmonic is near
  product : {x : Float} → Within 900 900 x → Within 900 916 (mul binary64 x (float start))
  product (within_fin m e p lo hi) =
      subst (Within 900 916) (sym (times false m e start (omega arith)))
      (round_within 900 916 (m * up e * start) (down e) (lit≤ tt) (lit≤ tt) (down_pos e) (low (m * up e) start (down e) (2 ^ 900) some lo) (high (m * up e) start (down e) s-small hi))
    where
      low : (a k d q : ℕ) → 0 < k → d ≤ a * q → d ≤ a * k * q
      low a k d q h l = le_trans l (le_trans (native.Mathlib.Nat.mul-le-mul_right q (le_trans (le_of_eq (sym (native.Mathlib.Nat.mul-one a))) (native.Mathlib.Nat.mul-le-mul_left a h))) (le_of_eq refl))

      high : (a k d : ℕ) → k < 2 ^ 16 → a ≤ 2 ^ 900 * d → a * k ≤ 2 ^ 916 * d
      high a k d h l = le_trans (mul-le-mul l (native.Mathlib.Nat.le_of_lt h)) (le_of_eq (mul_comm (2 ^ 900 * d) (2 ^ 16) ∙ sym (mul_assoc (2 ^ 16) (2 ^ 900) d)))

  quotient : {x : Float} → Within 900 900 x → Within 900 917 (div binary64 (float (start + size)) x)
  unfolding of_int
  quotient w = over_within {a = 0} {b = 17} {c = 900} {d = 900} (lit≤ tt) (lit≤ tt) (round_within 0 17 (start + size) 1 (lit≤ tt) (lit≤ tt) (lit< tt) (omega arith) (omega arith)) w

  near_fine : (type : SegmentType) {x : Float} → Within 900 900 x → {s : Said _} → s ≡ gives (as_item (near_at type start size x)) → Fine s
  near_fine Otonal {x} w e =
      let h = harmonic_some (product w) in
      record { item = _; is = e; usable = rw (lt-ltb 0 (harmonic_of (mul binary64 x (float start))) h, lt-ltb 0 start some); held = (harmonic_below (mul binary64 x (float start)), omega arith) }
  near_fine Utonal {x} w e =
      let h = harmonic_some (quotient w) in
      record { item = _; is = e; usable = rw (lt-ltb 0 (start + size) (omega arith), lt-ltb 0 (harmonic_of (div binary64 (float (start + size)) x)) h); held = (omega arith, harmonic_below (div binary64 (float (start + size)) x)) }

  whole_fine : (type : SegmentType) (j : ℕ) → j ≤ size → Fine (gives (as_item (whole_at type start size j)))
  whole_fine Otonal j h = record { item = _; is = refl; usable = rw (lt-ltb 0 (start + j) (omega arith), lt-ltb 0 start some); held = (omega arith, omega arith) }
  whole_fine Utonal j h = record { item = _; is = refl; usable = rw (lt-ltb 0 (start + size) (omega arith), lt-ltb 0 (start + size - j) (omega arith)); held = (omega arith, omega arith) }

  -- ---- equal steps
  module _ (type : SegmentType) (step : Float) (reach : in_reach step ≡ true) (held : fits binary64 step ≡ true) where
    abbrev octaves : Float
    octaves = log_of step

    octaves_size : Sized 900 octaves
    octaves_size = octaves_sized step octaves held reach (log_gives step reach)

    steps_are : (j : ℕ) → repeated step (float j) ≡ from_octaves (mul binary64 octaves (float j))
    steps_are j = rw (reach, log_gives step reach)

    sized_fine : (j : ℕ) → Sized 900 (mul binary64 octaves (float j)) → Fine (item_at type start size (Some step) j)
    sized_fine j h =
        let t = octaves_ratio 900 (mul binary64 octaves (float j)) (lit≤ tt) (is_true (fits binary64 (mul binary64 octaves (float j))) (mul-fits binary64 octaves (float j))) h in
        near_fine type t.between (rw (steps_are j, t.is))

    beyond_at : (j : ℕ) → in_powers (mul binary64 octaves (float j)) ≡ false → item_at type start size (Some step) j ≡ refuses beyond_reach 0
    beyond_at j h = rw (steps_are j, no_power (mul binary64 octaves (float j)) h)

    fine_or : (j : ℕ) → Fine (item_at type start size (Some step) j) ⊎ (item_at type start size (Some step) j ≡ refuses beyond_reach 0)
    fine_or j = go (in_powers (mul binary64 octaves (float j))) refl
      where
        go : (b : Bool) → in_powers (mul binary64 octaves (float j)) ≡ b → Fine (item_at type start size (Some step) j) ⊎ (item_at type start size (Some step) j ≡ refuses beyond_reach 0)
        go true h = inl (sized_fine j (powers_sized (mul binary64 octaves (float j)) h))
        go false h = inr (beyond_at j h)

    -- where the last step is in E's domain, all are
    all_fine : (n : ℕ) → n < 2 ^ 16 → in_powers (mul binary64 octaves (float n)) ≡ true → (j : ℕ) → j ≤ n → Fine (item_at type start size (Some step) j)
    all_fine n small h j l = sized_fine j (fewer_times j n l (omega arith) octaves_size (powers_sized (mul binary64 octaves (float n)) h))

  -- ---- THE WAYS a segment goes: each of its items is fine; or the last one is refused by 18, and so is each that is not fine
  pub data Ways (f : ℕ → Said _) (n : ℕ) : Type 0 where
    all : ((j : ℕ) → j ≤ n → Fine (f j)) → Ways f n
    beyond : f n ≡ refuses beyond_reach 0 → ((j : ℕ) → Fine (f j) ⊎ (f j ≡ refuses beyond_reach 0)) → Ways f n

  pub ways : (type : SegmentType) (n : ℕ) → n < 2 ^ 16 → (steps : (Option Float)) → StepsReach size n steps → Ways (item_at type start size steps) n
  ways type n small None h = Ways.all (λ j l. whole_fine type j (le_trans l h))
  ways type n small (Some step) h = go (in_powers (mul binary64 (log_of step) (float n))) refl
    where
      go : (b : Bool) → in_powers (mul binary64 (log_of step) (float n)) ≡ b → Ways (item_at type start size (Some step)) n
      go true q = Ways.all (all_fine type step h.0 h.1 n small q)
      go false q = Ways.beyond (beyond_at type step h.0 h.1 n q) (fine_or type step h.0 h.1)
