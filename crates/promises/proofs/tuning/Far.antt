-- WHY A PITCH IS REFUSED BY 18: exactly where one of the steps of `FarPitch` leaves its range. Assumes nothing.
use mathlib.Core.Path.{◌≡◌, refl, sym, ◌∙◌, ap, subst}
use mathlib.Core.Logic.{◌↔◌}
use mathlib.Core.Bool.{Bool, true, false, true≢false, ◌&&◌}
use mathlib.Core.List.{List}
use lib.IntN.{ℤ}
use lib.ListN.{get_or}
use lib.Ieee.{Float, binary64, fits, mul, div}
use lib.Ieee.Bits.{is_true}
use lib.Ieee.Fits.{mul-fits}
use Rattle.base.specs.Numbers.{unusable, beyond_reach}
use Rattle.base.specs.Said.{Said, gives, refuses, pick, and_then, Accepted}
use Rattle.base.proofs.Said.{no_value, no_refusal, same_value}
use Rattle.floats.specs.Ranges.{in_reach}
use Rattle.explog.specs.Rules.{E, in_powers, log_of}
use Rattle.pitch.specs.Given.{computed}
use Rattle.pitch.specs.Pitches.{pitch_times, pitch_over}
use Rattle.pitch.specs.Ratios.{from_octaves, repeated, stretched_by}
use Rattle.scl.specs.Items.{ratio_of}
use Rattle.scl.specs.Table.{no_item}
use Rattle.scl.specs.declared.Item.{Item}
use Rattle.scl.proofs.Items.{powers_ratio, ratio_reach}
use Rattle.scl_tables.specs.Build.{last_of, count_of}
use Rattle.kbm.specs.declared.KbmRoot.{KbmRoot}
use Rattle.scl_tables.proofs.Reaches.{log_gives}
use Rattle.relative.specs.Refusals.{ReachedOrBeyond}
use Rattle.relative.specs.Relative.{place_of, relative_pitch_of}
use Rattle.relative.proofs.Back.{then_given, pick_given}
use Rattle.relative.proofs.Ratios.{item_held}
use Rattle.relative.proofs.Theorems.{relative_refusals}
use Rattle.relative.specs.Pitches.{root_degree, root_pitch, above, pitch_from, pitch_of}
use Rattle.promises.specs.tuning.Far.{times_of, FarDegree, FarPitch}

-- ---- a step that is tested
computed_far : (x : Float) → in_reach x ≡ false → computed x ≡ refuses beyond_reach 0
computed_far x h = rw h

far_computed : (x : Float) → computed x ≡ refuses beyond_reach 0 → in_reach x ≡ false
far_computed x e = go (in_reach x) e
  where
    go : (b : Bool) → pick b (gives x) (refuses beyond_reach 0) ≡ refuses beyond_reach 0 → b ≡ false
    go true q = no_refusal q
    go false q = refl

no_power : (x : Float) → in_powers x ≡ false → from_octaves x ≡ refuses beyond_reach 0
unfolding E
no_power x h = rw h

repeated_is : (p z : Float) → in_reach p ≡ true → repeated p z ≡ from_octaves (mul binary64 (log_of p) z)
repeated_is p z r = rw (r, log_gives p r)

repeated_reach : (p z base : Float) → in_reach p ≡ true → repeated p z ≡ gives base → in_reach base ≡ true
repeated_reach p z base r e = go (in_powers o) refl
  where
    o : Float
    o = mul binary64 (log_of p) z

    go : (b : Bool) → in_powers o ≡ b → in_reach base ≡ true
    go true h = ratio_reach (lib.Dec.lit≤ tt) (powers_ratio o (is_true (fits binary64 o) (mul-fits binary64 (log_of p) z)) h) (sym e ∙ repeated_is p z r)
    go false h = no_value (sym (no_power o h) ∙ sym (repeated_is p z r) ∙ e)

-- ---- a degree whose item and period have ratios
module _ (items : List Item) (d : ℤ) (p : Accepted (ratio_of (last_of items))) (i : Accepted (ratio_of (get_or items (place_of (count_of items) d) no_item))) where
  abbrev period : Float
  period = p.value

  abbrev ratio : Float
  ratio = i.value

  period_reach : in_reach period ≡ true
  period_reach = (item_held (last_of items) p.is).reach

  ratio_in : in_reach ratio ≡ true
  ratio_in = (item_held (get_or items (place_of (count_of items) d) no_item) i.is).reach

  relative_is : relative_pitch_of items d ≡ and_then (repeated period (times_of items d)) (λ base. stretched_by base ratio)
  unfolding relative_pitch_of
  relative_is = rw (p.is, i.is)

  by_base : {base : Float} → repeated period (times_of items d) ≡ gives base → relative_pitch_of items d ≡ computed (mul binary64 base ratio)
  by_base {base} e = relative_is ∙ ap (λ (s : Said Float). and_then s (λ x. stretched_by x ratio)) e ∙ rw (repeated_reach period (times_of items d) base period_reach e, ratio_in)

  by_none : repeated period (times_of items d) ≡ refuses beyond_reach 0 → relative_pitch_of items d ≡ refuses beyond_reach 0
  by_none e = relative_is ∙ ap (λ (s : Said Float). and_then s (λ x. stretched_by x ratio)) e

  -- what is far is refused
  pub far_refused : FarDegree items d → relative_pitch_of items d ≡ refuses beyond_reach 0
  far_refused (FarDegree.periods q e h) =
      let same : q ≡ period = same_value q period (sym e ∙ p.is) in
      by_none (repeated_is period (times_of items d) period_reach ∙ no_power (mul binary64 (log_of period) (times_of items d)) (subst (λ (x : Float). in_powers (mul binary64 (log_of x) (times_of items d)) ≡ false) same h))
  far_refused (FarDegree.product q base r e f g h) =
      let same : q ≡ period = same_value q period (sym e ∙ p.is) in
      let by : r ≡ ratio = same_value r ratio (sym g ∙ i.is) in
      by_base (subst (λ (x : Float). repeated x (times_of items d) ≡ gives base) same f) ∙ computed_far (mul binary64 base ratio) (subst (λ (x : Float). in_reach (mul binary64 base x) ≡ false) by h)

  -- and nothing else is
  pub refused_far : relative_pitch_of items d ≡ refuses beyond_reach 0 → FarDegree items d
  refused_far e = go (in_powers o) refl
    where
      o : Float
      o = mul binary64 (log_of period) (times_of items d)

      go : (b : Bool) → in_powers o ≡ b → FarDegree items d
      go true h =
          let t = powers_ratio o (is_true (fits binary64 o) (mul-fits binary64 (log_of period) (times_of items d))) h in
          let base : repeated period (times_of items d) ≡ gives t.value = repeated_is period (times_of items d) period_reach ∙ t.is in
          FarDegree.product period t.value ratio p.is base i.is (far_computed (mul binary64 t.value ratio) (sym (by_base base) ∙ e))
      go false h = FarDegree.periods period p.is h

-- ---- a pitch above a root
module _ (items : List Item) (root : KbmRoot) (d : ℤ) (reach : in_reach root.pitch.0 ≡ true) (p : Accepted (ratio_of (last_of items))) (i : (z : ℤ) → Accepted (ratio_of (get_or items (place_of (count_of items) z) no_item))) (at : ℤ) (turned : root_degree root ≡ gives at) where
  abbrev hz : Float
  hz = root.pitch.0

  pitch_is : pitch_of items root d ≡ above (root_pitch items hz at) (relative_pitch_of items d)
  unfolding pitch_of pitch_from
  pitch_is = ap (λ (s : Said ℤ). and_then s (λ z. above (root_pitch items hz z) (relative_pitch_of items d))) turned

  -- what each step gave where the pitch is given
  record Steps : Type 0 where
    first : Float
    last : Float
    below : Float
    root_is : relative_pitch_of items at ≡ gives below
    first_is : root_pitch items hz at ≡ gives first
    last_is : relative_pitch_of items d ≡ gives last
    quotient : in_reach (div binary64 hz below) ≡ true
    product : in_reach (mul binary64 first last) ≡ true

  steps : {x : Float} → pitch_of items root d ≡ gives x → Steps
  unfolding root_pitch
  steps e =
      let a = then_given (root_pitch items hz at) (λ y. and_then (relative_pitch_of items d) (pitch_times y)) (sym pitch_is ∙ e) in
      let b = then_given (relative_pitch_of items d) (pitch_times a.0) a.1.1 in
      let c = then_given (relative_pitch_of items at) (pitch_over hz) a.1.0 in
      let m = pick_given (in_reach a.0 && in_reach b.0) (computed (mul binary64 a.0 b.0)) unusable b.1.1 in
      let q = pick_given (in_reach hz && in_reach c.0) (computed (div binary64 hz c.0)) unusable c.1.1 in
      record {
        first = a.0;
        last = b.0;
        below = c.0;
        root_is = c.1.0;
        first_is = a.1.0;
        last_is = b.1.0;
        quotient = (pick_given (in_reach (div binary64 hz c.0)) (gives (div binary64 hz c.0)) beyond_reach q.1).0;
        product = (pick_given (in_reach (mul binary64 a.0 b.0)) (gives (mul binary64 a.0 b.0)) beyond_reach m.1).0;
      }

  not_given : Steps → FarPitch items root d → ⊥
  not_given s (FarPitch.of_root_degree z e f) = let same = same_value z at (sym e ∙ turned) in no_value (sym (far_refused items at p (i at) (subst (FarDegree items) same f)) ∙ s.root_is)
  not_given s (FarPitch.quotient z r e f h) =
      let same = same_value z at (sym e ∙ turned) in
      let by = same_value r s.below (sym (subst (λ (y : ℤ). relative_pitch_of items y ≡ gives r) same f) ∙ s.root_is) in
      true≢false (sym s.quotient ∙ subst (λ (y : Float). in_reach (div binary64 hz y) ≡ false) by h)
  not_given s (FarPitch.degree f) = no_value (sym (far_refused items d p (i d) f) ∙ s.last_is)
  not_given s (FarPitch.product z x r e f g h) =
      let same = same_value z at (sym e ∙ turned) in
      let a = same_value x s.first (sym (subst (λ (y : ℤ). root_pitch items hz y ≡ gives x) same f) ∙ s.first_is) in
      let b = same_value r s.last (sym g ∙ s.last_is) in
      true≢false (sym s.product ∙ subst (λ (y : Float). in_reach (mul binary64 s.first y) ≡ false) b (subst (λ (y : Float). in_reach (mul binary64 y r) ≡ false) a h))

  cause : pitch_of items root d ≡ refuses beyond_reach 0 → FarPitch items root d
  unfolding root_pitch
  cause e = go (relative_refusals items at)
    where
      is : above (root_pitch items hz at) (relative_pitch_of items d) ≡ refuses beyond_reach 0
      is = sym pitch_is ∙ e

      last : (x : Float) → in_reach x ≡ true → root_pitch items hz at ≡ gives x → ReachedOrBeyond (relative_pitch_of items d) → FarPitch items root d
      last x rx f (ReachedOrBeyond.reached r rr g) =
          let q : computed (mul binary64 x r) ≡ refuses beyond_reach 0 =
          sym (ap (λ (s : Said Float). and_then s (λ y. and_then (relative_pitch_of items d) (pitch_times y))) f ∙ ap (λ (s : Said Float). and_then s (pitch_times x)) g ∙ rw (rx, rr)) ∙ is in
          FarPitch.product at x r turned f g (far_computed (mul binary64 x r) q)
      last x rx f (ReachedOrBeyond.beyond g) = FarPitch.degree (refused_far items d p (i d) g)

      by : (r : Float) → relative_pitch_of items at ≡ gives r → in_reach r ≡ true → (b : Bool) → in_reach (div binary64 hz r) ≡ b → FarPitch items root d
      by r f rr true h = last (div binary64 hz r) h (ap (λ (s : Said Float). and_then s (pitch_over hz)) f ∙ rw (reach, rr, h)) (relative_refusals items d)
      by r f rr false h = FarPitch.quotient at r turned f h

      go : ReachedOrBeyond (relative_pitch_of items at) → FarPitch items root d
      go (ReachedOrBeyond.reached r rr f) = by r f rr (in_reach (div binary64 hz r)) refl
      go (ReachedOrBeyond.beyond f) = FarPitch.of_root_degree at turned (refused_far items at p (i at) f)

  -- 18 exactly for these causes, where 18 is the one refusal left
  pub pitch_far : ReachedOrBeyond (pitch_of items root d) → (pitch_of items root d ≡ refuses beyond_reach 0) ↔ FarPitch items root d
  pitch_far s = (cause, back s)
    where
      back : ReachedOrBeyond (pitch_of items root d) → FarPitch items root d → pitch_of items root d ≡ refuses beyond_reach 0
      back (ReachedOrBeyond.reached x r e) f = absurd (not_given (steps e) f)
      back (ReachedOrBeyond.beyond e) f = e
