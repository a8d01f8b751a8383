-- WHAT THE REFERENCE KEY SOUNDS, counted from the middle key: its frequency over the relative pitch of its own degree and times it again,
-- each step rounded once, so the frequency itself where that relative pitch is a power of two. Document 02, W1. Assumes nothing.
use mathlib.Core.Path.{◌≡◌, refl, sym, ap, ◌∙◌, subst}
use mathlib.Core.Bool.{Bool, true, false}
use mathlib.Core.List.{List, ◌∷◌}
use mathlib.Core.Logic.{◌↔◌}
use Prim.Native.Nat.{ℕ, ◌^◌, ◌≤◌, ◌<◌}
use lib.Dec.{lit≤, lit<}
use lib.IntN.{ℤ, pos}
use lib.ListN.{length}
use lib.Signed.{mag}
use lib.Ieee.{Float, binary64, fits, mul, div, round}
use lib.Ieee.Bits.{is_true}
use lib.Ieee.Fits.{round-fits}
use Rattle.base.specs.Numbers.{beyond_reach}
use Rattle.base.specs.Said.{Said, gives, and_then, Accepted}
use Rattle.base.proofs.Said.{no_value, same_value}
use Rattle.floats.specs.Floats.{two_to}
use Rattle.floats.specs.Ranges.{in_reach, in_pitch}
use Rattle.floats.proofs.Between.{within_more, within_reach}
use Rattle.floats.proofs.Ranges.{pitch_says}
use Rattle.pitch.specs.Given.{computed}
use Rattle.pitch.specs.Pitches.{pitch_times, pitch_over}
use Rattle.scl.specs.Items.{ratio_of}
use Rattle.scl.specs.Table.{implicit}
use Rattle.scl.specs.declared.Item.{Item}
use Rattle.scl_tables.specs.Build.{last_of}
use Rattle.key.specs.Keys.{key}
use Rattle.kbm.specs.Root.{is_root}
use Rattle.kbm.specs.Table.{is_table, table_of}
use Rattle.kbm.specs.declared.Kbm.{Kbm}
use Rattle.kbm_read.specs.Reader.{read_of, after_read}
use Rattle.kbm_write.specs.Published as P
use Rattle.relative.specs.Pitches.{root_pitch, pitch_from}
use Rattle.relative.specs.Refusals.{ReachedOrBeyond}
use Rattle.relative.specs.Relative.{relative_pitch_of}
use Rattle.relative.proofs.Back.{then_given, pick_given}
use Rattle.relative.proofs.Theorems.{relative_refusals, from_reached, hz_reach}
use Rattle.tuning.specs.Middle.{maybe_pitch_from_middle}
use Rattle.promises.specs.kbm.Limits.{WithinLimits}
use Rattle.promises.specs.kbm.Sounding.{SoundsWithin}
use Rattle.promises.specs.tuning.Published.{ReferenceSounds, InRatio, PitchedAs, TwoSteps}
use Rattle.promises.proofs.tuning.DegreeZero.{relative_zero}
use Rattle.promises.proofs.tuning.Exact.{over_reach, over_and_times}
use Rattle.promises.proofs.tuning.Published.{pitched_from_middle, read_pitched}

-- ---- THE TWO STEPS of `pitch_from`
-- a relative pitch that is given lies in 2^-900..2^900
ratio_reach : (items : List Item) (d : ℤ) {r : Float} → relative_pitch_of items d ≡ gives r → in_reach r ≡ true
ratio_reach items d {r} e = go (relative_refusals items d)
  where
    go : ReachedOrBeyond (relative_pitch_of items d) → in_reach r ≡ true
    go (ReachedOrBeyond.reached x h f) = subst (λ (y : Float). in_reach y ≡ true) (same_value x r (sym f ∙ e)) h
    go (ReachedOrBeyond.beyond f) = no_value (sym f ∙ e)

module _ (items : List Item) (p : Float) (reach : in_reach p ≡ true) (root degree : ℤ) where
  -- p over the one ratio, times the other, 18 at each
  pub steps_are : {below above : Float} → relative_pitch_of items root ≡ gives below → relative_pitch_of items degree ≡ gives above →
      pitch_from items p root degree ≡ and_then (computed (div binary64 p below)) (λ hz. computed (mul binary64 hz above))
  unfolding pitch_from root_pitch
  steps_are {below} {above} e f = rw (e, f) (go (in_reach (div binary64 p below)) refl)
    where
      go : (b : Bool) → in_reach (div binary64 p below) ≡ b →
          and_then (pitch_over p below) (λ hz. pitch_times hz above)
          ≡ and_then (computed (div binary64 p below)) (λ hz. computed (mul binary64 hz above))
      go true h = rw (reach, ratio_reach items root e, h, ratio_reach items degree f, h)
      go false h = rw (reach, ratio_reach items root e, h)

  given_steps : {x : Float} → pitch_from items p root degree ≡ gives x → TwoSteps items p root degree x
  unfolding pitch_from root_pitch
  given_steps {x} e =
      let a = then_given (root_pitch items p root) (λ hz. and_then (relative_pitch_of items degree) (pitch_times hz)) e in
      let b = then_given (relative_pitch_of items degree) (pitch_times a.0) a.1.1 in
      let c = then_given (relative_pitch_of items root) (pitch_over p) a.1.0 in
      let quotient = div binary64 p c.0 in
      let product = mul binary64 quotient b.0 in
      let said = sym (steps_are c.1.0 b.1.0) ∙ e in
      let first = then_given (computed quotient) (λ hz. computed (mul binary64 hz b.0)) said in
      let over = pick_given (in_reach quotient) (gives quotient) beyond_reach first.1.0 in
      let times : computed product ≡ gives x =
      subst (λ (y : Float). computed (mul binary64 y b.0) ≡ gives x) (sym (same_value quotient first.0 over.1)) first.1.1 in
      let is = pick_given (in_reach product) (gives product) beyond_reach times in
      record {
        below = c.0;
        above = b.0;
        of_root = c.1.0;
        of_degree = b.1.0;
        quotient = over.0;
        product = is.0;
        is = sym (same_value product x is.1);
      }

  -- a pitch is given exactly where both steps stay in reach, and it is what they come to
  pub in_two_steps : (x : Float) → (pitch_from items p root degree ≡ gives x) ↔ TwoSteps items p root degree x
  in_two_steps x = (given_steps, λ t. steps_are t.of_root t.of_degree ∙ rw (t.quotient, t.product) (ap gives (sym t.is)))

-- ---- where both keys sound, what `PitchedAs` says determines the answer
module _ {m : P.Mapping} {items : List Item} {p : Float} {key : ℤ} {answer : Said Float} (a : PitchedAs m items p key answer)
    (reach : in_reach p ≡ true) where
  pub sounds_in_ratio : {d r : ℤ} → SoundsWithin m key d → ReferenceSounds m r → answer ≡ pitch_from items p r d
  sounds_in_ratio {d} {r} x y = go (from_reached items p reach r d)
    where
      ratio : {s : Said Float} → pitch_from items p r d ≡ s → InRatio m items p key s
      ratio e = record { degree = d; root = r; sounds = x; reference = y; pitch = e }

      go : ReachedOrBeyond (pitch_from items p r d) → answer ≡ pitch_from items p r d
      go (ReachedOrBeyond.reached z h e) = (a.pitch z).1 (ratio e) ∙ sym e
      go (ReachedOrBeyond.beyond e) = a.beyond.1 (ratio e) ∙ sym e

  -- A KEY THAT SOUNDS THE REFERENCE KEY'S OWN DEGREE, as the reference key does where it is retuned (`own_degree`): p over the relative
  -- pitch of that degree, times it again, each step rounded once
  pub reference_sounds : {r : ℤ} → SoundsWithin m key r → ReferenceSounds m r → {ratio : Float} → relative_pitch_of items r ≡ gives ratio →
      answer ≡ and_then (computed (div binary64 p ratio)) (λ hz. computed (mul binary64 hz ratio))
  reference_sounds {r} x y e = sounds_in_ratio x y ∙ steps_are items p reach r r e e

-- the reference key sounds its own degree
pub own_degree : {m : P.Mapping} {r : ℤ} → P.Retuned m m.reference → ReferenceSounds m r → SoundsWithin m m.reference r
own_degree t y = record { retuned = t; near = y.near; held = y.held; sounds = y.sounds }

-- WHERE THAT RELATIVE PITCH IS A POWER OF TWO, 2^-879 to 2^879 (so that both steps stay in reach), as 1.0 is, the answer is the frequency
-- itself
pub reference_exact : {m : P.Mapping} {items : List Item} {p : Float} {key : ℤ} {answer : Said Float} → PitchedAs m items p key answer →
    in_pitch p ≡ true → fits binary64 p ≡ true → {r : ℤ} → SoundsWithin m key r → ReferenceSounds m r → (z : ℤ) → mag z < 880 →
    relative_pitch_of items r ≡ gives (two_to z) → answer ≡ gives p
reference_exact {p = p} a o f x y z few e =
    let w = pitch_says p o in
    let reach : in_reach p ≡ true = within_reach (within_more (lit≤ tt) (lit≤ tt) w) in
    reference_sounds a reach x y e ∙ rw (over_reach z few p w, over_and_times z few p w f, reach)

-- so where the reference key sounds degree 0, in every scale whose period has a ratio
pub zero_exact : {m : P.Mapping} {items : List Item} {p : Float} {key : ℤ} {answer : Said Float} →
    PitchedAs m (implicit ∷ items) p key answer → in_pitch p ≡ true → fits binary64 p ≡ true →
    Accepted (ratio_of (last_of (implicit ∷ items))) → SoundsWithin m key (pos 0) → ReferenceSounds m (pos 0) → answer ≡ gives p
zero_exact {items = items} a o f t x y = reference_exact a o f x y (pos 0) (lit< tt) (relative_zero items t)

-- ---- THE REFERENCE KEY ITSELF, where it is retuned
-- of a mapping that is given
pub given_reference : (items : List Item) (kbm : Kbm) (map : List ℤ) → is_root kbm.root ≡ true → is_table kbm.count map ≡ true →
    (r : ℤ) → P.Retuned (P.published_of kbm (table_of kbm.count map)) kbm.root.reference.0 →
    ReferenceSounds (P.published_of kbm (table_of kbm.count map)) r → (ratio : Float) → relative_pitch_of items r ≡ gives ratio →
    maybe_pitch_from_middle items kbm map kbm.root.reference
    ≡ and_then (computed (div binary64 kbm.root.pitch.0 ratio)) (λ hz. computed (mul binary64 hz ratio))
given_reference items kbm map o t r u y ratio e =
    reference_sounds (pitched_from_middle items kbm map o t kbm.root.reference) (hz_reach kbm.root o) (own_degree u y) y e

-- of a published text that is read: where its relative pitch is such a power of two, it sounds the f64 nearest the frequency that the text says
module _ {s : List ℕ} {m : P.Mapping} (p : P.PublishedText s m) (w : WithinLimits p) (old : List ℤ) (room : m.size ≤ length old) where
  pub read_reference : (k : Kbm) × (read_of (length old) s ≡ gives k)
      × ((items : List Item) (r : ℤ) → P.Retuned m m.reference → ReferenceSounds m r → (z : ℤ) → mag z < 880 →
      relative_pitch_of items r ≡ gives (two_to z) →
      maybe_pitch_from_middle items k (after_read s old) (key m.reference) ≡ gives (round binary64 false m.hertz (10 ^ m.places)))
  read_reference =
      let (k, read, a) = read_pitched p w old room in
      let hz = round binary64 false m.hertz (10 ^ m.places) in
      let held : fits binary64 hz ≡ true = is_true (fits binary64 hz) (round-fits binary64 false m.hertz (10 ^ m.places)) in (
        k,
        read,
        (λ items r t y z few e. reference_exact (a items (key m.reference)) w.pitch held (own_degree t y) y z few e),
      )
