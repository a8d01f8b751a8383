-- No cents and no note is refused. Assumes nothing.
use mathlib.Core.Path.{◌≡◌, sym, ◌∙◌, subst}
use mathlib.Core.Bool.{Bool, true, false}
use Prim.Native.Nat.{ℕ, ◌-◌, ◌*◌, ◌^◌, ◌≤◌, ◌<◌}
use native.Mathlib.Omega.{arith}
use lib.Dec.{leb, lit<, lit≤}
use lib.IntN.{pos}
use lib.Ieee.{Float, binary64, fits, mul, neg, of_int, of_bits}
use borrow.Author.Tests.{le-leb, lt-leb, eq-eqb, ne_eqb}
use Rattle.base.specs.Said.{Said, gives, refuses, pick}
use Rattle.base.proofs.Said.{same_value, no_refusal}
use Rattle.floats.specs.Floats.{float}
use Rattle.floats.specs.Ranges.{in_reach, in_generator}
use Rattle.floats.proofs.Between.{within_more, within_reach, within_generator}
use Rattle.floats.proofs.Ranges.{generator_says}
use Rattle.floats.proofs.Sized.{Sized, sized, sized_neg, round_sized}
use Rattle.explog.specs.Rules.{L, log_of}
use Rattle.explog.proofs.Reach.{log_sized}
use Rattle.pitch.specs.Ratios.{twelve_f, hundred_f, as_cents}
use Rattle.scl.specs.Items.{is_usable_cents}
use Rattle.scl.proofs.Items.{cents_ratio}
use Rattle.rank2.specs.Asked.{SomeCents}
use Rattle.rank2.specs.Notes.{generation_at, bounded_at, note_at, pitch_at}
use Rattle.rank2.proofs.Sizes.{mul_sized, usable_sized, sized_usable, bounded_sized}

-- ---- cents
twelve_sized : Sized 12 twelve_f
unfolding of_bits
twelve_sized = sized false 3 (pos 2) (lit≤ tt)

hundred_sized : Sized 100 hundred_f
unfolding of_bits
hundred_sized = sized false 25 (pos 2) (lit≤ tt)

pub log_said : (x : Float) → in_reach x ≡ true → L x ≡ gives (log_of x)
unfolding L
log_said x h = rw h

module _ (r : Float) (held : fits binary64 r ≡ true) (g : in_generator r ≡ true) where
  pub reach : in_reach r ≡ true
  reach = within_reach (within_more (lit≤ tt) (lit≤ tt) (generator_says r g))

  abbrev cents : Float
  cents = mul binary64 (mul binary64 (log_of r) twelve_f) hundred_f

  pub cents_said : as_cents r ≡ gives cents
  cents_said = rw (reach, log_said r reach)

  cents_usable : is_usable_cents cents ≡ true
  cents_usable = sized_usable cents (mul_sized {n = 32 * 12} {k = 100} (lit≤ tt) (mul_sized {n = 32} {k = 12} (lit≤ tt) (log_sized 32 r (log_of r) (lit≤ tt) held (generator_says r g) (log_said r reach)) twelve_sized) hundred_sized)

  -- the cents of a ratio in 2 ^ -32..2 ^ 32 can be used
  pub cents_given : {c : Float} → gives c ≡ as_cents r → (gives c ≡ as_cents r) × (is_usable_cents c ≡ true)
  cents_given {c} e = (e, subst (λ (x : Float). is_usable_cents x ≡ true) (same_value cents c (sym cents_said ∙ sym e)) cents_usable)

  pub cents_never : {n d : ℕ} {X : Type 0} → refuses n d ≡ as_cents r → X
  cents_never e = no_refusal (sym cents_said ∙ sym e)

-- ---- generations
pub generation_up : (positive i : ℕ) → i ≤ positive → float i ≡ generation_at positive i
generation_up positive i h = rw (le-leb i positive h)

pub generation_down : (positive i : ℕ) → positive < i → neg (float (i - positive)) ≡ generation_at positive i
generation_down positive i h = rw (lt-leb i positive h)

float_sized : (i : ℕ) → i < 2 ^ 16 → Sized 65535 (float i)
unfolding of_int
float_sized i h = round_sized 65535 false i 1 (lit≤ tt) (lit< tt) (omega arith)

generation_sized : (positive i : ℕ) → i < 2 ^ 16 → Sized 65535 (generation_at positive i)
generation_sized positive i h = go (leb i positive)
  where
    go : (b : Bool) → Sized 65535 (pick b (float i) (neg (float (i - positive))))
    go true = float_sized i h
    go false = sized_neg (float_sized (i - positive) (omega arith))

-- ---- notes
module _ (generator period : Float) (g : is_usable_cents generator ≡ true) (p : SomeCents period) (positive i : ℕ) (small : i < 2 ^ 16) where
  -- a note within the period is no larger than it
  pub bounded_usable : is_usable_cents (bounded_at generator period positive i) ≡ true
  bounded_usable =
      sized_usable (bounded_at generator period positive i)
      (bounded_sized {k = 65535 * (75 * 2 ^ 9)} (mul binary64 (generation_at positive i) generator) period (lit≤ tt)
      (mul_sized {n = 65535} {k = 75 * 2 ^ 9} (lit≤ tt) (generation_sized positive i small) (usable_sized generator g)) (usable_sized period p.usable) p.some)

  -- and is a ratio in 2 ^ -32..2 ^ 32
  pub note_given : {r : Float} → gives r ≡ note_at generator period positive i → (gives r ≡ note_at generator period positive i) × (in_generator r ≡ true)
  note_given {r} e =
      let t = cents_ratio (bounded_at generator period positive i) bounded_usable in
      (e, subst (λ (x : Float). in_generator x ≡ true) (same_value t.value r (sym t.is ∙ sym e)) (within_generator t.between))

  pub note_never : {n d : ℕ} {X : Type 0} → refuses n d ≡ note_at generator period positive i → X
  note_never e = no_refusal (sym (cents_ratio (bounded_at generator period positive i) bounded_usable).is ∙ sym e)

-- ---- pitch values: the period, then the notes
pub pitch_first : (ratio generator period : Float) (positive i : ℕ) → i ≡ 0 → gives ratio ≡ pitch_at ratio generator period positive i
pitch_first ratio generator period positive i h = rw (eq-eqb i 0 h)

pub pitch_later : (ratio generator period : Float) (positive i : ℕ) {s : Said Float} → (i ≡ 0 → ⊥) → s ≡ note_at generator period positive i → s ≡ pitch_at ratio generator period positive i
pitch_later ratio generator period positive i h e = rw (ne_eqb i 0 h) e
