-- Steps on computed ratios: a number in 2^-900..2^900, or 18. Assumes nothing.
use mathlib.Core.Path.{◌≡◌, refl, ◌∙◌, ap}
use mathlib.Core.Bool.{Bool, true, false}
use lib.IntN.{ℤ, pos}
use lib.Ieee.{Float, binary64, mul, div, of_int}
use Rattle.base.specs.Numbers.{unusable, beyond_reach}
use Rattle.base.specs.Said.{Said, gives, refuses, pick, and_then}
use Rattle.floats.specs.Ranges.{in_reach}
use Rattle.explog.specs.Rules.{E, L, in_powers, floor_of, power_of, log_of}
use Rattle.pitch.specs.Given.{computed}
use Rattle.pitch.specs.Ratios.{cents_f, from_octaves, as_octaves, repeated, stretched_by}
use Rattle.scl.specs.Items.{denom_of, ratio_of}
use Rattle.scl.specs.declared.Item.{Item}
use Rattle.scl.specs.declared.Item.TheVariants.{Cents, Fraction}
use Rattle.scl_tables.proofs.Reaches.{log_gives}
use Rattle.relative.specs.Refusals.{ReachedOrBeyond, reached, beyond}
use Rattle.relative.specs.Relative.{stretched}

pub move : {s t : Said Float} → t ≡ s → ReachedOrBeyond s → ReachedOrBeyond t
move e (reached x r h) = reached x r (e ∙ h)
move e (beyond h) = beyond (e ∙ h)

pub and_reached : {s : Said Float} (f : Float → Said Float) → ReachedOrBeyond s → ((x : Float) → in_reach x ≡ true → ReachedOrBeyond (f x)) → ReachedOrBeyond (and_then s f)
and_reached f (reached x r e) k = move (ap (λ (t : Said Float). and_then t f) e) (k x r)
and_reached f (beyond e) k = beyond (ap (λ (t : Said Float). and_then t f) e)

pub computed_reached : (x : Float) → ReachedOrBeyond (computed x)
computed_reached x = go (in_reach x) refl
  where
    go : (b : Bool) → in_reach x ≡ b → ReachedOrBeyond (pick b (gives x) (refuses beyond_reach 0))
    go true e = reached x e refl
    go false e = beyond refl

octaves_reached : (o : Float) → ReachedOrBeyond (from_octaves o)
unfolding E
octaves_reached o = go (in_powers o)
  where
    go : (b : Bool) → ReachedOrBeyond (and_then (pick b (gives (power_of (floor_of o))) (refuses beyond_reach 0)) computed)
    go true = computed_reached (power_of (floor_of o))
    go false = beyond refl

-- whatever an item holds, its ratio is such a number
pub item_reached : (i : Item) → ReachedOrBeyond (ratio_of i)
item_reached (Cents c) = octaves_reached (div binary64 c cents_f)
item_reached (Fraction n d) = computed_reached (div binary64 (of_int binary64 (pos n)) (of_int binary64 (pos (denom_of d))))

octaves_of : (p : Float) → in_reach p ≡ true → as_octaves p ≡ gives (log_of p)
octaves_of p r = ap (λ (b : Bool). pick b (L p) (refuses unusable 0)) r ∙ log_gives p r

repeated_reached : (p z : Float) → in_reach p ≡ true → ReachedOrBeyond (repeated p z)
repeated_reached p z r = move (ap (λ (t : Said Float). and_then t (λ o. from_octaves (mul binary64 o z))) (octaves_of p r)) (octaves_reached (mul binary64 (log_of p) z))

pub stretched_reached : (p : Float) (q : ℤ) (r : Float) → in_reach p ≡ true → in_reach r ≡ true → ReachedOrBeyond (stretched p q r)
stretched_reached p q r hp hr = and_reached (λ base. stretched_by base r) (repeated_reached p (of_int binary64 q) hp) (λ x hx. move (rw (hx, hr) refl) (computed_reached (mul binary64 x r)))
