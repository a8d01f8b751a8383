-- The ratio that an item gives, whatever the item holds: an f64 in 2^-900..2^900. Assumes nothing.
use mathlib.Core.Path.{◌≡◌, refl, sym, ◌∙◌, subst}
use mathlib.Core.Bool.{Bool, true, false}
use lib.IntN.{pos}
use lib.Ieee.{Float, binary64, fits, div, of_int}
use lib.Ieee.Bits.{is_true}
use lib.Ieee.Fits.{div-fits}
use Rattle.base.specs.Numbers.{beyond_reach}
use Rattle.base.specs.Said.{Said, gives}
use Rattle.base.proofs.Said.{same_value}
use Rattle.floats.specs.Ranges.{in_reach}
use Rattle.explog.specs.Rules.{E, in_powers}
use Rattle.pitch.specs.Ratios.{cents_f, from_octaves}
use Rattle.scl.specs.Items.{denom_of, ratio_of}
use Rattle.scl.specs.declared.Item.{Item}
use Rattle.scl.specs.declared.Item.TheVariants.{Cents, Fraction}
use Rattle.scl.proofs.Items.{Ratio, powers_ratio, ratio_reach}
use Rattle.scl_tables.proofs.Answered.{never}
use Rattle.relative.proofs.Back.{pick_given}

pub record Float64 (r : Float) : Type 0 where
  pub reach : in_reach r ≡ true
  pub held : fits binary64 r ≡ true

of_ratio : {s : Said Float} {r : Float} → Ratio 900 s → s ≡ gives r → Float64 r
of_ratio {s} {r} t e = record { reach = ratio_reach (lib.Dec.lit≤ tt) t (sym e); held = subst (λ (x : Float). fits binary64 x ≡ true) (same_value t.value r (sym t.is ∙ e)) t.held }

octaves_held : (x r : Float) → fits binary64 x ≡ true → from_octaves x ≡ gives r → Float64 r
unfolding E
octaves_held x r f e = go (in_powers x) refl e
  where
    go : (b : Bool) → in_powers x ≡ b → from_octaves x ≡ gives r → Float64 r
    go true h e = of_ratio (powers_ratio x f h) e
    go false h e = never {n = beyond_reach} {d = 0} (rw h refl) e

-- the ratio of an item
pub item_held : (i : Item) {r : Float} → ratio_of i ≡ gives r → Float64 r
item_held (Cents c) {r} e = octaves_held (div binary64 c cents_f) r (is_true (fits binary64 (div binary64 c cents_f)) (div-fits binary64 c cents_f)) e
item_held (Fraction n d) {r} e =
    let x = div binary64 (of_int binary64 (pos n)) (of_int binary64 (pos (denom_of d))) in
    let t = pick_given (in_reach x) (gives x) beyond_reach e in
    let h : fits binary64 x ≡ true = is_true (fits binary64 x) (div-fits binary64 (of_int binary64 (pos n)) (of_int binary64 (pos (denom_of d)))) in
    subst Float64 (same_value x r t.1) (record { reach = t.0; held = h })
