-- DEGREE 0 HAS THE RELATIVE PITCH 1.0 in every scale whose period has a ratio. Assumes nothing.
use mathlib.Core.Path.{◌≡◌, refl, ap}
use mathlib.Core.Bool.{Bool, true, false}
use mathlib.Core.List.{List, ◌∷◌}
use Prim.Native.Nat.{ℕ, ◌*◌, ◌/◌, ◌%◌, ◌<◌}
use native.Mathlib.Nat.{mul-zero, zero-mul, zero-mod, zero-div, mul-pos}
use lib.Dec.{eqb, lit<}
use lib.IntN.{pos}
use lib.Ieee.{Float, fin, binary64, unlike, up, down, fits, le, lt, eq, neg, mul, div, round, size, span, climb, odd, of_bits, of_fields}
use lib.Ieee.{of_int}
use lib.Ieee.Fits.{down_pos}
use Rattle.base.specs.Said.{gives, pick, Accepted}
use Rattle.floats.specs.Floats.{one_f}
use Rattle.floats.specs.Ranges.{in_reach}
use Rattle.floats.proofs.Sized.{Sized, sized}
use Rattle.floats.proofs.Value.{round_again}
use Rattle.explog.specs.Exp.{t_of, p_of}
use Rattle.explog.specs.Root.{root, root_from}
use Rattle.explog.specs.Rules.{E, floor_of, times_power, power_of, log_of}
use Rattle.pitch.specs.Ratios.{from_octaves, repeated, stretched_by}
use Rattle.scl.specs.Items.{ratio_of}
use Rattle.scl.specs.Table.{implicit}
use Rattle.scl.specs.declared.Item.{Item}
use Rattle.scl_tables.specs.Build.{last_of, count_of}
use Rattle.scl_tables.proofs.Reaches.{log_gives, octaves_sized}
use Rattle.relative.specs.Relative.{periods_of, place_of, relative_pitch_of}
use Rattle.relative.proofs.Ratios.{item_held}

-- ---- by computation
octave_zero : (s : Bool) → from_octaves (fin s 0 (pos 0)) ≡ gives one_f
unfolding E le lt eq neg round size span climb odd floor_of times_power power_of p_of t_of root root_from
octave_zero true = refl
octave_zero false = refl

implicit_one : ratio_of implicit ≡ gives one_f
unfolding E le lt eq neg div round size span climb odd of_bits of_fields floor_of times_power power_of p_of t_of root root_from
implicit_one = refl

one_one : stretched_by one_f one_f ≡ gives one_f
unfolding le lt eq mul round size span climb odd
one_one = refl

none : of_int binary64 (pos 0) ≡ fin false 0 (pos 0)
unfolding of_int round size span climb odd
none = refl

-- ---- no periods are no octaves
zero_rounds : (s : Bool) (d : ℕ) → 0 < d → round binary64 s 0 d ≡ fin s 0 (pos 0)
unfolding fits
zero_rounds s d h = round_again (fin s 0 (pos 0)) s 0 d h tt (refl, zero-mul d)

no_octaves : {x : Float} → Sized 900 x → from_octaves (mul binary64 x (of_int binary64 (pos 0))) ≡ gives one_f
unfolding mul
no_octaves (sized s m e h) =
    let t = unlike s false in
    rw (none, mul-zero (m * up e), zero_rounds t (down e * 1) (mul-pos (down_pos e) (lit< tt))) (octave_zero t)

no_periods : (p : Float) → in_reach p ≡ true → fits binary64 p ≡ true → repeated p (of_int binary64 (pos 0)) ≡ gives one_f
no_periods p r f = rw (r, log_gives p r) (no_octaves (octaves_sized p (log_of p) f r (log_gives p r)))

-- ---- degree 0 is place 0, with no periods
place_zero : (n : ℕ) → place_of n (pos 0) ≡ 0
unfolding place_of
place_zero n = go (eqb n 0)
  where
    go : (b : Bool) → pick b 0 (0 % n) ≡ 0
    go true = refl
    go false = zero-mod n

periods_zero : (n : ℕ) → periods_of n (pos 0) ≡ pos 0
unfolding periods_of
periods_zero n = go (eqb n 0)
  where
    go : (b : Bool) → pick b (pos 0) (pos (0 / n)) ≡ pos 0
    go true = refl
    go false = ap pos (zero-div n)

pub relative_zero : (items : List Item) → Accepted (ratio_of (last_of (implicit ∷ items))) →
    relative_pitch_of (implicit ∷ items) (pos 0) ≡ gives one_f
unfolding relative_pitch_of
relative_zero items p =
    let n = count_of (implicit ∷ items) in
    let h = item_held (last_of (implicit ∷ items)) p.is in
    rw (p.is, place_zero n, periods_zero n, implicit_one, no_periods p.value h.reach h.held) one_one
