-- A number that passes both tests is one that `write_fixed` takes. Assumes nothing.
use mathlib.Core.Path.{◌≡◌, sym, subst, ap}
use mathlib.Core.Bool.{true, false, ◌&&◌}
use Prim.Native.Nat.{ℕ, ◌*◌, ◌^◌, ◌≤◌}
use native.Mathlib.Nat.{mul-one, le_trans, le_of_eq}
use lib.Dec.{T, leb, leb→le, le→leb}
use lib.IntN.{ℤ, pos}
use lib.Ieee.{Float, nan, inf, fin, up, down, le, lt, eq, of_bits, binary64}
use Rattle.floats.specs.Floats.{abs}
use Rattle.floats.proofs.Ranges.{and_true}
use Rattle.floats.proofs.Compare.{le_pos}
use Rattle.printing.specs.PrintText.{limited}
use Rattle.probes.specs.Probes.{printable_to}

abbrev most : Float
most = of_bits binary64 0x4340_0000_0000_0000

both : (x : Float) (d : ℕ) → printable_to x d ≡ true → T (le (abs x) most) × T (leb d 4)
both x d h = and_true (le (abs x) most) (leb d 4) h

size_limited : (x : Float) → T (le (abs x) most) → T (limited x)
unfolding abs le lt eq of_bits
size_limited nan t = absurd t
size_limited (inf s) t = absurd t
size_limited (fin s m e) t =
    le→leb (m * up e) (2 ^ 53 * down e) (le_trans (le_of_eq (sym (mul-one (m * up e)))) (le_pos m 1 e (pos 53) t))

pub is_limited : (x : Float) (d : ℕ) → printable_to x d ≡ true → T (limited x)
is_limited x d h = size_limited x (both x d h).0

pub few : (x : Float) (d : ℕ) → printable_to x d ≡ true → d ≤ 4
few x d h = leb→le d 4 (both x d h).1
