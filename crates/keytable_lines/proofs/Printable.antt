-- A number that passes the test is one that `write_fixed` takes. Assumes nothing.
use mathlib.Core.Path.{◌≡◌, sym, subst}
use mathlib.Core.Bool.{true}
use Prim.Native.Nat.{◌*◌, ◌^◌}
use native.Mathlib.Nat.{mul-one, le_trans, le_of_eq}
use lib.Dec.{T, le→leb}
use lib.IntN.{pos}
use lib.Ieee.{Float, nan, inf, fin, up, down, le, lt, eq, of_bits, binary64}
use Rattle.floats.specs.Floats.{abs}
use Rattle.floats.proofs.Compare.{le_pos}
use Rattle.printing.specs.PrintText.{limited}
use Rattle.keytable_lines.specs.Shown.{printable}

size_limited : (x : Float) → T (le (abs x) (of_bits binary64 0x4340_0000_0000_0000)) → T (limited x)
unfolding abs le lt eq of_bits
size_limited nan t = absurd t
size_limited (inf s) t = absurd t
size_limited (fin s m e) t =
    le→leb (m * up e) (2 ^ 53 * down e) (le_trans (le_of_eq (sym (mul-one (m * up e)))) (le_pos m 1 e (pos 53) t))

pub is_limited : (x : Float) → printable x ≡ true → T (limited x)
is_limited x h = size_limited x (subst T (sym h) tt)
