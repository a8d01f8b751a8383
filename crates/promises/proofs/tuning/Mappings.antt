-- The root of a mapping that was read: its pitch is usable, and its offset can be turned over. Assumes nothing.
use Rattle.std.specs.Prelude.{Option}
use mathlib.Core.Path.{◌≡◌, sym, ap, subst}
use mathlib.Core.Bool.{true}
use mathlib.Core.List.{List, [], ◌∷◌}
use Prim.Native.Nat.{ℕ, zero, suc, ◌^◌, ◌<◌}
use native.Mathlib.Omega.{arith}
use lib.IntN.{ℤ, negsuc, ◌-ℤ◌}
use lib.Signed.{mag}
use Rattle.base.proofs.Integers.{mag_sub}
use Rattle.integers.specs.IntegerText.{IntText}
use Rattle.kbm.specs.declared.Kbm.{Kbm}
use Rattle.kbm_read.specs.Language.{Values, GiveAll, required, unseen, mapping_from, MappingText}
use Rattle.promises.specs.tuning.Roots.{Usable}

-- a key of 16 bits
int_small : {t : List ℕ} {z : ℤ} → IntText true (2 ^ 15) t z → mag z < 32768
int_small (IntText.plain n d l e) = rw e l
int_small (IntText.plus s n p d l e) = rw e l
int_small (IntText.minus s zero b p d l e) = rw e (omega arith)
int_small (IntText.minus s (suc n) b p d l e) = rw e (omega (arith, l))

lowest_far : (z : ℤ) → mag z < 100000 → z ≡ negsuc 2147483647 → ⊥
lowest_far z m e = let n : mag z ≡ 2147483647 = ap mag e in omega (arith, n, m)

usable_values : (first : List (List ℕ)) (vs : Values required) → GiveAll unseen required first vs → Usable (mapping_from vs)
usable_values [] vs g = absurd g
usable_values (a ∷ []) vs g = absurd g.1
usable_values (a ∷ b ∷ []) vs g = absurd g.1.1
usable_values (a ∷ b ∷ c ∷ []) vs g = absurd g.1.1.1
usable_values (a ∷ b ∷ c ∷ d ∷ []) vs g = absurd g.1.1.1.1
usable_values (a ∷ b ∷ c ∷ d ∷ e ∷ []) vs g = absurd g.1.1.1.1.1
usable_values (a ∷ b ∷ c ∷ d ∷ e ∷ f ∷ rest) vs g =
    let mid = vs.1.1.1.0 in
    let ref = vs.1.1.1.1.0 in
    let bound : mag (mid -ℤ ref) < 100000 = omega (arith, mag_sub mid ref, int_small g.1.1.1.0, int_small g.1.1.1.1.0) in
    record { pitch = g.1.1.1.1.1.0.1; offset = omega (arith, bound); turns = lowest_far (mid -ℤ ref) bound }

-- "Pitch is usable from 2^-10 to 2^20 Hz"; middle and reference key have 16 bits, so the offset is never -2147483648
pub read_root : {s : List ℕ} {k : Kbm} {es : List (Option ℤ)} → MappingText s k es → Usable k
read_root t = subst Usable (sym t.mapping) (usable_values t.lines.first t.values t.lines.values)
