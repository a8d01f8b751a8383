-- What a caller knows of a number's range makes it one that can be printed. Assumes nothing.
use mathlib.Core.Path.{◌≡◌, sym, subst}
use mathlib.Core.Bool.{Bool, true, false, ◌&&◌, ◌||◌}
use Prim.Native.Nat.{ℕ, ◌*◌, ◌^◌, ◌≤◌}
use native.Mathlib.Nat.{le_trans, mul-le-mul_right}
use native.Mathlib.Omega.{arith}
use lib.IntN.{pos}
use lib.Dec.{T, ltb, eqb, ltb→lt, eqb→eq, le→leb}
use lib.Pow.{pow_mono}
use lib.Ieee.{Float, nan, inf, fin, up, down, lt, le, eq}
use Rattle.floats.proofs.Ranges.{Within, within_fin}
use Rattle.printing.specs.PrintText.{limited}

-- a range of floats between two powers of two
pub limited_within : {a b : ℕ} {x : Float} → Within a b x → b ≤ 53 → T (limited x)
limited_within {a} {b} (within_fin m e p l h) g = le→leb (m * up e) (2 ^ 53 * down e) (le_trans h (mul-le-mul_right (down e) (pow_mono g)))

-- what follows from below and from equal follows from at most
at_most : {P : Type 0} (x y : Bool) → (T x → P) → (T y → P) → x || (y && true) ≡ true → P
at_most true y f g h = f tt
at_most false true f g h = g tt
at_most false false f g h = absurd (subst T (sym h) tt)

-- from -n * 2^k to n * 2^k, as cents are
pub limited_between : (n k : ℕ) (x : Float) → n * 2 ^ k ≤ 2 ^ 53 → le (fin true n (pos k)) x ≡ true → le x (fin false n (pos k)) ≡ true → T (limited x)
unfolding le lt eq
limited_between n k nan b h g = absurd (subst T (sym g) tt)
limited_between n k (inf false) b h g = absurd (subst T (sym g) tt)
limited_between n k (inf true) b h g = absurd (subst T (sym h) tt)
limited_between n k (fin false m e) b h g =
    let a = m * up e * 1 in
    let c = n * 2 ^ k * down e in
    let z : a ≤ c = at_most (ltb a c) (eqb a c) (λ t. omega (arith, ltb→lt a c t)) (λ t. omega (arith, eqb→eq a c t)) g in
    le→leb (m * up e) (2 ^ 53 * down e) (le_trans (omega (arith, z)) (mul-le-mul_right (down e) b))
limited_between n k (fin true m e) b h g =
    let a = m * up e * 1 in
    let c = n * 2 ^ k * down e in
    let z : a ≤ c = at_most (ltb a c) (eqb c a) (λ t. omega (arith, ltb→lt a c t)) (λ t. omega (arith, eqb→eq c a t)) h in
    le→leb (m * up e) (2 ^ 53 * down e) (le_trans (omega (arith, z)) (mul-le-mul_right (down e) b))
