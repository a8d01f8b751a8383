-- x as L takes it, "x = m*2^e with 2^52 <= m < 2^53": m has x's own digits, with zeros after them. Assumes nothing.
use mathlib.Core.Path.{◌≡◌, refl, sym, ap, subst}
use mathlib.Core.Bool.{true, false}
use Prim.Native.Nat.{ℕ, suc, ◌+◌, ◌-◌, ◌*◌, ◌^◌, ◌≤◌, ◌<◌, zero}
use native.Mathlib.Nat.{add-zero, zero-add, eq_of_mul-eq-mul_right}
use native.Mathlib.Omega.{arith}
use lib.Dec.{T}
use lib.Pow.{pow-add, pow_pos}
use lib.IntN.{ℤ, pos, negsuc, ◌-ℤ◌}
use lib.Ieee.{Float, fin, binary64, up, down, fits, size}
use lib.Ieee.Exact.{HasValue}
use Rattle.floats.proofs.Ranges.{Within, within_fin}
use Rattle.explog.specs.Rules.{log_of, log_at}
use Rattle.explog.proofs.Diff.{Diff, subtract, moved}
use Rattle.explog.proofs.LiteralL.{filled, small}
use Rattle.accuracy.proofs.Orders.{same_power}

pub record LogParts (x : Float) : Type 0 where
  pub m : ℕ
  pub e : ℤ
  pub low : 2 ^ 52 ≤ m
  pub high : m < 2 ^ 53
  pub value : HasValue x false (m * up e) (down e)
  pub is : log_at m e ≡ log_of x

-- t zeros
shifted : (m : ℕ) (e : ℤ) (t j i : ℕ) → Diff e j i
    → HasValue (fin false m e) false (m * 2 ^ t * up (e -ℤ pos t)) (down (e -ℤ pos t))
shifted m e t j i d =
    let f = e -ℤ pos t in
    let less : Diff f j (i + t) = moved f (j + 0) (i + t) j (i + t) (omega arith) (subtract e (pos t) j i t 0 d (sym (add-zero t))) in (
      refl,
      eq_of_mul-eq-mul_right (2 ^ i) (pow_pos i) (m * up e * down f) (m * 2 ^ t * up f * down e)
          (go (up e) (down e) (up f) (down f) (2 ^ i) (2 ^ j) (2 ^ t) (same_power e j i d) (same_power f j (i + t) less) (pow-add 2 i t)),
    )
  where
    go : (u w u' w' I J K : ℕ) → u * I ≡ J * w → u' * 2 ^ (i + t) ≡ J * w' → 2 ^ (i + t) ≡ I * K
        → m * u * w' * I ≡ m * K * u' * w * I
    go u w u' w' I J K a b c =
        omega (arith, ap (λ (z : ℕ). m * w' * z) a, ap (λ (z : ℕ). m * w * z) b, ap (λ (z : ℕ). m * w * u' * z) c)

of_parts : (n : ℕ) (e : ℤ) (j i : ℕ) → Diff e j i → fits binary64 (fin false (suc n) e) ≡ true
    → LogParts (fin false (suc n) e)
unfolding log_of
of_parts n e j i d fit =
    let t = 53 - size (suc n) in
    let full = filled (suc n) (omega arith) (small false n e (subst T (sym fit) tt)) in
    record { m = suc n * 2 ^ t; e = e -ℤ pos t; low = full.0; high = full.1; value = shifted (suc n) e t j i d; is = refl }

pub log_parts : {x : Float} → Within 900 900 x → fits binary64 x ≡ true → LogParts x
log_parts (within_fin (suc n) (pos a) some l h) fit = of_parts n (pos a) a 0 (sym (add-zero a)) fit
log_parts (within_fin (suc n) (negsuc a) some l h) fit = of_parts n (negsuc a) 0 (suc a) (zero-add (suc a)) fit
log_parts (within_fin zero e some l h) fit = elim some [ ]
