-- P against the exact product of what its steps multiply by: each step whose bit is set loses less than 1, the others nothing, and the
-- later factors are too near 1 to make more of it. Assumes nothing.
use Rattle.std.proofs.Common.{◌≡◌, ℕ, zero, suc, ◌+◌, ◌-◌, ◌*◌, ◌/◌, ◌%◌, ◌^◌, ◌<◌, ◌≤◌, Bool, true, false, not, T, eqb, leb, ◌≢◌, get_or, ap, ◌∙◌, subst, le_trans, add-zero, le_of_lt, add-suc, mul-le-mul_right, mod-lt, mul-le-mul_left, pow-suc, div-add-mod', mul-div_cancel, add-one, arith, lit<, lit≤, eqb→eq, leb→le, pow_mono, pow-add}
use native.Mathlib.Nat.{pow-zero}
use Rattle.base.specs.Said.{pick}
use Rattle.powers.specs.Exp.{t_of, p_of}
use Rattle.powers.specs.Inner.{factor_of}
use Rattle.powers.proofs.Every.{every, at_each}
use Rattle.powers.proofs.Factors.{entries}
use Rattle.powers.proofs.Entries.{t_entry, t_above}
use Rattle.powers.proofs.Bound.{t_square, p_step, powers}
use Rattle.power_parts.specs.Parts.{product_of}
use Rattle.explog.proofs.Counts.{ones_of, few_ones}

-- ---- T_k is 2 ^ 62 + 2 ^ 62 / 2 ^ k at most
near : ℕ → ℕ → Bool
near k x = leb (x * 2 ^ k) (2 ^ 62 * 2 ^ k + 2 ^ 62)

near_each : (k : ℕ) → k < 53 → T (near k (get_or entries k 0))
unfolding entries near every
near_each k h = at_each near entries tt k h

t_near : (k : ℕ) → k < 52 → t_of (suc k) * 2 ^ suc k ≤ 2 ^ 62 * 2 ^ suc k + 2 ^ 62
unfolding near
t_near k h = subst (λ (x : ℕ). x * 2 ^ suc k ≤ 2 ^ 62 * 2 ^ suc k + 2 ^ 62) (t_entry k h) (leb→le _ _ (near_each (suc k) (omega arith)))

-- ---- a factor F of step k: W is 2 ^ k, T and U are T_(k-1) and T_k
pub record Good (M F W T U : ℕ) : Type 0 where
  pub above : M ≤ F
  pub near : F * W ≤ M * W + M
  pub flat : F * U ≤ M * T

pub good : (b k : ℕ) → k < 52 → Good (2 ^ 62) (factor_of b (suc k)) (2 ^ suc k) (t_of k) (t_of (suc k))
good b k h = go (eqb (b / 2 ^ (52 - suc k) % 2) 1)
  where
    sq : t_of (suc k) * t_of (suc k) ≤ 2 ^ 62 * t_of k
    sq = rw add-one at (t_square k)

    up : 2 ^ 62 ≤ t_of (suc k)
    up = le_of_lt (t_above (suc k) h)

    go : (c : Bool) → Good (2 ^ 62) (pick c (t_of (suc k)) (2 ^ 62)) (2 ^ suc k) (t_of k) (t_of (suc k))
    go true = record { above = up; near = t_near k h; flat = sq }
    go false = record { above = lit≤ tt; near = omega arith; flat = le_trans (mul-le-mul_right (t_of (suc k)) up) sq }

-- ---- P0 is P where the product X of some factors begins, P where it ends; c of them are no 1; Z is M to how many they are, T the last entry used
pub record Spread (M P0 X P c Z T : ℕ) : Type 0 where
  pub low : P * Z ≤ P0 * X
  pub high : 256 * (P0 * X) ≤ (256 * P + 257 * c) * Z
  pub bound : P0 * X * T ≤ 2 * M * M * Z

-- one factor more: Q is P * F / M, rounded down; where d is 0 the factor is 1, and nothing is lost
record Step (M P c F Q d : ℕ) : Type 0 where
  low : Q * M ≤ P * F
  high : P * F ≤ Q * M + d * M
  grown : 257 * c * F ≤ 257 * c * M + d * M

next : (M P0 X P c Z T F U Q d : ℕ) → Step M P c F Q d → F * U ≤ M * T → Spread M P0 X P c Z T → Spread M P0 (X * F) Q (c + d) (Z * M) U
next M P0 X P c Z T F U Q d g flat h = record {
  low = omega (arith, mul-le-mul_right Z g.low, mul-le-mul_right F h.low);
  high = omega (arith, mul-le-mul_right F h.high, mul-le-mul_right Z g.high, mul-le-mul_right Z g.grown);
  bound = omega (arith, mul-le-mul_left (P0 * X) flat, mul-le-mul_right M h.bound);
}

-- the earlier losses grow by less than 1 / 256
grow : (M c F W : ℕ) → 257 * c ≤ W → M ≤ F → F * W ≤ M * W + M → 257 * c * F ≤ 257 * c * M + 1 * M
grow M c F W few above near =
    let t = F - M in
    let e : F ≡ M + t = omega arith in
    let a : t * W ≤ M = omega (arith, ap (λ (x : ℕ). x * W) e) in
    let small : 257 * c * t ≤ M = le_trans (mul-le-mul_right t few) (omega arith) in
    omega (arith, ap (λ (x : ℕ). 257 * c * x) e)

step : (P c G Q d W : ℕ) (t : Bool) → (T t → d ≡ 1) → (T (not t) → d ≢ 1) → d < 2 → Q ≡ P * pick t G (2 ^ 62) / 2 ^ 62 → 257 * c ≤ W → 2 ^ 62 ≤ G → G * W ≤ 2 ^ 62 * W + 2 ^ 62
    → Step (2 ^ 62) P c (pick t G (2 ^ 62)) Q d
step P c G Q d W true f g two e few above near =
    let o = div-add-mod' (P * G) (2 ^ 62) in
    let m = mod-lt (P * G) {m = 2 ^ 62} (lit< tt) in
    rw (f tt, e) (record { low = omega arith; high = omega arith; grown = grow (2 ^ 62) c G W few above near })
step P c G Q d W false f g two e few above near =
    let n = g tt in
    let z : d ≡ 0 = omega arith in
    rw (z, e, mul-div_cancel P {n = 2 ^ 62} (lit< tt)) (record { low = omega arith; high = omega arith; grown = omega arith })

-- from step 7 on
few : (s n c : ℕ) → 7 ≤ s → n ≤ 52 → c ≤ n → 257 * c ≤ 2 ^ suc (s + n)
few s n c h l b =
    let two : (n : ℕ) → n < 2 ^ n = twos in
    let q : suc (s + n) ≡ suc s + n = omega arith in
    let e : 2 ^ suc (s + n) ≡ 2 ^ suc s * 2 ^ n = ap (λ (x : ℕ). 2 ^ x) q ∙ pow-add 2 (suc s) n in
    let g : 256 * 2 ^ n ≤ 2 ^ suc s * 2 ^ n = mul-le-mul_right (2 ^ n) (pow_mono {i = 8} {j = suc s} (omega arith)) in
    omega (arith, two n)
  where
    twos : (n : ℕ) → n < 2 ^ n
    twos zero = lit< tt
    twos (suc n) = let h = twos n in omega arith

pub spread : (b s n : ℕ) → 7 ≤ s → s + n ≤ 52 → Spread (2 ^ 62) (p_of b s) (product_of b s n) (p_of b (s + n)) (ones_of b s n) ((2 ^ 62) ^ n) (t_of (s + n))
unfolding product_of ones_of
spread b s zero h l =
    let i = powers b s (omega arith) in
    rw (add-zero s, pow-zero (2 ^ 62)) (record { low = omega arith; high = omega arith; bound = omega (arith, i.bound) })
spread b s (suc n) h l =
    let k = s + n in
    let d = b / 2 ^ (52 - suc k) % 2 in
    let g = good b k (omega arith) in
    rw (add-suc s n, pow-suc (2 ^ 62) n)
    (next (2 ^ 62) (p_of b s) (product_of b s n) (p_of b k) (ones_of b s n) ((2 ^ 62) ^ n) (t_of k) (factor_of b (suc k)) (t_of (suc k)) (p_of b (suc k)) d
    (step (p_of b k) (ones_of b s n) (t_of (suc k)) (p_of b (suc k)) d (2 ^ suc k) (eqb d 1) (eqb→eq d 1) (λ t e. subst (λ (x : ℕ). T (not (eqb x 1))) e t) (mod-lt (b / 2 ^ (52 - suc k)) {m = 2} (lit< tt)) (p_step b k)
    (few s n (ones_of b s n) h (omega arith) (few_ones b s n)) (le_of_lt (t_above (suc k) (omega arith))) (t_near k (omega arith))) g.flat (spread b s n h (omega arith)))
