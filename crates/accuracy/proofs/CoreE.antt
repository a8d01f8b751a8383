-- P is 2 ^ 62 * 2 ^ (b / 2 ^ 52) at most, and less than 512 below it. Assumes nothing.
use mathlib.Core.Path.{◌≡◌, refl, sym, subst, subst₃}
use mathlib.Core.Bool.{Bool, true, false}
use Prim.Native.Nat.{ℕ, zero, suc, ◌+◌, ◌-◌, ◌*◌, ◌/◌, ◌%◌, ◌^◌, ◌≤◌, ◌<◌}
use native.Mathlib.Nat.{le_trans, le_of_lt, lt_of_le_of_lt, mul-pos, mul-le-mul_left, mul-le-mul_right, le_of_mul-le-mul_left}
use native.Mathlib.Nat.{lt_of_mul-lt-mul_right, pow-lt-pow_left, div-one, div-add-mod', mod-lt}
use native.Mathlib.Omega.{arith}
use lib.Dec.{eqb, lit≤, lit<}
use Rattle.base.specs.Said.{pick}
use Rattle.powers.specs.Exp.{t_of, p_of}
use Rattle.powers.specs.Inner.{factor_of}
use Rattle.powers.proofs.Entries.{t_above}
use Rattle.powers.proofs.Bound.{p_step, powers, power_below}
use Rattle.explog.proofs.Close.{not_zero}
use Rattle.explog.proofs.Theorems.{table_root}
use Rattle.log_roots.proofs.Ratio.{Le, le_of, two_pow}
use Rattle.log_roots.proofs.Halving.{Pair, root_most, root_least, digit, low_step, high_step}
use Rattle.accuracy.specs.Accuracy.{CoreE}
use Rattle.accuracy.proofs.Orders.{left_out, right_out, below_power, above_power}

-- ---- the table: T_k is 2 ^ 62 * 2 ^ (1 / 2 ^ k) at most, and with 2 more at least
t_pair : (k : ℕ) → k < 52 → Pair (2 ^ 62) (t_of k) (t_of (suc k))
t_pair k h =
    let r = table_root k h in
    record { low = r.0; high = two_more (2 ^ 62) (t_of k) (t_of (suc k)) (le_of_lt (t_above (suc k) h)) r.1 }
  where
    two_more : (M t u : ℕ) → M ≤ u → M * t < (u + 1) * (u + 1) → M * (t + 2) ≤ (u + 2) * (u + 2)
    two_more M t u a h = omega arith

t_first : t_of 0 ≡ 2 * 2 ^ 62
unfolding t_of
t_first = refl

t_most : (k : ℕ) → k ≤ 52 → Le (2 ^ k) 0 (t_of k) 1 (2 ^ 62)
t_most = root_most (2 ^ 62) 52 t_of (lit< tt) t_first t_pair

t_least : (k : ℕ) → k ≤ 52 → Le (2 ^ k) 1 (2 ^ 62) 0 (t_of k + 2)
t_least = root_least (2 ^ 62) 52 t_of (lit< tt) t_first t_pair

-- ---- a step: Q is P * F / M, rounded down, and F is T or M. With a + 4 for a, Q stays as near as P was with a
loses : (M a P T Q : ℕ) → 1000 ≤ M → a ≤ 204 → M ≤ T → M ≤ Q → P * T < Q * M + M
    → P * (M + a) * (T + 2) ≤ Q * (M + (a + 4)) * M
loses M a P T Q big small above-t above-q h =
    let one : P * T ≤ Q * (M + 1) = omega arith in
    let two : P * M ≤ P * T = mul-le-mul_left P above-t in
    let three : M * (P * T + 2 * P) ≤ Q * ((M + 1) * (M + 2)) = omega (arith, mul-le-mul_left M one) in
    let four : M * (P * T + 2 * P) * (M + a) ≤ Q * ((M + 1) * (M + 2)) * (M + a) = mul-le-mul_right (M + a) three in
    let am : a * M ≤ 204 * M = mul-le-mul_right M small in
    let mm : 1000 * M ≤ M * M = mul-le-mul_right M big in
    let five : 3 * (a * M) + 2 * M + 2 * a ≤ M * M = omega arith in
    le_of_mul-le-mul_left {k = M} (omega (arith, mul-le-mul_left Q five)) (omega arith)

keeps : (M a P Q : ℕ) → P * M < Q * M + M → P * (M + a) * M ≤ Q * (M + (a + 4)) * M
keeps M a P Q h =
    let l : P < Q + 1 = lt_of_mul-lt-mul_right M (omega arith) in
    let k : P ≤ Q = omega arith in
    mul-le-mul_right M (le_trans (mul-le-mul_right (M + a) k) (mul-le-mul_left Q (let w : M + a ≤ M + (a + 4) = omega arith in w)))

stays : (M a P T Q : ℕ) (c : Bool) → 1000 ≤ M → a ≤ 204 → M ≤ T → M ≤ Q → P * pick c T M < Q * M + M
    → P * (M + a) * pick c (T + 2) M ≤ Q * (M + (a + 4)) * M
stays M a P T Q true big small above-t above-q h = loses M a P T Q big small above-t above-q h
stays M a P T Q false big small above-t above-q h = keeps M a P Q h

-- ---- P after k steps, against the first k digits of b
abbrev top : ℕ → ℕ → ℕ
top b k = b / 2 ^ (52 - k)

record Steps (M n j P a : ℕ) : Type 0 where
  most : Le n 0 P j M
  least : Le n j (M * M) 0 (P * (M + a))

module _ (M n j P T Q a d : ℕ) (big : 1000 ≤ M) (small : a ≤ 204) (some : M ≤ P) (above-t : M ≤ T) (above-q : M ≤ Q)
    (two : d < 2) (low : Q * M ≤ P * pick (eqb d 1) T M) (high : P * pick (eqb d 1) T M < Q * M + M)
    (t-high : Le (n + n) 0 T 1 M) (t-low : Le (n + n) 1 M 0 (T + 2)) (h : Steps M n j P a) where
  next : Steps M (n + n) (j + j + d) Q (a + 4)
  next =
      let pos : 0 < M = omega arith in
      record {
        most = le_of (low_step d two t-high h.most) (mul-pos pos pos) (omega (arith, mul-le-mul_right M low));
        least = le_of (high_step d two t-low h.least) (mul-pos (mul-pos (omega arith) (omega arith)) (factor_pos (eqb d 1)))
            (omega (arith, mul-le-mul_right (M * M) (stays M a P T Q (eqb d 1) big small above-t above-q high)));
      }
    where
      factor_pos : (c : Bool) → 0 < pick c (T + 2) M
      factor_pos true = omega arith
      factor_pos false = omega arith

steps : (b : ℕ) → b < 2 ^ 52 → (k : ℕ) → k ≤ 52 → Steps (2 ^ 62) (2 ^ k) (top b k) (p_of b k) (4 * k)
unfolding p_of
steps b small zero h =
    let z : b / 2 ^ 52 ≡ 0 = omega arith in
    rw z (record { most = record { le = lit≤ tt }; least = record { le = lit≤ tt } })
steps b small (suc k) h =
    let d = b / 2 ^ (52 - suc k) % 2 in
    let P = p_of b k in
    let T = t_of (suc k) in
    let Q = p_of b (suc k) in
    let F = factor_of b (suc k) in
    let is : Q ≡ P * F / 2 ^ 62 = p_step b k in
    let parts = div-add-mod' (P * F) (2 ^ 62) in
    let rest = mod-lt (P * F) {m = 2 ^ 62} (lit< tt) in
    let four : 4 * suc k ≡ 4 * k + 4 = omega arith in
    subst₃ (λ (n j a : ℕ). Steps (2 ^ 62) n j Q a) (sym (two_pow k)) (sym (digit 52 b k h)) (sym four)
    (next (2 ^ 62) (2 ^ k) (top b k) P T Q (4 * k) d (lit≤ tt) (omega arith)
    (powers b k (omega arith)).above (le_of_lt (t_above (suc k) h)) (powers b (suc k) h).above
    (mod-lt (b / 2 ^ (52 - suc k)) {m = 2} (lit< tt)) (omega arith) (omega arith)
    (rw (two_pow k) at (t_most (suc k) h)) (rw (two_pow k) at (t_least (suc k) h)) (steps b small k (omega arith)))

-- ---- the end
ended : (M n b P : ℕ) → 0 < M → M ≤ P → P ≤ 2 * M → Le n b (M * M) 0 (P * (M + 208)) → Le n b M 0 (P + 416)
ended M n b P pos some two f = le_of f (mul-pos (omega arith) (omega arith)) (omega (arith, mul-le-mul_left (M * 208) two))

-- on whole numbers: 2 ^ σ goes into the exponent
whole : (σ n b P : ℕ) → 0 < n → Le n 0 P b (1 * 2 ^ σ) → Le n b (1 * 2 ^ σ) 0 (P + 416)
    → (P ^ n ≤ 2 ^ (σ * n + b)) × (2 ^ (σ * n + b) < (P + 512) ^ n)
whole σ n b P some f g = (
  below_power (right_out σ f),
  lt_of_le_of_lt (above_power (left_out σ g)) (pow-lt-pow_left (let l : P + 416 < P + 512 = omega arith in l) (not_zero n some)),
)

pub core_e : (b : ℕ) → b < 2 ^ 52 → CoreE b (p_of b 52)
core_e b small =
    let P = p_of b 52 in
    let p = powers b 52 (lit≤ tt) in
    let s : Steps (2 ^ 62) (2 ^ 52) b P 208 =
    subst (λ (x : ℕ). Steps (2 ^ 62) (2 ^ 52) x P 208) (div-one b) (steps b small 52 (lit≤ tt)) in
    let g = ended (2 ^ 62) (2 ^ 52) b P (lit< tt) p.above (le_of_lt (power_below b 52 P (lit≤ tt) p)) s.least in
    let w = whole 62 (2 ^ 52) b P (lit< tt) s.most g in
    record { low = w.0; high = w.1 }
