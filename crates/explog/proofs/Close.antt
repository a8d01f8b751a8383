-- L's bits of y are a number b where y lies between the powers of two of b and of b + 1, by a margin; so a guess that is seen to lie there is
-- right. Assumes nothing.
use Rattle.std.proofs.Common.{◌≡◌, ℕ, zero, suc, ◌+◌, ◌-◌, ◌*◌, ◌/◌, ◌^◌, ◌<◌, ◌≤◌, ◌≢◌, sym, refl, ap, ◌∙◌, subst, le_trans, le_of_eq, le_refl, lt_of_lt_of_le, le_of_suc-le-suc, le_of_lt, add_assoc, mul-le-mul_right, mul_comm, mul-le-mul, le_antisymm, mul-le-mul_left, mul-pos, one-mul, pow-suc, lt_of_not-le, mul-add, not-le_of_lt, le_of_mul-le-mul_right, div-one, add-one, arith, lit<, lit≤, pow_pos, pow_mono}
use native.Mathlib.Nat.{one-le-pow, pow-lt-pow_left, pow-zero}
use Rattle.powers.specs.Log.{y_of, b_of}
use Rattle.log_roots.specs.Table.{roots}
use Rattle.log_roots.specs.Roots.{low_of, high_of}
use Rattle.log_roots.proofs.Ratio.{Le, le_mul, le_of, le_at, mul_pow}
use Rattle.explog.specs.Head.{Head}
use Rattle.explog.proofs.Squares.{Turn, turns, bernoulli, end_low, end_high}
use Rattle.log_roots.proofs.Roots.{most, least, low_power, high_power, high_pos}

-- ---- powers of a root: t of them are t / N
pow_most : (N p q : ℕ) → Le N 0 p 1 q → (t : ℕ) → Le N 0 (p ^ t) t (q ^ t)
pow_most N p q f zero = rw (pow-zero p, pow-zero q) (record { le = le_refl _ })
pow_most N p q f (suc t) = rw (pow-suc p t, pow-suc q t) (subst (λ (x : ℕ). Le N 0 (p ^ t * p) x (q ^ t * q)) (add-one t) (le_mul (pow_most N p q f t) f))

pow_least : (N p q : ℕ) → Le N 1 q 0 p → (t : ℕ) → Le N t (q ^ t) 0 (p ^ t)
pow_least N p q f zero = rw (pow-zero p, pow-zero q) (record { le = le_refl _ })
pow_least N p q f (suc t) = rw (pow-suc p t, pow-suc q t) (subst (λ (x : ℕ). Le N x (q ^ t * q) 0 (p ^ t * p)) (add-one t) (le_mul (pow_least N p q f t) f))

pub bern_low : (W u t : ℕ) → (W + t * u) * W ^ t ≤ (W + u) ^ t * W
bern_low W u zero = rw (pow-zero W, pow-zero (W + u)) (omega arith)
bern_low W u (suc t) = rw (pow-suc W t, pow-suc (W + u) t) (omega (arith, mul-le-mul_right (W + u) (bern_low W u t)))

bern_high : (W v t c : ℕ) → c + t * v ≡ W → (W + v) ^ t * c ≤ W ^ t * W
bern_high W v zero c e = rw (pow-zero W, pow-zero (W + v)) (omega arith)
bern_high W v (suc t) c e =
    let h = bern_high W v t (c + v) (omega arith) in
    let l : c ≤ W = omega arith in
    rw (pow-suc W t, pow-suc (W + v) t) (omega (arith, mul-le-mul_right W h, mul-le-mul_left ((W + v) ^ t * v) l))

-- M + e is M * 2 ^ (t / N) at most, or at least
step_low : (N M W u t e : ℕ) → 0 < W → (M + e) * W ≤ M * (W + t * u) → Le N 0 (W + u) 1 W → Le N 0 (M + e) t M
step_low N M W u t e pos h f =
    le_of (pow_most N (W + u) W f t) (one-le-pow t W pos)
    (le_of_mul-le-mul_right {k = W} (omega (arith, mul-le-mul_right (W ^ t) h, mul-le-mul_left M (bern_low W u t))) pos)

step_high : (N M W v t e c : ℕ) → 0 < W → 0 < c → c + t * v ≡ W → M * W ≤ (M + e) * c → Le N 1 W 0 (W + v) → Le N t M 0 (M + e)
step_high N M W v t e c pos some s h f =
    le_of (pow_least N (W + v) W f t) (one-le-pow t (W + v) (le_trans pos (omega arith)))
    (le_of_mul-le-mul_right {k = c} (omega (arith, mul-le-mul_right (W ^ t) h, mul-le-mul_left M (bern_high W v t c s))) some)

-- ---- the ends of L
less : (b B : ℕ) → (suc B ≤ b → ⊥) → b ≤ B
less b B f = le_of_suc-le-suc (lt_of_not-le f)

module _ (M N B z y c : ℕ) (pos : 0 < M) (nz : N ≢ 0) (sum : N + c ≡ M + 1) (room : M * M ≤ (M + N * 2) * c) (turn : Turn M N B z y) where
  grown : M * M ^ N ≤ (M + 2) ^ N * c
  grown = le_of_mul-le-mul_right {k = M} (omega (arith, mul-le-mul_right (M ^ N) room, mul-le-mul_right c (bern_low M 2 N))) pos

  ending : y ^ N * c < 2 ^ B * M ^ N * (2 * M)
  ending = end_high M (2 ^ B) (y ^ N) (M ^ N) ((M + 1) ^ N) z c (mul-pos (pow_pos B) (one-le-pow N M pos)) turn.below turn.high (bernoulli M N c sum)

  at_least : (b : ℕ) → Le N b (M + 2) 0 y → b ≤ B
  at_least b f = less b B (λ (g : suc B ≤ b). not-le_of_lt ending (clash (2 ^ b) (2 ^ B) (M ^ N) ((M + 2) ^ N) (y ^ N) (twice g) grown (le_trans f.le (le_of_eq (one-mul (y ^ N))))))
    where
      twice : suc B ≤ b → 2 ^ B * 2 ≤ 2 ^ b
      twice g = le_trans (le_of_eq (sym (pow-suc 2 B))) (pow_mono g)

      clash : (p q Z A Y : ℕ) → q * 2 ≤ p → M * Z ≤ A * c → p * A ≤ Y → q * Z * (2 * M) ≤ Y * c
      clash p q Z A Y g h f = le_trans (omega (arith, mul-le-mul_right (M * Z) g)) (le_trans (mul-le-mul_left p h) (omega (arith, mul-le-mul_right c f)))

  at_most : (b : ℕ) → Le N 0 (y * M + 1) (b + 1) (M * M) → B ≤ b
  at_most b f = less B b (λ (g : suc b ≤ B).
      not-le_of_lt (pow-lt-pow_left (step (y * M)) nz) (le_trans (le_trans (le_of_eq (sym (one-mul ((y * M + 1) ^ N)))) f.le)
      (le_trans (le_of_eq (λ i. 2 ^ add-one b i * mul_pow M M N i)) (le_trans (clash (2 ^ suc b) (2 ^ B) (M ^ N) (y ^ N) (pow_mono g) (end_low M (2 ^ B) (y ^ N) (M ^ N) z pos turn.above turn.low)) (le_of_eq (sym (mul_pow y M N)))))))
    where
      step : (x : ℕ) → x < x + 1
      step x = omega arith

      clash : (p q Z Y : ℕ) → p ≤ q → q * Z ≤ Y → p * (Z * Z) ≤ Y * Z
      clash p q Z Y g h = omega (arith, mul-le-mul_right (Z * Z) g, mul-le-mul_right Z h)

  inside : (b : ℕ) → Le N b (M + 2) 0 y → Le N 0 (y * M + 1) (b + 1) (M * M) → B ≡ b
  inside b f g = le_antisymm (at_most b g) (at_least b f)

pub not_zero : (n : ℕ) → 0 < n → n ≢ 0
not_zero n h = omega arith

-- L's 52 bits of y are b where y, in parts of 2 ^ 62, lies from 2 ^ (b / 2 ^ 52) * (1 + 2 / 2 ^ 62) up to below 2 ^ ((b + 1) / 2 ^ 52): the 52
-- squarings with their roundings lose no more than 2 of the 709 parts and more that lie between two such powers
pub bracket : (y b : ℕ) → 2 ^ 62 ≤ y → y < 2 ^ 63 → Le (2 ^ 52) b (2 ^ 62 + 2) 0 y → Le (2 ^ 52) 0 (y * 2 ^ 62 + 1) (b + 1) (2 ^ 62 * 2 ^ 62) → b_of y 52 ≡ b
bracket y b low high = inside (2 ^ 62) (2 ^ 52) (b_of y 52) (y_of y 52) y (2 ^ 62 + 1 - 2 ^ 52) (lit< tt) (not_zero (2 ^ 52) (lit< tt)) refl (lit≤ tt) (turns y low high 52) b

-- ---- the two bounds of the guess: q is the head, d what t adds
lower : (N M h t q d y : ℕ) → 0 < M → 0 < q → 2 * d + 10 ≤ M → (q + 16) * (M + d + 8) ≤ y * M → Le N h M 0 (q + 16) → Le N t M 0 (M + (d + 5)) → Le N (h + t) (M + 2) 0 y
lower N M h t q d y pos some small k f g =
    let l : (M + 2) * (M + (d + 5)) ≤ M * (M + d + 8) = omega arith in
    le_of (le_mul f g) (mul-pos (omega arith) (omega arith)) (omega (arith, mul-le-mul_left (q + 16) l, mul-le-mul_right M k))

upper : (N M h t q d y : ℕ) → 0 < M → y * M < q * (M + d + 709) → Le N 0 q h M → Le N 0 (M + (d + 709)) (t + 1) M → Le N 0 (y * M + 1) (h + t + 1) (M * M)
upper N M h t q d y pos k f g =
    subst (λ (x : ℕ). Le N 0 (y * M + 1) x (M * M)) (sym (add_assoc h t 1))
    (le_of (le_mul f g) (mul-pos pos pos) (mul-le-mul_right (M * M) (let l : y * M + 1 ≤ q * (M + (d + 709)) = omega arith in l)))

-- ---- what t adds, by C = 3048493539143 of K = 2 ^ 32 for each: u and v are the last root's two bounds
adds_low : (M W u t d C K : ℕ) → 0 < K → d * K ≤ t * C → C * W ≤ K * (M * u) → 709 * W ≤ M * u → (M + (d + 709)) * W ≤ M * (W + (t + 1) * u)
adds_low M W u t d C K pos h k l =
    let m : d * W ≤ t * (M * u) = le_of_mul-le-mul_right {k = K} (omega (arith, mul-le-mul_right W h, mul-le-mul_left t k)) pos in
    omega arith

adds_high : (M W v t d C K c : ℕ) → 0 < K → t * C < d * K + K → t * 512 ≤ K → K * (M * v) ≤ (C + 1) * W → 10 * ((d + 5) * (t * v)) ≤ 31 * W → c + t * v ≡ W → M * W ≤ (M + (d + 5)) * c
adds_high M W v t d C K c pos h few k l s =
    let a : t * (K * (M * v)) ≤ (d * K + K + t) * W = omega (arith, mul-le-mul_left t k, mul-le-mul_right W (le_of_lt h)) in
    let b : 512 * (M * (t * v)) ≤ (512 * d + 513) * W = le_of_mul-le-mul_right {k = K} (omega (arith, mul-le-mul_left 512 a, mul-le-mul_right W few)) pos in
    let e : (M + (d + 5)) * c + (M + (d + 5)) * (t * v) ≡ (M + (d + 5)) * W = mul_both (M + (d + 5)) c (t * v) W s in
    let f : 5120 * ((M + (d + 5)) * (t * v)) ≤ 5120 * ((d + 5) * W) = omega arith in
    omega arith
  where
    mul_both : (x c n W : ℕ) → c + n ≡ W → x * c + x * n ≡ x * W
    mul_both x c n W s = sym (mul-add x c n) ∙ ap (λ (z : ℕ). x * z) s

-- ---- the guess
head_most : (h q : ℕ) → h < 2 ^ 30 → Head h q → Le (2 ^ 52) 0 q (h * 2 ^ 22) (2 ^ 62)
head_most h q small p =
    let f = subst (λ (x : ℕ). Le (2 ^ 30) 0 (low_of h 0 30) x ((2 ^ 100) ^ 30)) (div-one h) (low_power h small 30 (lit≤ tt)) in
    le_at (2 ^ 30) 0 h q (2 ^ 62) (2 ^ 52) 0 (h * 2 ^ 22) (not_zero (2 ^ 30) (lit< tt)) (omega arith) (le_of f (lit< tt) p.low)

head_least : (h q : ℕ) → h < 2 ^ 30 → Head h q → Le (2 ^ 52) (h * 2 ^ 22) (2 ^ 62) 0 (q + 16)
head_least h q small p =
    let f = subst (λ (x : ℕ). Le (2 ^ 30) x ((2 ^ 100) ^ 30) 0 (high_of h 0 30)) (div-one h) (high_power h small 30 (lit≤ tt)) in
    le_at (2 ^ 30) h 0 (2 ^ 62) (q + 16) (2 ^ 52) (h * 2 ^ 22) 0 (not_zero (2 ^ 30) (lit< tt)) (omega arith)
    (le_of f (high_pos h 0 30) (swapped (2 ^ 62) (high_of h 0 30) (q + 16) ((2 ^ 100) ^ 30) p.high))
  where
    swapped : (a b c d : ℕ) → b * a ≤ c * d → a * b ≤ d * c
    swapped a b c d h = le_trans (le_of_eq (mul_comm a b)) (le_trans h (le_of_eq (mul_comm c d)))

root_most : Le (2 ^ 52) 0 (2 ^ 100 + 195103586505166) 1 (2 ^ 100)
unfolding roots
root_most = most 52 (lit≤ tt)

root_least : Le (2 ^ 52) 1 (2 ^ 100) 0 (2 ^ 100 + 195103586505168)
unfolding roots
root_least = least 52 (lit≤ tt)

module _ (t d : ℕ) (few : t < 5242880) (d-is : d ≡ t * 3048493539143 / 2 ^ 32) where
  d_low : d * 2 ^ 32 ≤ t * 3048493539143
  d_low = omega arith

  d_high : t * 3048493539143 < d * 2 ^ 32 + 2 ^ 32
  d_high = omega arith

  d_small : d + 5 ≤ 3721400000
  d_small = omega arith

  added_low : Le (2 ^ 52) 0 (2 ^ 62 + (d + 709)) (t + 1) (2 ^ 62)
  added_low = step_low (2 ^ 52) (2 ^ 62) (2 ^ 100) 195103586505166 (t + 1) (d + 709) (lit< tt)
      (adds_low (2 ^ 62) (2 ^ 100) 195103586505166 t d 3048493539143 (2 ^ 32) (lit< tt) d_low (lit≤ tt) (lit≤ tt)) root_most

  added_high : Le (2 ^ 52) t (2 ^ 62) 0 (2 ^ 62 + (d + 5))
  added_high =
      let n : t * 195103586505168 ≤ 5242880 * 195103586505168 = mul-le-mul_right 195103586505168 (le_of_lt few) in
      let c = 2 ^ 100 - t * 195103586505168 in
      let s : c + t * 195103586505168 ≡ 2 ^ 100 = omega arith in
      let some : 0 < c = omega arith in
      let over : 10 * ((d + 5) * (t * 195103586505168)) ≤ 31 * 2 ^ 100 = le_trans (mul-le-mul_left 10 (mul-le-mul d_small n)) (lit≤ tt) in
      step_high (2 ^ 52) (2 ^ 62) (2 ^ 100) 195103586505168 t (d + 5) c (lit< tt) some s
      (adds_high (2 ^ 62) (2 ^ 100) 195103586505168 t d 3048493539143 (2 ^ 32) c (lit< tt) d_high (omega arith) (lit≤ tt) over s) root_least

  -- the code's two tests, with margins e and f below, g above
  pub decided : (y h q e f g : ℕ) → 2 ^ 62 ≤ y → y < 2 ^ 63 → h < 2 ^ 30 → Head h q → 16 ≤ e → 8 ≤ f → g ≤ 709
      → (q + e) * (2 ^ 62 + d + f) / 2 ^ 62 < y → y < q * (2 ^ 62 + d + g) / 2 ^ 62 → b_of y 52 ≡ h * 2 ^ 22 + t
  decided y h q e f g y_low y_high small p e-enough f-enough g-enough one two =
      bracket y (h * 2 ^ 22 + t) y_low y_high
      (lower (2 ^ 52) (2 ^ 62) (h * 2 ^ 22) t q d y (lit< tt) (le_trans (lit< tt) p.above) (roomy d d_small)
      (le_trans (mul-le-mul (more q e-enough) (more (2 ^ 62 + d) f-enough)) (under ((q + e) * (2 ^ 62 + d + f)) y one)) (head_least h q small p) added_high)
      (upper (2 ^ 52) (2 ^ 62) (h * 2 ^ 22) t q d y (lit< tt) (lt_of_lt_of_le (over (q * (2 ^ 62 + d + g)) y two) (mul-le-mul_left q (more (2 ^ 62 + d) g-enough))) (head_most h q small p) added_low)
    where
      roomy : (d : ℕ) → d + 5 ≤ 3721400000 → 2 * d + 10 ≤ 2 ^ 62
      roomy d h = omega arith

      more : (x : ℕ) {m n : ℕ} → m ≤ n → x + m ≤ x + n
      more x h = omega arith

      under : (x y : ℕ) → x / 2 ^ 62 < y → x ≤ y * 2 ^ 62
      under x y h = omega arith

      over : (x y : ℕ) → y < x / 2 ^ 62 → y * 2 ^ 62 < x
      over x y h = omega arith

-- what the code's steps ask for: the divisor is not zero, the sums stay below 2 ^ 63
pub divisor : (y r : ℕ) → 2 ^ 62 ≤ y → r ≡ y * 12786308645202624512 / 2 ^ 64 → 0 < r / 2097152
divisor y r h e = omega arith

pub sum_below : (t m : ℕ) → t < 5242880 → m < 2 ^ 32 → 2 ^ 62 + t * 3048493539143 / 2 ^ 32 + m < 2 ^ 63
sum_below t m h k = omega arith

-- the powers of two
pub none : b_of (2 ^ 62) 52 ≡ 0
unfolding b_of y_of
none = refl
