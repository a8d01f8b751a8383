-- The product of five numbers by four roundings down, against P, on any numbers. Assumes nothing.
use Rattle.std.proofs.Common.{◌≡◌, ℕ, ◌+◌, ◌-◌, ◌*◌, ◌^◌, ◌<◌, ◌≤◌, ap, lt_of_lt_of_le, lt_of_le_of_lt, mul-le-mul_right, mul-le-mul, lt_of_mul-lt-mul_right, mul-le-mul_left, mul-lt-mul_of_pos_right, mul-pos, lt_of_not-le, le_of_mul-le-mul_right, arith}
use Rattle.power_parts.proofs.Floors.{Floor, pair_near}

-- A * X stays below 2 * M * Z
pub strict : (M Y T Z : ℕ) → 0 < M * Z → M < T → Y * T ≤ 2 * M * M * Z → Y < 2 * M * Z
strict M Y T Z some above h = lt_of_not-le (λ (g : 2 * M * Z ≤ Y).
    absurd (omega (arith, mul-le-mul_left (2 * M * Z) above, mul-le-mul_right T g)))

-- q, at most A * G / K where G * Z ≤ X * K, stays below 2 * M
pub under : (M A X Z G K q : ℕ) → 0 < Z → 0 < K → A * X < 2 * M * Z → G * Z ≤ X * K → q * K ≤ A * G → q < 2 * M
under M A X Z G K q pos some b g h =
    lt_of_mul-lt-mul_right (K * Z) (lt_of_le_of_lt
    (let x : q * (K * Z) ≤ A * X * K = omega (arith, mul-le-mul_right Z h, mul-le-mul_left A g) in x)
    (lt_of_lt_of_le (mul-lt-mul_of_pos_right b some) (let y : 2 * M * Z * K ≤ 2 * M * (K * Z) = omega arith in y)))

-- ---- both ends of P
pub top_end : (A X Z G K e : ℕ) → 0 < Z → G * Z ≤ X * K → 256 * (A * X) ≤ e * Z → 256 * (A * G) ≤ e * K
top_end A X Z G K e pos g h = le_of_mul-le-mul_right {k = Z} (omega (arith, mul-le-mul_left A g, mul-le-mul_right K h)) pos

pub low_end : (P A X Z H K : ℕ) → 0 < Z → P * Z ≤ A * X → X * K ≤ H * Z → P * K ≤ A * H
low_end P A X Z H K pos h g = le_of_mul-le-mul_right {k = Z} (omega (arith, mul-le-mul_right K h, mul-le-mul_left A g)) pos

scaled : (P K M R e : ℕ) → P * (K * (4096 * M)) ≤ R → 16 * R ≤ e * (K * M) → 65536 * P * (K * M) ≤ e * (K * M)
scaled P K M R e h k = omega arith

-- and from above: what was cut off comes to less than 12
module _ (M A G1 G2 G3 D q1 q2 q3 q P : ℕ) (big : 2 ^ 52 ≤ M)
    (f1 : Floor M A G1 q1) (f2 : Floor M G2 G3 q2) (f3 : Floor M q1 q2 q3) (f : Floor M q3 D q)
    (a-below : A < 2 * M) (a2 : 16384 * G2 ≤ 16385 * M) (a3 : 16384 * G3 ≤ 16385 * M) (q1-below : q1 < 2 * M) (q3-below : q3 < 2 * M)
    (d-below : D ≤ M + 2 ^ 32) where
  one : A * (G1 + 1) ≤ (q1 + 3) * M
  one = let h = f1.high in omega arith

  two : 16 * ((G2 + 1) * (G3 + 1)) ≤ (16 * q2 + 49) * M
  two = let h = f2.high in omega arith

  three : (q1 + 3) * (16 * q2 + 49) ≤ (16 * q3 + 163) * M
  three = let h = f3.high in let p = pair_near M 16384 G2 G3 q2 (omega arith) a2 a3 f2.low in omega arith

  four : (16 * q3 + 163) * (4096 * D + 1300) ≤ (65536 * q + 774785) * M
  four = let h = f.high in omega arith

  five : (a g1 g2 g3 C u v w e : ℕ) → a * g1 * (16 * (g2 * g3)) ≤ u * M * (v * M) → u * v ≤ w * M → w * C ≤ e * M
      → 16 * (a * (g1 * g2 * g3 * C)) ≤ e * (M * M * M * M)
  five a g1 g2 g3 C u v w e h k l =
      let h3 : a * g1 * (16 * (g2 * g3)) ≤ w * (M * M * M) = omega (arith, mul-le-mul_right (M * M) k) in
      let h4 : a * g1 * (16 * (g2 * g3)) * C ≤ e * (M * M * M * M) = omega (arith, mul-le-mul_right C h3, mul-le-mul_right (M * M * M) l) in
      omega (arith, h4)

  all_cut : 16 * (A * ((G1 + 1) * (G2 + 1) * (G3 + 1) * (4096 * D + 1300))) ≤ (65536 * q + 774785) * (M * M * M * M)
  all_cut = five A (G1 + 1) (G2 + 1) (G3 + 1) (4096 * D + 1300) (q1 + 3) (16 * q2 + 49) (16 * q3 + 163) (65536 * q + 774785)
      (mul-le-mul one two) three four

  pub least : P * (M * M * M * (4096 * M)) ≤ A * ((G1 + 1) * (G2 + 1) * (G3 + 1) * (4096 * D + 1300)) → P ≤ q + 11
  least h =
      let k : 65536 * P * (M * M * M * M) ≤ (65536 * q + 774785) * (M * M * M * M) = scaled P (M * M * M) M _ _ h all_cut in
      let pos : 0 < M = omega arith in
      let l : 65536 * P ≤ 65536 * q + 774785 = le_of_mul-le-mul_right k (mul-pos (mul-pos (mul-pos pos pos) pos) pos) in
      omega (arith, l)

pub highest : (q P c K : ℕ) → 0 < K → c < 256 → 256 * (q * K) ≤ (256 * P + 257 * c) * K → q ≤ P + c
highest q P c K pos few h = let l : 256 * q ≤ 256 * P + 257 * c = le_of_mul-le-mul_right {k = K} (omega arith) pos in omega arith

-- a factor that has at most a W-th beyond M has at most a 16,384th, where W is that much
pub nearer : (M W G : ℕ) → 16384 ≤ W → M ≤ G → G * W ≤ M * W + M → 16384 * G ≤ 16385 * M
nearer M W G big above h =
    let t = G - M in
    let e : G ≡ M + t = omega arith in
    let a : t * W ≤ M = omega (arith, ap (λ (x : ℕ). x * W) e) in
    omega (arith, mul-le-mul_left t big)
