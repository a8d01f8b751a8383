-- The product of five roots' products by four roundings down, against the power of two. Assumes nothing.
use Rattle.std.proofs.Common.{◌≡◌, ℕ, ◌+◌, ◌*◌, ◌/◌, ◌^◌, ◌<◌, ◌≤◌, sym, ap, ◌∙◌, subst, le_trans, le_of_eq, lt_of_le_of_lt, mul-le-mul_right, mul-le-mul, mul-le-mul_left, mul-pos, le_of_mul-le-mul_right, arith, lit<, lit≤}
use lib.Pow.{shr_mono}
use Rattle.power_parts.proofs.Floors.{Floor, floor, both, three_low, more_low, pair_near, at_least}
use Rattle.log_roots.specs.Roots.{low_of, high_of, Rooted}
use Rattle.log_roots.proofs.Roots.{low_split, high_split}
use Rattle.explog.specs.Head.{Head}

-- what is cut off comes to less than 16
module _ (M A G1 G2 G3 G4 q1 q2 q3 q : ℕ) (big : 2 ^ 52 ≤ M) (f1 : Floor M A G1 q1) (f2 : Floor M G2 G3 q2) (f3 : Floor M q1 q2 q3) (f : Floor M q3 G4 q)
    (a : A ≤ 2 * M) (a1 : 50 * G1 ≤ 51 * M) (a2 : 4096 * G2 ≤ 4097 * M) (a3 : 4096 * G3 ≤ 4097 * M) (a4 : 4096 * G4 ≤ 4097 * M) (q1-below : q1 ≤ 2 * M) (q3-below : q3 ≤ 2 * M) where
  one : (A + 1) * (G1 + 1) ≤ (q1 + 5) * M
  one = let h = f1.high in omega arith

  two : 16 * ((G2 + 1) * (G3 + 1)) ≤ (16 * q2 + 49) * M
  two = let h = f2.high in omega arith

  three : (q1 + 5) * (16 * q2 + 49) ≤ (16 * q3 + 195) * M
  three = let h = f3.high in omega (arith, pair_near M 4096 G2 G3 q2 (omega arith) a2 a3 f2.low)

  four : (16 * q3 + 195) * (G4 + 1) ≤ (16 * q + 244) * M
  four = let h = f.high in omega arith

  pub cut_off : (A + 1) * (G1 + 1) * (G2 + 1) * (G3 + 1) * (G4 + 1) ≤ (q + 16) * (M * M * M * M)
  cut_off = six (A + 1) (G1 + 1) (G2 + 1) (G3 + 1) (G4 + 1) (q1 + 5) (16 * q2 + 49) (16 * q3 + 195) (16 * q + 244) (q + 16) (omega arith) (mul-le-mul one two) (mul-le-mul_right (M * M) three) (mul-le-mul_right (M * M * M) four)
    where
      six : (a b c d e u v w x z : ℕ) → x ≤ 16 * z → a * b * (16 * (c * d)) ≤ u * M * (v * M) → u * v * (M * M) ≤ w * M * (M * M) → w * e * (M * M * M) ≤ x * M * (M * M * M) → a * b * c * d * e ≤ z * (M * M * M * M)
      six a b c d e u v w x z n h k l =
          let m : a * b * (16 * (c * d)) ≤ w * (M * M * M) = omega arith in
          omega (arith, mul-le-mul_right e m, mul-le-mul_right (M * M * M * M) n)

low_end : (M q G X Z : ℕ) → 0 < M → q * (M * M * M * M) ≤ G → G * Z ≤ X * (M * M * M * M * M) → q * Z ≤ X * M
low_end M q G X Z pos h g = le_of_mul-le-mul_right {k = M * M * M * M} (omega (arith, mul-le-mul_right Z h)) (mul-pos (mul-pos (mul-pos pos pos) pos) pos)

high_end : (M q G X Z : ℕ) → 0 < M → G ≤ q * (M * M * M * M) → X * (M * M * M * M * M) ≤ G * Z → X * M ≤ q * Z
high_end M q G X Z pos h g = le_of_mul-le-mul_right {k = M * M * M * M} (omega (arith, mul-le-mul_right Z h)) (mul-pos (mul-pos (mul-pos pos pos) pos) pos)

-- the roundings, in order, stay below 2 ^ 63
pub first_most : (A G1 q1 : ℕ) → A ≤ 9124017994966720698 → G1 ≤ 4661115140909843940 → q1 ≡ A * G1 / 2 ^ 62 → q1 ≤ 9221811340221203997
first_most A G1 q1 a b e = le_trans (le_of_eq e) (le_trans (shr_mono 62 (mul-le-mul a b)) (lit≤ tt))

pub pair_most : (G2 G3 q2 : ℕ) → G2 ≤ 4612454302788355851 → G3 ≤ 4611698021886319766 → q2 ≡ G2 * G3 / 2 ^ 62 → q2 ≤ 4612466308247005329
pair_most G2 G3 q2 a b e = le_trans (le_of_eq e) (le_trans (shr_mono 62 (mul-le-mul a b)) (lit≤ tt))

pub three_most : (q1 q2 q3 : ℕ) → q1 ≤ 9221811340221203997 → q2 ≤ 4612466308247005329 → q3 ≡ q1 * q2 / 2 ^ 62 → q3 ≤ 9223371655793091282
three_most q1 q2 q3 a b e = le_trans (le_of_eq e) (le_trans (shr_mono 62 (mul-le-mul a b)) (lit≤ tt))

module _ (h A G1 G2 G3 G4 : ℕ) (pa : Rooted h 0 6 9124017994966720698 A) (p1 : Rooted h 6 6 4661115140909843940 G1) (p2 : Rooted h 12 6 4612454302788355851 G2)
    (p3 : Rooted h 18 6 4611698021886319766 G3) (p4 : Rooted h 24 6 4611686205981193442 G4) where
  low_are : low_of h 0 30 ≡ low_of h 0 6 * low_of h 6 6 * low_of h 12 6 * low_of h 18 6 * low_of h 24 6
  low_are =
      low_split h 0 24 6 ∙ ap (λ (x : ℕ). x * low_of h 24 6) (low_split h 0 18 6 ∙ ap (λ (x : ℕ). x * low_of h 18 6) (low_split h 0 12 6 ∙ ap (λ (x : ℕ). x * low_of h 12 6) (low_split h 0 6 6)))

  high_are : high_of h 0 30 ≡ high_of h 0 6 * high_of h 6 6 * high_of h 12 6 * high_of h 18 6 * high_of h 24 6
  high_are =
      high_split h 0 24 6 ∙ ap (λ (x : ℕ). x * high_of h 24 6) (high_split h 0 18 6 ∙ ap (λ (x : ℕ). x * high_of h 18 6) (high_split h 0 12 6 ∙ ap (λ (x : ℕ). x * high_of h 12 6) (high_split h 0 6 6)))

  abbrev Z : ℕ
  Z = (2 ^ 100) ^ 6

  lows : A * G1 * G2 * G3 * G4 * (Z * Z * Z * Z * Z) ≤ low_of h 0 30 * (2 ^ 62 * 2 ^ 62 * 2 ^ 62 * 2 ^ 62 * 2 ^ 62)
  lows = subst (λ (x : ℕ). A * G1 * G2 * G3 * G4 * (Z * Z * Z * Z * Z) ≤ x * (2 ^ 62 * 2 ^ 62 * 2 ^ 62 * 2 ^ 62 * 2 ^ 62)) (sym low_are)
      (both _ _ _ _ _ _ _ _ (both _ _ _ _ _ _ _ _ (both _ _ _ _ _ _ _ _ (both _ _ _ _ _ _ _ _ pa.low p1.low) p2.low) p3.low) p4.low)

  highs : high_of h 0 30 * (2 ^ 62 * 2 ^ 62 * 2 ^ 62 * 2 ^ 62 * 2 ^ 62) ≤ (A + 1) * (G1 + 1) * (G2 + 1) * (G3 + 1) * (G4 + 1) * (Z * Z * Z * Z * Z)
  highs = subst (λ (x : ℕ). x * (2 ^ 62 * 2 ^ 62 * 2 ^ 62 * 2 ^ 62 * 2 ^ 62) ≤ (A + 1) * (G1 + 1) * (G2 + 1) * (G3 + 1) * (G4 + 1) * (Z * Z * Z * Z * Z)) (sym high_are)
      (both _ _ _ _ _ _ _ _ (both _ _ _ _ _ _ _ _ (both _ _ _ _ _ _ _ _ (both _ _ _ _ _ _ _ _ pa.high p1.high) p2.high) p3.high) p4.high)

  module _ (q1 q2 q3 : ℕ) (e1 : q1 ≡ A * G1 / 2 ^ 62) (e2 : q2 ≡ G2 * G3 / 2 ^ 62) (e3 : q3 ≡ q1 * q2 / 2 ^ 62) where
    one_most : q1 ≤ 9221811340221203997
    one_most = first_most A G1 q1 pa.below p1.below e1

    top_most : q3 ≤ 9223371655793091282
    top_most = three_most q1 q2 q3 one_most (pair_most G2 G3 q2 p2.below p3.below e2) e3

    pub is_head : (q : ℕ) → q ≡ q3 * G4 / 2 ^ 62 → Head h q
    is_head q e =
        let f1 = floor A G1 q1 e1 in
        let f2 = floor G2 G3 q2 e2 in
        let f3 = floor q1 q2 q3 e3 in
        let f = floor q3 G4 q e in
        let u1 = at_least A G1 q1 e1 pa.above p1.above in
        let u2 = at_least G2 G3 q2 e2 p2.above p3.above in
        let u3 = at_least q1 q2 q3 e3 u1 u2 in
        let top = le_trans (le_of_eq e) (le_trans (shr_mono 62 (mul-le-mul top_most p4.below)) (lit≤ {n = 9223372030900686860} tt)) in
        record {
          low = low_end (2 ^ 62) q (A * G1 * G2 * G3 * G4) (low_of h 0 30) (Z * Z * Z * Z * Z) (lit< tt)
              (le_trans (more_low (2 ^ 62) A (G1 * G2 * G3) (2 ^ 62 * 2 ^ 62 * 2 ^ 62) G4 q3 q f (three_low (2 ^ 62) A G1 G2 G3 q1 q2 q3 f1 f2 f3)) (sorted A G1 G2 G3 G4)) lows;
          high = high_end (2 ^ 62) (q + 16) ((A + 1) * (G1 + 1) * (G2 + 1) * (G3 + 1) * (G4 + 1)) (high_of h 0 30) (Z * Z * Z * Z * Z) (lit< tt)
              (cut_off (2 ^ 62) A G1 G2 G3 G4 q1 q2 q3 q (lit≤ tt) f1 f2 f3 f (le_trans pa.below (lit≤ tt))
              (le_trans (mul-le-mul_left 50 p1.below) (lit≤ tt)) (le_trans (mul-le-mul_left 4096 p2.below) (lit≤ tt))
              (le_trans (mul-le-mul_left 4096 p3.below) (lit≤ tt)) (le_trans (mul-le-mul_left 4096 p4.below) (lit≤ tt))
              (le_trans one_most (lit≤ tt)) (le_trans top_most (lit≤ tt))) highs;
          above = at_least q3 G4 q e u3 p4.above;
          below = lt_of_le_of_lt (more q 9223372030900686860 top) (lit< tt);
        }
      where
        sorted : (a b c d e : ℕ) → a * (b * c * d * e) ≤ a * b * c * d * e
        sorted a b c d e = omega arith

        more : (q n : ℕ) → q ≤ n → q + 16 ≤ n + 16
        more q n h = omega arith
