-- E's steps in five parts, from tables: the first s steps; n1, n2, n3 more, up to step 32; and the last twenty, added. The product of
-- the five numbers, by four roundings down, is near P. Assumes nothing.
use Rattle.std.proofs.Common.{◌≡◌, ℕ, ◌+◌, ◌*◌, ◌/◌, ◌^◌, ◌<◌, ◌≤◌, sym, ap, ◌∙◌, subst, le_trans, le_of_lt, mul-le-mul_right, mul-le-mul_left, mul-pos, lt_of_not-le, arith, lit<, lit≤, pow_mono, pow-add}
use native.Mathlib.Nat.{one-le-pow}
use Rattle.powers.specs.Exp.{t_of, p_of}
use Rattle.powers.specs.Inner.{Power}
use Rattle.powers.proofs.Entries.{t_above}
use Rattle.powers.proofs.Bound.{power_below}
use Rattle.power_parts.specs.Parts.{product_of, rise_of, Part, Rise}
use Rattle.power_parts.proofs.Floors.{both, floor, at_least, three_low, more_low, pair_near}
use Rattle.power_parts.proofs.Groups.{product_split, rise_split}
use Rattle.explog.specs.Near.{Near}
use Rattle.explog.proofs.Counts.{ones_of, few_ones, ones_most}
use Rattle.explog.proofs.Spread.{Spread, spread}
use Rattle.explog.proofs.Lifts.{lift}
use Rattle.explog.proofs.Tree.{strict, under, top_end, low_end, least, highest, nearer}

-- (2 ^ 62) ^ n
abbrev many : ℕ → ℕ
many n = (2 ^ 62) ^ n

some : (n : ℕ) → 0 < many n
some n = one-le-pow n (2 ^ 62) (lit< tt)

part_near : (b s n G : ℕ) → 14 ≤ s → Part b s n G → 16384 * G ≤ 16385 * 2 ^ 62
part_near b s n G far p = nearer (2 ^ 62) (2 ^ s) G (pow_mono {i = 14} {j = s} far) p.above p.below

-- a part is below 2 ^ 63
pub part_below : (b s n G : ℕ) → 7 ≤ s → Part b s n G → G < 2 ^ 63
part_below b s n G far p = go (2 ^ s) (pow_mono {i = 7} {j = s} far) p.below
  where
    go : (W : ℕ) → 2 ^ 7 ≤ W → G * W ≤ 2 ^ 62 * W + 2 ^ 62 → G < 2 ^ 63
    go W big h = lt_of_not-le (λ (g : 2 ^ 63 ≤ G). absurd (omega (arith, mul-le-mul_right W g)))

-- the three sums
pub sums : (b s n1 n2 n3 r1 r2 r3 : ℕ) → Rise b s n1 r1 → Rise b (s + n1) n2 r2 → Rise b (s + (n1 + n2)) n3 r3
    → r1 + r2 + r3 ≡ rise_of b s (n1 + n2 + n3)
sums b s n1 n2 n3 r1 r2 r3 p1 p2 p3 =
    let two : rise_of b s (n1 + n2) ≡ r1 + r2 = rise_split b s n1 n2 ∙ (λ i. sym p1.is i + sym p2.is i) in
    sym (rise_split b s (n1 + n2) n3 ∙ (λ i. two i + sym p3.is i))

module _ (b s A : ℕ) (from : 7 ≤ s) (pa : Power b s A) where
  spread_from : (n : ℕ) → s + n ≤ 52 → Spread (2 ^ 62) A (product_of b s n) (p_of b (s + n)) (ones_of b s n) (many n) (t_of (s + n))
  spread_from n h =
      subst (λ (x : ℕ). Spread (2 ^ 62) x (product_of b s n) (p_of b (s + n)) (ones_of b s n) (many n) (t_of (s + n))) (sym pa.is)
      (spread b s n from h)

  inside : (n Z : ℕ) → s + n ≤ 52 → many n ≡ Z → A * product_of b s n < 2 * 2 ^ 62 * Z
  inside n Z h e = subst (λ (x : ℕ). A * product_of b s n < 2 * 2 ^ 62 * x) e
      (strict (2 ^ 62) (A * product_of b s n) (t_of (s + n)) (many n) (mul-pos (lit< tt) (some n)) (t_above (s + n) h) (spread_from n h).bound)

  -- the roundings, in order
  module _ (n1 G1 q1 : ℕ) (l1 : s + n1 ≤ 52) (p1 : Part b s n1 G1) (e1 : q1 ≡ A * G1 / 2 ^ 62) where
    pub first_below : q1 < 2 ^ 63
    first_below = under (2 ^ 62) A (product_of b s n1) (many n1) G1 (2 ^ 62) q1 (some n1) (lit< tt) (inside n1 (many n1) l1 (λ i. many n1)) p1.low (floor A G1 q1 e1).low

    module _ (n2 n3 G2 G3 q2 : ℕ) (far : 14 ≤ s + n1) (l3 : s + (n1 + n2 + n3) ≤ 52) (p2 : Part b (s + n1) n2 G2) (p3 : Part b (s + (n1 + n2)) n3 G3) (e2 : q2 ≡ G2 * G3 / 2 ^ 62) where
      a2 : 16384 * G2 ≤ 16385 * 2 ^ 62
      a2 = part_near b (s + n1) n2 G2 far p2

      a3 : 16384 * G3 ≤ 16385 * 2 ^ 62
      a3 = part_near b (s + (n1 + n2)) n3 G3 (omega arith) p3

      pub pair_below : q2 < 2 ^ 63
      pair_below = let h = pair_near (2 ^ 62) 16384 G2 G3 q2 (lit< tt) a2 a3 (floor G2 G3 q2 e2).low in omega arith

      two_are : product_of b s (n1 + n2) ≡ product_of b s n1 * product_of b (s + n1) n2
      two_are = product_split b s n1 n2

      three_are : product_of b s (n1 + n2 + n3) ≡ product_of b s n1 * product_of b (s + n1) n2 * product_of b (s + (n1 + n2)) n3
      three_are = product_split b s (n1 + n2) n3 ∙ ap (λ (x : ℕ). x * product_of b (s + (n1 + n2)) n3) two_are

      abbrev Z3 : ℕ
      Z3 = many n1 * many n2 * many n3

      three_many : many (n1 + n2 + n3) ≡ Z3
      three_many = pow-add (2 ^ 62) (n1 + n2) n3 ∙ ap (λ (x : ℕ). x * many n3) (pow-add (2 ^ 62) n1 n2)

      three_some : 0 < Z3
      three_some = mul-pos (mul-pos (some n1) (some n2)) (some n3)

      three_from : G1 * G2 * G3 * Z3 ≤ product_of b s (n1 + n2 + n3) * (2 ^ 62 * 2 ^ 62 * 2 ^ 62)
      three_from = subst (λ (x : ℕ). G1 * G2 * G3 * Z3 ≤ x * (2 ^ 62 * 2 ^ 62 * 2 ^ 62)) (sym three_are)
          (both (G1 * G2) (many n1 * many n2) (product_of b s n1 * product_of b (s + n1) n2) (2 ^ 62 * 2 ^ 62) G3 (many n3) (product_of b (s + (n1 + n2)) n3) (2 ^ 62)
          (both G1 (many n1) (product_of b s n1) (2 ^ 62) G2 (many n2) (product_of b (s + n1) n2) (2 ^ 62) p1.low p2.low) p3.low)

      module _ (q3 : ℕ) (e3 : q3 ≡ q1 * q2 / 2 ^ 62) where
        three_under : q3 * (2 ^ 62 * 2 ^ 62 * 2 ^ 62) ≤ A * (G1 * G2 * G3)
        three_under = three_low (2 ^ 62) A G1 G2 G3 q1 q2 q3 (floor A G1 q1 e1) (floor G2 G3 q2 e2) (floor q1 q2 q3 e3)

        pub three_below : q3 < 2 ^ 63
        three_below = under (2 ^ 62) A (product_of b s (n1 + n2 + n3)) Z3 (G1 * G2 * G3) (2 ^ 62 * 2 ^ 62 * 2 ^ 62) q3 three_some (lit< tt)
            (inside (n1 + n2 + n3) Z3 l3 three_many) three_from three_under

        -- the rest, S
        module _ (sum : s + (n1 + n2 + n3) ≡ 32) (S : ℕ) (ps : S ≡ rise_of b 32 20) (s-below : S ≤ 2 ^ 32) where
          abbrev N : ℕ
          N = n1 + n2 + n3

          abbrev X : ℕ
          X = product_of b 32 20

          abbrev U : ℕ
          U = many 20

          abbrev Z4 : ℕ
          Z4 = Z3 * U

          abbrev K : ℕ
          K = 2 ^ 62 * 2 ^ 62 * 2 ^ 62 * 2 ^ 62

          all_many : many (N + 20) ≡ Z4
          all_many = pow-add (2 ^ 62) N 20 ∙ ap (λ (x : ℕ). x * U) three_many

          all_some : 0 < Z4
          all_some = mul-pos three_some (some 20)

          all_are : product_of b s (N + 20) ≡ product_of b s N * X
          all_are = product_split b s N 20 ∙ ap (λ (x : ℕ). product_of b s N * product_of b x 20) sum

          lift_low : (2 ^ 62 + S) * U ≤ X * 2 ^ 62
          lift_low = subst (λ (x : ℕ). (2 ^ 62 + x) * U ≤ X * 2 ^ 62) (sym ps) (lift b).low

          lift_high : X * (4096 * 2 ^ 62) ≤ (4096 * (2 ^ 62 + S) + 1300) * U
          lift_high = le_trans (swapped X (2 ^ 62))
              (subst (λ (x : ℕ). 4096 * (X * 2 ^ 62) ≤ (4096 * (2 ^ 62 + x) + 1300) * U) (sym ps) (lift b).high)
            where
              swapped : (x m : ℕ) → x * (4096 * m) ≤ 4096 * (x * m)
              swapped x m = omega arith

          all_from : G1 * G2 * G3 * (2 ^ 62 + S) * Z4 ≤ product_of b s (N + 20) * K
          all_from = subst (λ (x : ℕ). G1 * G2 * G3 * (2 ^ 62 + S) * Z4 ≤ x * K) (sym all_are)
              (both (G1 * G2 * G3) Z3 (product_of b s N) (2 ^ 62 * 2 ^ 62 * 2 ^ 62) (2 ^ 62 + S) U X (2 ^ 62) three_from lift_low)

          abbrev H : ℕ
          H = (G1 + 1) * (G2 + 1) * (G3 + 1) * (4096 * (2 ^ 62 + S) + 1300)

          abbrev L : ℕ
          L = 2 ^ 62 * 2 ^ 62 * 2 ^ 62 * (4096 * 2 ^ 62)

          all_to : product_of b s (N + 20) * L ≤ H * Z4
          all_to = subst (λ (x : ℕ). x * L ≤ H * Z4) (sym (all_are ∙ ap (λ (x : ℕ). x * X) three_are))
              (both (product_of b s n1 * product_of b (s + n1) n2 * product_of b (s + (n1 + n2)) n3) (2 ^ 62 * 2 ^ 62 * 2 ^ 62)
              ((G1 + 1) * (G2 + 1) * (G3 + 1)) Z3 X (4096 * 2 ^ 62) (4096 * (2 ^ 62 + S) + 1300) U
              (both (product_of b s n1 * product_of b (s + n1) n2) (2 ^ 62 * 2 ^ 62) ((G1 + 1) * (G2 + 1)) (many n1 * many n2)
              (product_of b (s + (n1 + n2)) n3) (2 ^ 62) (G3 + 1) (many n3)
              (both (product_of b s n1) (2 ^ 62) (G1 + 1) (many n1) (product_of b (s + n1) n2) (2 ^ 62) (G2 + 1) (many n2)
              (le_of_lt p1.high) (le_of_lt p2.high)) (le_of_lt p3.high)) lift_high)

          steps : s + (N + 20) ≡ 52
          steps = omega arith

          -- P after all steps
          ends : Spread (2 ^ 62) A (product_of b s (N + 20)) (p_of b 52) (ones_of b s (N + 20)) Z4 (t_of 52)
          ends =
              subst (λ (z : ℕ). Spread (2 ^ 62) A (product_of b s (N + 20)) (p_of b 52) (ones_of b s (N + 20)) z (t_of 52)) all_many
              (subst (λ (k : ℕ). Spread (2 ^ 62) A (product_of b s (N + 20)) (p_of b k) (ones_of b s (N + 20)) (many (N + 20)) (t_of k)) steps
              (spread_from (N + 20) (omega arith)))

          pub is_near : (q : ℕ) → q ≡ q3 * (2 ^ 62 + S) / 2 ^ 62 → Near b q
          is_near q e =
              let f = floor q3 (2 ^ 62 + S) q e in
              let Gs = G1 * G2 * G3 * (2 ^ 62 + S) in
              let all_under = more_low (2 ^ 62) A (G1 * G2 * G3) (2 ^ 62 * 2 ^ 62 * 2 ^ 62) (2 ^ 62 + S) q3 q f three_under in
              let u1 = at_least A G1 q1 e1 pa.above p1.above in
              let u2 = at_least G2 G3 q2 e2 p2.above p3.above in
              let u3 = at_least q1 q2 q3 e3 u1 u2 in
              let top : q ≤ p_of b 52 + ones_of b s (N + 20) =
              highest q (p_of b 52) (ones_of b s (N + 20)) K (lit< tt) (omega (arith, few_ones b s (N + 20), steps))
              (le_trans (mul-le-mul_left 256 all_under)
              (top_end A (product_of b s (N + 20)) Z4 Gs K (256 * p_of b 52 + 257 * ones_of b s (N + 20)) all_some all_from ends.high)) in
              record {
                above = at_least q3 (2 ^ 62 + S) q e u3 (more S);
                below = under (2 ^ 62) A (product_of b s (N + 20)) Z4 Gs K q all_some (lit< tt) (inside (N + 20) Z4 (omega arith) all_many)
                    all_from all_under;
                low =
                    least (2 ^ 62) A G1 G2 G3 (2 ^ 62 + S) q1 q2 q3 q (p_of b 52) (lit≤ tt) (floor A G1 q1 e1) (floor G2 G3 q2 e2)
                    (floor q1 q2 q3 e3) f (power_below b s A (omega arith) pa) a2 a3 first_below three_below (room S s-below)
                    (low_end (p_of b 52) A (product_of b s (N + 20)) Z4 H L all_some ends.low all_to);
                high = omega (arith, top, ones_most b s (N + 20) steps);
              }
            where
              more : (S : ℕ) → 2 ^ 62 ≤ 2 ^ 62 + S
              more S = omega arith

              room : (S : ℕ) → S ≤ 2 ^ 32 → 2 ^ 62 + S ≤ 2 ^ 62 + 2 ^ 32
              room S h = omega arith
