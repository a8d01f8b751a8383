-- The roots of two against powers of two, and the products of them by the bits of a number. Assumes nothing.
use mathlib.Core.Path.{◌≡◌, refl, sym, ap, ◌∙◌, subst, subst₃}
use mathlib.Core.Bool.{Bool, true, false, ◌&&◌}
use mathlib.Core.List.{List}
use Prim.Native.Nat.{ℕ, zero, suc, ◌+◌, ◌-◌, ◌*◌, ◌/◌, ◌%◌, ◌^◌, ◌≤◌, ◌<◌}
use native.Mathlib.Nat.{zero-add, add-zero, add-suc, add_assoc, mul-one, mul_assoc, mul-pos, pow-suc, pow-zero, mod-lt}
use native.Mathlib.Omega.{arith}
use lib.Dec.{T, eqb, leb, leb→le, lit≤, lit<}
use lib.ListN.{length, get_or}
use lib.Ieee.Fits.{and_l, and_r}
use Rattle.base.specs.Said.{pick}
use Rattle.powers.proofs.Every.{every, at_each}
use Rattle.power_parts.proofs.Bits.{cut, bit_of, upto, upto_at}
use Rattle.log_roots.specs.Table.{roots}
use Rattle.log_roots.specs.Roots.{bit, low_of, high_of, Rooted}
use Rattle.log_roots.proofs.Ratio.{Le, two_pow}
use Rattle.log_roots.proofs.Halving.{Pair, root_most, root_least, digit, low_step, high_step}

-- entry k + 1 against entry k
right : ℕ → Bool
right k =
    leb (get_or roots (suc k) 0 * get_or roots (suc k) 0) (2 ^ 100 * get_or roots k 0)
    && leb (2 ^ 100 * (get_or roots k 0 + 2)) ((get_or roots (suc k) 0 + 2) * (get_or roots (suc k) 0 + 2))

pair : (k : ℕ) → k < 52 → Pair (2 ^ 100) (get_or roots k 0) (get_or roots (suc k) 0)
unfolding right upto roots
pair k h =
    let t = upto_at right 52 k tt h in
    let c1 = leb (get_or roots (suc k) 0 * get_or roots (suc k) 0) (2 ^ 100 * get_or roots k 0) in
    let c2 = leb (2 ^ 100 * (get_or roots k 0 + 2)) ((get_or roots (suc k) 0 + 2) * (get_or roots (suc k) 0 + 2)) in
    record { low = leb→le _ _ (and_l c1 c2 t); high = leb→le _ _ (and_r c1 c2 t) }

pub most : (k : ℕ) → k ≤ 52 → Le (2 ^ k) 0 (get_or roots k 0) 1 (2 ^ 100)
unfolding roots
most = root_most (2 ^ 100) 52 (λ k. get_or roots k 0) (lit< tt) refl pair

pub least : (k : ℕ) → k ≤ 52 → Le (2 ^ k) 1 (2 ^ 100) 0 (get_or roots k 0 + 2)
unfolding roots
least = root_least (2 ^ 100) 52 (λ k. get_or roots k 0) (lit< tt) refl pair

-- ---- part after part
pub low_split : (b s n m : ℕ) → low_of b s (n + m) ≡ low_of b s n * low_of b (s + n) m
unfolding low_of
low_split b s n zero = rw (add-zero n) (sym (mul-one (low_of b s n)))
low_split b s n (suc m) =
    rw (add-suc n m) ((λ i. low_split b s n m i * pick (bit b (suc (sym (add_assoc s n m) i))) (get_or roots (suc (sym (add_assoc s n m) i)) 0) (2 ^ 100))
    ∙ mul_assoc (low_of b s n) (low_of b (s + n) m) (pick (bit b (suc (s + n + m))) (get_or roots (suc (s + n + m)) 0) (2 ^ 100)))

pub high_split : (b s n m : ℕ) → high_of b s (n + m) ≡ high_of b s n * high_of b (s + n) m
unfolding high_of
high_split b s n zero = rw (add-zero n) (sym (mul-one (high_of b s n)))
high_split b s n (suc m) =
    rw (add-suc n m) ((λ i. high_split b s n m i * pick (bit b (suc (sym (add_assoc s n m) i))) (get_or roots (suc (sym (add_assoc s n m) i)) 0 + 2) (2 ^ 100))
    ∙ mul_assoc (high_of b s n) (high_of b (s + n) m) (pick (bit b (suc (s + n + m))) (get_or roots (suc (s + n + m)) 0 + 2) (2 ^ 100)))

-- the bits that they look at
module _ (b s n w : ℕ) (e : s + n + w ≡ 30) where
  bit_cut : (k : ℕ) → s ≤ k → k < s + n → bit b (suc k) ≡ bit (cut b w n) (suc k)
  bit_cut k low high =
      let j = s + n - suc k in
      let p : 30 - suc k ≡ w + j = omega arith in
      let q : b / 2 ^ (30 - suc k) % 2 ≡ cut b w n / 2 ^ (30 - suc k) % 2 = rw p (bit_of b w n j (omega arith)) in
      ap (λ (x : ℕ). eqb x 1) q

  pub low_cut : (m : ℕ) → m ≤ n → low_of b s m ≡ low_of (cut b w n) s m
  unfolding low_of
  low_cut zero h = refl
  low_cut (suc m) h = λ i. low_cut m (omega arith) i * pick (bit_cut (s + m) (omega arith) (omega arith) i) (get_or roots (suc (s + m)) 0) (2 ^ 100)

  pub high_cut : (m : ℕ) → m ≤ n → high_of b s m ≡ high_of (cut b w n) s m
  unfolding high_of
  high_cut zero h = refl
  high_cut (suc m) h = λ i. high_cut m (omega arith) i * pick (bit_cut (s + m) (omega arith) (omega arith) i) (get_or roots (suc (s + m)) 0 + 2) (2 ^ 100)

low_next : (b k : ℕ) → low_of b 0 (suc k) ≡ low_of b 0 k * pick (bit b (suc k)) (get_or roots (suc k) 0) (2 ^ 100)
unfolding low_of
low_next b k = λ i. low_of b 0 k * pick (bit b (suc (zero-add k i))) (get_or roots (suc (zero-add k i)) 0) (2 ^ 100)

high_next : (b k : ℕ) → high_of b 0 (suc k) ≡ high_of b 0 k * pick (bit b (suc k)) (get_or roots (suc k) 0 + 2) (2 ^ 100)
unfolding high_of
high_next b k = λ i. high_of b 0 k * pick (bit b (suc (zero-add k i))) (get_or roots (suc (zero-add k i)) 0 + 2) (2 ^ 100)

-- ---- the first k bits against the power of two
abbrev top : ℕ → ℕ → ℕ
top b k = b / 2 ^ (30 - k)

bit_small : (b k : ℕ) → b / 2 ^ (30 - k) % 2 < 2
bit_small b k = mod-lt (b / 2 ^ (30 - k)) {m = 2} (lit< tt)

pub low_power : (b : ℕ) → b < 2 ^ 30 → (k : ℕ) → k ≤ 30 → Le (2 ^ k) 0 (low_of b 0 k) (top b k) ((2 ^ 100) ^ k)
unfolding low_of
low_power b small zero h = let z : b / 2 ^ 30 ≡ 0 = omega arith in rw (z, pow-zero (2 ^ 100)) (record { le = lit≤ tt })
low_power b small (suc k) h =
    let r : Le (2 ^ k + 2 ^ k) 0 (get_or roots (suc k) 0) 1 (2 ^ 100) = rw (two_pow k) at (most (suc k) (omega arith)) in
    subst (λ (X : ℕ). Le (2 ^ suc k) 0 X (top b (suc k)) ((2 ^ 100) ^ suc k)) (sym (low_next b k))
    (subst₃ (λ (n j Z : ℕ). Le n 0 (low_of b 0 k * pick (bit b (suc k)) (get_or roots (suc k) 0) (2 ^ 100)) j Z)
    (sym (two_pow k)) (sym (digit 30 b k h)) (sym (pow-suc (2 ^ 100) k))
    (low_step (b / 2 ^ (30 - suc k) % 2) (bit_small b (suc k)) r (low_power b small k (omega arith))))

pub high_power : (b : ℕ) → b < 2 ^ 30 → (k : ℕ) → k ≤ 30 → Le (2 ^ k) (top b k) ((2 ^ 100) ^ k) 0 (high_of b 0 k)
unfolding high_of
high_power b small zero h = let z : b / 2 ^ 30 ≡ 0 = omega arith in rw (z, pow-zero (2 ^ 100)) (record { le = lit≤ tt })
high_power b small (suc k) h =
    let r : Le (2 ^ k + 2 ^ k) 1 (2 ^ 100) 0 (get_or roots (suc k) 0 + 2) = rw (two_pow k) at (least (suc k) (omega arith)) in
    subst (λ (X : ℕ). Le (2 ^ suc k) (top b (suc k)) ((2 ^ 100) ^ suc k) 0 X) (sym (high_next b k))
    (subst₃ (λ (n j Z : ℕ). Le n j Z 0 (high_of b 0 k * pick (bit b (suc k)) (get_or roots (suc k) 0 + 2) (2 ^ 100)))
    (sym (two_pow k)) (sym (digit 30 b k h)) (sym (pow-suc (2 ^ 100) k))
    (high_step (b / 2 ^ (30 - suc k) % 2) (bit_small b (suc k)) r (high_power b small k (omega arith))))

pub high_pos : (b s n : ℕ) → 0 < high_of b s n
unfolding high_of
high_pos b s zero = lit< tt
high_pos b s (suc n) = mul-pos (high_pos b s n) (go (bit b (suc (s + n))))
  where
    go : (c : Bool) → 0 < pick c (get_or roots (suc (s + n)) 0 + 2) (2 ^ 100)
    go true = omega arith
    go false = lit< tt

-- ---- one test over a table; its entry i is about the bits i * 2 ^ w
unfoldable pub root_right : ℕ → ℕ → ℕ → ℕ → ℕ → ℕ → Bool
root_right s n w cap i x =
    leb (x * (2 ^ 100) ^ n) (low_of (i * 2 ^ w) s n * 2 ^ 62)
    && (leb (high_of (i * 2 ^ w) s n * 2 ^ 62) ((x + 1) * (2 ^ 100) ^ n) && (leb (2 ^ 62) x && leb x cap))

root_test : (s n w cap i x : ℕ) → T (root_right s n w cap i x) → Rooted (i * 2 ^ w) s n cap x
unfolding root_right
root_test s n w cap i x t =
    let c1 = leb (x * (2 ^ 100) ^ n) (low_of (i * 2 ^ w) s n * 2 ^ 62) in
    let c2 = leb (high_of (i * 2 ^ w) s n * 2 ^ 62) ((x + 1) * (2 ^ 100) ^ n) in
    let c3 = leb (2 ^ 62) x in
    let c4 = leb x cap in
    let u = and_r c1 (c2 && (c3 && c4)) t in
    let v = and_r c2 (c3 && c4) u in
    record {
      low = leb→le _ _ (and_l c1 (c2 && (c3 && c4)) t);
      high = leb→le _ _ (and_l c2 (c3 && c4) u);
      above = leb→le _ _ (and_l c3 c4 v);
      below = leb→le _ _ (and_r c3 c4 v);
    }

root_of : (b s n w cap r : ℕ) → s + n + w ≡ 30 → Rooted (cut b w n) s n cap r → Rooted b s n cap r
root_of b s n w cap r e p = record {
  low = subst (λ (x : ℕ). r * (2 ^ 100) ^ n ≤ x * 2 ^ 62) (sym (low_cut b s n w e n (omega arith))) p.low;
  high = subst (λ (x : ℕ). x * 2 ^ 62 ≤ (r + 1) * (2 ^ 100) ^ n) (sym (high_cut b s n w e n (omega arith))) p.high;
  above = p.above;
  below = p.below;
}

pub root_at : (s n cap w : ℕ) → s + n + w ≡ 30 → (xs : List ℕ) → T (every (root_right s n w cap) 0 xs) → (b k : ℕ) → b / 2 ^ w % 2 ^ n ≡ k → k < length xs → Rooted b s n cap (get_or xs k 0)
root_at s n cap w e xs t b k q h =
    root_of b s n w cap _ e (subst (λ (z : ℕ). Rooted (z * 2 ^ w) s n cap (get_or xs k 0)) (sym q) (root_test s n w cap k (get_or xs k 0) (at_each (root_right s n w cap) xs t k h)))
