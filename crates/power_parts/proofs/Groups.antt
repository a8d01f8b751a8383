-- The n steps after step s look at n bits of b: what a table says of those bits holds of b. And a table's rule at each entry, by one
-- computed test. Assumes nothing.
use mathlib.Core.Path.{◌≡◌, refl, sym, ap, ◌∙◌, subst}
use mathlib.Core.Bool.{Bool, ◌&&◌}
use mathlib.Core.List.{List}
use Prim.Native.Nat.{ℕ, zero, suc, ◌+◌, ◌-◌, ◌*◌, ◌/◌, ◌%◌, ◌^◌, ◌≤◌, ◌<◌}
use native.Mathlib.Nat.{add-suc, add-zero, add_assoc, mul_assoc, mul-one}
use native.Mathlib.Omega.{arith}
use lib.Dec.{T, eqb, leb, ltb, leb→le, ltb→lt, eqb→eq}
use lib.ListN.{get_or, length}
use lib.Ieee.Fits.{and_l, and_r}
use Rattle.base.specs.Said.{pick}
use Rattle.powers.specs.Exp.{t_of, p_of}
use Rattle.powers.specs.Inner.{factor_of, Power}
use Rattle.powers.proofs.Every.{every, at_each}
use Rattle.powers.proofs.Factors.{entries}
use Rattle.powers.proofs.Entries.{t_entry}
use Rattle.powers.proofs.Bound.{powers, p_step}
use Rattle.power_parts.specs.Parts.{product_of, rise_of, Part, Rise}
use Rattle.power_parts.proofs.Bits.{cut, bit_of}

module _ (b s n w : ℕ) (e : s + n + w ≡ 52) where
  factor_cut : (k : ℕ) → s ≤ k → k < s + n → factor_of b (suc k) ≡ factor_of (cut b w n) (suc k)
  factor_cut k low high =
      let j = s + n - suc k in
      let p : 52 - suc k ≡ w + j = omega arith in
      let q : b / 2 ^ (52 - suc k) % 2 ≡ cut b w n / 2 ^ (52 - suc k) % 2 = rw p (bit_of b w n j (omega arith)) in
      ap (λ (x : ℕ). pick (eqb x 1) (t_of (suc k)) (2 ^ 62)) q

  product_cut : (m : ℕ) → m ≤ n → product_of b s m ≡ product_of (cut b w n) s m
  unfolding product_of
  product_cut zero h = refl
  product_cut (suc m) h = λ i. product_cut m (omega arith) i * factor_cut (s + m) (omega arith) (omega arith) i

  rise_cut : (m : ℕ) → m ≤ n → rise_of b s m ≡ rise_of (cut b w n) s m
  unfolding rise_of
  rise_cut zero h = refl
  rise_cut (suc m) h = λ i. rise_cut m (omega arith) i + (factor_cut (s + m) (omega arith) (omega arith) i - 2 ^ 62)

  part_of : (r : ℕ) → Part (cut b w n) s n r → Part b s n r
  part_of r p =
      let q = product_cut n (omega arith) in
      record {
        low = subst (λ (x : ℕ). r * (2 ^ 62) ^ n ≤ x * 2 ^ 62) (sym q) p.low;
        high = subst (λ (x : ℕ). x * 2 ^ 62 < (r + 1) * (2 ^ 62) ^ n) (sym q) p.high;
        above = p.above;
        below = p.below;
      }

  rise_of_law : (r : ℕ) → Rise (cut b w n) s n r → Rise b s n r
  rise_of_law r p = record { is = p.is ∙ sym (rise_cut n (omega arith)); below = p.below }

-- the first steps
module _ (b n w : ℕ) (e : n + w ≡ 52) where
  state_cut : (m : ℕ) → m ≤ n → p_of b m ≡ p_of (cut b w n) m
  unfolding p_of
  state_cut zero h = refl
  state_cut (suc m) h =
      let f : factor_of b (suc m) ≡ factor_of (cut b w n) (suc m) = factor_cut b 0 n w (omega arith) m (omega arith) (omega arith) in
      p_step b m ∙ (λ i. state_cut m (omega arith) i * f i / 2 ^ 62) ∙ sym (p_step (cut b w n) m)

  power_of : (r : ℕ) → r ≡ p_of (cut b w n) n → Power b n r
  power_of r q =
      let a : p_of b n ≡ r = state_cut n (omega arith) ∙ sym q in
      subst (λ (x : ℕ). Power b n x) a (powers b n (omega arith))

-- ---- products and sums, part after part
pub product_split : (b s n m : ℕ) → product_of b s (n + m) ≡ product_of b s n * product_of b (s + n) m
unfolding product_of
product_split b s n zero = rw (add-zero n) (sym (mul-one (product_of b s n)))
product_split b s n (suc m) =
    rw (add-suc n m) ((λ i. product_split b s n m i * factor_of b (suc (sym (add_assoc s n m) i))) ∙ mul_assoc (product_of b s n) (product_of b (s + n) m) (factor_of b (suc (s + n + m))))

pub rise_split : (b s n m : ℕ) → rise_of b s (n + m) ≡ rise_of b s n + rise_of b (s + n) m
unfolding rise_of
rise_split b s n zero = rw (add-zero n) (sym (add-zero (rise_of b s n)))
rise_split b s n (suc m) =
    rw (add-suc n m) ((λ i. rise_split b s n m i + (factor_of b (suc (sym (add_assoc s n m) i)) - 2 ^ 62)) ∙ add_assoc (rise_of b s n) (rise_of b (s + n) m) (factor_of b (suc (s + n + m)) - 2 ^ 62))

-- ---- the same from the list of T_k, to be computed
abbrev factor_in : ℕ → ℕ → ℕ
factor_in b k = pick (eqb (b / 2 ^ (52 - k) % 2) 1) (get_or entries k 0) (2 ^ 62)

unfoldable pub product_in : ℕ → ℕ → ℕ → ℕ
product_in b s zero = 1
product_in b s (suc n) = product_in b s n * factor_in b (suc (s + n))

unfoldable pub rise_in : ℕ → ℕ → ℕ → ℕ
rise_in b s zero = 0
rise_in b s (suc n) = rise_in b s n + (factor_in b (suc (s + n)) - 2 ^ 62)

unfoldable pub state_in : ℕ → ℕ → ℕ
state_in b zero = 2 ^ 62
state_in b (suc k) = state_in b k * factor_in b (suc k) / 2 ^ 62

factor_in_law : (b k : ℕ) → k < 52 → factor_in b (suc k) ≡ factor_of b (suc k)
factor_in_law b k h = ap (λ (x : ℕ). pick (eqb (b / 2 ^ (52 - suc k) % 2) 1) x (2 ^ 62)) (t_entry k h)

product_in_law : (b s n : ℕ) → s + n ≤ 52 → product_in b s n ≡ product_of b s n
unfolding product_of product_in
product_in_law b s zero h = refl
product_in_law b s (suc n) h = λ i. product_in_law b s n (omega arith) i * factor_in_law b (s + n) (omega arith) i

rise_in_law : (b s n : ℕ) → s + n ≤ 52 → rise_in b s n ≡ rise_of b s n
unfolding rise_of rise_in
rise_in_law b s zero h = refl
rise_in_law b s (suc n) h = λ i. rise_in_law b s n (omega arith) i + (factor_in_law b (s + n) (omega arith) i - 2 ^ 62)

state_in_law : (b k : ℕ) → k ≤ 52 → state_in b k ≡ p_of b k
unfolding p_of state_in
state_in_law b zero h = refl
state_in_law b (suc k) h = (λ i. state_in_law b k (omega arith) i * factor_in_law b k h i / 2 ^ 62) ∙ sym (p_step b k)

-- ---- one test over a table; its entry i is about the bits i * 2 ^ w
unfoldable pub state_right : ℕ → ℕ → ℕ → ℕ → Bool
state_right n w i x = eqb x (state_in (i * 2 ^ w) n)

unfoldable pub part_right : ℕ → ℕ → ℕ → ℕ → ℕ → Bool
part_right s n w i x =
    leb (x * (2 ^ 62) ^ n) (product_in (i * 2 ^ w) s n * 2 ^ 62)
    && (ltb (product_in (i * 2 ^ w) s n * 2 ^ 62) ((x + 1) * (2 ^ 62) ^ n)
    && (leb (2 ^ 62) x && leb (x * 2 ^ s) (2 ^ 62 * 2 ^ s + 2 ^ 62)))

unfoldable pub rise_right : ℕ → ℕ → ℕ → ℕ → ℕ → Bool
rise_right s n w i x = eqb x (rise_in (i * 2 ^ w) s n) && leb x (2 ^ 30)

pub state_at : (n w : ℕ) → n + w ≡ 52 → (xs : List ℕ) → T (every (state_right n w) 0 xs) → (b k : ℕ) → b / 2 ^ w % 2 ^ n ≡ k → k < length xs → Power b n (get_or xs k 0)
unfolding state_right
state_at n w e xs t b k q h =
    power_of b n w e (get_or xs k 0) (eqb→eq _ _ (at_each (state_right n w) xs t k h) ∙ state_in_law (k * 2 ^ w) n (omega arith) ∙ ap (λ (x : ℕ). p_of (x * 2 ^ w) n) (sym q))

part_test : (s n w i x : ℕ) → s + n ≤ 52 → T (part_right s n w i x) → Part (i * 2 ^ w) s n x
unfolding part_right
part_test s n w i x l t =
    let q = product_in_law (i * 2 ^ w) s n l in
    let c1 = leb (x * (2 ^ 62) ^ n) (product_in (i * 2 ^ w) s n * 2 ^ 62) in
    let c2 = ltb (product_in (i * 2 ^ w) s n * 2 ^ 62) ((x + 1) * (2 ^ 62) ^ n) in
    let c3 = leb (2 ^ 62) x in
    let c4 = leb (x * 2 ^ s) (2 ^ 62 * 2 ^ s + 2 ^ 62) in
    let u = and_r c1 (c2 && (c3 && c4)) t in
    let v = and_r c2 (c3 && c4) u in
    record {
      low = subst (λ (z : ℕ). x * (2 ^ 62) ^ n ≤ z * 2 ^ 62) q (leb→le _ _ (and_l c1 (c2 && (c3 && c4)) t));
      high = subst (λ (z : ℕ). z * 2 ^ 62 < (x + 1) * (2 ^ 62) ^ n) q (ltb→lt _ _ (and_l c2 (c3 && c4) u));
      above = leb→le _ _ (and_l c3 c4 v);
      below = leb→le _ _ (and_r c3 c4 v);
    }

pub part_at : (s n w : ℕ) → s + n + w ≡ 52 → (xs : List ℕ) → T (every (part_right s n w) 0 xs) → (b k : ℕ) → b / 2 ^ w % 2 ^ n ≡ k → k < length xs → Part b s n (get_or xs k 0)
part_at s n w e xs t b k q h =
    part_of b s n w e _ (subst (λ (z : ℕ). Part (z * 2 ^ w) s n (get_or xs k 0)) (sym q) (part_test s n w k (get_or xs k 0) (omega arith) (at_each (part_right s n w) xs t k h)))

rise_test : (s n w i x : ℕ) → s + n ≤ 52 → T (rise_right s n w i x) → Rise (i * 2 ^ w) s n x
unfolding rise_right
rise_test s n w i x l t =
    let c1 = eqb x (rise_in (i * 2 ^ w) s n) in
    record { is = eqb→eq _ _ (and_l c1 (leb x (2 ^ 30)) t) ∙ rise_in_law (i * 2 ^ w) s n l; below = leb→le _ _ (and_r c1 (leb x (2 ^ 30)) t) }

pub rise_at : (s n w : ℕ) → s + n + w ≡ 52 → (xs : List ℕ) → T (every (rise_right s n w) 0 xs) → (b k : ℕ) → b / 2 ^ w % 2 ^ n ≡ k → k < length xs → Rise b s n (get_or xs k 0)
rise_at s n w e xs t b k q h =
    rise_of_law b s n w e _ (subst (λ (z : ℕ). Rise (z * 2 ^ w) s n (get_or xs k 0)) (sym q) (rise_test s n w k (get_or xs k 0) (omega arith) (at_each (rise_right s n w) xs t k h)))
