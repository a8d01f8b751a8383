-- How many of E's steps multiply: the set bits of b that they look at. Assumes nothing.
use Rattle.std.proofs.Common.{◌≡◌, ℕ, zero, suc, ◌+◌, ◌-◌, ◌/◌, ◌%◌, ◌^◌, ◌≤◌, sym, ap, ◌∙◌, add-zero, add-suc, mod-lt, pow-suc, div-one, arith, lit<}
use native.Mathlib.Nat.{div-div-eq-div-mul}
use lib.Count.{ones, ones_step}

-- how many of the n steps after step s multiply
unfoldable pub ones_of : ℕ → ℕ → ℕ → ℕ
ones_of b s zero = 0
ones_of b s (suc n) = ones_of b s n + b / 2 ^ (52 - suc (s + n)) % 2

pub few_ones : (b s n : ℕ) → ones_of b s n ≤ n
unfolding ones_of
few_ones b s zero = omega arith
few_ones b s (suc n) = let h = few_ones b s n in let m = mod-lt (b / 2 ^ (52 - suc (s + n))) {m = 2} (lit< tt) in omega arith

ones_split : (b s n : ℕ) → s + n ≤ 52 → ones (b / 2 ^ (52 - (s + n))) ≡ ones_of b s n + ones (b / 2 ^ (52 - s))
unfolding ones_of
ones_split b s zero h = rw (add-zero s) (omega arith)
ones_split b s (suc n) h =
    let k = s + n in
    let e : 52 - k ≡ suc (52 - suc k) = omega arith in
    let f : b / 2 ^ (52 - suc k) / 2 ≡ b / 2 ^ (52 - k) = div-div-eq-div-mul b (2 ^ (52 - suc k)) 2 ∙ ap (λ (x : ℕ). b / x) (sym (pow-suc 2 (52 - suc k))) ∙ ap (λ (x : ℕ). b / 2 ^ x) (sym e) in
    rw (add-suc s n) (ones_step (b / 2 ^ (52 - suc k)) ∙ ap (λ (x : ℕ). b / 2 ^ (52 - suc k) % 2 + x) (ap ones f ∙ ones_split b s n (omega arith)) ∙ swapped _ _ _)
  where
    swapped : (x y z : ℕ) → x + (y + z) ≡ y + x + z
    swapped x y z = omega arith

-- b has no fewer set bits
pub ones_most : (b s n : ℕ) → s + n ≡ 52 → ones_of b s n ≤ ones b
ones_most b s n e =
    let z : 52 - (s + n) ≡ 0 = omega arith in
    let f : ones b ≡ ones (b / 2 ^ (52 - (s + n))) = ap ones (sym (ap (λ (x : ℕ). b / 2 ^ x) z ∙ div-one b)) in
    omega (arith, f, ones_split b s n (omega arith))
