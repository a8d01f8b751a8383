-- The whole part of Q + v / P and of Q - v / P, and of v / P for a v that is d * 2 ^ k and a P that is 2 ^ 1022. Assumes nothing.
use Rattle.std.proofs.Common.{◌≡◌, ℕ, suc, ◌+◌, ◌-◌, ◌*◌, ◌/◌, ◌%◌, ◌^◌, ◌<◌, ◌≤◌, Bool, true, false, sym, ap, ◌∙◌, le_trans, lt_of_lt_of_le, le_of_suc-le-suc, add-zero, mod-lt, mul_assoc, suc-mul, mul_comm, div-lt_iff_lt-mul, add-mul, pos_of_ne-zero, mul-pos, one-mul, div-add-mod', zero-mul, arith, lit<, lit≤, pow_pos, pow_mono, pow-add, shl_lt, shl_exact}
use native.Mathlib.Nat.{mul-div-mul_right, div-eq_of_lt, div-div-eq-div-mul, div-le_of_le-mul}
use lib.Arith.{digits_div}
use Rattle.base.specs.Said.{pick}

-- v / P, rounded up
abbrev ceil : ℕ → ℕ → ℕ
ceil v P = (v + (P - 1)) / P

module _ (Q P v : ℕ) (pos : 0 < P) where
  pub plus : (Q * P + v) / P ≡ Q + v / P
  plus =
      let q = v / P in
      let e : q * P + v % P ≡ v = div-add-mod' v P in
      let m : (Q + q) * P ≡ Q * P + q * P = add-mul Q q P in
      let d : Q * P + v ≡ (Q + q) * P + v % P = omega arith in
      ap (λ (x : ℕ). x / P) d ∙ digits_div (Q + q) (mod-lt v pos)

  ceil_le : v ≤ Q * P → ceil v P ≤ Q
  ceil_le h =
      let m : suc Q * P ≡ Q * P + P = suc-mul Q P in
      let l : v + (P - 1) < suc Q * P = omega arith in
      le_of_suc-le-suc ((div-lt_iff_lt-mul pos).1 l)

  minus : v ≤ Q * P → (Q * P - v) / P ≡ Q - ceil v P
  minus h =
      let q = ceil v P in
      let r = (v + (P - 1)) % P in
      let e : q * P + r ≡ v + (P - 1) = div-add-mod' (v + (P - 1)) P in
      let l : r < P = mod-lt (v + (P - 1)) pos in
      let k : q ≤ Q = ceil_le h in
      let s : Q - q + q ≡ Q = omega arith in
      let m : (Q - q) * P + q * P ≡ Q * P = sym (add-mul (Q - q) q P) ∙ ap (λ (x : ℕ). x * P) s in
      let b : q * P - v < P = omega arith in
      let d : Q * P - v ≡ (Q - q) * P + (q * P - v) = omega arith in
      ap (λ (x : ℕ). x / P) d ∙ digits_div (Q - q) b

  ceil_zero : v ≡ 0 → ceil v P ≡ 0
  ceil_zero e = div-eq_of_lt (omega arith)

  ceil_one : 0 < v → v < P → ceil v P ≡ 1
  ceil_one a b =
      let o : 1 * P ≡ P = one-mul P in
      let d : v + (P - 1) ≡ 1 * P + (v - 1) = omega arith in
      let l : v - 1 < P = omega arith in
      ap (λ (x : ℕ). x / P) d ∙ digits_div 1 l

-- a common factor M
ceil_common : (d S M : ℕ) → 0 < S → 0 < M → ceil (d * M) (S * M) ≡ ceil d S
ceil_common d S M hs hm =
    let a : (d + (S - 1)) * M ≡ d * M + (S - 1) * M = add-mul d (S - 1) M in
    let e : S - 1 + 1 ≡ S = omega arith in
    let b : (S - 1) * M + 1 * M ≡ S * M = sym (add-mul (S - 1) 1 M) ∙ ap (λ (x : ℕ). x * M) e in
    let o : 1 * M ≡ M = one-mul M in
    let c : d * M + (S * M - 1) ≡ (d + (S - 1)) * M + (M - 1) = omega arith in
    let l : M - 1 < M = omega arith in
    ap (λ (x : ℕ). x / (S * M)) c
    ∙ ap (λ (x : ℕ). ((d + (S - 1)) * M + (M - 1)) / x) (mul_comm S M)
    ∙ sym (div-div-eq-div-mul ((d + (S - 1)) * M + (M - 1)) M S)
    ∙ ap (λ (x : ℕ). x / S) (digits_div (d + (S - 1)) l)

-- ---- d * 2 ^ k over 2 ^ 1022
module _ (d k : ℕ) where
  from_down : k ≤ 1022 → 2 ^ 1022 ≡ 2 ^ (1022 - k) * 2 ^ k
  from_down h = let e : 1022 ≡ 1022 - k + k = omega arith in ap (λ (x : ℕ). 2 ^ x) e ∙ pow-add 2 (1022 - k) k

  tiny : d < 2 ^ 53 → k ≤ 968 → d * 2 ^ k < 2 ^ 1022
  tiny h l = let e : 53 + k ≤ 1022 = omega arith in lt_of_lt_of_le (shl_lt 53 k h) (pow_mono e)

  floor_down : k ≤ 1022 → d * 2 ^ k / 2 ^ 1022 ≡ d / 2 ^ (1022 - k)
  floor_down h = ap (λ (x : ℕ). d * 2 ^ k / x) (from_down h) ∙ mul-div-mul_right d (2 ^ (1022 - k)) (pow_pos k)

  ceil_down : k ≤ 1022 → ceil (d * 2 ^ k) (2 ^ 1022) ≡ ceil d (2 ^ (1022 - k))
  ceil_down h = ap (λ (x : ℕ). ceil (d * 2 ^ k) x) (from_down h) ∙ ceil_common d (2 ^ (1022 - k)) (2 ^ k) (pow_pos (1022 - k)) (pow_pos k)

-- ---- 2 ^ 62 and d * 2 ^ (k - 1022), their sum or difference, rounded down
-- the result by the rounded quotient
below_zero : (n : Bool) (v : ℕ) → n ≡ true → v ≤ 2 ^ 1084 → pick n (2 ^ 1084 - v) (2 ^ 1084 + v) / 2 ^ 1022 ≡ 2 ^ 62 - ceil v (2 ^ 1022)
below_zero n v e h = ap (λ (b : Bool). pick b (2 ^ 1084 - v) (2 ^ 1084 + v) / 2 ^ 1022) e ∙ minus (2 ^ 62) (2 ^ 1022) v (pow_pos 1022) h

above_zero : (n : Bool) (v : ℕ) → n ≡ false → pick n (2 ^ 1084 - v) (2 ^ 1084 + v) / 2 ^ 1022 ≡ 2 ^ 62 + v / 2 ^ 1022
above_zero n v e = ap (λ (b : Bool). pick b (2 ^ 1084 - v) (2 ^ 1084 + v) / 2 ^ 1022) e ∙ plus (2 ^ 62) (2 ^ 1022) v (pow_pos 1022)

-- what `rounding_up` gives: 2 ^ s - 1, from a shift, or 0
pub set_bit : (s : ℕ) → s < 64 → 1 * 2 ^ s % 2 ^ 64 ≡ 2 ^ s
set_bit s h = let l : 1 + s ≤ 64 = omega arith in shl_exact {a = 1} 1 s 64 (lit< tt) l ∙ one-mul (2 ^ s)

pub set_some : (s : ℕ) → s < 64 → 1 ≤ 1 * 2 ^ s % 2 ^ 64
set_some s h = rw (set_bit s h) (pow_pos s)

pub up_below : (n : Bool) (s u : ℕ) → s < 64 → u ≡ pick n (2 ^ s - 1) 0 → u < 2 ^ 63
up_below true s u h e = let l : 2 ^ s ≤ 2 ^ 63 = pow_mono {i = s} {j = 63} (omega arith) in omega (arith, e, pow_pos s)
up_below false s u h e = omega (arith, e)

-- the ways of `floor_sum`, under what it requires
module _ (n : Bool) (d k : ℕ) (pre : (d < 2 ^ 53) × ((d * 2 ^ k ≤ 2 ^ 1084) × (k ≤ 1032))) where
  small : d < 2 ^ 53
  small = pre.0

  bound : d * 2 ^ k ≤ 2 ^ 1084
  bound = pre.1.0

  top : k ≤ 1032
  top = pre.1.1

  -- the result
  abbrev res : ℕ
  res = pick n (2 ^ 1084 - d * 2 ^ k) (2 ^ 1084 + d * 2 ^ k) / 2 ^ 1022

  -- k of 968 and less
  module _ (h : k ≤ 968) where
    pub none_minus : n ≡ true → d ≡ 0 → 2 ^ 62 ≡ res
    none_minus e z = ap (λ (x : ℕ). 2 ^ 62 - x) (sym (ceil_zero (2 ^ 62) (2 ^ 1022) (d * 2 ^ k) (pow_pos 1022) (ap (λ (x : ℕ). x * 2 ^ k) z ∙ zero-mul (2 ^ k)))) ∙ sym (below_zero n (d * 2 ^ k) e bound)

    pub tiny_minus : n ≡ true → (d ≡ 0 → ⊥) → 2 ^ 62 - 1 ≡ res
    tiny_minus e z =
        ap (λ (x : ℕ). 2 ^ 62 - x) (sym (ceil_one (2 ^ 62) (2 ^ 1022) (d * 2 ^ k) (pow_pos 1022) (mul-pos (pos_of_ne-zero z) (pow_pos k)) (tiny d k small h))) ∙ sym (below_zero n (d * 2 ^ k) e bound)

    pub tiny_plus : n ≡ false → 2 ^ 62 ≡ res
    tiny_plus e = ap (λ (x : ℕ). 2 ^ 62 + x) (sym (div-eq_of_lt (tiny d k small h))) ∙ sym (above_zero n (d * 2 ^ k) e)

  -- k of more: ten zeros after the digits, and a shift down by s
  module _ (h : 968 < k) where
    abbrev D : ℕ
    D = d * 1024

    abbrev s : ℕ
    s = 1032 - k

    under : k - 10 ≤ 1022
    under = omega arith

    shifts : 1022 - (k - 10) ≡ s
    shifts = omega arith

    same : D * 2 ^ (k - 10) ≡ d * 2 ^ k
    same = let e : 10 + (k - 10) ≡ k = omega arith in mul_assoc d (2 ^ 10) (2 ^ (k - 10)) ∙ ap (λ (x : ℕ). d * x) (sym (pow-add 2 10 (k - 10)) ∙ ap (λ (x : ℕ). 2 ^ x) e)

    floor_is : D / 2 ^ s ≡ d * 2 ^ k / 2 ^ 1022
    floor_is = ap (λ (x : ℕ). D / 2 ^ x) (sym shifts) ∙ sym (floor_down D (k - 10) under) ∙ ap (λ (x : ℕ). x / 2 ^ 1022) same

    ceil_is : (D + (2 ^ s - 1)) / 2 ^ s ≡ ceil (d * 2 ^ k) (2 ^ 1022)
    ceil_is = ap (λ (x : ℕ). ceil D (2 ^ x)) (sym shifts) ∙ sym (ceil_down D (k - 10) under) ∙ ap (λ (x : ℕ). ceil x (2 ^ 1022)) same

    least : d * 2 ^ k / 2 ^ 1022 ≤ 2 ^ 62
    least = div-le_of_le-mul (2 ^ 1022) (le_trans bound (lit≤ tt))

    most : ceil (d * 2 ^ k) (2 ^ 1022) ≤ 2 ^ 62
    most = ceil_le (2 ^ 62) (2 ^ 1022) (d * 2 ^ k) (pow_pos 1022) bound

    -- u is what `rounding_up` gives
    module _ (u : ℕ) (e : u ≡ pick n (2 ^ s - 1) 0) where
      shifted : (c : Bool) → u ≡ pick c (2 ^ s - 1) 0 → (D + u) / 2 ^ s ≡ pick c (ceil (d * 2 ^ k) (2 ^ 1022)) (d * 2 ^ k / 2 ^ 1022)
      shifted true e = ap (λ (x : ℕ). (D + x) / 2 ^ s) e ∙ ceil_is
      shifted false e = ap (λ (x : ℕ). (D + x) / 2 ^ s) e ∙ ap (λ (x : ℕ). x / 2 ^ s) (add-zero D) ∙ floor_is

      pub shift_fits : (D + u) / 2 ^ s ≤ 2 ^ 62
      shift_fits = rw (shifted n e) (go n)
        where
          go : (c : Bool) → pick c (ceil (d * 2 ^ k) (2 ^ 1022)) (d * 2 ^ k / 2 ^ 1022) ≤ 2 ^ 62
          go true = most
          go false = least

      pub sum_is : (w r : ℕ) → w ≡ (D + u) / 2 ^ s → r ≡ pick n (2 ^ 62 - w) (2 ^ 62 + w) → r ≡ res
      sum_is w r f g = g ∙ go n w (f ∙ shifted n e)
        where
          go : (c : Bool) (w : ℕ) → w ≡ pick c (ceil (d * 2 ^ k) (2 ^ 1022)) (d * 2 ^ k / 2 ^ 1022)
              → pick c (2 ^ 62 - w) (2 ^ 62 + w) ≡ pick c (2 ^ 1084 - d * 2 ^ k) (2 ^ 1084 + d * 2 ^ k) / 2 ^ 1022
          go true w f = ap (λ (x : ℕ). 2 ^ 62 - x) f ∙ sym (minus (2 ^ 62) (2 ^ 1022) (d * 2 ^ k) (pow_pos 1022) bound)
          go false w f = ap (λ (x : ℕ). 2 ^ 62 + x) f ∙ sym (plus (2 ^ 62) (2 ^ 1022) (d * 2 ^ k) (pow_pos 1022))
