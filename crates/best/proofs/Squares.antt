-- m * m * a against b * 2 ^ (t + 74), by numbers of 64 bits. Assumes nothing.
use mathlib.Core.Path.{◌≡◌, refl, sym, ap, ◌∙◌, subst}
use mathlib.Core.Bool.{Bool, true, false, ◌&&◌, ◌||◌}
use Prim.Native.Nat.{ℕ, suc, ◌+◌, ◌-◌, ◌*◌, ◌/◌, ◌%◌, ◌^◌, ◌≤◌, ◌<◌}
use native.Mathlib.Nat.{le_trans, le_of_eq, lt_of_le_of_lt, lt_of_lt_of_le, le_antisymm, add-mul, mul_assoc, mul_right_comm}
use native.Mathlib.Nat.{mul-le-mul, mul-le-mul_right, le_of_mul-le-mul_right, div-add-mod', div-mul-le_self, mod-lt}
use native.Mathlib.Nat.{le-div_iff_mul-le, div-lt_iff_lt-mul, mul-div_cancel, mod-eq_of_lt}
use native.Mathlib.Omega.{arith}
use lib.Dec.{T, ltb, eqb, lit<}
use lib.Pow.{pow-add, pow_pos}
use borrow.Author.Tests.{lt-ltb, le-ltb, eq-eqb, eqb-true, eqb-false}

-- ---- bounds of what the code computes on the way
pub high_small : (m : ℕ) → m < 2 ^ 53 → m * m / 2 ^ 64 < 2 ^ 42
high_small m h = let l : m ≤ 2 ^ 53 - 1 = omega arith in (div-lt_iff_lt-mul (pow_pos 64)).1 (lt_of_le_of_lt (mul-le-mul l l) (lit< tt))

pub carried_small : (s a : ℕ) → s < 2 ^ 64 → a < 2 ^ 32 → s * a / 2 ^ 64 < 2 ^ 32
carried_small s a f g =
    let l : s ≤ 2 ^ 64 - 1 = omega arith in
    let k : a ≤ 2 ^ 32 - 1 = omega arith in
    (div-lt_iff_lt-mul (pow_pos 64)).1 (lt_of_le_of_lt (mul-le-mul l k) (lit< tt))

pub rest_small : (h a : ℕ) → a < 2 ^ 32 → h % 1024 * a ≤ 1023 * (2 ^ 32 - 1)
rest_small h a g =
    let l : h % 1024 ≤ 1023 = omega arith in
    let k : a ≤ 2 ^ 32 - 1 = omega arith in
    mul-le-mul l k

pub top_small : (h a : ℕ) → h < 2 ^ 42 → a < 2 ^ 32 → h / 1024 * a ≤ (2 ^ 32 - 1) * (2 ^ 32 - 1)
top_small h a f g =
    let l : h / 1024 ≤ 2 ^ 32 - 1 = omega arith in
    let k : a ≤ 2 ^ 32 - 1 = omega arith in
    mul-le-mul l k

-- ---- m * m * a in parts, the lowest of them low and rest
pub record Parts (v g rest low : ℕ) : Type 0 where
  is : v ≡ (g * 1024 + rest) * 2 ^ 64 + low
  rest_under : rest < 1024
  low_under : low < 2 ^ 64

-- h by its multiples of 1024
by_thousand : (h a : ℕ) → h * a ≡ h / 1024 * a * 1024 + h % 1024 * a
by_thousand h a =
    ap (λ (z : ℕ). z * a) (sym (div-add-mod' h 1024))
    ∙ add-mul (h / 1024 * 1024) (h % 1024) a
    ∙ ap (λ (z : ℕ). z + h % 1024 * a) (mul_right_comm (h / 1024) 1024 a)

-- a number by the two halves that are equal to these
by_words : (v high low : ℕ) → high ≡ v / 2 ^ 64 → low ≡ v % 2 ^ 64 → v ≡ high * 2 ^ 64 + low
by_words v high low e f = sym (div-add-mod' v (2 ^ 64)) ∙ (λ i. sym e i * 2 ^ 64 + sym f i)

-- what the code has: m * m by its halves, and the lower one times a by its halves
module _ (m a high square carried : ℕ) (e : high ≡ m * m / 2 ^ 64) (f : square ≡ m * m % 2 ^ 64)
    (g : carried ≡ square * a / 2 ^ 64) (a_small : a < 2 ^ 32) where
  square_small : square < 2 ^ 64
  square_small = subst (λ (z : ℕ). z < 2 ^ 64) (sym f) (mod-lt (m * m) (pow_pos 64))

  pub carried_held : carried < 2 ^ 32
  carried_held = subst (λ (z : ℕ). z < 2 ^ 32) (sym g) (carried_small square a square_small a_small)

  module _ (m-small : m < 2 ^ 53) where
    pub high_held : high < 2 ^ 42
    high_held = subst (λ (z : ℕ). z < 2 ^ 42) (sym e) (high_small m m-small)

    pub g_small : high / 1024 * a + (high % 1024 * a + carried) / 1024 < 2 ^ 64
    g_small = omega (arith, rest_small high a a_small, top_small high a high_held a_small, carried_held)

  module _ (low : ℕ) (h : low ≡ square * a % 2 ^ 64) where
    whole : (x y : ℕ) → high * a ≡ x * 1024 + y → m * m * a ≡ ((x + (y + carried) / 1024) * 1024 + (y + carried) % 1024) * 2 ^ 64 + low
    whole x y i =
        let n : m * m * a ≡ high * a * 2 ^ 64 + square * a =
        ap (λ (z : ℕ). z * a) (by_words (m * m) high square e f) ∙ add-mul (high * 2 ^ 64) square a
        ∙ ap (λ (z : ℕ). z + square * a) (mul_right_comm high (2 ^ 64) a) in
        let k = by_words (square * a) carried low g h in
        omega (arith, i, n, k)

    pub parts : Parts (m * m * a) (high / 1024 * a + (high % 1024 * a + carried) / 1024) ((high % 1024 * a + carried) % 1024) low
    parts = record {
      is = whole (high / 1024 * a) (high % 1024 * a) (by_thousand high a);
      rest_under = omega arith;
      low_under = subst (λ (z : ℕ). z < 2 ^ 64) (sym h) (mod-lt (square * a) (pow_pos 64));
    }

-- ---- the test
module _ (v g rest low b t : ℕ) (p : Parts v g rest low) where
  bound : ℕ
  bound = b * 2 ^ (t + 74)

  bound_is : bound ≡ b * 2 ^ t * 2 ^ 74
  unfolding bound
  bound_is = ap (λ (z : ℕ). b * z) (pow-add 2 t 74) ∙ sym (mul_assoc b (2 ^ t) (2 ^ 74))

  from_g : g * 2 ^ 74 ≤ v
  from_g = let e = p.is in omega arith

  to_g : v < suc g * 2 ^ 74
  to_g = let e = p.is in let r = p.rest_under in let l = p.low_under in omega arith

  pub test_below : g / 2 ^ t < b → ltb v (b * 2 ^ (t + 74)) ≡ true
  unfolding bound
  test_below h =
      lt-ltb v bound (lt_of_lt_of_le to_g
      (le_trans (mul-le-mul_right (2 ^ 74) ((div-lt_iff_lt-mul (pow_pos t)).0 h)) (le_of_eq (sym bound_is))))

  module _ (h : b ≤ g / 2 ^ t) where
    reached : b * 2 ^ t ≤ g
    reached = (le-div_iff_mul-le (pow_pos t)).0 h

    pub test_not_below : ltb v (b * 2 ^ (t + 74)) ≡ false
    unfolding bound
    test_not_below = le-ltb v bound (le_trans (le_of_eq bound_is) (le_trans (mul-le-mul_right (2 ^ 74) reached) from_g))

    pub test_same : low ≡ 0 → rest ≡ 0 → g / 2 ^ t * 2 ^ t ≡ g → g / 2 ^ t ≡ b → v ≡ b * 2 ^ (t + 74)
    unfolding bound
    test_same x y z u =
        let e = p.is in
        let f : v ≡ g * 2 ^ 74 = omega arith in
        f ∙ ap (λ (q : ℕ). q * 2 ^ 74) (sym z ∙ ap (λ (q : ℕ). q * 2 ^ t) u) ∙ sym bound_is

    pub same_test : v ≡ b * 2 ^ (t + 74) → (low ≡ 0) × (rest ≡ 0) × (g / 2 ^ t * 2 ^ t ≡ g) × (g / 2 ^ t ≡ b)
    unfolding bound
    same_test e =
        let f : v ≡ b * 2 ^ t * 2 ^ 74 = e ∙ bound_is in
        let k : g ≤ b * 2 ^ t = le_of_mul-le-mul_right {k = 2 ^ 74} (le_trans from_g (le_of_eq f)) (pow_pos 74) in
        let is-g : b * 2 ^ t ≡ g = le_antisymm reached k in
        let w = p.is in
        let q : v ≡ g * 2 ^ 74 = f ∙ ap (λ (z : ℕ). z * 2 ^ 74) is-g in
        let d : g / 2 ^ t ≡ b = ap (λ (z : ℕ). z / 2 ^ t) (sym is-g) ∙ mul-div_cancel b (pow_pos t) in
        (omega arith, omega arith, ap (λ (z : ℕ). z * 2 ^ t) d ∙ is-g, d)

    -- the last test of the code
    all_true : (x y z u : Bool) → (((x && y) && z) && u) ≡ true → (x ≡ true) × (y ≡ true) × (z ≡ true) × (u ≡ true)
    all_true true true true true e = (refl, refl, refl, refl)
    all_true false y z u e = absurd (subst T (sym e) tt)
    all_true true false z u e = absurd (subst T (sym e) tt)
    all_true true true false u e = absurd (subst T (sym e) tt)
    all_true true true true false e = absurd (subst T (sym e) tt)

    module _ (small : g < 2 ^ 64) where
      chain : Bool
      chain = ((eqb low 0 && eqb rest 0) && eqb (g / 2 ^ t * 2 ^ t % 2 ^ 64) g) && eqb (g / 2 ^ t) b

      cut : g / 2 ^ t * 2 ^ t % 2 ^ 64 ≡ g / 2 ^ t * 2 ^ t
      cut = mod-eq_of_lt {n = g / 2 ^ t * 2 ^ t} {m = 2 ^ 64} (lt_of_le_of_lt (div-mul-le_self g (2 ^ t)) small)

      decide : (x y : Bool) → eqb v (b * 2 ^ (t + 74)) ≡ x → chain ≡ y → y ≡ x
      unfolding chain
      decide true true e f = refl
      decide false false e f = refl
      decide true false e f =
          let s = same_test (eqb-true v (b * 2 ^ (t + 74)) e) in
          sym f ∙ (λ i. ((eq-eqb low 0 s.0 i && eq-eqb rest 0 s.1 i)
          && eq-eqb (g / 2 ^ t * 2 ^ t % 2 ^ 64) g (cut ∙ s.2) i) && eq-eqb (g / 2 ^ t) b s.3 i)
      decide false true e f =
          let a = all_true (eqb low 0) (eqb rest 0) (eqb (g / 2 ^ t * 2 ^ t % 2 ^ 64) g) (eqb (g / 2 ^ t) b) f in
          absurd (eqb-false v (b * 2 ^ (t + 74)) e (test_same (eqb-true low 0 a.0) (eqb-true rest 0 a.1)
          (sym cut ∙ eqb-true (g / 2 ^ t * 2 ^ t % 2 ^ 64) g a.2) (eqb-true (g / 2 ^ t) b a.3)))

      pub test_last : (tie : Bool) → ((((eqb low 0 && eqb rest 0) && eqb (g / 2 ^ t * 2 ^ t % 2 ^ 64) g) && eqb (g / 2 ^ t) b) && tie)
          ≡ (ltb v (b * 2 ^ (t + 74)) || (eqb v (b * 2 ^ (t + 74)) && tie))
      unfolding chain
      test_last tie =
          ap (λ (x : Bool). x && tie) (decide (eqb v (b * 2 ^ (t + 74))) chain refl refl)
          ∙ sym (ap (λ (x : Bool). x || (eqb v (b * 2 ^ (t + 74)) && tie)) test_not_below)
