-- What `le` and `lt` say of two floats of one sign, as fractions. Assumes nothing.
use Rattle.std.proofs.Common.{◌≡◌, ℕ, ◌*◌, ◌<◌, ◌≤◌, Bool, true, false, ◌&&◌, ◌||◌, T, eqb, ltb, ℤ, sym, ap, ◌∙◌, subst, le_of_eq, le_of_lt, arith, eqb→eq, ltb→lt, ne_eqb}
use native.Mathlib.Decide.{dec_le}
use lib.Ieee.{fin, up, down, le, lt, eq}

-- `le` is less or equal
less_or_same : (a b : ℕ) (c : Bool) → T (ltb a b || (eqb a b && c)) → a ≤ b
less_or_same a b c t = go (ltb a b) (eqb a b) (ltb→lt a b) (eqb→eq a b) t
  where
    go : (p q : Bool) → (T p → a < b) → (T q → a ≡ b) → T (p || (q && c)) → a ≤ b
    go true q f g t = le_of_lt (f tt)
    go false true f g t = le_of_eq (g tt)
    go false false f g t = absurd t

flip : (a b : ℕ) → eqb a b ≡ eqb b a
flip a b = go (dec_le a b) (dec_le b a)
  where
    go : Dec (a ≤ b) → Dec (b ≤ a) → eqb a b ≡ eqb b a
    go (yes p) (yes q) = let e : a ≡ b = omega arith in ap (λ (x : ℕ). eqb x b) e ∙ ap (λ (x : ℕ). eqb b x) (sym e)
    go (yes p) (no q) = ne_eqb a b (λ e. q (le_of_eq (sym e))) ∙ sym (ne_eqb b a (λ e. q (le_of_eq e)))
    go (no p) q = ne_eqb a b (λ e. p (le_of_eq e)) ∙ sym (ne_eqb b a (λ e. p (le_of_eq (sym e))))

-- two floats that are not below zero
pub le_pos : (m n : ℕ) (e d : ℤ) → T (le (fin false m e) (fin false n d)) → m * up e * down d ≤ n * up d * down e
unfolding le lt eq
le_pos m n e d t = less_or_same (m * up e * down d) (n * up d * down e) true t

-- two floats that are not above zero
pub le_neg : (m n : ℕ) (e d : ℤ) → T (le (fin true m e) (fin true n d)) → n * up d * down e ≤ m * up e * down d
unfolding le lt eq
le_neg m n e d t =
    let a = m * up e * down d in
    let b = n * up d * down e in
    less_or_same b a true (subst (λ (z : Bool). T (ltb b a || (z && true))) (flip a b) t)

pub lt_pos : (m n : ℕ) (e d : ℤ) → T (lt (fin false m e) (fin false n d)) → m * up e * down d < n * up d * down e
unfolding lt
lt_pos m n e d t = ltb→lt (m * up e * down d) (n * up d * down e) t

-- a comparison that one of two tests decides
pub or_left : (a b : Bool) → T a → T (a || b)
or_left true b t = tt
or_left false b t = absurd t

pub or_right : (a b : Bool) → T b → T (a || b)
or_right true b t = tt
or_right false b t = t
