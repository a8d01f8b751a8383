-- An integer as the difference of two naturals: `Diff z a b` says that z is a - b. Assumes nothing.
use Rattle.std.proofs.Common.{◌≡◌, ℕ, zero, suc, ◌+◌, ◌-◌, ◌*◌, ◌<◌, ◌≤◌, Bool, true, false, cond, not, T, ltb, ℤ, pos, negsuc, ◌+ℤ◌, ◌-ℤ◌, ◌*ℤ◌, neg_ℤ, sym, ap, ◌∙◌, add-mul, add_comm, arith, ltb→lt, nltb→le}
use lib.IntN.{sub_ℕ}

-- z is a - b
abbrev pub Diff : ℤ → ℕ → ℕ → Type 0
Diff (pos n) a b = a ≡ n + b
Diff (negsuc n) a b = a + suc n ≡ b

-- a - b itself
pub of_sub : (a b : ℕ) → Diff (sub_ℕ a b) a b
of_sub a b = go (ltb a b) (ltb→lt a b) (nltb→le a b)
  where
    go : (t : Bool) → (T t → a < b) → (T (not t) → b ≤ a) → Diff (cond t (negsuc (b - suc a)) (pos (a - b))) a b
    go true f g = let h = f tt in omega arith
    go false f g = let h = g tt in omega arith

-- a difference of the same size
pub moved : (z : ℤ) (a b c d : ℕ) → a + d ≡ c + b → Diff z a b → Diff z c d
moved (pos n) a b c d e h = omega arith
moved (negsuc n) a b c d e h = omega arith

-- sums, negations, products, differences
pub add : (z w : ℤ) (a b c d : ℕ) → Diff z a b → Diff w c d → Diff (z +ℤ w) (a + c) (b + d)
add (pos m) (pos n) a b c d h k = omega arith
add (pos m) (negsuc n) a b c d h k = moved (sub_ℕ m (suc n)) m (suc n) (a + c) (b + d) (omega arith) (of_sub m (suc n))
add (negsuc m) (pos n) a b c d h k = moved (sub_ℕ n (suc m)) n (suc m) (a + c) (b + d) (omega arith) (of_sub n (suc m))
add (negsuc m) (negsuc n) a b c d h k = omega arith

pub negated : (z : ℤ) (a b : ℕ) → Diff z a b → Diff (neg_ℤ z) b a
negated (pos zero) a b h = omega arith
negated (pos (suc n)) a b h = omega arith
negated (negsuc n) a b h = omega arith

pub times : (z : ℤ) (a b m : ℕ) → Diff z a b → Diff (z *ℤ pos m) (a * m) (b * m)
times (pos n) a b m h = ap (λ (x : ℕ). x * m) h ∙ add-mul n b m
times (negsuc n) a b m h = negated (pos (suc n * m)) (b * m) (a * m) (ap (λ (x : ℕ). x * m) (sym h) ∙ add-mul a (suc n) m ∙ add_comm (a * m) (suc n * m))

pub subtract : (z w : ℤ) (a b c d : ℕ) → Diff z a b → Diff w c d → Diff (z -ℤ w) (a + d) (b + c)
subtract z w a b c d h k = add z (neg_ℤ w) a b d c h (negated w c d k)
