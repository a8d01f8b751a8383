-- Integers in their order: what a test that passed or failed says, and back. Assumes nothing.
use mathlib.Core.Path.{◌≡◌, refl, sym, ◌∙◌}
use mathlib.Core.Bool.{Bool, true, false}
use Prim.Native.Nat.{ℕ, zero, suc}
use native.Mathlib.Omega.{arith}
use lib.Dec.{leb, ltb}
use lib.Ieee.Bits.{is_true}
use lib.IntN.{ℤ, pos, negsuc, pred_ℤ, ◌-ℤ◌, -ℤ_one}
use lib.Signed.{le_z, lt_z, ◌≤ℤ◌, ◌<ℤ◌, le_z_yes, lt_z_yes, clash_ℤ}
use borrow.Author.Tests.{le-leb, lt-ltb, le-ltb, leb-true, leb-false}

-- ---- tests of naturals
lt_suc : (a b : ℕ) → ltb a (suc b) ≡ leb a b
lt_suc a b = go (leb a b) refl
  where
    go : (t : Bool) → leb a b ≡ t → ltb a (suc b) ≡ t
    go true e = lt-ltb a (suc b) (omega (arith, leb-true a b e))
    go false e = le-ltb a (suc b) (omega (arith, leb-false a b e))

suc_le : (a b : ℕ) → leb (suc a) b ≡ ltb a b
suc_le a b = go (leb (suc a) b) refl
  where
    go : (t : Bool) → leb (suc a) b ≡ t → t ≡ ltb a b
    go true e = sym (lt-ltb a b (omega (arith, leb-true (suc a) b e)))
    go false e = sym (le-ltb a b (omega (arith, leb-false (suc a) b e)))

-- ---- below b is at most the integer before it
below_pred : (z b : ℤ) → lt_z z b ≡ le_z z (pred_ℤ b)
below_pred (pos a) (pos zero) = le-ltb a 0 (omega arith)
below_pred (pos a) (pos (suc b)) = lt_suc a b
below_pred (pos a) (negsuc b) = refl
below_pred (negsuc a) (pos zero) = sym (le-leb 0 a (omega arith))
below_pred (negsuc a) (pos (suc b)) = refl
below_pred (negsuc a) (negsuc b) = sym (suc_le b a)

pub below_end : (z b : ℤ) → lt_z z b ≡ le_z z (b -ℤ pos 1)
below_end z b = below_pred z b ∙ rw (-ℤ_one b)

not_at_most : (a b : ℤ) → le_z a b ≡ false → lt_z b a ≡ true
not_at_most (pos a) (pos b) e = lt-ltb b a (leb-false a b e)
not_at_most (pos a) (negsuc b) e = refl
not_at_most (negsuc a) (pos b) e = sym e
not_at_most (negsuc a) (negsuc b) e = lt-ltb a b (leb-false b a e)

-- ---- a test that passed or failed, as the order has it, and back
module _ {a b : ℤ} where
  pub at_most : le_z a b ≡ true → a ≤ℤ b
  at_most e = le_z_yes (rw e tt)

  pub passed : a ≤ℤ b → le_z a b ≡ true
  passed h = is_true (le_z a b) h.le

  pub below : le_z a b ≡ false → b <ℤ a
  below e = lt_z_yes (rw (not_at_most a b e) tt)

  pub failed : b <ℤ a → le_z a b ≡ false
  failed h = go (le_z a b) refl
    where
      go : (t : Bool) → le_z a b ≡ t → t ≡ false
      go true e = clash_ℤ h (at_most e)
      go false e = refl

-- below b is at most b - 1
module _ {a b : ℤ} where
  pub before_end : a <ℤ b → a ≤ℤ (b -ℤ pos 1)
  before_end h = at_most (sym (below_end a b) ∙ is_true (lt_z a b) h.lt)

  pub end_after : a ≤ℤ (b -ℤ pos 1) → a <ℤ b
  end_after h = lt_z_yes (rw (below_end a b) h.le)
