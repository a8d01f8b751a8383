-- The last key of a range: 11 for the largest, then 25 below the first; what is said of it, both ways. Assumes nothing.
use mathlib.Core.Path.{◌≡◌, refl, sym, ◌∙◌, ap}
use mathlib.Core.Bool.{Bool, true, false}
use mathlib.Core.List.{List}
use mathlib.Core.Logic.{◌⊎◌, inl, inr}
use Prim.Native.Nat.{ℕ, zero, suc, ◌^◌, ◌<◌}
use native.Mathlib.Omega.{arith}
use lib.IntN.{ℤ, pos, neg_ℤ}
use lib.Signed.{le_z, ◌≤ℤ◌}
use borrow.Author.Tests.{leb-true}
use Rattle.base.specs.Numbers.{overflow, backwards_range}
use Rattle.base.specs.Said.{Said, gives, refuses, pick}
use Rattle.base.proofs.Order.{at_most, passed, below, failed}
use Rattle.base.proofs.Pick.{true_not_false}
use Rattle.base.proofs.Said.{same_value, no_value, no_refusal, same_refuses}
use Rattle.integers.specs.IntegerText.{IntText}
use Rattle.kbm_read.specs.Language.{Backwards}

-- ---- the largest key
abbrev Largest : ℤ → Type 0
Largest z = z ≡ pos 2147483647

not_largest : {z : ℤ} → le_z (pos 2147483647) z ≡ false → Largest z → ⊥
not_largest f e = true_not_false (rw e at f)

-- a key of 32 bits is at most the largest
top_key : (n : ℕ) → n < 2 ^ 31 → le_z (pos 2147483647) (pos n) ≡ true → Largest (pos n)
top_key n h f = let l = leb-true 2147483647 n f in let e : n ≡ 2147483647 = omega arith in ap pos e

below_key : (n : ℕ) → le_z (pos 2147483647) (neg_ℤ (pos n)) ≡ true → ⊥
below_key zero f = true_not_false (sym f)
below_key (suc n) f = true_not_false (sym f)

largest : {t : List ℕ} {z : ℤ} → IntText true (2 ^ 31) t z → le_z (pos 2147483647) z ≡ true → Largest z
largest (IntText.plain n d h e) f = e ∙ top_key n h (rw e at f)
largest (IntText.plus s n p d h e) f = e ∙ top_key n h (rw e at f)
largest (IntText.minus s n g p d h e) f = absurd (below_key n (rw e at f))

-- ---- the last key z at line k, after the first key
abbrev picked : ℕ → ℤ → Bool → Bool → Said ℤ
picked k z over up = pick over (refuses overflow k) (pick up (gives z) (refuses backwards_range k))

abbrev pub last_key_at : ℤ → ℕ → ℤ → Said ℤ
last_key_at key k z = picked k z (le_z (pos 2147483647) z) (le_z key z)

module _ (key : ℤ) (k : ℕ) where
  -- it is taken exactly where it is neither the largest nor below the first
  pub last_gives : (z v : ℤ) → last_key_at key k z ≡ gives v → (z ≡ v) × (Largest z → ⊥) × (key ≤ℤ z)
  last_gives z v = go (le_z (pos 2147483647) z) refl (le_z key z) refl
    where
      go : (o : Bool) → le_z (pos 2147483647) z ≡ o → (u : Bool) → le_z key z ≡ u → picked k z o u ≡ gives v →
          (z ≡ v) × (Largest z → ⊥) × (key ≤ℤ z)
      go true p u r q = no_value q
      go false p true r q = (same_value z v q, not_largest p, at_most r)
      go false p false r q = no_value q

  module _ {t : List ℕ} {z : ℤ} (i : IntText true (2 ^ 31) t z) where
    under : (Largest z → ⊥) → le_z (pos 2147483647) z ≡ false
    under f = go (le_z (pos 2147483647) z) refl
      where
        go : (o : Bool) → le_z (pos 2147483647) z ≡ o → o ≡ false
        go true p = absurd (f (largest i p))
        go false p = refl

    pub gives_last : (Largest z → ⊥) → key ≤ℤ z → last_key_at key k z ≡ gives z
    gives_last f h = rw (under f, passed h)

    -- else it is 11 or 25
    pub last_refuses : {n d : ℕ} → last_key_at key k z ≡ refuses n d →
        (d ≡ k) × (((n ≡ overflow) × IntText true (2 ^ 31) t (pos 2147483647)) ⊎ Backwards key t n)
    last_refuses {n} {d} = go (le_z (pos 2147483647) z) refl (le_z key z) refl
      where
        go : (o : Bool) → le_z (pos 2147483647) z ≡ o → (u : Bool) → le_z key z ≡ u → picked k z o u ≡ refuses n d →
            (d ≡ k) × (((n ≡ overflow) × IntText true (2 ^ 31) t (pos 2147483647)) ⊎ Backwards key t n)
        go true p u r q = let w = same_refuses q in (sym w.1, inl (sym w.0, rw (largest i p) at i))
        go false p true r q = no_refusal q
        go false p false r q = let w = same_refuses q in (sym w.1, inr (sym w.0, z, i, not_largest p, below r))

  pub backwards_said : {t : List ℕ} {n : ℕ} (b : Backwards key t n) → last_key_at key k b.1 ≡ refuses n k
  backwards_said b = rw (b.0, under b.2 b.3, failed b.4)
