-- L's turns: y stays below 2 ^ 63, and B after k turns below 2 ^ k. Assumes nothing.
use mathlib.Core.Path.{◌≡◌, refl, sym, ap, ◌∙◌, subst}
use mathlib.Core.Bool.{Bool, true, false, not}
use Prim.Native.Nat.{ℕ, zero, suc, ◌+◌, ◌*◌, ◌/◌, ◌^◌, ◌≤◌, ◌<◌}
use native.Mathlib.Nat.{pow-suc, div-one}
use native.Mathlib.Numerals.{add-one}
use native.Mathlib.Omega.{arith}
use lib.Dec.{T, leb, nleb→lt, lit<}
use lib.Pow.{pow_mono}
use borrow.Author.Tests.{le-leb, lt-leb}
use Rattle.base.specs.Said.{pick}
use Rattle.powers.specs.Log.{squared, halved, y_of, b_of}
use Rattle.powers.specs.Inner.{Bits, top_bit}

pub y_next : (y k : ℕ) → y_of y (k + 1) ≡ halved (squared (y_of y k))
unfolding y_of
y_next y k = rw add-one

pub b_next : (y k : ℕ) → b_of y (k + 1) ≡ b_of y k * 2 + top_bit (squared (y_of y k))
unfolding b_of
b_next y k = rw add-one

pub twice : (k : ℕ) → 2 ^ (k + 1) ≡ 2 ^ k * 2
twice k = rw (add-one, pow-suc)

-- shifting by the bit is halving where the bit is set
shifted : (s : ℕ) → s / 2 ^ top_bit s ≡ halved s
shifted s = go (leb (2 ^ 63) s)
  where
    go : (b : Bool) → s / 2 ^ pick b 1 0 ≡ pick b (s / 2) s
    go true = refl
    go false = div-one s

pub halved_below : (s : ℕ) → s < 2 ^ 64 → halved s < 2 ^ 63
halved_below s h = go (leb (2 ^ 63) s) (nleb→lt (2 ^ 63) s)
  where
    go : (b : Bool) → (T (not b) → s < 2 ^ 63) → pick b (s / 2) s < 2 ^ 63
    go true f = omega arith
    go false f = f tt

-- the bit's two ways
pub bit_set : (s : ℕ) → 2 ^ 63 ≤ s → 1 ≡ top_bit s
bit_set s h = rw (le-leb (2 ^ 63) s h)

pub bit_clear : (s : ℕ) → s < 2 ^ 63 → 0 ≡ top_bit s
bit_clear s h = rw (lt-leb (2 ^ 63) s h)

pub bit_small : (s : ℕ) → top_bit s ≤ 1
bit_small s = go (leb (2 ^ 63) s)
  where
    go : (b : Bool) → pick b 1 0 ≤ 1
    go true = omega arith
    go false = omega arith

-- B after k turns has k bits
pub b_size : (y k : ℕ) → b_of y k < 2 ^ k
unfolding b_of
b_size y zero = lit< tt
b_size y (suc k) = omega (arith, b_size y k, bit_small (squared (y_of y k)), pow-suc 2 k)

-- z and `bits` after k turns
pub record Turn (y k z bits : ℕ) : Type 0 where
  pub at : k ≤ 52
  pub is : z ≡ y_of y k
  pub below : z < 2 ^ 63
  pub bits_are : bits ≡ b_of y k
  pub bits_below : bits < 2 ^ k

pub first : (y : ℕ) → y < 2 ^ 63 → Turn y 0 y 0
unfolding y_of b_of
first y h = record { at = omega arith; is = refl; below = h; bits_are = refl; bits_below = omega arith }

pub next : (y k z bits s t : ℕ) → k < 52 → Turn y k z bits → s ≡ z * z / 2 ^ 62 → s < 2 ^ 64 → t ≡ top_bit s → Turn y (k + 1) (s / 2 ^ t) (bits * 2 + t)
next y k z bits s t h i q f e =
    let s-is : s ≡ squared (y_of y k) = q ∙ ap squared i.is in
    let z_is : s / 2 ^ t ≡ halved s = ap (λ (x : ℕ). s / 2 ^ x) e ∙ shifted s in
    record {
      at = omega arith;
      is = z_is ∙ ap halved s-is ∙ sym (y_next y k);
      below = rw z_is (halved_below s f);
      bits_are = (λ j. i.bits_are j * 2 + (e ∙ ap top_bit s-is) j) ∙ sym (b_next y k);
      bits_below = omega (arith, twice k, bit_small s);
    }

-- there is room for the next bit
pub room : (k bits : ℕ) → k < 52 → bits < 2 ^ k → bits < 2 ^ 51
room k bits h b = let m : 2 ^ k ≤ 2 ^ 51 = pow_mono {i = k} {j = 51} (omega arith) in omega arith

pub last : (y k z bits : ℕ) → 52 ≤ k → Turn y k z bits → Bits y bits
last y k z bits h i =
    let e : k ≡ 52 = omega arith in
    record { is = i.bits_are ∙ ap (b_of y) e; below = subst (λ (x : ℕ). bits < 2 ^ x) e i.bits_below }
