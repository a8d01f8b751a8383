-- Division rounded down is division: z is q times s and r more with r below s, and these determine q and r.
-- Assumes nothing.
use mathlib.Core.Path.{◌≡◌, sym, ◌∙◌, ap}
use Prim.Native.Nat.{ℕ, zero, suc, ◌+◌, ◌-◌, ◌*◌, ◌/◌, ◌%◌, ◌<◌}
use native.Mathlib.Nat.{mod-lt, div-add-mod', suc-mul, add_comm}
use native.Mathlib.Omega.{arith}
use lib.IntN.{ℤ, pos, negsuc, neg_ℤ, sub_ℕ, ◌+ℤ◌, ◌*ℤ◌}
use lib.Arith.{digits_div, digits_mod}
use borrow.Author.Tests.{lt-ltb}
use Rattle.base.specs.Integers.{floor_div, floor_mod, Divides}
use Rattle.base.proofs.Integers.{floor_mod_lt}

negsuc_plus : (k r a : ℕ) → r < suc k → suc k ≡ suc a + r → sub_ℕ r (suc k) ≡ negsuc a
negsuc_plus k r a h e = simp (lt-ltb r (suc k) h) (ap negsuc (omega (arith, e)))

-- -m + r, where r is below m
neg_plus : (m r a : ℕ) → 0 < m → r < m → m ≡ suc a + r → neg_ℤ (pos m) +ℤ pos r ≡ negsuc a
neg_plus zero r a p h e = absurd (omega (arith, p))
neg_plus (suc k) r a p h e = negsuc_plus k r a h e

floor_whole : (d : ℤ) (s : ℕ) → 0 < s → d ≡ floor_div d s *ℤ pos s +ℤ pos (floor_mod d s)
floor_whole (pos a) s h = sym (ap pos (div-add-mod' a s))
floor_whole (negsuc a) s h =
    let e : a / s * s + a % s ≡ a = div-add-mod' a s in
    let l : a % s < s = mod-lt a h in
    let m : suc (a / s) * s ≡ s + a / s * s = suc-mul (a / s) s ∙ add_comm (a / s * s) s in
    sym (neg_plus (suc (a / s) * s) (s - 1 - a % s) a (omega (arith, m, h)) (omega (arith, m, e, l, h)) (omega (arith, m, e, l, h)))

-- floor_div and floor_mod divide
pub floor_divides : (d : ℤ) (s : ℕ) → 0 < s → Divides d s (floor_div d s) (floor_mod d s)
floor_divides d s h = record { whole = floor_whole d s h; rest = floor_mod_lt d s h }

module _ (s b r : ℕ) (h : r < s) where
  -- of b * s + r
  up_div : pos b ≡ floor_div (pos (b * s + r)) s
  up_div = ap pos (sym (digits_div b h))

  up_mod : r ≡ floor_mod (pos (b * s + r)) s
  up_mod = sym (digits_mod b h)

  -- of -((b + 1) * s) + r, which is -(a + 1) for this a
  below : ℕ
  below = b * s + (s - 1 - r)

  down_is : neg_ℤ (pos (suc b * s)) +ℤ pos r ≡ negsuc below
  unfolding below
  down_is =
      let m : suc b * s ≡ s + b * s = suc-mul b s ∙ add_comm (b * s) s in
      neg_plus (suc b * s) r below (omega (arith, m, h)) (omega (arith, m, h)) (omega (arith, m, h))

  down_div : negsuc b ≡ floor_div (negsuc below) s
  unfolding below
  down_div = let l : s - 1 - r < s = omega (arith, h) in ap negsuc (sym (digits_div b l))

  down_mod : r ≡ floor_mod (negsuc below) s
  unfolding below
  down_mod = let l : s - 1 - r < s = omega (arith, h) in rw (digits_mod b l) (omega (arith, h))

divides_is : (s : ℕ) (q : ℤ) (r : ℕ) → r < s → (q ≡ floor_div (q *ℤ pos s +ℤ pos r) s) × (r ≡ floor_mod (q *ℤ pos s +ℤ pos r) s)
divides_is s (pos b) r h = (up_div s b r h, up_mod s b r h)
divides_is s (negsuc b) r h = rw (down_is s b r h) (down_div s b r h, down_mod s b r h)

-- and nothing else does: z and s determine q and r
pub divides_one : {z : ℤ} {s : ℕ} {q : ℤ} {r : ℕ} → Divides z s q r → (q ≡ floor_div z s) × (r ≡ floor_mod z s)
divides_one {z} {s} {q} {r} d = rw d.whole (divides_is s q r d.rest)
