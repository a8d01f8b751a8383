-- THE THEOREM OF INTEGERS, once over width and sign: a text is read as z exactly when it is an integer of the type, of value z
-- (document 01, "Lines": "Integer: ..", and "Integer reading is proved once over width and sign"). Assumes nothing.
use Rattle.std.specs.Prelude.{Some, None, Option}
use mathlib.Core.Path.{◌≡◌, refl, sym, ◌∙◌, ap}
use mathlib.Core.List.{List, [], ◌∷◌}
use mathlib.Core.Bool.{Bool, true, false}
use mathlib.Core.Logic.{◌↔◌}
use Prim.Native.Nat.{ℕ, suc, ◌+◌, ◌-◌, ◌*◌, ◌^◌, ◌≤◌, ◌<◌}
use native.Mathlib.Nat.{pow-succ', mul_assoc, add-mul}
use native.Mathlib.Omega.{arith}
use lib.ListN.{length}
use lib.Dec.{leb, eqb}
use lib.IntN.{ℤ, pos, neg_ℤ}
use borrow.Author.Tests.{le-leb, leb-true, eqb-true, ne_eqb}
use Rattle.base.specs.Said.{pick}
use Rattle.integers.specs.Integer.{scan, magnitude_of, value, none, signed_of, read_int, plus, minus, read_signed}
use Rattle.integers.specs.Digits.{decimal, AllDigits}
use Rattle.integers.specs.IntegerText.{Digits, IntText}
use Rattle.integers.specs.Digits.{is_digit}
use Rattle.integers.proofs.Digits.{digit_yes, digit_is}

-- the arithmetic of one digit more
shift : (acc d p : ℕ) → (acc * 10 + d) * p ≡ acc * (10 * p) + d * p
shift acc d p = rw (add-mul, mul_assoc)

one_more : (acc d k r : ℕ) → (acc * 10 + d) * 10 ^ k + r ≡ acc * 10 ^ suc k + (d * 10 ^ k + r)
one_more acc d k r = rw pow-succ' (omega (arith, shift acc d (10 ^ k)))

differ : ◌≡◌ {A = ℕ} 0 1 → ⊥
differ e = omega arith

-- what a scan that ends well has seen
abbrev Seen : ℕ → ℕ → List ℕ → ℕ → Type 0
Seen top acc s n = AllDigits s × (n ≡ acc * 10 ^ length s + decimal s) × (n ≤ top)

scan_sound : (top acc : ℕ) (s : List ℕ) (n : ℕ) → scan top acc s ≡ Some n → Seen top acc s n
unfolding scan
scan_sound top acc [] n e = go (leb acc top) refl e
  where
    go : (t : Bool) → leb acc top ≡ t → pick t (Some acc) None ≡ Some n → Seen top acc [] n
    go true p q = let z : acc ≡ n = cc in (tt, omega arith, omega (arith, leb-true acc top p))
    go false p q = let z : ◌≡◌ {A = ℕ} 0 1 = cc in absurd (differ z)
scan_sound top acc (b ∷ s) n e = go (is_digit b) refl e (scan_sound top (acc * 10 + (b - 48)) s n)
  where
    go : (t : Bool) → is_digit b ≡ t → pick t (scan top (acc * 10 + (b - 48)) s) None ≡ Some n →
        (scan top (acc * 10 + (b - 48)) s ≡ Some n → Seen top (acc * 10 + (b - 48)) s n) → Seen top acc (b ∷ s) n
    go true p q ih = let r = ih q in ((digit_is b p, r.0), r.1 ∙ one_more acc (b - 48) (length s) (decimal s), r.2)
    go false p q ih = let z : ◌≡◌ {A = ℕ} 0 1 = cc in absurd (differ z)

scan_complete : (top acc : ℕ) (s : List ℕ) (n : ℕ) → Seen top acc s n → scan top acc s ≡ Some n
unfolding scan
scan_complete top acc [] n h =
    let z : acc ≡ n = omega (arith, h.1) in
    let g : acc ≤ top = omega (arith, h.2) in
    rw (le-leb acc top g) (ap Some z)
scan_complete top acc (b ∷ s) n h =
    rw (digit_yes b h.0.0.0 h.0.0.1)
    (scan_complete top (acc * 10 + (b - 48)) s n (h.0.1, h.1 ∙ sym (one_more acc (b - 48) (length s) (decimal s)), h.2))

zero_mul : (p r n : ℕ) → (n ≡ 0 * p + r) ↔ (n ≡ r)
zero_mul p r n = (λ e. omega arith, λ e. omega arith)

mag_sound : (top : ℕ) (s : List ℕ) (n : ℕ) → magnitude_of top s ≡ Some n → Digits s n × (n ≤ top)
unfolding magnitude_of
mag_sound top [] n e = let z : ◌≡◌ {A = ℕ} 0 1 = cc in absurd (differ z)
mag_sound top (b ∷ s) n e =
    let r = scan_sound top 0 (b ∷ s) n e in
    (record { some = omega arith; each = r.0; writes = (zero_mul _ _ n).0 r.1 }, r.2)

mag_complete : (top : ℕ) (s : List ℕ) (n : ℕ) → Digits s n → n ≤ top → magnitude_of top s ≡ Some n
unfolding magnitude_of
mag_complete top [] n d h = absurd (omega (arith, d.some))
mag_complete top (b ∷ s) n d h = scan_complete top 0 (b ∷ s) n (d.each, (zero_mul _ _ n).1 d.writes, h)

module _ (sign : Bool) (top : ℕ) (h : 0 < top) (z : ℤ) where
  pub sound : (s : List ℕ) → value z ≡ read_int sign top s → IntText sign top s z
  unfolding read_signed
  sound [] e = let y : ◌≡◌ {A = ℕ} 0 1 = cc in absurd (differ y)
  sound (b ∷ s) e = by_minus (eqb b 45) refl e
    where
      bad : value z ≡ none → IntText sign top (b ∷ s) z
      bad e' = let y : ◌≡◌ {A = ℕ} 0 1 = cc in absurd (differ y)

      minus_text : (m : (Option ℕ)) → magnitude_of top s ≡ m → b ≡ 45 → (t : Bool) → sign ≡ t → value z ≡ signed_of (pick t (minus m) None) → IntText sign top (b ∷ s) z
      minus_text (Some n) p q true g e' =
          let r = mag_sound top s n p in
          let y : z ≡ neg_ℤ (pos n) = cc in
          IntText.minus s n g (ap (λ (k : ℕ). k ∷ s) q) r.0 r.1 y
      minus_text None p q true g e' = bad e'
      minus_text (Some n) p q false g e' = bad e'
      minus_text None p q false g e' = bad e'

      plus_text : (m : (Option ℕ)) → magnitude_of (top - 1) s ≡ m → b ≡ 43 → value z ≡ signed_of (plus m) → IntText sign top (b ∷ s) z
      plus_text (Some n) p q e' =
          let r = mag_sound (top - 1) s n p in
          let y : z ≡ pos n = cc in
          IntText.plus s n (ap (λ (k : ℕ). k ∷ s) q) r.0 (omega (arith, r.1)) y
      plus_text None p q e' = bad e'

      plain_text : (m : (Option ℕ)) → magnitude_of (top - 1) (b ∷ s) ≡ m → value z ≡ signed_of (plus m) → IntText sign top (b ∷ s) z
      plain_text (Some n) p e' =
          let r = mag_sound (top - 1) (b ∷ s) n p in
          let y : z ≡ pos n = cc in
          IntText.plain n r.0 (omega (arith, r.1)) y
      plain_text None p e' = bad e'

      by_plus : (t : Bool) → eqb b 43 ≡ t → value z ≡ signed_of (pick t (plus (magnitude_of (top - 1) s)) (plus (magnitude_of (top - 1) (b ∷ s)))) → IntText sign top (b ∷ s) z
      by_plus true p e' = plus_text (magnitude_of (top - 1) s) refl (eqb-true b 43 p) e'
      by_plus false p e' = plain_text (magnitude_of (top - 1) (b ∷ s)) refl e'

      by_minus : (t : Bool) → eqb b 45 ≡ t → value z ≡ signed_of (pick t (pick sign (minus (magnitude_of top s)) None)
          (pick (eqb b 43) (plus (magnitude_of (top - 1) s)) (plus (magnitude_of (top - 1) (b ∷ s))))) → IntText sign top (b ∷ s) z
      by_minus true p e' = minus_text (magnitude_of top s) refl (eqb-true b 45 p) sign refl e'
      by_minus false p e' = by_plus (eqb b 43) refl e'

  pub complete : (s : List ℕ) → IntText sign top s z → value z ≡ read_int sign top s
  unfolding read_signed
  complete s (IntText.plus t n p d g e) = rw (p, mag_complete (top - 1) t n d (omega arith)) (ap value e)
  complete s (IntText.minus t n k p d g e) = rw (p, k, mag_complete top t n d g) (ap value e)
  complete s (IntText.plain n d g e) = go s d (mag_complete (top - 1) s n d (omega arith))
    where
      go : (s' : List ℕ) → Digits s' n → magnitude_of (top - 1) s' ≡ Some n → value z ≡ read_int sign top s'
      go [] d' p = absurd (omega (arith, d'.some))
      go (b ∷ t) d' p =
          let x = d'.each.0 in
          rw (ne_eqb b 45 (omega (arith, x.0)), ne_eqb b 43 (omega (arith, x.0)), p) (ap value e)

  -- a text is read as z exactly if it is an integer of value z
  pub reads : (s : List ℕ) → (value z ≡ read_int sign top s) ↔ IntText sign top s z
  reads s = (sound s, complete s)
