-- What stands in a text from a place on, and the steps over a sign, a dot, a run and an exponent. Assumes nothing.
use mathlib.Core.Path.{◌≡◌, refl, sym, ◌∙◌, ap}
use mathlib.Core.List.{List, [], ◌∷◌, ◌++◌}
use mathlib.Core.Bool.{Bool, true, false}
use Prim.Native.Nat.{ℕ, suc, ◌+◌, ◌<◌}
use native.Mathlib.Omega.{arith}
use lib.ListN.{length, get_or, drop, length-append}
use lib.Seq.{drop-drop, drop-append_seam, get_or-drop}
use lib.Dec.{eqb}
use borrow.Author.Tests.{lt-ltb, le-ltb, eqb-true, eqb-false, ne_eqb}
use Rattle.numerals.specs.FloatText.{OptionalSign}
use Rattle.numerals.specs.Scan.{after_sign, minus_first}

-- t is what stands in s from `at` on
pub record At (s : List ℕ) (at : ℕ) (t : List ℕ) : Type 0 where
  pub rest : drop at s ≡ t
  pub whole : length s ≡ at + length t

pub at_start : (s : List ℕ) → At s 0 s
at_start s = record { rest = refl; whole = omega arith }

pub at_over : {s : List ℕ} {at : ℕ} (a t : List ℕ) → At s at (a ++ t) → At s (at + length a) t
at_over {s} {at} a t h =
    record { rest = sym (drop-drop (length a) at s) ∙ ap (drop (length a)) h.rest ∙ drop-append_seam a t; whole = omega (arith, h.whole, length-append a t) }

pub at_next : {s : List ℕ} {at b : ℕ} {t : List ℕ} → At s at (b ∷ t) → At s (at + 1) t
at_next {s} {at} {b} {t} h = at_over (b ∷ []) t h

pub at_byte : {s : List ℕ} {at b : ℕ} {t : List ℕ} → At s at (b ∷ t) → get_or s at 0 ≡ b
at_byte {s} {at} {b} {t} h =
    let z : at + 0 ≡ at = omega arith in
    ap (λ (i : ℕ). get_or s i 0) (sym z) ∙ sym (get_or-drop at s 0 0) ∙ ap (λ (l : List ℕ). get_or l 0 0) h.rest

pub at_more : {s : List ℕ} {at b : ℕ} {t : List ℕ} → At s at (b ∷ t) → at < length s
at_more h = omega (arith, h.whole)

pub at_end : {s : List ℕ} {at : ℕ} → At s at [] → at ≡ length s
at_end h = omega (arith, h.whole)

-- a byte that is no sign, or nothing
abbrev pub NoSign : List ℕ → Type 0
NoSign [] = Unit {0}
NoSign (b ∷ s) = (b ≡ 43 → ⊥) × (b ≡ 45 → ⊥)

pub sign_none : {s : List ℕ} {at : ℕ} (t : List ℕ) → At s at t → NoSign t → after_sign s at ≡ at
sign_none {s} {at} [] h n = rw (le-ltb at (length s) (omega (arith, at_end h)))
sign_none {s} {at} (b ∷ t) h n = rw (lt-ltb at (length s) (at_more h), at_byte h, ne_eqb b 43 n.0, ne_eqb b 45 n.1)

pub sign_plus : {s : List ℕ} {at : ℕ} {t : List ℕ} → At s at (43 ∷ t) → after_sign s at ≡ at + 1
sign_plus {s} {at} h = rw (lt-ltb at (length s) (at_more h), at_byte h)

pub sign_minus : {s : List ℕ} {at : ℕ} {t : List ℕ} → At s at (45 ∷ t) → after_sign s at ≡ at + 1
sign_minus {s} {at} h = rw (lt-ltb at (length s) (at_more h), at_byte h)

-- after an optional sign stands the body, where that starts with no sign
pub after_signed : {s : List ℕ} {at : ℕ} {t : List ℕ} {negative : Bool} {body : List ℕ} → At s at t → OptionalSign t negative body → NoSign body → At s (after_sign s at) body
after_signed {s} {at} {t} {negative} {body} h (OptionalSign.none e f) n = let g : At s at body = rw e at h in rw (sign_none body g n) g
after_signed {s} {at} {t} {negative} {body} h (OptionalSign.plus e f) n = let g : At s at (43 ∷ body) = rw e at h in rw (sign_plus g) (at_next g)
after_signed {s} {at} {t} {negative} {body} h (OptionalSign.minus e f) n = let g : At s at (45 ∷ body) = rw e at h in rw (sign_minus g) (at_next g)

no_minus : (s : List ℕ) → NoSign s → minus_first s ≡ false
no_minus [] n = refl
no_minus (b ∷ s) n = rw (lt-ltb 0 (suc (length s)) (omega arith), ne_eqb b 45 n.1)

-- the sign that the text has
pub signed_minus : {s : List ℕ} {negative : Bool} {body : List ℕ} → OptionalSign s negative body → NoSign body → minus_first s ≡ negative
signed_minus {s} {negative} {body} (OptionalSign.none e f) n = rw (e, f) (no_minus body n)
signed_minus {s} {negative} {body} (OptionalSign.plus e f) n = rw (e, f, lt-ltb 0 (suc (length body)) (omega arith))
signed_minus {s} {negative} {body} (OptionalSign.minus e f) n = rw (e, f, lt-ltb 0 (suc (length body)) (omega arith))

-- what stands after the sign of a text, whatever it is
pub record Unsigned (s t : List ℕ) (at : ℕ) : Type 0 where
  pub negative : Bool
  pub body : List ℕ
  pub signed : OptionalSign t negative body
  pub place : At s (after_sign s at) body

pub unsigned : {s : List ℕ} {at : ℕ} (t : List ℕ) → At s at t → Unsigned s t at
unsigned {s} {at} [] h = record { negative = false; body = []; signed = OptionalSign.none refl refl; place = rw (sign_none [] h tt) h }
unsigned {s} {at} (b ∷ t) h = go (eqb b 43) refl (eqb b 45) refl
  where
    go : (p : Bool) → eqb b 43 ≡ p → (q : Bool) → eqb b 45 ≡ q → Unsigned s (b ∷ t) at
    go true e q f =
        let z = eqb-true b 43 e in
        let g : At s at (43 ∷ t) = rw z at h in
        record { negative = false; body = t; signed = OptionalSign.plus (ap (λ (x : ℕ). x ∷ t) z) refl; place = rw (sign_plus g) (at_next g) }
    go false e true f =
        let z = eqb-true b 45 f in
        let g : At s at (45 ∷ t) = rw z at h in
        record { negative = true; body = t; signed = OptionalSign.minus (ap (λ (x : ℕ). x ∷ t) z) refl; place = rw (sign_minus g) (at_next g) }
    go false e false f = record { negative = false; body = b ∷ t; signed = OptionalSign.none refl refl; place = rw (sign_none (b ∷ t) h (eqb-false b 43 e, eqb-false b 45 f)) h }
