-- Digits with a dot, and an exponent, as the scan goes over them: what it finds is what the language says. Assumes nothing.
use Rattle.std.specs.Prelude.{None, Some}
use mathlib.Core.Path.{◌≡◌, refl, sym, ◌∙◌, ap}
use mathlib.Core.List.{List, [], ◌∷◌, ◌++◌, append-nil}
use mathlib.Core.Bool.{Bool, true, false}
use mathlib.Core.Logic.{◌⊎◌, inl, inr}
use Prim.Native.Nat.{ℕ, zero, suc, ◌+◌, ◌-◌, ◌<◌}
use native.Mathlib.Omega.{arith}
use lib.ListN.{length, length-append}
use lib.Dec.{ltb, eqb, lit≤}
use borrow.Author.Tests.{lt-ltb, le-ltb, ltb-true, eq-eqb, ne_eqb, eqb-true, eqb-false}
use Rattle.base.specs.Said.{pick}
use Rattle.numerals.specs.FloatText.{DottedDigits, Exponent}
use Rattle.integers.specs.Digits.{AllDigits}
use Rattle.numerals.specs.Scan.{digit_run_of, run_at, after_sign, after_dot, mark_at, digits_to_end, exponent_at, scaled as withExponent, ended_at, number_at}
use Rattle.numerals.specs.declared.Run.{Run}
use Rattle.numerals.specs.declared.Numeral.{Numeral}
use Rattle.numerals.proofs.Runs.{number_is, exponent_some}
use Rattle.numerals.proofs.Values.{grown_all, counted_all, grown_append, counted_append, Stops, run_over, split}
use Rattle.numerals.proofs.Places.{At, at_over, at_next, at_byte, at_more, at_end, NoSign, after_signed, unsigned}
use Rattle.numerals.proofs.Words.{Opens}
use Rattle.integers.specs.Digits.{is_digit}

-- where a run over digits ends
run_there : {s : List ℕ} {at : ℕ} (n count : ℕ) (ds r : List ℕ) → At s at (ds ++ r) → AllDigits ds → Stops r →
    run_at s n count at ≡ record { n = grown_all n ds; significant = counted_all n count ds; at = at + length ds }
run_there {s} {at} n count ds r h d e = ap (digit_run_of n count at) h.rest ∙ run_over n count at ds r d e

digits_sign : (s : List ℕ) → AllDigits s → NoSign s
digits_sign [] d = tt
digits_sign (b ∷ s) d = (λ e. omega (arith, d.0.0), λ e. omega (arith, d.0.0))

-- AN EXPONENT
mark_yes : {s : List ℕ} {at b : ℕ} {t : List ℕ} → At s at (b ∷ t) → (b ≡ 101) ⊎ (b ≡ 69) → mark_at s at ≡ true
mark_yes {s} {at} {b} h (inl e) = rw (lt-ltb at (length s) (at_more h), at_byte h, e)
mark_yes {s} {at} {b} h (inr e) = rw (lt-ltb at (length s) (at_more h), at_byte h, e)

pub exponent_complete : {s : List ℕ} {at : ℕ} {r : List ℕ} → At s at r → Exponent r → exponent_at s at ≡ true
exponent_complete {s} {at} {r} h x =
    let g : At s at (x.mark ∷ x.rest) = rw x.starts at h in
    let p : At s (after_sign s (at + 1)) x.digits = after_signed (at_next g) x.signs (digits_sign x.digits x.each) in
    let q : At s (after_sign s (at + 1)) (x.digits ++ []) = rw append-nil p in
    let e = run_there 0 0 x.digits [] q x.each tt in
    sym (exponent_some s at (mark_yes g x.marks) refl refl (rw e (omega (arith, x.some))))
    ∙ ap (λ (k : Run). eqb k.at (length s)) e ∙ eq-eqb _ _ (sym p.whole)

-- digits up to the end
all_digits : {s : List ℕ} (d r : List ℕ) → s ≡ d ++ r → length r ≡ 0 → AllDigits d → AllDigits s
all_digits {s} d r e h a = go r e h
  where
    go : (r : List ℕ) → s ≡ d ++ r → length r ≡ 0 → AllDigits s
    go [] f k = rw (f, append-nil) a
    go (b ∷ r) f k = absurd (omega arith)

to_end_sound : {s : List ℕ} {at : ℕ} {t : List ℕ} → At s at t → digits_to_end s at ≡ true → AllDigits t × (0 < length t)
to_end_sound {s} {at} {t} h e =
    let p = split t in
    let g : At s at (p.digits ++ p.rest) = rw p.both at h in
    let k = run_there 0 0 p.digits p.rest g p.each p.stops in
    go p.digits p.rest p.both p.each g (rw k at e)
  where
    go : (d r : List ℕ) → t ≡ d ++ r → AllDigits d → At s at (d ++ r) → pick (ltb at (at + length d)) (eqb (at + length d) (length s)) false ≡ true → AllDigits t × (0 < length t)
    go d r b a g f = by_start (ltb at (at + length d)) refl f
      where
        by_start : (q : Bool) → ltb at (at + length d) ≡ q → pick q (eqb (at + length d) (length s)) false ≡ true → AllDigits t × (0 < length t)
        by_start true i j =
            let l : at + length d ≡ length s = eqb-true _ _ j in
            let n : length r ≡ 0 = omega (arith, g.whole, length-append d r) in
            (all_digits d r b n a, omega (arith, ltb-true at (at + length d) i, h.whole))
        by_start false i j = let z : ◌≡◌ {A = ℕ} 0 1 = cc in absurd (omega arith)

pub exponent_sound : {s : List ℕ} {at : ℕ} (r : List ℕ) → At s at r → exponent_at s at ≡ true → Exponent r
exponent_sound {s} {at} [] h e =
    let k : mark_at s at ≡ false = rw (le-ltb at (length s) (omega (arith, at_end h))) in
    let f : false ≡ true = rw k at e in
    let z : ◌≡◌ {A = ℕ} 0 1 = cc in absurd (omega arith)
exponent_sound {s} {at} (b ∷ t) h e = by_mark (mark_at s at) refl e
  where
    marks : mark_at s at ≡ true → (b ≡ 101) ⊎ (b ≡ 69)
    marks k = go (eqb b 101) refl (rw (lt-ltb at (length s) (at_more h), at_byte h) at k)
      where
        go : (q : Bool) → eqb b 101 ≡ q → pick q true (eqb b 69) ≡ true → (b ≡ 101) ⊎ (b ≡ 69)
        go true i j = inl (eqb-true b 101 i)
        go false i j = inr (eqb-true b 69 j)

    by_mark : (q : Bool) → mark_at s at ≡ q → pick q (digits_to_end s (after_sign s (at + 1))) false ≡ true → Exponent (b ∷ t)
    by_mark true k f =
        let u = unsigned t (at_next h) in
        let d = to_end_sound u.place f in
        record { mark = b; rest = t; negative = u.negative; digits = u.body; starts = refl; marks = marks k; signs = u.signed; each = d.0; some = d.1 }
    by_mark false k f = let z : ◌≡◌ {A = ℕ} 0 1 = cc in absurd (omega arith)

-- THE END OF A NUMBER
pub ended_plain : {s : List ℕ} {end : ℕ} (found : ℕ) (x : Numeral) → 0 < found → At s end [] → ended_at s found x end ≡ Some x
ended_plain {s} {end} found x h a = rw (ne_eqb found 0 (λ e. omega arith), eq-eqb end (length s) (at_end a))

pub ended_scaled : {s : List ℕ} {end : ℕ} {r : List ℕ} (found : ℕ) (x : Numeral) → 0 < found → At s end r → Exponent r → ended_at s found x end ≡ Some (withExponent x)
ended_scaled {s} {end} {r} found x h a e =
    let g : At s end (e.mark ∷ e.rest) = rw e.starts at a in
    rw (ne_eqb found 0 (λ k. omega arith), ne_eqb end (length s) (λ k. omega (arith, at_more g)), exponent_complete a e)

-- a numeral was found, and nothing or an exponent follows
pub data Ended (r : List ℕ) (x y : Numeral) : Type 0 where
  plain : r ≡ [] → x ≡ y → Ended r x y
  scaled : Exponent r → withExponent x ≡ y → Ended r x y

pub ended_sound : {s : List ℕ} {end : ℕ} (r : List ℕ) (found : ℕ) (x y : Numeral) → At s end r → ended_at s found x end ≡ Some y → (0 < found) × Ended r x y
ended_sound {s} {end} r found x y a e = by_found (eqb found 0) refl e
  where
    nothing : (r' : List ℕ) → At s end r' → end ≡ length s → r' ≡ []
    nothing [] b k = refl
    nothing (c ∷ r') b k = absurd (omega (arith, at_more b))

    by_exponent : (q : Bool) → exponent_at s end ≡ q → pick q (Some (withExponent x)) None ≡ Some y → Ended r x y
    by_exponent true k f = Ended.scaled (exponent_sound r a k) (let z : withExponent x ≡ y = cc in z)
    by_exponent false k f = let z : ◌≡◌ {A = ℕ} 0 1 = cc in absurd (omega arith)

    by_end : (q : Bool) → eqb end (length s) ≡ q → pick q (Some x) (pick (exponent_at s end) (Some (withExponent x)) None) ≡ Some y → Ended r x y
    by_end true k f = Ended.plain (nothing r a (eqb-true end (length s) k)) (let z : x ≡ y = cc in z)
    by_end false k f = by_exponent (exponent_at s end) refl f

    by_found : (q : Bool) → eqb found 0 ≡ q → pick q None (pick (eqb end (length s)) (Some x) (pick (exponent_at s end) (Some (withExponent x)) None)) ≡ Some y → (0 < found) × Ended r x y
    by_found true k f = let z : ◌≡◌ {A = ℕ} 0 1 = cc in absurd (omega arith)
    by_found false k f = (pos_of_ne found (eqb-false found 0 k), by_end (eqb end (length s)) refl f)
      where
        pos_of_ne : (n : ℕ) → (n ≡ 0 → ⊥) → 0 < n
        pos_of_ne zero g = absurd (g refl)
        pos_of_ne (suc n) g = omega arith

-- DIGITS WITH A DOT
-- what the scan makes of them
abbrev pub numeral_of : Bool → List ℕ → List ℕ → Numeral
numeral_of negative whole part =
    record { negative = negative; n = grown_all 0 (whole ++ part); significant = counted_all 0 0 (whole ++ part); places = length part; plain = true }

-- the number from `from` on is these digits, and r follows
pub record ScannedAs (s : List ℕ) (negative : Bool) (from : ℕ) (whole part r : List ℕ) : Type 0 where
  pub end : ℕ
  pub place : At s end r
  pub is : number_at s negative from ≡ ended_at s (length whole + length part) (numeral_of negative whole part) end

-- a text that does not start with a dot
abbrev pub NoDot : List ℕ → Type 0
NoDot [] = Unit {0}
NoDot (b ∷ t) = b ≡ 46 → ⊥

no_dot : {s : List ℕ} (r : List ℕ) (at : ℕ) → At s at r → NoDot r → after_dot s at ≡ at
no_dot {s} [] at g n = rw (le-ltb at (length s) (omega (arith, at_end g)))
no_dot {s} (b ∷ r) at g n = rw (lt-ltb at (length s) (at_more g), at_byte g, ne_eqb b 46 n)

module _ {s : List ℕ} (negative : Bool) {from : ℕ} where
  numbered : (whole rest part r : List ℕ) (dot : ℕ) → At s from (whole ++ rest) → AllDigits whole → Stops rest →
      after_dot s (from + length whole) ≡ dot → At s dot (part ++ r) → AllDigits part → Stops r → ScannedAs s negative from whole part r
  numbered whole rest part r dot h dw sr d g dp sp =
      let w = run_there 0 0 whole rest h dw sr in
      let p = run_there (grown_all 0 whole) (counted_all 0 0 whole) part r g dp sp in
      let y : from + length whole - from ≡ length whole = omega arith in
      let z : dot + length part - dot ≡ length part = omega arith in
      record {
        end = dot + length part;
        place = at_over part r g;
        is =
            sym (number_is s negative from (sym w) (sym d) (sym p))
            ∙ ap (λ (i : ℕ). ended_at s (i + (dot + length part - dot)) (record { negative = negative; n = grown_all (grown_all 0 whole) part; significant = counted_all (grown_all 0 whole) (counted_all 0 0 whole) part; places = dot + length part - dot; plain = true }) (dot + length part)) y
            ∙ ap (λ (i : ℕ). ended_at s (length whole + i) (record { negative = negative; n = grown_all (grown_all 0 whole) part; significant = counted_all (grown_all 0 whole) (counted_all 0 0 whole) part; places = i; plain = true }) (dot + length part)) z
            ∙ ap (λ (i : ℕ). ended_at s (length whole + length part) (record { negative = negative; n = i; significant = counted_all (grown_all 0 whole) (counted_all 0 0 whole) part; places = length part; plain = true }) (dot + length part)) (grown_append 0 whole part)
            ∙ ap (λ (i : ℕ). ended_at s (length whole + length part) (record { negative = negative; n = grown_all 0 (whole ++ part); significant = i; places = length part; plain = true }) (dot + length part)) (counted_append 0 0 whole part);
      }

  -- with a dot
  pub numbered_dot : (whole part r : List ℕ) → At s from (whole ++ (46 ∷ (part ++ r))) → AllDigits whole → AllDigits part → Stops r → ScannedAs s negative from whole part r
  numbered_dot whole part r h dw dp sp =
      let g = at_over whole (46 ∷ (part ++ r)) h in
      numbered whole (46 ∷ (part ++ r)) part r (from + length whole + 1) h dw refl
      (rw (lt-ltb (from + length whole) (length s) (at_more g), at_byte g)) (at_next g) dp sp

  -- without one
  pub numbered_plain : (whole r : List ℕ) → At s from (whole ++ r) → AllDigits whole → Stops r → NoDot r → ScannedAs s negative from whole [] r
  numbered_plain whole r h dw sr n =
      let g = at_over whole r h in
      numbered whole r [] r (from + length whole) h dw sr (no_dot r (from + length whole) g n) g tt sr

-- digits with a dot open a text, and what follows an exponent's mark stops them
pub digits_open : {s whole part : List ℕ} → DottedDigits s whole part → Opens s
digits_open {s} {whole} {part} d = go whole part d.first d.some d.writes
  where
    go : (w p : List ℕ) → AllDigits w → 0 < length w + length p → (s ≡ w ++ (46 ∷ p)) ⊎ ((s ≡ w) × (p ≡ [])) → Opens s
    go [] p a k (inl e) = rw e (lit≤ tt, lit≤ tt)
    go [] p a k (inr e) = absurd (omega (arith, ap length e.1))
    go (b ∷ w) p a k (inl e) = rw e (omega (arith, a.0), a.0.1)
    go (b ∷ w) p a k (inr e) = rw e.0 (omega (arith, a.0), a.0.1)

pub exponent_stops : {r : List ℕ} → Exponent r → Stops r × NoDot r
exponent_stops {r} x = rw x.starts (go x.mark x.marks)
  where
    go : (b : ℕ) → (b ≡ 101) ⊎ (b ≡ 69) → (is_digit b ≡ false) × (b ≡ 46 → ⊥)
    go b (inl e) = (rw e, λ f. omega arith)
    go b (inr e) = (rw e, λ f. omega arith)
