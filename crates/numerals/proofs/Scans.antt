-- What a scan has seen: every f64 text is scanned as what it is, and what is scanned is an f64 text. Assumes nothing.
use Rattle.std.specs.Prelude.{Some}
use mathlib.Core.Path.{◌≡◌, refl, sym, ◌∙◌, ap}
use mathlib.Core.List.{List, [], ◌∷◌, ◌++◌, append-nil, append_assoc}
use mathlib.Core.Bool.{Bool, true, false}
use mathlib.Core.Logic.{◌⊎◌, inl, inr}
use Prim.Native.Nat.{ℕ, ◌+◌, ◌≤◌}
use lib.ListN.{length}
use lib.Dec.{eqb}
use borrow.Author.Tests.{eqb-true, eqb-false}
use Rattle.base.specs.Said.{pick}
use Rattle.numerals.specs.FloatText.{from_nonzero, DottedDigits, Form, FloatText}
use Rattle.integers.specs.Digits.{AllDigits, decimal}
use Rattle.integers.proofs.Digits.{all_append}
use Rattle.numerals.specs.Scan.{after_sign, word_at, minus_first, number_at, scaled as withExponent, scan_of}
use Rattle.numerals.specs.declared.Numeral.{Numeral}
use Rattle.numerals.proofs.Values.{Stops, split, counted_is, value_is}
use Rattle.numerals.proofs.Places.{At, at_start, after_signed, signed_minus, Unsigned, unsigned}
use Rattle.numerals.proofs.Words.{Opens, opens_sign, opens_word, word_sound, word_complete, word_sign}
use Rattle.numerals.proofs.Numbers.{ScannedAs, numbered_dot, numbered_plain, NoDot, numeral_of, Ended, ended_plain, ended_scaled, ended_sound, digits_open, exponent_stops}

-- what a numeral has of the digits it was scanned from
pub record SeenPlain (negative : Bool) (whole part : List ℕ) (x : Numeral) : Type 0 where
  pub sign : x.negative ≡ negative
  pub plain : x.plain ≡ true
  pub count : x.significant ≡ length (from_nonzero (whole ++ part))
  pub places : x.places ≡ length part
  pub value : length (from_nonzero (whole ++ part)) ≤ 18 → x.n ≡ decimal (whole ++ part)

abbrev pub Seen : Form → Numeral → Type 0
Seen (Form.plain negative whole part) x = SeenPlain negative whole part x
Seen Form.scaled x = x.plain ≡ false
Seen Form.word x = x.plain ≡ false

seen_plain : {negative sign : Bool} (whole part : List ℕ) → sign ≡ negative → AllDigits whole → AllDigits part → SeenPlain negative whole part (numeral_of sign whole part)
seen_plain whole part e a b =
    let d = all_append whole part a b in
    record { sign = e; plain = refl; count = counted_is (whole ++ part) d; places = refl; value = value_is (whole ++ part) d }

-- the numeral that a text was scanned as
pub record Scan (s : List ℕ) (f : Form) : Type 0 where
  pub numeral : Numeral
  pub is : scan_of s ≡ Some numeral
  pub seen : Seen f numeral

-- digits with a dot, where a text goes on with r
number_of : {s : List ℕ} (negative : Bool) {from : ℕ} {whole part : List ℕ} (m r : List ℕ) → At s from (m ++ r) → DottedDigits m whole part → Stops r → NoDot r → ScannedAs s negative from whole part r
number_of {s} negative {from} {whole} {part} m r h d a b = go part d.second d.writes
  where
    go : (p : List ℕ) → AllDigits p → (m ≡ whole ++ (46 ∷ p)) ⊎ ((m ≡ whole) × (p ≡ [])) → ScannedAs s negative from whole p r
    go p q (inl e) =
        let z : m ++ r ≡ whole ++ (46 ∷ (p ++ r)) = ap (λ (l : List ℕ). l ++ r) e ∙ append_assoc whole (46 ∷ p) r in
        numbered_dot negative whole p r (rw z at h) d.first q a
    go p q (inr e) =
        let z : m ++ r ≡ whole ++ r = ap (λ (l : List ℕ). l ++ r) e.0 in
        rw e.1 (numbered_plain negative whole r (rw z at h) d.first a b)

opens_append : (a b : List ℕ) → Opens a → Opens (a ++ b)
opens_append [] b h = absurd h
opens_append (c ∷ a) b h = h

-- every f64 text is scanned as what it is
pub complete : {s : List ℕ} {f : Form} → FloatText s f → Scan s f
unfolding scan_of
complete {s} (FloatText.plain {negative} {body} {whole} {part} sg d) =
    let o = digits_open d in
    let n = opens_sign body o in
    let a : At s (after_sign s 0) body = after_signed (at_start s) sg n in
    let b : At s (after_sign s 0) (body ++ []) = rw append-nil a in
    let N = number_of (minus_first s) body [] b d tt tt in
    record {
      numeral = numeral_of (minus_first s) whole part;
      is = rw (opens_word s (after_sign s 0) body a.rest o) (N.is ∙ ended_plain _ _ d.some N.place);
      seen = seen_plain whole part (signed_minus sg n) d.first d.second;
    }
complete {s} (FloatText.scaled {negative} {body} {m} {whole} {part} {x} sg e d k) =
    let o : Opens body = rw e (opens_append m x (digits_open d)) in
    let n = opens_sign body o in
    let a : At s (after_sign s 0) body = after_signed (at_start s) sg n in
    let t = exponent_stops k in
    let N = number_of (minus_first s) m x (rw e at a) d t.0 t.1 in
    record { numeral = withExponent (numeral_of (minus_first s) whole part); is = rw (opens_word s (after_sign s 0) body a.rest o) (N.is ∙ ended_scaled _ _ d.some N.place k); seen = refl }
complete {s} (FloatText.word {negative} {body} sg w) =
    let a : At s (after_sign s 0) body = after_signed (at_start s) sg (word_sign w) in
    record { numeral = record { negative = minus_first s; n = 0; significant = 0; places = 0; plain = false }; is = rw (word_complete s (after_sign s 0) a.rest w); seen = refl }

-- what a scan answers is an f64 text
pub record Found (s : List ℕ) (x : Numeral) : Type 0 where
  pub form : Form
  pub text : FloatText s form
  pub seen : Seen form x

module _ (s : List ℕ) (x : Numeral) (u : Unsigned s s 0) where
  finish : (m whole part r : List ℕ) → u.body ≡ m ++ r → AllDigits whole → AllDigits part → (m ≡ whole ++ (46 ∷ part)) ⊎ ((m ≡ whole) × (part ≡ [])) →
      ScannedAs s (minus_first s) (after_sign s 0) whole part r → number_at s (minus_first s) (after_sign s 0) ≡ Some x → Found s x
  finish m whole part r e a b w N h =
      let k = ended_sound r (length whole + length part) (numeral_of (minus_first s) whole part) x N.place (sym N.is ∙ h) in
      let d : DottedDigits m whole part = record { first = a; second = b; some = k.0; writes = w } in
      go d k.1
    where
      go : DottedDigits m whole part → Ended r (numeral_of (minus_first s) whole part) x → Found s x
      go d (Ended.plain f g) =
          let z : u.body ≡ m = e ∙ ap (λ (l : List ℕ). m ++ l) f ∙ append-nil m in
          let c : DottedDigits u.body whole part = rw z d in
          record {
            form = Form.plain u.negative whole part;
            text = FloatText.plain u.signed c;
            seen = rw (← g) (seen_plain whole part (signed_minus u.signed (opens_sign u.body (digits_open c))) a b);
          }
      go d (Ended.scaled f g) =
          record { form = Form.scaled; text = FloatText.scaled u.signed e d f; seen = sym (ap (λ (y : Numeral). y.plain) g) }

  by_rest : (whole r : List ℕ) → u.body ≡ whole ++ r → AllDigits whole → Stops r → number_at s (minus_first s) (after_sign s 0) ≡ Some x → Found s x
  by_rest whole [] e a t h =
      let g : At s (after_sign s 0) (whole ++ []) = rw e at u.place in
      finish whole whole [] [] e a tt (inr (refl, refl)) (numbered_plain (minus_first s) whole [] g a tt tt) h
  by_rest whole (b ∷ r) e a t h = go (eqb b 46) refl
    where
      go : (q : Bool) → eqb b 46 ≡ q → Found s x
      go true k =
          let p = split r in
          let z : u.body ≡ whole ++ (46 ∷ (p.digits ++ p.rest)) = e ∙ ap (λ (i : ℕ). whole ++ (i ∷ r)) (eqb-true b 46 k) ∙ ap (λ (l : List ℕ). whole ++ (46 ∷ l)) p.both in
          let g : At s (after_sign s 0) (whole ++ (46 ∷ (p.digits ++ p.rest))) = rw z at u.place in
          finish (whole ++ (46 ∷ p.digits)) whole p.digits p.rest (z ∙ sym (append_assoc whole (46 ∷ p.digits) p.rest)) a p.each (inl refl)
          (numbered_dot (minus_first s) whole p.digits p.rest g a p.each p.stops) h
      go false k =
          let g : At s (after_sign s 0) (whole ++ (b ∷ r)) = rw e at u.place in
          finish whole whole [] (b ∷ r) e a tt (inr (refl, refl)) (numbered_plain (minus_first s) whole (b ∷ r) g a t (eqb-false b 46 k)) h

pub sound : (s : List ℕ) (x : Numeral) → scan_of s ≡ Some x → Found s x
unfolding scan_of
sound s x e = by_word (word_at s (after_sign s 0)) refl e
  where
    u : Unsigned s s 0
    u = unsigned s (at_start s)

    by_word : (t : Bool) → word_at s (after_sign s 0) ≡ t →
        pick t (Some (record { negative = minus_first s; n = 0; significant = 0; places = 0; plain = false })) (number_at s (minus_first s) (after_sign s 0)) ≡ Some x → Found s x
    by_word true k h =
        let z : record { negative = minus_first s; n = 0; significant = 0; places = 0; plain = false } ≡ x = cc in
        record { form = Form.word; text = FloatText.word u.signed (word_sound s (after_sign s 0) u.place.rest k); seen = sym (ap (λ (y : Numeral). y.plain) z) }
    by_word false k h =
        let p = split u.body in
        by_rest s x u p.digits p.rest p.both p.each p.stops h
