-- THE THEOREMS OF DECIMALS, document 01, "Lines", Decimal: a text gives v exactly if it is a supported f64 text whose
-- nearest f64 is v; it is unsupported (9) exactly for one of the four causes; all others are no numerals. Assumes nothing.
use Rattle.std.specs.Prelude.{None, Some, Option, Ok, Err}
use Rattle.std.proofs.Common.{◌≡◌, ℕ, ◌^◌, ◌<◌, ◌≤◌, Bool, true, false, leb, ◌↔◌, List, ◌++◌, length, sym, refl, ap, ◌∙◌, arith, le-leb, leb-false}
use lib.Ieee.{Float, round, binary64}
use borrow.Author.Tests.{lt-leb}
use Rattle.base.specs.Said.{pick}
use Rattle.decimals.specs.DecimalText.{from_nonzero, Form, FloatText, Unsupported, UnsupportedText, DecimalText}
use Rattle.integers.specs.Digits.{decimal}
use Rattle.numerals.specs.Scan.{scan_of}
use Rattle.decimals.specs.DecimalScan.{supported, valued, judged, read_decimal}
use Rattle.numerals.specs.declared.Numeral.{Numeral}
use Rattle.decimals.specs.declared.DecimalError.TheVariants as answer
use Rattle.decimals.proofs.Answers.{supported_says}
use Rattle.numerals.proofs.Scans.{SeenPlain, Seen, complete, sound}

-- THE FOUR CAUSES
not_both : {p : Bool} → p ≡ true → p ≡ false → ⊥
not_both e f = let z : ◌≡◌ {A = ℕ} 0 1 = cc in omega arith

not_over : {n : ℕ} → (18 < n → ⊥) → n ≤ 18
not_over k = omega (arith, k)

-- a numeral of a form that is not unsupported is taken
taken : {negative : Bool} {whole part : List ℕ} (x : Numeral) → SeenPlain negative whole part x → (Unsupported (Form.plain negative whole part) → ⊥) → supported x ≡ true
taken {negative} {whole} {part} x v h =
    let a : x.significant ≤ 18 = rw v.count (not_over (λ k. h (Unsupported.long k))) in
    let b : x.places ≤ 18 = rw v.places (not_over (λ k. h (Unsupported.deep k))) in
    rw (v.plain, le-leb _ 18 a, le-leb _ 18 b)

-- a numeral of an unsupported form is not
left : {f : Form} (x : Numeral) → Unsupported f → Seen f x → supported x ≡ false
left x Unsupported.exponent v = rw v
left x Unsupported.word v = rw v
left x (Unsupported.long h) v = rw (v.plain, lt-leb x.significant 18 (rw v.count h))
left x (Unsupported.deep h) v = rw (v.plain, lt-leb x.places 18 (rw v.places h)) (neither (leb x.significant 18))
  where
    neither : (p : Bool) → pick p false false ≡ false
    neither true = refl
    neither false = refl

-- and the other way
cause : (f : Form) (x : Numeral) → Seen f x → supported x ≡ false → Unsupported f
cause Form.scaled x v h = Unsupported.exponent
cause Form.word x v h = Unsupported.word
cause (Form.plain negative whole part) x v h = go (leb x.significant 18) refl (rw v.plain at h)
  where
    go : (p : Bool) → leb x.significant 18 ≡ p → pick p (leb x.places 18) false ≡ false → Unsupported (Form.plain negative whole part)
    go true e k = Unsupported.deep (rw v.places at (leb-false x.places 18 k))
    go false e k = Unsupported.long (rw v.count at (leb-false x.significant 18 e))

taken_form : (f : Form) (x : Numeral) → Seen f x → supported x ≡ true → Unsupported f → ⊥
taken_form f x v h u = not_both h (left x u v)

few : {negative : Bool} {whole part : List ℕ} → (Unsupported (Form.plain negative whole part) → ⊥) → length (from_nonzero (whole ++ part)) ≤ 18
few h = not_over (λ k. h (Unsupported.long k))

same_value : {negative : Bool} {whole part : List ℕ} (x : Numeral) → SeenPlain negative whole part x → length (from_nonzero (whole ++ part)) ≤ 18 →
    valued x ≡ round binary64 negative (decimal (whole ++ part)) (10 ^ length part)
same_value x v h = rw (v.sign, v.value h, v.places)

-- THE ANSWERS
-- what was scanned
data Told (s : List ℕ) : Type 0 where
  bad : scan_of s ≡ None → read_decimal s ≡ (Err answer.Bad) → Told s
  out : (x : Numeral) → scan_of s ≡ Some x → supported x ≡ false → read_decimal s ≡ (Err answer.Unsupported) → Told s
  in_form : (x : Numeral) → scan_of s ≡ Some x → supported x ≡ true → read_decimal s ≡ Ok (valued x) → Told s

told : (s : List ℕ) → Told s
unfolding read_decimal
told s = go (scan_of s) refl
  where
    by : (x : Numeral) (t : Bool) → supported x ≡ t → scan_of s ≡ Some x → judged (scan_of s) ≡ pick t (Ok (valued x)) (Err answer.Unsupported) → Told s
    by x true e f g = Told.in_form x f e g
    by x false e f g = Told.out x f e g

    go : (r : (Option Numeral)) → scan_of s ≡ r → Told s
    go None e = Told.bad e (rw e)
    go (Some x) e = by x (supported x) refl e (rw e)

-- a text gives v exactly if it is a decimal whose nearest f64 is v
pub gives_sound : (s : List ℕ) (v : Float) → read_decimal s ≡ Ok v → DecimalText s v
gives_sound s v e = go (told s)
  where
    of_form : (f : Form) (x : Numeral) → FloatText s f → Seen f x → supported x ≡ true → valued x ≡ v → DecimalText s v
    of_form Form.scaled x t n h k = absurd (not_both (supported_says x h).plain n)
    of_form Form.word x t n h k = absurd (not_both (supported_says x h).plain n)
    of_form (Form.plain negative whole part) x t n h k =
        let a = taken_form (Form.plain negative whole part) x n h in
        record { negative = negative; whole = whole; part = part; text = t; taken = a; nearest = sym k ∙ same_value x n (few a) }

    go : Told s → DecimalText s v
    go (Told.bad f g) = let z : ◌≡◌ {A = ℕ} 0 1 = cc in absurd (omega arith)
    go (Told.out x f h g) = let z : ◌≡◌ {A = ℕ} 0 1 = cc in absurd (omega arith)
    go (Told.in_form x f h g) =
        let k : valued x ≡ v = cc in
        let d = sound s x f in
        of_form d.form x d.text d.seen h k

pub gives_complete : (s : List ℕ) (v : Float) → DecimalText s v → read_decimal s ≡ Ok v
unfolding read_decimal
gives_complete s v d =
    let c = complete d.text in
    rw (c.is, taken c.numeral c.seen d.taken) (ap Ok (same_value c.numeral c.seen (few d.taken) ∙ sym d.nearest))

pub gives : (s : List ℕ) (v : Float) → (read_decimal s ≡ Ok v) ↔ DecimalText s v
gives s v = (gives_sound s v, gives_complete s v)

-- 9 exactly for an exponent, a word, over 18 digits from the first nonzero one on, or over 18 after the dot
pub leaves_sound : (s : List ℕ) → read_decimal s ≡ (Err answer.Unsupported) → UnsupportedText s
leaves_sound s e = go (told s)
  where
    go : Told s → UnsupportedText s
    go (Told.bad f g) = let z : ◌≡◌ {A = ℕ} 0 1 = cc in absurd (omega arith)
    go (Told.out x f h g) = let d = sound s x f in record { form = d.form; text = d.text; cause = cause d.form x d.seen h }
    go (Told.in_form x f h g) = let z : ◌≡◌ {A = ℕ} 0 1 = cc in absurd (omega arith)

pub leaves_complete : (s : List ℕ) → UnsupportedText s → read_decimal s ≡ (Err answer.Unsupported)
unfolding read_decimal
leaves_complete s u = let c = complete u.text in rw (c.is, left c.numeral u.cause c.seen)

pub leaves : (s : List ℕ) → (read_decimal s ≡ (Err answer.Unsupported)) ↔ UnsupportedText s
leaves s = (leaves_sound s, leaves_complete s)

-- no numeral exactly if it is no f64 text
pub refuses_sound : (s : List ℕ) → read_decimal s ≡ (Err answer.Bad) → (f : Form) → FloatText s f → ⊥
refuses_sound s e f t = let c = complete t in go (told s) c.is
  where
    go : Told s → {x : Numeral} → scan_of s ≡ Some x → ⊥
    go (Told.bad h g) k = let z : ◌≡◌ {A = ℕ} 0 1 = cc in omega arith
    go (Told.out y h i g) k = let z : ◌≡◌ {A = ℕ} 0 1 = cc in omega arith
    go (Told.in_form y h i g) k = let z : ◌≡◌ {A = ℕ} 0 1 = cc in omega arith

pub refuses_complete : (s : List ℕ) → ((f : Form) → FloatText s f → ⊥) → read_decimal s ≡ (Err answer.Bad)
refuses_complete s h = go (told s)
  where
    go : Told s → read_decimal s ≡ (Err answer.Bad)
    go (Told.bad f g) = g
    go (Told.out x f i g) = let d = sound s x f in absurd (h d.form d.text)
    go (Told.in_form x f i g) = let d = sound s x f in absurd (h d.form d.text)

pub refuses : (s : List ℕ) → (read_decimal s ≡ (Err answer.Bad)) ↔ ((f : Form) → FloatText s f → ⊥)
refuses s = (refuses_sound s, refuses_complete s)

-- one reading: a text is a decimal of one value
pub one_reading : (s : List ℕ) (v w : Float) → DecimalText s v → DecimalText s w → v ≡ w
one_reading s v w a b = let p = gives_complete s v a in let q = gives_complete s w b in cc
