-- VALUES AS PUBLISHED, read by document 01: where 01 reads them, a whole number and a degree are the same there and a frequency is its
-- nearest f64; and each is a word. Assumes nothing.
use Rattle.std.specs.Prelude.{Some, Option}
use mathlib.Core.Path.{◌≡◌, refl, sym, ap, ◌∙◌, subst}
use mathlib.Core.Bool.{Bool, true, false}
use mathlib.Core.List.{List, [], ◌∷◌, ◌++◌}
use mathlib.Core.Logic.{◌⊎◌, inl, inr}
use Prim.Native.Nat.{ℕ, ◌^◌, ◌≤◌, ◌<◌}
use native.Mathlib.Omega.{arith}
use lib.Ieee.{Float, round, binary64}
use lib.IntN.{ℤ, pos}
use lib.ListN.{length, length-append}
use Rattle.kbm_read.specs.Language.{EntryText, Entries}
use Rattle.kbm_write.specs.Published as P
use Rattle.decimals.specs.DecimalText.{OptionalSign, Form, FloatText, Unsupported, DecimalText}
use Rattle.integers.specs.Digits.{AllDigits}
use Rattle.integers.specs.IntegerText.{Digits, IntText}
use Rattle.decimals.proofs.Language.{gives_complete, leaves_complete, one_reading}
use Rattle.writing.proofs.Plain.{Plain, Word, each_append}
use Rattle.utf8.specs.Characters.{Each}
use Rattle.promises.proofs.kbm.Standing.{Holds}

-- digits do not start with a byte that is none
pub not_digits : {s t : List ℕ} {b n : ℕ} → (48 ≤ b → b ≤ 57 → ⊥) → s ≡ b ∷ t → Digits s n → ⊥
not_digits f e d = let a = subst AllDigits e d.each in f a.0.0 a.0.1

pub one_number : {s : List ℕ} {m n : ℕ} → Digits s m → Digits s n → m ≡ n
one_number d e = d.writes ∙ sym e.writes

-- a whole number as published is the same integer of any type
pub whole_agrees : (sign : Bool) (top : ℕ) (t : List ℕ) (z w : ℤ) → P.Whole t z → IntText sign top t w → z ≡ w
whole_agrees sign top t z w (P.Whole.plain n d e) (IntText.plain k c h f) = e ∙ ap pos (one_number d c) ∙ sym f
whole_agrees sign top t z w (P.Whole.plain n d e) (IntText.plus u k p c h f) = absurd (not_digits (λ a b. omega arith) p d)
whole_agrees sign top t z w (P.Whole.plain n d e) (IntText.minus u k s p c h f) = absurd (not_digits (λ a b. omega arith) p d)
whole_agrees sign top t z w (P.Whole.minus v n q d e) (IntText.plain k c h f) = absurd (not_digits (λ a b. omega arith) q c)
whole_agrees sign top t z w (P.Whole.minus v n q d e) (IntText.plus u k p c h f) =
    let x : ◌≡◌ {A = ℕ} 45 43 = cc in absurd (omega arith)
whole_agrees sign top t z w (P.Whole.minus v n q d e) (IntText.minus u k s p c h f) =
    let x : v ≡ u = cc in
    let y : n ≡ k = one_number d (subst (λ (l : List ℕ). Digits l k) (sym x) c) in
    cc

-- a frequency as published is a decimal without exponent, which is supported if document 01 reads it
module _ (t : List ℕ) (n k : ℕ) (v : Float) (h : P.Hertz t n k) (d : DecimalText t v) where
  abbrev form : Form
  form = Form.plain false h.whole h.part

  form_text : FloatText t form
  form_text = FloatText.plain (OptionalSign.none refl refl) h.digits

  pub hertz_supported : Unsupported form → ⊥
  hertz_supported u =
      let p = gives_complete t v d in
      let q = leaves_complete t (record { form = form; text = form_text; cause = u }) in
      let z : ◌≡◌ {A = ℕ} 0 1 = cc in
      omega arith

  -- and has the same nearest f64
  pub hertz_agrees : v ≡ round binary64 false n (10 ^ k)
  hertz_agrees = rw (h.value, h.places) (one_reading t v _ d (record { negative = false; whole = h.whole; part = h.part; text = form_text; taken = hertz_supported; nearest = refl }))

-- one byte that is no digit is no whole number and no integer
pub letter_whole : {t : List ℕ} {b : ℕ} {z : ℤ} → 57 < b → t ≡ b ∷ [] → P.Whole t z → ⊥
letter_whole h e (P.Whole.plain n d f) = not_digits (λ a c. omega arith) e d
letter_whole {b = b} h e (P.Whole.minus u n q d f) = let x : b ≡ 45 = cc in omega arith

pub letter_integer : {t : List ℕ} {b top : ℕ} {sign : Bool} {z : ℤ} → 57 < b → t ≡ b ∷ [] → IntText sign top t z → ⊥
letter_integer h e (IntText.plain n d l f) = not_digits (λ a c. omega arith) e d
letter_integer {b = b} h e (IntText.plus u n q d l f) = let x : b ≡ 43 = cc in omega arith
letter_integer {b = b} h e (IntText.minus u n s q d l f) = let x : b ≡ 45 = cc in omega arith

-- a degree as published is the same entry
pub degree_agrees : (t : List ℕ) (e f : (Option ℤ)) → P.Degree t e → EntryText t f → e ≡ f
degree_agrees t e f (P.Degree.cross p) (EntryText.small q) = refl
degree_agrees t e f (P.Degree.cross p) (EntryText.large q) = refl
degree_agrees t e f (P.Degree.cross p) (EntryText.degree z i) = absurd (letter_integer (omega arith) p i)
degree_agrees t e f (P.Degree.degree z w) (EntryText.small q) = absurd (letter_whole (omega arith) q w)
degree_agrees t e f (P.Degree.degree z w) (EntryText.large q) = absurd (letter_whole (omega arith) q w)
degree_agrees t e f (P.Degree.degree z w) (EntryText.degree y i) = ap Some (whole_agrees true (2 ^ 15) t z y w i)

-- VALUES ARE WORDS
pub digits_plain : (s : List ℕ) → AllDigits s → Each Plain s
digits_plain [] d = tt
digits_plain (b ∷ s) d = ((omega (arith, d.0), omega (arith, d.0)), digits_plain s d.1)

pub whole_word : (t : List ℕ) {z : ℤ} → P.Whole t z → Word t
whole_word t (P.Whole.plain n d e) = record { some = d.some; each = digits_plain t d.each }
whole_word t (P.Whole.minus u n q d e) = subst Word (sym q) (record { some = omega arith; each = ((omega arith, omega arith), digits_plain u d.each) })

pub hertz_word : (t : List ℕ) {n k : ℕ} → P.Hertz t n k → Word t
hertz_word t h = go h.digits.writes
  where
    a : Each Plain h.whole
    a = digits_plain h.whole h.digits.first

    go : (t ≡ h.whole ++ (46 ∷ h.part)) ⊎ ((t ≡ h.whole) × (h.part ≡ [])) → Word t
    go (inl e) =
        subst Word (sym e)
        (record {
          some = omega (arith, length-append h.whole (46 ∷ h.part));
          each = each_append Plain h.whole (46 ∷ h.part) a ((omega arith, omega arith), digits_plain h.part h.digits.second);
        })
    go (inr e) = subst Word (sym e.0) (record { some = omega (arith, h.digits.some, ap length e.1); each = a })

pub degree_word : (t : List ℕ) {e : (Option ℤ)} → P.Degree t e → Word t
degree_word t (P.Degree.cross q) = subst Word (sym q) (record { some = omega arith; each = ((omega arith, omega arith), tt) })
degree_word t (P.Degree.degree z w) = whole_word t w

-- the values of the lines of degrees
abbrev pub Are : List (List ℕ) → List (Option ℤ) → Type 0
Are [] [] = Unit {0}
Are [] (e ∷ es) = ⊥
Are (t ∷ ts) [] = ⊥
Are (t ∷ ts) (e ∷ es) = P.Degree t e × Are ts es

pub record Written (ls : List (List ℕ)) (es : List (Option ℤ)) : Type 0 where
  pub tokens : List (List ℕ)
  pub holds : Holds ls tokens
  pub are : Are tokens es

pub degree_tokens : (ls : List (List ℕ)) (es : List (Option ℤ)) → P.Degrees ls es → Written ls es
degree_tokens [] [] d = record { tokens = []; holds = tt; are = tt }
degree_tokens [] (e ∷ es) d = absurd d
degree_tokens (l ∷ ls) [] d = absurd d
degree_tokens (l ∷ ls) (e ∷ es) d =
    let t = d.0.0 in
    let r = degree_tokens ls es d.1 in
    record { tokens = t ∷ r.tokens; holds = ((degree_word t d.0.2, d.0.1), r.holds); are = (d.0.2, r.are) }

pub same_entries : (ts : List (List ℕ)) (es fs : List (Option ℤ)) → Are ts es → Entries ts fs → es ≡ fs
same_entries [] [] [] a b = refl
same_entries [] [] (f ∷ fs) a b = absurd b
same_entries [] (e ∷ es) fs a b = absurd a
same_entries (t ∷ ts) [] fs a b = absurd a
same_entries (t ∷ ts) (e ∷ es) [] a b = absurd b
same_entries (t ∷ ts) (e ∷ es) (f ∷ fs) a b =
    let p = degree_agrees t e f a.0 b.0 in
    let q = same_entries ts es fs a.1 b.1 in
    cc
