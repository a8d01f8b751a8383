-- From an answer to what the interface for C says of it. Assumes nothing.
use mathlib.Core.Path.{◌≡◌, refl, sym, ◌∙◌, ap, subst}
use mathlib.Core.List.{List, ◌++◌}
use mathlib.Core.Logic.{◌↔◌}
use Prim.Native.Nat.{ℕ, ◌≤◌, ◌<◌, ◌^◌}
use native.Mathlib.Omega.{arith}
use lib.ListN.{length, take, drop}
use lib.Seq.{take-append-le, take-length}
use Rattle.base.specs.Said.{Said, gives, refuses, Numbered, NumberedOr}
use Rattle.base.proofs.Said.{no_value}
use Rattle.writing.specs.Fitted.{text_length}
use Rattle.telbijan_answers.specs.Interface.{code, result, Coded, kept, field_of, number_in, detail_in}
use Rattle.telbijan_answers.specs.Calls.{Written}

-- x is what a call answered, told what its contract says of it, and x' what a match made of it
module _ {X A : Type 0} (says : X → Said A) {s : Said A} {x x' : X} (told : says x ≡ s) (is : x ≡ x') where
  said : says x' ≡ s
  said = ap says (sym is) ∙ told

  -- a value: the result is 0, and v, a part of the value, is stored
  pub accepted : {a : A} → says x' ≡ gives a → 0 ≡ result s
  accepted gave = ap result (sym gave ∙ said)

  pub stored : {a v : A} (old : A) → says x' ≡ gives a → v ≡ a → v ≡ kept s old
  stored old gave is-part = is-part ∙ ap (λ s. kept s old) (sym gave ∙ said)

  pub stored_part : {B : Type 0} (part : A → B) {a : A} {v : B} (old : B) → says x' ≡ gives a → v ≡ part a → v ≡ kept (field_of part s) old
  stored_part part old gave is-part = is-part ∙ ap (λ s. kept (field_of part s) old) (sym gave ∙ said)

  -- a refusal: the result is its code, and what was there stays
  pub refused : {number detail n : ℕ} → says x' ≡ refuses number detail → n ≡ code number detail → n ≡ result s
  refused gave coded = coded ∙ ap result (sym gave ∙ said)

  pub stays : {number detail : ℕ} (old : A) → says x' ≡ refuses number detail → old ≡ kept s old
  stays old gave = ap (λ s. kept s old) (sym gave ∙ said)

  pub stays_part : {B : Type 0} (part : A → B) {number detail : ℕ} (old : B) → says x' ≡ refuses number detail
      → old ≡ kept (field_of part s) old
  stays_part part old gave = ap (λ s. kept (field_of part s) old) (sym gave ∙ said)

-- what a `store_..` call made of an answer, of which told says what it says: n is its result, v what is stored, by `keep`
pub handed_on : {X A B : Type 0} (says : X → Said A) (keep : Said A → B) (x : X) {s : Said A} {n : ℕ} {v : B} → says x ≡ s → (n ≡ result (says x)) × (v ≡ keep (says x)) → (n ≡ result s) × (v ≡ keep s)
handed_on says keep x told e = (e.0 ∙ ap result told, e.1 ∙ ap keep told)

-- A RESULT TAKEN BACK: the number of a refusal, and its detail where that is below 2 ^ 56
pub number_back : (number detail : ℕ) → number ≤ 255 → number_in (code number detail) ≡ number
number_back number detail h = omega arith

pub detail_back : (number detail : ℕ) → number ≤ 255 → detail < 2 ^ 56 → detail_in (code number detail) ≡ detail
detail_back number detail h l = omega arith

-- the numbers of documents 01 and 02 can
pub coded : {A : Type 0} {s : Said A} → Numbered s → Coded s
coded (Numbered.value a) = tt
coded (Numbered.number low high) = (low, omega (arith, high))

pub coded_or : {A : Type 0} {s : Said A} {more : ℕ} → 1 ≤ more → more ≤ 255 → NumberedOr more s → Coded s
coded_or low high (NumberedOr.known n) = coded n
coded_or low high NumberedOr.other = (low, high)

-- a result is 0 exactly where the answer is a value
pub zero_accepted : {A : Type 0} (s : Said A) → Coded s → (result s ≡ 0) ↔ ((a : A) × (s ≡ gives a))
zero_accepted s n = (there s n, back s)
  where
    there : {A : Type 0} (s : Said A) → Coded s → result s ≡ 0 → (a : A) × (s ≡ gives a)
    there (gives a) n e = (a, refl)
    there (refuses number detail) n e = absurd (omega (arith, n.0, n.1))

    back : {A : Type 0} (s : Said A) → (a : A) × (s ≡ gives a) → result s ≡ 0
    back s g = ap result g.1

-- A REFUSED CALL: its result is not 0, and the refusal's number and detail are taken back from it
pub refused_back : {A : Type 0} {s : Said A} {r n d : ℕ} → Coded s → r ≡ result s → s ≡ refuses n d → d < 2 ^ 56 →
    (r ≡ 0 → ⊥) × (number_in r ≡ n) × (detail_in r ≡ d)
refused_back {A} {s} {r} {n} {d} w told e h =
    let q : r ≡ code n d = told ∙ ap result e in
    let b : (1 ≤ n) × (n ≤ 255) = subst (λ (x : Said A). Coded x) e w in
    let back = number_back n d b.1 in
    let zero : r ≡ 0 → ⊥ = λ z. omega (arith, b.0, back, ap number_in (sym q ∙ z)) in
    (zero, ap number_in q ∙ back, ap detail_in q ∙ detail_back n d b.1 h)

-- AN ACCEPTED EXPORT: the bytes up to the length that is stored are the text
pub written_text : (s : Said (List ℕ)) (old : List ℕ) (size r : ℕ) (new : List ℕ) (written : ℕ) → Numbered (text_length s) →
    Written s old size r new written → r ≡ 0 → (t : List ℕ) × (s ≡ gives t) × (take written new ≡ t)
written_text (gives t) old size r new written n w zero =
    let l : take (length t) (t ++ drop (length t) old) ≡ t =
    take-append-le (length t) t (drop (length t) old) (omega arith) ∙ take-length t in
    (t, refl, (λ i. take (w.2 i) (w.1 i)) ∙ l)
written_text (refuses number detail) old size r new written n w zero =
    no_value ((zero_accepted (text_length (refuses number detail)) (coded n)).0 (sym w.0 ∙ zero)).1
