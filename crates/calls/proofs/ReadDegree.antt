-- C READS A MAPPING FILE, AND ASKS FOR THE DEGREE OF A KEY: telbijan_read_kbm, then telbijan_scale_degree_of or
-- telbijan_scale_degree_from_middle on the numbers that it stored and the table that it left, answers what the text's own lines say of the
-- key, counted from the reference key or from the middle key. Document 01, "Keys", document 02, W1, and demand 3. Assumes nothing.
use Rattle.std.specs.Prelude.{Option}
use mathlib.Core.Path.{◌≡◌, refl, ◌∙◌, ap}
use mathlib.Core.List.{List}
use mathlib.Core.Logic.{◌↔◌}
use Prim.Native.Nat.{ℕ, ◌≤◌}
use lib.IntN.{ℤ}
use lib.ListN.{length}
use Rattle.base.specs.Said.{Said}
use Rattle.kbm.specs.Degree.{scale_degree_of}
use Rattle.kbm.specs.Middle.{scale_degree_from_middle}
use Rattle.kbm.specs.declared.Kbm.{Kbm}
use Rattle.kbm_read.specs.Language.{required, Values, MappingText}
use Rattle.kbm_read.specs.Reader.{after_read}
use Rattle.key.specs.Keys.{key}
use Rattle.key.specs.declared.PianoKey.{PianoKey}
use Rattle.telbijan_answers.specs.Interface.{result, kept}
use Rattle.telbijan_answers.specs.Calls.{Stored}
use Rattle.telbijan_mappings.specs.Calls.{ReadKbm, ScaleDegreeOf, ScaleDegreeFromMiddle}
use Rattle.telbijan_mappings.proofs.Readings.{accepted_call, language_call}
use Rattle.promises.specs.kbm.KeysOfText.{entry_tokens, middle_key, reference_key, SaidOf}
use Rattle.promises.proofs.kbm.KeysOfText.{text_says, text_says_from_middle}

module _ (text : List ℕ) (table : List ℤ) (old : Kbm) (r : ℕ) (left : List ℤ) (new : Kbm) (read : ReadKbm text table old r left new)
    (number before : ℤ) (q : ℕ) (degree : ℤ) where
  -- a call for a degree, which is stored, after the read: it answers what the lines say, counted from the key of one of them
  module _ (origin : Values required → ℤ) (call : Kbm → List ℤ → PianoKey → Said ℤ)
      (says : (k : Kbm) (es : List (Option ℤ)) (t : MappingText text k es) → length es ≤ length table → (said : Said ℤ) →
      (call k (after_read text table) (key number) ≡ said) ↔ SaidOf origin t.values (entry_tokens t) number said)
      (asked : Stored (call new left (key number)) before q degree) where
    says_stored : {k : Kbm} {es : List (Option ℤ)} (t : MappingText text k es) → length es ≤ length table → (said : Said ℤ) →
        SaidOf origin t.values (entry_tokens t) number said → Stored said before q degree
    says_stored {k} {es} t room said p =
        let same : new ≡ k = (language_call text table old r left new read t room).1 in
        let one : call k (after_read text table) (key number) ≡ said = (says k es t room said).1 p in
        let answer : call new left (key number) ≡ said = (λ i. call (same i) (read.1 i) (key number)) ∙ one in
        (asked.0 ∙ ap result answer, asked.1 ∙ ap (λ (s : Said ℤ). kept s before) answer)

    read_stored : r ≡ 0 → (es : List (Option ℤ)) × (t : MappingText text new es) × (said : Said ℤ) ×
        SaidOf origin t.values (entry_tokens t) number said × Stored said before q degree
    read_stored zero =
        let a = accepted_call text table old r left new read zero in
        let said = call new (after_read text table) (key number) in
        let p = (says new a.0 a.1 a.2 said).0 refl in
        (a.0, a.1, said, p, says_stored a.1 a.2 said p)

  -- ---- FROM THE REFERENCE KEY
  module _ (asked : ScaleDegreeOf left new number before q degree) where
    -- what a reading of the text says of the key is the second call's answer
    pub says_degree : {k : Kbm} {es : List (Option ℤ)} (t : MappingText text k es) → length es ≤ length table → (said : Said ℤ) →
        SaidOf reference_key t.values (entry_tokens t) number said → Stored said before q degree
    says_degree = says_stored reference_key scale_degree_of (λ k es t room. text_says t table room (key number)) asked

    -- THE THEOREM: where the first call answers 0, the text is a mapping file of the numbers that it stored, and the second call's result
    -- and stored degree are what the text's lines say of the key
    pub read_degree : r ≡ 0 → (es : List (Option ℤ)) × (t : MappingText text new es) × (said : Said ℤ) ×
        SaidOf reference_key t.values (entry_tokens t) number said × Stored said before q degree
    read_degree = read_stored reference_key scale_degree_of (λ k es t room. text_says t table room (key number)) asked

  -- ---- FROM THE MIDDLE KEY
  module _ (asked : ScaleDegreeFromMiddle left new number before q degree) where
    pub says_degree_from_middle : {k : Kbm} {es : List (Option ℤ)} (t : MappingText text k es) → length es ≤ length table → (said : Said ℤ) →
        SaidOf middle_key t.values (entry_tokens t) number said → Stored said before q degree
    says_degree_from_middle =
        says_stored middle_key scale_degree_from_middle (λ k es t room. text_says_from_middle t table room (key number)) asked

    -- THE SAME, with the middle key's line for the reference key's
    pub read_degree_from_middle : r ≡ 0 → (es : List (Option ℤ)) × (t : MappingText text new es) × (said : Said ℤ) ×
        SaidOf middle_key t.values (entry_tokens t) number said × Stored said before q degree
    read_degree_from_middle =
        read_stored middle_key scale_degree_from_middle (λ k es t room. text_says_from_middle t table room (key number)) asked
