-- THE DEGREE OF A KEY IN AN ACCEPTED TEXT: what `scale_degree_of` and `scale_degree_from_middle` answer on the table that the read leaves
-- is what the text's own lines say, counted from the line of the reference key and from that of the middle key. Document 01, "Keys",
-- document 02, W1, and demand 3. One proof, over the line that is counted from. Assumes nothing.
use Rattle.std.specs.Prelude.{Some, None, Option}
use mathlib.Core.Path.{◌≡◌, refl, sym, ◌∙◌, ap, subst}
use mathlib.Core.Bool.{true, false}
use mathlib.Core.List.{List}
use mathlib.Core.Logic.{◌⊎◌, ◌↔◌, inl, inr}
use Prim.Native.Nat.{ℕ, ◌-◌, ◌≤◌}
use native.Mathlib.Omega.{arith}
use lib.IntN.{ℤ, pos, ◌+ℤ◌, ◌-ℤ◌, +ℤ_comm, +ℤ-neg_ℤ_cancel, -ℤ-+ℤ_cancel}
use lib.ListN.{length, get_or}
use Rattle.base.specs.Integers.{Divides, in_i32}
use Rattle.base.specs.Numbers.{overflow, key_out_of_range, unmapped_key}
use Rattle.base.specs.Said.{Said, gives, refuses}
use Rattle.base.proofs.Integers.{bool_cases}
use Rattle.kbm.specs.Degree.{degree_of, scale_degree_of}
use Rattle.kbm.specs.Middle.{middle_of, counted_from, at_middle, scale_degree_from_middle}
use Rattle.kbm.specs.Keys.{in_keys, distance, Reaches, Has, Lacks}
use Rattle.kbm.specs.Table.{is_table, table_of}
use Rattle.kbm.specs.declared.Kbm.{Kbm}
use Rattle.kbm.proofs.Language.{has, has_one}
use Rattle.kbm.proofs.Theorems.{table_used}
use Rattle.kbm_read.specs.Language.{required, Values, Entries, size_of, mapping_from, added, MappingText}
use Rattle.kbm_read.specs.Reader.{after_read}
use Rattle.kbm_read.proofs.Ends.{length_added}
use Rattle.base.proofs.Said.{no_refusal, same_refuses}
use Rattle.kbm_read.proofs.Tables.{leaves_meaning}
use Rattle.key.specs.Keys.{key}
use Rattle.key.specs.declared.PianoKey.{PianoKey}
use Rattle.promises.specs.kbm.KeysOfText.{entry_tokens, last_key, middle_key, reference_key, Inside, Outside}
use Rattle.promises.specs.kbm.KeysOfText.{steps, Counts, NotMapped, MappedTo, Silent, TooFar, SaidOf}
use Rattle.kbm_write.specs.Export.{last_key_of}
use Rattle.promises.proofs.kbm.Places.{added_at, no_entry, entry_no, an_entry, entry_an}
use Rattle.promises.proofs.kbm.Range.{inside, inside_back, outside, outside_back}

-- ---- the range, by the required lines
module _ (vs : Values required) (key : PianoKey) where
  last_is : last_key_of (mapping_from vs) ≡ last_key vs
  last_is = +ℤ-neg_ℤ_cancel (last_key vs) (pos 1)

  is_inside : in_keys (mapping_from vs) key ≡ true → Inside vs key.0
  is_inside w = rw last_is at (inside (mapping_from vs) key w)

  inside_is : Inside vs key.0 → in_keys (mapping_from vs) key ≡ true
  inside_is i = inside_back (mapping_from vs) key i.0 (rw last_is i.1)

  is_outside : in_keys (mapping_from vs) key ≡ false → Outside vs key.0
  is_outside w = rw last_is at (outside (mapping_from vs) key w)

  outside_is : Outside vs key.0 → in_keys (mapping_from vs) key ≡ false
  outside_is o = outside_back (mapping_from vs) key (rw last_is o)

  either : Inside vs key.0 ⊎ Outside vs key.0
  either = elim (bool_cases (in_keys (mapping_from vs) key)) [
    | inl w ↦ inl (is_inside w)
    | inr w ↦ inr (is_outside w)
  ]

-- ---- what a key has is what the lines say: counted from the key of one of them
module _ (origin : Values required → ℤ) (vs : Values required) (ts : List (List ℕ)) (given : List (Option ℤ)) (x : Entries ts given)
    (c : length given ≤ size_of vs) (k : PianoKey) where
  abbrev kbm : Kbm
  kbm = counted_from (key (origin vs)) (mapping_from vs)

  abbrev es : List (Option ℤ)
  es = added (size_of vs) given

  all : length es ≡ size_of vs
  all = omega (arith, length_added (size_of vs) given)

  found : (r : ℕ) → get_or es r None ≡ get_or given r None
  found r = added_at given (size_of vs - length given) r

  counts : {q : ℤ} {r : ℕ} → Divides (distance kbm k) (length es) q r → Counts origin vs k.0 q r
  counts d = rw all at d

  counts_back : {q : ℤ} {r : ℕ} → Counts origin vs k.0 q r → Divides (distance kbm k) (length es) q r
  counts_back d = rw all d

  none_at : {q : ℤ} (at : Reaches es (distance kbm k) q None) → NotMapped ts at.place
  none_at at = no_entry ts given x at.place (sym (found at.place) ∙ at.found)

  one_at : {q e : ℤ} (at : Reaches es (distance kbm k) q (Some e)) → MappedTo ts at.place e
  one_at {e = e} at = an_entry ts given x at.place e (sym (found at.place) ∙ at.found)

  has_said : {s : Said ℤ} → Has kbm es k s → SaidOf origin vs ts k.0 s
  has_said (Has.outside w p) = SaidOf.outside (is_outside vs k w) p
  has_said (Has.far w n p) = SaidOf.far (is_inside vs k w) n p
  has_said (Has.plain w n l p) = SaidOf.linear (is_inside vs k w) n (sym all ∙ l) p
  has_said (Has.none w n q at p) = SaidOf.gap (is_inside vs k w) n q at.place (counts at.counted) (none_at at) p
  has_said (Has.passed w n q e at h p) = SaidOf.steep (is_inside vs k w) n q at.place e (counts at.counted) (one_at at) h p
  has_said (Has.degree w n q e at h p) = SaidOf.degree (is_inside vs k w) n q at.place e (counts at.counted) (one_at at) h p

  reaches_none : {q : ℤ} {r : ℕ} → Counts origin vs k.0 q r → NotMapped ts r → Reaches es (distance kbm k) q None
  reaches_none {q} {r} d m = record { place = r; counted = counts_back d; found = found r ∙ entry_no ts given x r m }

  reaches_one : {q : ℤ} {r : ℕ} (e : ℤ) → Counts origin vs k.0 q r → MappedTo ts r e → Reaches es (distance kbm k) q (Some e)
  reaches_one {q} {r} e d m = record { place = r; counted = counts_back d; found = found r ∙ entry_an ts given x r e m }

  said_has : {s : Said ℤ} → SaidOf origin vs ts k.0 s → Has kbm es k s
  said_has (SaidOf.outside o p) = Has.outside (outside_is vs k o) p
  said_has (SaidOf.far i n p) = Has.far (inside_is vs k i) n p
  said_has (SaidOf.linear i n l p) = Has.plain (inside_is vs k i) n (all ∙ l) p
  said_has (SaidOf.gap i n q r d m p) = Has.none (inside_is vs k i) n q (reaches_none d m) p
  said_has (SaidOf.steep i n q r e d m h p) = Has.passed (inside_is vs k i) n q e (reaches_one e d m) h p
  said_has (SaidOf.degree i n q r e d m h p) = Has.degree (inside_is vs k i) n q e (reaches_one e d m) h p

-- ---- which refusal, exactly when
pub other : {A : Type 0} {m n : ℕ} {x : Said ℤ} → x ≡ refuses m 0 → x ≡ refuses n 0 → (m ≡ n → ⊥) → A
other p e f = absurd (f (same_refuses (sym p ∙ e)).0)

pub no_degree : {A : Type 0} {z : ℤ} {n : ℕ} {x : Said ℤ} → x ≡ gives z → x ≡ refuses n 0 → A
no_degree p e = no_refusal (sym p ∙ e)

module _ {origin : Values required → ℤ} {vs : Values required} {ts : List (List ℕ)} {key : ℤ} where
  outside_silent : Outside vs key → Silent origin vs ts key
  outside_silent (inl l) = Silent.under l
  outside_silent (inr h) = Silent.over h

  -- 16, 17 and 11 each have their cases
  module _ {x : Said ℤ} where
    said_outside : SaidOf origin vs ts key x → x ≡ refuses key_out_of_range 0 → Outside vs key
    said_outside (SaidOf.outside o p) e = o
    said_outside (SaidOf.far i n p) e = other p e (λ f. omega arith)
    said_outside (SaidOf.linear i n l p) e = no_degree p e
    said_outside (SaidOf.gap i n q r d m p) e = other p e (λ f. omega arith)
    said_outside (SaidOf.steep i n q r z d m h p) e = other p e (λ f. omega arith)
    said_outside (SaidOf.degree i n q r z d m h p) e = no_degree p e

    said_gap : SaidOf origin vs ts key x → x ≡ refuses unmapped_key 0 → Silent origin vs ts key
    said_gap (SaidOf.outside o p) e = other p e (λ f. omega arith)
    said_gap (SaidOf.far i n p) e = other p e (λ f. omega arith)
    said_gap (SaidOf.linear i n l p) e = no_degree p e
    said_gap (SaidOf.gap i n q r d m p) e = Silent.gap n q r d m
    said_gap (SaidOf.steep i n q r z d m h p) e = other p e (λ f. omega arith)
    said_gap (SaidOf.degree i n q r z d m h p) e = no_degree p e

    said_far : SaidOf origin vs ts key x → x ≡ refuses overflow 0 → TooFar origin vs ts key
    said_far (SaidOf.outside o p) e = other p e (λ f. omega arith)
    said_far (SaidOf.far i n p) e = TooFar.distance n
    said_far (SaidOf.linear i n l p) e = no_degree p e
    said_far (SaidOf.gap i n q r d m p) e = other p e (λ f. omega arith)
    said_far (SaidOf.steep i n q r z d m h p) e = TooFar.degree q r z d m h
    said_far (SaidOf.degree i n q r z d m h p) e = no_degree p e

-- an answer that is what the lines say of the key, and nothing else is
module _ (origin : Values required → ℤ) (vs : Values required) (ts : List (List ℕ)) (k : PianoKey) (answer : Said ℤ)
    (says : (x : Said ℤ) → (answer ≡ x) ↔ SaidOf origin vs ts k.0 x) where
  outside_exactly : (answer ≡ refuses key_out_of_range 0) ↔ Outside vs k.0
  outside_exactly = (λ e. said_outside ((says answer).0 refl) e, λ o. (says (refuses key_out_of_range 0)).1 (SaidOf.outside o refl))

  lacks_exactly : Lacks answer ↔ Silent origin vs ts k.0
  lacks_exactly = (forth, back)
    where
      forth : Lacks answer → Silent origin vs ts k.0
      forth (inl e) = outside_silent (outside_exactly.0 e)
      forth (inr e) = said_gap ((says answer).0 refl) e

      back : Silent origin vs ts k.0 → Lacks answer
      back (Silent.under l) = inl (outside_exactly.1 (inl l))
      back (Silent.over h) = inl (outside_exactly.1 (inr h))
      back (Silent.gap n q r d m) = elim (either vs k) [
        | inl i ↦ inr ((says (refuses unmapped_key 0)).1 (SaidOf.gap i n q r d m refl))
        | inr o ↦ inl (outside_exactly.1 o)
      ]

  overflows_exactly : Inside vs k.0 → (answer ≡ refuses overflow 0) ↔ TooFar origin vs ts k.0
  overflows_exactly i = (λ e. said_far ((says answer).0 refl) e, back)
    where
      back : TooFar origin vs ts k.0 → answer ≡ refuses overflow 0
      back (TooFar.distance n) = (says (refuses overflow 0)).1 (SaidOf.far i n refl)
      back (TooFar.degree q r e d m h) = elim (bool_cases (in_i32 (steps origin vs k.0))) [
        | inl n ↦ (says (refuses overflow 0)).1 (SaidOf.steep i n q r e d m h refl)
        | inr n ↦ (says (refuses overflow 0)).1 (SaidOf.far i n refl)
      ]

-- ---- the lines that are counted from, in the mapping that the lines say
reference_line : (vs : Values required) → (mapping_from vs).root.reference ≡ key (reference_key vs)
reference_line vs = refl

pub middle_back : (x y : ℤ) → y +ℤ (x -ℤ y) ≡ x
middle_back x y = +ℤ_comm y (x -ℤ y) ∙ -ℤ-+ℤ_cancel x y

middle_line : (vs : Values required) → key (middle_of (mapping_from vs).root) ≡ key (middle_key vs)
middle_line vs = ap key (middle_back (middle_key vs) (reference_key vs))

-- ---- THE THEOREMS: a text of the language, read into a table with a place for each entry
module _ {s : List ℕ} {kbm : Kbm} {es : List (Option ℤ)} (t : MappingText s kbm es) (old : List ℤ) (room : length es ≤ length old)
    (k : PianoKey) where
  abbrev vs : Values required
  vs = t.values

  abbrev ts : List (List ℕ)
  ts = entry_tokens t

  read : (is_table kbm.count (after_read s old) ≡ true) × (table_of kbm.count (after_read s old) ≡ es)
  read = leaves_meaning s old kbm es t room

  -- counted from any key: the answer, by the entries that the text says
  answers_from : (o : PianoKey) → scale_degree_of (counted_from o kbm) (after_read s old) k ≡ degree_of (counted_from o kbm) es k
  answers_from o =
      table_used (counted_from o kbm) (after_read s old) k read.0 ∙ ap (λ (l : List (Option ℤ)). degree_of (counted_from o kbm) l k) read.1

  -- counted from the key of a line: the answer is what the lines say of the key, and nothing else is
  says_from : (origin : Values required → ℤ) (o : PianoKey) → o ≡ key (origin vs) → (x : Said ℤ) →
      (scale_degree_of (counted_from o kbm) (after_read s old) k ≡ x) ↔ SaidOf origin vs ts k.0 x
  says_from origin o same x = (forth, back)
    where
      counted : Kbm
      counted = counted_from (key (origin vs)) (mapping_from vs)

      entries : List (Option ℤ)
      entries = added (size_of vs) t.given

      by_lines : scale_degree_of (counted_from o kbm) (after_read s old) k ≡ degree_of counted entries k
      by_lines = answers_from o ∙ (λ i. degree_of (counted_from (same i) (t.mapping i)) (t.entries i) k)

      forth : scale_degree_of (counted_from o kbm) (after_read s old) k ≡ x → SaidOf origin vs ts k.0 x
      forth e =
          let h : Has counted entries k x = subst (Has counted entries k) (sym by_lines ∙ e) (has counted entries k) in
          has_said origin vs ts t.given t.lines.entries t.consistent k h

      back : SaidOf origin vs ts k.0 x → scale_degree_of (counted_from o kbm) (after_read s old) k ≡ x
      back p =
          let h : Has counted entries k x = said_has origin vs ts t.given t.lines.entries t.consistent k p in
          by_lines ∙ sym (has_one counted entries k h)

  -- ---- FROM THE REFERENCE KEY
  abbrev answer : Said ℤ
  answer = scale_degree_of kbm (after_read s old) k

  pub read_answers : answer ≡ degree_of kbm es k
  unfolding scale_degree_of
  read_answers = answers_from kbm.root.reference

  -- the answer is what the lines say of the key, and nothing else is
  pub text_says : (x : Said ℤ) → (answer ≡ x) ↔ SaidOf reference_key vs ts k.0 x
  unfolding scale_degree_of
  text_says = says_from reference_key kbm.root.reference (ap (λ (m : Kbm). m.root.reference) t.mapping ∙ reference_line vs)

  -- 16 exactly below the first key and above the last
  pub text_outside : (answer ≡ refuses key_out_of_range 0) ↔ Outside vs k.0
  text_outside = outside_exactly reference_key vs ts k answer text_says

  -- NO DEGREE, 16 or 17, exactly when the key is below the first key, or above the last, or its distance from the reference key is a number
  -- of 32 bits, the map has entries and the place reached by counting round that far has `x` or `X` as its token or lies past the entries
  -- written
  pub text_lacks : Lacks answer ↔ Silent reference_key vs ts k.0
  text_lacks = lacks_exactly reference_key vs ts k answer text_says

  -- inside the range 11 exactly when d, or the degree of the entry reached, passes 32 bits
  pub text_overflows : Inside vs k.0 → (answer ≡ refuses overflow 0) ↔ TooFar reference_key vs ts k.0
  text_overflows = overflows_exactly reference_key vs ts k answer text_says

  -- ---- FROM THE MIDDLE KEY: the same, with the middle key's line for the reference key's
  abbrev answer_from_middle : Said ℤ
  answer_from_middle = scale_degree_from_middle kbm (after_read s old) k

  pub read_answers_from_middle : answer_from_middle ≡ degree_of (at_middle kbm) es k
  read_answers_from_middle = answers_from (key (middle_of kbm.root))

  pub text_says_from_middle : (x : Said ℤ) → (answer_from_middle ≡ x) ↔ SaidOf middle_key vs ts k.0 x
  text_says_from_middle =
      says_from middle_key (key (middle_of kbm.root)) (ap (λ (m : Kbm). key (middle_of m.root)) t.mapping ∙ middle_line vs)

  pub text_outside_from_middle : (answer_from_middle ≡ refuses key_out_of_range 0) ↔ Outside vs k.0
  text_outside_from_middle = outside_exactly middle_key vs ts k answer_from_middle text_says_from_middle

  -- NO DEGREE exactly when the key is below the first key, or above the last, or its distance from the middle key is a number of 32 bits,
  -- the map has entries and the place reached by counting round that far from the middle key is unmapped, written so or left out
  pub text_lacks_from_middle : Lacks answer_from_middle ↔ Silent middle_key vs ts k.0
  text_lacks_from_middle = lacks_exactly middle_key vs ts k answer_from_middle text_says_from_middle

  -- inside the range 11 exactly when its distance from the middle key, or the degree of the entry reached, passes 32 bits
  pub text_overflows_from_middle : Inside vs k.0 → (answer_from_middle ≡ refuses overflow 0) ↔ TooFar middle_key vs ts k.0
  text_overflows_from_middle = overflows_exactly middle_key vs ts k answer_from_middle text_says_from_middle
