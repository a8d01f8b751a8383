-- A TEXT OF THE PUBLISHED FORMAT IS IN DOCUMENT 01'S LANGUAGE exactly within its limits, with the same numbers (01 has the f64 nearest the
-- frequency) and entries; it is read where the table has a place for each entry. Which degrees its keys have: Sounding. Assumes nothing.
use Rattle.std.specs.Prelude.{Option}
use mathlib.Core.Path.{◌≡◌, refl, sym, ◌∙◌, subst}
use mathlib.Core.Bool.{true, false, ◌&&◌}
use mathlib.Core.List.{List, [], ◌∷◌, ◌++◌}
use mathlib.Core.Logic.{◌↔◌, inl, inr}
use Prim.Native.Nat.{ℕ, zero, suc, ◌^◌, ◌≤◌}
use native.Mathlib.Omega.{arith}
use lib.Ieee.{round, binary64}
use lib.Ieee.Bits.{is_true}
use lib.IntN.{ℤ, pos, negsuc}
use lib.ListN.{length}
use lib.Signed.{le_z}
use borrow.Author.Tests.{leb-true}
use Rattle.base.specs.Said.{gives}
use Rattle.decimals.specs.DecimalText.{OptionalSign, Form, FloatText, Unsupported, DecimalText, from_nonzero}
use Rattle.floats.proofs.Ranges.{and_true}
use Rattle.integers.specs.IntegerText.{IntText}
use Rattle.kbm.specs.Table.{AreI16, is_table, table_of}
use Rattle.kbm.specs.declared.Kbm.{Kbm}
use Rattle.kbm_read.specs.Language.{required, unseen, Values, GiveAll, EntryText, Entries, Tokens, mapping_from, added, MappingText}
use Rattle.kbm_read.specs.Reader.{read_of, after_read}
use Rattle.kbm_read.proofs.Ends.{length_added}
use Rattle.kbm_read.proofs.Language.{in_language}
use Rattle.kbm_read.proofs.Tables.{leaves_meaning}
use Rattle.kbm_write.specs.Published as P
use Rattle.utf8.specs.Characters.{Utf8}
use Rattle.text.specs.ReadLine.{strictly, meaning_by}
use Rattle.text.specs.Reading.{strict, Meaning, invalid, blank, comment, content, Line, EachLine}
use Rattle.text.proofs.LineLanguage.{strict_line}
use Rattle.promises.specs.kbm.Agree.{Agree}
use Rattle.promises.specs.kbm.Limits.{AllUtf8, WithinLimits}
use Rattle.promises.proofs.kbm.Agree.{written_degrees, seven, all_held, agree}
use Rattle.promises.proofs.kbm.Limits.{taken_within}
use Rattle.promises.proofs.kbm.Standing.{value_line, comment_line, Holds}
use Rattle.promises.proofs.kbm.Values.{Are}

-- ---- LINES of UTF-8 say their values
no_meaning : {A : Type 0} {m t : List ℕ} → ◌≡◌ {A = Meaning} invalid (content m t) → A
no_meaning e = let z : ◌≡◌ {A = ℕ} 0 1 = cc in absurd (omega arith)

not_blank : {A : Type 0} → ◌≡◌ {A = Meaning} invalid blank → A
not_blank e = let z : ◌≡◌ {A = ℕ} 0 1 = cc in absurd (omega arith)

not_comment : {A : Type 0} → ◌≡◌ {A = Meaning} invalid comment → A
not_comment e = let z : ◌≡◌ {A = ℕ} 0 1 = cc in absurd (omega arith)

-- UTF-8 is text
pub is_text : (l : List ℕ) (x : Meaning) → Utf8 l → Line strict l x → x ≡ invalid → ⊥
is_text l x u (Line.not_text n e) p = n u
is_text l x u (Line.is_blank r y e) p = not_blank (sym p ∙ e)
is_text l x u (Line.is_comment r m y d e) p = not_comment (sym p ∙ e)
is_text l x u (Line.says r m t y o n q e) p = no_meaning (sym p ∙ e)

-- what the lines say, and the tokens of those that do not drop out
record Spoken (ls us : List (List ℕ)) : Type 0 where
  says : List Meaning
  each : EachLine strict ls says
  tokens : Tokens says us

lines_say : {ls ks : List (List ℕ)} → P.Kept ls ks → AllUtf8 ls → (us : List (List ℕ)) → Holds ks us → Spoken ls us
lines_say P.Kept.none a [] h = record { says = []; each = tt; tokens = tt }
lines_say P.Kept.none a (u ∷ us) h = absurd h
lines_say (P.Kept.comment {l = l} c k) a us h =
    let r = lines_say k a.1 us h in
    let x = meaning_by strictly l in
    elim (comment_line l x c (strict_line l)) [
      | inl e ↦ absurd (is_text l x a.0 (strict_line l) e)
      | inr e ↦ record { says = comment ∷ r.says; each = (subst (Line strict l) e (strict_line l), r.each); tokens = r.tokens }
    ]
lines_say (P.Kept.kept n k) a [] h = absurd h
lines_say (P.Kept.kept {l = l} n k) a (u ∷ us) h =
    let r = lines_say k a.1 us h.1 in
    let x = meaning_by strictly l in
    elim (value_line l u x h.0.0 h.0.1 (strict_line l)) [
      | inl e ↦ absurd (is_text l x a.0 (strict_line l) e)
      | inr e ↦ record { says = content e.0 u ∷ r.says; each = (subst (Line strict l) e.1 (strict_line l), r.each); tokens = (refl, r.tokens) }
    ]

-- ---- VALUES within the limits are values of their types
whole_integer : {t : List ℕ} {z : ℤ} (top most : ℕ) → top ≡ suc most → le_z (negsuc most) z && le_z z (pos most) ≡ true → P.Whole t z → IntText true top t z
whole_integer {z = z} top most l h (P.Whole.plain n d e) =
    let b = (and_true (le_z (negsuc most) z) (le_z z (pos most)) h).1 in
    let c : n ≤ most = leb-true n most (is_true _ (rw e at b)) in
    IntText.plain n d (omega arith) e
whole_integer {z = z} top most l h (P.Whole.minus u zero q d e) = IntText.minus u zero refl q d (omega arith) e
whole_integer {z = z} top most l h (P.Whole.minus u (suc n) q d e) =
    let b = (and_true (le_z (negsuc most) z) (le_z z (pos most)) h).0 in
    let c : n ≤ most = leb-true n most (is_true _ (rw e at b)) in
    IntText.minus u (suc n) refl q d (omega arith) e

pub whole_size : {t : List ℕ} {n : ℕ} → n ≤ 65535 → ((u : List ℕ) → t ≡ 45 ∷ u → ⊥) → P.Whole t (pos n) → IntText false (2 ^ 16) t (pos n)
whole_size {n = n} h f (P.Whole.plain k d e) = let c : n ≡ k = cc in IntText.plain k d (omega arith) e
whole_size h f (P.Whole.minus u k q d e) = absurd (f u q)

hertz_decimal : {t : List ℕ} {n k : ℕ} (x : P.Hertz t n k) → length (from_nonzero (x.whole ++ x.part)) ≤ 18 → k ≤ 18 → DecimalText t (round binary64 false n (10 ^ k))
hertz_decimal {t} {n} {k} x a b =
    record {
      negative = false;
      whole = x.whole;
      part = x.part;
      text = FloatText.plain (OptionalSign.none refl refl) x.digits;
      taken = taken;
      nearest = rw (x.value, x.places);
    }
  where
    taken : Unsupported (Form.plain false x.whole x.part) → ⊥
    taken (Unsupported.long h) = omega arith
    taken (Unsupported.deep h) = omega (arith, x.places)

degree_entry : {t : List ℕ} {e : (Option ℤ)} → AreI16 (e ∷ []) → P.Degree t e → EntryText t e
degree_entry i (P.Degree.cross q) = EntryText.small q
degree_entry i (P.Degree.degree z w) = EntryText.degree z (whole_integer (2 ^ 15) 32767 refl i.0 w)

are_entries : (ts : List (List ℕ)) (es : List (Option ℤ)) → AreI16 es → Are ts es → Entries ts es
are_entries [] [] i a = tt
are_entries [] (e ∷ es) i a = absurd a
are_entries (t ∷ ts) [] i a = absurd a
are_entries (t ∷ ts) (e ∷ es) i a = (degree_entry (i.0, tt) a.0, are_entries ts es i.1 a.1)

-- ---- TAKEN: within the limits a published text is in the language
module _ {s : List ℕ} {m : P.Mapping} (p : P.PublishedText s m) where
  -- the values of the seven lines, by document 01
  abbrev said : Values required
  said = (m.size, (m.first, (m.last, (m.middle, (m.reference, (round binary64 false m.hertz (10 ^ m.places), (m.octave, tt)))))))

  within_taken : WithinLimits p → MappingText s (mapping_from said) (added m.size m.given)
  within_taken w =
      let r = lines_say p.keeps w.utf8 (seven p ++ (written_degrees p).tokens) (all_held p) in
      let given : GiveAll unseen required (seven p) said = (
        whole_size w.size w.unsigned p.size.value,
        (
          whole_integer (2 ^ 31) 2147483647 refl w.first p.first.value,
          (
            (whole_integer (2 ^ 31) 2147483647 refl w.last p.last.value, w.before_end, w.forward),
            (
              whole_integer (2 ^ 15) 32767 refl w.middle p.middle.value,
              (
                whole_integer (2 ^ 15) 32767 refl w.reference p.reference.value,
                (
                  (hertz_decimal p.frequency.value w.digits w.places, w.pitch),
                  (whole_integer (2 ^ 15) 32767 refl w.octave p.octave.value, tt),
                ),
              ),
            ),
          ),
        ),
      ) in
      record {
        says = r.says;
        text = record { parts = p.parts; lines = p.lines; each = r.each };
        values = said;
        given = m.given;
        lines =
            record {
              first = seven p;
              rest = (written_degrees p).tokens;
              words = r.tokens;
              values = given;
              entries = are_entries (written_degrees p).tokens m.given w.degrees (written_degrees p).are;
            };
        not_large = omega (arith, length_added m.size m.given, p.most, w.size);
        consistent = p.most;
        mapping = refl;
        entries = refl;
      }

  -- A PUBLISHED TEXT WITHIN THE LIMITS is a mapping file of document 01, with the numbers and entries that it has as published
  pub published_accepted : WithinLimits p → (k : Kbm) × (es : List (Option ℤ)) × MappingText s k es × Agree m k es
  published_accepted w = let t = within_taken w in (mapping_from said, added m.size m.given, t, agree p (mapping_from said) (added m.size m.given) t)

  -- AND NO OTHER IS: the limits are exact
  pub published_exactly : ((k : Kbm) × (es : List (Option ℤ)) × MappingText s k es) ↔ WithinLimits p
  published_exactly = (λ t. taken_within p t.0 t.1 t.2, λ w. (mapping_from said, added m.size m.given, within_taken w))

  -- it is read where the table has a place for each entry, and leaves a table that later calls take, with its numbers and entries
  pub published_read : WithinLimits p → (old : List ℤ) → m.size ≤ length old
      → (k : Kbm) × (read_of (length old) s ≡ gives k) × (is_table k.count (after_read s old) ≡ true) × Agree m k (table_of k.count (after_read s old))
  published_read w old h =
      let t = within_taken w in
      let es = added m.size m.given in
      let fits : length es ≤ length old = omega (arith, length_added m.size m.given, p.most) in
      let l = leaves_meaning s old (mapping_from said) es t fits in
      (mapping_from said, in_language (length old) s t fits, l.0, rw l.1 (agree p (mapping_from said) es t))
