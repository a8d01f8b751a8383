-- TWO READINGS OF ONE TEXT: where a text is a mapping file of document 01's language and also a text of the published format, both
-- say the same numbers (01 the f64 nearest the frequency) and the same entries. Which degrees the keys have is not said here: 01 counts from
-- the reference key, the pages from the middle key (see Sounding). Assumes nothing.
use Rattle.std.specs.Prelude.{Option}
use mathlib.Core.Path.{◌≡◌, refl, sym, ap, ◌∙◌, subst}
use mathlib.Core.Bool.{Bool, true}
use mathlib.Core.List.{List, [], ◌∷◌, ◌++◌, append-nil}
use Prim.Native.Nat.{ℕ, ◌-◌, ◌≤◌}
use native.Mathlib.Omega.{arith}
use lib.IntN.{ℤ, pos, ◌+ℤ◌}
use lib.ListN.{length}
use Rattle.base.specs.Said.{gives}
use Rattle.kbm.specs.Table.{is_table, table_of}
use Rattle.kbm.specs.declared.Kbm.{Kbm}
use Rattle.kbm_read.specs.Language.{required, unseen, mapping, Values, GiveAll, Entries, size_of, mapping_from, blanks, added, MappingText}
use Rattle.kbm_read.specs.Reader.{read_of, entries_in, after_read}
use Rattle.kbm_read.proofs.Language.{accepted}
use Rattle.kbm_read.proofs.Tables.{leaves_table}
use Rattle.listing.proofs.Given.{values_length}
use Rattle.kbm_write.specs.Again.{ComesBack}
use Rattle.kbm_write.specs.Export.{export_text}
use Rattle.kbm_write.specs.Published as P
use Rattle.kbm_write.specs.Typed.{TypedKbm}
use Rattle.kbm_write.proofs.Published.{export_published}
use Rattle.integers.specs.IntegerText.{IntText}
use Rattle.writing.proofs.Plain.{Word}
use Rattle.text.specs.Reading.{strict, EachLine}
use Rattle.text.proofs.LinesLanguage.{one_lines}
use Rattle.promises.specs.kbm.Agree.{Agree}
use Rattle.promises.proofs.kbm.RoundTrip.{round_trip, export_in_language}
use Rattle.promises.proofs.kbm.Standing.{Holds, same_tokens}
use Rattle.promises.proofs.kbm.Values.{whole_agrees, hertz_agrees, whole_word, hertz_word, Written, degree_tokens, same_entries}

pub same_number : {l : List ℕ} {z w : ℤ} {sign : Bool} {top : ℕ} (x : P.Number l z) → IntText sign top x.token w → z ≡ w
same_number {z = z} {w = w} {sign = sign} {top = top} x i = whole_agrees sign top x.token z w x.value i

-- as many tokens before the same others
same_parts : (cs bs xs ys : List (List ℕ)) → length cs ≡ length bs → cs ++ xs ≡ bs ++ ys → (cs ≡ bs) × (xs ≡ ys)
same_parts [] [] xs ys l e = (refl, e)
same_parts [] (b ∷ bs) xs ys l e = absurd (omega arith)
same_parts (a ∷ cs) [] xs ys l e = absurd (omega arith)
same_parts (a ∷ cs) (b ∷ bs) xs ys l e =
    let h : a ≡ b = cc in
    let f : cs ++ xs ≡ bs ++ ys = cc in
    let r = same_parts cs bs xs ys (omega arith) f in
    let q = r.0 in
    (cc, r.1)

module _ {s : List ℕ} {m : P.Mapping} (p : P.PublishedText s m) where
  pub written_degrees : Written p.rest m.given
  written_degrees = degree_tokens p.rest m.given p.degrees

  -- the values of the seven lines
  abbrev pub seven : List (List ℕ)
  seven = p.size.token ∷ p.first.token ∷ p.last.token ∷ p.middle.token ∷ p.reference.token ∷ p.frequency.token ∷ p.octave.token ∷ []

  held : {l : List ℕ} {z : ℤ} (x : P.Number l z) → Word x.token × P.Stands l x.token
  held x = (whole_word x.token x.value, x.stands)

  pub all_held : Holds (p.l1 ∷ p.l2 ∷ p.l3 ∷ p.l4 ∷ p.l5 ∷ p.l6 ∷ p.l7 ∷ p.rest) (seven ++ written_degrees.tokens)
  all_held = (
    held p.size,
    (
      held p.first,
      (
        held p.last,
        (
          held p.middle,
          (
            held p.reference,
            ((hertz_word p.frequency.token p.frequency.value, p.frequency.stands), (held p.octave, written_degrees.holds)),
          ),
        ),
      ),
    ),
  )

  -- what document 01 reads there: the seven values give the required lines theirs, and those after them the entries
  pub read_values : {k : Kbm} {es : List (Option ℤ)} (a : MappingText s k es) → GiveAll unseen required seven a.values × Entries written_degrees.tokens a.given
  read_values a =
      let parts : a.text.parts ≡ p.parts = sym (one_lines a.text.lines) ∙ one_lines p.lines in
      let each = subst (λ (ls : List (List ℕ)). EachLine strict ls a.says) parts a.text.each in
      let tokens = same_tokens p.keeps a.says each (a.lines.first ++ a.lines.rest) (seven ++ written_degrees.tokens) a.lines.words all_held in
      let same = same_parts a.lines.first seven a.lines.rest written_degrees.tokens (values_length mapping unseen required a.lines.first a.values a.lines.values) tokens in
      (subst (λ (l : List (List ℕ)). GiveAll unseen required l a.values) same.0 a.lines.values, subst (λ (l : List (List ℕ)). Entries l a.given) same.1 a.lines.entries)

  by_values : (vs : Values required) (es : List (Option ℤ)) → GiveAll unseen required seven vs → Entries written_degrees.tokens es → Agree m (mapping_from vs) (added (size_of vs) es)
  by_values (n, (lowest, (highest, (mid, (ref, (hz, (formal, o))))))) es g i =
      let size : pos m.size ≡ pos n = same_number p.size g.0 in
      let count : m.size ≡ n = cc in
      let reference : m.reference ≡ ref = same_number p.reference g.1.1.1.1.0 in
      let given : m.given ≡ es = same_entries written_degrees.tokens m.given es written_degrees.are i in
      record {
        size = count;
        first = same_number p.first g.1.0;
        last = ap (λ (z : ℤ). z +ℤ pos 1) (same_number p.last g.1.1.0.0);
        reference = reference;
        middle = rw (same_number p.middle g.1.1.1.0, reference);
        octave = same_number p.octave g.1.1.1.1.1.1.0;
        entries = rw (count, given);
        pitch = hertz_agrees p.frequency.token m.hertz m.places hz p.frequency.value g.1.1.1.1.1.0.0;
      }

  -- THE THEOREM: the two readings of one text agree in numbers and entries
  pub agree : (k : Kbm) (es : List (Option ℤ)) → MappingText s k es → Agree m k es
  agree k es a = let r = read_values a in rw (a.mapping, a.entries) (by_values a.values a.given r.0 r.1)

-- ---- THE EXPORT
-- an export that is read, as whatever mapping, leaves a table that later calls take, with the entries that were written
pub entries_back : (kbm : Kbm) (es : List (Option ℤ)) → TypedKbm kbm es → (old : List ℤ) (k : Kbm) → read_of (length old) (export_text kbm es) ≡ gives k
    → (is_table k.count (after_read (export_text kbm es) old) ≡ true) × (table_of k.count (after_read (export_text kbm es) old) ≡ es)
unfolding blanks
entries_back kbm es y old k e =
    let s = export_text kbm es in
    let l = leaves_table s old e in
    let a = agree (export_published kbm es y) k (entries_in k.count s) (accepted (length old) s k e).0 in
    let z : kbm.count - length es ≡ 0 = omega (arith, y.counted) in
    (l.0, l.1 ∙ a.entries ∙ rw z (append-nil es))

-- and one that comes back leaves mapping and entries, where the table has a place for each
pub mapping_back : (kbm : Kbm) (es : List (Option ℤ)) → TypedKbm kbm es → ComesBack kbm → (old : List ℤ) → kbm.count ≤ length old → (read_of (length old) (export_text kbm es) ≡ gives kbm)
    × (is_table kbm.count (after_read (export_text kbm es) old) ≡ true) × (table_of kbm.count (after_read (export_text kbm es) old) ≡ es)
mapping_back kbm es y c old r =
    let e = (round_trip kbm es y (length old) r).1 c in
    let l = entries_back kbm es y old kbm e in
    (e, l.0, l.1)

-- some text is in both: the export of any mapping that comes back
pub in_both : (kbm : Kbm) (es : List (Option ℤ)) → TypedKbm kbm es → ComesBack kbm → P.PublishedText (export_text kbm es) (P.published_of kbm es) × MappingText (export_text kbm es) kbm es
in_both kbm es y c = (export_published kbm es y, (export_in_language kbm es y).1 c)
