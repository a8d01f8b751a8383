-- THE CALL telbijan_read_kbm OVER THE LANGUAGE: accepted exactly for the texts of it that have room, with the one reading in what is
-- stored and lent; refused exactly for the earliest fault, whose number and detail are in the result, with everything as it was.
-- Assumes nothing.
use Rattle.std.specs.Prelude.{Option}
use mathlib.Core.Path.{◌≡◌, refl, sym, ◌∙◌, ap, subst}
use mathlib.Core.Bool.{true}
use mathlib.Core.List.{List}
use Prim.Native.Nat.{ℕ, ◌^◌, ◌≤◌, ◌<◌}
use lib.IntN.{ℤ}
use lib.ListN.{length}
use Rattle.base.specs.Said.{Said, gives, refuses}
use Rattle.base.specs.Tables.{over}
use Rattle.kbm.specs.Table.{numbers_of, is_table, table_of}
use Rattle.kbm.specs.declared.Kbm.{Kbm}
use Rattle.kbm_read.specs.Language.{MappingText, FaultText}
use Rattle.kbm_read.specs.Reader.{read_of, entries_in}
use Rattle.kbm_read.specs.Refusals.{MayRefuse}
use Rattle.kbm_read.proofs.Inside.{detail_small, read_over}
use Rattle.kbm_read.proofs.Language.{accepts, refuses_fault}
use Rattle.kbm_read.proofs.Refusals.{fault_listed}
use Rattle.kbm_read.proofs.Tables.{leaves_meaning}
use Rattle.telbijan_answers.specs.Interface.{result, kept, number_in, detail_in}
use Rattle.telbijan_answers.proofs.Interface.{zero_accepted, refused_back}
use Rattle.telbijan_mappings.specs.Calls.{ReadKbm}
use Rattle.telbijan_mappings.proofs.Numbers.{read_kbm_coded}

module _ (text : List ℕ) (map : List ℤ) (old : Kbm) (r : ℕ) (left : List ℤ) (new : Kbm) (c : ReadKbm text map old r left new) where
  abbrev said : Said Kbm
  said = read_of (length map) text

  -- REFUSED: the earliest fault is what the result says, and table and numbers are as they were
  pub refused_call : length text < 2 ^ 56 → (number detail : ℕ) → FaultText (length map) text number detail →
      (r ≡ 0 → ⊥) × (number_in r ≡ number) × (detail_in r ≡ detail) × (left ≡ map) × (new ≡ old)
  refused_call short number detail f =
      let e : said ≡ refuses number detail = (refuses_fault (length map) text number detail).1 f in
      let b = refused_back (read_kbm_coded (length map) text) c.0 e (detail_small f short) in
      (b.0, b.1, b.2, c.1 ∙ rw e, c.2 ∙ ap (λ (s : Said Kbm). kept s old) e)

  -- and a result that is not 0 says the earliest fault, which is in the header's list
  pub fault_call : length text < 2 ^ 56 → (r ≡ 0 → ⊥) →
      FaultText (length map) text (number_in r) (detail_in r) × MayRefuse text (number_in r) (detail_in r)
  fault_call short nonzero = go said refl
    where
      go : (s : Said Kbm) → said ≡ s → FaultText (length map) text (number_in r) (detail_in r) × MayRefuse text (number_in r) (detail_in r)
      go (gives k) e = absurd (nonzero (c.0 ∙ ap result e))
      go (refuses number detail) e =
          let f = (refuses_fault (length map) text number detail).0 e in
          let b = refused_call short number detail f in
          rw (b.1, b.2) (f, fault_listed f)

  -- a text of the language that has room: result 0, the mapping is stored, its entries are in the first places, and behind them stands
  -- what was there
  pub language_call : {k : Kbm} {es : List (Option ℤ)} → MappingText text k es → length es ≤ length map →
      (r ≡ 0) × (new ≡ k) × (left ≡ over map (numbers_of es))
  language_call {k} {es} t h =
      let e = ((accepts (length map) text k es).1 (t, h)).0 in
      (c.0 ∙ ap result e, c.2 ∙ ap (λ (s : Said Kbm). kept s old) e, c.1 ∙ read_over text map t h)

  -- ACCEPTED: the text is a mapping file that has room, and what is stored and lent is its one reading
  pub accepted_call : r ≡ 0 → (es : List (Option ℤ)) × MappingText text new es × (length es ≤ length map) × (left ≡ over map (numbers_of es))
      × (is_table new.count left ≡ true) × (table_of new.count left ≡ es)
  accepted_call zero =
      let (k, e) = (zero_accepted said (read_kbm_coded (length map) text)).0 (sym c.0 ∙ zero) in
      let es = entries_in k.count text in
      let a = (accepts (length map) text k es).0 (e, refl) in
      let same : new ≡ k = c.2 ∙ ap (λ (s : Said Kbm). kept s old) e in
      let leaves = leaves_meaning text map k es a.0 a.1 in (
        es,
        subst (λ (x : Kbm). MappingText text x es) (sym same) a.0,
        a.1,
        c.1 ∙ read_over text map a.0 a.1,
        (λ i. is_table (same i).count (c.1 i)) ∙ leaves.0,
        (λ i. table_of (same i).count (c.1 i)) ∙ leaves.1,
      )
