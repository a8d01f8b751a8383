-- C EXPORTS A MAPPING, AND READS THE TEXT: telbijan_export_kbm, then telbijan_read_kbm on just the bytes that it wrote. Assumes nothing.
use Rattle.std.specs.Prelude.{Option}
use mathlib.Core.Path.{◌≡◌, sym, ◌∙◌, ap}
use mathlib.Core.List.{List}
use mathlib.Core.Logic.{◌↔◌}
use Prim.Native.Nat.{ℕ, ◌≤◌}
use native.Mathlib.Omega.{arith}
use lib.IntN.{ℤ}
use lib.ListN.{length, take}
use Rattle.base.specs.Said.{Said, gives}
use Rattle.base.specs.Tables.{over}
use Rattle.kbm.specs.Table.{numbers_of, table_of}
use Rattle.kbm.specs.declared.Kbm.{Kbm}
use Rattle.kbm_read.specs.Language.{MappingText}
use Rattle.kbm_read.specs.Reader.{read_of}
use Rattle.kbm_write.specs.Again.{ComesBack}
use Rattle.kbm_write.specs.Export.{export_of, export_text}
use Rattle.kbm_write.specs.Typed.{TypedKbm, OfTypes}
use Rattle.kbm_write.proofs.Bound.{export_accepted}
use Rattle.kbm_write.proofs.Typed.{typed}
use Rattle.telbijan_answers.specs.Interface.{result, kept}
use Rattle.telbijan_answers.proofs.Interface.{zero_accepted, written_text}
use Rattle.telbijan_mappings.specs.Calls.{ExportKbm, ReadKbm}
use Rattle.telbijan_mappings.proofs.Numbers.{export_kbm_numbered, read_kbm_coded}
use Rattle.telbijan_mappings.proofs.Readings.{language_call}
use Rattle.promises.proofs.kbm.RoundTrip.{round_trip, export_in_language}

module _ (map : List ℤ) (kbm : Kbm) (types : OfTypes kbm) (out : List ℕ) (size r : ℕ) (bytes : List ℕ) (written : ℕ)
    (wrote : ExportKbm map kbm out size r bytes written) (zero : r ≡ 0) where
  abbrev es : List (Option ℤ)
  es = table_of kbm.count map

  abbrev Exported : Type 0
  Exported = TypedKbm kbm es × (take written bytes ≡ export_text kbm es)

  exported : Exported
  exported =
      let numbered = export_kbm_numbered kbm map (length out) in
      let (t, e, is) = written_text (export_of kbm map (length out)) out size r bytes written numbered wrote zero in
      let a = export_accepted kbm map (length out) e in
      (typed kbm map a.0 types.start types.end types.reference types.octave types.count, is ∙ a.1)

  module _ (table : List ℤ) (old : Kbm) (q : ℕ) (left : List ℤ) (new : Kbm) (read : ReadKbm (take written bytes) table old q left new)
      (room : kbm.count ≤ length table) where
    -- THE THEOREM: the read answers 0 and stores the mapping that was exported, exactly where that comes back
    pub export_read : ((q ≡ 0) × (new ≡ kbm)) ↔ ComesBack kbm
    export_read = (forth, back)
      where
        trip : (read_of (length table) (export_text kbm es) ≡ gives kbm) ↔ ComesBack kbm
        trip = round_trip kbm es exported.0 (length table) room

        forth : (q ≡ 0) × (new ≡ kbm) → ComesBack kbm
        forth p =
            let s = take written bytes in
            let numbered = read_kbm_coded (length table) s in
            let (k, e) = (zero_accepted (read_of (length table) s) numbered).0 (sym read.0 ∙ p.0) in
            let same : k ≡ kbm = sym (read.2 ∙ ap (λ (s : Said Kbm). kept s old) e) ∙ p.1 in
            trip.0 (ap (read_of (length table)) (sym exported.1) ∙ e ∙ ap gives same)

        back : ComesBack kbm → (q ≡ 0) × (new ≡ kbm)
        back c =
            let e : read_of (length table) (take written bytes) ≡ gives kbm = ap (read_of (length table)) exported.1 ∙ trip.1 c in
            (read.0 ∙ ap result e, read.2 ∙ ap (λ (s : Said Kbm). kept s old) e)

    -- and then the entries are in the table's first places, with what was there behind them
    pub export_table : ComesBack kbm → left ≡ over table (numbers_of es)
    export_table c =
        let y = exported.0 in
        let t : MappingText (take written bytes) kbm es = rw exported.1 ((export_in_language kbm es y).1 c) in
        (language_call (take written bytes) table old q left new read t (omega (arith, y.counted, room))).2
