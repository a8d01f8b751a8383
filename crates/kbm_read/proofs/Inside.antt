-- The detail of a fault is a line of the text, or of 2 which required line is missing; the places behind the last entry keep their
-- values. Assumes nothing.
use Rattle.std.specs.Prelude.{Option}
use mathlib.Core.Path.{◌≡◌, sym, ap}
use mathlib.Core.List.{List}
use mathlib.Core.Logic.{inl, inr}
use Prim.Native.Nat.{ℕ, ◌^◌, ◌≤◌, ◌<◌}
use native.Mathlib.Omega.{arith}
use lib.IntN.{ℤ}
use lib.ListN.{length, drop}
use lib.Seq.{drop-append_seam}
use Rattle.base.specs.Tables.{over}
use Rattle.kbm.proofs.Table.{length_numbers}
use Rattle.kbm.specs.Table.{numbers_of}
use Rattle.kbm.specs.declared.Kbm.{Kbm}
use Rattle.listing.specs.Refusals.{DetailOf}
use Rattle.listing.proofs.Details.{lines_few, says_lines, fault_line}
use Rattle.text.proofs.LinesLanguage.{the_lines}
use Rattle.text.specs.Lines.{Lines}
use Rattle.kbm_read.specs.Language.{MappingText, FaultText}
use Rattle.kbm_read.specs.Reader.{after_read}
use Rattle.kbm_read.proofs.Language.{accepts}

-- ---- the detail of a fault: a line of the text or 0, of 2 which of the seven required lines is missing
pub detail_line : {s : List ℕ} {n d room : ℕ} {ls : List (List ℕ)} → FaultText room s n d → Lines s ls → DetailOf (length ls) 7 n d
detail_line {n = n} {d = d} f l = rw (says_lines f.text l) at (fault_line f.fault)

-- so it is below 2 ^ 56 where the text is no longer than that
pub detail_small : {s : List ℕ} {n d room : ℕ} → FaultText room s n d → length s < 2 ^ 56 → d < 2 ^ 56
detail_small {s} f h = elim (detail_line f (the_lines s)) [
  | inl e ↦ omega (arith, e, lines_few (the_lines s), h)
  | inr e ↦ omega (arith, e.2)
]

-- ---- what an accepted read leaves: its entries, and behind them what was there
pub read_over : (text : List ℕ) (old : List ℤ) {k : Kbm} {es : List (Option ℤ)} → MappingText text k es → length es ≤ length old →
    after_read text old ≡ over old (numbers_of es)
read_over text old {k} {es} t h =
    let a = (accepts (length old) text k es).1 (t, h) in
    rw a.0 (ap (λ (l : List (Option ℤ)). over old (numbers_of l)) a.1)

pub read_behind : (text : List ℕ) (old : List ℤ) {k : Kbm} {es : List (Option ℤ)} → MappingText text k es → length es ≤ length old →
    drop (length es) (after_read text old) ≡ drop (length es) old
read_behind text old {k} {es} t h =
    let n = length_numbers es in
    rw (read_over text old t h) (rw (sym n) (drop-append_seam (numbers_of es) (drop (length (numbers_of es)) old)))
