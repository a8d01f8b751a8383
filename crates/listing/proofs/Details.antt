-- The detail of a fault is a line of the text, or of 2 which required line is missing, or 0. Assumes nothing.
use mathlib.Core.Path.{◌≡◌, refl, sym, ◌∙◌, ap}
use mathlib.Core.List.{List, [], ◌∷◌}
use mathlib.Core.Logic.{inl, inr}
use Prim.Native.Nat.{ℕ, suc, ◌+◌, ◌≤◌}
use native.Mathlib.Omega.{arith}
use lib.ListN.{length, length-append}
use Rattle.text.proofs.LinesLanguage.{one_lines}
use Rattle.text.specs.Lines.{Lines}
use Rattle.text.specs.Reading.{Reading, Meaning, EachLine, Says}
use Rattle.listing.specs.Listing.{Format, Values, Fault}
use Rattle.listing.specs.Refusals.{DetailOf}

-- a text has no more lines than bytes, and each line says one thing
pub lines_few : {s : List ℕ} {ls : List (List ℕ)} → Lines s ls → length ls ≤ length s
lines_few Lines.none = omega arith
lines_few (Lines.last n) = omega arith
lines_few (Lines.lf l {s} n c r) = omega (arith, lines_few r, length-append l (10 ∷ s))
lines_few (Lines.crlf l {s} n r) = omega (arith, lines_few r, length-append l (13 ∷ 10 ∷ s))

pub each_one : (R : Reading) (ls : List (List ℕ)) (xs : List Meaning) → EachLine R ls xs → length ls ≡ length xs
each_one R [] [] e = refl
each_one R [] (x ∷ xs) e = absurd e
each_one R (l ∷ ls) [] e = absurd e
each_one R (l ∷ ls) (x ∷ xs) e = ap suc (each_one R ls xs e.1)

-- so a text says as many things as it has lines
pub says_lines : {R : Reading} {s : List ℕ} {ms : List Meaning} {ls : List (List ℕ)} → Says R s ms → Lines s ls → length ms ≡ length ls
says_lines {R} {s} {ms} t l = sym (each_one R t.parts ms t.each) ∙ ap length (sym (one_lines t.lines) ∙ one_lines l)

pub fault_line : {F : Format} {End : Values F F.required → List F.Entry → ℕ → Type 0} {room : ℕ} {ms : List Meaning} {n d : ℕ} →
    Fault F End room ms n d → DetailOf (length ms) (length F.required) n d
fault_line (Fault.at_required before line after e p done f more rq vs b w) =
    inl (omega (arith, ap length e, p, length-append before (line ∷ after)))
fault_line (Fault.at_entry before line after e p vs es b f w) =
    inl (omega (arith, ap length e, p, length-append before (line ∷ after)))
fault_line (Fault.missing e done f more rq p vs b) =
    inr (e, omega (arith, p), omega (arith, p, ap length rq, length-append done (f ∷ more)))
fault_line (Fault.at_end e vs es b f w) = inl (omega (arith, e))

-- and so it is no more than the lines and the required ones together
pub fault_detail : {F : Format} {End : Values F F.required → List F.Entry → ℕ → Type 0} {room : ℕ} {ms : List Meaning} {n d : ℕ} →
    Fault F End room ms n d → d ≤ length ms + (length F.required + 1)
fault_detail f = elim (fault_line f) [
  | inl h ↦ omega (arith, h)
  | inr h ↦ omega (arith, h.2)
]
