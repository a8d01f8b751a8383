-- One line answered, and then those behind it: these are the answers of all lines from its start on.
use Rattle.std.proofs.Common.{◌≡◌, ℕ, ◌-◌, List, [], ◌∷◌, take, drop, Ok, Result}
use Rattle.std.specs.Borrow.{Bor, MutBor}
use Rattle.std.specs.Fn.{Mut, CalledWithState}
use Rattle.std.specs.Io.KnownBytes.{Appends}
use Rattle.std.specs.List.{FoldsTo}
use Rattle.std.specs.declared.option.Option.{Option}
use Rattle.text.specs.Cut.{lines, NextLine}
use Rattle.text.specs.declared.lines.Ends.{Ends}
use Rattle.say.specs.Called.{AnswersLine}

module _ {F W E : Type 0} (g : Mut F (MutBor W × (Bor (List ℕ) × Unit {0})) (Result (Unit {0}) E × (MutBor W × Unit {0})))
    (contents : W → Option (List ℕ)) where
  pub answered_line : (s : List ℕ) (at : ℕ) {l : Ends} → NextLine s at l
      → (f : F) (w : W) (x : Bor (List ℕ)) → x.now ≡ take (l.end - at) (drop at s)
      → (h : F) (m v : W) → CalledWithState g f w x (Ok tt) h m → Appends (contents m) (contents v) (10 ∷ [])
      → (last : F × W) → FoldsTo (AnswersLine g contents) (h, v) (lines (drop l.next s)) last
      → FoldsTo (AnswersLine g contents) (f, w) (lines (drop at s)) last
  answered_line s at t f w x e h m v called ended last rest =
      rw t.first ((h, v), record { line = x; shows = e; said = m; called = called; ended = ended }, rest)
