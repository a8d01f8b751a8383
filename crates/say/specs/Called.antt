-- Which calls of what a caller hands over write an answer, and which those of the lines of a list.
use Rattle.std.specs.Prelude.{◌≡◌, ℕ, List, [], ◌∷◌, Option, Result, Ok}
use Rattle.std.specs.Borrow.{Bor, MutBor}
use Rattle.std.specs.Fn.{Once, Mut, CalledWithState}
use Rattle.std.specs.Io.KnownBytes.{Appends}
use Rattle.std.specs.List.{FoldsTo}

module _ {F W X R : Type 0} (g : Once F (MutBor W × (X × Unit {0})) (R × (MutBor W × Unit {0}))) where
  -- called with the writer w and with x, f may give r, and leave the writer as v
  pub record CalledOnce (f : F) (w : W) (x : X) (r : R) (v : W) : Type 0 where
    pub shown : MutBor W
    pub shows : shown.now ≡ w
    pub left : MutBor W
    pub called : g.post f (shown, (x, tt)) (r, (left, tt))
    pub leaves : left.now ≡ v

module _ {F W E : Type 0} (g : Mut F (MutBor W × (Bor (List ℕ) × Unit {0})) (Result (Unit {0}) E × (MutBor W × Unit {0})))
    (contents : W → Option (List ℕ)) where
  -- from the function and the writer p on, the line l is answered: a call with it that is accepted, and then a line end
  pub record AnswersLine (p : F × W) (l : List ℕ) (q : F × W) : Type 0 where
    pub line : Bor (List ℕ)
    pub shows : line.now ≡ l
    pub said : W
    pub called : CalledWithState g p.0 p.1 line (Ok tt) q.0 said
    pub ended : Appends (contents said) (contents q.1) (10 ∷ [])

  -- from f and the writer w on, these lines are answered, in order and no others, and that leaves the writer as v
  abbrev pub AnswersLines : F → W → List (List ℕ) → W → Type 0
  AnswersLines f w ls v = (last : F) × FoldsTo AnswersLine (f, w) ls (last, v)
