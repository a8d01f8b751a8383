-- What the answers of a list write, where each call says what it writes. Assumes nothing.
use Rattle.std.proofs.Common.{ℕ, List, [], ◌∷◌, ◌++◌, subst, Ok, Result}
use Rattle.std.proofs.KnownBytes.{Appends-nil, Appends-trans}
use Rattle.std.specs.Borrow.{Bor, MutBor}
use Rattle.std.specs.Fn.{Mut, CalledWithState}
use Rattle.std.specs.Io.KnownBytes.{Appends}
use Rattle.std.specs.List.{FoldsTo, flat_map}
use Rattle.std.specs.declared.option.Option.{Option}
use Rattle.say.specs.Called.{AnswersLine, AnswersLines}

module _ {F W E : Type 0} (g : Mut F (MutBor W × (Bor (List ℕ) × Unit {0})) (Result (Unit {0}) E × (MutBor W × Unit {0})))
    (contents : W → Option (List ℕ)) (said : List ℕ → List ℕ)
    (each : (f h : F) (w v : W) (x : Bor (List ℕ)) → CalledWithState g f w x (Ok tt) h v
    → Appends (contents w) (contents v) (said x.now)) where
  steps_written : (ls : List (List ℕ)) (p q : F × W) → FoldsTo (AnswersLine g contents) p ls q
      → Appends (contents p.1) (contents q.1) (flat_map (λ l. said l ++ 10 ∷ []) ls)
  steps_written [] p q h = subst (λ (r : F × W). Appends (contents p.1) (contents r.1) []) h (Appends-nil _)
  steps_written (l ∷ ls) p q h =
      let now = h.1 in
      let one = subst (λ t. Appends (contents p.1) (contents now.said) (said t)) now.shows (each _ _ _ _ _ now.called) in
      Appends-trans _ _ _ _ _ (Appends-trans _ _ _ _ _ one now.ended) (steps_written ls _ q h.2)

  -- where each accepted call appends what `said` gives of its line, that of each line is appended, in order, and a line end after each
  pub answers_written : (f : F) (w : W) (ls : List (List ℕ)) (v : W) → AnswersLines g contents f w ls v
      → Appends (contents w) (contents v) (flat_map (λ l. said l ++ 10 ∷ []) ls)
  answers_written f w ls v h = steps_written ls (f, w) (h.0, v) h.1
