-- The law of a reader's turn with the places of each line, and that these lines say what the text says. Assumes nothing.
use mathlib.Core.Path.{◌≡◌, refl, ◌∙◌, ap}
use mathlib.Core.List.{List, [], ◌∷◌}
use mathlib.Core.Bool.{Bool, true, false}
use Prim.Native.Nat.{ℕ, zero, suc, ◌+◌, ◌≤◌, ◌<◌}
use native.Mathlib.Omega.{arith}
use lib.Dec.{eqb, ltb}
use lib.ListN.{length, drop, length-drop, drop_of_length-le}
use lib.Seq.{drop-drop}
use borrow.Author.Tests.{ltb-true, ltb-false}
use Rattle.base.specs.Said.{pick}
use Rattle.base.proofs.Pick.{pick_both, pick_never}
use Rattle.text.specs.Cut.{cut, is_cr, skip}
use Rattle.text.specs.Placed.{starts_from, placed_by, placed_from, placed_in}
use Rattle.text.specs.ReadLine.{strictly, said_in, line_of, shown}
use Rattle.text.specs.Reading.{Meaning}
use Rattle.text.specs.declared.line.LineSays.{LineSays}
use Rattle.text.specs.declared.lines.Ends.{Ends}
use Rattle.text.proofs.Cuts.{cut_len, turn}
use Rattle.text.proofs.Shown.{line_turn, said_end}

-- the next line starts after the end of this one
starts_skip : (k : ℕ) (s : List ℕ) → starts_from false k s ≡ starts_from true (k + skip s) (drop (skip s) s)
unfolding starts_from skip
starts_skip k [] = refl
starts_skip k (b ∷ []) = go (eqb b 10)
  where
    go : (t : Bool) → starts_from t (k + 1) [] ≡ starts_from true (k + pick t 1 (pick (pick (eqb b 13) false false) 2 1)) (drop (pick t 1 (pick (pick (eqb b 13) false false) 2 1)) (b ∷ []))
    go true = refl
    go false = rw (pick_never (eqb b 13))
starts_skip k (b ∷ c ∷ s) = go (eqb b 10) (is_cr b (c ∷ s)) refl (starts_skip (k + 1) (c ∷ s))
  where
    go : (t u : Bool) → is_cr b (c ∷ s) ≡ u → starts_from false (k + 1) (c ∷ s) ≡ starts_from true (k + 1 + skip (c ∷ s)) (drop (skip (c ∷ s)) (c ∷ s)) →
        starts_from t (k + 1) (c ∷ s) ≡ starts_from true (k + pick t 1 (pick u 2 (suc (skip (c ∷ s))))) (drop (pick t 1 (pick u 2 (suc (skip (c ∷ s))))) (b ∷ c ∷ s))
    go true u q ih = refl
    go false true q ih = let z : k + 1 + 1 ≡ k + 2 = omega arith in rw ((pick_both (eqb b 13) (eqb c 10) q).1, z)
    go false false q ih = let z : k + 1 + skip (c ∷ s) ≡ k + suc (skip (c ∷ s)) = omega arith in ih ∙ ap (λ n. starts_from true n (drop (skip (c ∷ s)) (c ∷ s))) z

-- so of the lines of a text from a place on
starts_next : (k : ℕ) (s : List ℕ) → 0 < length s → starts_from true k s ≡ k ∷ starts_from true (k + skip s) (drop (skip s) s)
unfolding starts_from
starts_next k [] h = absurd (omega arith)
starts_next k (b ∷ s) h = ap (λ (l : List ℕ). k ∷ l) (starts_skip k (b ∷ s))

-- THE LAW OF A TURN, with places
pub placed_turn : (text : List ℕ) (at : ℕ) → at < length text → {l : Ends} → l ≡ cut at (drop at text) →
    placed_from at (drop at text) ≡ line_of strictly text at l.end ∷ placed_from l.next (drop l.next text)
unfolding placed_by
placed_turn text at h {l} e =
    let t = turn text at h e in
    let next : l.next ≡ at + skip (drop at text) = ap (λ x. x.next) (e ∙ cut_len at (drop at text)) in
    let s : starts_from true at (drop at text) ≡ at ∷ starts_from true l.next (drop l.next text) =
    starts_next at (drop at text) (omega (arith, length-drop at text)) ∙ rw (next, drop-drop (skip (drop at text)) at text) in
    rw (s, t.first)

pub placed_end : (text : List ℕ) (at : ℕ) → length text ≤ at → placed_from at (drop at text) ≡ []
unfolding placed_by starts_from
placed_end text at h = rw (drop_of_length-le text h)

-- what each of these lines says
abbrev pub shown_all : List ℕ → List LineSays → List Meaning
shown_all text [] = []
shown_all text (x ∷ xs) = shown text x ∷ shown_all text xs

-- THESE LINES SAY what the text says
placed_said : (n : ℕ) (text : List ℕ) (at : ℕ) → length text ≤ at + n → shown_all text (placed_from at (drop at text)) ≡ said_in (drop at text)
placed_said zero text at h = rw (placed_end text at (omega arith), said_end text at (omega arith))
placed_said (suc n) text at h = go (ltb at (length text)) refl (placed_said n text)
  where
    go : (b : Bool) → ltb at (length text) ≡ b → ((k : ℕ) → length text ≤ k + n → shown_all text (placed_from k (drop k text)) ≡ said_in (drop k text)) →
        shown_all text (placed_from at (drop at text)) ≡ said_in (drop at text)
    go false p ih = let z = ltb-false at (length text) p in rw (placed_end text at z, said_end text at z)
    go true p ih =
        let z = ltb-true at (length text) p in
        let l = cut at (drop at text) in
        let t = line_turn strictly text at z {l = l} refl refl in
        rw (placed_turn text at z {l = l} refl, t.first, ih l.next (omega (arith, t.moves)))

pub placed_says : (text : List ℕ) → shown_all text (placed_in text) ≡ said_in text
placed_says text = placed_said (length text) text 0 (omega arith)
