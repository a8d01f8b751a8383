-- Lines parted at one of their words: those before it, the line that has it, and those after it. Assumes nothing.
use mathlib.Core.Path.{◌≡◌, refl, ap}
use mathlib.Core.List.{List, [], ◌∷◌, ◌++◌}
use Prim.Native.Nat.{ℕ}
use Rattle.text.specs.Reading.{Meaning, invalid, blank, comment, content}
use Rattle.listing.specs.Listing.{Format, Words}

pub record Parted (F : Format) (ms : List Meaning) (us : List F.Word) (w : F.Word) : Type 0 where
  pub before : List Meaning
  pub trimmed : List ℕ
  pub token : List ℕ
  pub after : List Meaning
  pub whole : ms ≡ before ++ content trimmed token ∷ after
  pub words : Words F before us
  pub word : w ≡ F.word trimmed token

-- a line more before them
one_more : (F : Format) (m : Meaning) {ms : List Meaning} {us vs : List F.Word} {w : F.Word} (p : Parted F ms us w) →
    Words F (m ∷ p.before) vs → Parted F (m ∷ ms) vs w
one_more F m p t = record {
  before = m ∷ p.before;
  trimmed = p.trimmed;
  token = p.token;
  after = p.after;
  whole = ap (λ (l : List Meaning). m ∷ l) p.whole;
  words = t;
  word = p.word;
}

pub word_at : (F : Format) (ms : List Meaning) (us : List F.Word) (w : F.Word) (ws : List F.Word) → Words F ms (us ++ w ∷ ws) →
    Parted F ms us w
word_at F [] [] w ws t = absurd t
word_at F [] (u ∷ us) w ws t = absurd t
word_at F (invalid ∷ ms) us w ws t = absurd t
word_at F (blank ∷ ms) us w ws t = let p = word_at F ms us w ws t in one_more F blank p p.words
word_at F (comment ∷ ms) us w ws t = let p = word_at F ms us w ws t in one_more F comment p p.words
word_at F (content m k ∷ ms) [] w ws t =
    record { before = []; trimmed = m; token = k; after = ms; whole = refl; words = tt; word = t.0 }
word_at F (content m k ∷ ms) (u ∷ us) w ws t = let p = word_at F ms us w ws t.1 in one_more F (content m k) p (t.0, p.words)
