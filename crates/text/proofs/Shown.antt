-- The parts that an answer gives by start and end are those of the line, in the whole text; and THE LAW OF A READER'S TURN: what
-- `next_line` and `read_line` answer is the first of what the text still says. Assumes nothing.
use mathlib.Core.Path.{◌≡◌, refl, sym, ◌∙◌, ap}
use mathlib.Core.List.{List, [], ◌∷◌, ◌++◌, append_assoc, reverse}
use mathlib.Core.Bool.{Bool, true, false}
use Prim.Native.Nat.{ℕ, ◌+◌, ◌-◌, ◌≤◌, ◌<◌}
use native.Mathlib.Nat.{add-sub_cancel_left}
use native.Mathlib.Omega.{arith}
use lib.Dec.{eqb}
use lib.ListN.{length, take, drop, length-append, length-drop, take-append-drop, drop_of_length-le}
use lib.Seq.{drop-drop, drop-append-le, take-append-le, take-length}
use Rattle.base.specs.Said.{pick}
use Rattle.text.specs.Cut.{lines, cut}
use Rattle.text.specs.Reading.{invalid, comment, content}
use Rattle.text.specs.Part.{part}
use Rattle.text.specs.ReadLine.{token_length, Way, part_meaning, part_at, meaning_by, meanings, said_in, line_by, line_of, shown, InText}
use Rattle.white.specs.Trim.{run, trim_by}
use Rattle.text.specs.declared.line.LineSays.{LineSays}
use Rattle.text.specs.declared.line.LineSays.TheVariants.{NotUtf8, Comment, Content}
use Rattle.text.specs.declared.lines.Ends.{Ends}
use Rattle.text.proofs.Cuts.{turn}
use Rattle.white.proofs.Runs.{run_le}
use Rattle.text.proofs.Tokens.{token_le}

-- m stands at k in the text
abbrev StandsAt : List ℕ → ℕ → List ℕ → Type 0
StandsAt text k m = (r : List ℕ) × (drop k text ≡ m ++ r)

-- its part of n bytes is the part of the text from k on
stands_part : (text m : List ℕ) (k n : ℕ) → StandsAt text k m → n ≤ length m → part text k (k + n) ≡ take n m
stands_part text m k n (r, e) h = rw (add-sub_cancel_left k n, e) (take-append-le n m r h)

stands_end : (text m : List ℕ) (k : ℕ) → k ≤ length text → StandsAt text k m → k + length m ≤ length text
stands_end text m k h (r, e) = omega (arith, length-drop k text, ap length e, length-append m r)

-- the trimmed part of the line from a to e, and where it starts
abbrev middle : Way → List ℕ → ℕ → ℕ → List ℕ
middle w text a e = trim_by w.ahead w.behind (part text a e)

abbrev begins : Way → List ℕ → ℕ → ℕ → ℕ
begins w text a e = a + run w.ahead 0 (part text a e)

-- it stands there in the text
middle_stands : (w : Way) (text : List ℕ) (a e : ℕ) → StandsAt text (begins w text a e) (middle w text a e)
middle_stands w text a e =
    let d = drop a text in
    let l = part text a e in
    let n = run w.ahead 0 l in
    let t = drop n l in
    let k = length t - run w.behind 0 (reverse t) in
    let line : d ≡ l ++ drop (e - a) d = sym (take-append-drop (e - a) d) in
    let rest : t ≡ take k t ++ drop k t = sym (take-append-drop k t) in (
      drop k t ++ drop (e - a) d,
      sym (drop-drop n a text) ∙ ap (drop n) line ∙ drop-append-le n l (drop (e - a) d) (run_le w.ahead 0 l) ∙
          ap (λ (x : List ℕ). x ++ drop (e - a) d) rest ∙ append_assoc (take k t) (drop k t) (drop (e - a) d),
    )

-- what the answer shows is what the line says
shown_part : (text m : List ℕ) (k : ℕ) → StandsAt text k m → shown text (part_at k m) ≡ part_meaning m
shown_part text [] k s = refl
shown_part text (b ∷ l) k s = go (eqb b 33)
  where
    go : (x : Bool) → shown text (pick x Comment (Content k (k + length (b ∷ l)) (k + token_length (b ∷ l)))) ≡ pick x comment (content (b ∷ l) (take (token_length (b ∷ l)) (b ∷ l)))
    go true = refl
    go false =
        let m = b ∷ l in
        rw (stands_part text m k (length m) s (omega arith), take-length m, stands_part text m k (token_length m) s (token_le m))

pub shown_line : (w : Way) (text : List ℕ) (a e : ℕ) → shown text (line_of w text a e) ≡ meaning_by w (part text a e)
unfolding line_by meaning_by
shown_line w text a e = go (w.valid (part text a e))
  where
    go : (x : Bool) → shown text (pick x (part_at (begins w text a e) (middle w text a e)) NotUtf8) ≡ pick x (part_meaning (middle w text a e)) invalid
    go true = shown_part text (middle w text a e) (begins w text a e) (middle_stands w text a e)
    go false = refl

part_within : (text m : List ℕ) (k : ℕ) → k ≤ length text → StandsAt text k m → InText text (part_at k m)
part_within text [] k h s = tt
part_within text (b ∷ l) k h s = go (eqb b 33)
  where
    go : (x : Bool) → InText text (pick x Comment (Content k (k + length (b ∷ l)) (k + token_length (b ∷ l))))
    go true = tt
    go false = (omega arith, omega (arith, token_le (b ∷ l)), stands_end text (b ∷ l) k h s)

pub within : (w : Way) (text : List ℕ) (a e : ℕ) → a ≤ length text → InText text (line_of w text a e)
unfolding line_by
within w text a e h = go (w.valid (part text a e))
  where
    go : (x : Bool) → InText text (pick x (part_at (begins w text a e) (middle w text a e)) NotUtf8)
    go false = tt
    go true =
        let l = part text a e in
        let d = drop a text in
        let k : begins w text a e ≤ length text =
        omega (arith, h, run_le w.ahead 0 l, length-append l (drop (e - a) d), ap length (take-append-drop (e - a) d), length-drop a text) in
        part_within text (middle w text a e) (begins w text a e) k (middle_stands w text a e)

-- THE LAW OF A READER'S TURN, at a place in the text: what the line there says, and what the lines after it say
pub record LineTurn (w : Way) (text : List ℕ) (at : ℕ) (l : Ends) (r : LineSays) : Type 0 where
  pub first : meanings w (lines (drop at text)) ≡ shown text r ∷ meanings w (lines (drop l.next text))
  pub parts : InText text r
  pub moves : at < l.next
  pub stays : l.next ≤ length text

pub line_turn : (w : Way) (text : List ℕ) (at : ℕ) → at < length text → {l : Ends} {r : LineSays} → l ≡ cut at (drop at text) → r ≡ line_of w text at l.end → LineTurn w text at l r
unfolding meanings
line_turn w text at h {l} {r} p q =
    let t = turn text at h p in
    record {
      first = ap (meanings w) t.first ∙ rw (q, shown_line w text at l.end);
      parts = rw q (within w text at l.end (omega arith));
      moves = t.moves;
      stays = t.stays;
    }

-- nothing is said past the end of the text
pub said_end : (text : List ℕ) (at : ℕ) → length text ≤ at → said_in (drop at text) ≡ []
unfolding lines meanings
said_end text at h = rw (drop_of_length-le text h)

-- the token of a line lies in the text
pub token_within : (text : List ℕ) {x : LineSays} {a e t : ℕ} → InText text x → x ≡ Content a e t → (a ≤ t) × (t ≤ length text)
token_within text h q = let w = rw q at h in (w.0, omega (arith, w.1, w.2))
