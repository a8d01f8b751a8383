-- The laws of what a line says, as the code meets them: the rest after the white space at its start, the whole line, and a line
-- that reaches past the end of the text. Assumes nothing.
use mathlib.Core.Path.{◌≡◌, refl, sym, ◌∙◌, ap}
use mathlib.Core.List.{List, [], ◌∷◌, reverse}
use mathlib.Core.Bool.{Bool, true, false}
use Prim.Native.Nat.{ℕ, zero, suc, ◌+◌, ◌-◌, ◌≤◌, ◌<◌}
use native.Mathlib.Omega.{arith}
use lib.ListN.{length, get_or, take, drop, length-drop}
use lib.Seq.{length-take-le, take_all}
use borrow.Author.Tests.{ne_eqb}
use Rattle.white.specs.Trim.{run, keep_by}
use Rattle.utf8.specs.Utf8Machine.{utf8_from}
use Rattle.text.specs.Part.{part}
use Rattle.text.specs.ReadLine.{token_length, Way, strictly, part_at, line_by, line_of}
use Rattle.text.specs.declared.line.LineSays.{LineSays}
use Rattle.text.specs.declared.line.LineSays.TheVariants.{NotUtf8, Blank, Comment, Content}
use Rattle.white.proofs.Runs.{run_le}
use Rattle.text.proofs.Tokens.{token_le}

-- n bytes, not none, by the first
part_comment : (at : ℕ) (s : List ℕ) (n : ℕ) → (n ≡ 0 → ⊥) → n ≤ length s → get_or s 0 0 ≡ 33 → Comment ≡ part_at at (take n s)
part_comment at s zero o h b = absurd (o refl)
part_comment at [] (suc n) o h b = absurd (omega arith)
part_comment at (c ∷ s) (suc n) o h b = rw b

part_says : (at : ℕ) (s : List ℕ) (n : ℕ) → (n ≡ 0 → ⊥) → n ≤ length s → (get_or s 0 0 ≡ 33 → ⊥) → Content at (at + n) (at + token_length (take n s)) ≡ part_at at (take n s)
part_says at s zero o h b = absurd (o refl)
part_says at [] (suc n) o h b = absurd (omega arith)
part_says at (c ∷ s) (suc n) o h b = rw (ne_eqb c 33 b, length-take-le n s (omega arith))

-- THE REST of a line, which starts at `at`, whatever the reading: its trimmed part ends n bytes on
module _ (w : Way) (at : ℕ) (s : List ℕ) {n : ℕ} (e : n ≡ length s - run w.behind 0 (reverse s)) where
  pub kept_le : n ≤ length s
  kept_le = omega arith

  pub rest_blank : n ≡ 0 → Blank ≡ part_at at (keep_by w.behind s)
  rest_blank z = rw (← e, z)

  module _ (some : n ≡ 0 → ⊥) where
    pub rest_comment : get_or s 0 0 ≡ 33 → Comment ≡ part_at at (keep_by w.behind s)
    rest_comment b = rw (← e) (part_comment at s n some kept_le b)

    pub rest_says : (get_or s 0 0 ≡ 33 → ⊥) → {k : ℕ} → k ≡ token_length (take n s) → Content at (at + n) (at + k) ≡ part_at at (keep_by w.behind s)
    rest_says b q = rw (← e, q) (part_says at s n some kept_le b)

  pub token_kept : {k : ℕ} → k ≡ token_length (take n s) → k ≤ n
  token_kept q = omega (arith, q, token_le (take n s), length-take-le n s kept_le)

-- the white space at the start of a line is within it, and within the text
pub ahead_le : (w : Way) (l : List ℕ) {n : ℕ} → n ≡ run w.ahead 0 l → n ≤ length l
ahead_le w l e = rw e (run_le w.ahead 0 l)

pub part_length : (text : List ℕ) (a e : ℕ) → a ≤ e → e ≤ length text → length (part text a e) ≡ e - a
part_length text a e h g = length-take-le (e - a) (drop a text) (omega (arith, length-drop a text))

pub rest_within : (text : List ℕ) (a e n : ℕ) → a ≤ e → e ≤ length text → n ≤ length (part text a e) →
    a + n + length (part (part text a e) n (length (part text a e))) ≤ length text
rest_within text a e n h g k =
    let l = part text a e in
    omega (arith, k, part_length text a e h g, part_length l n (length l) k (omega arith))

-- THE LINE l, which starts at a, whatever the reading: whether it is a text, and what its rest says
module _ (w : Way) (a : ℕ) (l : List ℕ) {r : Bool} (d : r ≡ w.valid l) where
  pub line_not : r ≡ false → NotUtf8 ≡ line_by w a l
  unfolding line_by
  line_not f = rw (← d, f)

  pub line_is : r ≡ true → {n : ℕ} → n ≡ run w.ahead 0 l → {x : LineSays} → x ≡ part_at (a + n) (keep_by w.behind (take (length l - n) (drop n l))) → x ≡ line_by w a l
  unfolding line_by
  line_is t {n} e q =
      let all : take (length l - n) (drop n l) ≡ drop n l = take_all (length l - n) (drop n l) (omega (arith, length-drop n l)) in
      rw (← d, t, ← e) (q ∙ rw all)

-- no line at all is blank
pub line_empty : (text : List ℕ) (a e : ℕ) → e ≤ a → Blank ≡ line_of strictly text a e
unfolding line_by utf8_from run
line_empty text a e h = let z : e - a ≡ 0 = omega arith in rw z

-- what lies past the end of the text is not there
pub line_past : (w : Way) (text : List ℕ) (a e : ℕ) → length text < e → line_of w text a (length text) ≡ line_of w text a e
line_past w text a e h =
    let n = length-drop a text in
    ap (line_by w a) (take_all (length text - a) (drop a text) (omega arith) ∙ sym (take_all (e - a) (drop a text) (omega arith)))
