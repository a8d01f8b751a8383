-- Texts of plain bytes, as exports write them: each is a line of its own, which says itself. Assumes nothing.
use mathlib.Core.Path.{◌≡◌, refl, sym, ap, subst}
use mathlib.Core.Bool.{Bool, true, false, ◌&&◌, ◌||◌}
use mathlib.Core.List.{List, [], ◌∷◌, ◌++◌, append_assoc, append-nil}
use mathlib.Core.Logic.{◌⊎◌, inl, inr}
use Prim.Native.Nat.{ℕ, ◌+◌, ◌≤◌, ◌<◌}
use native.Mathlib.Omega.{arith}
use lib.Dec.{T, leb}
use lib.ListN.{length}
use lib.Ieee.Bits.{is_true}
use borrow.Author.Tests.{leb-true}
use Rattle.floats.proofs.Ranges.{and_true}
use Rattle.utf8.specs.Characters.{Each, in_bytes, Span, span, Among, Scalar, encode}
use Rattle.text.specs.Cut.{lines}
use Rattle.text.specs.Lines.{NoLF, EndsCR, Lines}
use Rattle.text.specs.ReadLine.{strictly, meanings}
use Rattle.text.specs.Reading.{Comment, strict, Splits, Token, Meaning, content, Line, EachLine, Says}
use Rattle.white.specs.White.{WhiteSpace, Trimmed}
use Rattle.base.proofs.Integers.{split}
use Rattle.utf8.proofs.Encodings.{enc1, enc2, enc3, enc4}
use Rattle.text.proofs.LineLanguage.{one_strict_text}
use Rattle.writing.specs.Lines.{lines_text}

-- a graphic character of ASCII after `!`
abbrev pub Plain : ℕ → Type 0
Plain b = (33 < b) × (b < 127)

-- some plain bytes
pub record Word (t : List ℕ) : Type 0 where
  pub some : 0 < length t
  pub each : Each Plain t

-- what holds of each byte of two texts holds of each of both
pub each_append : (P : ℕ → Type 0) (s t : List ℕ) → Each P s → Each P t → Each P (s ++ t)
each_append P [] t a b = b
each_append P (c ∷ s) t a b = (a.0, each_append P s t a.1 b)

each_left : (P : ℕ → Type 0) (s t : List ℕ) → Each P (s ++ t) → Each P s
each_left P [] t a = tt
each_left P (c ∷ s) t a = (a.0, each_left P s t a.1)

pub each_right : (P : ℕ → Type 0) (s t : List ℕ) → Each P (s ++ t) → Each P t
each_right P [] t a = a
each_right P (c ∷ s) t a = each_right P s t a.1

-- no number of spans that lie outside is plain
abbrev outside : List Span → Bool
outside [] = true
outside (s ∷ ss) = (leb s.last 33 || leb 127 s.first) && outside ss

among_plain : (ss : List Span) (c : ℕ) → outside ss ≡ true → Plain c → Among ss c → ⊥
among_plain [] c o p a = a
among_plain (s ∷ ss) c o p (inl h) = go (leb s.last 33) (leb 127 s.first) refl refl (and_true (leb s.last 33 || leb 127 s.first) (outside ss) o).0
  where
    go : (x y : Bool) → leb s.last 33 ≡ x → leb 127 s.first ≡ y → T (x || y) → ⊥
    go true y e f t = omega (arith, leb-true s.last 33 e, h, p)
    go false true e f t = omega (arith, leb-true 127 s.first f, h, p)
    go false false e f t = t
among_plain (s ∷ ss) c o p (inr h) = among_plain ss c (is_true (outside ss) (and_true (leb s.last 33 || leb 127 s.first) (outside ss) o).1) p h

-- Unicode's White_Space, as `WhiteSpace` has it
abbrev whites : List Span
whites =
    span 0x0009 0x000D ∷ span 0x0020 0x0020 ∷ span 0x0085 0x0085 ∷ span 0x00A0 0x00A0 ∷ span 0x1680 0x1680 ∷
    span 0x2000 0x200A ∷ span 0x2028 0x2028 ∷ span 0x2029 0x2029 ∷ span 0x202F 0x202F ∷ span 0x205F 0x205F ∷ span 0x3000 0x3000 ∷ []

-- no white character is plain
white_plain : (c : ℕ) → WhiteSpace c → Each Plain (encode c) → ⊥
white_plain c w p = go (split c 0x80) (split c 0x800) (split c 0x10000)
  where
    go : (c < 0x80) ⊎ (0x80 ≤ c) → (c < 0x800) ⊎ (0x800 ≤ c) → (c < 0x10000) ⊎ (0x10000 ≤ c) → ⊥
    go (inl h) i j = let q : Each Plain (c ∷ []) = rw (enc1 c h) at p in among_plain whites c refl q.0 w
    go (inr h) (inl i) j = let q = rw (enc2 c h i) at p in omega (arith, q.0)
    go (inr h) (inr i) (inl j) = let q = rw (enc3 c i j) at p in omega (arith, q.0)
    go (inr h) (inr i) (inr j) = let q = rw (enc4 c j) at p in omega (arith, q.0)

-- plain bytes are UTF-8, each a character
characters : (t : List ℕ) → Each Plain t → Each Scalar t
characters [] p = tt
characters (b ∷ t) p = (inl (omega (arith, p.0)), characters t p.1)

themselves : (t : List ℕ) → Each Plain t → t ≡ in_bytes encode t
unfolding in_bytes
themselves [] p = refl
themselves (b ∷ t) p = rw (enc1 b (omega (arith, p.0))) (ap (λ (s : List ℕ). b ∷ s) (themselves t p.1))

-- nothing is trimmed, nothing splits, nothing ends a line
pub kept : (t : List ℕ) → Each Plain t → Trimmed WhiteSpace encode t t
unfolding in_bytes
kept t p =
    record {
      before = [];
      after = [];
      white_before = tt;
      white_after = tt;
      whole = sym (append-nil t);
      starts = λ c u w e. white_plain c w (each_left Plain (encode c) u (subst (Each Plain) e p));
      ends = λ c u w e. white_plain c w (each_right Plain u (encode c) (subst (Each Plain) e p));
    }

pub whole_token : (t : List ℕ) → Each Plain t → Token t t
whole_token t p = record { rest = []; whole = sym (append-nil t); inside = inside t p; stops = tt }
  where
    inside : (s : List ℕ) → Each Plain s → Each (λ b. Splits b → ⊥) s
    inside [] q = tt
    inside (b ∷ s) q = (λ h. among_plain (span 32 32 ∷ span 9 9 ∷ span 10 10 ∷ span 12 12 ∷ span 13 13 ∷ []) b refl q.0 h, inside s q.1)

no_lf : (t : List ℕ) → Each Plain t → NoLF t
no_lf [] p = tt
no_lf (b ∷ t) p = (λ e. omega (arith, e, p.0), no_lf t p.1)

no_cr : (t : List ℕ) → Each Plain t → EndsCR t → ⊥
no_cr [] p e = e
no_cr (b ∷ []) p e = omega (arith, e, p.0)
no_cr (b ∷ c ∷ t) p e = no_cr (c ∷ t) p.1 e

-- a word is a line that says itself
pub word_line : (t : List ℕ) → Word t → Line strict t (content t t)
word_line t w =
    Line.says (record { codes = t; each = characters t w.each; text = themselves t w.each }) t t (kept t w.each) (some t w) (stays t w) (whole_token t w.each) refl
  where
    some : (s : List ℕ) → Word s → s ≡ [] → ⊥
    some s v e = omega (arith, v.some, ap length e)

    stays : (s : List ℕ) → Word s → Comment s → ⊥
    stays s v (u, e) = let q = subst (Each Plain) e v.each in omega (arith, q.0)

-- each text is a word
abbrev pub Words : List (List ℕ) → Type 0
Words [] = Unit {0}
Words (t ∷ ts) = Word t × Words ts

-- what lines of words say: themselves
unfoldable pub selves : List (List ℕ) → List Meaning
selves [] = []
selves (t ∷ ts) = content t t ∷ selves ts

pub word_lines : (ts : List (List ℕ)) → Words ts → Lines (lines_text ts) ts
unfolding lines_text
word_lines [] w = Lines.none
word_lines (t ∷ ts) w = rw (append_assoc t (10 ∷ []) (lines_text ts)) (Lines.lf t (no_lf t w.0.each) (no_cr t w.0.each) (word_lines ts w.1))

pub words_say : (ts : List (List ℕ)) → Words ts → Says strict (lines_text ts) (selves ts)
unfolding selves
words_say ts w = record { parts = ts; lines = word_lines ts w; each = each ts w }
  where
    each : (us : List (List ℕ)) → Words us → EachLine strict us (selves us)
    each [] v = tt
    each (u ∷ us) v = (word_line u v.0, each us v.1)

-- so a reader of lines finds them
pub words_found : (ts : List (List ℕ)) → Words ts → meanings strictly (lines (lines_text ts)) ≡ selves ts
words_found ts w = one_strict_text (lines_text ts) (selves ts) (words_say ts w)
