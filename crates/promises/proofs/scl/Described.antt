-- The description of a scale file: what a line's trimmed part is, and that a description of that kind makes an export say its lines.
-- Assumes nothing.
use mathlib.Core.Path.{◌≡◌, refl, sym, ap, ◌∙◌, subst}
use mathlib.Core.List.{List, [], ◌∷◌, ◌++◌, append-nil}
use mathlib.Core.Logic.{inl}
use Prim.Native.Nat.{ℕ}
use native.Mathlib.Omega.{arith}
use lib.IntN.{pos}
use lib.ListN.{length, take}
use Rattle.listing.specs.Listing.{Words, GiveAll}
use Rattle.printing.specs.PrintText.{whole_text}
use Rattle.scl.specs.declared.Item.{Item}
use Rattle.scl_read.specs.Language.{ContentLine, required, scale, ScaleText}
use Rattle.scl_write.specs.Export.{item_texts, scale_texts, scale_text}
use Rattle.scl_write.specs.Published.{OneLine}
use Rattle.scl_write.proofs.ExportLines.{after_words, export_lines}
use Rattle.sorting.specs.Entries.{Entry}
use Rattle.text.specs.Lines.{NoLF, EndsCR, Lines}
use Rattle.text.specs.ReadLine.{token_length}
use Rattle.text.specs.Reading.{Comment, Meaning, invalid, blank, comment, content, strict, EachLine, Says}
use Rattle.text.specs.Reading as reading
use Rattle.text.proofs.TokenLanguage.{token}
use Rattle.utf8.specs.Characters.{Utf8, in_bytes, encode}
use Rattle.utf8.proofs.Encodings.{enc1}
use Rattle.white.specs.White.{WhiteSpace, Trimmed}
use Rattle.writing.specs.PublishedLines as published
use Rattle.writing.proofs.Plain.{selves, word_line}
use Rattle.writing.proofs.Plain as plain
use Rattle.promises.specs.scl.Again.{Described}
use Rattle.promises.proofs.scl.Utf8Part.{trimmed_utf8}

-- ---- FROM A TEXT: what a line says of its trimmed part
abbrev pub Part : List ℕ → Meaning → Type 0
Part l invalid = Unit {0}
Part l blank = Unit {0}
Part l comment = Unit {0}
Part l (content m t) = Trimmed WhiteSpace encode l m × (m ≡ [] → ⊥) × (Comment m → ⊥) × Utf8 l

pub part_of : (l : List ℕ) (x : Meaning) → reading.Line strict l x → Part l x
part_of l x (reading.Line.not_text n e) = subst (Part l) (sym e) tt
part_of l x (reading.Line.is_blank r t e) = subst (Part l) (sym e) tt
part_of l x (reading.Line.is_comment r m t c e) = subst (Part l) (sym e) tt
part_of l x (reading.Line.says r m k t s n q e) = subst (Part l) (sym e) (t, s, n, r)

-- no line has an LF in it
abbrev AllNoLF : List (List ℕ) → Type 0
AllNoLF [] = Unit {0}
AllNoLF (l ∷ ls) = NoLF l × AllNoLF ls

lines_free : {s : List ℕ} {ls : List (List ℕ)} → Lines s ls → AllNoLF ls
lines_free Lines.none = tt
lines_free (Lines.last n) = (n, tt)
lines_free (Lines.lf l n e r) = (n, lines_free r)
lines_free (Lines.crlf l n r) = (n, lines_free r)

free_part : (a m c : List ℕ) → NoLF (a ++ (m ++ c)) → NoLF m
free_part [] [] c n = tt
free_part [] (b ∷ m) c n = (n.0, free_part [] m c n.1)
free_part (b ∷ a) m c n = free_part a m c n.1

-- the first line with content
first_content : (ls : List (List ℕ)) (ms : List Meaning) (w : ContentLine) (ws : List ContentLine) → EachLine strict ls ms → AllNoLF ls → Words scale ms (w ∷ ws) →
    (l : List ℕ) × NoLF l × Part l (content w.whole w.token)
first_content ls [] w ws e n h = absurd h
first_content [] (x ∷ ms) w ws e n h = absurd e
first_content (l ∷ ls) (invalid ∷ ms) w ws e n h = absurd h
first_content (l ∷ ls) (blank ∷ ms) w ws e n h = first_content ls ms w ws e.1 n.1 h
first_content (l ∷ ls) (comment ∷ ms) w ws e n h = first_content ls ms w ws e.1 n.1 h
first_content (l ∷ ls) (content m t ∷ ms) w ws e n h = (l, n.0, rw h.0 (part_of l (content m t) e.0))

-- what is left of a line is trimmed
left_trimmed : (l m : List ℕ) → Trimmed WhiteSpace encode l m → Trimmed WhiteSpace encode m m
unfolding in_bytes
left_trimmed l m t = record { before = []; after = []; white_before = tt; white_after = tt; whole = sym (append-nil m); starts = t.starts; ends = t.ends }

-- the line of the description
pub text_line : {s d : List ℕ} {is : List Item} {list : List Entry} → ScaleText s d is list → (l t : List ℕ) × NoLF l × Part l (content d t)
text_line {s} {d} t = go t.lines.first t.lines.rest t.lines.words t.lines.values
  where
    go : (first rest : List ContentLine) → Words scale t.says (first ++ rest) → GiveAll scale tt required first t.values → (l k : List ℕ) × NoLF l × Part l (content d k)
    go [] rest w g = absurd g
    go (v ∷ first) rest w g =
        let (l, n, r) = first_content t.text.parts t.says v (first ++ rest) t.text.each (lines_free t.text.lines) w in
        (l, v.token, n, subst (λ (x : List ℕ). Part l (content x v.token)) (sym (t.described ∙ g.0)) r)

-- so a description of the language is UTF-8 and one line, and one that comes back
pub text_described : {s d : List ℕ} {is : List Item} {list : List Entry} → ScaleText s d is list → Described d
text_described {s} {d} t =
    let (l, k, n, r) = text_line t in
    record {
      utf8 = trimmed_utf8 l d r.3 r.0;
      not_blank = r.1;
      trimmed = left_trimmed l d r.0;
      no_lf = free_part (in_bytes encode r.0.before) d (in_bytes encode r.0.after) (subst NoLF r.0.whole n);
      no_mark = r.2;
    }

-- ---- TO A TEXT: a line of an export
cr_last : (d : List ℕ) → EndsCR d → (t : List ℕ) × (d ≡ t ++ (13 ∷ []))
cr_last [] c = absurd c
cr_last (b ∷ []) c = ([], ap (λ (x : ℕ). x ∷ []) c)
cr_last (b ∷ x ∷ d) c = let (t, e) = cr_last (x ∷ d) c in (b ∷ t, ap (λ (l : List ℕ). b ∷ l) e)

no_cr : (d : List ℕ) → Trimmed WhiteSpace encode d d → EndsCR d → ⊥
no_cr d t c = let (u, e) = cr_last d c in t.ends 13 u (inl (omega arith, omega arith)) (e ∙ ap (λ (l : List ℕ). u ++ l) (sym (enc1 13 (omega arith))))

no_comment : (d : List ℕ) → (Comment d → ⊥) → published.PublishedComment d → ⊥
no_comment [] n c = c
no_comment (b ∷ d) n c = n (d, ap (λ (x : ℕ). x ∷ d) c)

pub one_line : (d : List ℕ) → Described d → OneLine d
one_line d b = record { no_lf = b.no_lf; no_cr = no_cr d b.trimmed; no_comment = no_comment d b.no_mark }

words_themselves : (ts : List (List ℕ)) → plain.Words ts → EachLine strict ts (selves ts)
unfolding selves
words_themselves [] w = tt
words_themselves (t ∷ ts) w = (word_line t w.0, words_themselves ts w.1)

-- the description's token
abbrev pub token_of : List ℕ → List ℕ
token_of d = take (token_length d) d

module _ (d : List ℕ) (is : List Item) where
  abbrev after : List (List ℕ)
  after = whole_text (pos (length is)) ∷ item_texts is

  -- what the lines say: the description, the count, the items
  abbrev pub export_says : List Meaning
  export_says = content d (token_of d) ∷ selves after

  pub export_says_law : Described d → Says strict (scale_text d is) export_says
  unfolding selves
  export_says_law b =
      record {
        parts = scale_texts d is;
        lines = export_lines d is (one_line d b);
        each = (reading.Line.says b.utf8 d (token_of d) b.trimmed b.not_blank b.no_mark (token d) refl, words_themselves after (after_words is));
      }
