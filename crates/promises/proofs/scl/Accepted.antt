-- A TEXT OF THE PUBLISHED FORMAT within document 01's limits is in 01's language, with the same items; and the description is the published
-- one, trimmed. It is read where the tables have a place for each note and place 0. Assumes nothing.
use mathlib.Core.Path.{◌≡◌, refl, sym, ap, ◌∙◌, subst}
use mathlib.Core.Bool.{Bool, true, false}
use mathlib.Core.List.{List, [], ◌∷◌}
use mathlib.Core.Logic.{inl, inr}
use Prim.Native.Nat.{ℕ, zero, suc, ◌-◌, ◌≤◌, ◌<◌}
use native.Mathlib.Omega.{arith}
use lib.ListN.{length, get_or}
use Rattle.base.specs.Said.{gives}
use Rattle.floats.specs.Floats.{one_f}
use Rattle.listing.specs.Listing.{Words, Entries, Begins}
use Rattle.scl.specs.Items.{ratio_of}
use Rattle.scl.specs.Table.{ItemTable, no_item, implicit, items_in, is_items}
use Rattle.scl.specs.declared.Item.{Item}
use Rattle.scl.specs.declared.Item.TheVariants.{Cents, Fraction}
use Rattle.scl_read.specs.Language.{ContentLine, required, scale, Values, ScaleText}
use Rattle.scl_read.specs.Reader.{scale_read, read_of, after_items, after_sorted, ReaderFinds}
use Rattle.scl_read.proofs.Ends.{lines_usable, lines_held, lines_sorted}
use Rattle.scl_read.proofs.Language.{accepts}
use Rattle.scl_read.proofs.Leaves.{leaves_items, leaves_list}
use Rattle.scl_tables.specs.Build.{count_of, last_of, scale_of, is_beyond, after_list}
use Rattle.scl_tables.specs.Room.{room_of}
use Rattle.scl_tables.proofs.Beyond.{scale_looks}
use Rattle.scl_tables.proofs.Theorems.{beyond_reach_is}
use Rattle.scl_write.specs.Published as P
use Rattle.sorted.specs.Lent.{ListTable, is_list}
use Rattle.sorting.specs.Entries.{Entry}
use Rattle.text.specs.ReadLine.{strictly, meaning_by}
use Rattle.text.specs.Reading.{Comment, Meaning, comment, content, strict, EachLine}
use Rattle.text.specs.Reading as reading
use Rattle.text.proofs.LineLanguage.{strict_line}
use Rattle.utf8.specs.Characters.{Utf8, encode}
use Rattle.white.specs.White.{WhiteSpace, Trimmed}
use Rattle.writing.specs.PublishedLines.{Kept, Stands}
use Rattle.writing.proofs.Plain.{Word}
use Rattle.promises.specs.kbm.Limits.{AllUtf8}
use Rattle.promises.specs.scl.Agree.{Same, AllSame, Agree}
use Rattle.promises.specs.scl.Limits.{Apart, AllApart, AllWithin, heard, all_heard, WithinLimits}
use Rattle.promises.proofs.kbm.Accepted.{is_text, whole_size}
use Rattle.promises.proofs.kbm.Standing.{value_line, comment_line}
use Rattle.promises.proofs.kbm.Values.{whole_word}
use Rattle.promises.proofs.scl.Following.{apart_line}
use Rattle.promises.proofs.scl.Values.{value_word, value_item}

-- ---- LINES of UTF-8 say their values
-- each of the lines says its word
abbrev pub AllSay : List (List ℕ) → List ContentLine → Type 0
AllSay [] [] = Unit {0}
AllSay [] (w ∷ ws) = ⊥
AllSay (l ∷ ls) [] = ⊥
AllSay (l ∷ ls) (w ∷ ws) = reading.Line strict l (content w.whole w.token) × AllSay ls ws

-- comments drop out, so the words of the lines are those of the lines that are kept
kept_say : {ls ks : List (List ℕ)} → Kept ls ks → AllUtf8 ls → (ws : List ContentLine) → AllSay ks ws → (says : List Meaning) × EachLine strict ls says × Words scale says ws
kept_say Kept.none a [] h = ([], tt, tt)
kept_say Kept.none a (w ∷ ws) h = absurd h
kept_say (Kept.comment {l = l} c k) a ws h =
    let (says, each, words) = kept_say k a.1 ws h in
    elim (comment_line l (meaning_by strictly l) c (strict_line l)) [
      | inl e ↦ absurd (is_text l (meaning_by strictly l) a.0 (strict_line l) e)
      | inr e ↦ (comment ∷ says, (subst (reading.Line strict l) e (strict_line l), each), words)
    ]
kept_say (Kept.kept n k) a [] h = absurd h
kept_say (Kept.kept n k) a (w ∷ ws) h =
    let (says, each, words) = kept_say k a.1 ws h.1 in
    (content w.whole w.token ∷ says, (h.0, each), (refl, words))

kept_utf8 : {ls ks : List (List ℕ)} → Kept ls ks → AllUtf8 ls → AllUtf8 ks
kept_utf8 Kept.none a = tt
kept_utf8 (Kept.comment c k) a = kept_utf8 k a.1
kept_utf8 (Kept.kept n k) a = (a.0, kept_utf8 k a.1)

-- a line where a value stands
stands_say : (l t : List ℕ) → Utf8 l → Word t → Stands l t → (m : List ℕ) × reading.Line strict l (content m t)
stands_say l t u w s = elim (value_line l t (meaning_by strictly l) w s (strict_line l)) [
  | inl e ↦ absurd (is_text l (meaning_by strictly l) u (strict_line l) e)
  | inr e ↦ (e.0, subst (reading.Line strict l) e.1 (strict_line l))
]

-- a line that a value leads, with nothing that joins it
apart_says : (l t : List ℕ) → Utf8 l → Word t → (s : P.LedBy l t) → Apart s.rest → (m : List ℕ) × reading.Line strict l (content m t)
apart_says l t u w s a = elim (apart_line l t w s a (meaning_by strictly l) (strict_line l)) [
  | inl e ↦ absurd (is_text l (meaning_by strictly l) u (strict_line l) e)
  | inr e ↦ (e.0, subst (reading.Line strict l) e.1 (strict_line l))
]

-- the line of the description
description_says : (l : List ℕ) (x : Meaning) → Utf8 l → (Trimmed WhiteSpace encode l [] → ⊥) → ((d : List ℕ) → Trimmed WhiteSpace encode l d → Comment d → ⊥) → reading.Line strict l x →
    (d t : List ℕ) × Trimmed WhiteSpace encode l d × reading.Line strict l (content d t)
description_says l x u b n (reading.Line.not_text y e) = absurd (y u)
description_says l x u b n (reading.Line.is_blank r y e) = absurd (b y)
description_says l x u b n (reading.Line.is_comment r m y c e) = absurd (n m y c)
description_says l x u b n (reading.Line.says r m t y o k q e) = (m, t, y, reading.Line.says r m t y o k q refl)

-- ---- THE NOTES
record Noted (ls : List (List ℕ)) (ps : List P.Pitch) : Type 0 where
  words : List ContentLine
  items : List Item
  say : AllSay ls words
  are : Entries scale words items
  same : AllSame ps items

notes : (ls : List (List ℕ)) (ps : List P.Pitch) → AllUtf8 ls → (v : P.PitchLines ls ps) → AllApart ls ps v → AllWithin ls ps v →
    Noted ls ps
notes [] [] u v a w = record { words = []; items = []; say = tt; are = tt; same = tt }
notes [] (p ∷ ps) u v a w = absurd v
notes (l ∷ ls) [] u v a w = absurd v
notes (l ∷ ls) (p ∷ ps) u v a w =
    let r = notes ls ps u.1 v.1 a.1 w.1 in
    let t = v.0.0 in
    let (m, k) = apart_says l t u.0 (value_word v.0.2) v.0.1 a.0 in
    let (i, x, y) = value_item v.0.2 w.0 in
    record { words = record { whole = m; token = t } ∷ r.words; items = i ∷ r.items; say = (k, r.say); are = (x, r.are); same = (y, r.same) }

-- there are as many items, and the last sounds as the last pitch value
pub same_length : (ps : List P.Pitch) (is : List Item) → AllSame ps is → length is ≡ length ps
same_length [] [] s = refl
same_length [] (i ∷ is) s = absurd s
same_length (p ∷ ps) [] s = absurd s
same_length (p ∷ ps) (i ∷ is) s = ap suc (same_length ps is s.1)

heard_length : (ps : List P.Pitch) → length (all_heard ps) ≡ length ps
heard_length [] = refl
heard_length (p ∷ ps) = ap suc (heard_length ps)

same_ratio : (p : P.Pitch) (i : Item) → Same p i → ratio_of i ≡ ratio_of (heard p)
same_ratio (P.Pitch.cents minus n k) (Cents c) s = rw s
same_ratio (P.Pitch.cents minus n k) (Fraction q r) s = absurd s
same_ratio (P.Pitch.ratio n d) (Cents c) s = absurd s
same_ratio (P.Pitch.ratio n d) (Fraction q r) s = rw (s.0, s.1)

ratio_at_law : (i j : Item) (ps : List P.Pitch) (is : List Item) → ratio_of i ≡ ratio_of j → AllSame ps is → (k : ℕ) → ratio_of (get_or (i ∷ is) k no_item) ≡ ratio_of (get_or (j ∷ all_heard ps) k no_item)
ratio_at_law i j ps is e s zero = e
ratio_at_law i j [] [] e s (suc k) = refl
ratio_at_law i j [] (x ∷ is) e s (suc k) = absurd s
ratio_at_law i j (p ∷ ps) [] e s (suc k) = absurd s
ratio_at_law i j (p ∷ ps) (x ∷ is) e s (suc k) = ratio_at_law x (heard p) ps is (same_ratio p x s.0) s.1 k

pub last_ratio : (ps : List P.Pitch) (is : List Item) → AllSame ps is → ratio_of (last_of (implicit ∷ is)) ≡ ratio_of (last_of (implicit ∷ all_heard ps))
last_ratio ps is s =
    let e : length (implicit ∷ is) - 1 ≡ length (implicit ∷ all_heard ps) - 1 = omega (arith, same_length ps is s, heard_length ps) in
    rw e (ratio_at_law implicit implicit ps is refl s (length (implicit ∷ all_heard ps) - 1))

-- so lines of such items have a sorted list
within_reach : {ms : List Meaning} {vs : Values} {is : List Item} → Begins scale ms required vs is → (2 ≤ length is → ratio_of (last_of (implicit ∷ is)) ≡ gives one_f → ⊥) → (list : List Entry) × (scale_of (implicit ∷ is) ≡ gives list)
within_reach {is = is} b n = go (is_beyond (count_of (implicit ∷ is)) (last_of (implicit ∷ is))) refl
  where
    go : (x : Bool) → is_beyond (count_of (implicit ∷ is)) (last_of (implicit ∷ is)) ≡ x → (list : List Entry) × (scale_of (implicit ∷ is) ≡ gives list)
    go true e =
        let r = (beyond_reach_is (implicit ∷ is) (omega arith) (lines_held b) (lines_usable b)).0 (scale_looks (implicit ∷ is) ∙ rw e) in
        absurd (n (omega (arith, r.0)) r.1)
    go false e = let (list, f) = lines_sorted b in (list, scale_looks (implicit ∷ is) ∙ rw e f)

-- ---- ACCEPTED
module _ {s : List ℕ} {m : P.Scale} (p : P.PublishedText s m) (w : WithinLimits p) where
  -- its description is a line with content
  description : (d t : List ℕ) × Trimmed WhiteSpace encode m.description d × reading.Line strict m.description (content d t)
  description =
      let line = m.description in
      description_says line (meaning_by strictly line) (kept_utf8 p.keeps w.utf8).0 w.not_blank w.no_mark (strict_line line)

  -- A PUBLISHED TEXT WITHIN THE LIMITS is a scale file of document 01, with the description and the pitch values that it has as published
  pub published_accepted : (d : List ℕ) × (is : List Item) × (list : List Entry) × ScaleText s d is list × Agree m d is
  published_accepted =
      let u = kept_utf8 p.keeps w.utf8 in
      let n = notes p.rest m.pitches u.1.1 p.values w.values_apart w.values_within in
      let (d, t, trim, said) = description in
      let (c, counted) = stands_say p.count p.notes.token u.1.0 (whole_word p.notes.token p.notes.value) p.notes.stands in
      let a : ContentLine = record { whole = d; token = t } in
      let b : ContentLine = record { whole = c; token = p.notes.token } in
      let (says, each, words) = kept_say p.keeps w.utf8 (a ∷ b ∷ n.words) (said, (counted, n.say)) in
      let len = same_length m.pitches n.items n.same in
      let vs : Values = (d, (length m.pitches, tt)) in
      let begins : Begins scale says required vs n.items =
      record { first = a ∷ b ∷ []; rest = n.words; words = words; values = (refl, (whole_size w.count w.unsigned p.notes.value, tt)); entries = n.are } in
      let (list, sorted) = within_reach begins (λ two e. w.reach (omega (arith, len, two)) (sym (last_ratio m.pitches n.items n.same) ∙ e)) in (
        d,
        n.items,
        list,
        record {
          says = says;
          text = record { parts = p.parts; lines = p.lines; each = each };
          values = vs;
          lines = begins;
          not_large = omega (arith, len, w.count);
          consistent = len;
          described = refl;
          sorted = sorted;
        },
        record { described = trim; pitches = n.same },
      )

  -- it is read where the tables have a place for each note and place 0, and leaves tables that later calls take
  pub published_read : (u : ItemTable) (l : ListTable) → length m.pitches < room_of u l →
      (d : List ℕ) × (is : List Item) × (list : List Entry) × (read_of (room_of u l) s ≡ gives (scale_read (length is) s)) × ReaderFinds s d is list × Agree m d is
      × (is_items (length is) (after_items s u l) ≡ true) × (items_in (length is) (after_items s u l) ≡ implicit ∷ is) × (is_list (length is) (after_sorted s u l) ≡ true) × (after_sorted s u l ≡ after_list (gives list) l)
  published_read u l h =
      let (d, is, list, t, a) = published_accepted in
      let fits : length is < room_of u l = omega (arith, same_length m.pitches is a.pitches, h) in
      let r = (accepts (room_of u l) s d is list).1 (t, fits) in
      let x = leaves_items s u l t fits in
      let y = leaves_list s u l t fits in
      (d, is, list, r.0, r.1, a, x.0, x.1, y.0, y.1)
