-- THE LIMITS ARE NEEDED: a published text that is in document 01's language with that meaning is within them; so the limits are exact.
-- Assumes nothing.
use mathlib.Core.Path.{◌≡◌, sym, ◌∙◌, subst}
use mathlib.Core.Bool.{Bool}
use mathlib.Core.List.{List, [], ◌∷◌, ◌++◌}
use mathlib.Core.Logic.{◌↔◌}
use Prim.Native.Nat.{ℕ, ◌^◌, ◌<◌}
use native.Mathlib.Omega.{arith}
use lib.ListN.{length}
use Rattle.base.proofs.Said.{no_value}
use Rattle.decimals.specs.DecimalText.{Unsupported, from_nonzero}
use Rattle.listing.specs.Listing.{Words, GiveAll, Entries}
use Rattle.scl.specs.Items.{Held}
use Rattle.scl.specs.Table.{implicit}
use Rattle.scl.specs.declared.Item.{Item}
use Rattle.scl.specs.declared.Item.TheVariants.{Cents, Fraction}
use Rattle.scl_read.specs.ItemText.{ItemText}
use Rattle.scl_read.specs.Language.{ContentLine, required, scale, ScaleText}
use Rattle.scl_read.proofs.Ends.{lines_usable, lines_held}
use Rattle.scl_read.proofs.Usable.{item_usable, item_held}
use Rattle.scl_tables.proofs.Theorems.{beyond_reach_is}
use Rattle.scl_write.specs.Published as P
use Rattle.sorting.specs.Entries.{Entry}
use Rattle.text.specs.Reading.{Comment, Meaning, invalid, blank, comment, content, strict, EachLine}
use Rattle.text.specs.Reading as reading
use Rattle.text.proofs.LinesLanguage.{one_lines}
use Rattle.utf8.specs.Characters.{Utf8, encode}
use Rattle.white.specs.White.{WhiteSpace, Trimmed}
use Rattle.white.proofs.TrimLanguage.{one_trimmed}
use Rattle.promises.specs.kbm.Limits.{AllUtf8}
use Rattle.promises.specs.scl.Agree.{Same, Agree}
use Rattle.promises.specs.scl.Limits.{AllApart, ValueWithin, AllWithin, WithinLimits}
use Rattle.promises.proofs.kbm.Limits.{no_minus, at_most}
use Rattle.promises.proofs.kbm.Values.{whole_word}
use Rattle.promises.proofs.scl.Accepted.{AllSay, same_length, last_ratio, published_accepted}
use Rattle.promises.proofs.scl.Agree.{cents_supported, value_agrees, stands_token, words_read}
use Rattle.promises.proofs.scl.Described.{text_line}
use Rattle.promises.proofs.scl.Following.{led_token}
use Rattle.promises.proofs.scl.ItemsBack.{decimal_of}

-- ---- LINES that have words are UTF-8
abbrev Text : List ℕ → Meaning → Type 0
Text l invalid = Unit {0}
Text l blank = Utf8 l
Text l comment = Utf8 l
Text l (content m t) = Utf8 l

text_of : (l : List ℕ) (x : Meaning) → reading.Line strict l x → Text l x
text_of l x (reading.Line.not_text n e) = subst (Text l) (sym e) tt
text_of l x (reading.Line.is_blank r t e) = subst (Text l) (sym e) r
text_of l x (reading.Line.is_comment r m t c e) = subst (Text l) (sym e) r
text_of l x (reading.Line.says r m k t s n q e) = subst (Text l) (sym e) r

lines_utf8 : (ls : List (List ℕ)) (xs : List Meaning) (ws : List ContentLine) → EachLine strict ls xs → Words scale xs ws → AllUtf8 ls
lines_utf8 [] xs ws e w = tt
lines_utf8 (l ∷ ls) [] ws e w = absurd e
lines_utf8 (l ∷ ls) (invalid ∷ xs) ws e w = absurd w
lines_utf8 (l ∷ ls) (blank ∷ xs) ws e w = (text_of l blank e.0, lines_utf8 ls xs ws e.1 w)
lines_utf8 (l ∷ ls) (comment ∷ xs) ws e w = (text_of l comment e.0, lines_utf8 ls xs ws e.1 w)
lines_utf8 (l ∷ ls) (content m t ∷ xs) [] e w = absurd w
lines_utf8 (l ∷ ls) (content m t ∷ xs) (v ∷ ws) e w = (text_of l (content m t) e.0, lines_utf8 ls xs ws e.1 w.1)

-- ---- VALUES that are items are within their limits
cents_within : {t : List ℕ} {minus : Bool} {n k : ℕ} (x : P.CentsText t minus n k) (i : Item) → Same (P.Pitch.cents minus n k) i → ItemText t i → ValueWithin (P.PitchText.cents x)
cents_within {k = k} x (Cents c) s y =
    let supported = cents_supported x c (decimal_of y) in (
      at_most (length (from_nonzero (x.whole ++ x.part))) 18 (λ h. supported (Unsupported.long h)),
      omega (arith, x.places, at_most (length x.part) 18 (λ h. supported (Unsupported.deep h))),
      rw s at (item_usable y),
    )
cents_within x (Fraction p q) s y = absurd s

ratio_within : (n d : ℕ) (i : Item) → Same (P.Pitch.ratio n d) i → Held i → (n < 2 ^ 32) × (d < 2 ^ 32)
ratio_within n d (Cents c) s h = absurd s
ratio_within n d (Fraction p q) s h = (omega (arith, s.0, h.0), omega (arith, s.1, h.1))

value_within : {t : List ℕ} {p : P.Pitch} (i : Item) (v : P.PitchText t p) → ItemText t i → ValueWithin v
value_within i (P.PitchText.cents x) y = cents_within x i (value_agrees (P.PitchText.cents x) y) y
value_within i (P.PitchText.ratio a b n d e x z p q) y =
    ratio_within n d i (value_agrees (P.PitchText.ratio a b n d e x z p q) y) (item_held y)
value_within i (P.PitchText.whole n x p) y = (ratio_within n 1 i (value_agrees (P.PitchText.whole n x p) y) (item_held y)).0

values_within : (ls : List (List ℕ)) (ps : List P.Pitch) (ws : List ContentLine) (is : List Item) (v : P.PitchLines ls ps) → AllSay ls ws → Entries scale ws is → AllWithin ls ps v
values_within [] [] ws is v a e = tt
values_within [] (p ∷ ps) ws is v a e = absurd v
values_within (l ∷ ls) [] ws is v a e = absurd v
values_within (l ∷ ls) (p ∷ ps) [] is v a e = absurd a
values_within (l ∷ ls) (p ∷ ps) (w ∷ ws) [] v a e = absurd e
values_within (l ∷ ls) (p ∷ ps) (w ∷ ws) (i ∷ is) v a e =
    let t = (led_token v.0.2 v.0.1 a.0 e.0).0 in
    (value_within i v.0.2 (subst (λ (k : List ℕ). ItemText k i) t e.0), values_within ls ps ws is v.1 a.1 e.1)

-- and nothing joins them
values_apart : (ls : List (List ℕ)) (ps : List P.Pitch) (ws : List ContentLine) (is : List Item) (v : P.PitchLines ls ps) →
    AllSay ls ws → Entries scale ws is → AllApart ls ps v
values_apart [] [] ws is v a e = tt
values_apart [] (p ∷ ps) ws is v a e = absurd v
values_apart (l ∷ ls) [] ws is v a e = absurd v
values_apart (l ∷ ls) (p ∷ ps) [] is v a e = absurd a
values_apart (l ∷ ls) (p ∷ ps) (w ∷ ws) [] v a e = absurd e
values_apart (l ∷ ls) (p ∷ ps) (w ∷ ws) (i ∷ is) v a e =
    ((led_token v.0.2 v.0.1 a.0 e.0).1, values_apart ls ps ws is v.1 a.1 e.1)

-- ---- THE LIMITS
module _ {s : List ℕ} {m : P.Scale} (p : P.PublishedText s m) where
  module _ {d : List ℕ} {is : List Item} {list : List Entry} (a : ScaleText s d is list) (g : Agree m d is) where
    -- the trimmed description is that of the text
    one_part : (c : List ℕ) → Trimmed WhiteSpace encode m.description c → c ≡ d
    one_part c x = sym (one_trimmed m.description c x) ∙ one_trimmed m.description d g.described

    filled : Trimmed WhiteSpace encode m.description [] → ⊥
    filled x = (text_line a).3.1 (sym (one_part [] x))

    unmarked : (c : List ℕ) → Trimmed WhiteSpace encode m.description c → Comment c → ⊥
    unmarked c x y = (text_line a).3.2 (subst Comment (one_part c x) y)

    few : length is ≡ length m.pitches
    few = same_length m.pitches is g.pitches

    taken_within : WithinLimits p
    taken_within = go a.lines.first a.lines.rest (words_read p filled unmarked a) a.lines.values a.lines.entries
      where
        parts : a.text.parts ≡ p.parts
        parts = sym (one_lines a.text.lines) ∙ one_lines p.lines

        go : (first rest : List ContentLine) → AllSay (m.description ∷ p.count ∷ p.rest) (first ++ rest) → GiveAll scale tt required first a.values → Entries scale rest is → WithinLimits p
        go [] rest w v e = absurd v
        go (x ∷ []) rest w v e = absurd v.1
        go (x ∷ y ∷ []) rest w v e =
            let token = stands_token {v = y} (whole_word p.notes.token p.notes.value) p.notes.stands w.1.0 in
            record {
              utf8 = subst AllUtf8 parts (lines_utf8 a.text.parts a.says (a.lines.first ++ a.lines.rest) a.text.each a.lines.words);
              not_blank = filled;
              no_mark = unmarked;
              count = omega (arith, few, a.not_large);
              unsigned = λ t q. no_minus v.1.0 (token ∙ q);
              values_apart = values_apart p.rest m.pitches rest is p.values w.1.1 e;
              values_within = values_within p.rest m.pitches rest is p.values w.1.1 e;
              reach = λ two q.
                  no_value (sym ((beyond_reach_is (implicit ∷ is) (omega arith) (lines_held a.lines) (lines_usable a.lines)).1 (omega (arith, few, two), last_ratio m.pitches is g.pitches ∙ q)) ∙ a.sorted);
            }
        go (x ∷ y ∷ z ∷ zs) rest w v e = absurd v.1.1

  -- THE LIMITS ARE EXACT: a published text is a scale file of document 01 with the same description, trimmed, and the same notes exactly
  -- when it is within them
  pub published_exactly : ((d : List ℕ) × (is : List Item) × (list : List Entry) × ScaleText s d is list × Agree m d is) ↔ WithinLimits p
  published_exactly = (λ (d, is, list, a, g). taken_within a g, published_accepted p)
