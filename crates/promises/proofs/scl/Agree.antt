-- TWO READINGS OF ONE TEXT: where a text of the published format, whose description is not blank and no comment after white space, is a
-- scale file of document 01, both have the same notes, and 01 the description trimmed. Assumes nothing.
use mathlib.Core.Path.{◌≡◌, refl, sym, ◌∙◌, subst}
use mathlib.Core.Bool.{Bool, false}
use mathlib.Core.List.{List, [], ◌∷◌, ◌++◌}
use mathlib.Core.Logic.{◌⊎◌, inl, inr}
use Prim.Native.Nat.{ℕ, ◌^◌}
use native.Mathlib.Omega.{arith}
use lib.Ieee.{Float, round, binary64}
use lib.IntN.{pos}
use Rattle.decimals.specs.DecimalText.{Form, Unsupported, DecimalText}
use Rattle.decimals.proofs.Language.{gives_complete, leaves_complete, one_reading}
use Rattle.integers.specs.IntegerText.{Digits}
use Rattle.listing.specs.Listing.{Words, GiveAll, Entries}
use Rattle.scl.specs.declared.Item.{Item}
use Rattle.scl_read.specs.ItemText.{Contains, Free, U32Text, ItemText}
use Rattle.scl_read.specs.Language.{ContentLine, required, scale, Values, ScaleText}
use Rattle.scl_write.specs.Published as P
use Rattle.sorting.specs.Entries.{Entry}
use Rattle.text.specs.Reading.{Comment, Meaning, invalid, comment, content, strict, EachLine}
use Rattle.text.specs.Reading as reading
use Rattle.text.proofs.LinesLanguage.{one_lines}
use Rattle.utf8.specs.Characters.{encode}
use Rattle.white.specs.White.{WhiteSpace, Trimmed}
use Rattle.writing.specs.PublishedLines.{Kept, Stands, Whole}
use Rattle.writing.proofs.Plain.{Word}
use Rattle.promises.specs.scl.Agree.{Same, AllSame, Agree}
use Rattle.promises.proofs.kbm.Standing.{value_line, comment_line, led_line}
use Rattle.promises.proofs.kbm.Values.{whole_agrees, whole_word}
use Rattle.promises.proofs.scl.Accepted.{AllSay}
use Rattle.promises.proofs.scl.Described.{part_of}
use Rattle.promises.proofs.scl.Following.{led_token}
use Rattle.promises.proofs.scl.ItemsBack.{free_digits}
use Rattle.promises.proofs.scl.Values.{value_word, cents_dot, cents_form, split_at}

-- ---- VALUES: a pitch value that is an item is that item
not_free : {A : Type 0} {b : ℕ} {t : List ℕ} → Contains b t → Free b t → A
not_free {b = b} (u, v, e) f = absurd (go u (subst (Free b) e f))
  where
    go : (x : List ℕ) → Free b (x ++ b ∷ v) → ⊥
    go [] g = g.0 refl
    go (c ∷ x) g = go x g.1

-- the first slash is one
one_split : (a b c d : List ℕ) → Free 47 a → Free 47 c → a ++ 47 ∷ b ≡ c ++ 47 ∷ d → (a ≡ c) × (b ≡ d)
one_split [] b [] d f g e = (refl, cc)
one_split [] b (x ∷ c) d f g e = let h : x ≡ 47 = cc in absurd (g.0 h)
one_split (x ∷ a) b [] d f g e = let h : x ≡ 47 = cc in absurd (f.0 h)
one_split (x ∷ a) b (y ∷ c) d f g e =
    let h : x ≡ y = cc in
    let k : a ++ 47 ∷ b ≡ c ++ 47 ∷ d = cc in
    let r = one_split a b c d f.1 g.1 k in
    let q = r.0 in
    (cc, r.1)

-- digits are the same u32
u32_agrees : {t : List ℕ} {n k : ℕ} → Digits t n → U32Text t k → k ≡ n
u32_agrees {t} {n} {k} d u = let e = whole_agrees false (2 ^ 32) t (pos n) (pos k) (Whole.plain n d refl) u in cc

-- cents that document 01 reads are supported, and have one nearest f64
module _ {t : List ℕ} {minus : Bool} {n k : ℕ} (x : P.CentsText t minus n k) (v : Float) (d : DecimalText t v) where
  pub cents_supported : Unsupported (Form.plain minus x.whole x.part) → ⊥
  cents_supported u =
      let p = gives_complete t v d in
      let q = leaves_complete t (record { form = Form.plain minus x.whole x.part; text = cents_form x; cause = u }) in
      let z : ◌≡◌ {A = ℕ} 0 1 = cc in
      omega arith

  pub cents_agrees : v ≡ round binary64 minus n (10 ^ k)
  cents_agrees = rw (x.value, x.places) (one_reading t v _ d (record { negative = minus; whole = x.whole; part = x.part; text = cents_form x; taken = cents_supported; nearest = refl }))

pub value_agrees : {t : List ℕ} {p : P.Pitch} {i : Item} → P.PitchText t p → ItemText t i → Same p i
value_agrees (P.PitchText.cents x) (ItemText.cents h v d u) = cents_agrees x v d
value_agrees (P.PitchText.cents x) (ItemText.fraction a b s n d u v p q) = not_free (cents_dot x) s.no_dot
value_agrees (P.PitchText.cents x) (ItemText.whole f g n u p) = not_free (cents_dot x) f
value_agrees {t} (P.PitchText.ratio a b n d e x y p q) (ItemText.cents h v c u) = not_free h (split_at t a b e x y).no_dot
value_agrees {t} (P.PitchText.ratio a b n d e x y p q) (ItemText.fraction a' b' s n' d' u v p' q') =
    let r = one_split a b a' b' (split_at t a b e x y).first s.first (sym e ∙ s.whole) in
    (u32_agrees x (subst (λ (l : List ℕ). U32Text l n') (sym r.0) u), u32_agrees y (subst (λ (l : List ℕ). U32Text l d') (sym r.1) v))
value_agrees (P.PitchText.ratio a b n d e x y p q) (ItemText.whole f g n' u p') = not_free (a, b, e) g
value_agrees {t} (P.PitchText.whole n x p) (ItemText.cents h v c u) = not_free h (free_digits 46 t (omega arith) x.each)
value_agrees {t} (P.PitchText.whole n x p) (ItemText.fraction a b s n' d u v p' q) = not_free (a, b, s.whole) (free_digits 47 t (omega arith) x.each)
value_agrees (P.PitchText.whole n x p) (ItemText.whole f g n' u p') = (u32_agrees x u, refl)

-- ---- LINES: those that are kept are those with content
-- the line is no text, or has content
abbrev Firm : List ℕ → Type 0
Firm l = (x : Meaning) → reading.Line strict l x → (x ≡ invalid) ⊎ ((m t : List ℕ) × (x ≡ content m t))

abbrev AllFirm : List (List ℕ) → Type 0
AllFirm [] = Unit {0}
AllFirm (l ∷ ls) = Firm l × AllFirm ls

kept_words : {ls ks : List (List ℕ)} → Kept ls ks → (xs : List Meaning) → EachLine strict ls xs → (ws : List ContentLine) → Words scale xs ws → AllFirm ks → AllSay ks ws
kept_words Kept.none [] e [] w f = tt
kept_words Kept.none [] e (v ∷ ws) w f = absurd w
kept_words Kept.none (x ∷ xs) e ws w f = absurd e
kept_words (Kept.comment c k) [] e ws w f = absurd e
kept_words (Kept.comment {l = l} {ks = ks} c k) (x ∷ xs) e ws w f = go (comment_line l x c e.0) (λ r. kept_words k xs e.1 ws r f)
  where
    go : (x ≡ invalid) ⊎ (x ≡ comment) → (Words scale xs ws → AllSay ks ws) → AllSay ks ws
    go (inl q) ih = absurd (subst (λ (y : Meaning). Words scale (y ∷ xs) ws) q w)
    go (inr q) ih = ih (subst (λ (y : Meaning). Words scale (y ∷ xs) ws) q w)
kept_words (Kept.kept n k) [] e ws w f = absurd e
kept_words (Kept.kept {l = l} {ks = ks} n k) (x ∷ xs) e ws w f = go (f.0 x e.0) ws w (λ vs r. kept_words k xs e.1 vs r f.1)
  where
    go : (x ≡ invalid) ⊎ ((m t : List ℕ) × (x ≡ content m t)) → (vs : List ContentLine) → Words scale (x ∷ xs) vs → ((us : List ContentLine) → Words scale xs us → AllSay ks us) → AllSay (l ∷ ks) vs
    go (inl q) vs r ih = absurd (subst (λ (y : Meaning). Words scale (y ∷ xs) vs) q r)
    go (inr (m, t, q)) [] r ih = absurd (subst (λ (y : Meaning). Words scale (y ∷ xs) []) q r)
    go (inr (m, t, q)) (v ∷ vs) r ih =
        let z = subst (λ (y : Meaning). Words scale (y ∷ xs) (v ∷ vs)) q r in
        (rw z.0 (subst (reading.Line strict l) q e.0), ih vs z.1)

-- a line where a value stands is firm, and has it as its token
stands_firm : {l t : List ℕ} → Word t → Stands l t → Firm l
stands_firm {l} {t} w s x y = elim (value_line l t x w s y) [
  | inl e ↦ inl e
  | inr e ↦ inr (e.0, t, e.1)
]

pub stands_token : {l t : List ℕ} {v : ContentLine} → Word t → Stands l t → reading.Line strict l (content v.whole v.token) → v.token ≡ t
stands_token {l} {t} {v} w s y = elim (value_line l t (content v.whole v.token) w s y) [
  | inl e ↦ let z : ◌≡◌ {A = ℕ} 0 1 = cc in absurd (omega arith)
  | inr e ↦ let q = e.1 in cc
]

-- a line that a value leads is firm
leads_firm : {l t : List ℕ} → Word t → P.LedBy l t → Firm l
leads_firm {l} {t} w s x y = elim (led_line l t w s.before s.rest s.blank s.whole x y) [
  | inl e ↦ inl e
  | inr e ↦ inr (e.0, e.1, e.2)
]

values_firm : (ls : List (List ℕ)) (ps : List P.Pitch) → P.PitchLines ls ps → AllFirm ls
values_firm [] [] v = tt
values_firm [] (p ∷ ps) v = absurd v
values_firm (l ∷ ls) [] v = absurd v
values_firm (l ∷ ls) (p ∷ ps) v = (leads_firm (value_word v.0.2) v.0.1, values_firm ls ps v.1)

-- and so is a description that is not blank and no comment
description_firm : (l : List ℕ) → (Trimmed WhiteSpace encode l [] → ⊥) → ((d : List ℕ) → Trimmed WhiteSpace encode l d → Comment d → ⊥) → Firm l
description_firm l b n x (reading.Line.not_text y e) = inl e
description_firm l b n x (reading.Line.is_blank r y e) = absurd (b y)
description_firm l b n x (reading.Line.is_comment r m y c e) = absurd (n m y c)
description_firm l b n x (reading.Line.says r m t y o k q e) = inr (m, t, e)

values_agree : (ls : List (List ℕ)) (ps : List P.Pitch) (ws : List ContentLine) (is : List Item) → P.PitchLines ls ps → AllSay ls ws → Entries scale ws is → AllSame ps is
values_agree [] [] [] [] v a e = tt
values_agree [] [] [] (i ∷ is) v a e = absurd e
values_agree [] [] (w ∷ ws) is v a e = absurd a
values_agree [] (p ∷ ps) ws is v a e = absurd v
values_agree (l ∷ ls) [] ws is v a e = absurd v
values_agree (l ∷ ls) (p ∷ ps) [] is v a e = absurd a
values_agree (l ∷ ls) (p ∷ ps) (w ∷ ws) [] v a e = absurd e
values_agree (l ∷ ls) (p ∷ ps) (w ∷ ws) (i ∷ is) v a e =
    let t = (led_token v.0.2 v.0.1 a.0 e.0).0 in
    (value_agrees v.0.2 (subst (λ (k : List ℕ). ItemText k i) t e.0), values_agree ls ps ws is v.1 a.1 e.1)

module _ {s : List ℕ} {m : P.Scale} (p : P.PublishedText s m) (b : Trimmed WhiteSpace encode m.description [] → ⊥)
    (n : (d : List ℕ) → Trimmed WhiteSpace encode m.description d → Comment d → ⊥) {d : List ℕ} {is : List Item} {list : List Entry} (a : ScaleText s d is list) where
  -- the words that document 01 reads are those of the lines that are kept
  pub words_read : AllSay (m.description ∷ p.count ∷ p.rest) (a.lines.first ++ a.lines.rest)
  words_read =
      let parts : a.text.parts ≡ p.parts = sym (one_lines a.text.lines) ∙ one_lines p.lines in
      kept_words p.keeps a.says (subst (λ (ls : List (List ℕ)). EachLine strict ls a.says) parts a.text.each) (a.lines.first ++ a.lines.rest) a.lines.words
      (description_firm m.description b n, (stands_firm (whole_word p.notes.token p.notes.value) p.notes.stands, values_firm p.rest m.pitches p.values))

  -- THE THEOREM: the two readings of one text agree
  pub agree : Agree m d is
  agree = go a.lines.first a.lines.rest words_read a.lines.values a.lines.entries
    where
      go : (first rest : List ContentLine) → AllSay (m.description ∷ p.count ∷ p.rest) (first ++ rest) → GiveAll scale tt required first a.values → Entries scale rest is → Agree m d is
      go [] rest w g e = absurd g
      go (x ∷ []) rest w g e = absurd g.1
      go (x ∷ y ∷ []) rest w g e =
          let h : x.whole ≡ d = sym (a.described ∙ g.0) in
          record {
            described = subst (Trimmed WhiteSpace encode m.description) h (part_of m.description (content x.whole x.token) w.0).0;
            pitches = values_agree p.rest m.pitches rest is p.values w.1.1 e;
          }
      go (x ∷ y ∷ v ∷ vs) rest w g e = absurd g.1.1
