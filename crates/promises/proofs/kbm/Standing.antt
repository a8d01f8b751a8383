-- LINES AS PUBLISHED, read by document 01: of lines in UTF-8 one where a value stands has it as its token, a comment drops out, and so the
-- tokens are the values of the lines that are kept. Assumes nothing.
use mathlib.Core.Path.{◌≡◌, refl, sym, ap, ◌∙◌, subst}
use mathlib.Core.List.{List, [], ◌∷◌, ◌++◌, append_assoc, append-nil}
use mathlib.Core.Logic.{◌⊎◌, inl, inr}
use Prim.Native.Nat.{ℕ, ◌≤◌, ◌<◌}
use native.Mathlib.Omega.{arith}
use Rattle.kbm_read.specs.Language.{Tokens}
use Rattle.kbm_write.specs.Published as P
use Rattle.writing.proofs.Plain.{Plain, Word, each_right}
use Rattle.utf8.specs.Characters.{Each, in_bytes, encode}
use Rattle.text.specs.Reading.{Comment, strict, Splits, Stops, Meaning, invalid, comment, content, Line, EachLine}
use Rattle.white.specs.White.{WhiteSpace, Trimmed}
use Rattle.base.proofs.Integers.{split}
use Rattle.utf8.proofs.Encodings.{enc1, enc2, enc3, enc4}
use Rattle.promises.specs.scl.Limits.{Apart}

-- no white character is a graphic one of ASCII
not_white : (c : ℕ) → 33 ≤ c → c < 127 → WhiteSpace c → ⊥
not_white c l h (inl a) = omega (arith, a)
not_white c l h (inr (inl a)) = omega (arith, a)
not_white c l h (inr (inr (inl a))) = omega (arith, a)
not_white c l h (inr (inr (inr (inl a)))) = omega (arith, a)
not_white c l h (inr (inr (inr (inr (inl a))))) = omega (arith, a)
not_white c l h (inr (inr (inr (inr (inr (inl a)))))) = omega (arith, a)
not_white c l h (inr (inr (inr (inr (inr (inr (inl a))))))) = omega (arith, a)
not_white c l h (inr (inr (inr (inr (inr (inr (inr (inl a)))))))) = omega (arith, a)
not_white c l h (inr (inr (inr (inr (inr (inr (inr (inr (inl a))))))))) = omega (arith, a)
not_white c l h (inr (inr (inr (inr (inr (inr (inr (inr (inr (inl a)))))))))) = omega (arith, a)
not_white c l h (inr (inr (inr (inr (inr (inr (inr (inr (inr (inr (inl a))))))))))) = omega (arith, a)
not_white c l h (inr (inr (inr (inr (inr (inr (inr (inr (inr (inr (inr x11))))))))))) = elim x11 [ ]

-- no byte that splits is plain
not_split : (b : ℕ) → Plain b → Splits b → ⊥
not_split b p (inl a) = omega (arith, a, p)
not_split b p (inr (inl a)) = omega (arith, a, p)
not_split b p (inr (inr (inl a))) = omega (arith, a, p)
not_split b p (inr (inr (inr (inl a)))) = omega (arith, a, p)
not_split b p (inr (inr (inr (inr (inl a))))) = omega (arith, a, p)
not_split b p (inr (inr (inr (inr (inr x5))))) = elim x5 [ ]

-- a blank is White_Space, and splits
pub blank_white : (b : ℕ) → P.Blank b → WhiteSpace b
blank_white b (inl e) = inr (inl (omega (arith, e), omega (arith, e)))
blank_white b (inr e) = inl (omega (arith, e), omega (arith, e))

blank_splits : (b : ℕ) → P.Blank b → Splits b
blank_splits b (inl e) = inl (omega (arith, e), omega (arith, e))
blank_splits b (inr e) = inr (inl (omega (arith, e), omega (arith, e)))

pub blank_low : (b : ℕ) → P.Blank b → b < 128
blank_low b (inl e) = omega (arith, e)
blank_low b (inr e) = omega (arith, e)

-- a character whose first byte is ASCII is that byte
low_head : (w b : ℕ) (v u : List ℕ) → b < 128 → encode w ++ v ≡ b ∷ u → (w ≡ b) × (v ≡ u)
low_head w b v u h e = go (split w 0x80) (split w 0x800) (split w 0x10000)
  where
    high : {x : ℕ} {l : List ℕ} → 128 ≤ x → x ∷ l ≡ b ∷ u → (w ≡ b) × (v ≡ u)
    high {x} g f = let y : x ≡ b = cc in absurd (omega arith)

    go : (w < 0x80) ⊎ (0x80 ≤ w) → (w < 0x800) ⊎ (0x800 ≤ w) → (w < 0x10000) ⊎ (0x10000 ≤ w) → (w ≡ b) × (v ≡ u)
    go (inl i) j k = let f : w ∷ v ≡ b ∷ u = rw (enc1 w i) at e in (cc, cc)
    go (inr i) (inl j) k = high (omega arith) (rw (enc2 w i j) at e)
    go (inr i) (inr j) (inl k) = high (omega arith) (rw (enc3 w j k) at e)
    go (inr i) (inr j) (inr k) = high (omega arith) (rw (enc4 w k) at e)

-- a row of white characters does not go on with a graphic one
white_head : (w c : ℕ) (v u : List ℕ) → WhiteSpace w → 33 ≤ c → c < 127 → encode w ++ v ≡ c ∷ u → ⊥
white_head w c v u x l h e = let y = (low_head w c v u (omega arith) e).0 in not_white c l h (subst WhiteSpace y x)

pub no_cons : {A : Type 0} {b : ℕ} {l : List ℕ} → [] ≡ b ∷ l → A
no_cons e = let z : ◌≡◌ {A = ℕ} 0 1 = cc in absurd (omega arith)

all_white : (vs bs : List ℕ) (c : ℕ) (u : List ℕ) → Each WhiteSpace vs → Each P.Blank bs → Plain c → in_bytes encode vs ≡ bs ++ (c ∷ u) → ⊥
unfolding in_bytes
all_white [] [] c u x y p e = no_cons e
all_white [] (b ∷ bs) c u x y p e = no_cons e
all_white (a ∷ vs) [] c u x y p e = white_head a c (in_bytes encode vs) u x.0 (omega (arith, p)) p.1 e
all_white (a ∷ vs) (b ∷ bs) c u x y p e = all_white vs bs c u x.1 y.1 p (low_head a b (in_bytes encode vs) (bs ++ (c ∷ u)) (blank_low b y.0) e).1

-- what is trimmed before a value is the blanks before it
module _ (m vs : List ℕ) (c : ℕ) (u : List ℕ) (x : Each WhiteSpace vs) (p : Plain c) (starts : (d : ℕ) (t : List ℕ) → WhiteSpace d → m ≡ encode d ++ t → ⊥) where
  trims_blank : (ws bs : List ℕ) → Each WhiteSpace ws → Each P.Blank bs → in_bytes encode ws ++ (m ++ in_bytes encode vs) ≡ bs ++ (c ∷ u) → m ++ in_bytes encode vs ≡ c ∷ u
  unfolding in_bytes
  trims_blank [] [] q y e = e
  trims_blank [] (b ∷ bs) q y e = absurd (go m starts e)
    where
      go : (n : List ℕ) → ((d : ℕ) (t : List ℕ) → WhiteSpace d → n ≡ encode d ++ t → ⊥) → n ++ in_bytes encode vs ≡ b ∷ (bs ++ (c ∷ u)) → ⊥
      go [] s f = all_white vs (b ∷ bs) c u x y p f
      go (d ∷ n) s f =
          let g : d ≡ b = cc in
          s b n (blank_white b y.0) (rw (enc1 b (blank_low b y.0)) (ap (λ (k : ℕ). k ∷ n) g))
  trims_blank (w ∷ ws) [] q y e = absurd (white_head w c (in_bytes encode ws ++ (m ++ in_bytes encode vs)) u q.0 (omega (arith, p)) p.1 (sym (append_assoc (encode w) (in_bytes encode ws) (m ++ in_bytes encode vs)) ∙ e))
  trims_blank (w ∷ ws) (b ∷ bs) q y e =
      trims_blank ws bs q.1 y.1
      (low_head w b (in_bytes encode ws ++ (m ++ in_bytes encode vs)) (bs ++ (c ∷ u)) (blank_low b y.0) (sym (append_assoc (encode w) (in_bytes encode ws) (m ++ in_bytes encode vs)) ∙ e)).1

-- a text before white characters that starts with plain bytes has them all, and then what is left of it
leads : (t m vs r : List ℕ) → Each Plain t → Each WhiteSpace vs → m ++ in_bytes encode vs ≡ t ++ r →
    (v : List ℕ) × (m ≡ t ++ v) × (v ++ in_bytes encode vs ≡ r)
unfolding in_bytes
leads [] m vs r p x e = (m, refl, e)
leads (c ∷ t) [] [] r p x e = no_cons e
leads (c ∷ t) [] (a ∷ vs) r p x e = absurd (white_head a c (in_bytes encode vs) (t ++ r) x.0 (omega (arith, p.0)) p.0.1 e)
leads (c ∷ t) (y ∷ m) vs r p x e =
    let f : y ≡ c = cc in
    let g : m ++ in_bytes encode vs ≡ t ++ r = cc in
    let h = leads t m vs r p.1 x g in
    let k = h.1 in
    (h.0, cc, h.2)

-- the token of a text that starts with plain bytes has them all
token_leads : (t v u q : List ℕ) → Each Plain t → Stops q → t ++ v ≡ u ++ q → (s : List ℕ) × (u ≡ t ++ s) × (v ≡ s ++ q)
token_leads [] v u q p n e = (u, refl, e)
token_leads (c ∷ t) v [] [] p n e = no_cons (sym e)
token_leads (c ∷ t) v [] (b ∷ q) p n e = let f : c ≡ b = cc in absurd (not_split c p.0 (subst Splits (sym f) n))
token_leads (c ∷ t) v (d ∷ u) q p n e =
    let f : d ≡ c = cc in
    let g : t ++ v ≡ u ++ q = cc in
    let h = token_leads t v u q p.1 n g in
    let k = h.1 in
    (h.0, cc, h.2)

-- THE TOKEN u of a line that starts with blanks, the value t and this rest: the value, or the value and the bytes after it
pub data Follows (t rest u : List ℕ) : Type 0 where
  alone : u ≡ t → Apart rest → Follows t rest u
  joined : (c : ℕ) (s q : List ℕ) → u ≡ t ++ c ∷ s → rest ≡ c ∷ q → (Splits c → ⊥) → Follows t rest u

follows : (t u s q vs rest : List ℕ) → Each (λ b. Splits b → ⊥) u → Stops q → Each WhiteSpace vs →
    u ≡ t ++ s → (s ++ q) ++ in_bytes encode vs ≡ rest → Follows t rest u
follows t u [] [] vs rest i n x e f = Follows.alone (e ∙ append-nil t) (inr (vs, x, sym f))
follows t u [] (b ∷ q) vs rest i n x e f = Follows.alone (e ∙ append-nil t) (inl (subst Stops f n))
follows t u (c ∷ s) q vs rest i n x e f =
    let inside = subst (Each (λ b. Splits b → ⊥)) e i in
    Follows.joined c s ((s ++ q) ++ in_bytes encode vs) e (sym f) (each_right (λ b. Splits b → ⊥) t (c ∷ s) inside).0

-- a line that starts with blanks and a value is no text, or has such a token
module _ (l t : List ℕ) (w : Word t) (before rest : List ℕ) (blank : Each P.Blank before) (whole : l ≡ before ++ (t ++ rest)) where
  -- its trimmed part is the value and more
  standing : (m : List ℕ) (x : Trimmed WhiteSpace encode l m) → (v : List ℕ) × (m ≡ t ++ v) × (v ++ in_bytes encode x.after ≡ rest)
  standing m x = go t w whole
    where
      go : (u : List ℕ) → Word u → l ≡ before ++ (u ++ rest) → (v : List ℕ) × (m ≡ u ++ v) × (v ++ in_bytes encode x.after ≡ rest)
      go [] k e = absurd (omega (arith, k.some))
      go (c ∷ u) k e =
          let starts = sym x.whole ∙ e in
          let trims = trims_blank m x.after c (u ++ rest) x.white_after k.each.0 x.starts in
          leads (c ∷ u) m x.after rest k.each x.white_after (trims x.before before x.white_before blank starts)

  -- it is neither blank nor a comment
  not_nothing : (u : List ℕ) → Word u → (v : List ℕ) → [] ≡ u ++ v → ⊥
  not_nothing [] k v f = omega (arith, k.some)
  not_nothing (c ∷ u) k v f = no_cons f

  not_mark : (u : List ℕ) → Word u → (q v : List ℕ) → 33 ∷ q ≡ u ++ v → ⊥
  not_mark [] k q v f = omega (arith, k.some)
  not_mark (c ∷ u) k q v f = let h : c ≡ 33 = cc in omega (arith, k.each.0)

  pub led_line : (x : Meaning) → Line strict l x → (x ≡ invalid) ⊎ ((m u : List ℕ) × (x ≡ content m u) × Follows t rest u)
  led_line x (Line.not_text n e) = inl e
  led_line x (Line.is_blank r y e) = absurd (not_nothing t w (standing [] y).0 (standing [] y).1)
  led_line x (Line.is_comment r m y (q, g) e) = absurd (not_mark t w q (standing m y).0 (sym g ∙ (standing m y).1))
  led_line x (Line.says r m u y b n q e) =
      let k = standing m y in
      let a = token_leads t k.0 u q.rest w.each q.stops (sym k.1 ∙ q.whole) in
      let f = ap (λ (v : List ℕ). v ++ in_bytes encode y.after) (sym a.2) ∙ k.2 in
      inr (m, u, e, follows t u a.0 q.rest y.after rest q.inside q.stops y.white_after a.1 f)

-- a line where a value stands is no text, or its token is the value
pub value_line : (l t : List ℕ) (x : Meaning) → Word t → P.Stands l t → Line strict l x →
    (x ≡ invalid) ⊎ ((m : List ℕ) × (x ≡ content m t))
value_line l t x w s y = elim (led_line l t w s.before s.rest s.blank s.whole x y) [
  | inl e ↦ inl e
  | inr r ↦ inr (r.0, r.2 ∙ ap (content r.0) (only r.1 s.rest s.ends r.3))
]
  where
    only : (u r : List ℕ) → P.Ends r → Follows t r u → u ≡ t
    only u r n (Follows.alone e a) = e
    only u [] n (Follows.joined c v q e f i) = no_cons f
    only u (b ∷ r) n (Follows.joined c v q e f i) = let g : b ≡ c = cc in absurd (i (blank_splits c (subst P.Blank g n)))

-- `!` is no white space
starts_mark : (b : ℕ) (l : List ℕ) → P.PublishedComment (b ∷ l) → (w : ℕ) (ws v : List ℕ) → WhiteSpace w → b ∷ l ≡ in_bytes encode (w ∷ ws) ++ v → ⊥
unfolding in_bytes
starts_mark b l c w ws v k f = white_head w b (in_bytes encode ws ++ v) l k (omega (arith, c)) (omega (arith, c)) (sym (append_assoc (encode w) (in_bytes encode ws) v) ∙ sym f)

no_blank : (b : ℕ) (l : List ℕ) → P.PublishedComment (b ∷ l) → (ws vs : List ℕ) → Each WhiteSpace ws → Each WhiteSpace vs → b ∷ l ≡ in_bytes encode ws ++ in_bytes encode vs → ⊥
unfolding in_bytes
no_blank b l c [] [] k m f = no_cons (sym f)
no_blank b l c [] (v ∷ vs) k m f = starts_mark b l c v vs [] m.0 (f ∙ sym (append-nil (in_bytes encode (v ∷ vs))))
no_blank b l c (w ∷ ws) vs k m f = starts_mark b l c w ws (in_bytes encode vs) k.0 f

-- a comment as published is no text, or a comment
pub comment_line : (l : List ℕ) (x : Meaning) → P.PublishedComment l → Line strict l x → (x ≡ invalid) ⊎ (x ≡ comment)
unfolding in_bytes
comment_line [] x c y = absurd c
comment_line (b ∷ l) x c (Line.not_text n e) = inl e
comment_line (b ∷ l) x c (Line.is_blank r y e) = absurd (no_blank b l c y.before y.after y.white_before y.white_after y.whole)
comment_line (b ∷ l) x c (Line.is_comment r m y d e) = inr e
comment_line (b ∷ l) x c (Line.says r m t y o n q e) = absurd (go y.before m y.white_before o n y.whole)
  where
    go : (ws u : List ℕ) → Each WhiteSpace ws → (u ≡ [] → ⊥) → (Comment u → ⊥) → b ∷ l ≡ in_bytes encode ws ++ (u ++ in_bytes encode y.after) → ⊥
    go [] [] k s z f = s refl
    go [] (d ∷ u) k s z f = let g : d ≡ 33 = cc in z (u, ap (λ (i : ℕ). i ∷ u) g)
    go (w ∷ ws) u k s z f = starts_mark b l c w ws (u ++ in_bytes encode y.after) k.0 f

-- each of the lines holds the value beside it
abbrev pub Holds : List (List ℕ) → List (List ℕ) → Type 0
Holds [] [] = Unit {0}
Holds [] (u ∷ us) = ⊥
Holds (l ∷ ls) [] = ⊥
Holds (l ∷ ls) (u ∷ us) = (Word u × P.Stands l u) × Holds ls us

-- the tokens of the lines are the values of those that are kept
pub same_tokens : {ls ks : List (List ℕ)} → P.Kept ls ks → (xs : List Meaning) → EachLine strict ls xs → (ts us : List (List ℕ)) → Tokens xs ts → Holds ks us → ts ≡ us
same_tokens P.Kept.none [] e [] [] t h = refl
same_tokens P.Kept.none [] e [] (u ∷ us) t h = absurd h
same_tokens P.Kept.none [] e (v ∷ ts) us t h = absurd t
same_tokens P.Kept.none (x ∷ xs) e ts us t h = absurd e
same_tokens (P.Kept.comment c k) [] e ts us t h = absurd e
same_tokens (P.Kept.comment {l = l} c k) (x ∷ xs) e ts us t h = go (comment_line l x c e.0) (λ r. same_tokens k xs e.1 ts us r h)
  where
    go : (x ≡ invalid) ⊎ (x ≡ comment) → (Tokens xs ts → ts ≡ us) → ts ≡ us
    go (inl f) ih = absurd (subst (λ (y : Meaning). Tokens (y ∷ xs) ts) f t)
    go (inr f) ih = ih (subst (λ (y : Meaning). Tokens (y ∷ xs) ts) f t)
same_tokens (P.Kept.kept n k) [] e ts us t h = absurd e
same_tokens (P.Kept.kept n k) (x ∷ xs) e ts [] t h = absurd h
same_tokens (P.Kept.kept {l = l} n k) (x ∷ xs) e ts (u ∷ us) t h = go (value_line l u x h.0.0 h.0.1 e.0) ts t (λ rs r. same_tokens k xs e.1 rs us r h.1)
  where
    go : (x ≡ invalid) ⊎ ((m : List ℕ) × (x ≡ content m u)) → (rs : List (List ℕ)) → Tokens (x ∷ xs) rs → ((qs : List (List ℕ)) → Tokens xs qs → qs ≡ us) → rs ≡ u ∷ us
    go (inl f) rs r ih = absurd (subst (λ (y : Meaning). Tokens (y ∷ xs) rs) f r)
    go (inr (m, f)) [] r ih = absurd (subst (λ (y : Meaning). Tokens (y ∷ xs) []) f r)
    go (inr (m, f)) (v ∷ rs) r ih =
        let q = subst (λ (y : Meaning). Tokens (y ∷ xs) (v ∷ rs)) f r in
        let a = q.0 in
        let b = ih rs q.1 in
        cc
