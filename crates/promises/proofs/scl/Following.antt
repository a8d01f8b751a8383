-- WHAT FOLLOWS A PITCH VALUE on its line, read by document 01: where nothing of it joins the value, the token is the value; where something
-- does, the token is no item. Assumes nothing.
use mathlib.Core.Path.{◌≡◌, refl, sym, ap, ◌∙◌, subst}
use mathlib.Core.Bool.{Bool}
use mathlib.Core.List.{List, [], ◌∷◌, ◌++◌}
use mathlib.Core.Logic.{◌⊎◌, inl, inr}
use Prim.Native.Nat.{ℕ, ◌<◌}
use native.Mathlib.Omega.{arith}
use lib.IntN.{ℤ}
use lib.ListN.{length}
use Rattle.decimals.specs.DecimalText.{OptionalSign, DottedDigits, Form, FloatText}
use Rattle.integers.specs.Digits.{AllDigits}
use Rattle.integers.specs.IntegerText.{Digits, IntText}
use Rattle.scl.specs.declared.Item.{Item}
use Rattle.scl_read.specs.ItemText.{Free, ItemText}
use Rattle.scl_write.specs.Published as P
use Rattle.text.specs.Reading.{strict, Splits, Stops, Token, Meaning, invalid, content, Line}
use Rattle.text.proofs.TokenLanguage.{one_token}
use Rattle.utf8.specs.Characters.{Each, in_bytes, encode}
use Rattle.utf8.proofs.Encodings.{enc1}
use Rattle.white.specs.White.{WhiteSpace, Trimmed}
use Rattle.white.proofs.TrimLanguage.{one_trimmed}
use Rattle.writing.specs.PublishedLines.{Blank}
use Rattle.writing.proofs.Plain.{Word, each_append, each_right, kept, whole_token}
use Rattle.promises.specs.scl.Limits.{Apart}
use Rattle.promises.proofs.kbm.Standing.{no_cons, blank_white, blank_low, Follows, led_line}
use Rattle.promises.proofs.scl.ItemsBack.{free_digits}
use Rattle.promises.proofs.scl.OneMeaning.{none, Writes, Mark, marks, parted_marks}
use Rattle.promises.proofs.scl.Values.{value_word}

-- ---- NO LONGER TOKEN IS AN ITEM
-- a byte after others of an integer is a digit
int_mark : {sign : Bool} {top : ℕ} {x : List ℕ} {z : ℤ} → IntText sign top x z →
    (y : ℕ) (t : List ℕ) (c : ℕ) (w : List ℕ) → x ≡ y ∷ (t ++ c ∷ w) → Mark c
int_mark {x = x} (IntText.plain n d h e) y t c w f = (each_right Mark (y ∷ t) (c ∷ w) (subst (Each Mark) f (marks x d.each))).0
int_mark (IntText.plus u n s d h e) y t c w f =
    let g : u ≡ t ++ c ∷ w = cc in
    (each_right Mark t (c ∷ w) (subst (Each Mark) g (marks u d.each))).0
int_mark (IntText.minus u n b s d h e) y t c w f =
    let g : u ≡ t ++ c ∷ w = cc in
    (each_right Mark t (c ∷ w) (subst (Each Mark) g (marks u d.each))).0

-- and of a decimal without exponent a digit or the dot
body_marks : {s whole part : List ℕ} → DottedDigits s whole part → Each Mark s
body_marks {s} {whole} {part} d = go d.writes
  where
    go : (s ≡ whole ++ 46 ∷ part) ⊎ ((s ≡ whole) × (part ≡ [])) → Each Mark s
    go (inl e) = subst (Each Mark) (sym e) (parted_marks whole part 46 d.first d.second (omega arith, omega arith))
    go (inr e) = subst (Each Mark) (sym e.0) (marks whole d.first)

decimal_mark : {x whole part : List ℕ} {negative : Bool} → FloatText x (Form.plain negative whole part) →
    (y : ℕ) (t : List ℕ) (c : ℕ) (w : List ℕ) → x ≡ y ∷ (t ++ c ∷ w) → Mark c
decimal_mark {x} {negative = negative} (FloatText.plain {body = body} sign d) y t c w f = go sign
  where
    go : OptionalSign x negative body → Mark c
    go (OptionalSign.none e n) = (each_right Mark (y ∷ t) (c ∷ w) (subst (Each Mark) (sym e ∙ f) (body_marks d))).0
    go (OptionalSign.plus e n) = let g : body ≡ t ++ c ∷ w = cc in (each_right Mark t (c ∷ w) (subst (Each Mark) g (body_marks d))).0
    go (OptionalSign.minus e n) = let g : body ≡ t ++ c ∷ w = cc in (each_right Mark t (c ∷ w) (subst (Each Mark) g (body_marks d))).0

-- where a byte stands in a text that is split at a slash: in the numerator, at the slash, in the denominator
data At (a b t : List ℕ) (c : ℕ) (w : List ℕ) : Type 0 where
  numer : (v : List ℕ) → a ≡ t ++ c ∷ v → At a b t c w
  slash : c ≡ 47 → At a b t c w
  denom : (v : List ℕ) → t ≡ a ++ 47 ∷ v → b ≡ v ++ c ∷ w → At a b t c w

at : (a b t : List ℕ) (c : ℕ) (w : List ℕ) → a ++ 47 ∷ b ≡ t ++ c ∷ w → At a b t c w
at [] b [] c w e = At.slash cc
at [] b (y ∷ t) c w e =
    let f : y ≡ 47 = cc in
    At.denom t (ap (λ (k : ℕ). k ∷ t) f) cc
at (x ∷ a) b [] c w e = let f : x ≡ c = cc in At.numer a (ap (λ (k : ℕ). k ∷ a) f)
at (x ∷ a) b (y ∷ t) c w e =
    let f : x ≡ y = cc in
    let g : a ++ 47 ∷ b ≡ t ++ c ∷ w = cc in
    more f (at a b t c w g)
  where
    more : x ≡ y → At a b t c w → At (x ∷ a) b (y ∷ t) c w
    more f (At.numer v h) = At.numer v cc
    more f (At.slash h) = At.slash h
    more f (At.denom v h k) = let e : y ∷ t ≡ (x ∷ a) ++ 47 ∷ v = cc in At.denom v e k

-- a value does not end in a slash
digits_end : (a b x : List ℕ) → AllDigits a → AllDigits b → 0 < length b → a ++ 47 ∷ b ≡ x ++ 47 ∷ [] → ⊥
digits_end [] b [] u v s e = let f : b ≡ [] = cc in omega (arith, s, ap length f)
digits_end [] b (y ∷ x) u v s e = let f : x ++ 47 ∷ [] ≡ b = cc in none 47 (λ h. omega (arith, h.0)) x [] b v f
digits_end (i ∷ a) b [] u v s e = let f : i ≡ 47 = cc in omega (arith, u.0, f)
digits_end (i ∷ a) b (y ∷ x) u v s e = let f : a ++ 47 ∷ b ≡ x ++ 47 ∷ [] = cc in digits_end a b x u.1 v s f

cents_free : {t : List ℕ} {minus : Bool} {n k : ℕ} → P.CentsText t minus n k → Free 47 t
cents_free {t} {minus} x = go x.writes
  where
    body : Free 47 (x.whole ++ 46 ∷ x.part)
    body =
        let whole = free_digits 47 x.whole (omega arith) x.first in
        let part = free_digits 47 x.part (omega arith) x.second in
        each_append (λ c. c ≡ 47 → ⊥) x.whole (46 ∷ x.part) whole (λ f. omega (arith, f), part)

    go : Writes t minus x.whole x.part → Free 47 t
    go (inl e) = subst (Free 47) (sym e.1) body
    go (inr e) = subst (Free 47) (sym e.1) (λ f. omega (arith, f), body)

value_end : {t : List ℕ} {p : P.Pitch} → P.PitchText t p → (x : List ℕ) → t ≡ x ++ 47 ∷ [] → ⊥
value_end (P.PitchText.cents c) x e = (each_right (λ b. b ≡ 47 → ⊥) x (47 ∷ []) (subst (Free 47) e (cents_free c))).0 refl
value_end (P.PitchText.ratio a b n d f u v h k) x e = digits_end a b x u.each v.each v.some (sym f ∙ e)
value_end (P.PitchText.whole n u h) x e = none 47 (λ h. omega (arith, h.0)) x [] _ u.each (sym e)

-- THE LAW: a value and a byte after it that is none of its own are no item, whatever follows
pub no_longer : {t : List ℕ} {p : P.Pitch} {i : Item} → P.PitchText t p →
    (c : ℕ) (w : List ℕ) → (Mark c → ⊥) → ItemText (t ++ c ∷ w) i → ⊥
no_longer {t} v c w n item = go t (value_word v).some refl item
  where
    go : {i : Item} (s : List ℕ) → 0 < length s → s ≡ t → ItemText (s ++ c ∷ w) i → ⊥
    go [] s e x = omega (arith, s)
    go (y ∷ s) k e (ItemText.cents h f d u) = n (decimal_mark d.text y s c w refl)
    go (y ∷ s) k e (ItemText.whole f g m u h) = n (int_mark u y s c w refl)
    go (y ∷ s) k e (ItemText.fraction a b r m d u q h g) = split (at a b (y ∷ s) c w (sym r.whole))
      where
        split : At a b (y ∷ s) c w → ⊥
        split (At.numer z f) = n (int_mark u y s c z f)
        split (At.slash f) = n (omega (arith, f), omega (arith, f))
        split (At.denom [] f z) = value_end v a (sym e ∙ f)
        split (At.denom (x ∷ z) f j) = n (int_mark q x z c w j)

-- ---- WHITE SPACE TO THE END
blanks_bytes : (bs : List ℕ) → Each Blank bs → bs ≡ in_bytes encode bs
unfolding in_bytes
blanks_bytes [] x = refl
blanks_bytes (b ∷ bs) x = rw (enc1 b (blank_low b x.0)) (ap (λ (s : List ℕ). b ∷ s) (blanks_bytes bs x.1))

blanks_white : (bs : List ℕ) → Each Blank bs → Each WhiteSpace bs
blanks_white [] x = tt
blanks_white (b ∷ bs) x = (blank_white b x.0, blanks_white bs x.1)

module _ (l t : List ℕ) (w : Word t) (s : P.LedBy l t) where
  -- a value with white space after it is what is left of its line
  trimmed : (cs : List ℕ) → Each WhiteSpace cs → s.rest ≡ in_bytes encode cs → Trimmed WhiteSpace encode l t
  trimmed cs x e =
      let k = kept t w.each in
      record {
        before = s.before;
        after = cs;
        white_before = blanks_white s.before s.blank;
        white_after = x;
        whole = s.whole ∙ (λ i. blanks_bytes s.before s.blank i ++ (t ++ e i));
        starts = k.starts;
        ends = k.ends;
      }

  white_token : (cs : List ℕ) → Each WhiteSpace cs → s.rest ≡ in_bytes encode cs → {m u : List ℕ} → Line strict l (content m u) → u ≡ t
  white_token cs x e {m} {u} (Line.not_text n f) = let z : ◌≡◌ {A = ℕ} 0 1 = cc in absurd (omega arith)
  white_token cs x e {m} {u} (Line.is_blank r y f) = let z : ◌≡◌ {A = ℕ} 0 1 = cc in absurd (omega arith)
  white_token cs x e {m} {u} (Line.is_comment r k y c f) = let z : ◌≡◌ {A = ℕ} 0 1 = cc in absurd (omega arith)
  white_token cs x e {m} {u} (Line.says r k v y b n q f) =
      let whole : k ≡ t = sym (one_trimmed l k y) ∙ one_trimmed l t (trimmed cs x e) in
      let token : v ≡ t = sym (one_token t v (subst (λ (h : List ℕ). Token h v) whole q)) ∙ one_token t t (whole_token t w.each) in
      let same : u ≡ v = cc in
      same ∙ token

  -- a line whose value is apart is no text, or has the value as its token
  pub apart_line : Apart s.rest → (x : Meaning) → Line strict l x → (x ≡ invalid) ⊎ ((m : List ℕ) × (x ≡ content m t))
  apart_line a x y = elim (led_line l t w s.before s.rest s.blank s.whole x y) [
    | inl e ↦ inl e
    | inr r ↦ inr (r.0, r.2 ∙ ap (content r.0) (only a r.3 (subst (Line strict l) r.2 y)))
  ]
    where
      stops : (c : ℕ) (r q : List ℕ) → Stops r → r ≡ c ∷ q → Splits c
      stops c [] q n e = no_cons e
      stops c (b ∷ r) q n e = let f : b ≡ c = cc in subst Splits f n

      only : {m u : List ℕ} → Apart s.rest → Follows t s.rest u → Line strict l (content m u) → u ≡ t
      only b (Follows.alone e f) k = e
      only (inl n) (Follows.joined c v q e f i) k = absurd (i (stops c s.rest q n f))
      only (inr (cs, z, g)) (Follows.joined c v q e f i) k = white_token cs z g k

-- an item read where a value leads is read at the value, and what follows is apart
pub led_token : {l t m u : List ℕ} {p : P.Pitch} {i : Item} → P.PitchText t p → (s : P.LedBy l t) → Line strict l (content m u) →
    ItemText u i → (u ≡ t) × Apart s.rest
led_token {l} {t} {m} {u} {p} {i} v s y x = elim (led_line l t (value_word v) s.before s.rest s.blank s.whole (content m u) y) [
  | inl e ↦ let z : ◌≡◌ {A = ℕ} 0 1 = cc in absurd (omega arith)
  | inr r ↦ let q = r.2 in let e : u ≡ r.1 = cc in go r.1 e r.3
]
  where
    ignored : (c : ℕ) (r q : List ℕ) → P.Ignored r → r ≡ c ∷ q → Mark c → ⊥
    ignored c [] q n e k = no_cons e
    ignored c (b ∷ r) q n e k = let f : b ≡ c = cc in n (omega (arith, k.0, f), omega (arith, k.1, f))

    go : (k : List ℕ) → u ≡ k → Follows t s.rest k → (u ≡ t) × Apart s.rest
    go k e (Follows.alone f a) = (e ∙ f, a)
    go k e (Follows.joined c w q f g n) =
        let longer : ItemText (t ++ c ∷ w) i = subst (λ (h : List ℕ). ItemText h i) (e ∙ f) x in
        absurd (no_longer v c w (ignored c s.rest q s.ignored g) longer)
