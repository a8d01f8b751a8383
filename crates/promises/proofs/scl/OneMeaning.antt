-- A SCALE TEXT OF THE PUBLISHED FORMAT HAS ONE MEANING: its description and its pitch values, cents digit for digit. Assumes nothing.
use mathlib.Core.Path.{◌≡◌, refl, sym, ap, ◌∙◌, subst}
use mathlib.Core.Bool.{Bool, true, false}
use mathlib.Core.List.{List, [], ◌∷◌, ◌++◌}
use mathlib.Core.Logic.{◌⊎◌, inl, inr}
use Prim.Native.Nat.{ℕ, ◌≤◌, ◌<◌}
use native.Mathlib.Omega.{arith}
use lib.ListN.{length}
use Rattle.integers.specs.Digits.{AllDigits, decimal}
use Rattle.integers.specs.IntegerText.{Digits}
use Rattle.scl_write.specs.Published as P
use Rattle.utf8.specs.Characters.{Each}
use Rattle.writing.specs.PublishedLines.{Kept}
use Rattle.writing.proofs.Plain.{Word, each_append}
use Rattle.text.proofs.LinesLanguage.{one_lines}
use Rattle.promises.proofs.kbm.Standing.{no_cons}
use Rattle.promises.proofs.kbm.Values.{one_number}
use Rattle.promises.proofs.kbm.OneMeaning.{one_kept, one_word}
use Rattle.promises.proofs.scl.Values.{value_word}

-- ---- DIGITS AND A MARK: a byte k that is no digit
module _ (k : ℕ) (mark : (48 ≤ k) × (k ≤ 57) → ⊥) where
  -- it stands in no digits
  pub none : (a c d : List ℕ) → AllDigits d → a ++ (k ∷ c) ≡ d → ⊥
  none [] c [] z e = no_cons (sym e)
  none [] c (j ∷ d) z e = let q : k ≡ j = cc in mark (omega (arith, z.0, q), omega (arith, z.0, q))
  none (i ∷ a) c [] z e = no_cons (sym e)
  none (i ∷ a) c (j ∷ d) z e = let q : a ++ (k ∷ c) ≡ d = cc in none a c d z.1 q

  -- nor in digits, another byte, digits
  apart : (m : ℕ) → (k ≡ m → ⊥) → (a b c d : List ℕ) → AllDigits b → AllDigits d → a ++ (k ∷ c) ≡ b ++ (m ∷ d) → ⊥
  apart m other [] [] c d y z e = other cc
  apart m other [] (j ∷ b) c d y z e = let q : k ≡ j = cc in mark (omega (arith, y.0, q), omega (arith, y.0, q))
  apart m other (i ∷ a) [] c d y z e = let q : a ++ (k ∷ c) ≡ d = cc in none a c d z q
  apart m other (i ∷ a) (j ∷ b) c d y z e = let q : a ++ (k ∷ c) ≡ b ++ (m ∷ d) = cc in apart m other a b c d y.1 z q

  -- digits, the mark, and what follows it
  one_mark : (a b c d : List ℕ) → AllDigits a → AllDigits b → a ++ (k ∷ c) ≡ b ++ (k ∷ d) → (a ≡ b) × (c ≡ d)
  one_mark [] [] c d x y e = (refl, cc)
  one_mark [] (j ∷ b) c d x y e = let z : j ≡ k = cc in absurd (mark (omega (arith, y.0, z), omega (arith, y.0, z)))
  one_mark (j ∷ a) [] c d x y e = let z : j ≡ k = cc in absurd (mark (omega (arith, x.0, z), omega (arith, x.0, z)))
  one_mark (i ∷ a) (j ∷ b) c d x y e =
      let z : i ≡ j = cc in
      let f : a ++ (k ∷ c) ≡ b ++ (k ∷ d) = cc in
      let r = one_mark a b c d x.1 y.1 f in
      let q = r.0 in
      (cc, r.1)

-- the two marks of values
dot : (48 ≤ 46) × (46 ≤ 57) → ⊥
dot h = omega (arith, h.0)

slash : (48 ≤ 47) × (47 ≤ 57) → ⊥
slash h = omega (arith, h.0)

-- ---- CENTS
-- how they are written, and that they have a dot
abbrev pub Writes : List ℕ → Bool → List ℕ → List ℕ → Type 0
Writes t minus whole part = ((minus ≡ false) × (t ≡ whole ++ 46 ∷ part)) ⊎ ((minus ≡ true) × (t ≡ 45 ∷ whole ++ 46 ∷ part))

dotted : {t : List ℕ} {minus : Bool} {n k : ℕ} → P.CentsText t minus n k → (a c : List ℕ) × (t ≡ a ++ (46 ∷ c))
dotted {t} {minus} x = go x.writes
  where
    go : Writes t minus x.whole x.part → (a c : List ℕ) × (t ≡ a ++ (46 ∷ c))
    go (inl e) = (x.whole, x.part, e.1)
    go (inr e) = (45 ∷ x.whole, x.part, e.1)

module _ {t : List ℕ} {m o : Bool} {n k p j : ℕ} (x : P.CentsText t m n k) (y : P.CentsText t o p j) where
  same_digits : m ≡ o → (x.whole ≡ y.whole) × (x.part ≡ y.part) → P.Pitch.cents m n k ≡ P.Pitch.cents o p j
  same_digits s r =
      let v : n ≡ p = x.value ∙ ap decimal (λ i. r.0 i ++ r.1 i) ∙ sym y.value in
      let w : k ≡ j = x.places ∙ ap length r.1 ∙ sym y.places in
      λ i. P.Pitch.cents (s i) (v i) (w i)

  one_dot : x.whole ++ (46 ∷ x.part) ≡ y.whole ++ (46 ∷ y.part) → (x.whole ≡ y.whole) × (x.part ≡ y.part)
  one_dot e = one_mark 46 dot x.whole y.whole x.part y.part x.first y.first e

-- digits do not start with a minus
signed : (a b c d : List ℕ) → AllDigits a → a ++ (46 ∷ c) ≡ 45 ∷ (b ++ (46 ∷ d)) → ⊥
signed [] b c d u e = let z : ◌≡◌ {A = ℕ} 46 45 = cc in omega (arith, z)
signed (i ∷ a) b c d u e = let z : i ≡ 45 = cc in omega (arith, u.0, z)

one_cents : {t : List ℕ} {m o : Bool} {n k p j : ℕ} → P.CentsText t m n k → P.CentsText t o p j → P.Pitch.cents m n k ≡ P.Pitch.cents o p j
one_cents {t} {m} {o} {n} {k} {p} {j} x y = go x.writes y.writes
  where
    go : Writes t m x.whole x.part → Writes t o y.whole y.part → P.Pitch.cents m n k ≡ P.Pitch.cents o p j
    go (inl e) (inl f) = same_digits x y (e.0 ∙ sym f.0) (one_dot x y (sym e.1 ∙ f.1))
    go (inl e) (inr f) = absurd (signed x.whole y.whole x.part y.part x.first (sym e.1 ∙ f.1))
    go (inr e) (inl f) = absurd (signed y.whole x.whole y.part x.part y.first (sym f.1 ∙ e.1))
    go (inr e) (inr f) =
        let q = sym e.1 ∙ f.1 in
        let z : x.whole ++ (46 ∷ x.part) ≡ y.whole ++ (46 ∷ y.part) = cc in
        same_digits x y (e.0 ∙ sym f.0) (one_dot x y z)

-- ---- VALUES: a word has one
module _ {A : Type 0} {t : List ℕ} {minus : Bool} {n k : ℕ} (x : P.CentsText t minus n k) where
  cents_no_ratio : (a b : List ℕ) → t ≡ a ++ 47 ∷ b → AllDigits a → AllDigits b → A
  cents_no_ratio a b e u v = let (c, f, w) = dotted x in absurd (apart 46 dot 47 (λ z. omega (arith, z)) c a f b u v (sym w ∙ e))

  cents_no_whole : AllDigits t → A
  cents_no_whole u = let (c, f, w) = dotted x in absurd (none 46 dot c f _ u (sym w))

pub one_value : {t : List ℕ} {p q : P.Pitch} → P.PitchText t p → P.PitchText t q → p ≡ q
one_value (P.PitchText.cents x) (P.PitchText.cents y) = one_cents x y
one_value (P.PitchText.cents x) (P.PitchText.ratio a b n d e u v h k) = cents_no_ratio x a b e u.each v.each
one_value (P.PitchText.cents x) (P.PitchText.whole n u h) = cents_no_whole x u.each
one_value (P.PitchText.ratio a b n d e u v h k) (P.PitchText.cents x) = cents_no_ratio x a b e u.each v.each
one_value (P.PitchText.ratio a b n d e u v h k) (P.PitchText.ratio c f m g w x y i j) =
    let r = one_mark 47 slash a c b f u.each x.each (sym e ∙ w) in
    let s : n ≡ m = one_number (subst (λ (l : List ℕ). Digits l n) r.0 u) x in
    let z : d ≡ g = one_number (subst (λ (l : List ℕ). Digits l d) r.1 v) y in
    λ i. P.Pitch.ratio (s i) (z i)
one_value (P.PitchText.ratio a b n d e u v h k) (P.PitchText.whole m x i) = absurd (none 47 slash a b _ x.each (sym e))
one_value (P.PitchText.whole n u h) (P.PitchText.cents x) = cents_no_whole x u.each
one_value (P.PitchText.whole m x i) (P.PitchText.ratio a b n d e u v h k) = absurd (none 47 slash a b _ x.each (sym e))
one_value (P.PitchText.whole n u h) (P.PitchText.whole m v k) = let s : n ≡ m = one_number u v in λ i. P.Pitch.ratio (s i) 1

-- ---- LINES WITH VALUES: one leads a line
-- period, slash and digits
abbrev pub Mark : ℕ → Type 0
Mark b = (46 ≤ b) × (b ≤ 57)

pub marks : (t : List ℕ) → AllDigits t → Each Mark t
marks [] d = tt
marks (b ∷ t) d = ((omega (arith, d.0), omega (arith, d.0)), marks t d.1)

-- digits, a mark, digits
pub parted_marks : (a b : List ℕ) (c : ℕ) → AllDigits a → AllDigits b → Mark c → Each Mark (a ++ c ∷ b)
parted_marks a b c x y k = each_append Mark a (c ∷ b) (marks a x) (k, marks b y)

-- a value is such marks, or a minus and such marks
data Run (t : List ℕ) : Type 0 where
  plain : Each Mark t → Run t
  minus : (u : List ℕ) → t ≡ 45 ∷ u → Each Mark u → Run t

value_run : {t : List ℕ} {p : P.Pitch} → P.PitchText t p → Run t
value_run {t} (P.PitchText.cents {minus} x) = go x.writes
  where
    body : Each Mark (x.whole ++ 46 ∷ x.part)
    body = parted_marks x.whole x.part 46 x.first x.second (omega arith, omega arith)

    go : Writes t minus x.whole x.part → Run t
    go (inl e) = Run.plain (subst (Each Mark) (sym e.1) body)
    go (inr e) = Run.minus (x.whole ++ 46 ∷ x.part) e.1 body
value_run (P.PitchText.ratio a b n d e u v h k) =
    Run.plain (subst (Each Mark) (sym e) (parted_marks a b 47 u.each v.each (omega arith, omega arith)))
value_run {t} (P.PitchText.whole n u h) = Run.plain (marks t u.each)

-- marks up to what is none
one_marks : (t u r q : List ℕ) → Each Mark t → Each Mark u → P.Ignored r → P.Ignored q → t ++ r ≡ u ++ q → t ≡ u
one_marks [] [] r q a b m n e = refl
one_marks [] (c ∷ u) [] q a b m n e = no_cons e
one_marks [] (c ∷ u) (d ∷ r) q a b m n e = let x : d ≡ c = cc in absurd (m (omega (arith, b.0, x), omega (arith, b.0, x)))
one_marks (c ∷ t) [] r [] a b m n e = no_cons (sym e)
one_marks (c ∷ t) [] r (d ∷ q) a b m n e = let x : d ≡ c = cc in absurd (n (omega (arith, a.0, x), omega (arith, a.0, x)))
one_marks (c ∷ t) (d ∷ u) r q a b m n e =
    let x : c ≡ d = cc in
    let y : t ++ r ≡ u ++ q = cc in
    let z = one_marks t u r q a.1 b.1 m n y in
    cc

-- a minus is no mark, and does not follow a value
no_minus : (t r u q : List ℕ) → Each Mark t → 0 < length t → t ++ r ≡ (45 ∷ u) ++ q → ⊥
no_minus [] r u q a s e = omega (arith, s)
no_minus (c ∷ t) r u q a s e = let x : c ≡ 45 = cc in omega (arith, a.0, x)

one_run : (t u r q : List ℕ) → Word t → Word u → Run t → Run u → P.Ignored r → P.Ignored q → t ++ r ≡ u ++ q → t ≡ u
one_run t u r q x y (Run.plain a) (Run.plain b) m n e = one_marks t u r q a b m n e
one_run t u r q x y (Run.plain a) (Run.minus v f b) m n e = absurd (no_minus t r v q a x.some (e ∙ ap (λ (l : List ℕ). l ++ q) f))
one_run t u r q x y (Run.minus v f b) (Run.plain a) m n e = absurd (no_minus u q v r a y.some (sym e ∙ ap (λ (l : List ℕ). l ++ r) f))
one_run t u r q x y (Run.minus v f a) (Run.minus w g b) m n e =
    let k : v ++ r ≡ w ++ q = cc in
    let z = one_marks v w r q a b m n k in
    cc

one_leads : {l t u : List ℕ} {p q : P.Pitch} → P.PitchText t p → P.PitchText u q → P.LedBy l t → P.LedBy l u → t ≡ u
one_leads {l} {t} {u} a b x y =
    let same = one_run t u x.rest y.rest (value_word a) (value_word b) (value_run a) (value_run b) x.ignored y.ignored in
    let whole = sym x.whole ∙ y.whole in
    one_word x.before y.before t u x.rest y.rest x.blank y.blank (value_word a) (value_word b) same whole

same_values : (ls : List (List ℕ)) (ps qs : List P.Pitch) → P.PitchLines ls ps → P.PitchLines ls qs → ps ≡ qs
same_values [] [] [] a b = refl
same_values [] [] (q ∷ qs) a b = absurd b
same_values [] (p ∷ ps) qs a b = absurd a
same_values (l ∷ ls) [] qs a b = absurd a
same_values (l ∷ ls) (p ∷ ps) [] a b = absurd b
same_values (l ∷ ls) (p ∷ ps) (q ∷ qs) a b =
    let x = a.0 in
    let y = b.0 in
    let t = one_leads x.2 y.2 x.1 y.1 in
    let v : p ≡ q = one_value (subst (λ (h : List ℕ). P.PitchText h p) t x.2) y.2 in
    let r = same_values ls ps qs a.1 b.1 in
    λ i. v i ∷ r i

-- THE THEOREM
pub one_meaning : (s : List ℕ) (m n : P.Scale) → P.PublishedText s m → P.PublishedText s n → m ≡ n
one_meaning s m n p q =
    let parts : p.parts ≡ q.parts = sym (one_lines p.lines) ∙ one_lines q.lines in
    let kept = one_kept p.keeps (subst (λ (l : List (List ℕ)). Kept l (n.description ∷ q.count ∷ q.rest)) (sym parts) q.keeps) in
    let described : m.description ≡ n.description = cc in
    let rest : p.rest ≡ q.rest = cc in
    let values = subst (λ (l : List (List ℕ)). P.PitchLines l n.pitches) (sym rest) q.values in
    let pitches = same_values p.rest m.pitches n.pitches p.values values in
    λ i. record { description = described i; pitches = pitches i }
