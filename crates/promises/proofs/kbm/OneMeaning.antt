-- A TEXT OF THE PUBLISHED FORMAT HAS ONE MEANING: its seven numbers, the frequency digit for digit, and its degrees. Assumes nothing.
use Rattle.std.specs.Prelude.{Some, Option}
use mathlib.Core.Path.{◌≡◌, refl, sym, ap, ◌∙◌, subst}
use mathlib.Core.List.{List, [], ◌∷◌, ◌++◌}
use mathlib.Core.Logic.{◌⊎◌, inl, inr}
use Prim.Native.Nat.{ℕ}
use native.Mathlib.Omega.{arith}
use lib.IntN.{ℤ, pos}
use Rattle.decimals.specs.DecimalText.{DottedDigits}
use Rattle.integers.specs.Digits.{AllDigits}
use Rattle.integers.specs.IntegerText.{Digits}
use Rattle.kbm_write.specs.Published as P
use Rattle.writing.proofs.Plain.{Plain, Word}
use Rattle.utf8.specs.Characters.{Each}
use Rattle.text.proofs.LinesLanguage.{one_lines}
use Rattle.promises.proofs.kbm.Standing.{no_cons}
use Rattle.promises.proofs.kbm.Values.{not_digits, one_number, letter_whole, whole_word, hertz_word, degree_word}

-- ---- LINES: the same are kept
pub one_kept : {ls ks js : List (List ℕ)} → P.Kept ls ks → P.Kept ls js → ks ≡ js
one_kept P.Kept.none P.Kept.none = refl
one_kept (P.Kept.comment c k) (P.Kept.comment d j) = one_kept k j
one_kept (P.Kept.comment c k) (P.Kept.kept n j) = absurd (n c)
one_kept (P.Kept.kept n k) (P.Kept.comment d j) = absurd (n d)
one_kept (P.Kept.kept {l = l} n k) (P.Kept.kept i j) = ap (λ (xs : List (List ℕ)). l ∷ xs) (one_kept k j)

-- ---- WORDS: one stands on a line
not_blank : {A : Type 0} (b c : ℕ) → P.Blank b → Plain c → b ≡ c → A
not_blank b c (inl x) p e = absurd (omega (arith, x, p))
not_blank b c (inr x) p e = absurd (omega (arith, x, p))

-- plain bytes up to the end or a blank
one_lead : (t u r q : List ℕ) → Each Plain t → Each Plain u → P.Ends r → P.Ends q → t ++ r ≡ u ++ q → t ≡ u
one_lead [] [] r q a b m n e = refl
one_lead [] (c ∷ u) [] q a b m n e = no_cons e
one_lead [] (c ∷ u) (d ∷ r) q a b m n e = let x : d ≡ c = cc in not_blank d c m b.0 x
one_lead (c ∷ t) [] r [] a b m n e = no_cons (sym e)
one_lead (c ∷ t) [] r (d ∷ q) a b m n e = let x : d ≡ c = cc in not_blank d c n a.0 x
one_lead (c ∷ t) (d ∷ u) r q a b m n e =
    let x : c ≡ d = cc in
    let y : t ++ r ≡ u ++ q = cc in
    let z = one_lead t u r q a.1 b.1 m n y in
    cc

-- after blanks, where what stands there starts with one
pub one_word : (v w t u r q : List ℕ) → Each P.Blank v → Each P.Blank w → Word t → Word u →
    (t ++ r ≡ u ++ q → t ≡ u) → v ++ (t ++ r) ≡ w ++ (u ++ q) → t ≡ u
one_word [] [] t u r q i j a b f e = f e
one_word [] (d ∷ w) [] u r q i j a b f e = absurd (omega (arith, a.some))
one_word [] (d ∷ w) (c ∷ t) u r q i j a b f e = let x : d ≡ c = cc in not_blank d c j.0 a.each.0 x
one_word (d ∷ v) [] t [] r q i j a b f e = absurd (omega (arith, b.some))
one_word (d ∷ v) [] t (c ∷ u) r q i j a b f e = let x : d ≡ c = cc in not_blank d c i.0 b.each.0 x
one_word (d ∷ v) (c ∷ w) t u r q i j a b f e =
    let x : v ++ (t ++ r) ≡ w ++ (u ++ q) = cc in
    one_word v w t u r q i.1 j.1 a b f x

one_stands : {l t u : List ℕ} → Word t → Word u → P.Stands l t → P.Stands l u → t ≡ u
one_stands {l} {t} {u} a b x y =
    let lead = one_lead t u x.rest y.rest a.each b.each x.ends y.ends in
    one_word x.before y.before t u x.rest y.rest x.blank y.blank a b lead (sym x.whole ∙ y.whole)

-- ---- VALUES: a word has one
one_whole : {t : List ℕ} {y z : ℤ} → P.Whole t y → P.Whole t z → y ≡ z
one_whole (P.Whole.plain m c e) (P.Whole.plain n d f) = e ∙ ap pos (one_number c d) ∙ sym f
one_whole (P.Whole.plain m c e) (P.Whole.minus u n q d f) = absurd (not_digits (λ a b. omega arith) q c)
one_whole (P.Whole.minus u n q d f) (P.Whole.plain m c e) = absurd (not_digits (λ a b. omega arith) q c)
one_whole (P.Whole.minus u m p c e) (P.Whole.minus v n q d f) =
    let x : u ≡ v = cc in
    let y : m ≡ n = one_number c (subst (λ (l : List ℕ). Digits l n) (sym x) d) in
    cc

one_degree : {t : List ℕ} {e f : (Option ℤ)} → P.Degree t e → P.Degree t f → e ≡ f
one_degree (P.Degree.cross p) (P.Degree.cross q) = refl
one_degree (P.Degree.cross p) (P.Degree.degree z w) = absurd (letter_whole (omega arith) p w)
one_degree (P.Degree.degree z w) (P.Degree.cross q) = absurd (letter_whole (omega arith) q w)
one_degree (P.Degree.degree z w) (P.Degree.degree y v) = ap Some (one_whole w v)

-- digits before a dot, and those after it
one_dot : (a b c d : List ℕ) → AllDigits a → AllDigits b → a ++ (46 ∷ c) ≡ b ++ (46 ∷ d) → (a ≡ b) × (c ≡ d)
one_dot [] [] c d x y e = (refl, cc)
one_dot [] (k ∷ b) c d x y e = let z : k ≡ 46 = cc in absurd (omega (arith, y.0))
one_dot (k ∷ a) [] c d x y e = let z : k ≡ 46 = cc in absurd (omega (arith, x.0))
one_dot (k ∷ a) (j ∷ b) c d x y e =
    let z : k ≡ j = cc in
    let f : a ++ (46 ∷ c) ≡ b ++ (46 ∷ d) = cc in
    let r = one_dot a b c d x.1 y.1 f in
    let q = r.0 in
    (cc, r.1)

no_dot : (a b c : List ℕ) → AllDigits b → a ++ (46 ∷ c) ≡ b → ⊥
no_dot [] [] c y e = no_cons (sym e)
no_dot [] (k ∷ b) c y e = let z : k ≡ 46 = cc in omega (arith, y.0)
no_dot (j ∷ a) [] c y e = no_cons (sym e)
no_dot (j ∷ a) (k ∷ b) c y e = let f : a ++ (46 ∷ c) ≡ b = cc in no_dot a b c y.1 f

one_dotted : {t a b c d : List ℕ} → DottedDigits t a c → DottedDigits t b d → (a ≡ b) × (c ≡ d)
one_dotted {t} {a} {b} {c} {d} x y = go x.writes y.writes
  where
    go : (t ≡ a ++ (46 ∷ c)) ⊎ ((t ≡ a) × (c ≡ [])) → (t ≡ b ++ (46 ∷ d)) ⊎ ((t ≡ b) × (d ≡ [])) → (a ≡ b) × (c ≡ d)
    go (inl e) (inl f) = one_dot a b c d x.first y.first (sym e ∙ f)
    go (inl e) (inr f) = absurd (no_dot a b c y.first (sym e ∙ f.0))
    go (inr e) (inl f) = absurd (no_dot b a d x.first (sym f ∙ e.0))
    go (inr e) (inr f) = (sym e.0 ∙ f.0, e.1 ∙ sym f.1)

one_hertz : {t : List ℕ} {m n j k : ℕ} → P.Hertz t m j → P.Hertz t n k → (m ≡ n) × (j ≡ k)
one_hertz x y =
    let r = one_dotted x.digits y.digits in
    let a = r.0 in
    let b = r.1 in
    let v = x.value in
    let w = y.value in
    let p = x.places in
    let q = y.places in
    (cc, cc)

-- ---- LINES WITH VALUES
same_line : {l k : List ℕ} {y z : ℤ} → P.Number l y → P.Number k z → l ≡ k → y ≡ z
same_line {z = z} x y e =
    let w : P.Number _ z = subst (λ (i : List ℕ). P.Number i z) (sym e) y in
    let t = one_stands (whole_word x.token x.value) (whole_word w.token w.value) x.stands w.stands in
    one_whole (subst (λ (i : List ℕ). P.Whole i _) t x.value) w.value

same_frequency : {l k : List ℕ} {m n i j : ℕ} → P.Frequency l m i → P.Frequency k n j → l ≡ k → (m ≡ n) × (i ≡ j)
same_frequency {m = m} {n = n} {i = i} {j = j} x y e =
    let w : P.Frequency _ n j = subst (λ (h : List ℕ). P.Frequency h n j) (sym e) y in
    let t = one_stands (hertz_word x.token x.value) (hertz_word w.token w.value) x.stands w.stands in
    one_hertz (subst (λ (h : List ℕ). P.Hertz h m i) t x.value) w.value

same_degrees : (ls : List (List ℕ)) (es fs : List (Option ℤ)) → P.Degrees ls es → P.Degrees ls fs → es ≡ fs
same_degrees [] [] [] a b = refl
same_degrees [] [] (f ∷ fs) a b = absurd b
same_degrees [] (e ∷ es) fs a b = absurd a
same_degrees (l ∷ ls) [] fs a b = absurd a
same_degrees (l ∷ ls) (e ∷ es) [] a b = absurd b
same_degrees (l ∷ ls) (e ∷ es) (f ∷ fs) a b =
    let x = a.0 in
    let y = b.0 in
    let t = one_stands (degree_word x.0 x.2) (degree_word y.0 y.2) x.1 y.1 in
    let d = one_degree (subst (λ (h : List ℕ). P.Degree h e) t x.2) y.2 in
    let r = same_degrees ls es fs a.1 b.1 in
    cc

-- THE THEOREM
pub one_meaning : (s : List ℕ) (m n : P.Mapping) → P.PublishedText s m → P.PublishedText s n → m ≡ n
one_meaning s m n p q =
    let parts : p.parts ≡ q.parts = sym (one_lines p.lines) ∙ one_lines q.lines in
    let kept = one_kept p.keeps (subst (λ (l : List (List ℕ)). P.Kept l (q.l1 ∷ q.l2 ∷ q.l3 ∷ q.l4 ∷ q.l5 ∷ q.l6 ∷ q.l7 ∷ q.rest)) (sym parts) q.keeps) in
    let size : pos m.size ≡ pos n.size = same_line p.size q.size cc in
    let first = same_line p.first q.first cc in
    let last = same_line p.last q.last cc in
    let middle = same_line p.middle q.middle cc in
    let reference = same_line p.reference q.reference cc in
    let hertz = same_frequency p.frequency q.frequency cc in
    let octave = same_line p.octave q.octave cc in
    let rest : p.rest ≡ q.rest = cc in
    let given = same_degrees p.rest m.given n.given p.degrees (subst (λ (l : List (List ℕ)). P.Degrees l n.given) (sym rest) q.degrees) in
    let count : m.size ≡ n.size = cc in
    λ i. record {
      size = count i;
      first = first i;
      last = last i;
      middle = middle i;
      reference = reference i;
      hertz = hertz.0 i;
      places = hertz.1 i;
      octave = octave i;
      given = given i;
    }
