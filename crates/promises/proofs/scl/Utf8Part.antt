-- What is left of a line of UTF-8 after trimming is UTF-8: a character is cut off whole. Assumes nothing.
use mathlib.Core.Path.{◌≡◌, refl, sym, ◌∙◌, ap}
use mathlib.Core.List.{List, [], ◌∷◌, ◌++◌, append_assoc}
use mathlib.Core.Logic.{◌⊎◌, inl, inr}
use Prim.Native.Nat.{ℕ, suc, ◌+◌, ◌/◌, ◌%◌, ◌≤◌, ◌<◌}
use native.Mathlib.Omega.{arith}
use lib.Dec.{ltb}
use lib.ListN.{length}
use borrow.Author.Tests.{lt-ltb, le-ltb}
use Rattle.base.specs.Said.{pick}
use Rattle.utf8.specs.Characters.{Each, in_bytes, Row, Scalar, encode, Utf8}
use Rattle.base.proofs.Integers.{split}
use Rattle.utf8.proofs.Encodings.{enc1, enc2, enc3, enc4}
use Rattle.white.specs.White.{WhiteSpace, Trimmed}

-- a byte that goes on with a character
abbrev More : ℕ → Type 0
More b = (128 ≤ b) × (b < 192)

-- how many bytes go on, by the first
abbrev more_after : ℕ → ℕ
more_after b = pick (ltb b 192) 0 (pick (ltb b 224) 1 (pick (ltb b 240) 2 3))

-- the bytes of a character: a first one, and others that go on, as many as the first says
record Bytes (c : ℕ) : Type 0 where
  head : ℕ
  tail : List ℕ
  is : encode c ≡ head ∷ tail
  first : More head → ⊥
  more : Each More tail
  many : length tail ≡ more_after head

bytes : (c : ℕ) → Bytes c
bytes c = elim (split c 0x80) [
  | inl a ↦ record {
    head = c;
    tail = [];
    is = enc1 c a;
    first = λ m. omega (arith, a, m.0);
    more = tt;
    many = rw (lt-ltb c 192 (omega (arith, a)));
  }
  | inr b ↦ elim (split c 0x800) [
    | inl a ↦ record {
      head = 0xC0 + c / 64;
      tail = (0x80 + c % 64) ∷ [];
      is = enc2 c b a;
      first = λ m. omega (arith, m.1);
      more = ((omega arith, omega arith), tt);
      many = rw (le-ltb (0xC0 + c / 64) 192 (omega arith), lt-ltb (0xC0 + c / 64) 224 (omega (arith, a)));
    }
    | inr d ↦ elim (split c 0x10000) [
      | inl a ↦ record {
        head = 0xE0 + c / 4096;
        tail = (0x80 + c / 64 % 64) ∷ (0x80 + c % 64) ∷ [];
        is = enc3 c d a;
        first = λ m. omega (arith, m.1);
        more = ((omega arith, omega arith), ((omega arith, omega arith), tt));
        many = rw (
          le-ltb (0xE0 + c / 4096) 192 (omega arith),
          le-ltb (0xE0 + c / 4096) 224 (omega arith),
          lt-ltb (0xE0 + c / 4096) 240 (omega (arith, a)),
        );
      }
      | inr e ↦ record {
        head = 0xF0 + c / 262144;
        tail = (0x80 + c / 4096 % 64) ∷ (0x80 + c / 64 % 64) ∷ (0x80 + c % 64) ∷ [];
        is = enc4 c e;
        first = λ m. omega (arith, m.1);
        more = ((omega arith, omega arith), ((omega arith, omega arith), ((omega arith, omega arith), tt)));
        many = rw (
          le-ltb (0xF0 + c / 262144) 192 (omega arith),
          le-ltb (0xF0 + c / 262144) 224 (omega arith),
          le-ltb (0xF0 + c / 262144) 240 (omega arith),
        );
      }
    ]
  ]
]

-- ---- in front: two first characters of one text are as long
same_rest : (t u x y : List ℕ) → length t ≡ length u → t ++ x ≡ u ++ y → x ≡ y
same_rest [] [] x y l e = e
same_rest [] (b ∷ u) x y l e = absurd (omega arith)
same_rest (a ∷ t) [] x y l e = absurd (omega arith)
same_rest (a ∷ t) (b ∷ u) x y l e = let f : t ++ x ≡ u ++ y = cc in same_rest t u x y (omega arith) f

after_first : (c d : ℕ) (x y : List ℕ) → encode c ++ x ≡ encode d ++ y → x ≡ y
after_first c d x y e =
    let b = bytes c in
    let o = bytes d in
    let whole : b.head ∷ (b.tail ++ x) ≡ o.head ∷ (o.tail ++ y) =
    ap (λ (l : List ℕ). l ++ x) (sym b.is) ∙ e ∙ ap (λ (l : List ℕ). l ++ y) o.is in
    let h : b.head ≡ o.head = cc in
    let f : b.tail ++ x ≡ o.tail ++ y = cc in
    same_rest b.tail o.tail x y (b.many ∙ ap more_after h ∙ sym o.many) f

no_bytes : {B : Type 0} (c : ℕ) (x : List ℕ) → [] ≡ encode c ++ x → B
no_bytes c x e =
    let b = bytes c in
    let f : [] ≡ b.head ∷ (b.tail ++ x) = e ∙ ap (λ (l : List ℕ). l ++ x) b.is in
    let z : ◌≡◌ {A = ℕ} 0 1 = cc in
    absurd (omega arith)

cut_front : (ws codes : List ℕ) (x : List ℕ) → Each Scalar codes → in_bytes encode codes ≡ in_bytes encode ws ++ x → Utf8 x
unfolding in_bytes
cut_front [] codes x s e = record { codes = codes; each = s; text = sym e }
cut_front (w ∷ ws) [] x s e = no_bytes w (in_bytes encode ws ++ x) (e ∙ append_assoc (encode w) (in_bytes encode ws) x)
cut_front (w ∷ ws) (c ∷ cs) x s e =
    let f = e ∙ append_assoc (encode w) (in_bytes encode ws) x in
    cut_front ws cs x s.1 (after_first c w (in_bytes encode cs) (in_bytes encode ws ++ x) f)

-- ---- behind: no byte that starts a character goes on with one
abbrev Starts : List ℕ → Type 0
Starts [] = Unit {0}
Starts (b ∷ w) = More b → ⊥

cut_tail : (t x m w : List ℕ) → Each More t → Starts w → t ++ x ≡ m ++ w → (n : List ℕ) × (m ≡ t ++ n) × (x ≡ n ++ w)
cut_tail [] x m w h s e = (m, refl, e)
cut_tail (b ∷ t) x [] [] h s e = let z : ◌≡◌ {A = ℕ} 0 1 = cc in absurd (omega arith)
cut_tail (b ∷ t) x [] (a ∷ w) h s e = let f : b ≡ a = cc in absurd (s (omega (arith, h.0.0, f), omega (arith, h.0.1, f)))
cut_tail (b ∷ t) x (a ∷ m) w h s e =
    let f : b ≡ a = cc in
    let r : t ++ x ≡ m ++ w = cc in
    let (n, p, q) = cut_tail t x m w h.1 s r in
    (n, (λ i. sym f i ∷ p i), q)

no_character : (m w : List ℕ) → [] ≡ m ++ w → Utf8 m
unfolding in_bytes
no_character [] w e = record { codes = []; each = tt; text = refl }
no_character (b ∷ m) w e = let z : ◌≡◌ {A = ℕ} 0 1 = cc in absurd (omega arith)

first_character : (c : ℕ) (x m w : List ℕ) → Scalar c → Starts w → encode c ++ x ≡ m ++ w → ((n : List ℕ) → x ≡ n ++ w → Utf8 n) → Utf8 m
unfolding in_bytes
first_character c x [] w s h e rest = record { codes = []; each = tt; text = refl }
first_character c x (a ∷ m) w s h e rest =
    let b = bytes c in
    let whole : b.head ∷ (b.tail ++ x) ≡ a ∷ (m ++ w) = ap (λ (l : List ℕ). l ++ x) (sym b.is) ∙ e in
    let f : b.head ≡ a = cc in
    let r : b.tail ++ x ≡ m ++ w = cc in
    let (n, p, q) = cut_tail b.tail x m w b.more h r in
    let u = rest n q in
    record {
      codes = c ∷ u.codes;
      each = (s, u.each);
      text = (λ i. sym f i ∷ p i) ∙ ap (λ (l : List ℕ). b.head ∷ (b.tail ++ l)) u.text
          ∙ ap (λ (l : List ℕ). l ++ in_bytes encode u.codes) (sym b.is);
    }

cut_behind : (codes m w : List ℕ) → Each Scalar codes → Starts w → in_bytes encode codes ≡ m ++ w → Utf8 m
unfolding in_bytes
cut_behind [] m w s h e = no_character m w e
cut_behind (c ∷ cs) m w s h e = first_character c (in_bytes encode cs) m w s.0 h e (λ n q. cut_behind cs n w s.1 h q)

starts_so : (ws : List ℕ) → Starts (in_bytes encode ws)
unfolding in_bytes
starts_so [] = tt
starts_so (c ∷ ws) = let b = bytes c in rw b.is b.first

-- THE THEOREM
pub trimmed_utf8 : (l m : List ℕ) → Utf8 l → Trimmed WhiteSpace encode l m → Utf8 m
trimmed_utf8 l m u t =
    let front = cut_front t.before u.codes (m ++ in_bytes encode t.after) u.each (sym u.text ∙ t.whole) in
    cut_behind front.codes m (in_bytes encode t.after) front.each (starts_so t.after) (sym front.text)
