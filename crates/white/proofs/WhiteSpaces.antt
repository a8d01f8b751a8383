-- Unicode White_Space in UTF-8, byte by byte: each character of the set is one, two or three bytes that the tests of `Trim` hold
-- for, and bytes that they hold for are such a character. Assumes nothing.
use mathlib.Core.Path.{◌≡◌, refl, sym, ◌∙◌}
use mathlib.Core.List.{List, [], ◌∷◌}
use mathlib.Core.Bool.{Bool, true, false}
use mathlib.Core.Logic.{◌⊎◌, inl, inr, ⊎_elim}
use Prim.Native.Nat.{ℕ, ◌+◌, ◌-◌, ◌/◌, ◌%◌, ◌≤◌, ◌<◌}
use native.Mathlib.Omega.{arith}
use lib.Dec.{ltb, eqb}
use borrow.Author.Tests.{lt-ltb, le-ltb, ltb-true, ltb-false, ne_eqb, eqb-true}
use Rattle.base.specs.Said.{pick}
use Rattle.base.proofs.Pick.{pick_both, pick_never, true_not_false}
use Rattle.utf8.specs.Characters.{encode}
use Rattle.white.specs.White.{WhiteSpace}
use Rattle.white.specs.Trim.{white1, white2, white3, general}
use Rattle.utf8.proofs.Encodings.{enc1, enc3}

-- a byte that starts a character: it continues none
abbrev pub Lead : ℕ → Type 0
Lead b = (b < 0x80) ⊎ (0xC0 ≤ b)

-- the bytes of a white character, and how the tests tell them apart, read forwards and backwards
pub data Shape (s : List ℕ) : Type 0 where
  shape1 : (b : ℕ) → s ≡ b ∷ [] → Lead b → white1 b ≡ true → Shape s
  shape2 : (b c : ℕ) → s ≡ b ∷ c ∷ [] → Lead b → white1 b ≡ false → white2 b c ≡ true → white1 c ≡ false → Shape s
  shape3 : (b c d : ℕ) → s ≡ b ∷ c ∷ d ∷ [] → Lead b → white1 b ≡ false → white2 b c ≡ false → white3 b c d ≡ true → white1 d ≡ false → white2 c d ≡ false → Shape s

low : (c : ℕ) → 9 ≤ c → c ≤ 13 → Shape (encode c)
low c l h = Shape.shape1 c (enc1 c (omega arith)) (inl (omega arith)) (rw (le-ltb c 9 l, lt-ltb c 14 (omega arith)))

-- U+2000 to 200A: E2 80 and a byte from 128 to 138
spaces : (c : ℕ) → 0x2000 ≤ c → c ≤ 0x200A → Shape (encode c)
spaces c l h =
    let p : 0xE0 + c / 4096 ≡ 226 = omega arith in
    let q : 0x80 + c / 64 % 64 ≡ 128 = omega arith in
    let d = 0x80 + c % 64 in
    let x : 128 ≤ d = omega arith in
    let y : d < 139 = omega arith in
    Shape.shape3 226 128 d (enc3 c (omega arith) (omega arith) ∙ rw (p, q)) (inr (omega arith)) refl refl (rw (le-ltb d 128 x, lt-ltb d 139 y))
    (rw (le-ltb d 9 (omega arith), le-ltb d 14 (omega arith), ne_eqb d 32 (omega arith))) refl

-- one character, whose bytes are computed
only : (n c : ℕ) → (n ≤ c) × (c ≤ n) → Shape (encode n) → Shape (encode c)
only n c h x = let e : c ≡ n = omega (arith, h.0, h.1) in rw e x

only2 : (n b c : ℕ) → encode n ≡ b ∷ c ∷ [] → 0xC0 ≤ b → white1 b ≡ false → white2 b c ≡ true → white1 c ≡ false → (k : ℕ) → (n ≤ k) × (k ≤ n) → Shape (encode k)
only2 n b c e l p q r k h = only n k h (Shape.shape2 b c e (inr l) p q r)

only3 : (n b c d : ℕ) → encode n ≡ b ∷ c ∷ d ∷ [] → 0xC0 ≤ b → white1 b ≡ false → white2 b c ≡ false → white3 b c d ≡ true → white1 d ≡ false → white2 c d ≡ false →
    (k : ℕ) → (n ≤ k) × (k ≤ n) → Shape (encode k)
only3 n b c d e l p q r u v k h = only n k h (Shape.shape3 b c d e (inr l) p q r u v)

-- EACH character of the set has such a shape
pub shape : (c : ℕ) → WhiteSpace c → Shape (encode c)
unfolding encode
shape c (inl h) = low c h.0 h.1
shape c (inr (inl h)) = only 32 c h (Shape.shape1 32 refl (inl (omega arith)) refl)
shape c (inr (inr (inl h))) = only2 0x0085 194 133 refl (omega arith) refl refl refl c h
shape c (inr (inr (inr (inl h)))) = only2 0x00A0 194 160 refl (omega arith) refl refl refl c h
shape c (inr (inr (inr (inr (inl h))))) = only3 0x1680 225 154 128 refl (omega arith) refl refl refl refl refl c h
shape c (inr (inr (inr (inr (inr (inl h)))))) = spaces c h.0 h.1
shape c (inr (inr (inr (inr (inr (inr (inl h))))))) = only3 0x2028 226 128 168 refl (omega arith) refl refl refl refl refl c h
shape c (inr (inr (inr (inr (inr (inr (inr (inl h)))))))) = only3 0x2029 226 128 169 refl (omega arith) refl refl refl refl refl c h
shape c (inr (inr (inr (inr (inr (inr (inr (inr (inl h))))))))) = only3 0x202F 226 128 175 refl (omega arith) refl refl refl refl refl c h
shape c (inr (inr (inr (inr (inr (inr (inr (inr (inr (inl h)))))))))) = only3 0x205F 226 129 159 refl (omega arith) refl refl refl refl refl c h
shape c (inr (inr (inr (inr (inr (inr (inr (inr (inr (inr (inl h))))))))))) = only3 0x3000 227 128 128 refl (omega arith) refl refl refl refl refl c h
shape c (inr (inr (inr (inr (inr (inr (inr (inr (inr (inr (inr x11))))))))))) = elim x11 [ ]

-- AND BYTES that a test holds for are a character of the set

-- s is the bytes of a white character
abbrev pub Written : List ℕ → Type 0
Written s = (c : ℕ) × WhiteSpace c × (encode c ≡ s)

pub is1 : (b : ℕ) → white1 b ≡ true → Written (b ∷ [])
is1 b e = by_low (ltb b 9) refl e
  where
    by_14 : (t : Bool) → ltb b 14 ≡ t → 9 ≤ b → pick t true (eqb b 32) ≡ true → Written (b ∷ [])
    by_14 true p l q = let h = ltb-true b 14 p in (b, inl (l, omega arith), enc1 b (omega arith))
    by_14 false p l q = let h = eqb-true b 32 q in (b, inr (inl (omega arith, omega arith)), enc1 b (omega arith))

    by_low : (t : Bool) → ltb b 9 ≡ t → pick t false (pick (ltb b 14) true (eqb b 32)) ≡ true → Written (b ∷ [])
    by_low true p q = absurd (true_not_false (sym q))
    by_low false p q = by_14 (ltb b 14) refl (ltb-false b 9 p) q

-- both tests of a pair of bytes, or of two
two_bytes : (b c : ℕ) → b ≡ 194 → (c ≡ 133) ⊎ (c ≡ 160) → Written (b ∷ c ∷ [])
unfolding encode
two_bytes b c e (inl f) = (0x0085, inr (inr (inl (omega arith, omega arith))), rw (e, f))
two_bytes b c e (inr f) = (0x00A0, inr (inr (inr (inl (omega arith, omega arith)))), rw (e, f))

or_eqb : (c m n : ℕ) → pick (eqb c m) true (eqb c n) ≡ true → (c ≡ m) ⊎ (c ≡ n)
or_eqb c m n e = go (eqb c m) refl e
  where
    go : (t : Bool) → eqb c m ≡ t → pick t true (eqb c n) ≡ true → (c ≡ m) ⊎ (c ≡ n)
    go true p q = inl (eqb-true c m p)
    go false p q = inr (eqb-true c n q)

pub is2 : (b c : ℕ) → white2 b c ≡ true → Written (b ∷ c ∷ [])
is2 b c e =
    let p = pick_both (eqb b 194) (pick (eqb c 133) true (eqb c 160)) e in
    two_bytes b c (eqb-true b 194 p.0) (or_eqb c 133 160 p.1)

-- E2 80 and a byte
general_byte : (d : ℕ) → general d ≡ true → Written (226 ∷ 128 ∷ d ∷ [])
unfolding encode
general_byte d e = by_low (ltb d 128) refl e
  where
    span : 128 ≤ d → d < 139 → Written (226 ∷ 128 ∷ d ∷ [])
    span l h =
        let c = 0x2000 + (d - 128) in
        let p : 0xE0 + c / 4096 ≡ 226 = omega arith in
        let q : 0x80 + c / 64 % 64 ≡ 128 = omega arith in
        let r : 0x80 + c % 64 ≡ d = omega arith in
        (c, inr (inr (inr (inr (inr (inl (omega arith, omega arith)))))), enc3 c (omega arith) (omega arith) ∙ rw (p, q, r))

    by_169 : (d ≡ 169) ⊎ (d ≡ 175) → Written (226 ∷ 128 ∷ d ∷ [])
    by_169 (inl f) = (0x2029, inr (inr (inr (inr (inr (inr (inr (inl (omega arith, omega arith)))))))), rw f)
    by_169 (inr f) = (0x202F, inr (inr (inr (inr (inr (inr (inr (inr (inl (omega arith, omega arith))))))))), rw f)

    by_168 : (t : Bool) → eqb d 168 ≡ t → pick t true (pick (eqb d 169) true (eqb d 175)) ≡ true → Written (226 ∷ 128 ∷ d ∷ [])
    by_168 true p q = (0x2028, inr (inr (inr (inr (inr (inr (inl (omega arith, omega arith))))))), rw (eqb-true d 168 p))
    by_168 false p q = by_169 (or_eqb d 169 175 q)

    by_139 : (t : Bool) → ltb d 139 ≡ t → 128 ≤ d → pick t true (pick (eqb d 168) true (pick (eqb d 169) true (eqb d 175))) ≡ true → Written (226 ∷ 128 ∷ d ∷ [])
    by_139 true p l q = span l (ltb-true d 139 p)
    by_139 false p l q = by_168 (eqb d 168) refl q

    by_low : (t : Bool) → ltb d 128 ≡ t → pick t false (pick (ltb d 139) true (pick (eqb d 168) true (pick (eqb d 169) true (eqb d 175)))) ≡ true → Written (226 ∷ 128 ∷ d ∷ [])
    by_low true p q = absurd (true_not_false (sym q))
    by_low false p q = by_139 (ltb d 139) refl (ltb-false d 128 p) q

-- three bytes: U+1680, E2 80 and a byte, U+205F, U+3000
pub is3 : (b c d : ℕ) → white3 b c d ≡ true → Written (b ∷ c ∷ d ∷ [])
unfolding encode
is3 b c d e = by_225 (eqb b 225) refl e
  where
    by_227 : pick (eqb b 227) (pick (eqb c 128) (eqb d 128) false) false ≡ true → Written (b ∷ c ∷ d ∷ [])
    by_227 q =
        let p = pick_both (eqb b 227) (pick (eqb c 128) (eqb d 128) false) q in
        let r = pick_both (eqb c 128) (eqb d 128) p.1 in
        (0x3000, inr (inr (inr (inr (inr (inr (inr (inr (inr (inr (inl (omega arith, omega arith))))))))))), rw (eqb-true b 227 p.0, eqb-true c 128 r.0, eqb-true d 128 r.1))

    by_128 : (t : Bool) → eqb c 128 ≡ t → b ≡ 226 → pick t (general d) (pick (eqb c 129) (eqb d 159) false) ≡ true → Written (b ∷ c ∷ d ∷ [])
    by_128 true p f q = rw (f, eqb-true c 128 p) (general_byte d q)
    by_128 false p f q =
        let r = pick_both (eqb c 129) (eqb d 159) q in
        (0x205F, inr (inr (inr (inr (inr (inr (inr (inr (inr (inl (omega arith, omega arith)))))))))), rw (f, eqb-true c 129 r.0, eqb-true d 159 r.1))

    by_226 : (t : Bool) → eqb b 226 ≡ t → pick t (pick (eqb c 128) (general d) (pick (eqb c 129) (eqb d 159) false)) (pick (eqb b 227) (pick (eqb c 128) (eqb d 128) false) false) ≡ true →
        Written (b ∷ c ∷ d ∷ [])
    by_226 true p q = by_128 (eqb c 128) refl (eqb-true b 226 p) q
    by_226 false p q = by_227 q

    by_225 : (t : Bool) → eqb b 225 ≡ t → pick t (pick (eqb c 154) (eqb d 128) false)
        (pick (eqb b 226) (pick (eqb c 128) (general d) (pick (eqb c 129) (eqb d 159) false)) (pick (eqb b 227) (pick (eqb c 128) (eqb d 128) false) false)) ≡ true → Written (b ∷ c ∷ d ∷ [])
    by_225 true p q =
        let r = pick_both (eqb c 154) (eqb d 128) q in
        (0x1680, inr (inr (inr (inr (inl (omega arith, omega arith))))), rw (eqb-true b 225 p, eqb-true c 154 r.0, eqb-true d 128 r.1))
    by_225 false p q = by_226 (eqb b 226) refl q

-- A BYTE THAT STARTS A CHARACTER ends no white character
module _ (b : ℕ) (l : Lead b) where
  not_inner : (n : ℕ) → 0x80 ≤ n → n < 0xC0 → eqb b n ≡ false
  not_inner n x y = ne_eqb b n (λ e. ⊎_elim (λ a. omega arith) (λ a. omega arith) l)

  pub lead2 : (x : ℕ) → white2 x b ≡ false
  lead2 x = rw (not_inner 133 (omega arith) (omega arith), not_inner 160 (omega arith) (omega arith)) (pick_never (eqb x 194))

  pub lead3 : (x d : ℕ) → white3 x b d ≡ false
  lead3 x d = rw (not_inner 154 (omega arith) (omega arith), not_inner 128 (omega arith) (omega arith), not_inner 129 (omega arith) (omega arith)) (simp pick_never)

  lead_general : general b ≡ false
  lead_general =
      ⊎_elim (λ a. rw (lt-ltb b 128 a))
      (λ a. rw (le-ltb b 128 (omega arith), le-ltb b 139 (omega arith), not_inner 168 (omega arith) (omega arith), not_inner 169 (omega arith) (omega arith), not_inner 175 (omega arith) (omega arith)))
      l

  pub lead_last : (x y : ℕ) → white3 x y b ≡ false
  lead_last x y = rw (not_inner 128 (omega arith) (omega arith), not_inner 159 (omega arith) (omega arith), lead_general) (simp pick_never)
