-- THE THEOREM OF UTF-8: the machine accepts exactly the rows of encoded scalar values (document 01, "Lines": "Each line, comment
-- or not, must be UTF-8"). Assumes nothing.
use Rattle.std.specs.Prelude.{Some, None, Option}
use mathlib.Core.Path.{◌≡◌, refl, ◌∙◌, ap}
use mathlib.Core.List.{List, [], ◌∷◌, ◌++◌}
use mathlib.Core.Bool.{Bool, true, false}
use mathlib.Core.Logic.{◌↔◌, inl, inr, ⊎_elim}
use Prim.Native.Nat.{ℕ, zero, suc, ◌+◌, ◌-◌, ◌*◌, ◌/◌, ◌%◌, ◌≤◌, ◌<◌}
use native.Mathlib.Omega.{arith}
use lib.Dec.{ltb}
use borrow.Author.Tests.{ltb-true, ltb-false, ne_eqb, eqb-true}
use Rattle.base.specs.Said.{pick}
use Rattle.utf8.specs.Characters.{Scalar, Each, encode, in_bytes, Utf8}
use Rattle.utf8.specs.Utf8Machine.{asking, none_due, LeadRow, lookup, lead_rows, lead_of, utf8_step, onward, utf8_from}
use Rattle.utf8.specs.declared.State.{State}
use Rattle.utf8.proofs.Utf8Steps.{lead_at, step_in, step_lead}
use Rattle.base.proofs.Integers.{split}
use Rattle.utf8.proofs.Encodings.{enc1, enc2, enc3, enc4}

differ : ◌≡◌ {A = ℕ} 0 1 → ⊥
differ e = omega arith

-- one more character
more : (c : ℕ) → Scalar c → {t : List ℕ} → Utf8 t → Utf8 (encode c ++ t)
unfolding in_bytes
more c x u = record { codes = c ∷ u.codes; each = (x, u.each); text = ap (λ (l : List ℕ). encode c ++ l) u.text }

-- bytes in their ranges are a character
abbrev Cont : ℕ → Type 0
Cont b = (0x80 ≤ b) × (b ≤ 0xBF)

make2 : (b c : ℕ) (t : List ℕ) → 0xC2 ≤ b → b < 0xE0 → Cont c → Utf8 t → Utf8 (b ∷ c ∷ t)
make2 b c t l h x u =
    let k = (b - 0xC0) * 64 + (c - 0x80) in
    let e = enc2 k (omega (arith, x.0)) (omega (arith, x.0, x.1)) in
    let p : 0xC0 + k / 64 ≡ b = omega (arith, x.0, x.1) in
    let q : 0x80 + k % 64 ≡ c = omega (arith, x.0, x.1) in
    rw (e, p, q) at (more k (inl (omega (arith, x.0, x.1))) u)

abbrev code3 : ℕ → ℕ → ℕ → ℕ
code3 b c d = (b - 0xE0) * 4096 + (c - 0x80) * 64 + (d - 0x80)

make3 : (b c d : ℕ) (t : List ℕ) → 0xE0 ≤ b → b < 0xF0 → Cont c → Cont d → 0x800 ≤ code3 b c d → Scalar (code3 b c d) → Utf8 t → Utf8 (b ∷ c ∷ d ∷ t)
make3 b c d t l h x y f g u =
    let k = code3 b c d in
    let e = enc3 k f (omega (arith, x.0, x.1, y.0, y.1)) in
    let p : 0xE0 + k / 4096 ≡ b = omega (arith, x.0, x.1, y.0, y.1) in
    let q : 0x80 + k / 64 % 64 ≡ c = omega (arith, x.0, x.1, y.0, y.1) in
    let r : 0x80 + k % 64 ≡ d = omega (arith, x.0, x.1, y.0, y.1) in
    rw (e, p, q, r) at (more k g u)

abbrev code4 : ℕ → ℕ → ℕ → ℕ → ℕ
code4 b c d e = (b - 0xF0) * 262144 + (c - 0x80) * 4096 + (d - 0x80) * 64 + (e - 0x80)

make4 : (b c d e : ℕ) (t : List ℕ) → 0xF0 ≤ b → b < 0xF5 → Cont c → Cont d → Cont e → 0x10000 ≤ code4 b c d e → Scalar (code4 b c d e) → Utf8 t →
    Utf8 (b ∷ c ∷ d ∷ e ∷ t)
make4 b c d e t l h x y z f g u =
    let k = code4 b c d e in
    let n = enc4 k f in
    let p : 0xF0 + k / 262144 ≡ b = omega (arith, x.0, x.1, y.0, y.1, z.0, z.1) in
    let q : 0x80 + k / 4096 % 64 ≡ c = omega (arith, x.0, x.1, y.0, y.1, z.0, z.1) in
    let r : 0x80 + k / 64 % 64 ≡ d = omega (arith, x.0, x.1, y.0, y.1, z.0, z.1) in
    let s : 0x80 + k % 64 ≡ e = omega (arith, x.0, x.1, y.0, y.1, z.0, z.1) in
    rw (n, p, q, r, s) at (more k g u)

-- WHAT IS STILL DUE: n bytes, the first of them from l to h, and then a text
abbrev Rest : ℕ → ℕ → ℕ → List ℕ → Type 0
Rest zero l h s = Utf8 s
Rest (suc n) l h s = (b : ℕ) × (t : List ℕ) × (s ≡ b ∷ t) × (l ≤ b) × (b ≤ h) × Rest n 128 191 t

abbrev Due : (Option State) → List ℕ → Type 0
Due (Some t) s = Rest t.need t.lo t.hi s
Due None s = ⊥

-- A LAW FOR EVERY ROW: what holds of each row's bytes holds of what is looked up
abbrev AllEntries : (ℕ → (Option State) → Type 0) → ℕ → List LeadRow → Type 0
AllEntries P lo [] = (b : ℕ) → lo ≤ b → P b None
AllEntries P lo (r ∷ rs) = ((b : ℕ) → lo ≤ b → b < r.below → P b r.asks) × AllEntries P r.below rs

entries_all : (P : ℕ → (Option State) → Type 0) (lo : ℕ) (rs : List LeadRow) → AllEntries P lo rs → (b : ℕ) → lo ≤ b → P b (lookup rs b)
entries_all P lo [] a b h = a b h
entries_all P lo (r ∷ rs) a b h = go (ltb b r.below) refl (entries_all P r.below rs a.1 b)
  where
    go : (t : Bool) → ltb b r.below ≡ t → (r.below ≤ b → P b (lookup rs b)) → P b (pick t r.asks (lookup rs b))
    go true e k = a.0 b h (ltb-true b r.below e)
    go false e k = k (ltb-false b r.below e)

abbrev Starts : ℕ → (Option State) → Type 0
Starts b r = (s : List ℕ) → Due r s → Utf8 (b ∷ s)

one_byte : (b : ℕ) → b < 0x80 → {s : List ℕ} → Utf8 s → Utf8 (b ∷ s)
one_byte b h u = rw (enc1 b h) at (more b (inl (omega arith)) u)

two_bytes : (b : ℕ) → 0xC2 ≤ b → b < 0xE0 → Starts b (Some (asking 1 128 191))
two_bytes b l h s (c, t, e, x, y, u) = rw e (make2 b c t l h (x, y) u)

module _ (b lo hi : ℕ) (l : 128 ≤ lo) (h : hi ≤ 191) where
  three_bytes : 0xE0 ≤ b → b < 0xF0 →
      ((c d : ℕ) → lo ≤ c → c ≤ hi → Cont d → (0x800 ≤ code3 b c d) × Scalar (code3 b c d)) → Starts b (Some (asking 2 lo hi))
  three_bytes m n f s (c, t, e, x, y, (d, t', e', x', y', u)) =
      let g = f c d x y (x', y') in
      rw (e, e') (make3 b c d t' m n (omega arith) (x', y') g.0 g.1 u)

  four_bytes : 0xF0 ≤ b → b < 0xF5 →
      ((c d e : ℕ) → lo ≤ c → c ≤ hi → Cont d → Cont e → (0x10000 ≤ code4 b c d e) × Scalar (code4 b c d e)) → Starts b (Some (asking 3 lo hi))
  four_bytes m n f s (c, t, e, x, y, (d, t', e', x', y', (d₃, t₃, e₃, x₃, y₃, u))) =
      let g = f c d d₃ x y (x', y') (x₃, y₃) in
      rw (e, e', e₃) (make4 b c d d₃ t₃ m n (omega arith) (x', y') (x₃, y₃) g.0 g.1 u)

none : (b : ℕ) → Starts b None
none b s d = absurd d

-- one entry more
also : {A B : Type 0} → A → B → A × B
also a b = (a, b)

all_entries : AllEntries Starts 0 lead_rows
all_entries =
    also (λ b l h s u. one_byte b h u)
    (also (λ b l h. none b)
    (also (λ b l h. two_bytes b l h)
    (also (λ b l h. three_bytes b 160 191 (omega arith) (omega arith) (omega arith) (omega arith) (λ c d x y z. (omega (arith, z.0, z.1), inl (omega (arith, z.0, z.1)))))
    (also (λ b l h. three_bytes b 128 191 (omega arith) (omega arith) (omega arith) (omega arith) (λ c d x y z. (omega (arith, z.0, z.1), inl (omega (arith, z.0, z.1)))))
    (also (λ b l h. three_bytes b 128 159 (omega arith) (omega arith) (omega arith) (omega arith) (λ c d x y z. (omega (arith, z.0, z.1), inl (omega (arith, z.0, z.1)))))
    (also (λ b l h. three_bytes b 128 191 (omega arith) (omega arith) (omega arith) (omega arith) (λ c d x y z. (omega (arith, z.0, z.1), inr (omega (arith, z.0, z.1)))))
    (also (λ b l h. four_bytes b 144 191 (omega arith) (omega arith) (omega arith) (omega arith)
    (λ c d e x y z w. (omega (arith, z.0, z.1, w.0, w.1), inr (omega (arith, z.0, z.1, w.0, w.1)))))
    (also (λ b l h. four_bytes b 128 191 (omega arith) (omega arith) (omega arith) (omega arith)
    (λ c d e x y z w. (omega (arith, z.0, z.1, w.0, w.1), inr (omega (arith, z.0, z.1, w.0, w.1)))))
    (also (λ b l h. four_bytes b 128 143 (omega arith) (omega arith) (omega arith) (omega arith)
    (λ c d e x y z w. (omega (arith, z.0, z.1, w.0, w.1), inr (omega (arith, z.0, z.1, w.0, w.1)))))
    (λ b l. none b))))))))))

starts : (b : ℕ) → Starts b (lead_of b)
unfolding lead_of
starts b = entries_all Starts 0 lead_rows all_entries b (omega arith)

-- SOUND: what the machine accepts is what is due
nil : Utf8 []
unfolding in_bytes
nil = record { codes = []; each = tt; text = refl }

due : (r : (Option State)) (s : List ℕ) → ((n l h : ℕ) → utf8_from (asking n l h) s ≡ true → Rest n l h s) → onward r (λ t. utf8_from t s) ≡ true → Due r s
due (Some t) s k e = k t.need t.lo t.hi e
due None s k e = let z : ◌≡◌ {A = ℕ} 0 1 = cc in absurd (differ z)

sound : (s : List ℕ) (n l h : ℕ) → utf8_from (asking n l h) s ≡ true → Rest n l h s
unfolding utf8_from utf8_step
sound [] zero l h e = nil
sound [] (suc n) l h e = let x = eqb-true (suc n) 0 e in absurd (omega arith)
sound (b ∷ s) zero l h e = starts b s (due (lead_of b) s (sound s) e)
sound (b ∷ s) (suc n) l h e = by_low (ltb b l) refl (rw (ne_eqb (suc n) 0 (omega arith)) at e) (sound s)
  where
    by_high : (u : Bool) → ltb h b ≡ u → l ≤ b → onward (pick u None (Some (asking (suc n - 1) 128 191))) (λ t. utf8_from t s) ≡ true →
        ((n l h : ℕ) → utf8_from (asking n l h) s ≡ true → Rest n l h s) → Rest (suc n) l h (b ∷ s)
    by_high true p x q k = let z : ◌≡◌ {A = ℕ} 0 1 = cc in absurd (differ z)
    by_high false p x q k =
        let m : suc n - 1 ≡ n = omega arith in
        (b, s, refl, x, ltb-false h b p, k n 128 191 (rw m at q))

    by_low : (u : Bool) → ltb b l ≡ u → onward (pick u None (pick (ltb h b) None (Some (asking (suc n - 1) 128 191)))) (λ t. utf8_from t s) ≡ true →
        ((n l h : ℕ) → utf8_from (asking n l h) s ≡ true → Rest n l h s) → Rest (suc n) l h (b ∷ s)
    by_low true p q k = let z : ◌≡◌ {A = ℕ} 0 1 = cc in absurd (differ z)
    by_low false p q k = by_high (ltb h b) refl (ltb-false b l p) q k

-- COMPLETE: the machine goes over each encoding and comes back to its start
run : (st : State) (b : ℕ) (s : List ℕ) {t : State} → utf8_step st b ≡ Some t → utf8_from st (b ∷ s) ≡ utf8_from t s
unfolding utf8_from
run st b s e = rw e

lead_run : (b : ℕ) (s : List ℕ) {t : State} → lead_of b ≡ Some t → utf8_from none_due (b ∷ s) ≡ utf8_from t s
lead_run b s e = run none_due b s (step_lead none_due b refl ∙ e)

-- the bytes after the first
run1 : (c lo hi : ℕ) (s : List ℕ) → lo ≤ c → c ≤ hi → utf8_from (asking 1 lo hi) (c ∷ s) ≡ utf8_from none_due s
run1 c lo hi s x y = run (asking 1 lo hi) c s (step_in 1 lo hi c (omega arith) x y)

run2 : (c d lo hi : ℕ) (s : List ℕ) → lo ≤ c → c ≤ hi → Cont d → utf8_from (asking 2 lo hi) (c ∷ d ∷ s) ≡ utf8_from none_due s
run2 c d lo hi s x y z = run (asking 2 lo hi) c (d ∷ s) (step_in 2 lo hi c (omega arith) x y) ∙ run1 d 128 191 s z.0 z.1

run3 : (c d e lo hi : ℕ) (s : List ℕ) → lo ≤ c → c ≤ hi → Cont d → Cont e → utf8_from (asking 3 lo hi) (c ∷ d ∷ e ∷ s) ≡ utf8_from none_due s
run3 c d e lo hi s x y z w = run (asking 3 lo hi) c (d ∷ e ∷ s) (step_in 3 lo hi c (omega arith) x y) ∙ run2 d e 128 191 s z.0 z.1 w

abbrev Over : ℕ → List ℕ → Type 0
Over c s = utf8_from none_due (encode c ++ s) ≡ utf8_from none_due s

over1 : (c : ℕ) (s : List ℕ) → c < 0x80 → Over c s
over1 c s h = rw (enc1 c h) (lead_run c s (lead_at 0 c (omega arith) h))

over2 : (c : ℕ) (s : List ℕ) → 0x80 ≤ c → c < 0x800 → Over c s
over2 c s l h = rw (enc2 c l h) (lead_run (0xC0 + c / 64) _ (lead_at 2 (0xC0 + c / 64) (omega arith) (omega arith)) ∙ run1 _ _ _ s (omega arith) (omega arith))

module _ (c : ℕ) (s : List ℕ) where
  -- an encoding of three bytes, by what its first byte asks
  three : (lo hi : ℕ) → 0x800 ≤ c → c < 0x10000 → lead_of (0xE0 + c / 4096) ≡ Some (asking 2 lo hi) → lo ≤ 0x80 + c / 64 % 64 → 0x80 + c / 64 % 64 ≤ hi → Over c s
  three lo hi l h e x y =
      rw (enc3 c l h)
      (lead_run (0xE0 + c / 4096) _ e ∙ run2 (0x80 + c / 64 % 64) (0x80 + c % 64) lo hi s x y (omega arith))

  four : (lo hi : ℕ) → 0x10000 ≤ c → lead_of (0xF0 + c / 262144) ≡ Some (asking 3 lo hi) → lo ≤ 0x80 + c / 4096 % 64 → 0x80 + c / 4096 % 64 ≤ hi → Over c s
  four lo hi l e x y =
      rw (enc4 c l)
      (lead_run (0xF0 + c / 262144) _ e ∙ run3 (0x80 + c / 4096 % 64) (0x80 + c / 64 % 64) (0x80 + c % 64) lo hi s x y (omega arith) (omega arith))

  over3 : 0x800 ≤ c → c < 0x10000 → Scalar c → Over c s
  over3 l h x =
      ⊎_elim (λ a. three 160 191 l h (lead_at 3 (0xE0 + c / 4096) (omega arith) (omega arith)) (omega arith) (omega arith))
      (λ a. ⊎_elim (λ b. three 128 191 l h (lead_at 4 (0xE0 + c / 4096) (omega arith) (omega arith)) (omega arith) (omega arith))
      (λ b. ⊎_elim (λ y. three 128 159 l h (lead_at 5 (0xE0 + c / 4096) (omega arith) (omega arith)) (omega arith) (omega arith))
      (λ y. three 128 191 l h (lead_at 6 (0xE0 + c / 4096) (omega (arith, y.0)) (omega arith)) (omega arith) (omega arith)) x)
      (split c 0xD000))
      (split c 0x1000)

  over4 : 0x10000 ≤ c → c < 0x110000 → Over c s
  over4 l h =
      ⊎_elim (λ a. four 144 191 l (lead_at 7 (0xF0 + c / 262144) (omega arith) (omega arith)) (omega arith) (omega arith))
      (λ a. ⊎_elim (λ b. four 128 191 l (lead_at 8 (0xF0 + c / 262144) (omega arith) (omega arith)) (omega arith) (omega arith))
      (λ b. four 128 143 l (lead_at 9 (0xF0 + c / 262144) (omega arith) (omega arith)) (omega arith) (omega arith))
      (split c 0x100000))
      (split c 0x40000)

  top : Scalar c → c < 0x110000
  top x = ⊎_elim (λ a. omega arith) (λ a. a.1) x

  over : Scalar c → Over c s
  over x =
      ⊎_elim (λ a. over1 c s a)
      (λ a. ⊎_elim (λ b. over2 c s a b) (λ b. ⊎_elim (λ d. over3 b d x) (λ d. over4 d (top x)) (split c 0x10000)) (split c 0x800))
      (split c 0x80)

run_all : (cs : List ℕ) → Each Scalar cs → utf8_from none_due (in_bytes encode cs) ≡ true
unfolding in_bytes utf8_from
run_all [] x = refl
run_all (c ∷ cs) x = over c (in_bytes encode cs) x.0 ∙ run_all cs x.1

-- THE THEOREM
pub accepts : (s : List ℕ) → (utf8_from none_due s ≡ true) ↔ Utf8 s
accepts s = (sound s 0 128 191, λ u. rw u.text (run_all u.codes u.each))
