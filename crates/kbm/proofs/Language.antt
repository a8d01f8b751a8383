-- What a key has, as document 01 says it, is what `scale_degree_of` answers: each case of `Has`, and no other.
-- Assumes nothing.
use Rattle.std.specs.Prelude.{Some, None, Option}
use mathlib.Core.Path.{◌≡◌, refl, sym, ◌∙◌}
use mathlib.Core.Logic.{◌↔◌, ◌⊎◌, inl, inr}
use mathlib.Core.Bool.{Bool, true, false}
use mathlib.Core.List.{List}
use Prim.Native.Nat.{ℕ, zero, suc}
use native.Mathlib.Omega.{arith}
use lib.IntN.{ℤ, ◌+ℤ◌, ◌*ℤ◌}
use lib.ListN.{length}
use Rattle.base.specs.Integers.{floor_div, floor_mod, in_i32, held}
use Rattle.base.specs.Numbers.{overflow, key_out_of_range}
use Rattle.base.specs.Said.{Said, gives, refuses, pick, and_then}
use Rattle.base.proofs.Division.{floor_divides}
use Rattle.base.proofs.Integers.{bool_cases}
use Rattle.key.specs.declared.PianoKey.{PianoKey}
use Rattle.kbm.specs.Degree.{degree_of_entry, degree_at, degree_of}
use Rattle.kbm.specs.Keys.{in_keys, distance, Reaches, Has, Lacks, Gap, Passes}
use Rattle.kbm.specs.declared.Kbm.{Kbm}
use Rattle.kbm.proofs.Degrees.{degree_none, degree_by}

held_yes : (z : ℤ) → in_i32 z ≡ true → held z ≡ gives z
unfolding held
held_yes z h = rw h

held_no : (z : ℤ) → in_i32 z ≡ false → held z ≡ refuses overflow 0
unfolding held
held_no z h = rw h

module _ (kbm : Kbm) (es : List (Option ℤ)) (key : PianoKey) where
  abbrev d : ℤ
  d = distance kbm key

  -- ---- the answer is one of the cases
  module _ (w : in_keys kbm key ≡ true) (n : in_i32 d ≡ true) where
    has_entry : (q : ℤ) (e : (Option ℤ)) → Reaches es d q e → Has kbm es key (degree_of_entry e q kbm.octave)
    has_entry q None at = Has.none w n q at refl
    has_entry q (Some e) at = go (in_i32 (e +ℤ q *ℤ kbm.octave)) refl
      where
        go : (t : Bool) → in_i32 (e +ℤ q *ℤ kbm.octave) ≡ t → Has kbm es key (held (e +ℤ q *ℤ kbm.octave))
        go true h = rw (held_yes _ h) (Has.degree w n q e at h refl)
        go false h = rw (held_no _ h) (Has.passed w n q e at h refl)

  has_near : (l : ℕ) → length es ≡ l → in_keys kbm key ≡ true → in_i32 d ≡ true → Has kbm es key (degree_at d kbm.octave es)
  has_near zero l w n = rw (degree_none d kbm.octave es l) (Has.plain w n l refl)
  has_near (suc k) l w n =
      let by = floor_divides d (length es) (omega (arith, l)) in
      rw (degree_by kbm.octave es by) (has_entry w n (floor_div d (length es)) _ (record { place = floor_mod d (length es); counted = by; found = refl }))

  pub has : Has kbm es key (degree_of kbm es key)
  has = go (in_keys kbm key) refl
    where
      near : (t : Bool) → in_i32 d ≡ t → in_keys kbm key ≡ true → Has kbm es key (and_then (held d) (λ z. degree_at z kbm.octave es))
      near true n w = rw (held_yes d n) (has_near (length es) refl w n)
      near false n w = rw (held_no d n) (Has.far w n refl)

      go : (t : Bool) → in_keys kbm key ≡ t → Has kbm es key (pick t (and_then (held d) (λ z. degree_at z kbm.octave es)) (refuses key_out_of_range 0))
      go true w = near (in_i32 d) refl w
      go false w = Has.outside w refl

  -- ---- and there is no other answer
  reached : {s : Said ℤ} (q : ℤ) (e : (Option ℤ)) → in_keys kbm key ≡ true → in_i32 d ≡ true → Reaches es d q e → s ≡ degree_of_entry e q kbm.octave → s ≡ degree_of kbm es key
  reached q e w n at p = rw (w, held_yes d n, degree_by kbm.octave es at.counted, at.found) p

  pub has_one : {s : Said ℤ} → Has kbm es key s → s ≡ degree_of kbm es key
  has_one (Has.outside w p) = rw w p
  has_one (Has.far w n p) = rw (w, held_no d n) p
  has_one (Has.plain w n l p) = rw (w, held_yes d n, degree_none d kbm.octave es l) p
  has_one (Has.none w n q at p) = reached q None w n at p
  has_one (Has.passed w n q e at h p) = reached q (Some e) w n at (p ∙ sym (held_no _ h))
  has_one (Has.degree w n q e at h p) = reached q (Some e) w n at (p ∙ sym (held_yes _ h))

-- ---- which refusal, exactly when
-- a refusal has one number, and is no value
same_number : {s : Said ℤ} {m n : ℕ} → s ≡ refuses m 0 → s ≡ refuses n 0 → m ≡ n
same_number p e = cc

not_given : {s : Said ℤ} {z : ℤ} {n : ℕ} → s ≡ gives z → s ≡ refuses n 0 → ⊥
not_given p e = let no : ◌≡◌ {A = ℕ} 0 1 = cc in omega arith

given_lacks : {s : Said ℤ} {z : ℤ} → s ≡ gives z → Lacks s → ⊥
given_lacks p (inl e) = not_given p e
given_lacks p (inr e) = not_given p e

passed_lacks : {s : Said ℤ} → s ≡ refuses overflow 0 → Lacks s → ⊥
passed_lacks p (inl e) = omega (arith, same_number p e)
passed_lacks p (inr e) = omega (arith, same_number p e)

module _ (kbm : Kbm) (es : List (Option ℤ)) (key : PianoKey) where
  lacks_there : {s : Said ℤ} → Has kbm es key s → Lacks s → (in_keys kbm key ≡ false) ⊎ Gap kbm es key
  lacks_there (Has.outside w p) l = inl w
  lacks_there (Has.far w n p) l = absurd (passed_lacks p l)
  lacks_there (Has.plain w n e p) l = absurd (given_lacks p l)
  lacks_there (Has.none w n q at p) l = inr (record { inside = w; near = n; quotient = q; reached = at })
  lacks_there (Has.passed w n q e at h p) l = absurd (passed_lacks p l)
  lacks_there (Has.degree w n q e at h p) l = absurd (given_lacks p l)

  lacks_back : (in_keys kbm key ≡ false) ⊎ Gap kbm es key → Lacks (degree_of kbm es key)
  lacks_back (inl w) = inl (sym (has_one kbm es key (Has.outside w refl)))
  lacks_back (inr g) = inr (sym (has_one kbm es key (Has.none g.inside g.near g.quotient g.reached refl)))

  -- a key lacks a degree exactly when it is outside the range, or the entry reached by counting round is unmapped
  pub lacks : Lacks (degree_of kbm es key) ↔ ((in_keys kbm key ≡ false) ⊎ Gap kbm es key)
  lacks = (lacks_there (has kbm es key), lacks_back)

  module _ (w : in_keys kbm key ≡ true) where
    overflow_there : {s : Said ℤ} → Has kbm es key s → s ≡ refuses overflow 0 → (in_i32 (distance kbm key) ≡ false) ⊎ Passes kbm es key
    overflow_there (Has.outside o p) e = absurd (omega (arith, same_number p e))
    overflow_there (Has.far v n p) e = inl n
    overflow_there (Has.plain v n l p) e = absurd (not_given p e)
    overflow_there (Has.none v n q at p) e = absurd (omega (arith, same_number p e))
    overflow_there (Has.passed v n q m at h p) e = inr (record { quotient = q; entry = m; reached = at; past = h })
    overflow_there (Has.degree v n q m at h p) e = absurd (not_given p e)

    overflow_back : (in_i32 (distance kbm key) ≡ false) ⊎ Passes kbm es key → degree_of kbm es key ≡ refuses overflow 0
    overflow_back (inl n) = sym (has_one kbm es key (Has.far w n refl))
    overflow_back (inr g) = elim (bool_cases (in_i32 (distance kbm key))) [
      | inl n ↦ sym (has_one kbm es key (Has.passed w n g.quotient g.entry g.reached g.past refl))
      | inr n ↦ sym (has_one kbm es key (Has.far w n refl))
    ]

    -- inside the range, 11 exactly when the distance or the degree is outside 32 bits
    pub overflows : (degree_of kbm es key ≡ refuses overflow 0) ↔ ((in_i32 (distance kbm key) ≡ false) ⊎ Passes kbm es key)
    overflows = (overflow_there (has kbm es key), overflow_back)
