-- The laws of `cut` along a text, as the code meets it, and of the lines that it cuts. Assumes nothing.
use mathlib.Core.Path.{◌≡◌, refl, sym, ◌∙◌, ap}
use mathlib.Core.List.{List, [], ◌∷◌}
use mathlib.Core.Bool.{Bool, true, false}
use Prim.Native.Nat.{ℕ, suc, ◌+◌, ◌-◌, ◌≤◌, ◌<◌}
use native.Mathlib.Numerals.{add-one}
use native.Mathlib.Nat.{add-zero, add-sub_cancel_left}
use native.Mathlib.Omega.{arith}
use lib.ListN.{length, get_or, take, drop, drop_of_length-le, length-drop}
use lib.Seq.{drop-cons, drop-drop}
use lib.Dec.{eqb}
use borrow.Author.Tests.{eq-eqb, ne_eqb}
use Rattle.base.specs.Said.{pick}
use Rattle.base.proofs.Pick.{pick_both, pick_never}
use Rattle.text.specs.Cut.{lines, cut, is_cr, push, len, skip, NextLine}
use Rattle.utf8.specs.Eights.{Passed}
use Rattle.text.specs.declared.lines.Ends.{Ends}
use Rattle.utf8.proofs.Passes.{pass_over}

-- `drop-cons` at the code's `i + 1`
pub drop_next : (s : List ℕ) (i : ℕ) → i < length s → drop i s ≡ get_or s i 0 ∷ drop (i + 1) s
drop_next s i h = rw (add-one i) (drop-cons s i 0 h)

module _ (s : List ℕ) (i : ℕ) (h : i < length s) where
  pub cut_lf : get_or s i 0 ≡ 10 → record { end = i; next = i + 1 } ≡ cut i (drop i s)
  unfolding cut
  cut_lf e = rw (drop_next s i h, eq-eqb _ 10 e)

  pub cut_crlf : get_or s i 0 ≡ 13 → i + 1 < length s → get_or s (i + 1) 0 ≡ 10 → record { end = i; next = i + 2 } ≡ cut i (drop i s)
  unfolding cut
  cut_crlf e g f = rw (drop_next s i h, e, drop_next s (i + 1) g, eq-eqb _ 10 f)

  pub cut_on : (get_or s i 0 ≡ 10 → ⊥) → is_cr (get_or s i 0) (drop (i + 1) s) ≡ false → cut i (drop i s) ≡ cut (i + 1) (drop (i + 1) s)
  unfolding cut
  cut_on n e = rw (drop_next s i h, ne_eqb _ 10 n, e)

  pub no_cr : (get_or s i 0 ≡ 13 → ⊥) → is_cr (get_or s i 0) (drop (i + 1) s) ≡ false
  no_cr n = rw (ne_eqb _ 13 n)

  pub cr_last : get_or s i 0 ≡ 13 → length s ≤ i + 1 → is_cr (get_or s i 0) (drop (i + 1) s) ≡ false
  cr_last e g = rw (e, drop_of_length-le s g)

  pub cr_alone : get_or s i 0 ≡ 13 → i + 1 < length s → (get_or s (i + 1) 0 ≡ 10 → ⊥) → is_cr (get_or s i 0) (drop (i + 1) s) ≡ false
  cr_alone e g n = rw (e, drop_next s (i + 1) g, ne_eqb _ 10 n)

-- bytes after CR end no line
pub cut_pass : {s : List ℕ} {high at r : ℕ} → Passed 14 high s at r → cut at (drop at s) ≡ cut r (drop r s)
cut_pass {s} p =
    pass_over (λ (k : ℕ). cut k (drop k s)) p
    (λ k h l u. cut_on s k h (λ e. omega arith) (no_cr s k h (λ e. omega arith)))

pub cut_end : (s : List ℕ) (i : ℕ) → length s ≤ i → record { end = i; next = i } ≡ cut i (drop i s)
unfolding cut
cut_end s i h = rw (drop_of_length-le s h)

-- `cut` by lengths
pub cut_len : (i : ℕ) (s : List ℕ) → cut i s ≡ record { end = i + len s; next = i + skip s }
unfolding cut len skip
cut_len i [] = λ k. record { end = sym (add-zero i) k; next = sym (add-zero i) k }
cut_len i (b ∷ s) = by_lf (eqb b 10) (is_cr b s) (cut_len (i + 1) s)
  where
    made : (e n e' n' : ℕ) → e ≡ e' → n ≡ n' → ◌≡◌ {A = Ends} (record { end = e; next = n }) (record { end = e'; next = n' })
    made e n e' n' p q = λ k. record { end = p k; next = q k }

    by_lf : (t u : Bool) → cut (i + 1) s ≡ record { end = i + 1 + len s; next = i + 1 + skip s } →
        pick t (record { end = i; next = i + 1 }) (pick u (record { end = i; next = i + 2 }) (cut (i + 1) s))
        ≡ record { end = i + pick t 0 (pick u 0 (suc (len s))); next = i + pick t 1 (pick u 2 (suc (skip s))) }
    by_lf true u ih = made i (i + 1) (i + 0) (i + 1) (omega arith) refl
    by_lf false true ih = made i (i + 2) (i + 0) (i + 2) (omega arith) refl
    by_lf false false ih = ih ∙ made (i + 1 + len s) (i + 1 + skip s) (i + suc (len s)) (i + suc (skip s)) (omega arith) (omega arith)

-- the lines are the first one and those behind it
pub lines_first : (b : ℕ) (s : List ℕ) → lines (b ∷ s) ≡ take (len (b ∷ s)) (b ∷ s) ∷ lines (drop (skip (b ∷ s)) (b ∷ s))
unfolding lines len skip
lines_first b [] = go (eqb b 10) refl
  where
    go : (t : Bool) → eqb b 10 ≡ t → lines (b ∷ []) ≡ take (len (b ∷ [])) (b ∷ []) ∷ lines (drop (skip (b ∷ [])) (b ∷ []))
    go true p = rw p
    go false p = rw (p, pick_never (eqb b 13))
lines_first b (c ∷ s) = go (eqb b 10) refl (is_cr b (c ∷ s)) refl (lines_first c s)
  where
    go : (t : Bool) → eqb b 10 ≡ t → (u : Bool) → is_cr b (c ∷ s) ≡ u → lines (c ∷ s) ≡ take (len (c ∷ s)) (c ∷ s) ∷ lines (drop (skip (c ∷ s)) (c ∷ s)) →
        lines (b ∷ c ∷ s) ≡ take (len (b ∷ c ∷ s)) (b ∷ c ∷ s) ∷ lines (drop (skip (b ∷ c ∷ s)) (b ∷ c ∷ s))
    go true p u q ih = rw p
    go false p true q ih = rw (p, q, (pick_both (eqb b 13) (eqb c 10) q).1)
    go false p false q ih = rw (p, q) (ap (push b) ih)

pub len_skip : (s : List ℕ) → (len s ≤ skip s) × (skip s ≤ length s)
unfolding len skip
len_skip [] = omega arith
len_skip (b ∷ []) = go (eqb b 10)
  where
    go : (t : Bool) → (pick t 0 (pick (pick (eqb b 13) false false) 0 1) ≤ pick t 1 (pick (pick (eqb b 13) false false) 2 1)) × (pick t 1 (pick (pick (eqb b 13) false false) 2 1) ≤ 1)
    go true = omega arith
    go false = rw (pick_never (eqb b 13)) (omega arith)
len_skip (b ∷ c ∷ s) = go (eqb b 10) (is_cr b (c ∷ s)) (len_skip (c ∷ s))
  where
    go : (t u : Bool) → (len (c ∷ s) ≤ skip (c ∷ s)) × (skip (c ∷ s) ≤ length (c ∷ s)) →
        (pick t 0 (pick u 0 (suc (len (c ∷ s)))) ≤ pick t 1 (pick u 2 (suc (skip (c ∷ s))))) × (pick t 1 (pick u 2 (suc (skip (c ∷ s)))) ≤ suc (suc (length s)))
    go true u h = omega arith
    go false true h = omega arith
    go false false h = (omega (arith, h.0), omega (arith, h.1))

pub skip_pos : (b : ℕ) (s : List ℕ) → 0 < skip (b ∷ s)
unfolding skip
skip_pos b s = go (eqb b 10) (is_cr b s)
  where
    go : (t u : Bool) → 0 < pick t 1 (pick u 2 (suc (skip s)))
    go true u = omega arith
    go false true = omega arith
    go false false = omega arith

lines_some : (s : List ℕ) → 0 < length s → (lines s ≡ take (len s) s ∷ lines (drop (skip s) s)) × (0 < skip s)
lines_some [] h = absurd (omega arith)
lines_some (b ∷ s) h = (lines_first b s, skip_pos b s)

-- THE LAW OF A READER'S TURN
pub turn : (s : List ℕ) (at : ℕ) → at < length s → {l : Ends} → l ≡ cut at (drop at s) → NextLine s at l
turn s at h {l} e =
    let d = drop at s in
    let n : length d ≡ length s - at = length-drop at s in
    let some = lines_some d (omega arith) in
    let b = len_skip d in
    rw (e ∙ cut_len at d)
    (record {
      first = rw (add-sub_cancel_left at (len d), ← drop-drop (skip d) at s) some.0;
      starts = omega arith;
      ends = omega arith;
      moves = omega arith;
      stays = omega arith;
    })
