-- THE THEOREM OF LINES: `lines s` are the lines of s, and no other list is (document 01, "Lines"). Assumes nothing.
use mathlib.Core.Path.{◌≡◌, refl, ◌∙◌, ap}
use mathlib.Core.List.{List, [], ◌∷◌, ◌++◌}
use mathlib.Core.Bool.{Bool, true, false}
use Prim.Native.Nat.{ℕ}
use native.Mathlib.Omega.{arith}
use lib.Dec.{eqb}
use borrow.Author.Tests.{ne_eqb, eqb-true, eqb-false}
use Rattle.base.specs.Said.{pick}
use Rattle.base.proofs.Pick.{pick_both, pick_never}
use Rattle.text.specs.Cut.{lines, is_cr, push}
use Rattle.text.specs.Lines.{NoLF, EndsCR, Lines}

-- the equations of `lines`, so that no proof below unfolds it
lines_nil : lines [] ≡ []
unfolding lines
lines_nil = refl

lines_lf : (s : List ℕ) → lines (10 ∷ s) ≡ [] ∷ lines s
unfolding lines
lines_lf s = refl

lines_crlf : (s : List ℕ) → lines (13 ∷ 10 ∷ s) ≡ [] ∷ lines s
unfolding lines
lines_crlf s = refl

lines_push : (b : ℕ) (s : List ℕ) → (b ≡ 10 → ⊥) → is_cr b s ≡ false → lines (b ∷ s) ≡ push b (lines s)
unfolding lines
lines_push b s n e = rw (ne_eqb b 10 n, e)

calm : (b c : ℕ) (s : List ℕ) → (c ≡ 10 → ⊥) → is_cr b (c ∷ s) ≡ false
calm b c s n = rw (ne_eqb c 10 n) (pick_never (eqb b 13))

-- a line and its end, before s
lf_lines : (l s : List ℕ) → NoLF l → (EndsCR l → ⊥) → lines (l ++ 10 ∷ s) ≡ l ∷ lines s
lf_lines [] s n e = lines_lf s
lf_lines (b ∷ []) s n e = lines_push b (10 ∷ s) n.0 (rw (ne_eqb b 13 e)) ∙ ap (push b) (lines_lf s)
lf_lines (b ∷ c ∷ l) s n e = lines_push b (c ∷ (l ++ 10 ∷ s)) n.0 (calm b c (l ++ 10 ∷ s) n.1.0) ∙ ap (push b) (lf_lines (c ∷ l) s n.1 e)

crlf_lines : (l s : List ℕ) → NoLF l → lines (l ++ 13 ∷ 10 ∷ s) ≡ l ∷ lines s
crlf_lines [] s n = lines_crlf s
crlf_lines (b ∷ []) s n = lines_push b (13 ∷ 10 ∷ s) n.0 (pick_never (eqb b 13)) ∙ ap (push b) (lines_crlf s)
crlf_lines (b ∷ c ∷ l) s n = lines_push b (c ∷ (l ++ 13 ∷ 10 ∷ s)) n.0 (calm b c (l ++ 13 ∷ 10 ∷ s) n.1.0) ∙ ap (push b) (crlf_lines (c ∷ l) s n.1)

last_lines : (b : ℕ) (l : List ℕ) → NoLF (b ∷ l) → lines (b ∷ l) ≡ (b ∷ l) ∷ []
last_lines b [] n = lines_push b [] n.0 (pick_never (eqb b 13)) ∙ ap (push b) lines_nil
last_lines b (c ∷ l) n = lines_push b (c ∷ l) n.0 (calm b c l n.1.0) ∙ ap (push b) (last_lines c l n.1)

-- any list that is the lines of s is `lines s`
pub one_lines : {s : List ℕ} {ls : List (List ℕ)} → Lines s ls → lines s ≡ ls
one_lines Lines.none = lines_nil
one_lines (Lines.last {b = b} {l = l} n) = last_lines b l n
one_lines (Lines.lf l {s = t} n e r) = lf_lines l t n e ∙ ap (λ (x : List (List ℕ)). l ∷ x) (one_lines r)
one_lines (Lines.crlf l {s = t} n r) = crlf_lines l t n ∙ ap (λ (x : List (List ℕ)). l ∷ x) (one_lines r)

-- a byte in front of a text's first line
push_lines : (b : ℕ) {s : List ℕ} {ls : List (List ℕ)} → (b ≡ 10 → ⊥) → is_cr b s ≡ false → Lines s ls → Lines (b ∷ s) (push b ls)
push_lines b n e Lines.none = Lines.last (n, tt)
push_lines b n e (Lines.last m) = Lines.last (n, m)
push_lines b n e (Lines.lf [] m f r) = Lines.lf (b ∷ []) (n, tt) (λ g. let y : pick (eqb b 13) true false ≡ true = rw g in let z : ◌≡◌ {A = ℕ} 0 1 = cc in omega arith) r
push_lines b n e (Lines.lf (c ∷ l) m f r) = Lines.lf (b ∷ c ∷ l) (n, m) f r
push_lines b n e (Lines.crlf l m r) = Lines.crlf (b ∷ l) (n, m) r

-- `lines s` are the lines of s
pub the_lines : (s : List ℕ) → Lines s (lines s)
the_lines [] = rw lines_nil Lines.none
the_lines (b ∷ []) = by_lf (eqb b 10) refl
  where
    by_lf : (t : Bool) → eqb b 10 ≡ t → Lines (b ∷ []) (lines (b ∷ []))
    by_lf true p = rw (eqb-true b 10 p, lines_lf [], lines_nil) (Lines.lf [] tt (λ x. x) Lines.none)
    by_lf false p = rw (lines_push b [] (eqb-false b 10 p) (pick_never (eqb b 13)), lines_nil) (Lines.last (eqb-false b 10 p, tt))
the_lines (b ∷ c ∷ s) = by_lf (eqb b 10) refl (is_cr b (c ∷ s)) refl (the_lines (c ∷ s)) (the_lines s)
  where
    by_lf : (t : Bool) → eqb b 10 ≡ t → (u : Bool) → is_cr b (c ∷ s) ≡ u → Lines (c ∷ s) (lines (c ∷ s)) → Lines s (lines s) → Lines (b ∷ c ∷ s) (lines (b ∷ c ∷ s))
    by_lf true p u q r r' = rw (eqb-true b 10 p, lines_lf (c ∷ s)) (Lines.lf [] tt (λ x. x) r)
    by_lf false p true q r r' =
        let h = pick_both (eqb b 13) (eqb c 10) q in
        rw (eqb-true b 13 h.0, eqb-true c 10 h.1, lines_crlf s) (Lines.crlf [] tt r')
    by_lf false p false q r r' = rw (lines_push b (c ∷ s) (eqb-false b 10 p) q) (push_lines b (eqb-false b 10 p) q r)
