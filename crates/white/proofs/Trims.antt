-- THE THEOREM OF TRIMMING, for any set of characters that is measured in both directions: what `trim_by` leaves is the trimmed
-- text, and nothing else is. Assumes nothing.
use mathlib.Core.Path.{◌≡◌, refl, sym, ◌∙◌, ap}
use mathlib.Core.List.{List, [], ◌∷◌, ◌++◌, append_assoc, append-nil, reverse, reverse-append, reverse-reverse}
use Prim.Native.Nat.{ℕ, zero, suc, ◌+◌, ◌-◌, ◌<◌}
use native.Mathlib.Omega.{arith}
use lib.ListN.{length, take, drop, length-append, length-reverse, drop_of_length-le}
use lib.Seq.{drop_at, take_at}
use Rattle.utf8.specs.Characters.{Each, in_bytes}
use Rattle.white.specs.White.{Trimmed}
use Rattle.white.specs.Trim.{run, keep_by, trim_by}
use Rattle.white.proofs.Backwards.{back_keep}
use Rattle.white.proofs.Runs.{run_le, run_none}
use Rattle.white.proofs.Rows.{Measures, starts_not, width_none, run_row, passed}

take_nil : (n : ℕ) → take {A = ℕ} n [] ≡ []
take_nil zero = refl
take_nil (suc n) = refl

-- a row and one more character
written_snoc : (f : ℕ → List ℕ) (ws : List ℕ) (c : ℕ) → in_bytes f ws ++ f c ≡ in_bytes f (ws ++ (c ∷ []))
unfolding in_bytes
written_snoc f [] c = sym (append-nil (f c))
written_snoc f (w ∷ ws) c = append_assoc (f w) (in_bytes f ws) (f c) ∙ ap (λ (l : List ℕ). f w ++ l) (written_snoc f ws c)

each_snoc : (P : ℕ → Type 0) (ws : List ℕ) (c : ℕ) → Each P ws → P c → Each P (ws ++ (c ∷ []))
each_snoc P [] c x y = (y, tt)
each_snoc P (w ∷ ws) c x y = (x.0, each_snoc P ws c x.1 y)

-- a row read backwards is a row of the characters read backwards
reverse_row : (P : ℕ → Type 0) (f g : ℕ → List ℕ) → ((c : ℕ) → reverse (f c) ≡ g c) → (ws : List ℕ) → Each P ws →
    (vs : List ℕ) × Each P vs × (reverse (in_bytes f ws) ≡ in_bytes g vs)
unfolding in_bytes
reverse_row P f g h [] x = ([], tt, refl)
reverse_row P f g h (c ∷ ws) x =
    let r = reverse_row P f g h ws x.1 in (
      r.0 ++ (c ∷ []),
      each_snoc P r.0 c r.1 x.0,
      reverse-append (f c) (in_bytes f ws) ∙ rw (r.2, h c) (written_snoc g r.0 c),
    )

module _ (White : ℕ → Type 0) (bytes : ℕ → List ℕ) (front back : List ℕ → ℕ) (F : Measures White bytes front) (B : Measures White (λ c. reverse (bytes c)) back) where
  -- what `trim_by` leaves is the trimmed text
  pub trims : (s : List ℕ) → Trimmed White bytes s (trim_by front back s)
  trims s =
      let t = drop (run front 0 s) s in
      let k = run back 0 (reverse t) in
      let m = keep_by back t in
      let p = passed White bytes front F s in
      let q = passed White (λ c. reverse (bytes c)) back B (reverse t) in
      let kept = back_keep t k (omega (arith, run_le back 0 (reverse t), length-reverse t)) in
      let r = reverse_row White (λ c. reverse (bytes c)) bytes (λ c. reverse-reverse (bytes c)) q.0 q.1 in
      let split : t ≡ m ++ in_bytes bytes r.0 =
      sym (reverse-reverse t) ∙ ap reverse q.2 ∙ reverse-append (in_bytes (λ c. reverse (bytes c)) q.0) (drop k (reverse t)) ∙
      rw (kept, r.2, reverse-reverse m) in
      record {
        before = p.0;
        after = r.0;
        white_before = p.1;
        white_after = r.1;
        whole = p.2 ∙ ap (λ (l : List ℕ). in_bytes bytes p.0 ++ l) split;
        starts = λ c u w e. starts_not White bytes front F t p.3 c (u ++ in_bytes bytes r.0) w (split ∙ rw e (append_assoc (bytes c) u (in_bytes bytes r.0)));
        ends = λ c u w e. starts_not White (λ c. reverse (bytes c)) back B (reverse m) (ap back (sym kept) ∙ q.3) c (reverse u) w (rw e (reverse-append u (bytes c)));
      }

  -- a text of white characters alone leaves nothing
  all_white : (a z : List ℕ) → Each White a → Each White z → trim_by front back (in_bytes bytes a ++ in_bytes bytes z) ≡ []
  unfolding run
  all_white a z x y =
      let s = in_bytes bytes a ++ in_bytes bytes z in
      let r = run_row White bytes front F a x (in_bytes bytes z) in
      let q : run front 0 (in_bytes bytes z) ≡ length (in_bytes bytes z) + 0 =
      ap (run front 0) (sym (append-nil (in_bytes bytes z))) ∙ run_row White bytes front F z y [] in
      let d : drop (run front 0 s) s ≡ [] = drop_of_length-le s {i = run front 0 s} (omega (arith, r, q, length-append (in_bytes bytes a) (in_bytes bytes z))) in
      ap (keep_by back) d ∙ take_nil (length {A = ℕ} [] - run back 0 (reverse []))

  -- white characters behind m go, where m does not end with one
  keeps : (m z : List ℕ) → Each White z → ((c : ℕ) (t : List ℕ) → White c → m ≡ t ++ bytes c → ⊥) → keep_by back (m ++ in_bytes bytes z) ≡ m
  keeps m z y ends =
      let t = m ++ in_bytes bytes z in
      let r = reverse_row White bytes (λ c. reverse (bytes c)) (λ c. refl) z y in
      let n : back (reverse m) ≡ 0 =
      width_none White (λ c. reverse (bytes c)) back B (reverse m)
      (λ c u w e. ends c (reverse u) w (sym (reverse-reverse m) ∙ ap reverse e ∙ reverse-append (reverse (bytes c)) u ∙ rw (reverse-reverse (bytes c)))) in
      let k : run back 0 (reverse t) ≡ length (in_bytes bytes z) =
      rw (reverse-append m (in_bytes bytes z), r.2)
      (run_row White (λ c. reverse (bytes c)) back B r.0 r.1 (reverse m) ∙ omega (arith, run_none back (reverse m) n, ap length r.2, length-reverse (in_bytes bytes z))) in
      take_at m (in_bytes bytes z) (length t - run back 0 (reverse t)) (omega (arith, k, length-append m (in_bytes bytes z)))

  module _ (joins : (m : List ℕ) (c : ℕ) (u : List ℕ) → 0 < length m → front m ≡ 0 → White c → front (m ++ (bytes c ++ u)) ≡ 0) where
    -- where m starts with no white character, neither does m before a row of them
    joined : (m z : List ℕ) → 0 < length m → front m ≡ 0 → Each White z → front (m ++ in_bytes bytes z) ≡ 0
    unfolding in_bytes
    joined m [] h e y = ap front (append-nil m) ∙ e
    joined m (c ∷ z) h e y = joins m c (in_bytes bytes z) h e y.0

    some_kept : (m a z : List ℕ) → 0 < length m → Each White a → Each White z → ((c : ℕ) (t : List ℕ) → White c → m ≡ bytes c ++ t → ⊥) →
        ((c : ℕ) (t : List ℕ) → White c → m ≡ t ++ bytes c → ⊥) → trim_by front back (in_bytes bytes a ++ (m ++ in_bytes bytes z)) ≡ m
    some_kept m a z h x y starts ends =
        let t = m ++ in_bytes bytes z in
        let n = joined m z h (width_none White bytes front F m starts) y in
        let r = run_row White bytes front F a x t in
        let d : drop (run front 0 (in_bytes bytes a ++ t)) (in_bytes bytes a ++ t) ≡ t =
        drop_at (in_bytes bytes a) t (run front 0 (in_bytes bytes a ++ t)) (omega (arith, r, run_none front t n)) in
        ap (keep_by back) d ∙ keeps m z y ends

    -- and nothing else is
    pub one_trim : (s m : List ℕ) → Trimmed White bytes s m → trim_by front back s ≡ m
    one_trim s [] t = ap (trim_by front back) t.whole ∙ all_white t.before t.after t.white_before t.white_after
    one_trim s (b ∷ m) t = ap (trim_by front back) t.whole ∙ some_kept (b ∷ m) t.before t.after (omega arith) t.white_before t.white_after t.starts t.ends
