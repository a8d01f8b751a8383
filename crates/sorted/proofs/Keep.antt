-- The pass that keeps the first of repeats. Assumes nothing.
use mathlib.Core.Path.{◌≡◌, refl, sym, ◌∙◌, ap, subst}
use mathlib.Core.Logic.{inl, inr}
use mathlib.Core.Bool.{Bool, true, false}
use Prim.Native.Nat.{ℕ, suc, ◌+◌, ◌≤◌, ◌<◌}
use native.Mathlib.Numerals.{add-one}
use native.Mathlib.Omega.{arith}
use mathlib.Core.List.{List, [], ◌∷◌, ◌++◌, append-nil}
use lib.IntN.{ℤ, pos}
use lib.ListN.{length, take, drop, get_or, set, length-set, drop_of_length-le}
use lib.Seq.{take-suc, take-suc-set, drop-cons, append_snoc, take_all, drop-set-lt, set-get_or, get_or-set_other}
use lib.Ieee.{Float, nan}
use Rattle.sorting.specs.Entries.{Entry, zip, Columns}
use Rattle.sorted.specs.Repeats.{near, keep_from, keep}
use Rattle.sorting.proofs.Theory.{same?}
use Rattle.sorting.proofs.Columns.{none, columns_zip, length_zip, zip_at, zip_set}

-- a copy of q at k leaves q as it was
kept_same : (xs : List Entry) (q k : ℕ) → get_or (set xs k (get_or xs q none)) q none ≡ get_or xs q none
kept_same xs q k = elim (same? q k) [
  | inl h ↦ rw h (ap (λ (l : List Entry). get_or l k none) (set-get_or xs k none))
  | inr h ↦ get_or-set_other xs k q (get_or xs q none) none h
]

cons_head : {x y : Entry} {s t : List Entry} → ◌≡◌ {A = List Entry} (x ∷ s) (y ∷ t) → x ≡ y
cons_head e = cc

cons_tail : {x y : Entry} {s t : List Entry} → ◌≡◌ {A = List Entry} (x ∷ s) (y ∷ t) → s ≡ t
cons_tail e = cc

-- the entries xs, which were xs₀, after the first k; q is the last one kept
pub record Kept (xs₀ : List Entry) (q k : ℕ) (xs : List Entry) : Type 0 where
  pub same : length xs ≡ length xs₀
  pub rest : drop k xs ≡ drop k xs₀
  pub done : take k xs ++ keep_from (get_or xs q none) (drop k xs₀) ≡ keep xs₀

starts : (xs : List Entry) → Kept xs 0 0 xs
starts [] = record { same = refl; rest = refl; done = refl }
starts (x ∷ xs) = record { same = refl; rest = refl; done = refl }

module _ {xs₀ : List Entry} {q k : ℕ} {xs : List Entry} (v : Kept xs₀ q k xs) (h : k < length xs) where
  in₀ : k < length xs₀
  in₀ = omega (arith, v.same)

  both : get_or xs k none ∷ drop (suc k) xs ≡ get_or xs₀ k none ∷ drop (suc k) xs₀
  both = sym (drop-cons xs k none h) ∙ v.rest ∙ drop-cons xs₀ k none in₀

  left : drop k xs₀ ≡ get_or xs k none ∷ drop (suc k) xs₀
  left = drop-cons xs₀ k none in₀ ∙ ap (λ (e : Entry). e ∷ drop (suc k) xs₀) (sym (cons_head both))

  turn_repeat : near (get_or xs k none).ratio (get_or xs q none).ratio ≡ true → Kept xs₀ q (suc k) (set xs k (get_or xs q none))
  turn_repeat n = record {
    same = length-set xs k (get_or xs q none) ∙ v.same;
    rest = drop-set-lt (suc k) xs k (get_or xs q none) (omega arith) ∙ cons_tail both;
    done =
        rw (kept_same xs q k, take-suc-set xs k (get_or xs q none) h, append_snoc (take k xs) (get_or xs q none) (keep_from (get_or xs q none) (drop (suc k) xs₀)))
        (ap (λ (l : List Entry). take k xs ++ l) (rw left (simp n)) ∙ v.done);
  }

  turn_new : near (get_or xs k none).ratio (get_or xs q none).ratio ≡ false → Kept xs₀ k (suc k) xs
  turn_new n = record {
    same = v.same;
    rest = cons_tail both;
    done =
        rw (take-suc xs k none h, append_snoc (take k xs) (get_or xs k none) (keep_from (get_or xs k none) (drop (suc k) xs₀)))
        (ap (λ (l : List Entry). take k xs ++ l) (rw left (simp n)) ∙ v.done);
  }

kept_all : {xs₀ : List Entry} {q k : ℕ} {xs : List Entry} → Kept xs₀ q k xs → length xs₀ ≤ k → xs ≡ keep xs₀
kept_all {xs₀} {q} {k} {xs} v h =
    let none_left : drop k xs₀ ≡ [] = drop_of_length-le xs₀ {i = k} h in
    let all : take k xs ≡ xs = take_all k xs (omega (arith, v.same)) in
    rw (none_left, append-nil, all) at v.done

-- ---- the three columns
pub record Passed (ps₀ : List ℕ) (rs₀ : List Float) (ws₀ : List ℤ) (q k : ℕ) (ps : List ℕ) (rs : List Float) (ws : List ℤ) : Type 0 where
  pub last : q ≤ k
  pub places : length ps ≡ length ps₀
  pub ratios : length rs ≡ length ps
  pub wraps : length ws ≡ length ps
  pub kept : Kept (zip ps₀ rs₀ ws₀) q k (zip ps rs ws)

pub pass_starts : (ps : List ℕ) (rs : List Float) (ws : List ℤ) → length rs ≡ length ps → length ws ≡ length ps → Passed ps rs ws 0 0 ps rs ws
pass_starts ps rs ws lr lw = record { last = omega arith; places = refl; ratios = lr; wraps = lw; kept = starts (zip ps rs ws) }

module _ {ps₀ : List ℕ} {rs₀ : List Float} {ws₀ : List ℤ} {q k : ℕ} {ps : List ℕ} {rs : List Float} {ws : List ℤ} (v : Passed ps₀ rs₀ ws₀ q k ps rs ws) where
  module _ (h : k < length ps) where
    in_zip : k < length (zip ps rs ws)
    in_zip = omega (arith, length_zip ps rs ws v.ratios v.wraps)

    at : (i : ℕ) → i < length ps → get_or (zip ps rs ws) i none ≡ record { place = get_or ps i 0; ratio = get_or rs i nan; wraps = get_or ws i (pos 0) }
    at i l = zip_at ps rs ws i v.ratios v.wraps l

    near_is : (t : Bool) → near (get_or rs k nan) (get_or rs q nan) ≡ t → near (get_or (zip ps rs ws) k none).ratio (get_or (zip ps rs ws) q none).ratio ≡ t
    near_is t n = rw (at k h, at q (omega (arith, v.last))) n

    pub pass_repeat : near (get_or rs k nan) (get_or rs q nan) ≡ true → Passed ps₀ rs₀ ws₀ q (k + 1) (set ps k (get_or ps q 0)) (set rs k (get_or rs q nan)) (set ws k (get_or ws q (pos 0)))
    pass_repeat n =
        let e : set (zip ps rs ws) k (get_or (zip ps rs ws) q none) ≡ zip (set ps k (get_or ps q 0)) (set rs k (get_or rs q nan)) (set ws k (get_or ws q (pos 0))) =
        ap (set (zip ps rs ws) k) (at q (omega (arith, v.last))) ∙ zip_set ps rs ws k (get_or ps q 0) (get_or rs q nan) (get_or ws q (pos 0)) v.ratios v.wraps in
        rw (add-one k) (record {
          last = omega (arith, v.last);
          places = length-set ps k (get_or ps q 0) ∙ v.places;
          ratios = length-set rs k (get_or rs q nan) ∙ v.ratios ∙ sym (length-set ps k (get_or ps q 0));
          wraps = length-set ws k (get_or ws q (pos 0)) ∙ v.wraps ∙ sym (length-set ps k (get_or ps q 0));
          kept = subst (Kept (zip ps₀ rs₀ ws₀) q (suc k)) e (turn_repeat v.kept in_zip (near_is true n));
        })

    pub pass_new : near (get_or rs k nan) (get_or rs q nan) ≡ false → Passed ps₀ rs₀ ws₀ k (k + 1) ps rs ws
    pass_new n = rw (add-one k) (record {
      last = omega arith;
      places = v.places;
      ratios = v.ratios;
      wraps = v.wraps;
      kept = turn_new v.kept in_zip (near_is false n);
    })

  pub passed_all : length ps ≤ k → Columns (keep (zip ps₀ rs₀ ws₀)) ps rs ws
  passed_all h =
      let l = length_zip ps rs ws v.ratios v.wraps in
      subst (λ (es : List Entry). Columns es ps rs ws) (kept_all v.kept (omega (arith, l, v.kept.same))) (columns_zip ps rs ws v.ratios v.wraps)
