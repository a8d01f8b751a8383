-- The entries of a scale's items, reduced one after the other into the columns. Assumes nothing.
use mathlib.Core.Path.{◌≡◌, refl, sym, ◌∙◌, ap, subst}
use mathlib.Core.Bool.{true}
use mathlib.Core.List.{List, [], ◌∷◌, ◌++◌, append-nil}
use Prim.Native.Nat.{ℕ, suc, ◌+◌, ◌≤◌, ◌<◌}
use native.Mathlib.Nat.{not-suc-le-zero, eq-or-lt_of_le}
use native.Mathlib.Numerals.{add-one}
use native.Mathlib.Omega.{arith}
use mathlib.Core.Logic.{inl, inr}
use lib.IntN.{ℤ}
use lib.ListN.{length, get_or, set, take, drop, length-set, drop_of_length-le}
use lib.Seq.{drop-cons, take-suc-set, take_all, length-take-le, append_snoc, get_or-set_same, get_or-set_other}
use lib.Ieee.{Float, nan}
use Rattle.base.specs.Said.{Said, gives, refuses, and_then}
use Rattle.floats.specs.Ranges.{in_reach}
use Rattle.sorting.specs.Entries.{Entry, zip}
use Rattle.sorted.specs.Lent.{AllInReach, from}
use Rattle.sorted.proofs.Numbering.{length_from, from_snoc}
use Rattle.scl.specs.Table.{no_item}
use Rattle.scl_tables.specs.Build.{entry, reduced_entry, entries_from}
use Rattle.scl.specs.declared.Item.{Item}

-- ---- what is said of a list, one element after the other
and_then_same : {A B : Type 0} (s : Said A) (f g : A → Said B) → ((a : A) → f a ≡ g a) → and_then s f ≡ and_then s g
and_then_same (gives a) f g h = h a
and_then_same (refuses n d) f g h = refl

and_then_after : {A B C : Type 0} (s : Said A) (f : A → B) (g : B → Said C) → and_then (and_then s (λ a. gives (f a))) g ≡ and_then s (λ a. g (f a))
and_then_after (gives a) f g = refl
and_then_after (refuses n d) f g = refl

-- the entries so far go in front of those that are left
abbrev Ahead : List Entry → Said (List Entry) → Said (List Entry)
Ahead done s = and_then s (λ es. gives (done ++ es))

ahead_one : (done : List Entry) (e : Entry) (s : Said (List Entry)) → Ahead done (and_then s (λ es. gives (e ∷ es))) ≡ Ahead (done ++ (e ∷ [])) s
ahead_one done e s =
    and_then_after s (λ (es : List Entry). e ∷ es) (λ es. gives (done ++ es))
    ∙ and_then_same s (λ es. gives (done ++ (e ∷ es))) (λ es. gives ((done ++ (e ∷ [])) ++ es)) (λ es. ap gives (sym (append_snoc done e es)))

one_more : (period : Float) (i : ℕ) (items : List Item) (e : Entry) → i < length items → gives e ≡ reduced_entry period i (get_or items i no_item)
    → entries_from period i (drop i items) ≡ and_then (entries_from period (suc i) (drop (suc i) items)) (λ es. gives (e ∷ es))
one_more period i items e l h = rw (drop-cons items i no_item l, ← h)

-- ---- the columns
zip_snoc : (ps : List ℕ) (rs : List Float) (ws : List ℤ) (p : ℕ) (r : Float) (w : ℤ) → length rs ≡ length ps → length ws ≡ length ps
    → zip (ps ++ (p ∷ [])) (rs ++ (r ∷ [])) (ws ++ (w ∷ [])) ≡ zip ps rs ws ++ (entry p r w ∷ [])
zip_snoc [] [] [] p r w a b = refl
zip_snoc [] [] (w' ∷ ws) p r w a b = absurd (omega arith)
zip_snoc [] (r' ∷ rs) ws p r w a b = absurd (omega arith)
zip_snoc (p' ∷ ps) [] ws p r w a b = absurd (omega arith)
zip_snoc (p' ∷ ps) (r' ∷ rs) [] p r w a b = absurd (omega arith)
zip_snoc (p' ∷ ps) (r' ∷ rs) (w' ∷ ws) p r w a b = ap (λ (es : List Entry). entry p' r' w' ∷ es) (zip_snoc ps rs ws p r w (omega arith) (omega arith))

-- the first i places hold the entries of the first i items
pub record Filled (period : Float) (items : List Item) (i : ℕ) (rs : List Float) (ws : List ℤ) : Type 0 where
  pub end : i ≤ length items
  pub ratios : length rs ≡ length items
  pub wraps : length ws ≡ length items
  pub done : entries_from period 0 items ≡ Ahead (zip (from 0 i) (take i rs) (take i ws)) (entries_from period i (drop i items))
  pub reach : (j : ℕ) → j < i → in_reach (get_or rs j nan) ≡ true

whole : (s : Said (List Entry)) → s ≡ Ahead [] s
whole (gives es) = refl
whole (refuses n d) = refl

pub fill_starts : (period : Float) (items : List Item) (rs : List Float) (ws : List ℤ) → length rs ≡ length items → length ws ≡ length items → Filled period items 0 rs ws
fill_starts period items rs ws a b = record { end = omega arith; ratios = a; wraps = b; done = whole (entries_from period 0 items); reach = λ j l. absurd (not-suc-le-zero l) }

module _ {period : Float} {items : List Item} {i : ℕ} {rs : List Float} {ws : List ℤ} (v : Filled period items i rs ws) where
  module _ (r : Float) (w : ℤ) (l : i < length items) (h : gives (entry i r w) ≡ reduced_entry period i (get_or items i no_item)) (q : in_reach r ≡ true) where
    in_rs : i < length rs
    in_rs = omega (arith, v.ratios)

    in_ws : i < length ws
    in_ws = omega (arith, v.wraps)

    longer : zip (from 0 (suc i)) (take (suc i) (set rs i r)) (take (suc i) (set ws i w)) ≡ zip (from 0 i) (take i rs) (take i ws) ++ (entry i r w ∷ [])
    longer =
        let z : 0 + i ≡ i = omega arith in
        rw (from_snoc 0 i, z, take-suc-set rs i r in_rs, take-suc-set ws i w in_ws)
        (zip_snoc (from 0 i) (take i rs) (take i ws) i r w (length-take-le i rs (omega (arith, in_rs)) ∙ sym (length_from 0 i)) (length-take-le i ws (omega (arith, in_ws)) ∙ sym (length_from 0 i)))

    reached : (j : ℕ) → j < i + 1 → in_reach (get_or (set rs i r) j nan) ≡ true
    reached j b = elim (eq-or-lt_of_le {n = j} {m = i} (omega arith)) [
      | inl e ↦ rw (e, get_or-set_same rs i r nan in_rs) q
      | inr k ↦ rw (get_or-set_other rs i j r nan (λ e. omega arith)) (v.reach j k)
    ]

    pub fill_turn : Filled period items (i + 1) (set rs i r) (set ws i w)
    fill_turn = record {
      end = omega (arith, l);
      ratios = length-set rs i r ∙ v.ratios;
      wraps = length-set ws i w ∙ v.wraps;
      done =
          rw (add-one i)
          (v.done ∙ ap (Ahead (zip (from 0 i) (take i rs) (take i ws))) (one_more period i items (entry i r w) l h)
          ∙ ahead_one (zip (from 0 i) (take i rs) (take i ws)) (entry i r w) (entries_from period (suc i) (drop (suc i) items))
          ∙ ap (λ (es : List Entry). Ahead es (entries_from period (suc i) (drop (suc i) items))) (sym longer));
      reach = reached;
    }

  pub fill_ends : length items ≤ i → (gives (zip (from 0 (length rs)) rs ws) ≡ entries_from period 0 items) × AllInReach rs
  fill_ends l =
      let e : i ≡ length rs = omega (arith, v.end, v.ratios) in
      let a : take i rs ≡ rs = take_all i rs (omega arith) in
      let b : take i ws ≡ ws = take_all i ws (omega (arith, v.wraps, v.ratios)) in
      let d : drop i items ≡ [] = drop_of_length-le items {i = i} l in
      let c = rw (a, b, d, append-nil) at v.done in
      (subst (λ (n : ℕ). gives (zip (from 0 n) rs ws) ≡ entries_from period 0 items) e (sym c), λ j k. v.reach j (omega arith))
