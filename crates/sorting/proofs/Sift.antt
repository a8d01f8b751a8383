-- A sift over the three columns, whatever the ratio and the wraps of a place are. Assumes nothing.
use mathlib.Core.Path.{◌≡◌, refl, sym, ◌∙◌, ap, subst}
use mathlib.Core.Logic.{◌≢◌}
use mathlib.Core.Bool.{false}
use Prim.Native.Nat.{ℕ, zero, suc, ◌+◌, ◌*◌, ◌≤◌, ◌<◌}
use native.Mathlib.Nat.{le_of_suc-le-suc, not-suc-le-zero}
use native.Mathlib.Omega.{arith}
use mathlib.Core.List.{List, [], ◌∷◌, map}
use lib.Dec.{T}
use lib.IntN.{ℤ, pos}
use lib.ListN.{length, take, drop, get_or, set}
use lib.Seq.{length-take-le}
use lib.Ieee.{Float, nan}
use lib.Ieee.Positive.{positive}
use Rattle.sorting.specs.Order.{sort_by}
use Rattle.sorting.specs.Heap.{less, earlier_at, later_of, top_of, swapped, Heap, Sifted, Sifts}
use Rattle.sorting.proofs.Order.{Strict, strict}
use Rattle.sorting.proofs.Theory.{at, sort_swap, take_swapped, drop_swapped, length_swapped, later_same, later_below, top_below, top_child, top_self, top_kids, Sifting, sift_starts, sift_turn, sift_ends}

module _ {B : Type 0} (f : ℕ → B) where
  pub at_map : (l : List ℕ) (i : ℕ) (d : B) → i < length l → get_or (map f l) i d ≡ f (get_or l i 0)
  at_map [] i d h = absurd (not-suc-le-zero h)
  at_map (x ∷ l) zero d h = refl
  at_map (x ∷ l) (suc i) d h = at_map l i d (le_of_suc-le-suc h)

  map_set : (l : List ℕ) (i x : ℕ) → set (map f l) i (f x) ≡ map f (set l i x)
  map_set [] i x = refl
  map_set (y ∷ l) zero x = refl
  map_set (y ∷ l) (suc i) x = ap (λ (m : List B). f y ∷ m) (map_set l i x)

  pub map_swapped : (d : B) (l : List ℕ) (i j : ℕ) → i < length l → j < length l → swapped d (map f l) i j ≡ map f (swapped 0 l i j)
  map_swapped d l i j h k = rw (at_map l i d h, at_map l j d k, map_set l i (get_or l j 0), map_set (set l i (get_or l j 0)) j (get_or l i 0))

-- the columns' order is that of the places
module _ (f : ℕ → Float) (ps : List ℕ) (rs : List Float) (e : rs ≡ map f ps) where
  earlier_less : (i j : ℕ) → i < length ps → j < length ps → earlier_at ps rs i j ≡ less f (get_or ps i 0) (get_or ps j 0)
  unfolding earlier_at less
  earlier_less i j h k = rw (e, at_map f ps i nan h, at_map f ps j nan k)

  top_same : (o : Strict (less f)) (i k : ℕ) → i < k → k ≤ length ps → top_of (earlier_at ps rs) i k ≡ top_of (at o ps) i k
  top_same o i k h l =
      let one : later_of (earlier_at ps rs) i (2 * i + 1) k ≡ later_of (at o ps) i (2 * i + 1) k =
      later_same (earlier_at ps rs) (at o ps) i (2 * i + 1) k (λ q. earlier_less i (2 * i + 1) (omega arith) (omega arith)) in
      let in-k : later_of (at o ps) i (2 * i + 1) k < k = later_below (at o ps) i (2 * i + 1) k h in
      ap (λ (m : ℕ). later_of (earlier_at ps rs) m (2 * i + 2) k) one
      ∙ later_same (earlier_at ps rs) (at o ps) (later_of (at o ps) i (2 * i + 1) k) (2 * i + 2) k (λ q. earlier_less (later_of (at o ps) i (2 * i + 1) k) (2 * i + 2) (omega arith) (omega arith))

-- where a sift of entry s stands at entry i
pub record Sinking (f : ℕ → Float) (g : ℕ → ℤ) (s k i : ℕ) (ps₀ ps : List ℕ) (rs : List Float) (ws : List ℤ) : Type 0 where
  pub ratios : rs ≡ map f ps
  pub wraps : ws ≡ map g ps
  pub same : length ps ≡ length ps₀
  pub first : sort_by (less f) (take k ps) ≡ sort_by (less f) (take k ps₀)
  pub rest : drop k ps ≡ drop k ps₀
  pub sifting : Sifting (less f) s k i ps

pub record Sinks (s k i : ℕ) (ps₀ : List ℕ) (rs₀ : List Float) (ws₀ : List ℤ) (ps : List ℕ) (rs : List Float) (ws : List ℤ) : Type 0 where
  pub law : (f : ℕ → Float) (g : ℕ → ℤ) → ((p : ℕ) → T (positive (f p))) → rs₀ ≡ map f ps₀ → ws₀ ≡ map g ps₀ → Heap (less f) (suc s) k ps₀ → Sinking f g s k i ps₀ ps rs ws

pub sinks_start : (s k : ℕ) (ps : List ℕ) (rs : List Float) (ws : List ℤ) → Sinks s k s ps rs ws ps rs ws
sinks_start s k ps rs ws = record {
  law = λ f g pf er ew h. record { ratios = er; wraps = ew; same = refl; first = refl; rest = refl; sifting = sift_starts h };
}

module _ {s k i : ℕ} {ps₀ : List ℕ} {rs₀ : List Float} {ws₀ : List ℤ} {ps : List ℕ} {rs : List Float} {ws : List ℤ}
    (v : Sinks s k i ps₀ rs₀ ws₀ ps rs ws) (c : ℕ) (e : c ≡ top_of (earlier_at ps rs) i k) (ik : i < k) (kl : k ≤ length ps) where
  turn : c ≢ i → (f : ℕ → Float) (g : ℕ → ℤ) → ((p : ℕ) → T (positive (f p))) → Sinking f g s k i ps₀ ps rs ws → Sinking f g s k c ps₀ (swapped 0 ps i c) (swapped nan rs i c) (swapped (pos 0) ws i c)
  turn n f g pf w =
      let o = strict f pf in
      let e' : c ≡ top_of (at o ps) i k = e ∙ top_same f ps rs w.ratios o i k ik kl in
      let ck : c < k = rw e (top_below (earlier_at ps rs) i k ik) in
      let kid : (2 * i + 1 ≤ c) × (c ≤ 2 * i + 2) = rw e (top_child (earlier_at ps rs) i k (λ q. n (e ∙ q))) in
      record {
        ratios = rw w.ratios (map_swapped f nan ps i c (omega arith) (omega arith));
        wraps = rw w.wraps (map_swapped g (pos 0) ps i c (omega arith) (omega arith));
        same = length_swapped 0 ps i c ∙ w.same;
        first = ap (sort_by (less f)) (take_swapped ps k i c ik ck) ∙ sort_swap o (take k ps) i c (omega (arith, kid.0)) (omega (arith, length-take-le k ps kl)) ∙ w.first;
        rest = drop_swapped ps k i c ik ck ∙ w.rest;
        sifting = sift_turn w.sifting c kid.0 kid.1 ck kl (rw e' (top_self o ps i k)) (rw e' (top_kids o ps i k));
      }

  pub sinks_turn : c ≢ i → Sinks s k c ps₀ rs₀ ws₀ (swapped 0 ps i c) (swapped nan rs i c) (swapped (pos 0) ws i c)
  sinks_turn n = record { law = λ f g pf er ew h. turn n f g pf (v.law f g pf er ew h) }

  end : c ≡ i → (f : ℕ → Float) (g : ℕ → ℤ) → ((p : ℕ) → T (positive (f p))) → Sinking f g s k i ps₀ ps rs ws → Sifted f g s k ps₀ ps rs ws
  end q f g pf w =
      let o = strict f pf in
      let e' : i ≡ top_of (at o ps) i k = sym q ∙ e ∙ top_same f ps rs w.ratios o i k ik kl in
      record {
        ratios = w.ratios;
        wraps = w.wraps;
        same = w.same;
        first = w.first;
        rest = w.rest;
        heap = sift_ends w.sifting (λ j a d h. subst (λ (m : ℕ). less f (get_or ps m 0) (get_or ps j 0) ≡ false) (sym e') (top_kids o ps i k j a d h));
      }

  pub sinks_end : c ≡ i → Sifts s k ps₀ rs₀ ws₀ ps rs ws
  sinks_end q = record { law = λ f g pf er ew h. end q f g pf (v.law f g pf er ew h) }
