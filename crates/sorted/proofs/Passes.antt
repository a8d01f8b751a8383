-- Going over the columns of a lent list: what is done and what is left decide together. Assumes nothing.
use mathlib.Core.Path.{◌≡◌, refl, sym, ◌∙◌, ap}
use mathlib.Core.Logic.{inl, inr}
use mathlib.Core.Bool.{Bool, true, ◌&&◌, and_assoc, and-true, and-false}
use mathlib.Core.List.{List}
use Prim.Native.Nat.{ℕ, suc, ◌+◌, ◌≤◌, ◌<◌}
use native.Mathlib.Numerals.{add-one}
use native.Mathlib.Omega.{arith}
use lib.Dec.{leb, ltb}
use lib.ListN.{length, get_or, take, drop, drop_of_length-le}
use lib.Seq.{drop-cons, get_or-take, length-take-le}
use lib.Ieee.{Float, nan, le}
use borrow.Author.Tests.{leb-true, ltb-true, ltb-false, le-leb}
use Rattle.base.specs.Said.{pick}
use Rattle.base.proofs.Integers.{bool_cases}
use Rattle.sorted.specs.Lent.{usable, are_within}
use Rattle.sorted.proofs.Climbs.{lowest, highest, climbs, climbs_usable}

-- the next test: `all` is that of what is done
goes : (all t rest : Bool) {whole before : Bool} → whole ≡ (all && before) → before ≡ (t && rest) → whole ≡ ((all && t) && rest)
goes all t rest e f = e ∙ ap (λ (x : Bool). all && x) f ∙ sym (and_assoc all t rest)

-- the higher of two is within the count where both are
higher_within : (a c n : ℕ) → (leb a n && leb c n) ≡ leb (pick (ltb a c) c a) n
higher_within a c n = elim (bool_cases (ltb a c)) [
  | inl h ↦ rw h (elim (bool_cases (leb c n)) [
    | inl k ↦ rw (k, le-leb a n (omega (arith, ltb-true a c h, leb-true c n k)))
    | inr k ↦ rw k (and-false (leb a n))
  ])
  | inr h ↦ rw h (elim (bool_cases (leb a n)) [
    | inl k ↦ rw (k, le-leb c n (omega (arith, ltb-false a c h, leb-true a n k)))
    | inr k ↦ rw k
  ])
]

-- before entry i: whether the ratios go up so far, the last of them, and the highest place
pub record Passed (ps : List ℕ) (rs : List Float) (n count : ℕ) (all : Bool) (last : Float) (high i : ℕ) : Type 0 where
  pub end : i ≤ n
  pub ratios : climbs lowest (take n rs) ≡ (all && climbs last (drop i (take n rs)))
  pub places : are_within count (take n ps) ≡ (leb high count && are_within count (drop i (take n ps)))

pub starts : (ps : List ℕ) (rs : List Float) (n count : ℕ) → Passed ps rs n count true lowest 0 0
starts ps rs n count = record { end = omega arith; ratios = refl; places = rw (le-leb 0 count (omega arith)) }

module _
    {ps : List ℕ} {rs : List Float} {n count : ℕ} {all : Bool} {last : Float} {high i : ℕ}
    (room : (n ≤ length ps) × (n ≤ length rs)) (s : Passed ps rs n count all last high i)
  where
    pub turn : i < n → {next : ℕ} → next ≡ pick (ltb high (get_or ps i 0)) (get_or ps i 0) high → Passed ps rs n count (all && le last (get_or rs i nan)) (get_or rs i nan) next (i + 1)
    unfolding climbs are_within
    turn h {next} e =
        let r = get_or rs i nan in
        let p = get_or ps i 0 in
        let lr : i < length (take n rs) = omega (arith, length-take-le n rs room.1, h) in
        let lp : i < length (take n ps) = omega (arith, length-take-le n ps room.0, h) in
        let up : climbs last (drop i (take n rs)) ≡ (le last r && climbs r (drop (suc i) (take n rs))) = rw (drop-cons (take n rs) i nan lr, get_or-take n rs i nan h) in
        let more : are_within count (drop i (take n ps)) ≡ (leb p count && are_within count (drop (suc i) (take n ps))) = rw (drop-cons (take n ps) i 0 lp, get_or-take n ps i 0 h) in
        record {
          end = omega (arith, h);
          ratios = rw add-one (goes all (le last r) (climbs r (drop (suc i) (take n rs))) s.ratios up);
          places = rw (add-one, e, sym (higher_within high p count)) (goes (leb high count) (leb p count) (are_within count (drop (suc i) (take n ps))) s.places more);
        }

    -- nothing is left: the last ratio and the highest place decide
    pub ends : n ≤ i → {t : Bool} → t ≡ leb high count → ((all && le last highest) && t) ≡ (usable (take n rs) && are_within count (take n ps))
    unfolding climbs are_within
    ends h {t} e =
        let none : climbs last (drop i (take n rs)) ≡ le last highest = rw (drop_of_length-le (take n rs) {i = i} (omega (arith, length-take-le n rs room.1, h))) in
        let no_more : are_within count (drop i (take n ps)) ≡ true = rw (drop_of_length-le (take n ps) {i = i} (omega (arith, length-take-le n ps room.0, h))) in
        let ratios : (all && le last highest) ≡ usable (take n rs) = sym (s.ratios ∙ ap (λ (x : Bool). all && x) none) ∙ climbs_usable (take n rs) in
        let places : leb high count ≡ are_within count (take n ps) = sym (s.places ∙ ap (λ (x : Bool). leb high count && x) no_more ∙ and-true (leb high count)) in
        rw (ratios, e ∙ places)
