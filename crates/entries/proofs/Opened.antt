-- The definitions of a pass, opened as the code comes to them. Assumes nothing.
use mathlib.Core.Path.{◌≡◌, refl, sym, ◌∙◌, ap, subst}
use mathlib.Core.Bool.{Bool, true, false, ◌&&◌}
use Prim.Native.Nat.{ℕ, ◌-◌, ◌<◌}
use lib.Dec.{ltb, leb}
use lib.IntN.{pos}
use lib.Ieee.{Float}
use borrow.Author.Tests.{eq-eqb, ne_eqb}
use Rattle.base.specs.Numbers.{unusable, beyond_reach}
use Rattle.base.specs.Said.{Said, gives, refuses, pick, and_then}
use Rattle.floats.specs.Ranges.{in_search}
use Rattle.sorted.specs.Lent.{may_follow}
use Rattle.scl.specs.Table.{ItemTable, items_in, is_items}
use Rattle.relative.specs.Scales.{tested}
use Rattle.searching.specs.Search.{chosen_of, index_of, found_at}
use Rattle.searching.specs.declared.Choice.{Choice}
use Rattle.searching.specs.declared.Found.{Found}
use Rattle.searching.specs.Degrees.{declared_of, ascending_of}
use Rattle.entries.specs.Entries.{as_entry}
use Rattle.entries.specs.declared.SortedEntry.{SortedEntry}
use Rattle.entries.specs.Columns.{degree_by}
use Rattle.entries.specs.Scans.{Aims, begun_of, Starts, goes_up, scan_step, chosen_by, nearest_by, found_by, answer_of}
use Rattle.entries.specs.declared.search.Aim.{Aim}
use Rattle.entries.specs.declared.search.Scan.{Scan}

-- ---- the start
pub starts : {count : ℕ} {t : ItemTable} {places : ℕ} {x : Float} {r : Scan} (u : Bool) (a : Aim) → r ≡ begun_of count u a → u ≡ ((is_items count t && in_search x) && ltb count places)
    → (count ≡ 0 → a.target ≡ x) → (u ≡ true → 0 < count → Aims (items_in count t) x a) → Starts count t places x r
starts {count} {t} {places} {x} u a e h w k = subst (Starts count t places x) (sym e) (record { begins = refl; usable_is = h; whole = λ _. w; aims = k })

-- ---- a step, by its two tests
module _ (s : Scan) (e : SortedEntry) (i : ℕ) where
  abbrev pub step_by : Bool → Bool → Scan
  step_by n b = record { usable = s.usable && n; count = s.count; aim = s.aim; last = e.ratio; at = pick b i s.at; lower = pick b s.upper s.lower; upper = pick b e s.upper }

  pub step_is : {n : Bool} (b : Bool) → n ≡ (may_follow s.last e.ratio && leb e.place s.count) → goes_up s.upper.ratio s.aim.target i ≡ b → step_by n b ≡ scan_step s e i
  step_is b h g = ap (λ (m : Bool). step_by m b) h ∙ ap (step_by (may_follow s.last e.ratio && leb e.place s.count)) (sym g)

module _ (s : Scan) where
  -- ---- of the neighbours
  abbrev at_choice : Bool → Choice → Said Found
  at_choice b c = gives (found_at (as_entry (pick b s.upper s.lower)) (index_of s.at b) s.aim.periods c.deviation)

  module _ (c : Choice) (h : gives c ≡ chosen_of s.lower.ratio s.upper.ratio s.aim.target) where
    pub near_upper : c.upper ≡ true → gives (found_at (as_entry s.upper) s.at s.aim.periods c.deviation) ≡ nearest_by s
    unfolding nearest_by
    near_upper u = ap (λ (b : Bool). at_choice b c) (sym u) ∙ ap (λ (t : Said Choice). and_then t (chosen_by s)) h

    pub near_lower : c.upper ≡ false → gives (found_at (as_entry s.lower) (s.at - 1) s.aim.periods c.deviation) ≡ nearest_by s
    unfolding nearest_by
    near_lower u = ap (λ (b : Bool). at_choice b c) (sym u) ∙ ap (λ (t : Said Choice). and_then t (chosen_by s)) h

  pub near_refused : (n d : ℕ) → refuses n d ≡ chosen_of s.lower.ratio s.upper.ratio s.aim.target → refuses n d ≡ nearest_by s
  unfolding nearest_by
  near_refused n d h = ap (λ (t : Said Choice). and_then t (chosen_by s)) h

  -- ---- of the list
  abbrev first : Said Found
  first = gives (found_at (as_entry s.upper) 0 (pos 0) s.aim.target)

  abbrev by_tests : Bool → Bool → Said Found
  by_tests a b = pick a first (pick b (refuses beyond_reach 0) (nearest_by s))

  pub found_none : s.count ≡ 0 → first ≡ found_by s
  unfolding found_by
  found_none e = ap (λ (a : Bool). by_tests a s.aim.beyond) (sym (eq-eqb s.count 0 e))

  module _ (n : s.count ≡ 0 → ⊥) where
    pub found_beyond : s.aim.beyond ≡ true → refuses beyond_reach 0 ≡ found_by s
    unfolding found_by
    found_beyond b = ap (by_tests false) (sym b) ∙ ap (λ (a : Bool). by_tests a s.aim.beyond) (sym (ne_eqb s.count 0 n))

    pub found_near : s.aim.beyond ≡ false → nearest_by s ≡ found_by s
    unfolding found_by
    found_near b = ap (by_tests false) (sym b) ∙ ap (λ (a : Bool). by_tests a s.aim.beyond) (sym (ne_eqb s.count 0 n))

  -- ---- of the call
  module _ (sorted : Bool) where
    pub answer_unusable : s.usable ≡ false → refuses unusable 0 ≡ answer_of s sorted
    unfolding answer_of
    answer_unusable u = ap (λ (a : Bool). tested a (and_then (found_by s) (degree_by sorted s.count))) (sym u)

    pub answer_usable : s.usable ≡ true → and_then (found_by s) (degree_by sorted s.count) ≡ answer_of s sorted
    unfolding answer_of
    answer_usable u = ap (λ (a : Bool). tested a (and_then (found_by s) (degree_by sorted s.count))) (sym u)

    pub answer_ascending : s.usable ≡ true → sorted ≡ true → and_then (found_by s) (ascending_of s.count) ≡ answer_of s sorted
    answer_ascending u e = ap (λ (b : Bool). and_then (found_by s) (degree_by b s.count)) (sym e) ∙ answer_usable u

    pub answer_declared : s.usable ≡ true → sorted ≡ false → and_then (found_by s) (declared_of s.count) ≡ answer_of s sorted
    answer_declared u e = ap (λ (b : Bool). and_then (found_by s) (degree_by b s.count)) (sym e) ∙ answer_usable u
