-- "A scale without items answers degree 0 with the ratio itself" (document 01, "Scales and searches"): of each call. Assumes nothing.
use mathlib.Core.Path.{◌≡◌, refl, sym, ◌∙◌, ap}
use mathlib.Core.Bool.{true, ◌&&◌}
use mathlib.Core.List.{List}
use Prim.Native.Nat.{ℕ, ◌+◌, ◌<◌}
use native.Mathlib.Omega.{arith}
use lib.IntN.{ℤ, pos, ◌+ℤ◌, ◌-ℤ◌, ◌*ℤ◌, +ℤ_idr, *ℤ-zero}
use lib.ListN.{length, get_or, length-map}
use lib.Seq.{get_or-take}
use lib.Ieee.{Float}
use Rattle.base.specs.Integers.{in_i32, held}
use Rattle.base.specs.Numbers.{unusable, beyond_reach}
use Rattle.base.specs.Said.{Said, gives, and_then}
use Rattle.base.proofs.Said.{same_value}
use Rattle.floats.specs.Ranges.{in_search, in_pitch}
use Rattle.pitch.specs.Pitches.{between_pitches}
use Rattle.sorting.specs.Entries.{Entry}
use Rattle.sorted.specs.Lent.{ListTable, places_of, list_in, is_list}
use Rattle.sorted.proofs.Lists.{list_columns}
use Rattle.scl.specs.Table.{ItemTable, items_in, is_items}
use Rattle.scl.specs.declared.Item.{Item}
use Rattle.scl.proofs.Table.{both}
use Rattle.kbm.specs.Root.{is_root}
use Rattle.kbm.specs.declared.KbmRoot.{KbmRoot}
use Rattle.relative.specs.Scales.{no_entry, tested, is_scale}
use Rattle.relative.proofs.Back.{then_given, pick_given}
use Rattle.relative.proofs.Places.{list_room, list_length, list_at}
use Rattle.relative.specs.Pitches.{root_degree, root_pitch}
use Rattle.searching.specs.Search.{found_at, search_of}
use Rattle.searching.specs.declared.Found.{Found}
use Rattle.searching.proofs.Theorems.{search_says_none}
use Rattle.searching.specs.Degrees.{approximation, declared_of, ascending_of, key_of}
use Rattle.searching.specs.declared.approximation.Approximation.{Approximation}
use Rattle.finding.specs.Find.{computed_search, pitch_search_from, pitch_search_of}
use Rattle.finding.specs.Says.{FindsNone}
use Rattle.finding.proofs.Theorems.{key_of_law}

held_none : held (pos 0) ≡ gives (pos 0)
unfolding held
held_none = refl

module _ (count : ℕ) (t : ItemTable) (l : ListTable) (none : count ≡ 0) (u : is_scale count t l ≡ true) where
  abbrev items : List Item
  items = items_in count t

  abbrev es : List Entry
  es = list_in count l

  its : is_items count t ≡ true
  its = (both (is_items count t) (is_list count l) u).0

  list : is_list count l ≡ true
  list = (both (is_items count t) (is_list count l) u).1

  -- the list's one place is 0
  place_none : (get_or es 0 no_entry).place ≡ 0
  place_none =
      let r = list_room count l list in
      let c = (list_columns count l r.places_room r.ratios_room r.wraps_room).places in
      let n : 0 < length (places_of es) = rw (length-map es (λ (e : Entry). e.place)) (omega (arith, list_length count l list)) in
      let at : get_or (places_of es) 0 0 ≡ get_or l.places 0 0 = ap (λ (ps : List ℕ). get_or ps 0 0) (sym c) ∙ get_or-take (count + 1) l.places 0 0 (omega arith) in
      let is : (get_or es 0 no_entry).place ≡ get_or l.places 0 0 = ap (λ (e : Entry). e.place) (list_at count l list 0 (omega arith)) in
      omega (arith, none, is, at, r.within 0 n)

  module _ (x : Float) where
    abbrev one : Found
    one = found_at (get_or es 0 no_entry) 0 (pos 0) x

    zero_is : (z : ℤ) → z ≡ pos 0 → and_then (held z) (λ v. gives (approximation x v)) ≡ gives (approximation x (pos 0))
    zero_is z e = ap (λ (y : ℤ). and_then (held y) (λ v. gives (approximation x v))) e ∙ ap (λ (s : Said ℤ). and_then s (λ v. gives (approximation x v))) held_none

    pub declared_none : declared_of count one ≡ gives (approximation x (pos 0))
    declared_none =
        let w = pos 0 -ℤ one.wraps in
        zero_is (pos one.place +ℤ w *ℤ pos count) (ap (λ (n : ℕ). pos n +ℤ w *ℤ pos count) place_none ∙ ap (λ (n : ℕ). pos 0 +ℤ w *ℤ pos n) none ∙ ap (λ (z : ℤ). pos 0 +ℤ z) (*ℤ-zero w))

    pub ascending_none : ascending_of count one ≡ gives (approximation x (pos 0))
    ascending_none = zero_is (pos 0 +ℤ pos 0 *ℤ pos count) (ap (λ (n : ℕ). pos 0 +ℤ pos 0 *ℤ pos n) none)

  module _ (degree : Found → Said Approximation) (zero_of : (x : Float) → degree (found_at (get_or es 0 no_entry) 0 (pos 0) x) ≡ gives (approximation x (pos 0))) where
    searched_none : (x : Float) → and_then (search_of items es x) degree ≡ gives (approximation x (pos 0))
    searched_none x = ap (λ (s : Said Found). and_then s degree) (search_says_none count t l its list x none) ∙ zero_of x

    -- of a ratio in 2^-64..2^64: degree 0 with the ratio itself
    pub relative_none : (x : Float) → in_search x ≡ true → tested (is_scale count t l && in_search x) (and_then (search_of items es x) degree) ≡ gives (approximation x (pos 0))
    relative_none x s = rw (its, list, s) (searched_none x)

    -- of a pitch: degree 0 with the ratio from the root's pitch up to it
    pub pitch_none : (root : KbmRoot) (pitch : Float) (a : Approximation) → tested (is_scale count t l && (is_root root && in_pitch pitch)) (and_then (pitch_search_of items es root pitch) degree) ≡ gives a → FindsNone items root pitch a
    unfolding pitch_search_from pitch_search_of
    pitch_none root pitch a e =
        let p = pick_given (is_scale count t l && (is_root root && in_pitch pitch)) (and_then (pitch_search_of items es root pitch) degree) unusable e in
        let f = then_given (pitch_search_of items es root pitch) degree p.1 in
        let r = then_given (root_degree root) (λ at. pitch_search_from items es root.pitch.0 at pitch) f.1.0 in
        let h = then_given (root_pitch items root.pitch.0 r.0) (λ hz. and_then (between_pitches hz pitch) (computed_search items es)) r.1.1 in
        let x = then_given (between_pitches h.0 pitch) (computed_search items es) h.1.1 in
        let c = pick_given (in_search x.0) (search_of items es x.0) beyond_reach x.1.1 in
        record {
          root_at = r.0;
          sounding = h.0;
          ratio = x.0;
          root_given = r.1.0;
          is_pitch = h.1.0;
          is_ratio = x.1.0;
          searched = c.0;
          answer = same_value a (approximation x.0 (pos 0)) (sym f.1.1 ∙ ap (λ (s : Said Found). and_then s degree) (sym c.1) ∙ searched_none x.0);
        }

    -- and it is answered as soon as each of these steps is
    pub pitch_none_answers : (root : KbmRoot) (pitch : Float) (a : Approximation) → is_root root ≡ true → in_pitch pitch ≡ true → FindsNone items root pitch a
        → tested (is_scale count t l && (is_root root && in_pitch pitch)) (and_then (pitch_search_of items es root pitch) degree) ≡ gives a
    unfolding pitch_search_from pitch_search_of
    pitch_none_answers root pitch a r p f = rw (its, list, r, p, f.root_given, f.is_pitch, f.is_ratio, f.searched) (searched_none f.ratio ∙ ap gives (sym f.answer))

  -- ---- the calls
  pub find_by_relative_pitch_none : (x : Float) → in_search x ≡ true → tested (is_scale count t l && in_search x) (and_then (search_of items es x) (declared_of count)) ≡ gives (approximation x (pos 0))
  find_by_relative_pitch_none = relative_none (declared_of count) declared_none

  pub find_by_relative_pitch_sorted_none : (x : Float) → in_search x ≡ true → tested (is_scale count t l && in_search x) (and_then (search_of items es x) (ascending_of count)) ≡ gives (approximation x (pos 0))
  find_by_relative_pitch_sorted_none = relative_none (ascending_of count) ascending_none

  pub find_by_pitch_none : (root : KbmRoot) (pitch : Float) (a : Approximation) → tested (is_scale count t l && (is_root root && in_pitch pitch)) (and_then (pitch_search_of items es root pitch) (declared_of count)) ≡ gives a → FindsNone items root pitch a
  find_by_pitch_none = pitch_none (declared_of count) declared_none

  pub find_by_pitch_none_answers : (root : KbmRoot) (pitch : Float) (a : Approximation) → is_root root ≡ true → in_pitch pitch ≡ true → FindsNone items root pitch a
      → tested (is_scale count t l && (is_root root && in_pitch pitch)) (and_then (pitch_search_of items es root pitch) (declared_of count)) ≡ gives a
  find_by_pitch_none_answers = pitch_none_answers (declared_of count) declared_none

  pub find_by_pitch_sorted_none_answers : (root : KbmRoot) (pitch : Float) (a : Approximation) → is_root root ≡ true → in_pitch pitch ≡ true → FindsNone items root pitch a
      → tested (is_scale count t l && (is_root root && in_pitch pitch)) (and_then (pitch_search_of items es root pitch) (ascending_of count)) ≡ gives a
  find_by_pitch_sorted_none_answers = pitch_none_answers (ascending_of count) ascending_none

  pub find_by_pitch_sorted_none : (root : KbmRoot) (pitch : Float) (a : Approximation) → tested (is_scale count t l && (is_root root && in_pitch pitch)) (and_then (pitch_search_of items es root pitch) (ascending_of count)) ≡ gives a → FindsNone items root pitch a
  find_by_pitch_sorted_none = pitch_none (ascending_of count) ascending_none

  -- of a key: the reference key, with that ratio
  pub find_key_by_pitch_none : (root : KbmRoot) (pitch : Float) (a : Approximation)
      → and_then (tested (is_scale count t l && (is_root root && in_pitch pitch)) (and_then (pitch_search_of items es root pitch) (declared_of count))) (key_of root) ≡ gives a
      → (d : Approximation) × (FindsNone items root pitch d × (a ≡ approximation d.deviation root.reference.0))
  find_key_by_pitch_none root pitch a e =
      let d = then_given (tested (is_scale count t l && (is_root root && in_pitch pitch)) (and_then (pitch_search_of items es root pitch) (declared_of count))) (key_of root) e in
      let f = find_by_pitch_none root pitch d.0 d.1.0 in
      let z : root.reference.0 +ℤ d.0.approx_value ≡ root.reference.0 = ap (λ (x : Approximation). root.reference.0 +ℤ x.approx_value) f.answer ∙ +ℤ_idr root.reference.0 in
      (d.0, (f, key_of_law root d.0 a d.1.1 ∙ ap (approximation d.0.deviation) z))

  -- and it is answered as soon as each of these steps is: the reference key, of 32 bits, never leaves them
  pub find_key_by_pitch_none_answers : (root : KbmRoot) (pitch : Float) (a d : Approximation) → is_root root ≡ true → in_pitch pitch ≡ true → in_i32 root.reference.0 ≡ true
      → FindsNone items root pitch d → a ≡ approximation d.deviation root.reference.0
      → and_then (tested (is_scale count t l && (is_root root && in_pitch pitch)) (and_then (pitch_search_of items es root pitch) (declared_of count))) (key_of root) ≡ gives a
  unfolding held
  find_key_by_pitch_none_answers root pitch a d r p i f e =
      let key = root.reference.0 in
      let z : key +ℤ d.approx_value ≡ key = ap (λ (x : Approximation). key +ℤ x.approx_value) f.answer ∙ +ℤ_idr key in
      ap (λ (s : Said Approximation). and_then s (key_of root)) (find_by_pitch_none_answers root pitch d r p f) ∙
      ap (λ (x : ℤ). and_then (held x) (λ v. gives (approximation d.deviation v))) z ∙ (rw i (ap gives (sym e)))
