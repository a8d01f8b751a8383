-- What the searches say, and that each call has one result. Document 01, "Scales and searches". Assumes nothing.
use mathlib.Core.Path.{◌≡◌, sym, ◌∙◌, ap, subst}
use mathlib.Core.Bool.{true, ◌&&◌}
use mathlib.Core.List.{List}
use Prim.Native.Nat.{ℕ, ◌<◌}
use lib.IntN.{◌+ℤ◌}
use lib.Ieee.{Float, binary64, fits, div}
use lib.Ieee.Bits.{is_true}
use lib.Ieee.Fits.{div-fits}
use Rattle.base.specs.Integers.{in_i32, held}
use Rattle.base.specs.Numbers.{unusable, overflow, beyond_reach}
use Rattle.base.specs.Said.{Said, gives, and_then, One, outcome}
use Rattle.base.proofs.Said.{same_value}
use Rattle.floats.specs.Ranges.{in_reach, in_search, in_pitch}
use Rattle.pitch.specs.Given.{computed}
use Rattle.pitch.specs.Pitches.{between_pitches}
use Rattle.sorting.specs.Entries.{Entry}
use Rattle.sorted.specs.Lent.{ListTable, list_in, is_list}
use Rattle.scl.specs.Table.{ItemTable, items_in, is_items}
use Rattle.scl.specs.declared.Item.{Item}
use Rattle.scl.proofs.Table.{both}
use Rattle.kbm.specs.Root.{is_root}
use Rattle.kbm.specs.declared.KbmRoot.{KbmRoot}
use Rattle.relative.specs.Scales.{tested, is_scale}
use Rattle.relative.proofs.Back.{then_given, pick_given}
use Rattle.relative.specs.Pitches.{root_degree, root_pitch}
use Rattle.searching.specs.Search.{search_of}
use Rattle.searching.specs.declared.Found.{Found}
use Rattle.searching.proofs.Theorems.{search_says, degree_search_one, key_search_one}
use Rattle.searching.proofs.Within.{search_reach}
use Rattle.searching.specs.Degrees.{approximation, declared_of, ascending_of, key_of, says_key_search}
use Rattle.searching.specs.declared.approximation.Approximation.{Approximation}
use Rattle.finding.specs.Find.{computed_search, pitch_search_from, pitch_search_of}
use Rattle.finding.specs.Says.{Finds, FindsPitch, FindsKey}

-- the ratio of two pitches is an f64
pub quotient_held : (first second x : Float) → between_pitches first second ≡ gives x → fits binary64 x ≡ true
quotient_held first second x e =
    let q = div binary64 second first in
    let p = pick_given (in_reach first && in_reach second) (computed q) unusable e in
    let v = pick_given (in_reach q) (gives q) beyond_reach p.1 in
    subst (λ (y : Float). fits binary64 y ≡ true) (same_value q x v.1) (is_true (fits binary64 q) (div-fits binary64 second first))

-- a key that is given is the degree above the reference key
pub key_of_law : (root : KbmRoot) (d a : Approximation) → key_of root d ≡ gives a → a ≡ approximation d.deviation (root.reference.0 +ℤ d.approx_value)
unfolding held
key_of_law root d a e =
    let z = root.reference.0 +ℤ d.approx_value in
    let h = then_given (held z) (λ v. gives (approximation d.deviation v)) e in
    let v = pick_given (in_i32 z) (gives z) overflow h.1.0 in
    sym (same_value (approximation d.deviation h.0) a h.1.1) ∙ ap (approximation d.deviation) (sym (same_value z h.0 v.1))

-- ---- what an answer says: of a scale with items (one without is proofs/None.antt)
module _ (count : ℕ) (t : ItemTable) (l : ListTable) (some : 0 < count) (degree : Found → Said Approximation) (a : Approximation) where
  abbrev items : List Item
  items = items_in count t

  abbrev es : List Entry
  es = list_in count l

  usable : is_scale count t l ≡ true → (is_items count t ≡ true) × (is_list count l ≡ true)
  usable h = both (is_items count t) (is_list count l) h

  ratio_finds : (x : Float) → fits binary64 x ≡ true → is_scale count t l ≡ true → in_search x ≡ true → and_then (search_of items es x) degree ≡ gives a → Finds items es x degree a
  ratio_finds x fx u sx e =
      let f = then_given (search_of items es x) degree e in
      record { found = f.0; searched = search_says count t l (usable u).0 (usable u).1 x some fx (search_reach x sx) f.0 f.1.0; degree_is = f.1.1 }

  -- of a ratio
  pub relative_finds : (x : Float) → fits binary64 x ≡ true → tested (is_scale count t l && in_search x) (and_then (search_of items es x) degree) ≡ gives a → Finds items es x degree a
  relative_finds x fx e =
      let p = pick_given (is_scale count t l && in_search x) (and_then (search_of items es x) degree) unusable e in
      let u = both (is_scale count t l) (in_search x) p.0 in
      ratio_finds x fx u.0 u.1 p.1

  -- of a pitch
  pub pitch_finds : (root : KbmRoot) (pitch : Float) → tested (is_scale count t l && (is_root root && in_pitch pitch)) (and_then (pitch_search_of items es root pitch) degree) ≡ gives a → FindsPitch items es root pitch degree a
  unfolding pitch_search_from pitch_search_of
  pitch_finds root pitch e =
      let p = pick_given (is_scale count t l && (is_root root && in_pitch pitch)) (and_then (pitch_search_of items es root pitch) degree) unusable e in
      let u = (both (is_scale count t l) (is_root root && in_pitch pitch) p.0).0 in
      let f = then_given (pitch_search_of items es root pitch) degree p.1 in
      let r = then_given (root_degree root) (λ at. pitch_search_from items es root.pitch.0 at pitch) f.1.0 in
      let h = then_given (root_pitch items root.pitch.0 r.0) (λ hz. and_then (between_pitches hz pitch) (computed_search items es)) r.1.1 in
      let x = then_given (between_pitches h.0 pitch) (computed_search items es) h.1.1 in
      let c = pick_given (in_search x.0) (search_of items es x.0) beyond_reach x.1.1 in
      let held = quotient_held h.0 pitch x.0 x.1.0 in
      record {
        root_at = r.0;
        sounding = h.0;
        ratio = x.0;
        root_given = r.1.0;
        is_pitch = h.1.0;
        is_ratio = x.1.0;
        searched = c.0;
        finds = record { found = f.0; searched = search_says count t l (usable u).0 (usable u).1 x.0 some held (search_reach x.0 c.0) f.0 c.1; degree_is = f.1.1 };
      }

-- of a key
module _ (count : ℕ) (t : ItemTable) (l : ListTable) (some : 0 < count) (a : Approximation) (root : KbmRoot) (pitch : Float) where
  abbrev found : Said Approximation
  found = tested (is_scale count t l && (is_root root && in_pitch pitch)) (and_then (pitch_search_of (items_in count t) (list_in count l) root pitch) (declared_of count))

  pub key_finds : and_then found (key_of root) ≡ gives a → FindsKey count (items_in count t) (list_in count l) root pitch a
  key_finds e =
      let d = then_given found (key_of root) e in
      record { degree = d.0; finds = pitch_finds count t l some (declared_of count) d.0 root pitch d.1.0; key_is = key_of_law root d.0 a d.1.1 }

-- ---- two results of one input are equal
module _ (count : ℕ) (t : ItemTable) (l : ListTable) where
  abbrev of_ratio : Float → (Found → Said Approximation) → Said Approximation
  of_ratio x degree = tested (is_scale count t l && in_search x) (and_then (search_of (items_in count t) (list_in count l) x) degree)

  abbrev of_pitch : KbmRoot → Float → (Found → Said Approximation) → Said Approximation
  of_pitch root pitch degree = tested (is_scale count t l && (is_root root && in_pitch pitch)) (and_then (pitch_search_of (items_in count t) (list_in count l) root pitch) degree)

  pub find_by_relative_pitch_one : (x : Float) → One outcome (of_ratio x (declared_of count))
  find_by_relative_pitch_one x = degree_search_one (of_ratio x (declared_of count))

  pub find_by_relative_pitch_sorted_one : (x : Float) → One outcome (of_ratio x (ascending_of count))
  find_by_relative_pitch_sorted_one x = degree_search_one (of_ratio x (ascending_of count))

  pub find_by_pitch_one : (root : KbmRoot) (pitch : Float) → One outcome (of_pitch root pitch (declared_of count))
  find_by_pitch_one root pitch = degree_search_one (of_pitch root pitch (declared_of count))

  pub find_by_pitch_sorted_one : (root : KbmRoot) (pitch : Float) → One outcome (of_pitch root pitch (ascending_of count))
  find_by_pitch_sorted_one root pitch = degree_search_one (of_pitch root pitch (ascending_of count))

  pub find_key_by_pitch_one : (root : KbmRoot) (pitch : Float) → One says_key_search (and_then (of_pitch root pitch (declared_of count)) (key_of root))
  find_key_by_pitch_one root pitch = key_search_one (and_then (of_pitch root pitch (declared_of count)) (key_of root))
