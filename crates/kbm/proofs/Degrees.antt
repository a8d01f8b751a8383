-- The degree at a distance, as the code comes to it. Assumes nothing.
use Rattle.std.specs.Prelude.{Some, None, Option}
use mathlib.Core.Path.{◌≡◌, refl, sym, ◌∙◌, ap}
use mathlib.Core.Bool.{true}
use mathlib.Core.List.{List, [], ◌∷◌}
use Prim.Native.Nat.{ℕ, ◌<◌}
use native.Mathlib.Omega.{arith}
use lib.IntN.{ℤ, pos, ◌+ℤ◌, ◌*ℤ◌}
use lib.ListN.{length, get_or}
use mir.Syntax.{w16, w32, w64}
use mir.Val.{SFits, to_z, of_z}
use mir.Facts.{to_z-of_z}
use Rattle.base.specs.Integers.{Divides, floor_div, floor_mod, held}
use Rattle.base.specs.Said.{Said, gives}
use Rattle.base.proofs.Division.{divides_one}
use Rattle.base.proofs.Integers.{floor_mod_lt}
use Rattle.kbm.specs.Degree.{degree_of_entry, degree_at}
use Rattle.kbm.specs.Table.{is_entry, entry_of, is_table, table_of}
use Rattle.kbm.proofs.Table.{table_length, table_at, table_usable}

-- with no entries the degree is the distance
pub degree_none : (d octave : ℤ) (es : List (Option ℤ)) → length es ≡ 0 → degree_at d octave es ≡ gives d
unfolding degree_at
degree_none d octave [] h = refl
degree_none d octave (e ∷ es) h = absurd (omega (arith, h))

-- else that of the entry reached
pub degree_some : (d octave : ℤ) (es : List (Option ℤ)) → 0 < length es → degree_at d octave es ≡ degree_of_entry (get_or es (floor_mod d (length es)) None) (floor_div d (length es)) octave
unfolding degree_at
degree_some d octave [] h = absurd (omega (arith, h))
degree_some d octave (e ∷ es) h = refl

-- by any q and r that divide the distance: there are no others
pub degree_by : {d q : ℤ} {r : ℕ} (octave : ℤ) (es : List (Option ℤ)) → Divides d (length es) q r → degree_at d octave es ≡ degree_of_entry (get_or es r None) q octave
degree_by {d} {q} {r} octave es by =
    let parts = divides_one by in
    rw (parts.0, parts.1) (degree_some d octave es (omega (arith, by.rest)))

module _ (count : ℕ) (map : List ℤ) (t : is_table count map ≡ true) {d : ℤ} (fd : SFits w32 d) where
  -- the code's answer for no entries
  pub degree_zero : (octave : ℤ) → count ≡ 0 → gives (to_z w32 (of_z w32 d)) ≡ degree_at d octave (table_of count map)
  degree_zero octave z = rw (to_z-of_z fd) (sym (degree_none d octave (table_of count map) (table_length count map t ∙ z)))

  module _ (some : count ≡ 0 → ⊥) {place : ℕ} (place_is : place ≡ floor_mod (to_z w32 (of_z w32 d)) count) where
    is_place : place ≡ floor_mod d count
    is_place = rw (to_z-of_z fd) at place_is

    positive : 0 < count
    positive = omega (arith, some)

    pub place_in : place < count
    place_in = omega (arith, is_place, floor_mod_lt d count positive)

    -- the number that is read there
    abbrev read : ℤ
    read = get_or map place (pos 0)

    pub read_usable : SFits w32 read → is_entry (to_z w32 (of_z w32 read)) ≡ true
    read_usable f = rw (to_z-of_z f) (table_usable count map t place_in)

    pub reached : (octave : ℤ) → degree_at d octave (table_of count map) ≡ degree_of_entry (entry_of read) (floor_div d count) octave
    reached octave =
        let found : get_or (table_of count map) (floor_mod d count) None ≡ entry_of read = ap (λ i. get_or (table_of count map) i None) (sym is_place) ∙ table_at count map t place_in in
        let whole = degree_some d octave (table_of count map) (omega (arith, table_length count map t, positive)) in
        whole ∙ rw (table_length count map t, found)

    -- e is what `entry_of` answered, e' what a match made of it
    pub degree_of_read : {e e' : (Option ℤ)} (octave : ℤ) → SFits w32 read → e ≡ entry_of (to_z w32 (of_z w32 read)) → e ≡ e' → degree_at d octave (table_of count map) ≡ degree_of_entry e' (floor_div d count) octave
    degree_of_read octave f told is =
        let entry_is = sym (rw (to_z-of_z f) at told) ∙ is in
        reached octave ∙ ap (λ e. degree_of_entry e (floor_div d count) octave) entry_is

-- the exact value of an entry and q formal octaves, as it comes through the machine
pub held_shifted : {d entry octave q v : ℤ} {s : Said ℤ} (count : ℕ) → SFits w32 d → SFits w16 entry → SFits w16 octave → SFits w32 q → SFits w64 v →
    q ≡ floor_div (to_z w32 (of_z w32 d)) count → v ≡ to_z w16 (of_z w16 entry) +ℤ to_z w32 (of_z w32 q) *ℤ to_z w16 (of_z w16 octave) → s ≡ held (to_z w64 (of_z w64 v)) →
    s ≡ degree_of_entry (Some entry) (floor_div d count) octave
held_shifted count fd fe fo fq fv q-is v_is s-is =
    let q-exact = rw (to_z-of_z fd) at q-is in
    let v-exact = rw (to_z-of_z fe, to_z-of_z fq, to_z-of_z fo) at v_is in
    let s-exact = rw (to_z-of_z fv) at s-is in
    s-exact ∙ ap held (rw q-exact at v-exact)
