-- A lent table as a list of entries: how the code goes over it, and what stands at a place. Assumes nothing.
use Rattle.std.specs.Prelude.{Some, None, Option}
use mathlib.Core.Path.{◌≡◌, refl, sym, ◌∙◌, ap}
use mathlib.Core.Bool.{Bool, true, false, ◌&&◌}
use mathlib.Core.List.{List, [], ◌∷◌}
use Prim.Native.Nat.{ℕ, zero, suc, ◌+◌, ◌≤◌, ◌<◌}
use native.Mathlib.Nat.{le_of_suc-le-suc}
use native.Mathlib.Numerals.{add-one}
use native.Mathlib.Omega.{arith}
use lib.Dec.{leb}
use lib.IntN.{ℤ, pos, negsuc}
use lib.ListN.{length, get_or, take, drop, drop_of_length-le}
use lib.Seq.{drop-cons, get_or-take, length-take-le}
use borrow.Author.Tests.{le-leb, lt-leb, leb-true, ne_eqb}
use Rattle.base.specs.Said.{pick}
use Rattle.kbm.specs.Table.{number_of, numbers_of, is_unmapped, in_i16, IsI16, AreI16, is_entry, entry_of, are_entries, entries_of, is_table, table_of}
use Rattle.kbm.proofs.Entries.{and_both, or_second, mag_i16}

and_true : (a : Bool) → (a && true) ≡ a
and_true true = refl
and_true false = refl

and_assoc : (a b c : Bool) → (a && (b && c)) ≡ ((a && b) && c)
and_assoc true b c = refl
and_assoc false b c = refl

-- ---- going over a table: `all` says of the places up to i whether they hold entries
pub record Gone (count : ℕ) (map : List ℤ) (all : Bool) (i : ℕ) : Type 0 where
  pub end : i ≤ count
  pub room : count ≤ length map
  pub same : are_entries (take count map) ≡ (all && are_entries (drop i (take count map)))

pub begin : {count : ℕ} {map : List ℤ} → count ≤ length map → Gone count map true 0
begin room = record { end = omega arith; room = room; same = refl }

-- no place for so many
pub short : (count : ℕ) (map : List ℤ) → length map < count → false ≡ is_table count map
short count map h = rw (lt-leb count (length map) h)

module _ {count : ℕ} {map : List ℤ} {all : Bool} {i : ℕ} (s : Gone count map all i) where
  -- past the last place
  pub finish : count ≤ i → all ≡ is_table count map
  unfolding are_entries
  finish h =
      let l : length (take count map) ≤ i = omega (arith, length-take-le count map s.room) in
      rw (le-leb count (length map) s.room, s.same, drop_of_length-le (take count map) l) (sym (and_true all))

  pub turn : i < count → {t : Bool} → t ≡ is_entry (get_or map i (pos 0)) → Gone count map (all && t) (i + 1)
  unfolding are_entries
  turn h {t} e =
      let l : i < length (take count map) = omega (arith, length-take-le count map s.room, h) in
      let next : are_entries (drop i (take count map)) ≡ (t && are_entries (drop (suc i) (take count map))) =
      rw (drop-cons (take count map) i (pos 0) l, get_or-take count map i (pos 0) h, e) in
      record { end = omega (arith, h); room = s.room; same = rw add-one (s.same ∙ ap (λ (x : Bool). all && x) next ∙ and_assoc all t (are_entries (drop (suc i) (take count map)))) }

-- ---- what stands at a place
pub length_numbers : (es : List (Option ℤ)) → length (numbers_of es) ≡ length es
unfolding numbers_of
length_numbers [] = refl
length_numbers (e ∷ es) = ap suc (length_numbers es)

pub length_entries : (zs : List ℤ) → length (entries_of zs) ≡ length zs
unfolding entries_of
length_entries [] = refl
length_entries (z ∷ zs) = ap suc (length_entries zs)

entry_at : (zs : List ℤ) (i : ℕ) → i < length zs → get_or (entries_of zs) i None ≡ entry_of (get_or zs i (pos 0))
unfolding entries_of
entry_at [] i h = absurd (omega (arith, h))
entry_at (z ∷ zs) zero h = refl
entry_at (z ∷ zs) (suc i) h = entry_at zs i (le_of_suc-le-suc h)

usable_at : (zs : List ℤ) (i : ℕ) → are_entries zs ≡ true → i < length zs → is_entry (get_or zs i (pos 0)) ≡ true
unfolding are_entries
usable_at [] i e h = absurd (omega (arith, h))
usable_at (z ∷ zs) zero e h = (and_both (is_entry z) (are_entries zs) e).0
usable_at (z ∷ zs) (suc i) e h = usable_at zs i (and_both (is_entry z) (are_entries zs) e).1 (le_of_suc-le-suc h)

module _ (count : ℕ) (map : List ℤ) (t : is_table count map ≡ true) where
  pub table_room : count ≤ length map
  table_room = leb-true count (length map) (and_both (leb count (length map)) (are_entries (take count map)) t).0

  pub table_entries : are_entries (take count map) ≡ true
  table_entries = (and_both (leb count (length map)) (are_entries (take count map)) t).1

  pub table_length : length (table_of count map) ≡ count
  table_length = length_entries (take count map) ∙ length-take-le count map table_room

  module _ {i : ℕ} (h : i < count) where
    in_table : i < length (take count map)
    in_table = omega (arith, length-take-le count map table_room, h)

    pub table_at : get_or (table_of count map) i None ≡ entry_of (get_or map i (pos 0))
    table_at = entry_at (take count map) i in_table ∙ ap entry_of (get_or-take count map i (pos 0) h)

    pub table_usable : is_entry (get_or map i (pos 0)) ≡ true
    table_usable = ap is_entry (sym (get_or-take count map i (pos 0) h)) ∙ usable_at (take count map) i table_entries in_table

-- ---- entries of 16 bits and their numbers
not_unmapped : (z : ℤ) → in_i16 z ≡ true → is_unmapped z ≡ false
not_unmapped (pos a) h = refl
not_unmapped (negsuc a) h = ne_eqb a 2147483647 (λ e. omega (arith, mag_i16 (negsuc a) h))

number_usable : (e : (Option ℤ)) → IsI16 e → is_entry (number_of e) ≡ true
number_usable (Some degree) h = rw (not_unmapped degree h) h
number_usable None h = refl

-- an entry is read back from its number
pub entry_back : (e : (Option ℤ)) → IsI16 e → entry_of (number_of e) ≡ e
entry_back (Some degree) h = rw (not_unmapped degree h)
entry_back None h = refl

pub numbers_usable : (es : List (Option ℤ)) → AreI16 es → are_entries (numbers_of es) ≡ true
unfolding are_entries numbers_of
numbers_usable [] h = refl
numbers_usable (e ∷ es) h = rw (number_usable e h.0) (numbers_usable es h.1)

pub numbers_back : (es : List (Option ℤ)) → AreI16 es → entries_of (numbers_of es) ≡ es
unfolding entries_of numbers_of
numbers_back [] h = refl
numbers_back (e ∷ es) h = rw (entry_back e h.0, numbers_back es h.1)

-- the entries of usable numbers are of 16 bits
pub entries_typed : (zs : List ℤ) → are_entries zs ≡ true → AreI16 (entries_of zs)
unfolding are_entries entries_of
entries_typed [] h = tt
entries_typed (z ∷ zs) h =
    let both = and_both (is_entry z) (are_entries zs) h in
    (go (is_unmapped z) refl both.0, entries_typed zs both.1)
  where
    go : (b : Bool) → is_unmapped z ≡ b → is_entry z ≡ true → IsI16 (pick b None (Some z))
    go true e t = tt
    go false e t = or_second (is_unmapped z) (in_i16 z) t e
