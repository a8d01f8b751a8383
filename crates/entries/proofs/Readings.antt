-- A read beside a list of structs: a list that is shorter than the columns is the part of one column that is read into; and the columns
-- hold what the list takes. Assumes nothing.
use mathlib.Core.Path.{◌≡◌, refl, sym, ◌∙◌, ap}
use mathlib.Core.List.{List, [], ◌∷◌, ◌++◌}
use Prim.Native.Nat.{ℕ, zero, suc, ◌+◌, ◌≤◌, ◌<◌, min, zero-le}
use native.Mathlib.Nat.{le_of_suc-le-suc, not-suc-le-zero}
use native.Mathlib.Omega.{arith}
use lib.ListN.{length, take, drop, length-map, take-append-drop}
use lib.Seq.{length-take-le}
use Rattle.base.specs.Said.{Said, gives, refuses}
use Rattle.base.specs.Tables.{over}
use Rattle.sorting.specs.Entries.{Entry}
use Rattle.sorted.specs.Lent.{ListTable, list_table, wraps_of}
use Rattle.scl.specs.Table.{ItemTable, implicit}
use Rattle.scl_tables.specs.Build.{sorted_of}
use Rattle.scl_tables.specs.Room.{room_of}
use Rattle.scl_tables.proofs.Theorems.{list_leaves}
use Rattle.scl_read.specs.Reader.{read_of, given_in, items_read, items_after, sorted_after, after_items, after_sorted}
use Rattle.scl_read.specs.declared.SclRead.{SclRead}
use Rattle.scl_read.proofs.Ends.{lines_held, lines_usable}
use Rattle.scl_read.proofs.Language.{accepted, text_reading}
use Rattle.entries.specs.Builds.{Holds}
use Rattle.entries.specs.Readings.{read_in, count_read, sorted_read}
use Rattle.entries.proofs.Builds.{column_room, first_is}

-- ---- an accepted read: a list of as many entries as items, place 0 counted, within the room
record Accepted (room : ℕ) (text : List ℕ) (count : ℕ) : Type 0 where
  list : List Entry
  sorted : sorted_of (items_read text) ≡ gives list
  size : length list ≡ count + 1
  inside : count < room

read_accepted : (room : ℕ) (text : List ℕ) (r : SclRead) → read_of room text ≡ gives r → Accepted room text r.scl.count
read_accepted room text r e =
    let a = accepted room text r e in
    let s = (text_reading a.2).sorted in
    let n : r.scl.count ≡ length (given_in text) = ap (λ (x : SclRead). x.scl.count) a.4 in
    let size = (list_leaves (implicit ∷ given_in text) (omega arith) (lines_held a.2.lines) (lines_usable a.2.lines) a.1 s).size in
    record { list = a.1; sorted = s; size = omega (arith, size, n); inside = omega (arith, a.3, n) }

-- ---- a part of a column
-- a list written over the first places of a column, and what stands behind them
over_part : {A : Type 0} (n : ℕ) (old new : List A) → n ≤ length old → length new ≤ n → over (take n old) new ++ drop n old ≡ over old new
over_part n old [] h k = take-append-drop n old
over_part zero old (x ∷ new) h k = absurd (not-suc-le-zero k)
over_part (suc n) [] (x ∷ new) h k = absurd (not-suc-le-zero h)
over_part {A} (suc n) (y ∷ old) (x ∷ new) h k = ap (λ (m : List A). x ∷ m) (over_part n old new (le_of_suc-le-suc h) (le_of_suc-le-suc k))

-- ---- the room, of the other columns (a, b) and this one (w), where there are n places more
room_whole : (a b w n : ℕ) → w ≤ n → min (min a (min b w)) n ≡ min a (min b w)
room_whole a b w n h = omega (arith, h)

room_part : (a b w n : ℕ) → n < w → min a (min b n) ≡ min (min a (min b w)) n
room_part a b w n h = omega (arith, h)

module _ (text : List ℕ) (t : ItemTable) (l : ListTable) (n : ℕ) where
  abbrev said : Said SclRead
  said = read_in text t l n

  -- ---- what the columns hold
  holds_of : (s : Said SclRead) → said ≡ s → Holds (count_read s) (sorted_after s text l) n (sorted_read text s)
  holds_of (refuses x d) e = record { list_room = zero-le; places_room = zero-le; ratios_room = zero-le; wraps_room = zero-le; stored = λ old. refl }
  holds_of (gives r) e =
      let a = read_accepted (min (room_of t l) n) text r e in
      rw a.sorted (record {
        list_room = omega (arith, a.inside);
        places_room = column_room (λ (x : Entry). x.place) l.places (r.scl.count + 1) a.list a.size;
        ratios_room = column_room (λ (x : Entry). x.ratio) l.ratios (r.scl.count + 1) a.list a.size;
        wraps_room = column_room (λ (x : Entry). x.wraps) l.wraps (r.scl.count + 1) a.list a.size;
        stored = λ old. ap (over old) (first_is (r.scl.count + 1) a.list l a.size);
      })

  -- of the call, by its answer and the tables after it
  abbrev Called : Said SclRead → ItemTable → ListTable → Type 0
  Called s u m = (s ≡ said) × (u ≡ items_after said text t) × (m ≡ sorted_after said text l) × Holds (count_read s) m n (sorted_read text said)

  pub called : {s : Said SclRead} {u : ItemTable} {m : ListTable} → s ≡ said → u ≡ items_after said text t → m ≡ sorted_after said text l → Called s u m
  called e i j = (e, i, j, rw (e, j) (holds_of said refl))

  -- what is read in a room that is the same
  module _ {room : ℕ} (r : room ≡ min (room_of t l) n) where
    same_answer : {s : Said SclRead} → s ≡ read_of room text → s ≡ said
    same_answer e = e ∙ ap (λ (k : ℕ). read_of k text) r

    same_items : {u : ItemTable} → u ≡ items_after (read_of room text) text t → u ≡ items_after said text t
    same_items i = i ∙ ap (λ (k : ℕ). items_after (read_of k text) text t) r

    same_list : (l' : ListTable) {m : ListTable} → m ≡ sorted_after (read_of room text) text l' → m ≡ sorted_after said text l'
    same_list l' j = j ∙ ap (λ (k : ℕ). sorted_after (read_of k text) text l') r

  -- ---- columns that are no longer than the list
  whole_room : length l.wraps ≤ n → min (room_of t l) n ≡ room_of t l
  unfolding room_of
  whole_room h = room_whole (min (min (length t.kinds) (length t.cents)) (min (length t.numers) (length t.denoms))) (min (length l.places) (length l.ratios)) (length l.wraps) n h

  pub whole_read : length l.wraps ≤ n → {s : Said SclRead} {u : ItemTable} {m : ListTable} → s ≡ read_of (room_of t l) text → u ≡ after_items text t l → m ≡ after_sorted text t l → Called s u m
  whole_read h e i j = let r = sym (whole_room h) in called (same_answer r e) (same_items r i) (same_list r l j)

  -- ---- a list that is shorter than a column: only so much of that column is lent
  module _ (h : n < length l.wraps) where
    abbrev part : ListTable
    part = list_table l.places l.ratios (take n l.wraps)

    abbrev glued : ListTable → ListTable
    glued m = list_table m.places m.ratios (m.wraps ++ drop n l.wraps)

    part_room : room_of t part ≡ min (room_of t l) n
    unfolding room_of
    part_room = ap (λ (w : ℕ). min (min (min (length t.kinds) (length t.cents)) (min (length t.numers) (length t.denoms))) (min (min (length l.places) (length l.ratios)) w)) (length-take-le n l.wraps (omega (arith, h))) ∙ room_part (min (min (length t.kinds) (length t.cents)) (min (length t.numers) (length t.denoms))) (min (length l.places) (length l.ratios)) (length l.wraps) n h

    glued_after : (s : Said SclRead) → said ≡ s → glued (sorted_after s text part) ≡ sorted_after s text l
    glued_after (refuses x d) e = let w = take-append-drop n l.wraps in λ i. list_table l.places l.ratios (w i)
    glued_after (gives r) e =
        let a = read_accepted (min (room_of t l) n) text r e in
        let w = over_part n l.wraps (wraps_of a.list) (omega (arith, h)) (omega (arith, length-map a.list (λ (x : Entry). x.wraps), a.size, a.inside)) in
        rw a.sorted (λ i. list_table (over l.places (mathlib.Core.List.map (λ (x : Entry). x.place) a.list)) (over l.ratios (mathlib.Core.List.map (λ (x : Entry). x.ratio) a.list)) (w i))

    pub part_read : {s : Said SclRead} {u : ItemTable} (m : ListTable) → s ≡ read_of (room_of t part) text → u ≡ after_items text t part → m ≡ after_sorted text t part → Called s u (glued m)
    part_read m e i j = called (same_answer part_room e) (same_items part_room i) (ap glued (same_list part_room part j) ∙ glued_after said refl)
