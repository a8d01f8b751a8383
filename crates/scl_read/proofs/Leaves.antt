-- What a read answers and leaves, by the passes that the code makes; and that what an accepted one leaves passes every later call's
-- test of lent tables. Assumes nothing.
use Rattle.base.specs.Numbers.{number_of}
use Rattle.std.specs.Prelude.{Result, Ok, Err}
use mathlib.Core.Path.{◌≡◌, refl, sym, ◌∙◌, ap}
use mathlib.Core.Bool.{true}
use mathlib.Core.List.{List, ◌∷◌}
use Prim.Native.Nat.{ℕ, zero, suc, ◌+◌, ◌-◌, ◌≤◌, ◌<◌}
use native.Mathlib.Omega.{arith}
use lib.ListN.{length}
use Rattle.base.specs.Numbers.{no_room}
use Rattle.base.specs.Said.{Said, gives, refuses, refusal, and_then}
use Rattle.base.specs.declared.Refusal.{Refusal}
use Rattle.scl.proofs.Table.{Roomy, items_test}
use Rattle.scl.specs.Answers.{says_scl}
use Rattle.scl.specs.Table.{ItemTable, implicit, items_in, are_usable, is_items}
use Rattle.scl.specs.declared.Item.{Item}
use Rattle.scl.specs.declared.Scl.{Scl}
use Rattle.scl_tables.proofs.Theorems.{list_leaves, left_list}
use Rattle.scl_tables.specs.Build.{sorted_of, after_list}
use Rattle.scl_tables.specs.Room.{room_of}
use Rattle.sorted.specs.Lent.{ListTable, is_list}
use Rattle.sorting.specs.Entries.{Entry}
use Rattle.text.specs.ReadLine.{said_in}
use Rattle.scl_read.specs.Language.{ScaleText}
use Rattle.scl_read.specs.Reader.{check_of, items_read, description_in, scale_read, read_of, written_from, after_items, after_sorted}
use Rattle.scl_read.specs.declared.Description.{Description}
use Rattle.scl_read.specs.declared.SclRead.{SclRead}
use Rattle.scl_read.proofs.Ends.{lines_usable, lines_held}
use Rattle.scl_read.proofs.Fills.{lengths_roomy, written_items, written_lengths}
use Rattle.scl_read.proofs.Language.{InLanguage, checked, accepts, text_reading}
use Rattle.scl_read.proofs.Usable.{implicit_usable, given_usable}

-- with a place there is a first pass
some_read : (room : ℕ) (text : List ℕ) → (room ≡ 0 → ⊥) → read_of room text ≡ and_then (check_of (room - 1) text) (λ n. gives (scale_read n text))
some_read zero text n = absurd (n refl)
some_read (suc places) text n = let z : suc places - 1 ≡ places = omega arith in rw z

-- all columns have the room
pub record Room (n : ℕ) (t : ItemTable) (l : ListTable) : Type 0 where
  pub items : Roomy n t
  pub places : n ≤ length l.places
  pub ratios : n ≤ length l.ratios
  pub wraps : n ≤ length l.wraps

pub room_is : (n : ℕ) (t : ItemTable) (l : ListTable) → n ≤ room_of t l → Room n t l
unfolding room_of
room_is n t l h = record { items = record { kinds = omega arith; cents = omega arith; numers = omega arith; denoms = omega arith }; places = omega arith; ratios = omega arith; wraps = omega arith }

-- the items that a text gives can be used
pub read_usable : (text : List ℕ) → are_usable (items_read text) ≡ true
unfolding are_usable
read_usable text = rw implicit_usable (given_usable 2 (said_in text))

-- what is written passes the test of a lent table, and is the items
module _ (t : ItemTable) (items : List Item) (n : ℕ) (c : length items ≡ n + 1) (r : Roomy (length items) t) where
  pub written_in : items_in n (written_from t 0 items) ≡ items
  written_in = rw (sym c) (written_items t items r)

  pub written_good : are_usable items ≡ true → is_items n (written_from t 0 items) ≡ true
  written_good u =
      let o = lengths_roomy (written_lengths t 0 items) r in
      sym (items_test n (written_from t 0 items) (omega (arith, o.kinds)) (omega (arith, o.cents)) (omega (arith, o.numers)) (omega (arith, o.denoms)) (sym (ap are_usable written_in ∙ u)))

-- THE CALL: r is the room, x what the first pass answered
module _ (text : List ℕ) (t : ItemTable) (l : ListTable) {r : ℕ} (e : r ≡ room_of t l) where
  abbrev Left : Said SclRead → ItemTable → ListTable → Type 0
  Left s u m = (s ≡ read_of (room_of t l) text) × ((u ≡ after_items text t l) × (m ≡ after_sorted text t l))

  left_refused : (n d : ℕ) → read_of (room_of t l) text ≡ refuses n d → Left (refuses n d) t l
  left_refused n d q = rw q (refl, (refl, refl))

  pub no_place : r ≡ 0 → Left (refuses no_room 0) t l
  no_place z = left_refused no_room 0 (ap (λ k. read_of k text) (sym e ∙ z))

  module _ (some : r ≡ 0 → ⊥) (x : (Result Scl Refusal)) (q : says_scl x ≡ check_of (r - 1) text) where
    is_read : read_of (room_of t l) text ≡ and_then (says_scl x) (λ n. gives (scale_read n text))
    is_read = ap (λ k. read_of k text) (sym e) ∙ some_read r text some ∙ ap (λ s. and_then s (λ n. gives (scale_read n text))) (sym q)

    pub read_refused : {k : Refusal} → x ≡ Err k → Left (refusal k) t l
    read_refused {k} p = left_refused (number_of k.reason) k.detail (is_read ∙ rw p)

    module _ {k : Scl} (p : x ≡ Ok k) where
      in_language : InLanguage (r - 1) text k.count
      in_language = checked (r - 1) text k.count (sym q ∙ ap says_scl p)

      pub read_room : Room (length (items_read text)) t l
      read_room = room_is (length (items_read text)) t l (omega (arith, e, in_language.count, in_language.fits, some))

      pub read_fits : (length (items_read text) ≤ length t.kinds) × (length (items_read text) ≤ length t.cents) × (length (items_read text) ≤ length t.numers) × (length (items_read text) ≤ length t.denoms)
      read_fits = let o = read_room.items in (o.kinds, o.cents, o.numers, o.denoms)

      counts : length (items_read text) ≡ k.count + 1
      counts = omega (arith, in_language.count)

      -- what is asked of the build
      pub read_builds : {u : ItemTable} → u ≡ written_from t 0 (items_read text) →
          (is_items k.count u ≡ true) × (k.count ≤ 65535) × (k.count < length l.places) × (k.count < length l.ratios) × (k.count < length l.wraps)
      read_builds w =
          let o = read_room in (
            rw w (written_good t (items_read text) k.count counts o.items (read_usable text)),
            omega (arith, in_language.count, in_language.text.not_large),
            omega (arith, counts, o.places),
            omega (arith, counts, o.ratios),
            omega (arith, counts, o.wraps),
          )

      -- what is answered and left
      pub read_leaves : {u : ItemTable} {m : ListTable} {d : Description} → u ≡ written_from t 0 (items_read text) → m ≡ after_list (sorted_of (items_in k.count u)) l → d ≡ description_in text →
          Left (gives (record { scl = k; description = d })) u m
      read_leaves {u} {m} {d} w v y =
          let s : read_of (room_of t l) text ≡ gives (scale_read k.count text) = is_read ∙ rw p in
          let i : items_in k.count u ≡ items_read text = ap (items_in k.count) w ∙ written_in t (items_read text) k.count counts read_room.items in
          rw (s, y) (refl, (w, v ∙ ap (λ (z : List Item). after_list (sorted_of z) l) i))

-- AN ACCEPTED READ LEAVES tables that pass every later call's test, and that are read back as the text's items and sorted list
module _ (text : List ℕ) (t : ItemTable) (l : ListTable) {d : List ℕ} {items : List Item} {list : List Entry} (s : ScaleText text d items list) (fits : length items < room_of t l) where
  the_read : read_of (room_of t l) text ≡ gives (scale_read (length items) text)
  the_read = ((accepts (room_of t l) text d items list).1 (s, fits)).0

  same_items : items_read text ≡ implicit ∷ items
  same_items = ap (λ (z : List Item). implicit ∷ z) (text_reading s).given

  room_for : Room (length (items_read text)) t l
  room_for = room_is (length (items_read text)) t l (omega (arith, ap length same_items, fits))

  number : length (items_read text) ≡ length items + 1
  number = omega (arith, ap length same_items)

  pub leaves_items : (is_items (length items) (after_items text t l) ≡ true) × (items_in (length items) (after_items text t l) ≡ implicit ∷ items)
  leaves_items = rw the_read (
    written_good t (items_read text) (length items) number room_for.items (read_usable text),
    written_in t (items_read text) (length items) number room_for.items ∙ same_items,
  )

  pub leaves_list : (is_list (length items) (after_sorted text t l) ≡ true) × (after_sorted text t l ≡ after_list (gives list) l)
  leaves_list =
      let so : sorted_of (items_read text) ≡ gives list = ap sorted_of same_items ∙ (text_reading s).sorted in
      let good = left_list (length items) (implicit ∷ items) list l (omega arith) (list_leaves (implicit ∷ items) (omega arith) (lines_held s.lines) (lines_usable s.lines) list (text_reading s).sorted) in
      rw (the_read, so) (good, refl)
