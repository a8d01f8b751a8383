-- AFTER A READ of a scale and a mapping: why a pitch is refused by 18, the pitch by mapping degree, and a run of keys. Document 01,
-- "Keys" and "Scales and searches". Assumes nothing.
use Rattle.std.specs.Prelude.{Option}
use mathlib.Core.Path.{◌≡◌, refl, sym, ◌∙◌, ap, subst}
use mathlib.Core.Logic.{◌↔◌}
use mathlib.Core.Bool.{true, false, ◌&&◌}
use mathlib.Core.List.{List, [], ◌∷◌}
use Prim.Native.Nat.{ℕ, zero, suc, ◌-◌, ◌≤◌, ◌<◌}
use native.Mathlib.Nat.{not-suc-le-zero, le_of_suc-le-suc}
use native.Mathlib.Omega.{arith}
use lib.Dec.{leb}
use lib.IntN.{ℤ, pos, ◌+ℤ◌, ◌-ℤ◌}
use lib.ListN.{length, get_or}
use Rattle.base.specs.Integers.{in_i32, held}
use Rattle.base.specs.Numbers.{overflow, no_room, beyond_reach}
use Rattle.base.specs.Said.{Said, gives, refuses, pick, and_then, Accepted}
use Rattle.floats.proofs.Between.{within_more, within_reach}
use Rattle.floats.proofs.Ranges.{pitch_says}
use Rattle.key.specs.Keys.{key, steps_between}
use Rattle.key.specs.declared.PianoKey.{PianoKey}
use Rattle.sorting.specs.Entries.{Entry}
use Rattle.sorted.specs.Lent.{ListTable}
use Rattle.scl.specs.Items.{ratio_of, Held, AllHeld}
use Rattle.scl.specs.Table.{ItemTable, implicit, no_item, items_in, is_items, are_usable}
use Rattle.scl.specs.declared.Item.{Item}
use Rattle.scl.proofs.Items.{item_ratio}
use Rattle.scl.proofs.Table.{usable_at}
use Rattle.scl_tables.specs.Build.{last_of, count_of}
use Rattle.scl_tables.specs.Room.{room_of}
use Rattle.scl_read.specs.Language.{ScaleText}
use Rattle.scl_read.specs.Reader.{after_items}
use Rattle.scl_read.proofs.Ends.{lines_held, lines_usable}
use Rattle.scl_read.proofs.Leaves.{leaves_items}
use Rattle.kbm.specs.Degree.{degree_of}
use Rattle.kbm.specs.Root.{is_root}
use Rattle.kbm.specs.Table.{is_table, table_of}
use Rattle.kbm.specs.declared.Kbm.{Kbm}
use Rattle.kbm_read.specs.Language.{MappingText}
use Rattle.kbm_read.specs.Reader.{after_read}
use Rattle.kbm_read.proofs.Tables.{leaves_meaning}
use Rattle.relative.specs.Relative.{place_of}
use Rattle.relative.specs.Scales.{tested}
use Rattle.relative.proofs.Theorems.{place_le, offset_turned, pitch_refusals}
use Rattle.relative.specs.Pitches.{pitch_of}
use Rattle.tuning.specs.Keys.{key_pitch_of, maybe_pitch_of, maybe_degree_pitch_of}
use Rattle.tuning.specs.Refusals.{KeySounds}
use Rattle.tuning.proofs.Theorems.{key_sounds, maybe_pitch_of_degree_refused, maybe_pitch_of_degree_is}
use Rattle.tuning.specs.Beside.{Beside}
use Rattle.tuning.specs.Run.{key_pitches, is_tuning, run_of, after_numbers}
use Rattle.tuning.proofs.Numbers.{stored-number}
use Rattle.tuning.proofs.Run.{run_done}
use Rattle.promises.specs.tuning.Far.{FarPitch}
use Rattle.promises.proofs.tuning.Far.{pitch_far}
use Rattle.promises.proofs.tuning.Mappings.{read_root}
use Rattle.promises.proofs.tuning.Theorems.{read_turns}

-- ---- each item of a scale has a ratio
held_at : (items : List Item) (i : ℕ) → AllHeld items → i < length items → Held (get_or items i no_item)
held_at [] i h l = absurd (not-suc-le-zero l)
held_at (x ∷ items) zero h l = h.0
held_at (x ∷ items) (suc i) h l = held_at items i h.1 (le_of_suc-le-suc l)

module _ (items : List Item) (some : 0 < length items) (h : AllHeld items) (u : are_usable items ≡ true) where
  given_at : (i : ℕ) → i < length items → Accepted (ratio_of (get_or items i no_item))
  given_at i l = let t = item_ratio (get_or items i no_item) (held_at items i h l) (usable_at items i u l) in record { value = t.value; is = t.is }

  period_given : Accepted (ratio_of (last_of items))
  period_given = given_at (length items - 1) (omega (arith, some))

  degree_given : (z : ℤ) → Accepted (ratio_of (get_or items (place_of (count_of items) z) no_item))
  degree_given z = given_at (place_of (count_of items) z) (omega (arith, some, place_le (count_of items) z))

module _ (text : List ℕ) (t : ItemTable) (l : ListTable) {d : List ℕ} {items : List Item} {list : List Entry} (s : ScaleText text d items list) (room : length items < room_of t l)
    (mapping : List ℕ) (map : List ℤ) {k : Kbm} {es : List (Option ℤ)} (r : MappingText mapping k es) (fits : length es ≤ length map) where
  abbrev left : ItemTable
  left = after_items text t l

  its : is_items (length items) left ≡ true
  its = (leaves_items text t l s room).0

  root : is_root k.root ≡ true
  root = (read_root r).pitch

  table : is_table k.count (after_read mapping map) ≡ true
  table = (leaves_meaning mapping map k es r fits).0

  far : (z : ℤ) → (pitch_of (implicit ∷ items) k.root z ≡ refuses beyond_reach 0) ↔ FarPitch (implicit ∷ items) k.root z
  far z =
      let h = lines_held s.lines in
      let u = lines_usable s.lines in
      let reach = within_reach (within_more (lib.Dec.lit≤ tt) (lib.Dec.lit≤ tt) (pitch_says k.root.pitch.0 root)) in
      pitch_far (implicit ∷ items) k.root z reach (period_given (implicit ∷ items) (omega arith) h u) (degree_given (implicit ∷ items) (omega arith) h u) (pos 0 -ℤ k.root.offset) (offset_turned k.root (read_root r).offset (read_root r).turns)
      (read_turns text t l s room mapping map r fits (pitch_refusals k.root root (read_root r).offset (implicit ∷ items) z))

  -- THE CAUSES OF 18 of `pitch_of`, its one refusal: exactly where one of these steps left its range
  pub read_pitch_far : (z : ℤ) → (tested (is_items (length items) left && is_root k.root) (pitch_of (items_in (length items) left) k.root z) ≡ refuses beyond_reach 0) ↔ FarPitch (implicit ∷ items) k.root z
  read_pitch_far z =
      let is : tested (is_items (length items) left && is_root k.root) (pitch_of (items_in (length items) left) k.root z) ≡ pitch_of (implicit ∷ items) k.root z = rw (its, root) (ap (λ (x : List Item). pitch_of x k.root z) (leaves_items text t l s room).1) in
      (λ e. (far z).0 (sym is ∙ e), λ x. is ∙ (far z).1 x)

  -- of `pitch_of_key`, where the key lies z steps from the reference key
  pub read_key_far : (at : PianoKey) (z : ℤ) → steps_between k.root.reference at ≡ gives z →
      (tested (is_items (length items) left && is_root k.root) (key_pitch_of (items_in (length items) left) k.root at) ≡ refuses beyond_reach 0) ↔ FarPitch (implicit ∷ items) k.root z
  read_key_far at z e =
      let is : tested (is_items (length items) left && is_root k.root) (key_pitch_of (items_in (length items) left) k.root at) ≡ pitch_of (implicit ∷ items) k.root z =
      rw (its, root) (ap (λ (d : Said ℤ). and_then d (pitch_of (items_in (length items) left) k.root)) e ∙ ap (λ (x : List Item). pitch_of x k.root z) (leaves_items text t l s room).1) in
      (λ q. (far z).0 (sym is ∙ q), λ x. is ∙ (far z).1 x)

  -- and of `maybe_pitch_of`, where the key has the degree z
  pub read_maybe_far : (at : PianoKey) (z : ℤ) → degree_of k (table_of k.count (after_read mapping map)) at ≡ gives z →
      (tested (is_items (length items) left && is_root k.root) (tested (is_table k.count (after_read mapping map)) (maybe_pitch_of (items_in (length items) left) k (after_read mapping map) at)) ≡ refuses beyond_reach 0) ↔ FarPitch (implicit ∷ items) k.root z
  read_maybe_far at z e =
      let is : tested (is_items (length items) left && is_root k.root) (tested (is_table k.count (after_read mapping map)) (maybe_pitch_of (items_in (length items) left) k (after_read mapping map) at)) ≡ pitch_of (implicit ∷ items) k.root z =
      rw (its, root, table) (ap (λ (d : Said ℤ). and_then d (pitch_of (items_in (length items) left) k.root)) e ∙ ap (λ (x : List Item). pitch_of x k.root z) (leaves_items text t l s room).1) in
      (λ q. (far z).0 (sym is ∙ q), λ x. is ∙ (far z).1 x)

  -- BY MAPPING DEGREE: 11 exactly where there is no such key, else as by key
  pub read_maybe_pitch_of_degree : (z : ℤ) →
      (in_i32 (k.root.reference.0 +ℤ z) ≡ false → tested (is_items (length items) left && is_root k.root) (tested (is_table k.count (after_read mapping map)) (maybe_degree_pitch_of (items_in (length items) left) k (after_read mapping map) z)) ≡ refuses overflow 0)
      × (in_i32 (k.root.reference.0 +ℤ z) ≡ true → KeySounds k.root (degree_of k (table_of k.count (after_read mapping map)) (key (k.root.reference.0 +ℤ z)))
      (tested (is_items (length items) left && is_root k.root) (tested (is_table k.count (after_read mapping map)) (maybe_degree_pitch_of (items_in (length items) left) k (after_read mapping map) z))))
  read_maybe_pitch_of_degree z = (
    maybe_pitch_of_degree_refused (length items) left its k (after_read mapping map) root (read_root r).offset table z,
    λ e. subst (KeySounds k.root (degree_of k (table_of k.count (after_read mapping map)) (key (k.root.reference.0 +ℤ z)))) (sym (maybe_pitch_of_degree_is (length items) left its k (after_read mapping map) root (read_root r).offset table z e))
        (key_sounds (items_in (length items) left) k (after_read mapping map) root (read_root r).offset (key (k.root.reference.0 +ℤ z))),
  )

  -- A RUN OF KEYS is accepted exactly where both slices have a place for each; then 12 alone is left
  usable : is_tuning (length items) left k (after_read mapping map) ≡ true
  usable = rw (its, root, table) refl

  pub read_pitches_of : (keys hz numbers : ℕ) → run_of (length items) left k (after_read mapping map) keys hz numbers ≡ pick (leb keys hz && leb keys numbers) (gives tt) (refuses no_room 0)
  read_pitches_of keys hz numbers = rw usable refl

  -- and stores beside each key 0 where it sounds, else 11, 16, 17 or 18
  pub read_stored : (first : PianoKey) (keys hz : ℕ) (numbers : List ℕ) → keys ≤ hz → keys ≤ length numbers → (j : ℕ) → j < keys
      → Beside (key_pitches (items_in (length items) left) k (after_read mapping map) first j) (get_or (after_numbers (run_of (length items) left k (after_read mapping map) keys hz (length numbers)) (key_pitches (items_in (length items) left) k (after_read mapping map) first) keys numbers) j 0)
  read_stored first keys hz numbers a b j h =
      stored-number (length items) left k (after_read mapping map) first keys hz numbers (run_done (length items) left k (after_read mapping map) keys hz (length numbers) usable a b) j h

  -- where the key j steps above the first is one of 32 bits it sounds as by key, else 11
  pub read_run_key : (first : PianoKey) (j : ℕ) →
      (in_i32 (first.0 +ℤ pos j) ≡ false → key_pitches (items_in (length items) left) k (after_read mapping map) first j ≡ refuses overflow 0)
      × (in_i32 (first.0 +ℤ pos j) ≡ true → KeySounds k.root (degree_of k (table_of k.count (after_read mapping map)) (key (first.0 +ℤ pos j))) (key_pitches (items_in (length items) left) k (after_read mapping map) first j))
  unfolding held
  read_run_key first j = (
    λ e. rw e refl,
    λ e. rw e (key_sounds (items_in (length items) left) k (after_read mapping map) root (read_root r).offset (key (first.0 +ℤ pos j))),
  )
