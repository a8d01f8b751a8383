-- WHAT AN ACCEPTED READ OR BUILD LEAVES is used by every call on tunings: no 10 for the tables, and which refusals are left.
-- Document 01, "Scales and searches". Assumes nothing.
use Rattle.std.specs.Prelude.{Option}
use mathlib.Core.Path.{◌≡◌, sym, ◌∙◌, ap}
use mathlib.Core.Bool.{true, ◌&&◌}
use mathlib.Core.List.{List, ◌∷◌}
use Prim.Native.Nat.{ℕ, ◌≤◌, ◌<◌}
use native.Mathlib.Omega.{arith}
use lib.Dec.{leb}
use lib.IntN.{ℤ}
use lib.ListN.{length}
use lib.Ieee.{Float, binary64, fits}
use Rattle.base.specs.Numbers.{unusable, too_large, beyond_reach}
use Rattle.base.specs.Said.{Said, gives, Accepted}
use Rattle.floats.specs.Floats.{one_f}
use Rattle.floats.specs.Ranges.{in_search}
use Rattle.key.specs.Keys.{steps_between}
use Rattle.key.specs.declared.PianoKey.{PianoKey}
use Rattle.sorting.specs.Entries.{Entry}
use Rattle.sorted.specs.Lent.{ListTable, list_in}
use Rattle.scl.specs.Items.{ratio_of, AllHeld}
use Rattle.scl.specs.Table.{ItemTable, implicit, items_in, is_items}
use Rattle.scl.specs.declared.Item.{Item}
use Rattle.scl.proofs.Table.{items_usable}
use Rattle.scl_tables.specs.Build.{last_of, count_of, sorted_of, scale_of, sized_of, is_beyond, after_list}
use Rattle.scl_tables.specs.Room.{room_of}
use Rattle.scl_tables.proofs.Beyond.{scale_looks}
use Rattle.scl_tables.proofs.Theorems.{list_leaves}
use Rattle.scl_build.specs.Builder.{is_ready, built}
use Rattle.scl_build.specs.declared.SclBuilder.{SclBuilder}
use Rattle.scl_build.proofs.Theorems.{build_leaves}
use Rattle.scl_read.specs.Language.{ScaleText}
use Rattle.scl_read.specs.Reader.{after_items, after_sorted}
use Rattle.scl_read.proofs.Ends.{lines_held, lines_usable}
use Rattle.scl_read.proofs.Language.{text_reading}
use Rattle.scl_read.proofs.Leaves.{leaves_items, leaves_list}
use Rattle.kbm.specs.Degree.{degree_of}
use Rattle.kbm.specs.Root.{is_root}
use Rattle.kbm.specs.Table.{is_table, table_of}
use Rattle.kbm.specs.declared.Kbm.{Kbm}
use Rattle.kbm_read.specs.Language.{MappingText}
use Rattle.kbm_read.specs.Reader.{after_read}
use Rattle.kbm_read.proofs.Tables.{leaves_meaning}
use Rattle.relative.specs.Refusals.{ReachedOrBeyond}
use Rattle.relative.specs.Scales.{tested, is_scale}
use Rattle.relative.proofs.Back.{pick_given, pick_other}
use Rattle.relative.proofs.Places.{items_length}
use Rattle.relative.specs.Pitches.{pitch_of, sorted_pitch_of}
use Rattle.relative.specs.RootedRefusals.{Pitched, pitched, unturned}
use Rattle.tuning.specs.Keys.{key_pitch_of, maybe_pitch_of}
use Rattle.tuning.specs.Refusals.{KeySounds}
use Rattle.tuning.proofs.Theorems.{pitch_of_refusals, pitch_of_key_refusals, sorted_pitch_of_refusals, maybe_pitch_of_refusals}
use Rattle.searching.specs.Search.{search_of}
use Rattle.promises.proofs.tuning.Mappings.{read_root}
use Rattle.promises.proofs.tuning.Scales.{left_is, list_search}

-- ---- A BUILD (held by the machine: what stands in the columns is of their types)
module _ (b : SclBuilder) (t : ItemTable) (l : ListTable) (es : List Entry) (held : AllHeld (items_in b.count t)) (e : built b t l ≡ gives es) where
  -- the tables pass the test of every call
  pub built_passes : is_scale b.count t (after_list (gives es) l) ≡ true
  built_passes = let v = build_leaves b t l es held e in rw (v.items, v.list)

  built_sorted : sorted_of (items_in b.count t) ≡ gives es
  unfolding built
  built_sorted =
      let items = items_in b.count t in
      let r = pick_given (is_ready b t l) (sized_of items) unusable e in
      let s = pick_given (leb (count_of items) 65535) (scale_of items) too_large r.1 in
      pick_other (is_beyond (count_of items) (last_of items)) (sorted_of items) beyond_reach (sym (scale_looks items) ∙ s.1)

  -- and a search of any ratio in 2^-64..2^64 is given: no 18, but for the one item whose ratio is 1.0 ("A search in a scale of one item
  -- with L(period) = 0 gives 18"); only 11 for the degree is left
  pub built_search : (x : Float) → fits binary64 x ≡ true → in_search x ≡ true → (b.count ≡ 1 → ratio_of (last_of (items_in b.count t)) ≡ gives one_f → ⊥)
      → Accepted (search_of (items_in b.count t) (list_in b.count (after_list (gives es) l)) x)
  built_search x fx sx except =
      let items = items_in b.count t in
      let v = build_leaves b t l es held e in
      let n = items_length b.count t v.items in
      let g = list_search items (omega (arith, n)) held (items_usable b.count t v.items) es built_sorted x fx sx (λ two one. except (omega (arith, n, two)) one) in
      let m = left_is b.count es l ((list_leaves items (omega (arith, n)) held (items_usable b.count t v.items) es built_sorted).size ∙ n) in
      record { value = g.value; is = ap (λ (fs : List Entry). search_of items fs x) m ∙ g.is }

-- ---- A READ of a scale
module _ (text : List ℕ) (t : ItemTable) (l : ListTable) {d : List ℕ} {items : List Item} {list : List Entry} (s : ScaleText text d items list) (room : length items < room_of t l) where
  pub read_passes : is_scale (length items) (after_items text t l) (after_sorted text t l) ≡ true
  read_passes = rw ((leaves_items text t l s room).0, (leaves_list text t l s room).0)

  pub read_search : (x : Float) → fits binary64 x ≡ true → in_search x ≡ true → (length items ≡ 1 → ratio_of (last_of (implicit ∷ items)) ≡ gives one_f → ⊥)
      → Accepted (search_of (items_in (length items) (after_items text t l)) (list_in (length items) (after_sorted text t l)) x)
  read_search x fx sx except =
      let so = (text_reading s).sorted in
      let g = list_search (implicit ∷ items) (omega arith) (lines_held s.lines) (lines_usable s.lines) list so x fx sx (λ two one. except (omega (arith, two)) one) in
      let size = (list_leaves (implicit ∷ items) (omega arith) (lines_held s.lines) (lines_usable s.lines) list so).size in
      let m = ap (list_in (length items)) (leaves_list text t l s room).1 ∙ left_is (length items) list l (omega (arith, size)) in
      record { value = g.value; is = ap (λ (is : List Item). search_of is (list_in (length items) (after_sorted text t l)) x) (leaves_items text t l s room).1 ∙ ap (λ (fs : List Entry). search_of (implicit ∷ items) fs x) m ∙ g.is }

  -- ---- and of a mapping beside it
  module _ (mapping : List ℕ) (map : List ℤ) {k : Kbm} {es : List (Option ℤ)} (r : MappingText mapping k es) (fits : length es ≤ length map) where
    only_reached : {p : Said Float} → Pitched k.root p → ReachedOrBeyond p
    only_reached (pitched n h) = h
    only_reached (unturned h e) = absurd ((read_root r).turns h)

    -- the pitch of a degree is refused by 18 alone
    pub read_pitch_of : (z : ℤ) → ReachedOrBeyond (tested (is_items (length items) (after_items text t l) && is_root k.root) (pitch_of (items_in (length items) (after_items text t l)) k.root z))
    read_pitch_of z = only_reached (pitch_of_refusals (length items) (after_items text t l) (leaves_items text t l s room).0 k.root (read_root r).pitch (read_root r).offset z)

    pub read_sorted_pitch_of : (z : ℤ) → ReachedOrBeyond (tested (is_scale (length items) (after_items text t l) (after_sorted text t l) && is_root k.root) (sorted_pitch_of (items_in (length items) (after_items text t l)) (list_in (length items) (after_sorted text t l)) k.root z))
    read_sorted_pitch_of z = only_reached (sorted_pitch_of_refusals (length items) (after_items text t l) (leaves_items text t l s room).0 k.root (read_root r).pitch (read_root r).offset (after_sorted text t l) (leaves_list text t l s room).0 z)

    -- the pitch of a key counted from the reference key: 11 exactly where its distance passes 32 bits, else 18 alone
    pub read_pitch_of_key : (key : PianoKey) → KeySounds k.root (steps_between k.root.reference key) (tested (is_items (length items) (after_items text t l) && is_root k.root) (key_pitch_of (items_in (length items) (after_items text t l)) k.root key))
    read_pitch_of_key key = pitch_of_key_refusals (length items) (after_items text t l) (leaves_items text t l s room).0 k.root (read_root r).pitch (read_root r).offset key

    -- whose offset is never refused
    pub read_turns : {p : Said Float} → Pitched k.root p → ReachedOrBeyond p
    read_turns = only_reached

    -- the pitch of a key of the mapping: 16, 17 or 11 exactly where its degree is refused so, else 18 alone
    pub read_maybe_pitch_of : (key : PianoKey) → KeySounds k.root (degree_of k (table_of k.count (after_read mapping map)) key)
        (tested (is_items (length items) (after_items text t l) && is_root k.root) (tested (is_table k.count (after_read mapping map)) (maybe_pitch_of (items_in (length items) (after_items text t l)) k (after_read mapping map) key)))
    read_maybe_pitch_of key = maybe_pitch_of_refusals (length items) (after_items text t l) (leaves_items text t l s room).0 k (after_read mapping map) (read_root r).pitch (read_root r).offset (leaves_meaning mapping map k es r fits).0 key
