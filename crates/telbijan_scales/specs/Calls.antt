-- The contracts of this crate's calls: what is lent, r the result, what is left. Assumes nothing.
use Rattle.std.specs.Prelude.{◌≡◌, true, List, ℕ, Float, length}
use Rattle.base.specs.Said.{Said}
use Rattle.scl.specs.Items.{is_usable, given_ratio}
use Rattle.scl.specs.Table.{ItemTable}
use Rattle.scl.specs.declared.Item.{Item}
use Rattle.scl.specs.declared.Scl.{Scl}
use Rattle.sorted.specs.Lent.{ListTable}
use Rattle.scl_tables.specs.Build.{after_list}
use Rattle.scl_tables.specs.Room.{room_of}
use Rattle.scl_build.specs.Builder.{state, builder_of, after_new, pushed, after_push, pushed_ratio, after_ratio, built, counted, Comes}
use Rattle.scl_read.specs.Reader.{read_of, after_items, after_sorted}
use Rattle.scl_read.specs.declared.SclRead.{SclRead}
use Rattle.writing.specs.Fitted.{text_length}
use Rattle.scl_write.specs.Export.{export_of, NeverFull}
use Rattle.generate.specs.Generated.{counted_of, items_left, list_left}
use Rattle.telbijan_answers.specs.Interface.{result, kept, field_of}
use Rattle.telbijan_answers.specs.Calls.{Stored, Written}

-- the ratio of an item is stored; each item that can be used has one
abbrev pub ItemAsRatio : Item → Float → ℕ → Float → Type 0
ItemAsRatio item old r ratio = (Stored (given_ratio item) old r ratio) × (is_usable item ≡ true → r ≡ 0)

-- the three numbers of a read: the count of items, and where the description starts and ends
abbrev pub read_with : ℕ → ℕ → ℕ → SclRead
read_with count start end = record { scl = record { count = count }; description = record { start = start; end = end } }

-- a text is read into lent columns; `old` and `new` are the three numbers behind the pointers
abbrev pub ReadScl : List ℕ → ItemTable → ListTable → SclRead → ℕ → ItemTable → ListTable → SclRead → Type 0
ReadScl text t l old r items list new =
    (r ≡ result (read_of (room_of t l) text)) × (items ≡ after_items text t l) × (list ≡ after_sorted text t l)
    × (new ≡ kept (read_of (room_of t l) text) old)

-- a builder with nothing pushed: place 0 is written, and the room is stored
abbrev pub NewScl : ItemTable → ListTable → ℕ → ℕ → ItemTable → ℕ → Type 0
NewScl t l old r items places =
    (r ≡ result (builder_of t l)) × (items ≡ after_new t l) × (places ≡ kept (field_of (λ b. b.room) (builder_of t l)) old)

-- one item more, at place `count` + 1 of columns of `room` places; the new count is stored
abbrev pub PushItem : Item → ItemTable → ℕ → ℕ → ℕ → ℕ → ItemTable → ℕ → Type 0
PushItem item t room count old r items next =
    (r ≡ result (pushed (state room count) t item)) × (items ≡ after_push (state room count) t item)
    × (next ≡ kept (field_of (λ b. b.count) (pushed (state room count) t item)) old)

-- the same of a ratio, which is kept as its cents
abbrev pub PushRatio : Float → ItemTable → ℕ → ℕ → ℕ → ℕ → ItemTable → ℕ → Type 0
PushRatio value t room count old r items next =
    (r ≡ result (pushed_ratio (state room count) t value)) × (items ≡ after_ratio (state room count) t value)
    × (next ≡ kept (field_of (λ b. b.count) (pushed_ratio (state room count) t value)) old)

-- of the items that were pushed: the sorted list is written, and their count is stored
abbrev pub BuildScl : ItemTable → ListTable → ℕ → ℕ → ℕ → ℕ → ListTable → ℕ → Type 0
BuildScl t l room count old r list size =
    (r ≡ result (counted (state room count) (built (state room count) t l))) × (list ≡ after_list (built (state room count) t l) l)
    × (size ≡ kept (counted (state room count) (built (state room count) t l)) old)
    × (Comes (state room count) t l (counted (state room count) (built (state room count) t l)) list)

-- the text of a scale is written into the lent bytes, and its length is stored; never 12 where these are enough
abbrev pub ExportScl : List ℕ → ItemTable → Scl → List ℕ → ℕ → ℕ → List ℕ → ℕ → Type 0
ExportScl description t scl out size r bytes written =
    (Written (export_of scl t description (length out)) out size r bytes written)
    × (NeverFull scl description (length out) (text_length (export_of scl t description (length out))))

-- the items that a generator made: they and their sorted list are written, and their count is stored
abbrev pub CreateScale : Said (List Item) → ItemTable → ListTable → ℕ → ℕ → ItemTable → ListTable → ℕ → Type 0
CreateScale made t l old r items list count =
    (r ≡ result (counted_of made)) × (items ≡ items_left made t l) × (list ≡ list_left made t l) × (count ≡ kept (counted_of made) old)
