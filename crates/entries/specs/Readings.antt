-- A read beside a list of structs: "the room for a scale is the shorter of this list and the item table" (document 01, "Scales and
-- searches"), and the list is lent twice, in columns and as structs. Assumes nothing.
use Rattle.std.specs.Prelude.{List, ℕ, min}
use Rattle.base.specs.Said.{Said, gives, refuses}
use Rattle.sorting.specs.Entries.{Entry}
use Rattle.sorted.specs.Lent.{ListTable}
use Rattle.scl.specs.Table.{ItemTable}
use Rattle.scl_tables.specs.Build.{sorted_of}
use Rattle.scl_tables.specs.Room.{room_of}
use Rattle.scl_read.specs.Reader.{read_of, items_read}
use Rattle.scl_read.specs.declared.SclRead.{SclRead}

-- what the text is, where columns and list have so much room
abbrev pub read_in : List ℕ → ItemTable → ListTable → ℕ → Said SclRead
read_in text t l places = read_of (min (room_of t l) places) text

-- how many items are said to be read
abbrev pub count_read : Said SclRead → Said ℕ
count_read (gives r) = gives r.scl.count
count_read (refuses number detail) = refuses number detail

-- their sorted list
abbrev pub sorted_read : List ℕ → Said SclRead → Said (List Entry)
sorted_read text (gives r) = sorted_of (items_read text)
sorted_read text (refuses number detail) = refuses number detail
