-- Document 01, "Scale": what the reader computes, by what the lines of the text say. `Language` says what a scale file is,
-- `proofs/Language` that the two agree. Assumes nothing.
use Rattle.std.specs.Prelude.{◌≡◌, List, [], ◌∷◌, ℕ, zero, suc, ◌+◌, ltb, eqb, Err, Ok, Result}
use Rattle.base.specs.Numbers.{line_missing, no_room, too_large, inconsistent_count, beyond_reach}
use Rattle.base.specs.declared.Reason.{Reason}
use Rattle.base.specs.Said.{Said, gives, refuses, pick, and_then}
use Rattle.listing.specs.Reader.{walk_lines, given_after}
use Rattle.scl.specs.Table.{ItemTable, implicit, written_at}
use Rattle.scl.specs.declared.Item.{Item}
use Rattle.scl_read.specs.Tokens.{item_in}
use Rattle.scl_tables.specs.Build.{sorted_of, is_beyond, after_list}
use Rattle.scl_tables.specs.Room.{room_of}
use Rattle.sorted.specs.Lent.{ListTable}
use Rattle.sorting.specs.Entries.{Entry}
use Rattle.text.specs.Placed.{placed_in}
use Rattle.text.specs.Part.{part}
use Rattle.text.specs.ReadLine.{said_in}
use Rattle.text.specs.Reading.{Meaning}
use Rattle.text.specs.declared.line.LineSays.{LineSays}
use Rattle.text.specs.declared.line.LineSays.TheVariants.{NotUtf8, Blank, Comment, Content}
use Rattle.scl_read.specs.declared.Description.{Description}
use Rattle.scl_read.specs.declared.SclRead.{SclRead}
use Rattle.scl_read.specs.declared.line.Due.{Due}
use Rattle.scl_read.specs.declared.line.Due.TheVariants as due
use Rattle.scl_read.specs.declared.line.State.{State}
pub use Rattle.scl_read.specs.Steps.{take_count, item_placed, take_item, take_due, take_meaning, found_item, found_in}
unfoldable pub use Rattle.scl_read.specs.Steps.{take_token}

-- which required line is missing, counted from 1; 0 for none
abbrev pub which_of : Due → ℕ
which_of due.Description = 1
which_of due.Count = 2
which_of due.Items = 0

-- after the last line: 2; 13; 14; 18; else how many items there are
unfoldable pub finished : State → Said ℕ
finished s =
    pick (ltb 0 (which_of s.due)) (refuses line_missing (which_of s.due))
    (pick (ltb 65535 s.count) (refuses too_large 0)
    (pick (eqb s.count s.declared)
    (pick (is_beyond s.count s.last) (refuses beyond_reach 0) (gives s.count))
    (refuses inconsistent_count 0)))

-- before the first line
abbrev pub unread : State
unread = record { due = due.Description; declared = 0; count = 0; last = implicit }

-- THE FIRST PASS: how many items a text has, where so many have a place; or a refusal
abbrev pub walk : ℕ → ℕ → State → List Meaning → Said ℕ
walk places = walk_lines (take_meaning places) finished

abbrev pub check_of : ℕ → List ℕ → Said ℕ
check_of places text = walk places 1 unread (said_in text)

-- the item of a line after the required ones, where it is one
abbrev pub listed : (Result Item Reason) → List Item
listed (Ok i) = i ∷ []
listed (Err n) = []

-- the items that lines give, after n required ones
abbrev pub given_from : ℕ → List Meaning → List Item
given_from = given_after (λ m t. listed (item_in t))

abbrev pub given_in : List ℕ → List Item
given_in text = given_from 2 (said_in text)

-- the items of the scale: the implicit one, and those that are given
abbrev pub items_read : List ℕ → List Item
items_read text = implicit ∷ given_in text

-- the first part that is content
abbrev pub first_content : List LineSays → Description
first_content [] = record { start = 0; end = 0 }
first_content (NotUtf8 ∷ xs) = first_content xs
first_content (Blank ∷ xs) = first_content xs
first_content (Comment ∷ xs) = first_content xs
first_content (Content a e t ∷ xs) = record { start = a; end = e }

-- the description, as a part of the text
unfoldable pub description_in : List ℕ → Description
description_in text = first_content (placed_in text)

-- a scale of n items that was read
abbrev pub scale_read : ℕ → List ℕ → SclRead
scale_read n text = record { scl = record { count = n }; description = description_in text }

-- THE READER: the scale that a text is, where the tables have so many places, the first for the implicit item; or a refusal
abbrev pub read_of : ℕ → List ℕ → Said SclRead
read_of zero text = refuses no_room 0
read_of (suc places) text = and_then (check_of places text) (λ n. gives (scale_read n text))

-- what the reader finds in an accepted text: its description, its items, and the sorted list that is written
pub record ReaderFinds (s description : List ℕ) (items : List Item) (list : List Entry) : Type 0 where
  pub described : part s (description_in s).start (description_in s).end ≡ description
  pub given : given_in s ≡ items
  pub sorted : sorted_of (implicit ∷ items) ≡ gives list

-- items written at places k, k + 1, ..
unfoldable pub written_from : ItemTable → ℕ → List Item → ItemTable
written_from t k [] = t
written_from t k (i ∷ is) = written_from (written_at t k i) (k + 1) is

-- THE TABLES after a read: an accepted text's items, and their sorted list; a refusal leaves them as they were
abbrev pub items_after : Said SclRead → List ℕ → ItemTable → ItemTable
items_after (gives r) text t = written_from t 0 (items_read text)
items_after (refuses n d) text t = t

abbrev pub sorted_after : Said SclRead → List ℕ → ListTable → ListTable
sorted_after (gives r) text l = after_list (sorted_of (items_read text)) l
sorted_after (refuses n d) text l = l

abbrev pub after_items : List ℕ → ItemTable → ListTable → ItemTable
after_items text t l = items_after (read_of (room_of t l) text) text t

abbrev pub after_sorted : List ℕ → ItemTable → ListTable → ListTable
after_sorted text t l = sorted_after (read_of (room_of t l) text) text l
