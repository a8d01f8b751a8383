-- Document 01, "Scale": what one line of a scale file adds to what the lines before it said, and what it gives the table. Assumes nothing.
use Rattle.std.specs.Prelude.{false, List, ℕ, ◌+◌, ◌^◌, leb, ltb, nat_abs, Err, Ok, Result}
use Rattle.base.specs.Numbers.{not_utf8, int_value, no_room, number_of}
use Rattle.base.specs.declared.Reason.{Reason}
use Rattle.scl.specs.declared.Item.{Item}
use Rattle.base.specs.Said.{Said, gives, refuses, pick, and_then}
use Rattle.integers.specs.AtLine.{int_at}
use Rattle.integers.specs.Integer.{read_int}
use Rattle.text.specs.Reading.{Meaning, invalid, blank, comment, content}
use Rattle.scl_read.specs.Tokens.{item_in}
use Rattle.scl_read.specs.declared.line.Found.{Found}
use Rattle.scl_read.specs.declared.line.Found.TheVariants as found
use Rattle.scl_read.specs.declared.line.Due.{Due}
use Rattle.scl_read.specs.declared.line.Due.TheVariants as due
use Rattle.scl_read.specs.declared.line.State.{State}

-- the number of notes at line k
abbrev pub take_count : ℕ → List ℕ → State → Said State
take_count k t s =
    and_then (int_at int_value k (read_int false (2 ^ 16) t)) (λ z. gives (record { due = due.Items; declared = nat_abs z; count = s.count; last = s.last }))

-- an item takes a place: 12 where there is none
abbrev pub item_placed : ℕ → ℕ → State → (Result Item Reason) → Said State
item_placed places k s (Ok i) = pick (leb places s.count) (refuses no_room k) (gives (record { due = due.Items; declared = s.declared; count = s.count + 1; last = i }))
item_placed places k s (Err r) = refuses (number_of r) k

abbrev pub take_item : ℕ → ℕ → List ℕ → State → Said State
take_item places k t s = item_placed places k s (item_in t)

-- the token of the line that is due
abbrev pub take_due : ℕ → ℕ → List ℕ → State → Due → Said State
take_due places k t s due.Description = gives (record { due = due.Count; declared = s.declared; count = s.count; last = s.last })
take_due places k t s due.Count = take_count k t s
take_due places k t s due.Items = take_item places k t s

unfoldable pub take_token : ℕ → ℕ → List ℕ → State → Said State
take_token places k t s = take_due places k t s s.due

-- what line k says
abbrev pub take_meaning : ℕ → ℕ → Meaning → State → Said State
take_meaning places k invalid s = refuses not_utf8 k
take_meaning places k blank s = gives s
take_meaning places k comment s = gives s
take_meaning places k (content m t) s = take_token places k t s

-- an item, where the token is one
abbrev pub found_item : (Result Item Reason) → Found
found_item (Ok i) = found.Is i
found_item (Err n) = found.Nothing

-- what a line gives the table, where n required lines are still to come
abbrev pub found_in : ℕ → Meaning → Found
found_in n invalid = found.Nothing
found_in n blank = found.Nothing
found_in n comment = found.Nothing
found_in n (content m t) = pick (ltb 0 n) found.Required (found_item (item_in t))
