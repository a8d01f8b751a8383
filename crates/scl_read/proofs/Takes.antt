-- The laws of what a line adds: what a call answered, and what a match made of it. Assumes nothing.
use Rattle.std.specs.Prelude.{Err, Ok, Result}
use mathlib.Core.Path.{◌≡◌}
use mathlib.Core.List.{List}
use Prim.Native.Nat.{ℕ, ◌+◌, ◌≤◌, ◌<◌}
use borrow.Author.Tests.{lt-ltb, le-ltb, le-leb, lt-leb}
use Rattle.base.specs.Numbers.{no_room, number_of}
use Rattle.base.specs.declared.Reason.{Reason}
use Rattle.base.specs.Said.{gives, refuses}
use Rattle.scl.specs.declared.Item.{Item}
use Rattle.text.specs.Part.{part}
use Rattle.text.specs.ReadLine.{shown}
use Rattle.text.specs.declared.line.LineSays.{LineSays}
use Rattle.text.specs.declared.line.LineSays.TheVariants.{Content}
use Rattle.scl_read.specs.Tokens.{item_in}
use Rattle.scl_read.specs.Steps.{take_item, take_due, take_token, take_meaning, found_item, found_in}
use Rattle.scl_read.specs.declared.line.Found.TheVariants as found
use Rattle.scl_read.specs.declared.line.Due.{Due}
use Rattle.scl_read.specs.declared.line.Due.TheVariants as due
use Rattle.scl_read.specs.declared.line.State.{State}

-- an item: r is what `read_item` answered
module _ (places k : ℕ) (t : List ℕ) (s : State) {r : (Result Item Reason)} (e : r ≡ item_in t) where
  pub item_none : {n : Reason} → r ≡ Err n → refuses (number_of n) k ≡ take_item places k t s
  item_none q = rw (← e, q)

  module _ {i : Item} (q : r ≡ Ok i) where
    pub item_full : places ≤ s.count → refuses no_room k ≡ take_item places k t s
    item_full f = rw (← e, q, le-leb places s.count f)

    pub item_more : s.count < places → gives (record { due = due.Items; declared = s.declared; count = s.count + 1; last = i }) ≡ take_item places k t s
    item_more f = rw (← e, q, lt-leb places s.count f)

-- the line that is due
pub due_step : (places k : ℕ) (t : List ℕ) (s : State) {d : Due} → s.due ≡ d → take_due places k t s d ≡ take_token places k t s
unfolding take_token
due_step places k t s e = rw e

-- what a line says, as a match told it
pub meaning_step : (places k : ℕ) (text : List ℕ) (s : State) {x y : LineSays} → x ≡ y → take_meaning places k (shown text y) s ≡ take_meaning places k (shown text x) s
meaning_step places k text s e = rw e

-- what a line gives the table, as a match told it
module _ (n : ℕ) (text : List ℕ) {x : LineSays} where
  pub found_step : {y : LineSays} → x ≡ y → found_in n (shown text y) ≡ found_in n (shown text x)
  found_step q = rw q

  module _ {a e t : ℕ} (q : x ≡ Content a e t) where
    pub found_required : 0 < n → found.Required ≡ found_in n (shown text x)
    found_required h = rw (q, lt-ltb 0 n h)

    pub found_item_law : n ≤ 0 → {r r' : (Result Item Reason)} → r ≡ item_in (part text a t) → r ≡ r' → found_item r' ≡ found_in n (shown text x)
    found_item_law h p g = rw (q, le-ltb 0 n h, ← p, g)
