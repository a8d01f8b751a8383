-- Document 01, "Writing": the bytes that a scale is written as, "SCL: description, item count, items (place 0 omitted). .. A
-- description that is not UTF-8 gives 10; any other is copied as it is. .. Every line ends in LF. Cents .. have three decimals, from
-- the exact value, ties to even, sign kept .. Integers and fractions as declared." Assumes nothing.
use Rattle.std.specs.Prelude.{◌≡◌, false, ◌&&◌, List, [], ◌∷◌, ◌++◌, ℕ, ◌+◌, ◌*◌, ◌≤◌, pos, length, drop, get_or, Some, None}
use Rattle.std.specs.Float.{nan}
use Rattle.base.specs.Numbers.{unusable, no_room}
use Rattle.base.specs.Said.{Said, refuses, pick}
use Rattle.printing.specs.PrintText.{text_of, whole_text}
use Rattle.utf8.specs.Characters.{Utf8}
use Rattle.utf8.specs.Utf8Machine.{utf8_from, none_due}
use Rattle.writing.specs.Fitted.{fitted}
use Rattle.writing.specs.Lines.{lines_text, number_text}
use Rattle.scl.specs.Table.{ItemTable, Items, item_of, items_in, is_items}
use Rattle.scl.specs.declared.Item.{Item}
use Rattle.scl.specs.declared.Item.TheVariants.{Cents, Fraction}
use Rattle.scl.specs.declared.Scl.{Scl}

-- an item: cents with three decimals; numerator, slash and denominator; or the integer
abbrev pub item_text : Item → List ℕ
item_text (Cents c) = text_of 3 false c
item_text (Fraction n (Some d)) = number_text n 47 ++ whole_text (pos d)
item_text (Fraction n None) = whole_text (pos n)

-- the items, one to a line
unfoldable pub item_texts : List Item → List (List ℕ)
item_texts [] = []
item_texts (i ∷ is) = item_text i ∷ item_texts is

-- the item at a place of a table
abbrev pub standing : ItemTable → ℕ → Item
standing t i = item_of (get_or t.kinds i 0) (get_or t.cents i nan) (get_or t.numers i 0) (get_or t.denoms i 0)

-- the items that are written: "place 0 omitted"
abbrev pub listed_in : ℕ → ItemTable → List Item
listed_in count table = drop 1 (items_in count table)

-- the lines: description, item count, items
abbrev pub scale_texts : List ℕ → List Item → List (List ℕ)
scale_texts description items = description ∷ whole_text (pos (length items)) ∷ item_texts items

abbrev pub scale_text : List ℕ → List Item → List ℕ
scale_text description items = lines_text (scale_texts description items)

-- the bytes of a scale
abbrev pub export_text : Scl → ItemTable → List ℕ → List ℕ
export_text scl table description = scale_text description (listed_in scl.count table)

-- what an export writes into so many bytes: 10 for unusable items or a description that is not UTF-8, before 12
unfoldable pub export_of : Scl → ItemTable → List ℕ → ℕ → Said (List ℕ)
export_of scl table description room =
    pick (is_items scl.count table && utf8_from none_due description) (fitted room (export_text scl table description)) (refuses unusable 0)

-- so many bytes are enough: with them 12 is not said
abbrev pub NeverFull : Scl → List ℕ → ℕ → Said ℕ → Type 0
NeverFull scl description room said = length description + 7 + 22 * scl.count ≤ room → said ≡ refuses no_room 0 → ⊥

-- a scale that can be written: "10 and 11 come before 12"
pub record Writable (scl : Scl) (table : ItemTable) (description : List ℕ) : Type 0 where
  pub items : Items scl.count table
  pub description_is : Utf8 description
