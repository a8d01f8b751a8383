-- THE LANGUAGE OF SCALES, document 01, "Lines" and "Scale": which texts are scale files, what one says, and the earliest fault of any
-- other. No reader is named here. Assumes nothing.
use Rattle.std.specs.Prelude.{◌≡◌, false, List, [], ◌∷◌, ◌⊎◌, ℕ, suc, ◌^◌, ◌≤◌, ◌<◌, pos, length}
use Rattle.base.specs.Numbers.{int_value, no_room, too_large, inconsistent_count, beyond_reach}
use Rattle.base.specs.Said.{gives, refuses}
use Rattle.integers.specs.IntegerText.{IntText, NoInteger}
use Rattle.listing.specs.Listing.{Format}
use Rattle.listing.specs.Listing as listing
use Rattle.scl.specs.Table.{implicit}
use Rattle.scl.specs.declared.Item.{Item}
use Rattle.scl_read.specs.ItemText.{ItemText, NoItem}
use Rattle.scl_tables.specs.Build.{scale_of}
use Rattle.sorting.specs.Entries.{Entry}
use Rattle.text.specs.Reading.{Meaning, Says, strict}

-- "Description (the whole trimmed line); note count (u16, 3); then items to the end"
pub data Required : Type 0 where
  description : Required
  count : Required

abbrev pub required : List Required
required = Required.description ∷ Required.count ∷ []

-- a line with content: the whole of it, trimmed, and its token
pub record ContentLine : Type 0 where
  pub whole : List ℕ
  pub token : List ℕ

-- what kind of value a required line has: bytes, and a number
abbrev pub Value : Required → Type 0
Value Required.description = List ℕ
Value Required.count = ℕ

abbrev pub Gives : (f : Required) → ContentLine → Value f → Type 0
Gives Required.description l d = d ≡ l.whole
Gives Required.count l n = IntText false (2 ^ 16) l.token (pos n)

-- n is the first number of 01's order that the line draws there: any line with content is a description
abbrev pub Wrong : Required → ContentLine → ℕ → Type 0
Wrong Required.description l n = ⊥
Wrong Required.count l n = NoInteger int_value false (2 ^ 16) l.token n

-- THE FORMAT: two required lines and then items, each by its token
abbrev pub scale : Format
scale = record {
  Word = ContentLine;
  word = λ m t. record { whole = m; token = t };
  Required = Required;
  required = required;
  Value = Value;
  Seen = Unit {0};
  unseen = tt;
  see = λ f s v. tt;
  Gives = λ f s l v. Gives f l v;
  Wrong = λ f s l n. Wrong f l n;
  Entry = Item;
  Is = λ l i. ItemText l.token i;
  Bad = λ l n. NoItem l.token n;
}

abbrev pub Values : Type 0
Values = listing.Values scale required

abbrev pub description_of : Values → List ℕ
description_of vs = vs.0

abbrev pub declared_count_of : Values → ℕ
declared_count_of vs = vs.1.0

-- THE LANGUAGE: the text s is a scale file with this description, these items after the implicit one, and this sorted list
pub record ScaleText (s description : List ℕ) (items : List Item) (list : List Entry) : Type 0 where
  pub says : List Meaning
  pub text : Says strict s says
  pub values : Values
  pub lines : listing.Begins scale says required values items
  pub not_large : length items ≤ 65535
  pub consistent : length items ≡ declared_count_of values
  pub described : description ≡ description_of values
  pub sorted : scale_of (implicit ∷ items) ≡ gives list

-- the text s is a scale file
abbrev pub IsScale : List ℕ → Type 0
IsScale s = (description : List ℕ) × (items : List Item) × (list : List Entry) × ScaleText s description items list

-- n is the first number that is drawn after the last line: 13, "14 unless items equal the count", 18
abbrev pub WrongEnd : Values → List Item → ℕ → Type 0
WrongEnd vs items n =
    ((n ≡ too_large) × (65535 < length items)) ⊎
    (((n ≡ inconsistent_count) × (length items ≤ 65535) × (length items ≡ declared_count_of vs → ⊥)) ⊎
    ((n ≡ beyond_reach) × (length items ≤ 65535) × (length items ≡ declared_count_of vs) × (scale_of (implicit ∷ items) ≡ refuses beyond_reach 0)))

-- THE EARLIEST FAULT of a text, where the tables have so many places, the first for the implicit item: "A table with no place gives 12,
-- detail 0, before reading"
pub data FaultText (s : List ℕ) (n d : ℕ) : ℕ → Type 0 where
  no_place : n ≡ no_room → d ≡ 0 → FaultText s n d 0
  at_lines : (places : ℕ) (says : List Meaning) → Says strict s says → listing.Fault scale WrongEnd places says n d → FaultText s n d (suc places)
