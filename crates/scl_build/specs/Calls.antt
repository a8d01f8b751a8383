-- A RUN OF BUILDER CALLS, in any order and refused ones too, and the plain list beside it: document 01, "What is taken", 5: "Builder
-- calls act, push for push, as appending to a plain list. A push gives 10 by the readers' limits, then 12; a refused push appends
-- nothing". The plain list is of the items after place 0. Assumes nothing.
use Rattle.std.specs.Prelude.{◌≡◌, true, List, [], ◌∷◌, ◌++◌, ℕ, ◌+◌, ltb, Float, length, Some, None}
use Rattle.base.specs.Numbers.{unusable, no_room}
use Rattle.base.specs.Said.{Said, gives, refuses, pick, and_then}
use Rattle.pitch.specs.Ratios.{as_cents}
use Rattle.sorted.specs.Lent.{ListTable}
use Rattle.scl.specs.Items.{is_usable}
use Rattle.scl.specs.Table.{ItemTable, items_in, implicit, is_items}
use Rattle.scl.specs.declared.Item.{Item}
use Rattle.scl.specs.declared.Item.TheVariants.{Cents, Fraction}
use Rattle.scl_tables.specs.Build.{sized_of}
use Rattle.scl_tables.specs.Room.{room_of}
use Rattle.scl_build.specs.Builder.{state, pushed, after_push, pushed_ratio, after_ratio, Built, beside, builder_after}
use Rattle.scl_build.specs.Builder.{behind, with_cents, built, counted}
use Rattle.scl_build.specs.declared.SclBuilder.{SclBuilder}

-- a call on a builder: `push_cents`, `push_ratio`, `push_int`, `push_fraction`
pub data Call : Type 0 where
  cents : Float → Call
  ratio : Float → Call
  int : ℕ → Call
  fraction : ℕ → ℕ → Call

-- ---- the builder
-- what a call says, and the table that it leaves
abbrev pub says_call : Built → Call → Said SclBuilder
says_call s (Call.cents c) = pushed s.builder s.table (Cents c)
says_call s (Call.ratio r) = pushed_ratio s.builder s.table r
says_call s (Call.int n) = pushed s.builder s.table (Fraction n None)
says_call s (Call.fraction n d) = pushed s.builder s.table (Fraction n (Some d))

abbrev pub table_after : Built → Call → ItemTable
table_after s (Call.cents c) = after_push s.builder s.table (Cents c)
table_after s (Call.ratio r) = after_ratio s.builder s.table r
table_after s (Call.int n) = after_push s.builder s.table (Fraction n None)
table_after s (Call.fraction n d) = after_push s.builder s.table (Fraction n (Some d))

-- one call, whether it is accepted or refused
abbrev pub after_call : Built → Call → Built
after_call s c = beside (builder_after s.builder (says_call s c)) (table_after s c)

-- these calls one after the other
unfoldable pub after_calls : Built → List Call → Built
after_calls s [] = s
after_calls s (c ∷ cs) = after_calls (after_call s c) cs

-- ---- the plain list
-- the item that a call pushes: a ratio is its cents, where it has them
abbrev pub item_pushed : Call → Said Item
item_pushed (Call.cents c) = gives (Cents c)
item_pushed (Call.ratio r) = and_then (as_cents r) (λ c. gives (Cents c))
item_pushed (Call.int n) = gives (Fraction n None)
item_pushed (Call.fraction n d) = gives (Fraction n (Some d))

-- one item more: "10 by the readers' limits, then 12" where all of so many places, place 0 among them, are taken
abbrev pub plain_push : ℕ → List Item → Item → Said (List Item)
plain_push room is i = pick (is_usable i) (pick (ltb (length is + 1) room) (gives (is ++ (i ∷ []))) (refuses no_room 0)) (refuses unusable 0)

abbrev pub plain_call : ℕ → List Item → Call → Said (List Item)
plain_call room is c = and_then (item_pushed c) (plain_push room is)

-- "a refused push appends nothing"
abbrev pub plain_after : List Item → Said (List Item) → List Item
plain_after old (gives is) = is
plain_after old (refuses n detail) = old

unfoldable pub plain_calls : ℕ → List Item → List Call → List Item
plain_calls room is [] = is
plain_calls room is (c ∷ cs) = plain_calls room (plain_after is (plain_call room is c)) cs

-- the items of all calls: a ratio is its cents, or nothing where it has none
unfoldable pub items_given : List Call → List Item
items_given [] = []
items_given (Call.cents c ∷ cs) = Cents c ∷ items_given cs
items_given (Call.ratio r ∷ cs) = with_cents (as_cents r) (items_given cs)
items_given (Call.int n ∷ cs) = Fraction n None ∷ items_given cs
items_given (Call.fraction n d ∷ cs) = Fraction n (Some d) ∷ items_given cs

-- ---- both
-- the builder of a plain list, of tables of so many places
abbrev pub builder_for : ℕ → List Item → SclBuilder
builder_for room is = state room (length is)

-- how long the columns are
abbrev pub lengths_of : ItemTable → List ℕ
lengths_of t = length t.kinds ∷ length t.cents ∷ length t.numers ∷ length t.denoms ∷ []

-- THE BUILDER ACTS AS THE PLAIN LIST: of the lent table t the first places hold 0.0 cents and its items and the others are as they were;
-- the next call says the builder of the list with one item more, or the list's refusal; and a build, into a list's columns l, has the
-- sorted list of the plain list, and says its count: 13, then 18, and no 10
pub record Acts (t : ItemTable) (l : ListTable) (is : List Item) (s : Built) : Type 0 where
  pub builder : s.builder ≡ builder_for (room_of t l) is
  pub items : items_in (length is) s.table ≡ implicit ∷ is
  pub others : behind (length is + 1) s.table ≡ behind (length is + 1) t
  pub places : lengths_of s.table ≡ lengths_of t
  pub usable : is_items (length is) s.table ≡ true
  pub next : (c : Call) → says_call s c ≡ and_then (plain_call (room_of t l) is c) (λ js. gives (builder_for (room_of t l) js))
  pub scale : built s.builder s.table l ≡ sized_of (implicit ∷ is)
  pub answer : counted s.builder (built s.builder s.table l) ≡ and_then (sized_of (implicit ∷ is)) (λ es. gives (length is))
