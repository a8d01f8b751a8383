-- A scale built step by step: document 01, "What is taken", 5: "Builder calls act, push for push, as appending to a plain list. A
-- push gives 10 by the readers' limits, then 12; a refused push appends nothing. [..] A build gives [..] 13, then for a scale 18",
-- and "Scale": "A table with no place gives 12, detail 0, before reading or building". A state that does not fit its lent tables
-- gives 10 first. Assumes nothing.
use Rattle.std.specs.Prelude.{◌≡◌, Bool, true, ◌&&◌, ◌↔◌, List, [], ◌∷◌, ◌++◌, ℕ, ◌+◌, ◌-◌, ◌≤◌, leb, ltb, Float, length, drop}
use Rattle.base.specs.Numbers.{unusable, no_room, beyond_reach}
use Rattle.base.specs.Said.{Said, gives, refuses, pick, and_then}
use Rattle.floats.specs.Floats.{one_f}
use Rattle.pitch.specs.Ratios.{as_cents}
use Rattle.sorting.specs.Entries.{Entry}
use Rattle.sorted.specs.Lent.{ListTable, is_list}
use Rattle.scl.specs.Items.{is_usable, ratio_of}
use Rattle.scl.specs.Table.{ItemTable, item_table, items_in, implicit, written_at, is_items}
use Rattle.scl.specs.declared.Item.{Item}
use Rattle.scl.specs.declared.Item.TheVariants.{Cents}
use Rattle.scl_tables.specs.Build.{sized_of, last_of}
use Rattle.scl_tables.specs.Room.{room_of}
use Rattle.scl_build.specs.declared.SclBuilder.{SclBuilder}

abbrev pub state : ℕ → ℕ → SclBuilder
state room count = record { room = room; count = count }

-- ---- a new builder
-- nothing pushed; 12 with no place
abbrev pub builder_of : ItemTable → ListTable → Said SclBuilder
builder_of t l = pick (ltb 0 (room_of t l)) (gives (state (room_of t l) 0)) (refuses no_room 0)

-- "place 0 holds the implicit 0.0 cents"
abbrev pub after_new : ItemTable → ListTable → ItemTable
after_new t l = pick (ltb 0 (room_of t l)) (written_at t 0 implicit) t

-- ---- a push
-- the state is one of these columns: they have its room, and its items have places
abbrev pub fits_items : SclBuilder → ItemTable → Bool
fits_items b t =
    ltb b.count b.room
    && (leb b.room (length t.kinds) && leb b.room (length t.cents) && leb b.room (length t.numers) && leb b.room (length t.denoms))

abbrev pub fits_list : SclBuilder → ListTable → Bool
fits_list b l = leb b.room (length l.places) && leb b.room (length l.ratios) && leb b.room (length l.wraps)

-- 10 for a state of other tables or an unusable item, 12 with no place left
unfoldable pub pushed : SclBuilder → ItemTable → Item → Said SclBuilder
pushed b t item =
    pick (fits_items b t && is_usable item)
    (pick (ltb (b.count + 1) b.room) (gives (state b.room (b.count + 1))) (refuses no_room 0))
    (refuses unusable 0)

-- an item written at a place where a push is accepted; a refusal leaves the table as it was
abbrev pub written_where : Said SclBuilder → ItemTable → ℕ → Item → ItemTable
written_where (gives b) t place item = written_at t place item
written_where (refuses n detail) t place item = t

abbrev pub after_push : SclBuilder → ItemTable → Item → ItemTable
after_push b t item = written_where (pushed b t item) t (b.count + 1) item

-- `push_ratio` is `push_cents` of `as_cents`
unfoldable pub pushed_ratio : SclBuilder → ItemTable → Float → Said SclBuilder
pushed_ratio b t ratio = and_then (as_cents ratio) (λ cents. pushed b t (Cents cents))

abbrev pub after_cents : SclBuilder → ItemTable → Said Float → ItemTable
after_cents b t (gives cents) = after_push b t (Cents cents)
after_cents b t (refuses n detail) = t

unfoldable pub after_ratio : SclBuilder → ItemTable → Float → ItemTable
after_ratio b t ratio = after_cents b t (as_cents ratio)

-- ---- as appending to a plain list
-- a builder, and the items' table it stands beside
pub record Built : Type 0 where
  pub builder : SclBuilder
  pub table : ItemTable

abbrev pub beside : SclBuilder → ItemTable → Built
beside b t = record { builder = b; table = t }

-- the builder that a push leaves: the old one where it is refused
abbrev pub builder_after : SclBuilder → Said SclBuilder → SclBuilder
builder_after old (gives b) = b
builder_after old (refuses n detail) = old

-- one item pushed, whether it is accepted or refused
abbrev pub after_one : Built → Item → Built
after_one s item = beside (builder_after s.builder (pushed s.builder s.table item)) (after_push s.builder s.table item)

-- these items pushed one after the other
unfoldable pub after_all : Built → List Item → Built
after_all s [] = s
after_all s (i ∷ is) = after_all (after_one s i) is

-- the accepted ones of them, where so many places are left: "10 by the readers' limits, then 12; a refused push appends nothing"
unfoldable pub accepted_of : ℕ → List Item → List Item
accepted_of places [] = []
accepted_of places (i ∷ is) = pick (is_usable i && ltb 0 places) (i ∷ accepted_of (places - 1) is) (accepted_of places is)

-- how many items the builder still has places for
abbrev pub places_left : SclBuilder → ℕ
places_left b = b.room - (b.count + 1)

-- what stands after the first n places
abbrev pub behind : ℕ → ItemTable → ItemTable
behind n t = item_table (drop n t.kinds) (drop n t.cents) (drop n t.numers) (drop n t.denoms)

-- these items were appended to the plain list: one count more for each, all places behind them as they were
pub record Appended (s : Built) (is : List Item) (left : Built) : Type 0 where
  pub items : items_in left.builder.count left.table ≡ items_in s.builder.count s.table ++ is
  pub builder : left.builder ≡ state s.builder.room (s.builder.count + length is)
  pub others : behind (s.builder.count + length is + 1) left.table ≡ behind (s.builder.count + length is + 1) s.table
  pub fits : fits_items left.builder left.table ≡ true

-- ---- runs with ratios among them
-- what is pushed: an item, or a ratio
pub data Push : Type 0 where
  item : Item → Push
  ratio : Float → Push

-- one push of either, whether it is accepted or refused
abbrev pub after_pushed : Built → Push → Built
after_pushed s (Push.item i) = after_one s i
after_pushed s (Push.ratio r) = beside (builder_after s.builder (pushed_ratio s.builder s.table r)) (after_ratio s.builder s.table r)

unfoldable pub after_pushes : Built → List Push → Built
after_pushes s [] = s
after_pushes s (p ∷ ps) = after_pushes (after_pushed s p) ps

-- the items that they come to: a ratio is its cents, or nothing where it has none
abbrev pub with_cents : Said Float → List Item → List Item
with_cents (gives cents) is = Cents cents ∷ is
with_cents (refuses n detail) is = is

unfoldable pub items_pushed : List Push → List Item
items_pushed [] = []
items_pushed (Push.item i ∷ ps) = i ∷ items_pushed ps
items_pushed (Push.ratio r ∷ ps) = with_cents (as_cents r) (items_pushed ps)

-- ---- a build
-- the state fits all columns, and each item can be used
abbrev pub is_ready : SclBuilder → ItemTable → ListTable → Bool
is_ready b t l = fits_items b t && (fits_list b l && is_items b.count t)

-- the sorted list: 10, then 13, then 18
unfoldable pub built : SclBuilder → ItemTable → ListTable → Said (List Entry)
built b t l = pick (is_ready b t l) (sized_of (items_in b.count t)) (refuses unusable 0)

-- an accepted build says the builder's count
abbrev pub counted : SclBuilder → Said (List Entry) → Said ℕ
counted b s = and_then s (λ es. gives b.count)

-- what an accepted build leaves: tables that pass every later call's test, and a count of 16 bits
pub record Leaves (count : ℕ) (t : ItemTable) (left : ListTable) : Type 0 where
  pub items : is_items count t ≡ true
  pub list : is_list count left ≡ true
  pub small : count ≤ 65535

-- "then for a scale 18": a state that is ready, two or more items, no more than a scale may have, and the period 1.0
abbrev pub PeriodOne : SclBuilder → ItemTable → ListTable → Type 0
PeriodOne b t l = (is_ready b t l ≡ true) × ((b.count ≤ 65535) × ((2 ≤ b.count) × (ratio_of (last_of (items_in b.count t)) ≡ gives one_f)))

-- what a call of `build` comes to, by what it says and the list that it leaves
pub record Comes (b : SclBuilder) (t : ItemTable) (l : ListTable) (said : Said ℕ) (left : ListTable) : Type 0 where
  pub beyond : (said ≡ refuses beyond_reach 0) ↔ PeriodOne b t l
  pub leaves : (n : ℕ) → said ≡ gives n → Leaves n t left
