-- A scale's lent table of items, as the interface fixes it: four columns, and what they must be to be used ("Before all else a
-- call on lent tables gives 10 unless the count fits them, items are usable"). "Item j takes place j; place 0 holds the implicit
-- 0.0 cents". Assumes nothing.
use Rattle.std.specs.Prelude.{◌≡◌, Bool, true, ◌&&◌, List, [], ◌∷◌, ℕ, ◌+◌, ◌^◌, ◌<◌, eqb, ltb, length, get_or, set, take, Float, Some, None}
use Rattle.std.specs.Float.{nan}
use Rattle.base.specs.Said.{pick}
use Rattle.floats.specs.Floats.{zero_f}
use Rattle.scl.specs.Items.{is_usable}
use Rattle.scl.specs.declared.Item.{Item}
use Rattle.scl.specs.declared.Item.TheVariants.{Cents, Fraction}

-- the four columns
pub record ItemTable : Type 0 where
  pub kinds : List ℕ
  pub cents : List Float
  pub numers : List ℕ
  pub denoms : List ℕ

abbrev pub item_table : List ℕ → List Float → List ℕ → List ℕ → ItemTable
item_table ks cs ns ds = record { kinds = ks; cents = cs; numers = ns; denoms = ds }

-- what columns of u32 hold: numbers of 32 bits
pub record Typed (t : ItemTable) : Type 0 where
  pub numers : (i : ℕ) → get_or t.numers i 0 < 2 ^ 32
  pub denoms : (i : ℕ) → get_or t.denoms i 0 < 2 ^ 32

-- ---- reading an item
-- no item: it cannot be used
abbrev pub no_item : Item
no_item = Cents nan

-- kind 0: cents; 1: the fraction numer/denom; 2: the integer numer (denominator lacking); no item at any other kind
abbrev pub item_of : ℕ → Float → ℕ → ℕ → Item
item_of kind cents numer denom = pick (eqb kind 0) (Cents cents) (pick (eqb kind 1) (Fraction numer (Some denom)) (pick (eqb kind 2) (Fraction numer None) no_item))

-- a place of each column
pub record IsPlace (t : ItemTable) (i : ℕ) : Type 0 where
  pub kinds : i < length t.kinds
  pub cents : i < length t.cents
  pub numers : i < length t.numers
  pub denoms : i < length t.denoms

-- the item that stands there
abbrev pub item_at : ItemTable → ℕ → Item
item_at t i = item_of (get_or t.kinds i 0) (get_or t.cents i nan) (get_or t.numers i 0) (get_or t.denoms i 0)

-- four columns as one list of items
unfoldable pub items_of : List ℕ → List Float → List ℕ → List ℕ → List Item
items_of [] cs ns ds = []
items_of (k ∷ ks) [] ns ds = []
items_of (k ∷ ks) (c ∷ cs) [] ds = []
items_of (k ∷ ks) (c ∷ cs) (n ∷ ns) [] = []
items_of (k ∷ ks) (c ∷ cs) (n ∷ ns) (d ∷ ds) = item_of k c n d ∷ items_of ks cs ns ds

-- the list that a table of count items stands for: place 0 and the items after it; the columns may be longer
abbrev pub items_in : ℕ → ItemTable → List Item
items_in count t = items_of (take (count + 1) t.kinds) (take (count + 1) t.cents) (take (count + 1) t.numers) (take (count + 1) t.denoms)

-- what place 0 holds: "the implicit 0.0 cents"
abbrev pub implicit : Item
implicit = Cents zero_f

-- ---- writing an item
abbrev pub kind_of : Item → ℕ
kind_of (Cents c) = 0
kind_of (Fraction n (Some d)) = 1
kind_of (Fraction n None) = 2

-- what a kind does not use is stored as 0
abbrev pub cents_of : Item → Float
cents_of (Cents c) = c
cents_of (Fraction n d) = zero_f

abbrev pub numer_of : Item → ℕ
numer_of (Cents c) = 0
numer_of (Fraction n d) = n

abbrev pub denom_at : Item → ℕ
denom_at (Cents c) = 0
denom_at (Fraction n (Some d)) = d
denom_at (Fraction n None) = 0

-- the table with an item written at a place
abbrev pub written_at : ItemTable → ℕ → Item → ItemTable
written_at t place item = record {
  kinds = set t.kinds place (kind_of item);
  cents = set t.cents place (cents_of item);
  numers = set t.numers place (numer_of item);
  denoms = set t.denoms place (denom_at item);
}

-- ---- the test of a lent table
-- each of these items can be used
unfoldable pub are_usable : List Item → Bool
are_usable [] = true
are_usable (i ∷ is) = is_usable i && are_usable is

-- each column has a place for count items after place 0
abbrev pub have_items : ℕ → ItemTable → Bool
have_items count t = ltb count (length t.kinds) && ltb count (length t.cents) && ltb count (length t.numers) && ltb count (length t.denoms)

abbrev pub is_items : ℕ → ItemTable → Bool
is_items count t = have_items count t && are_usable (items_in count t)

-- the same as a musician would say it
pub record Items (count : ℕ) (t : ItemTable) : Type 0 where
  pub kinds_room : count < length t.kinds
  pub cents_room : count < length t.cents
  pub numers_room : count < length t.numers
  pub denoms_room : count < length t.denoms
  pub usable : (i : ℕ) → i < length (items_in count t) → is_usable (get_or (items_in count t) i no_item) ≡ true
