-- What the calls on items come to, and that each has one result. Document 01, "Scale". Assumes nothing.
use Rattle.std.specs.Prelude.{Option}
use mathlib.Core.Path.{◌≡◌}
use mathlib.Core.Bool.{true}
use Prim.Native.Nat.{ℕ}
use lib.Ieee.{Float, nan}
use mathlib.Core.List.{List}
use lib.ListN.{length, get_or, take}
use Rattle.base.specs.Said.{Said, One}
use Rattle.base.proofs.Said.{one_result, one_read}
use Rattle.pitch.specs.Answers.{says_ratio}
use Rattle.pitch.proofs.Theorems.{ratio_one}
use Rattle.scl.specs.Answers.{says_scl}
use Rattle.scl.specs.Items.{is_usable_cents, is_usable, denom_of, ratio_of, given_ratio, Reached, Held}
use Rattle.scl.specs.Table.{ItemTable, item_table, item_of, item_at, is_items}
use Rattle.scl.specs.declared.Item.{Item}
use Rattle.scl.proofs.Items.{item_ratio, ratio_reached}

-- "Usable: numerator and denominator at least 1; cents from -38,400 to 38,400": the ratio of such an item lies in 2^-32..2^32, so
-- it never gives 18 (the contract of `as_ratio` says it of the call, whose numbers are of 32 bits)
pub usable_ratio : (i : Item) → Held i → is_usable i ≡ true → Reached (ratio_of i)
usable_ratio i h u = ratio_reached (item_ratio i h u)

pub scl_one : (s : Said ℕ) → One says_scl s
scl_one = one_read (λ x. x.count) (λ a b e i. record { count = e i })

pub is_usable_cents_one : (cents : Float) → One (λ r. r) (is_usable_cents cents)
is_usable_cents_one cents = one_result (is_usable_cents cents)

pub denom_of_one : (d : (Option ℕ)) → One (λ r. r) (denom_of d)
denom_of_one d = one_result (denom_of d)

pub is_usable_one : (i : Item) → One (λ r. r) (is_usable i)
is_usable_one i = one_result (is_usable i)

pub as_ratio_one : (i : Item) → One says_ratio (given_ratio i)
as_ratio_one i = ratio_one (given_ratio i)

pub item_of_one : (kind : ℕ) (cents : Float) (numer denom : ℕ) → One (λ r. r) (item_of kind cents numer denom)
item_of_one kind cents numer denom = one_result (item_of kind cents numer denom)

pub item_at_one : (t : ItemTable) (i : ℕ) → One (λ r. r) (item_of (get_or t.kinds i 0) (get_or t.cents i nan) (get_or t.numers i 0) (get_or t.denoms i 0))
item_at_one t i = one_result (item_of (get_or t.kinds i 0) (get_or t.cents i nan) (get_or t.numers i 0) (get_or t.denoms i 0))

pub is_items_one : (t : ItemTable) (count : ℕ) → One (λ r. r) (is_items count t)
is_items_one t count = one_result (is_items count t)

-- the columns that are lent to be read
pub columns_new_one : (ks : List ℕ) (cs : List Float) (ns ds : List ℕ) → One (λ r. r) (item_table ks cs ns ds)
columns_new_one ks cs ns ds = one_result (item_table ks cs ns ds)

pub columns_len_one : (t : ItemTable) → One (λ r. r) (length t.kinds)
columns_len_one t = one_result (length t.kinds)

pub columns_first_one : (t : ItemTable) (n : ℕ) → One (λ r. r) (item_table (take n t.kinds) (take n t.cents) (take n t.numers) (take n t.denoms))
columns_first_one t n = one_result (item_table (take n t.kinds) (take n t.cents) (take n t.numers) (take n t.denoms))

pub columns_item_one : (t : ItemTable) (i : ℕ) → One (λ r. r) (item_at t i)
columns_item_one t i = one_result (item_at t i)

pub columns_holds_one : (t : ItemTable) (count : ℕ) → One (λ r. r) (is_items count t)
columns_holds_one t count = one_result (is_items count t)
