-- The items of columns of u32 are what the machine holds. Assumes nothing.
use Rattle.std.specs.Prelude.{Some, None}
use mathlib.Core.Bool.{Bool, true, false}
use mathlib.Core.List.{List, [], ◌∷◌}
use Prim.Native.Nat.{ℕ, zero, suc, ◌+◌, ◌^◌, ◌<◌}
use lib.Dec.{eqb, lit<}
use lib.ListN.{get_or, take, drop}
use lib.Ieee.{Float}
use Rattle.base.specs.Said.{pick}
use Rattle.scl.specs.Items.{Held, AllHeld}
use Rattle.scl.specs.Table.{ItemTable, Typed, no_item, item_of, items_of, items_in}
use Rattle.scl.specs.declared.Item.{Item}
use Rattle.scl.specs.declared.Item.TheVariants.{Cents, Fraction}

-- all numbers of a column are of 32 bits
abbrev Below : List ℕ → Type 0
Below ns = (i : ℕ) → get_or ns i 0 < 2 ^ 32

below_take : (k : ℕ) (ns : List ℕ) → Below ns → Below (take k ns)
below_take zero ns h i = lit< tt
below_take (suc k) [] h i = lit< tt
below_take (suc k) (n ∷ ns) h zero = h 0
below_take (suc k) (n ∷ ns) h (suc i) = below_take k ns (λ j. h (suc j)) i

item_held : (k : ℕ) (c : Float) (n d : ℕ) → n < 2 ^ 32 → d < 2 ^ 32 → Held (item_of k c n d)
item_held k c n d h l = go (eqb k 0) (eqb k 1) (eqb k 2)
  where
    go : (x y z : Bool) → Held (pick x (Cents c) (pick y (Fraction n (Some d)) (pick z (Fraction n None) no_item)))
    go true y z = tt
    go false true z = (h, l)
    go false false true = (h, lit< tt)
    go false false false = tt

items_held : (ks : List ℕ) (cs : List Float) (ns ds : List ℕ) → Below ns → Below ds → AllHeld (items_of ks cs ns ds)
unfolding items_of
items_held [] cs ns ds h l = tt
items_held (k ∷ ks) [] ns ds h l = tt
items_held (k ∷ ks) (c ∷ cs) [] ds h l = tt
items_held (k ∷ ks) (c ∷ cs) (n ∷ ns) [] h l = tt
items_held (k ∷ ks) (c ∷ cs) (n ∷ ns) (d ∷ ds) h l = (item_held k c n d (h 0) (l 0), items_held ks cs ns ds (λ i. h (suc i)) (λ i. l (suc i)))

pub typed_held : (t : ItemTable) → Typed t → (count : ℕ) → AllHeld (items_in count t)
typed_held t h count =
    items_held (take (count + 1) t.kinds) (take (count + 1) t.cents) (take (count + 1) t.numers) (take (count + 1) t.denoms)
    (below_take (count + 1) t.numers h.numers) (below_take (count + 1) t.denoms h.denoms)

-- and so are those after place 0
pub held_after : (is : List Item) → AllHeld is → AllHeld (drop 1 is)
held_after [] h = tt
held_after (i ∷ is) h = h.1
