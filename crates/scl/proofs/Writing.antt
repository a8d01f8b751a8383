-- An item written at a place of the columns: it is read back, and at the next place it is one item more. Assumes nothing.
use Rattle.std.specs.Prelude.{Some, None}
use mathlib.Core.Path.{◌≡◌, refl, ◌∙◌, ap}
use mathlib.Core.List.{List, [], ◌∷◌, ◌++◌}
use Prim.Native.Nat.{ℕ, suc}
use native.Mathlib.Omega.{arith}
use lib.Ieee.{Float}
use lib.ListN.{length, take}
use lib.Seq.{take-suc-set}
use Rattle.scl.specs.Table.{ItemTable, item_of, items_of, kind_of, cents_of, numer_of, denom_at, written_at}
use Rattle.scl.specs.declared.Item.{Item}
use Rattle.scl.specs.declared.Item.TheVariants.{Cents, Fraction}
use Rattle.scl.proofs.Table.{Roomy, first, cents_same, numers_same, denoms_same}

-- what stands for an item is the item
pub item_back : (i : Item) → item_of (kind_of i) (cents_of i) (numer_of i) (denom_at i) ≡ i
item_back (Cents c) = refl
item_back (Fraction n (Some d)) = refl
item_back (Fraction n None) = refl

items_snoc : (ks : List ℕ) (cs : List Float) (ns ds : List ℕ) (k : ℕ) (c : Float) (n d : ℕ) → length cs ≡ length ks → length ns ≡ length ks → length ds ≡ length ks
    → items_of (ks ++ (k ∷ [])) (cs ++ (c ∷ [])) (ns ++ (n ∷ [])) (ds ++ (d ∷ [])) ≡ items_of ks cs ns ds ++ (item_of k c n d ∷ [])
unfolding items_of
items_snoc [] [] [] [] k c n d x y z = refl
items_snoc [] (c' ∷ cs) ns ds k c n d x y z = absurd (omega arith)
items_snoc [] [] (n' ∷ ns) ds k c n d x y z = absurd (omega arith)
items_snoc [] [] [] (d' ∷ ds) k c n d x y z = absurd (omega arith)
items_snoc (k' ∷ ks) [] ns ds k c n d x y z = absurd (omega arith)
items_snoc (k' ∷ ks) (c' ∷ cs) [] ds k c n d x y z = absurd (omega arith)
items_snoc (k' ∷ ks) (c' ∷ cs) (n' ∷ ns) [] k c n d x y z = absurd (omega arith)
items_snoc (k' ∷ ks) (c' ∷ cs) (n' ∷ ns) (d' ∷ ds) k c n d x y z = ap (λ (l : List Item). item_of k' c' n' d' ∷ l) (items_snoc ks cs ns ds k c n d (omega arith) (omega arith) (omega arith))

fewer : {n : ℕ} {t : ItemTable} → Roomy (suc n) t → Roomy n t
fewer r = record { kinds = omega (arith, r.kinds); cents = omega (arith, r.cents); numers = omega (arith, r.numers); denoms = omega (arith, r.denoms) }

-- an item written at the next place is one item more
pub first_written : (n : ℕ) (t : ItemTable) (i : Item) → Roomy (suc n) t → first (suc n) (written_at t n i) ≡ first n t ++ (i ∷ [])
first_written n t i r =
    let f = fewer r in
    rw (take-suc-set t.kinds n (kind_of i) r.kinds, take-suc-set t.cents n (cents_of i) r.cents, take-suc-set t.numers n (numer_of i) r.numers, take-suc-set t.denoms n (denom_at i) r.denoms)
    (items_snoc (take n t.kinds) (take n t.cents) (take n t.numers) (take n t.denoms) (kind_of i) (cents_of i) (numer_of i) (denom_at i) (cents_same n t f) (numers_same n t f) (denoms_same n t f)
    ∙ ap (λ (x : Item). first n t ++ (x ∷ [])) (item_back i))
