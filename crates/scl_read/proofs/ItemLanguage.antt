-- THE THEOREM OF ITEMS: a token is read as an item exactly where it is one, and draws exactly the first number of 01's order where
-- it is none. Assumes nothing.
use Rattle.std.specs.Prelude.{Some, None, Ok, Err, Result}
use mathlib.Core.Path.{◌≡◌, refl, sym, ◌∙◌, ap}
use mathlib.Core.Bool.{Bool, true, false}
use mathlib.Core.List.{List, ◌∷◌}
use mathlib.Core.Logic.{◌⊎◌, inl, inr}
use Prim.Native.Nat.{ℕ, zero, suc, ◌+◌, ◌^◌, ◌<◌}
use native.Mathlib.Omega.{arith}
use lib.Dec.{ltb, lit<}
use lib.Ieee.{Float}
use lib.IntN.{ℤ, pos, nat_abs}
use lib.ListN.{length, take, drop, length-append}
use lib.Seq.{take_at, drop-append-add}
use borrow.Author.Tests.{lt-ltb, le-ltb, ltb-true, ltb-false}
use Rattle.base.specs.Said.{pick}
use Rattle.decimals.proofs.Language.{gives_sound, gives_complete, leaves_sound, leaves_complete, refuses_sound, refuses_complete}
use Rattle.decimals.specs.DecimalScan.{read_decimal}
use Rattle.decimals.specs.declared.DecimalError.{DecimalError}
use Rattle.decimals.specs.declared.DecimalError.TheVariants as decimal
use Rattle.integers.proofs.AtLine.{unsigned}
use Rattle.integers.proofs.Language.{sound, complete}
use Rattle.integers.proofs.Theorems.{refused}
use Rattle.integers.specs.Integer.{Int, value, none, read_int}
use Rattle.scl.specs.Items.{is_usable_cents}
use Rattle.scl.specs.declared.Item.{Item}
use Rattle.scl.specs.declared.Item.TheVariants.{Cents, Fraction}
use Rattle.scl_read.specs.ItemText.{Contains, Free, U32Text, Split, ItemText, NoItem}
use Rattle.base.specs.Numbers.{number_of}
use Rattle.base.specs.Said.{refuses}
use Rattle.base.specs.declared.Reason.{Reason}
use Rattle.base.specs.declared.Reason.TheVariants as reason
use Rattle.scl_read.specs.Tokens.{item_said, position_of, usable_item, cents_in, over_denom, fraction_in, whole_in, slashed_in, item_in}
use Rattle.scl_read.proofs.Finds.{place_parts, place_free, free_place, parts_place, has_place}

-- what is read of a token: the item that it is, or its number
abbrev Holds : List ℕ → (Result Item Reason) → Type 0
Holds t (Ok i) = ItemText t i
Holds t (Err r) = NoItem t (number_of r)

-- ---- what is read holds
-- an integer that is read is a u32
u32_read : (t : List ℕ) (z : ℤ) → read_int false (2 ^ 32) t ≡ value z → U32Text t (nat_abs z)
u32_read t z e = let i = sound false (2 ^ 32) (lit< tt) z t (sym e) in rw (unsigned (2 ^ 32) t z i) i

module _ (t : List ℕ) where
  cents_holds : Contains 46 t → (x : (Result Float DecimalError)) → read_decimal t ≡ x → Holds t (cents_in x)
  cents_holds h (Ok v) e = go (is_usable_cents v) refl
    where
      go : (b : Bool) → is_usable_cents v ≡ b → Holds t (pick b (Ok (Cents v)) (Err reason.Unusable))
      go true p = ItemText.cents h v (gives_sound t v e) p
      go false p = NoItem.far h refl v (gives_sound t v e) p
  cents_holds h (Err decimal.Unsupported) e = NoItem.unsupported h refl (leaves_sound t e)
  cents_holds h (Err decimal.Bad) e = NoItem.no_cents h refl (refuses_sound t e)

  whole_holds : Free 46 t → Free 47 t → (i : Int) → read_int false (2 ^ 32) t ≡ i → Holds t (whole_in i)
  whole_holds f g none e = NoItem.no_whole f g (refl, (refused false (2 ^ 32) (lit< tt) t).0 (sym e))
  whole_holds f g (value z) e = go (nat_abs z) (u32_read t z e)
    where
      go : (n : ℕ) → U32Text t n → Holds t (usable_item (Fraction n None))
      go zero u = NoItem.zero f g u refl
      go (suc n) u = rw (lt-ltb 0 (suc n) (omega arith)) (ItemText.whole f g (suc n) u (omega arith))

  module _ (a b : List ℕ) (s : Split t a b) where
    denom_holds : (n : ℕ) → U32Text a n → (i : Int) → read_int false (2 ^ 32) b ≡ i → Holds t (over_denom n i)
    denom_holds n u none e = NoItem.no_denom a b s n u (refl, (refused false (2 ^ 32) (lit< tt) b).0 (sym e))
    denom_holds n u (value z) e = go n (nat_abs z) u (u32_read b z e)
      where
        go : (p q : ℕ) → U32Text a p → U32Text b q → Holds t (usable_item (Fraction p (Some q)))
        go zero q v w = NoItem.zero_part a b s 0 q v w (inl refl) refl
        go (suc p) zero v w = rw (lt-ltb 0 (suc p) (omega arith)) (NoItem.zero_part a b s (suc p) 0 v w (inr refl) refl)
        go (suc p) (suc q) v w = rw (lt-ltb 0 (suc p) (omega arith), lt-ltb 0 (suc q) (omega arith)) (ItemText.fraction a b s (suc p) (suc q) v w (omega arith) (omega arith))

    fraction_holds : (i j : Int) → read_int false (2 ^ 32) a ≡ i → read_int false (2 ^ 32) b ≡ j → Holds t (fraction_in i j)
    fraction_holds none j e f = NoItem.no_numer a b s (refl, (refused false (2 ^ 32) (lit< tt) a).0 (sym e))
    fraction_holds (value z) j e f = denom_holds (nat_abs z) (u32_read a z e) j f

  slashed_holds : Free 46 t → (x : Bool) → ltb (position_of 47 t) (length t) ≡ x →
      Holds t (pick x (fraction_in (read_int false (2 ^ 32) (take (position_of 47 t) t)) (read_int false (2 ^ 32) (drop (position_of 47 t + 1) t))) (whole_in (read_int false (2 ^ 32) t)))
  slashed_holds f true e =
      let p = place_parts 47 t (ltb-true (position_of 47 t) (length t) e) in
      fraction_holds (take (position_of 47 t) t) (drop (position_of 47 t + 1) t) (record { no_dot = f; whole = p.0; first = p.1 }) _ _ refl refl
  slashed_holds f false e = whole_holds f (place_free 47 t (ltb-false (position_of 47 t) (length t) e)) _ refl

  pub item_holds : Holds t (item_in t)
  unfolding item_in
  item_holds = go (ltb (position_of 46 t) (length t)) refl
    where
      go : (x : Bool) → ltb (position_of 46 t) (length t) ≡ x → Holds t (pick x (cents_in (read_decimal t)) (slashed_in t (position_of 47 t)))
      go true e = let p = place_parts 46 t (ltb-true (position_of 46 t) (length t) e) in cents_holds (take (position_of 46 t) t, drop (position_of 46 t + 1) t, p.0) (read_decimal t) refl
      go false e = slashed_holds (place_free 46 t (ltb-false (position_of 46 t) (length t) e)) (ltb (position_of 47 t) (length t)) refl

-- ---- what holds is read
-- a token with a dot is read as cents; one without goes by its slash
with_dot : (t : List ℕ) → Contains 46 t → item_in t ≡ cents_in (read_decimal t)
unfolding item_in
with_dot t h = rw (lt-ltb (position_of 46 t) (length t) (has_place 46 t h))

no_dot : (t : List ℕ) → Free 46 t → item_in t ≡ slashed_in t (position_of 47 t)
unfolding item_in
no_dot t f = rw (le-ltb (position_of 46 t) (length t) (omega (arith, free_place 46 t f)))

no_slash : (t : List ℕ) → Free 46 t → Free 47 t → item_in t ≡ whole_in (read_int false (2 ^ 32) t)
no_slash t f g = no_dot t f ∙ rw (le-ltb (position_of 47 t) (length t) (omega (arith, free_place 47 t g)))

with_slash : (t a b : List ℕ) → Split t a b → item_in t ≡ fraction_in (read_int false (2 ^ 32) a) (read_int false (2 ^ 32) b)
with_slash t a b s =
    let k : position_of 47 t ≡ length a = rw s.whole (parts_place 47 a b s.first) in
    let l : length a < length t = omega (arith, ap length s.whole, length-append a (47 ∷ b)) in
    let before : take (length a) t ≡ a = rw s.whole (take_at a (47 ∷ b) (length a) refl) in
    let behind : drop (length a + 1) t ≡ b = rw s.whole (drop-append-add a (47 ∷ b) 1) in
    no_dot t s.no_dot ∙ rw (k, lt-ltb (length a) (length t) l, before, behind)

u32_is : (t : List ℕ) (n : ℕ) → U32Text t n → read_int false (2 ^ 32) t ≡ value (pos n)
u32_is t n u = sym (complete false (2 ^ 32) (lit< tt) (pos n) t u)

pub item_is : (t : List ℕ) (i : Item) → ItemText t i → item_in t ≡ Ok i
item_is t i (ItemText.cents h v d u) = with_dot t h ∙ rw (gives_complete t v d, u)
item_is t i (ItemText.fraction a b s n d u v p q) = with_slash t a b s ∙ rw (u32_is a n u, u32_is b d v, lt-ltb 0 n p, lt-ltb 0 d q)
item_is t i (ItemText.whole f g n u p) = no_slash t f g ∙ rw (u32_is t n u, lt-ltb 0 n p)

zero_not : (p q : ℕ) → (p ≡ 0) ⊎ (q ≡ 0) → usable_item (Fraction p (Some q)) ≡ Err reason.Unusable
zero_not p q (inl e) = rw e
zero_not zero q (inr e) = refl
zero_not (suc p) q (inr e) = rw (lt-ltb 0 (suc p) (omega arith), e)

pub no_item_is : (t : List ℕ) (n k : ℕ) → NoItem t n → item_said k (item_in t) ≡ refuses n k
no_item_is t n k (NoItem.no_cents h e f) = rw (e, with_dot t h, refuses_complete t f)
no_item_is t n k (NoItem.unsupported h e u) = rw (e, with_dot t h, leaves_complete t u)
no_item_is t n k (NoItem.far h e v d u) = rw (e, with_dot t h, gives_complete t v d, u)
no_item_is t n k (NoItem.no_numer a b s w) = rw (w.0, with_slash t a b s, ← (refused false (2 ^ 32) (lit< tt) a).1 w.1)
no_item_is t n k (NoItem.no_denom a b s p u w) = rw (w.0, with_slash t a b s, u32_is a p u, ← (refused false (2 ^ 32) (lit< tt) b).1 w.1)
no_item_is t n k (NoItem.zero_part a b s p q u v o e) = rw (e, with_slash t a b s, u32_is a p u, u32_is b q v) (ap (item_said k) (zero_not p q o))
no_item_is t n k (NoItem.no_whole f g w) = rw (w.0, no_slash t f g, ← (refused false (2 ^ 32) (lit< tt) t).1 w.1)
no_item_is t n k (NoItem.zero f g u e) = rw (e, no_slash t f g, u32_is t 0 u)

-- AND SO it is one or the other, as it is read
pub is_item : (t : List ℕ) (i : Item) → item_in t ≡ Ok i → ItemText t i
is_item t i e = rw e at (item_holds t)

pub is_no_item : (t : List ℕ) (r : Reason) → item_in t ≡ Err r → NoItem t (number_of r)
is_no_item t r e = rw e at (item_holds t)
