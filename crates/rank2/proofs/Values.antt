-- The pitch values are all said, and lie in 2^-32..2^32, in any order. Assumes nothing.
use mathlib.Core.Path.{◌≡◌, refl, sym, ◌∙◌, ap, subst}
use mathlib.Core.Bool.{Bool, true, false}
use mathlib.Core.List.{List, [], ◌∷◌}
use Prim.Native.Nat.{ℕ, zero, suc, ◌+◌, ◌^◌, ◌≤◌, ◌<◌}
use native.Mathlib.Nat.{le_of_suc-le-suc, not-suc-le-zero}
use native.Mathlib.Omega.{arith}
use lib.Dec.{T}
use lib.IntN.{ℤ}
use lib.Ieee.{Float, binary64, fits, lt}
use lib.Ieee.Positive.{positive}
use lib.ListN.{length}
use Rattle.base.specs.Said.{Said, gives, pick}
use Rattle.base.proofs.Said.{same_value}
use Rattle.floats.specs.Floats.{zero_f}
use Rattle.floats.specs.Ranges.{in_generator}
use Rattle.floats.proofs.Between.{within_generator}
use Rattle.sorting.specs.Asked.{AllPositive}
use Rattle.sorting.specs.Entries.{zip, Columns}
use Rattle.sorting.specs.Order.{lower, insert_by, sort_by}
use Rattle.sorting.proofs.Columns.{columns_zip}
use Rattle.sorted.specs.Lent.{from}
use Rattle.sorted.proofs.Numbering.{length_from}
use Rattle.sorted.proofs.Usable.{reach_positive}
use Rattle.scl.specs.Items.{is_usable_cents}
use Rattle.scl.proofs.Items.{cents_ratio}
use Rattle.rank2.specs.Asked.{SomeCents}
use Rattle.rank2.specs.Notes.{bounded_at, pitch_at, ratios_from, highest_from, ascending}
use Rattle.rank2.specs.Rank2.{ascending_ratios}
use Rattle.rank2.proofs.Given.{reach, bounded_usable, pitch_first, pitch_later}
use Rattle.rank2.proofs.Ascends.{Positives, last_after, sorted_ratios, highest_last}
use Rattle.rank2.proofs.Heights.{highest_is}

-- a ratio in 2^-32..2^32 that the machine holds
pub record Ranged (x : Float) : Type 0 where
  pub within : in_generator x ≡ true
  pub held : fits binary64 x ≡ true

abbrev pub AllRanged : List Float → Type 0
AllRanged [] = Unit {0}
AllRanged (x ∷ xs) = Ranged x × AllRanged xs

ranged_positive : (x : Float) → Ranged x → T (positive x)
ranged_positive x r = reach_positive x (reach x r.held r.within)

pub positives : (rs : List Float) → AllRanged rs → Positives rs
positives [] a = tt
positives (r ∷ rs) a = (ranged_positive r a.0, positives rs a.1)

pub all_positive : (rs : List Float) → AllRanged rs → AllPositive rs
all_positive [] a i h = absurd (not-suc-le-zero h)
all_positive (r ∷ rs) a zero h = ranged_positive r a.0
all_positive (r ∷ rs) a (suc i) h = all_positive rs a.1 i (le_of_suc-le-suc h)

-- ---- said one by one
pub record Value (s : Said Float) : Type 0 where
  pub value : Float
  pub is : s ≡ gives value
  pub ranged : Ranged value

pub record Values (f : ℕ → Said Float) (k n : ℕ) : Type 0 where
  pub values : List Float
  pub are : ratios_from f k n ≡ gives values
  pub size : length values ≡ n
  pub ranged : AllRanged values

all_values : (f : ℕ → Said Float) (n k : ℕ) → ((j : ℕ) → k ≤ j → j < k + n → Value (f j)) → Values f k n
unfolding ratios_from
all_values f zero k h = record { values = []; are = refl; size = refl; ranged = tt }
all_values f (suc n) k h =
    let x = h k (omega arith) (omega arith) in
    let m = all_values f n (suc k) (λ j a b. h j (omega arith) (omega arith)) in
    record { values = x.value ∷ m.values; are = rw (x.is, m.are); size = ap suc m.size; ranged = (x.ranged, m.ranged) }

module _ (period generator cents : Float) (p : Ranged period) (g : is_usable_cents generator ≡ true) (c : SomeCents cents) (positive : ℕ) where
  value_at : (i : ℕ) → i < 2 ^ 16 → Value (pitch_at period generator cents positive i)
  value_at zero h = record { value = period; is = sym (pitch_first period generator cents positive 0 refl); ranged = p }
  value_at (suc i) h =
      let t = cents_ratio (bounded_at generator cents positive (suc i)) (bounded_usable generator cents g c positive (suc i) h) in
      record {
        value = t.value;
        is = sym (pitch_later period generator cents positive (suc i) (λ q. omega (arith, q)) (sym t.is));
        ranged = record { within = within_generator t.between; held = t.held };
      }

  -- NO PITCH VALUE IS REFUSED
  pub values_of : (n : ℕ) → n ≤ 65535 → Values (pitch_at period generator cents positive) 0 n
  values_of n h = all_values (pitch_at period generator cents positive) n 0 (λ j a b. value_at j (omega arith))

-- ---- in ascending order
insert_ranged : (x : Float) (s : List Float) → Ranged x → AllRanged s → AllRanged (insert_by lt x s)
insert_ranged x [] r a = (r, tt)
insert_ranged x (y ∷ ys) r a = go (lt y x) (insert_ranged x ys r a.1)
  where
    go : (b : Bool) → AllRanged (insert_by lt x ys) → AllRanged (pick b (y ∷ insert_by lt x ys) (x ∷ y ∷ ys))
    go true m = (a.0, m)
    go false m = (r, (a.0, a.1))

pub sort_ranged : (rs : List Float) → AllRanged rs → AllRanged (ascending rs)
sort_ranged [] a = tt
sort_ranged (r ∷ rs) a = insert_ranged r (ascending rs) a.0 (sort_ranged rs a.1)

insert_length : (x : Float) (s : List Float) → length (insert_by lt x s) ≡ suc (length s)
insert_length x [] = refl
insert_length x (y ∷ ys) = go (lt y x) (insert_length x ys)
  where
    go : (b : Bool) → length (insert_by lt x ys) ≡ suc (length ys) → length (pick b (y ∷ insert_by lt x ys) (x ∷ y ∷ ys)) ≡ suc (suc (length ys))
    go true e = ap suc e
    go false e = refl

pub sort_length : (rs : List Float) → length (ascending rs) ≡ length rs
sort_length [] = refl
sort_length (r ∷ rs) = insert_length r (ascending rs) ∙ ap suc (sort_length rs)

-- the sort of the entries is that of their ratios
pub sorted_column : (f : ℕ → Said Float) (n : ℕ) (rs : List Float) (ws : List ℤ) {ps ps' : List ℕ} {rs' : List Float} {ws' : List ℤ} {k : ℕ} → ps ≡ from 0 k → length rs ≡ k → length ws ≡ k → gives rs ≡ ratios_from f 0 n
    → Columns (sort_by lower (zip ps rs ws)) ps' rs' ws' → gives rs' ≡ ascending_ratios f n
unfolding ascending_ratios
sorted_column f n rs ws {ps} {rs' = rs'} {k = k} p h w e c =
    let l : length ps ≡ k = ap length p ∙ length_from 0 k in
    let q : rs' ≡ ascending rs = c.ratios ∙ sorted_ratios (zip ps rs ws) ∙ ap ascending (sym (columns_zip ps rs ws (h ∙ sym l) (w ∙ sym l)).ratios) in
    rw (← e) (ap gives q)

-- ---- the highest one
last_ranged : (d : Float) (rs : List Float) → 0 < length rs → AllRanged rs → Ranged (last_after d rs)
last_ranged d [] h a = absurd (omega arith)
last_ranged d (x ∷ []) h a = a.0
last_ranged d (x ∷ y ∷ ys) h a = last_ranged x (y ∷ ys) (omega arith) a.1

module _ (f : ℕ → Said Float) (n : ℕ) (v : Values f 0 n) where
  pub ascending_said : ascending_ratios f n ≡ gives (ascending v.values)
  unfolding ascending_ratios
  ascending_said = rw v.are

  pub top_said : highest_from f 0 n ≡ gives (last_after zero_f (ascending v.values))
  top_said = highest_is f n 0 v.are ∙ ap gives (sym (highest_last v.values (positives v.values v.ranged)).last)

  pub last_within : 0 < n → Ranged (last_after zero_f (ascending v.values))
  last_within some = last_ranged zero_f (ascending v.values) (omega (arith, some, sort_length v.values, v.size)) (sort_ranged v.values v.ranged)

  pub top_within : 0 < n → {top : Float} → gives top ≡ highest_from f 0 n → in_generator top ≡ true
  top_within some {top} e = subst (λ (x : Float). in_generator x ≡ true) (same_value (last_after zero_f (ascending v.values)) top (sym top_said ∙ sym e)) (last_within some).within

-- what a column filled with them is
pub filled_positive : {f : ℕ → Said Float} {n : ℕ} {rs : List Float} → Values f 0 n → gives rs ≡ ratios_from f 0 n → AllPositive rs
filled_positive {f} {n} {rs} v e = subst AllPositive (same_value v.values rs (sym v.are ∙ sym e)) (all_positive v.values v.ranged)

pub filled_length : {f : ℕ → Said Float} {n : ℕ} {rs : List Float} → Values f 0 n → gives rs ≡ ratios_from f 0 n → length rs ≡ n
filled_length {f} {n} {rs} v e = ap length (same_value rs v.values (e ∙ v.are)) ∙ v.size
