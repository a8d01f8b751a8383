-- What a search says of the entry that it found, and that each call has one result. Document 01, "Scales and searches".
-- Assumes nothing.
use mathlib.Core.Path.{◌≡◌, refl, sym, ◌∙◌, ap, subst}
use mathlib.Core.Bool.{Bool, true, false, ◌&&◌}
use mathlib.Core.List.{List}
use Prim.Native.Nat.{ℕ, ◌-◌, ◌<◌}
use native.Mathlib.Omega.{arith}
use lib.Dec.{eqb}
use lib.IntN.{ℤ, pos}
use lib.ListN.{length, get_or, length-map}
use lib.Ieee.{Float, binary64, fits, lt, eq, mul, div}
use borrow.Author.Tests.{ne_eqb}
use Rattle.std.specs.Prelude.{Result, Ok, Err}
use Rattle.base.specs.Numbers.{number_of, unusable, beyond_reach}
use Rattle.base.specs.Said.{Said, gives, refuses, pick, and_then, One, outcome, said_by}
use Rattle.base.specs.declared.Refusal.{Refusal}
use Rattle.base.specs.declared.AnyRefusal.{AnyRefusal}
use Rattle.base.proofs.Said.{same_value, same_reason, same_refuses, no_value, no_refusal, one_said, one_read}
use Rattle.floats.specs.Floats.{zero_f, one_f}
use Rattle.floats.specs.Ranges.{in_reach}
use Rattle.explog.specs.Rules.{L}
use Rattle.pitch.specs.Given.{computed}
use Rattle.sorting.specs.Entries.{Entry}
use Rattle.sorted.specs.Lent.{ListTable, list_in, is_list}
use Rattle.scl.specs.Items.{ratio_of}
use Rattle.scl.specs.Table.{ItemTable, items_in, is_items}
use Rattle.scl.specs.declared.Item.{Item}
use Rattle.scl_tables.specs.Reduce.{reduced_by}
use Rattle.scl_tables.proofs.Answered.{never}
use Rattle.scl_tables.proofs.Reaches.{reduced_reach}
use Rattle.scl_tables.specs.Build.{last_of, count_of}
use Rattle.relative.specs.Scales.{no_entry}
use Rattle.relative.proofs.Back.{then_given, pick_other}
use Rattle.relative.proofs.Places.{items_length, list_room, list_length}
use Rattle.relative.proofs.Ratios.{item_held}
use Rattle.kbm.specs.declared.KbmRoot.{KbmRoot}
use Rattle.searching.specs.Nearest.{ratio_at, above_by, below_by, Picked, lower, upper, Searched}
use Rattle.searching.specs.Search.{tolerance, choice, chosen_of, upper_of, index_of, found_at, nearest_of, search_of}
use Rattle.searching.specs.declared.Choice.{Choice}
use Rattle.searching.specs.declared.Found.{Found}
use Rattle.searching.proofs.Opened.{lastly, chosen_is, search_none}
use Rattle.searching.proofs.Parting.{ratio_at_law, parts}
use Rattle.searching.specs.Degrees.{declared_of, ascending_of, key_of, says_key_search}
use Rattle.searching.specs.declared.approximation.Approximation.{Approximation}
use Rattle.searching.specs.declared.approximation.NearestKey.{NearestKey}

-- ---- of two neighbours none is nearer beyond the tolerance
module _ (es : List Entry) (periods : ℤ) (target : Float) (at : ℕ) (l : in_reach (ratio_at es (at - 1)) ≡ true) (u : in_reach (ratio_at es at) ≡ true) (t : in_reach target ≡ true) where
  abbrev up : Float
  up = below_by target (ratio_at es at)

  abbrev down : Float
  down = above_by target (ratio_at es (at - 1))

  abbrev bound : Float
  bound = mul binary64 down tolerance

  abbrev picked : Choice → Said Found
  picked c = gives (found_at (get_or es (index_of at c.upper) no_entry) (index_of at c.upper) periods c.deviation)

  -- the choice, by its tests
  step : (x z : Bool) → in_reach up ≡ x → lt bound up ≡ z → (f : Found)
      → and_then (pick z (gives (choice false down)) (and_then (pick x (computed (div binary64 one_f up)) (refuses unusable 0)) (λ turned. gives (choice true turned)))) picked ≡ gives f → Picked es periods target at f
  step x true a b f e = lower (sym (same_value _ _ e)) b
  step false false a b f e = never e refl
  step true false a b f e = turn (in_reach (div binary64 one_f up)) e
    where
      turn : (y : Bool) → and_then (and_then (pick y (gives (div binary64 one_f up)) (refuses beyond_reach 0)) (λ turned. gives (choice true turned))) picked ≡ gives f → Picked es periods target at f
      turn true e = upper (sym (same_value _ _ e)) b
      turn false e = never e refl

  outer : (x : Bool) (f : Found) → and_then (pick x (lastly up down bound) (refuses beyond_reach 0)) picked ≡ gives f → Picked es periods target at f
  outer true f e = step (in_reach up) (lt bound up) refl refl f e
  outer false f e = never e refl

  picked_is : (f : Found) → and_then (chosen_of (ratio_at es (at - 1)) (ratio_at es at) target) picked ≡ gives f → Picked es periods target at f
  picked_is f e = outer ((in_reach up && in_reach down) && in_reach bound) f (ap (λ (s : Said Choice). and_then s picked) (sym (chosen_is (ratio_at es (at - 1)) (ratio_at es at) target l u t)) ∙ e)

nearest_says : (es : List Entry) (periods : ℤ) (target : Float) → in_reach target ≡ true → ((i : ℕ) → i < length es → in_reach (ratio_at es i) ≡ true) → 0 < upper_of es target → upper_of es target < length es
    → (f : Found) → nearest_of es periods target ≡ gives f → Picked es periods target (upper_of es target) f
unfolding nearest_of
nearest_says es periods target t r some last f e = picked_is es periods target (upper_of es target) (r (upper_of es target - 1) (omega (arith, last))) (r (upper_of es target) last) t f e

-- ---- what a search in usable lent tables says: the entry, and its deviation from the REDUCED target. (Not: that the target is the pitch of
-- the found degree times the deviation: that is false in the Rust too.)
module _ (count : ℕ) (t : ItemTable) (l : ListTable) (it : is_items count t ≡ true) (li : is_list count l ≡ true) (x : Float) where
  abbrev items : List Item
  items = items_in count t

  abbrev es : List Entry
  es = list_in count l

  -- "A scale without items answers degree 0 with the ratio itself"
  pub search_says_none : count ≡ 0 → search_of items es x ≡ gives (found_at (get_or es 0 no_entry) 0 (pos 0) x)
  search_says_none e = sym (search_none items es (count_of items) x refl (omega (arith, e, items_length count t it)))

  module _ (some : 0 < count) (fx : fits binary64 x ≡ true) (rx : in_reach x ≡ true) where
    abbrev last : Float → Found → Type 0
    last p f = and_then (L p) (λ z. pick (eqb (count_of items) 1 && eq z zero_f) (refuses beyond_reach 0) (and_then (reduced_by p x) (λ y. nearest_of es y.wraps y.ratio))) ≡ gives f

    reduced_says : (p : Float) (f : Found) → ratio_of (last_of items) ≡ gives p → last p f → Searched items es x f
    reduced_says p f ep e =
        let tail : Float → Said Found = λ z. pick (eqb (count_of items) 1 && eq z zero_f) (refuses beyond_reach 0) (and_then (reduced_by p x) (λ y. nearest_of es y.wraps y.ratio)) in
        let o = then_given (L p) tail e in
        let r = then_given (reduced_by p x) (λ y. nearest_of es y.wraps y.ratio) (pick_other (eqb (count_of items) 1 && eq o.0 zero_f) (and_then (reduced_by p x) (λ y. nearest_of es y.wraps y.ratio)) beyond_reach o.1.1) in
        let h = item_held (last_of items) ep in
        let reach : in_reach r.0.ratio ≡ true = reduced_reach p x h.held fx h.reach rx (sym r.1.0) in
        let n = list_length count l li in
        let a = (list_room count l li).reach in
        let ps = parts es r.0.ratio a (list_room count l li).rises reach (omega (arith, some, n)) in
        let all : (i : ℕ) → i < length es → in_reach (ratio_at es i) ≡ true = λ i k. subst (λ (y : Float). in_reach y ≡ true) (ratio_at_law es i) (a i (rw (length-map es (λ (e : Entry). e.ratio)) k)) in
        record {
          period = p;
          reduced = r.0;
          is_period = ep;
          is_reduced = r.1.0;
          parts = ps;
          picked = nearest_says es r.0.wraps r.0.ratio reach all ps.some (omega (arith, ps.last, some, n)) f r.1.1;
        }

    pub search_says : (f : Found) → search_of items es x ≡ gives f → Searched items es x f
    unfolding search_of
    search_says f e =
        let none = ne_eqb (count_of items) 0 (λ z. omega (arith, some, z, items_length count t it)) in
        let tail : Float → Said Found = λ p. and_then (L p) (λ z. pick (eqb (count_of items) 1 && eq z zero_f) (refuses beyond_reach 0) (and_then (reduced_by p x) (λ y. nearest_of es y.wraps y.ratio))) in
        let e₀ : and_then (ratio_of (last_of items)) tail ≡ gives f = sym (ap (λ (b : Bool). pick b (gives (found_at (get_or es 0 no_entry) 0 (pos 0) x)) (and_then (ratio_of (last_of items)) tail)) none) ∙ e in
        let p = then_given (ratio_of (last_of items)) tail e₀ in
        reduced_says p.0 f p.1.0 p.1.1

pub found_one : (s : Said Found) → One outcome s
found_one = one_said

pub search_one : (items : List Item) (es : List Entry) (x : Float) → One outcome (search_of items es x)
search_one items es x = found_one (search_of items es x)

pub choose_one : (a b x : Float) → One outcome (chosen_of a b x)
choose_one a b x = one_said (chosen_of a b x)

pub degree_search_one : (s : Said Approximation) → One outcome s
degree_search_one = one_said

pub key_search_one : (s : Said Approximation) → One says_key_search s
key_search_one = one_read (λ k. k.0) (λ a b e i. record { 0 = e i })

pub declared_one : (found : Said Found) (count : ℕ) → One outcome (and_then found (declared_of count))
declared_one found count = degree_search_one (and_then found (declared_of count))

pub ascending_one : (found : Said Found) (count : ℕ) → One outcome (and_then found (ascending_of count))
ascending_one found count = degree_search_one (and_then found (ascending_of count))

pub key_from_one : (root : KbmRoot) (found : Said Approximation) → One says_key_search (and_then found (key_of root))
key_from_one root found = key_search_one (and_then found (key_of root))

-- ---- of a refusal that is handed on, the library's or any
pub of_Refusal_one : (refusal r r' : Refusal) → (number_of r.reason ≡ number_of refusal.reason) × (r.detail ≡ refusal.detail)
    → (number_of r'.reason ≡ number_of refusal.reason) × (r'.detail ≡ refusal.detail) → r ≡ r'
of_Refusal_one refusal r r' p q =
    let same = same_reason r.reason r'.reason (p.0 ∙ sym q.0) in
    let place = p.1 ∙ sym q.1 in
    λ i. record { reason = same i; detail = place i }

pub of_AnyRefusal_one : (refusal : Refusal) (r r' : AnyRefusal) → (r.number ≡ number_of refusal.reason) × (r.detail ≡ refusal.detail)
    → (r'.number ≡ number_of refusal.reason) × (r'.detail ≡ refusal.detail) → r ≡ r'
of_AnyRefusal_one refusal r r' p q =
    let number = p.0 ∙ sym q.0 in
    let place = p.1 ∙ sym q.1 in
    λ i. record { number = number i; detail = place i }

pub declared_Refusal_one : (found : Said Found) (count : ℕ)
    → One {A = Result Approximation Refusal} (said_by (λ r. number_of r.reason) (λ r. r.detail) (λ a. a)) (and_then found (declared_of count))
declared_Refusal_one = declared_one

pub ascending_Refusal_one : (found : Said Found) (count : ℕ)
    → One {A = Result Approximation Refusal} (said_by (λ r. number_of r.reason) (λ r. r.detail) (λ a. a)) (and_then found (ascending_of count))
ascending_Refusal_one = ascending_one

pub key_from_Refusal_one : (root : KbmRoot) (found : Said Approximation)
    → One {A = Result NearestKey Refusal} (said_by (λ r. number_of r.reason) (λ r. r.detail) (λ k. k.0)) (and_then found (key_of root))
key_from_Refusal_one = key_from_one

-- what a result says with any refusal, its value read by what tells it from another
module _ {A B : Type 0} (f : A → B) (apart : (a b : A) → f a ≡ f b → a ≡ b) where
  abbrev says_any : Result A AnyRefusal → Said B
  says_any = said_by (λ r. r.number) (λ r. r.detail) f

  same_any : (x y : Result A AnyRefusal) → says_any x ≡ says_any y → x ≡ y
  same_any (Ok a) (Ok b) e = ap Ok (apart a b (same_value _ _ e))
  same_any (Ok a) (Err s) e = no_refusal e
  same_any (Err r) (Ok b) e = no_value e
  same_any (Err r) (Err s) e = let p = same_refuses e in λ i. Err (record { number = p.0 i; detail = p.1 i })

  any_one : (s : Said B) → One says_any s
  any_one s x y p q = same_any x y (p ∙ sym q)

pub declared_AnyRefusal_one : (found : Said Found) (count : ℕ)
    → One {A = Result Approximation AnyRefusal} (said_by (λ r. r.number) (λ r. r.detail) (λ a. a)) (and_then found (declared_of count))
declared_AnyRefusal_one found count = any_one (λ a. a) (λ a b e. e) (and_then found (declared_of count))

pub ascending_AnyRefusal_one : (found : Said Found) (count : ℕ)
    → One {A = Result Approximation AnyRefusal} (said_by (λ r. r.number) (λ r. r.detail) (λ a. a)) (and_then found (ascending_of count))
ascending_AnyRefusal_one found count = any_one (λ a. a) (λ a b e. e) (and_then found (ascending_of count))

pub key_from_AnyRefusal_one : (root : KbmRoot) (found : Said Approximation)
    → One {A = Result NearestKey AnyRefusal} (said_by (λ r. r.number) (λ r. r.detail) (λ k. k.0)) (and_then found (key_of root))
key_from_AnyRefusal_one root found = any_one (λ k. k.0) (λ a b e i. record { 0 = e i }) (and_then found (key_of root))
