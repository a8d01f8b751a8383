-- The laws of the UTF-8 machine, as the code meets them: what a first byte asks, a step inside a character, a turn of the loop.
-- Assumes nothing.
use Rattle.std.specs.Prelude.{Some, None, Option}
use mathlib.Core.Path.{◌≡◌, refl, sym, ap, ◌∙◌}
use mathlib.Core.List.{List, [], ◌∷◌}
use mathlib.Core.Bool.{Bool, true, false}
use Prim.Native.Nat.{ℕ, zero, suc, ◌+◌, ◌-◌, ◌≤◌, ◌<◌}
use native.Mathlib.Numerals.{add-one}
use native.Mathlib.Nat.{le_trans}
use native.Mathlib.Omega.{arith}
use lib.ListN.{length, get_or, drop, drop_of_length-le}
use lib.Seq.{drop-cons}
use lib.Dec.{leb, eqb}
use borrow.Author.Tests.{lt-ltb, le-ltb, leb-true, eq-eqb, ne_eqb}
use Rattle.base.specs.Said.{pick}
use Rattle.base.proofs.Pick.{pick_both}
use Rattle.utf8.specs.Utf8Machine.{asking, none_due, LeadRow, lookup, lead_rows, lead_of, utf8_step, onward, utf8_from}
use Rattle.utf8.specs.Eights.{Passed}
use Rattle.utf8.specs.declared.State.{State}
use Rattle.utf8.proofs.Passes.{pass_over}

-- THE LAW OF AN ENTRY: where the numbers of a table rise, entry n answers from the number before its own on and below its own

-- the numbers rise, from lo on
abbrev rises : ℕ → List LeadRow → Bool
rises lo [] = true
rises lo (r ∷ rs) = pick (leb lo r.below) (rises r.below rs) false

-- the number before that of entry n
abbrev from_of : ℕ → List LeadRow → ℕ → ℕ
from_of lo [] n = lo
from_of lo (r ∷ rs) zero = lo
from_of lo (r ∷ rs) (suc n) = from_of r.below rs n

-- b is below the number of entry n; past the table there is none
abbrev Below : List LeadRow → ℕ → ℕ → Type 0
Below [] n b = Unit {0}
Below (r ∷ rs) zero b = b < r.below
Below (r ∷ rs) (suc n) b = Below rs n b

-- what entry n asks
abbrev asks_of : List LeadRow → ℕ → (Option State)
asks_of [] n = None
asks_of (r ∷ rs) zero = r.asks
asks_of (r ∷ rs) (suc n) = asks_of rs n

from_rises : (lo : ℕ) (rs : List LeadRow) → rises lo rs ≡ true → (n : ℕ) → lo ≤ from_of lo rs n
from_rises lo [] h n = omega arith
from_rises lo (r ∷ rs) h zero = omega arith
from_rises lo (r ∷ rs) h (suc n) =
    let p = pick_both (leb lo r.below) (rises r.below rs) h in
    le_trans (leb-true lo r.below p.0) (from_rises r.below rs p.1 n)

at_entry : (lo : ℕ) (rs : List LeadRow) → rises lo rs ≡ true → (n b : ℕ) → from_of lo rs n ≤ b → Below rs n b → lookup rs b ≡ asks_of rs n
at_entry lo [] h n b l x = refl
at_entry lo (r ∷ rs) h zero b l x = rw (lt-ltb b r.below x)
at_entry lo (r ∷ rs) h (suc n) b l x =
    let p = pick_both (leb lo r.below) (rises r.below rs) h in
    rw (le-ltb b r.below (le_trans (from_rises r.below rs p.1 n) l)) (at_entry r.below rs p.1 n b l x)

pub lead_at : (n b : ℕ) → from_of 0 lead_rows n ≤ b → Below lead_rows n b → lead_of b ≡ asks_of lead_rows n
unfolding lead_of
lead_at n b l x = at_entry 0 lead_rows refl n b l x

-- a step inside a character
module _ (n l h b : ℕ) (some : n ≡ 0 → ⊥) where
  pub step_low : b < l → utf8_step (asking n l h) b ≡ None
  unfolding utf8_step
  step_low x = rw (ne_eqb n 0 some, lt-ltb b l x)

  pub step_high : l ≤ b → h < b → utf8_step (asking n l h) b ≡ None
  unfolding utf8_step
  step_high x y = rw (ne_eqb n 0 some, le-ltb b l x, lt-ltb h b y)

  pub step_in : l ≤ b → b ≤ h → utf8_step (asking n l h) b ≡ Some (asking (n - 1) 128 191)
  unfolding utf8_step
  step_in x y = rw (ne_eqb n 0 some, le-ltb b l x, le-ltb h b y)

pub step_lead : (st : State) (b : ℕ) → st.need ≡ 0 → utf8_step st b ≡ lead_of b
unfolding utf8_step
step_lead st b e = rw (eq-eqb st.need 0 e)

-- a turn of the loop
pub run_turn : (st : State) (s : List ℕ) (i : ℕ) → i < length s → {r r' : (Option State)} → r ≡ utf8_step st (get_or s i 0) → r ≡ r' →
    utf8_from st (drop i s) ≡ onward r' (λ t. utf8_from t (drop (i + 1) s))
unfolding utf8_from
run_turn st s i h p q = rw (drop-cons s i 0 h, add-one i, ← p, q)

pub run_end : (st : State) (s : List ℕ) (i : ℕ) → length s ≤ i → utf8_from st (drop i s) ≡ eqb st.need 0
unfolding utf8_from
run_end st s i h = rw (drop_of_length-le s h)

-- between two characters every state is as good as a fresh one
fresh_too : (st : State) (s : List ℕ) → st.need ≡ 0 → utf8_from st s ≡ utf8_from none_due s
unfolding utf8_from
fresh_too st [] e = rw e
fresh_too st (b ∷ s) e = ap (λ (x : (Option State)). onward x (λ t. utf8_from t s)) (step_lead st b e ∙ sym (step_lead none_due b refl))

-- bytes below 128 are characters by themselves
pub run_pass : {s : List ℕ} {low from r : ℕ} (st : State) → st.need ≡ 0 → Passed low 127 s from r → utf8_from st (drop from s) ≡ utf8_from st (drop r s)
run_pass {s} {from = from} {r = r} st e p =
    fresh_too st (drop from s) e
    ∙ pass_over (λ (k : ℕ). utf8_from none_due (drop k s)) p
    (λ k h l u. run_turn none_due s k h refl (step_lead none_due (get_or s k 0) refl ∙ lead_at 0 (get_or s k 0) (omega arith) (omega arith)))
    ∙ sym (fresh_too st (drop r s) e)
