-- "Builder calls act, push for push, as appending to a plain list": after a run of pushes the items are those before and the
-- accepted ones of the run. Assumes nothing.
use mathlib.Core.Path.{◌≡◌, refl, sym, ◌∙◌, ap}
use mathlib.Core.Bool.{Bool, true, false, ◌&&◌}
use mathlib.Core.List.{List, [], ◌∷◌, ◌++◌, append_assoc, append-nil}
use Prim.Native.Nat.{ℕ, ◌+◌, ◌-◌, ◌<◌}
use native.Mathlib.Numerals.{add-one}
use native.Mathlib.Omega.{arith}
use lib.Dec.{ltb}
use lib.Ieee.{Float}
use lib.ListN.{length, length-set}
use lib.Seq.{drop-set-lt}
use borrow.Author.Tests.{ltb-true, ltb-false}
use Rattle.base.specs.Said.{Said, gives, refuses, pick, and_then}
use Rattle.pitch.specs.Ratios.{as_cents}
use Rattle.scl.specs.Items.{is_usable}
use Rattle.scl.specs.Table.{ItemTable, items_in, kind_of, cents_of, numer_of, denom_at, written_at, are_usable}
use Rattle.scl.specs.declared.Item.{Item}
use Rattle.scl.specs.declared.Item.TheVariants.{Cents}
use Rattle.scl.proofs.Writing.{first_written}
use Rattle.scl_build.specs.Builder.{state, fits_items, pushed, written_where, pushed_ratio, after_cents, after_ratio, beside, builder_after, after_one, after_all, accepted_of, places_left, behind, Built, Appended, Push, after_pushed, after_pushes, with_cents, items_pushed}
use Rattle.scl_build.specs.declared.SclBuilder.{SclBuilder}
use Rattle.scl_build.proofs.Pushes.{Fit, fit_says, says_fit, push_unusable, push_full, push_more}

-- columns written at a place before the n-th are behind it as they were
pub behind_written : (n : ℕ) (t : ItemTable) (place : ℕ) (i : Item) → place < n → behind n (written_at t place i) ≡ behind n t
behind_written n t place i h =
    rw (drop-set-lt n t.kinds place (kind_of i) h, drop-set-lt n t.cents place (cents_of i) h, drop-set-lt n t.numers place (numer_of i) h, drop-set-lt n t.denoms place (denom_at i) h)

-- and have as many places
pub written_fits : (b : SclBuilder) (t : ItemTable) (place : ℕ) (i : Item) → Fit b t → Fit b (written_at t place i)
written_fits b t place i f = record {
  inside = f.inside;
  kinds = rw (length-set t.kinds place (kind_of i)) f.kinds;
  cents = rw (length-set t.cents place (cents_of i)) f.cents;
  numers = rw (length-set t.numers place (numer_of i)) f.numers;
  denoms = rw (length-set t.denoms place (denom_at i)) f.denoms;
}

-- what a push leaves, by what is said of it
pub left_by : (b : SclBuilder) (t : ItemTable) (i : Item) {s : Said SclBuilder} → pushed b t i ≡ s → after_one (beside b t) i ≡ beside (builder_after b s) (written_where s t (b.count + 1) i)
left_by b t i e = ap (λ (s : Said SclBuilder). beside (builder_after b s) (written_where s t (b.count + 1) i)) e

none_appended : (b : SclBuilder) (t : ItemTable) → fits_items b t ≡ true → Appended (beside b t) [] (beside b t)
none_appended b t f = record { items = sym (append-nil (items_in b.count t)); builder = ap (state b.room) (omega arith); others = refl; fits = f }

module _ (b : SclBuilder) (t : ItemTable) (i : Item) (f : Fit b t) (h : b.count + 1 < b.room) where
  abbrev next : SclBuilder
  next = state b.room (b.count + 1)

  abbrev written : ItemTable
  written = written_at t (b.count + 1) i

  pub next_fits : fits_items next written ≡ true
  next_fits =
      let w = written_fits b t (b.count + 1) i f in
      says_fit next written (record { inside = h; kinds = w.kinds; cents = w.cents; numers = w.numers; denoms = w.denoms })

  -- one item more
  pub next_items : items_in (b.count + 1) written ≡ items_in b.count t ++ (i ∷ [])
  next_items = rw add-one (first_written (b.count + 1) t i (record { kinds = omega (arith, f.kinds, h); cents = omega (arith, f.cents, h); numers = omega (arith, f.numers, h); denoms = omega (arith, f.denoms, h) }))

  appended_next : {is : List Item} {left : Built} → Appended (beside next written) is left → Appended (beside b t) (i ∷ is) left
  appended_next {is} {left} a =
      let n : b.count + 1 + length is ≡ b.count + length (i ∷ is) = omega arith in
      record {
        items = a.items ∙ (rw next_items (append_assoc (items_in b.count t) (i ∷ []) is));
        builder = a.builder ∙ ap (state b.room) n;
        others = rw (← n) (a.others ∙ behind_written (b.count + 1 + length is + 1) t (b.count + 1) i (omega arith));
        fits = a.fits;
      }

-- a run of pushes: the accepted ones are appended, each of the others appends nothing
pub run_appends : (is : List Item) (b : SclBuilder) (t : ItemTable) → fits_items b t ≡ true → Appended (beside b t) (accepted_of (places_left b) is) (after_all (beside b t) is)
unfolding after_all accepted_of
run_appends [] b t f = none_appended b t f
run_appends (i ∷ is) b t f = go (is_usable i) (ltb 0 (places_left b)) refl refl (run_appends is b t f) (λ h. run_appends is (state b.room (b.count + 1)) (written_at t (b.count + 1) i) (next_fits b t i (fit_says b t f) h))
  where
    go : (u p : Bool) → is_usable i ≡ u → ltb 0 (places_left b) ≡ p → Appended (beside b t) (accepted_of (places_left b) is) (after_all (beside b t) is)
        → (b.count + 1 < b.room → Appended (beside (state b.room (b.count + 1)) (written_at t (b.count + 1) i)) (accepted_of (b.room - (b.count + 1 + 1)) is) (after_all (beside (state b.room (b.count + 1)) (written_at t (b.count + 1) i)) is))
        → Appended (beside b t) (pick (u && p) (i ∷ accepted_of (places_left b - 1) is) (accepted_of (places_left b) is)) (after_all (after_one (beside b t) i) is)
    go true true u p old new =
        let h : b.count + 1 < b.room = omega (arith, ltb-true 0 (places_left b) p) in
        let n : b.room - (b.count + 1 + 1) ≡ places_left b - 1 = omega arith in
        rw (left_by b t i (push_more b t i f u h), ← n) (appended_next b t i (fit_says b t f) h (new h))
    go true false u p old new = rw (left_by b t i (push_full b t i f u (omega (arith, ltb-false 0 (places_left b) p)))) old
    go false p u q old new = rw (left_by b t i (push_unusable b t i f u)) old

-- a ratio's push is the push of its cents, or appends nothing
ratio_run : (s : Built) (is : List Item) (x : Said Float)
    → after_all (beside (builder_after s.builder (and_then x (λ c. pushed s.builder s.table (Cents c)))) (after_cents s.builder s.table x)) is ≡ after_all s (with_cents x is)
unfolding after_all
ratio_run s is (gives c) = refl
ratio_run s is (refuses n d) = refl

-- a run with ratios among its pushes is the run of the items that they come to
pub pushes_run : (ps : List Push) (s : Built) → after_pushes s ps ≡ after_all s (items_pushed ps)
unfolding after_pushes after_all items_pushed pushed_ratio after_ratio
pushes_run [] s = refl
pushes_run (Push.item i ∷ ps) s = pushes_run ps (after_one s i)
pushes_run (Push.ratio r ∷ ps) s = pushes_run ps (after_pushed s (Push.ratio r)) ∙ ratio_run s (items_pushed ps) (as_cents r)

-- so it appends the accepted ones of those
pub pushes_append : (ps : List Push) (b : SclBuilder) (t : ItemTable) → fits_items b t ≡ true → Appended (beside b t) (accepted_of (places_left b) (items_pushed ps)) (after_pushes (beside b t) ps)
pushes_append ps b t f = rw (pushes_run ps (beside b t)) (run_appends (items_pushed ps) b t f)

-- what is accepted is usable
pub accepted_usable : (places : ℕ) (is : List Item) → are_usable (accepted_of places is) ≡ true
unfolding accepted_of are_usable
accepted_usable places [] = refl
accepted_usable places (i ∷ is) = go (is_usable i) (ltb 0 places) refl (accepted_usable (places - 1) is) (accepted_usable places is)
  where
    go : (u p : Bool) → is_usable i ≡ u → are_usable (accepted_of (places - 1) is) ≡ true → are_usable (accepted_of places is) ≡ true → are_usable (pick (u && p) (i ∷ accepted_of (places - 1) is) (accepted_of places is)) ≡ true
    go true true e x y = rw e x
    go true false e x y = y
    go false p e x y = y
