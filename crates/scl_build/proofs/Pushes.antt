-- What a new builder and a push come to, by the tests that the code makes. Assumes nothing.
use mathlib.Core.Path.{◌≡◌, sym, ◌∙◌, ap}
use mathlib.Core.Bool.{true, false, ◌&&◌}
use Prim.Native.Nat.{ℕ, ◌+◌, ◌≤◌, ◌<◌}
use lib.Dec.{leb, ltb}
use lib.ListN.{length}
use borrow.Author.Tests.{ltb-true, lt-ltb, le-ltb, leb-true, le-leb}
use Rattle.base.specs.Numbers.{unusable, no_room}
use Rattle.base.specs.Said.{Said, gives, refuses}
use Rattle.sorted.specs.Lent.{ListTable}
use Rattle.scl.specs.Items.{is_usable}
use Rattle.scl.specs.Table.{ItemTable, written_at}
use Rattle.scl.specs.declared.Item.{Item}
use Rattle.scl.proofs.Table.{both}
use Rattle.scl_build.specs.Builder.{state, fits_items, fits_list, pushed, written_where, after_push}
use Rattle.scl_build.specs.declared.SclBuilder.{SclBuilder}

-- ---- what it is to fit
pub record Fit (b : SclBuilder) (t : ItemTable) : Type 0 where
  pub inside : b.count < b.room
  pub kinds : b.room ≤ length t.kinds
  pub cents : b.room ≤ length t.cents
  pub numers : b.room ≤ length t.numers
  pub denoms : b.room ≤ length t.denoms

pub fit_says : (b : SclBuilder) (t : ItemTable) → fits_items b t ≡ true → Fit b t
fit_says b t h =
    let r = b.room in
    let all = both (ltb b.count r) (leb r (length t.kinds) && leb r (length t.cents) && leb r (length t.numers) && leb r (length t.denoms)) h in
    let third = both (leb r (length t.kinds) && leb r (length t.cents) && leb r (length t.numers)) (leb r (length t.denoms)) all.1 in
    let second = both (leb r (length t.kinds) && leb r (length t.cents)) (leb r (length t.numers)) third.0 in
    let first = both (leb r (length t.kinds)) (leb r (length t.cents)) second.0 in
    record {
      inside = ltb-true b.count r all.0;
      kinds = leb-true r (length t.kinds) first.0;
      cents = leb-true r (length t.cents) first.1;
      numers = leb-true r (length t.numers) second.1;
      denoms = leb-true r (length t.denoms) third.1;
    }

pub says_fit : (b : SclBuilder) (t : ItemTable) → Fit b t → fits_items b t ≡ true
says_fit b t f =
    let r = b.room in
    rw (lt-ltb b.count r f.inside, le-leb r (length t.kinds) f.kinds, le-leb r (length t.cents) f.cents, le-leb r (length t.numers) f.numers, le-leb r (length t.denoms) f.denoms)

pub record FitList (b : SclBuilder) (l : ListTable) : Type 0 where
  pub places : b.room ≤ length l.places
  pub ratios : b.room ≤ length l.ratios
  pub wraps : b.room ≤ length l.wraps

pub fit_list_says : (b : SclBuilder) (l : ListTable) → fits_list b l ≡ true → FitList b l
fit_list_says b l h =
    let r = b.room in
    let second = both (leb r (length l.places) && leb r (length l.ratios)) (leb r (length l.wraps)) h in
    let first = both (leb r (length l.places)) (leb r (length l.ratios)) second.0 in
    record { places = leb-true r (length l.places) first.0; ratios = leb-true r (length l.ratios) first.1; wraps = leb-true r (length l.wraps) second.1 }

pub says_fit_list : (b : SclBuilder) (l : ListTable) → FitList b l → fits_list b l ≡ true
says_fit_list b l f = let r = b.room in rw (le-leb r (length l.places) f.places, le-leb r (length l.ratios) f.ratios, le-leb r (length l.wraps) f.wraps)

-- ---- a push
module _ (b : SclBuilder) (t : ItemTable) (i : Item) where
  pub push_other : fits_items b t ≡ false → pushed b t i ≡ refuses unusable 0
  unfolding pushed
  push_other f = rw f

  -- the table goes with what is said
  pub refused : {n d : ℕ} → pushed b t i ≡ refuses n d → (refuses n d ≡ pushed b t i) × (t ≡ after_push b t i)
  refused e = (sym e, ap (λ (s : Said SclBuilder). written_where s t (b.count + 1) i) (sym e))

  pub accepted : {b' : SclBuilder} → pushed b t i ≡ gives b' → {t' : ItemTable} → t' ≡ written_at t (b.count + 1) i → (gives b' ≡ pushed b t i) × (t' ≡ after_push b t i)
  accepted e w = (sym e, w ∙ ap (λ (s : Said SclBuilder). written_where s t (b.count + 1) i) (sym e))

  module _ (f : fits_items b t ≡ true) where
    pub push_unusable : is_usable i ≡ false → pushed b t i ≡ refuses unusable 0
    unfolding pushed
    push_unusable u = rw (f, u)

    module _ (u : is_usable i ≡ true) where
      pub push_full : b.room ≤ b.count + 1 → pushed b t i ≡ refuses no_room 0
      unfolding pushed
      push_full h = rw (f, u, le-ltb (b.count + 1) b.room h)

      pub push_more : b.count + 1 < b.room → pushed b t i ≡ gives (state b.room (b.count + 1))
      unfolding pushed
      push_more h = rw (f, u, lt-ltb (b.count + 1) b.room h)
