-- What a push and a build come to, by the tests that the code makes. Assumes nothing.
use Rattle.std.specs.Prelude.{Option}
use mathlib.Core.Path.{◌≡◌, sym, ap}
use mathlib.Core.Bool.{true, false}
use mathlib.Core.List.{List}
use Prim.Native.Nat.{◌≤◌, ◌<◌}
use native.Mathlib.Omega.{arith}
use lib.IntN.{ℤ}
use lib.ListN.{length}
use borrow.Author.Tests.{eq-eqb, ne_eqb, lt-ltb, le-ltb, le-leb, lt-leb}
use Rattle.base.specs.Numbers.{unusable, no_room}
use Rattle.base.specs.Said.{Said, gives, refuses}
use Rattle.kbm_build.specs.Builder.{fits_table, with_one_more, pushed, set_where, after_push}
use Rattle.kbm.specs.Table.{number_of}
use Rattle.kbm_build.specs.declared.KbmBuilder.{KbmBuilder}

module _ (b : KbmBuilder) (map : List ℤ) where
  -- the state of another table
  pub not_fitting : (b.room ≡ length map → ⊥) → fits_table b map ≡ false
  not_fitting differ = rw (ne_eqb b.room (length map) differ)

  pub push_other : (b.room ≡ length map → ⊥) → pushed b map ≡ refuses unusable 0
  unfolding pushed
  push_other differ = rw (not_fitting differ)

  pub after_push_law : {s : Said KbmBuilder} (e : (Option ℤ)) → pushed b map ≡ s → set_where s map b.count (number_of e) ≡ after_push b map e
  after_push_law e is = ap (λ s. set_where s map b.count (number_of e)) (sym is)

  module _ (room : b.room ≡ length map) where
    pub fitting : b.count ≤ b.room → fits_table b map ≡ true
    fitting h = rw (eq-eqb b.room (length map) room, le-leb b.count b.room h)

    -- more entries than places
    pub too_full : b.room < b.count → fits_table b map ≡ false
    too_full h = rw (eq-eqb b.room (length map) room, lt-leb b.count b.room h)

    pub push_past : b.room ≤ b.count → (b.count ≡ b.room → ⊥) → pushed b map ≡ refuses unusable 0
    unfolding pushed
    push_past h differ = rw (too_full (omega (arith, h, differ)))

    pub push_full : b.count ≡ b.room → pushed b map ≡ refuses no_room 0
    unfolding pushed
    push_full h = rw (fitting (omega (arith, h)), le-ltb b.count b.room (omega (arith, h)))

    pub push_more : b.count < b.room → pushed b map ≡ gives (with_one_more b)
    unfolding pushed
    push_more h = rw (fitting (omega (arith, h)), lt-ltb b.count b.room h)
