-- What the code goes through: a look at the highest note, the pushes one by one, and the list's columns as work space. Assumes nothing.
use Rattle.std.specs.Prelude.{◌≡◌, Bool, List, [], ◌∷◌, ℕ, Float, length, drop, take}
use Rattle.base.specs.Said.{Said, gives, and_then}
use Rattle.pitch.specs.Ratios.{as_cents}
use Rattle.sorted.specs.Lent.{ListTable}
use Rattle.scl.specs.Table.{ItemTable}
use Rattle.scl.specs.declared.Item.TheVariants.{Cents}
use Rattle.scl_tables.specs.Build.{is_beyond}
use Rattle.scl_tables.specs.Room.{room_of}
use Rattle.scl_build.specs.Builder.{Built, beside, state, after_new, builder_after, pushed_ratio, after_ratio}
use Rattle.rank2.specs.Notes.{highest_from}

-- whether a scale of the first n pitch values is beyond reach, by the highest one
unfoldable pub beyond_of : (ℕ → Said Float) → ℕ → Said Bool
beyond_of f n = and_then (highest_from f 0 n) (λ top. and_then (as_cents top) (λ cents. gives (is_beyond n (Cents cents))))

-- one ratio pushed, whether it is accepted or refused
abbrev pub after_one_ratio : Built → Float → Built
after_one_ratio s r = beside (builder_after s.builder (pushed_ratio s.builder s.table r)) (after_ratio s.builder s.table r)

-- these ratios pushed one after the other
unfoldable pub after_ratios : Built → List Float → Built
after_ratios s [] = s
after_ratios s (r ∷ rs) = after_ratios (after_one_ratio s r) rs

-- the first n ratios of the list's column, pushed into a new builder
abbrev pub ran_of : ItemTable → ListTable → ℕ → Built
ran_of t l n = after_ratios (beside (state (room_of t l) 0) (after_new t l)) (take n l.ratios)

-- the list's columns changed in their first n places alone
pub record Behind (n : ℕ) (old new : ListTable) : Type 0 where
  pub places_room : length new.places ≡ length old.places
  pub ratios_room : length new.ratios ≡ length old.ratios
  pub wraps_room : length new.wraps ≡ length old.wraps
  pub places : drop n new.places ≡ drop n old.places
  pub ratios : drop n new.ratios ≡ drop n old.ratios
  pub wraps : drop n new.wraps ≡ drop n old.wraps
