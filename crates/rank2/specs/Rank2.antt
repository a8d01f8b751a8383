-- A scale from a rank-2 temperament: the Rust's `create_rank2_temperament_scale`. "Generators know their item count and test 13, 10, 12 in
-- that order, then give 18 where it arises [..]; rank-2 gives 10 if generator or period is outside 2^-32..2^32, or L(period) = 0"
-- (document 01, "Scales and searches"). Assumes nothing.
use Rattle.std.specs.Prelude.{◌≡◌, Bool, true, not, ◌&&◌, List, [], ◌∷◌, ℕ, ◌+◌, ◌≤◌, ◌<◌, leb, Float}
use Rattle.base.specs.Numbers.{unusable, too_large}
use Rattle.base.specs.Said.{Said, gives, refuses, pick, and_then}
use Rattle.floats.specs.Floats.{one_f}
use Rattle.floats.specs.Ranges.{in_generator}
use Rattle.explog.specs.Rules.{L}
use Rattle.pitch.specs.Ratios.{as_cents}
use Rattle.sorted.specs.Lent.{ListTable}
use Rattle.scl.specs.Items.{ratio_of}
use Rattle.scl.specs.Table.{ItemTable, implicit}
use Rattle.scl.specs.declared.Item.{Item}
use Rattle.scl.specs.declared.Item.TheVariants.{Cents}
use Rattle.scl_tables.specs.Build.{is_none, last_of}
use Rattle.scl_tables.specs.Room.{room_of}
use Rattle.generate.specs.Generated.{made_of}
use Rattle.rank2.specs.Notes.{pitch_at, ratios_from, ascending}

-- the period, and a note for each generation
abbrev pub note_count : ℕ → ℕ → ℕ
note_count positive negative = positive + negative + 1

-- "generator or period is outside 2^-32..2^32, or L(period) = 0": else it can be used
abbrev pub is_temperament : Float → Float → Bool
is_temperament generator period = in_generator generator && (in_generator period && not (is_none (L period)))

-- `sort_by(total_cmp)` of the first n pitch values
unfoldable pub ascending_ratios : (ℕ → Said Float) → ℕ → Said (List Float)
ascending_ratios f n = and_then (ratios_from f 0 n) (λ rs. gives (ascending rs))

-- what `push_ratio` pushes for each: its cents
unfoldable pub pushed_as : List Float → Said (List Item)
pushed_as [] = gives []
pushed_as (r ∷ rs) = and_then (as_cents r) (λ cents. and_then (pushed_as rs) (λ is. gives (Cents cents ∷ is)))

-- THE ITEMS of n pitch values: in ascending order, each as its cents
abbrev pub ascending_items : (ℕ → Said Float) → ℕ → Said (List Item)
ascending_items f n = and_then (ascending_ratios f n) pushed_as

-- those of a generator and a period
abbrev pub temperament_of : Float → ℕ → ℕ → Float → Said (List Item)
temperament_of generator positive negative period =
    and_then (as_cents generator) (λ g. and_then (as_cents period) (λ p. ascending_items (pitch_at period g p positive) (note_count positive negative)))

-- the items of an accepted call: 13, then 10, then 12, then 18
unfoldable pub made_rank2 : ItemTable → ListTable → Float → ℕ → ℕ → Float → Said (List Item)
made_rank2 t l generator positive negative period =
    pick (leb (note_count positive negative) 65535)
    (pick (is_temperament generator period) (made_of t l (note_count positive negative) (temperament_of generator positive negative period)) (refuses unusable 0))
    (refuses too_large 0)

-- ---- in whose words the theorems speak
-- the tests before 18 pass
pub record Tested (t : ItemTable) (l : ListTable) (generator : Float) (positive negative : ℕ) (period : Float) : Type 0 where
  pub few : note_count positive negative ≤ 65535
  pub usable : is_temperament generator period ≡ true
  pub room : note_count positive negative < room_of t l

-- two or more items, and the period of the scale, the ratio of its last item, is 1.0
abbrev pub PeriodOne : Float → ℕ → ℕ → Float → Type 0
PeriodOne generator positive negative period =
    (2 ≤ note_count positive negative) × (and_then (temperament_of generator positive negative period) (λ is. ratio_of (last_of (implicit ∷ is))) ≡ gives one_f)
