-- What a search says of the entry that it picked, for a user: of the two neighbours of the reduced target none is nearer beyond the
-- tolerance. That every search says it is `search_says` of proofs/Theorems.antt. Assumes nothing.
use Rattle.std.specs.Prelude.{◌≡◌, true, false, List, ℕ, ◌-◌, ◌<◌, ◌≤◌, ℤ, length, get_or, Float}
use Rattle.std.specs.Float.{binary64}
use Rattle.std.specs.Float.Ieee.{lt, mul, div}
use Rattle.floats.specs.Floats.{one_f}
use Rattle.base.specs.Said.{gives}
use Rattle.sorting.specs.Entries.{Entry}
use Rattle.scl.specs.Items.{ratio_of}
use Rattle.scl.specs.declared.Item.{Item}
use Rattle.scl_tables.specs.Reduce.{reduced_by}
use Rattle.scl_tables.specs.declared.reduction.Reduced.{Reduced}
use Rattle.scl_tables.specs.Build.{last_of}
use Rattle.relative.specs.Scales.{no_entry}
use Rattle.searching.specs.Search.{tolerance, found_at, upper_of}
use Rattle.searching.specs.declared.Found.{Found}

-- the ratio at a place of the list
abbrev pub ratio_at : List Entry → ℕ → Float
ratio_at es i = (get_or es i no_entry).ratio

-- how far the target lies above an entry, and below it, each rounded once
abbrev pub above_by : Float → Float → Float
above_by target lower = div binary64 target lower

abbrev pub below_by : Float → Float → Float
below_by target upper = div binary64 upper target

-- the place `at` parts the list: every entry before it is below the target, or it is the first one after the lowest; no entry from
-- it on is below the target, or it is the last one
pub record Parts (es : List Entry) (target : Float) (at : ℕ) : Type 0 where
  pub some : 0 < at
  pub last : at ≤ length es - 1
  pub before : (k : ℕ) → 1 < at → k < at → lt (ratio_at es k) target ≡ true
  pub from : (k : ℕ) → at < length es - 1 → at ≤ k → k < length es → lt (ratio_at es k) target ≡ false

-- the picked one of the neighbours at - 1 and at: the lower one exactly where its deviation, made smaller by the tolerance, is below the
-- upper one's. The deviation is target / lower, or 1.0 / (upper / target)
pub data Picked (es : List Entry) (periods : ℤ) (target : Float) (at : ℕ) (f : Found) : Type 0 where
  lower : f ≡ found_at (get_or es (at - 1) no_entry) (at - 1) periods (above_by target (ratio_at es (at - 1)))
      → lt (mul binary64 (above_by target (ratio_at es (at - 1))) tolerance) (below_by target (ratio_at es at)) ≡ true → Picked es periods target at f
  upper : f ≡ found_at (get_or es at no_entry) at periods (div binary64 one_f (below_by target (ratio_at es at)))
      → lt (mul binary64 (above_by target (ratio_at es (at - 1))) tolerance) (below_by target (ratio_at es at)) ≡ false → Picked es periods target at f

-- what a search of x in a scale says: the target is x reduced by the period, its place parts the list, and of the two neighbours there
-- one is picked. The found entry's periods are those that the reduction took off
pub record Searched (items : List Item) (es : List Entry) (x : Float) (f : Found) : Type 0 where
  pub period : Float
  pub reduced : Reduced
  pub is_period : ratio_of (last_of items) ≡ gives period
  pub is_reduced : reduced_by period x ≡ gives reduced
  pub parts : Parts es reduced.ratio (upper_of es reduced.ratio)
  pub picked : Picked es reduced.wraps reduced.ratio (upper_of es reduced.ratio) f
