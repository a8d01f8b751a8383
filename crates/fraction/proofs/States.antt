-- What holds of every state of the walk of `nearest_fraction`: it is between two fractions of 16 bits, neither of them 0/0,
-- and what holds of each fraction that counts holds of the best. Assumes nothing.
use Rattle.std.specs.declared.ops.ControlFlow.{ControlFlow}
use Rattle.std.specs.declared.ops.ControlFlow.TheVariants.{Continue, Break}
use mathlib.Core.Path.{◌≡◌, refl, sym, ◌∙◌}
use mathlib.Core.Bool.{Bool, true, false, ◌&&◌, true≢false}
use Prim.Native.Nat.{ℕ, zero, suc, ◌+◌, ◌≤◌}
use native.Mathlib.Omega.{arith}
use lib.Dec.{ltb}
use lib.Ieee.{Float, binary64, div, lt}
use borrow.Author.Tests.{ltb-false}
use Rattle.base.specs.Said.{pick}
use Rattle.fraction.specs.NearestFraction.{fraction, walk_of, widest, float_of, both_over, both_within, improved, passed, turn_at, turn_of, end_of, walked, Proper}
use Rattle.pitch.specs.Ratios.{upward}
use Rattle.fraction.specs.declared.Fraction.{Fraction}
use Rattle.fraction.specs.declared.Walk.{Walk}

-- neither fraction is 0/0
pub record Between (w : Walk) : Type 0 where
  pub low : 1 ≤ w.low.denom
  pub high : 1 ≤ w.high.numer

-- both are of 16 bits
pub record InU16 (w : Walk) : Type 0 where
  pub low_numer : w.low.numer ≤ 65535
  pub low_denom : w.low.denom ≤ 65535
  pub high_numer : w.high.numer ≤ 65535
  pub high_denom : w.high.denom ≤ 65535

-- and something holds of the best and its deviation
pub record State (B : Fraction → Float → Type 0) (w : Walk) : Type 0 where
  pub between : Between w
  pub held : InU16 w
  pub best : B w.best w.deviation

-- anything
abbrev pub Any : Fraction → Float → Type 0
Any f d = Unit

-- a fraction that counts, with the target's deviation from it
pub record Counted (target : Float) (limit : ℕ) (f : Fraction) (d : Float) : Type 0 where
  pub proper : Proper f
  pub within : both_within f limit ≡ true
  pub deviation : d ≡ div binary64 target (float_of f)

-- the walk after a turn
abbrev pub after : (ControlFlow Walk Walk) → Walk
after (Continue w) = w
after (Break w) = w

-- the best may change; the two fractions stay
pub record Kept (w better : Walk) : Type 0 where
  pub low : better.low ≡ w.low
  pub high : better.high ≡ w.high

pub improved_keeps : (w : Walk) (mid : Fraction) (deviation : Float) (limit : ℕ) → Kept w (improved w mid deviation limit)
unfolding improved
improved_keeps w mid deviation limit = go (both_within mid limit && lt (upward deviation) (upward w.deviation))
  where
    go : (t : Bool) → Kept w (pick t (walk_of w.low w.high mid deviation) w)
    go true = record { low = refl; high = refl }
    go false = record { low = refl; high = refl }

-- the ways of the code: it has asked whether the fraction counts, and has both deviations upwards
module _ (w : Walk) (mid : Fraction) (deviation : Float) (limit : ℕ) {counts : Bool} (asked : counts ≡ both_within mid limit) where
  pub left_out : counts ≡ false → w ≡ improved w mid deviation limit
  unfolding improved
  left_out c = rw (sym asked ∙ c)

  module _ {new old : Float} (n : new ≡ upward deviation) (o : old ≡ upward w.deviation) (c : counts ≡ true) where
    nearness : {t : Bool} → lt new old ≡ t → lt (upward deviation) (upward w.deviation) ≡ t
    nearness e = (λ i. lt (sym n i) (sym o i)) ∙ e

    pub nearer : lt new old ≡ true → walk_of w.low w.high mid deviation ≡ improved w mid deviation limit
    unfolding improved
    nearer e = rw (sym asked ∙ c, nearness e)

-- B holds of each fraction in the middle that counts
module _ (target : Float) (limit : ℕ) (B : Fraction → Float → Type 0) (new : (mid : Fraction) → Proper mid → both_within mid limit ≡ true → B mid (div binary64 target (float_of mid))) where
  -- another fraction below, or above; the best is kept
  lower : {w : Walk} (mid : Fraction) → State B w → Proper mid → State B (walk_of w.low mid w.best w.deviation)
  lower {w} mid s p =
      record {
        between = record { low = s.between.low; high = p.numer_some };
        held = record { low_numer = s.held.low_numer; low_denom = s.held.low_denom; high_numer = p.numer_held; high_denom = p.denom_held };
        best = s.best;
      }

  higher : {w : Walk} (mid : Fraction) → State B w → Proper mid → State B (walk_of mid w.high w.best w.deviation)
  higher {w} mid s p =
      record {
        between = record { low = p.denom_some; high = s.between.high };
        held = record { low_numer = p.numer_held; low_denom = p.denom_held; high_numer = s.held.high_numer; high_denom = s.held.high_denom };
        best = s.best;
      }

  both : (x y : Bool) → x && y ≡ true → x ≡ true
  both true y e = refl
  both false y e = absurd (true≢false (sym e))

  better : (w : Walk) (mid : Fraction) → State B w → Proper mid → State B (improved w mid (div binary64 target (float_of mid)) limit)
  unfolding improved
  better w mid s p = go (both_within mid limit && lt (upward (div binary64 target (float_of mid))) (upward w.deviation)) (both (both_within mid limit) _)
    where
      go : (t : Bool) → (t ≡ true → both_within mid limit ≡ true) → State B (pick t (walk_of w.low w.high mid (div binary64 target (float_of mid))) w)
      go true f = record { between = record { low = s.between.low; high = s.between.high }; held = record { low_numer = s.held.low_numer; low_denom = s.held.low_denom; high_numer = s.held.high_numer; high_denom = s.held.high_denom }; best = new mid p (f refl) }
      go false f = s

  pub past : (w : Walk) (mid : Fraction) → State B w → Proper mid → State B (after (passed w mid target))
  unfolding passed
  past w mid s p = go (lt target (float_of mid)) (lt (float_of mid) target)
    where
      go : (a b : Bool) → State B (after (pick a (Continue (walk_of w.low mid w.best w.deviation)) (pick b (Continue (walk_of mid w.high w.best w.deviation)) (Break w))))
      go true b = lower mid s p
      go false true = higher mid s p
      go false false = s

  turned : (w : Walk) (mid : Fraction) → State B w → Proper mid → State B (after (turn_at w mid target limit))
  unfolding turn_at
  turned w mid s p = go (both_over mid limit)
    where
      go : (t : Bool) → State B (after (pick t (Break w) (passed (improved w mid (div binary64 target (float_of mid)) limit) mid target)))
      go true = s
      go false = past _ mid (better w mid s p) p

  -- a turn keeps what holds
  pub state_step : (w : Walk) → State B w → State B (after (turn_of w target limit))
  unfolding turn_of
  state_step w s =
      at (w.low.numer + w.high.numer) (w.low.denom + w.high.denom) (omega (arith, s.between.high)) (omega (arith, s.between.low))
    where
      go : (n d : ℕ) (a c : Bool) → (a ≡ false → n ≤ 65535) → (c ≡ false → d ≤ 65535) → 1 ≤ n → 1 ≤ d → State B (after (pick a (Break w) (pick c (Break w) (turn_at w (fraction n d) target limit))))
      go n d true c f g x y = s
      go n d false true f g x y = s
      go n d false false f g x y = turned w (fraction n d) s (record { numer_some = x; denom_some = y; numer_held = f refl; denom_held = g refl })

      at : (n d : ℕ) → 1 ≤ n → 1 ≤ d → State B (after (pick (ltb 65535 n) (Break w) (pick (ltb 65535 d) (Break w) (turn_at w (fraction n d) target limit))))
      at n d = go n d (ltb 65535 n) (ltb 65535 d) (ltb-false 65535 n) (ltb-false 65535 d)

  pub state_rest : (k : ℕ) (w : Walk) → State B w → State B (walked k w target limit)
  unfolding walked
  state_rest zero w s = s
  state_rest (suc k) w s = go (λ next h. state_rest k next h) (turn_of w target limit) (state_step w s)
    where
      go : ((next : Walk) → State B next → State B (walked k next target limit)) → (e : (ControlFlow Walk Walk)) → State B (after e) → State B (end_of e (λ next. walked k next target limit))
      go f (Continue next) h = f next h
      go f (Break last) h = h

-- every state of the walk from its widest
pub state_start : State Any widest
state_start =
    record {
      between = record { low = omega arith; high = omega arith };
      held = record { low_numer = omega arith; low_denom = omega arith; high_numer = omega arith; high_denom = omega arith };
      best = tt;
    }

pub state_step_any : (target : Float) (limit : ℕ) (w : Walk) → State Any w → State Any (after (turn_of w target limit))
state_step_any target limit w s = state_step target limit Any (λ mid p t. tt) w s

pub state_walked : (target : Float) (limit k : ℕ) → State Any (walked k widest target limit)
state_walked target limit k = state_rest target limit Any (λ mid p t. tt) k widest state_start
