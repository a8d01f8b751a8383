-- Inside 2^-64..2^64 `nearest_fraction` always answers: its octaves are at most 64 either way, so neither L nor the count, E
-- or the quotient refuses; each deviation that its walk computes lies in 2^-900..2^900; and with a limit of 1 or more its
-- best counts. Assumes nothing.
use Rattle.std.specs.declared.ops.ControlFlow.{ControlFlow}
use Rattle.std.specs.declared.ops.ControlFlow.TheVariants.{Continue, Break}
use mathlib.Core.Path.{◌≡◌, refl, sym, ap, ◌∙◌, subst}
use mathlib.Core.Bool.{Bool, true, false, ◌&&◌}
use Prim.Native.Nat.{ℕ, suc, ◌-◌, ◌+◌, ◌≤◌}
use native.Mathlib.Nat.{le_trans}
use native.Mathlib.Omega.{arith}
use borrow.Author.Tests.{le-ltb, le-leb}
use lib.Dec.{lit<, lit≤}
use lib.IntN.{ℤ}
use lib.Ieee.{Float, inf, binary64, fits, div, neg, lt, of_int, to_signed}
use lib.Ieee.Bits.{is_true}
use lib.Ieee.Fits.{of_int-fits}
use Rattle.base.specs.Said.{Said, gives, and_then, pick}
use Rattle.floats.specs.Floats.{floor, count, one_f}
use Rattle.floats.specs.Ranges.{in_reach, in_search}
use Rattle.floats.proofs.Between.{fraction_within, over_within, inverse_within, within_more, within_reach}
use Rattle.floats.proofs.Ranges.{Within, within_fin, search_says}
use Rattle.floats.proofs.Sized.{Sized, sized_more, floor_sized, signed_sized, sized_count}
use Rattle.math.specs.OddPart.{halved_while_even}
use Rattle.explog.specs.Rules.{E, L, log_of, power_of, floor_of}
use Rattle.explog.proofs.Reach.{log_sized, exp_within, sized_powers}
use Rattle.pitch.specs.Given.{computed}
use Rattle.fraction.specs.NearestFraction.{fraction, walk_of, widest, turns, walked, end_of, float_of, both_over, both_within, improved, passed, turn_at, turn_of, best_for, nearest_fraction, Proper}
use Rattle.pitch.specs.Ratios.{from_octaves, upward}
use Rattle.fraction.specs.declared.Fraction.{Fraction}
use Rattle.fraction.specs.declared.Walk.{Walk}
use Rattle.fraction.proofs.States.{State, Any, Counted, after, past, state_rest}

reach_of : {a b : ℕ} {x : Float} → a ≤ 900 → b ≤ 900 → Within a b x → in_reach x ≡ true
reach_of h k w = within_reach (within_more h k w)

-- ---- the steps before the walk
-- what comes of them: the whole octaves, the power of two, and the target, none refused
pub record BeforeWalk (r : Float) : Type 0 where
  pub octaves : Float
  pub whole : ℤ
  pub power : Float
  pub log_is : L r ≡ gives octaves
  pub count_is : count (floor octaves) ≡ gives whole
  pub power_is : from_octaves (of_int binary64 whole) ≡ gives power
  pub nearest_is : (limit : ℕ) → nearest_fraction r limit ≡ gives (best_for (div binary64 r power) whole limit)
  pub power_within : Within 64 64 power
  pub target_within : Within 128 128 (div binary64 r power)

module _ (r : Float) (f : fits binary64 r ≡ true) (s : in_search r ≡ true) where
  searched : Within 64 64 r
  searched = search_says r s

  log_gives : L r ≡ gives (log_of r)
  unfolding L
  log_gives = rw (reach_of {a = 64} {b = 64} (lit≤ tt) (lit≤ tt) searched)

  whole_sized : Sized 64 (floor (log_of r))
  whole_sized = floor_sized (lit≤ tt) (log_sized 64 r (log_of r) (lit≤ tt) f searched log_gives)

  abbrev whole_of : ℤ
  whole_of = to_signed 31 (floor (log_of r))

  count_gives : count (floor (log_of r)) ≡ gives whole_of
  count_gives = rw (sized_count (floor (log_of r)) (lit< tt) whole_sized)

  back_sized : Sized 64 (of_int binary64 whole_of)
  back_sized = signed_sized 31 (lit≤ tt) whole_sized

  abbrev power_at : Float
  power_at = power_of (floor_of (of_int binary64 whole_of))

  exp_gives : E (of_int binary64 whole_of) ≡ gives power_at
  unfolding E
  exp_gives = rw (sized_powers (of_int binary64 whole_of) (sized_more (lit≤ tt) back_sized))

  power_fits : Within 64 64 power_at
  power_fits = exp_within 64 (of_int binary64 whole_of) power_at (lit≤ tt) (is_true (fits binary64 (of_int binary64 whole_of)) (of_int-fits binary64 whole_of)) back_sized exp_gives

  power_gives : from_octaves (of_int binary64 whole_of) ≡ gives power_at
  power_gives = ap (λ (a : Said Float). and_then a computed) exp_gives ∙ rw (reach_of {a = 64} {b = 64} (lit≤ tt) (lit≤ tt) power_fits)

  quotient_gives : Within 128 128 (div binary64 r power_at)
  quotient_gives = over_within (lit≤ tt) (lit≤ tt) searched power_fits

  target_gives : computed (div binary64 r power_at) ≡ gives (div binary64 r power_at)
  target_gives = rw (reach_of {a = 128} {b = 128} (lit≤ tt) (lit≤ tt) quotient_gives)

  nearest_gives : (limit : ℕ) → nearest_fraction r limit ≡ gives (best_for (div binary64 r power_at) whole_of limit)
  unfolding nearest_fraction
  nearest_gives limit = rw (s, log_gives, count_gives, power_gives) (ap (λ (a : Said Float). and_then a (λ target. gives (best_for target whole_of limit))) target_gives)

  pub before_walk : BeforeWalk r
  before_walk =
      record {
        octaves = log_of r;
        whole = whole_of;
        power = power_at;
        log_is = log_gives;
        count_is = count_gives;
        power_is = power_gives;
        nearest_is = nearest_gives;
        power_within = power_fits;
        target_within = quotient_gives;
      }

-- ---- the walk
pub proper_within : (f : Fraction) → Proper f → Within 16 16 (float_of f)
proper_within f p = fraction_within f.numer f.denom p.numer_some p.numer_held p.denom_some p.denom_held

upward_within : {a : ℕ} (x : Float) → a ≤ 900 → Within a a x → Within a a (upward x)
unfolding upward
upward_within {a} x h w = go (lt (neg one_f) x && lt x one_f)
  where
    go : (t : Bool) → Within a a (pick t (div binary64 one_f x) x)
    go true = inverse_within (le_trans h (lit≤ tt)) (le_trans h (lit≤ tt)) w
    go false = w

-- the target's deviation from a fraction, and the same upwards
pub deviation_reach : (target : Float) (f : Fraction) → Within 128 128 target → Proper f →
    (in_reach (div binary64 target (float_of f)) ≡ true) × (in_reach (upward (div binary64 target (float_of f))) ≡ true)
deviation_reach target f t p =
    let w : Within 144 144 (div binary64 target (float_of f)) = over_within (lit≤ tt) (lit≤ tt) t (proper_within f p) in
    (reach_of {a = 144} {b = 144} (lit≤ tt) (lit≤ tt) w, reach_of {a = 144} {b = 144} (lit≤ tt) (lit≤ tt) (upward_within (div binary64 target (float_of f)) (lit≤ tt) w))

-- the fraction in the middle of a state of the walk, where its numbers have 16 bits
pub middle_proper : {w : Walk} → State Any w → (n d : ℕ) → n ≡ w.low.numer + w.high.numer → d ≡ w.low.denom + w.high.denom → n ≤ 65535 → d ≤ 65535 → Proper (fraction n d)
middle_proper s n d e g h k = record { numer_some = omega (arith, s.between.high); denom_some = omega (arith, s.between.low); numer_held = h; denom_held = k }

-- ---- a limit of 1 or more: the first turn finds 1/1, and from there on the best counts
module _ (target : Float) (limit : ℕ) (some : 1 ≤ limit) (t : Within 128 128 target) where
  abbrev one : Fraction
  one = fraction 1 1

  one_proper : Proper one
  one_proper = record { numer_some = omega arith; denom_some = omega arith; numer_held = omega arith; denom_held = omega arith }

  abbrev deviation_one : Float
  deviation_one = div binary64 target (float_of one)

  not_over : both_over one limit ≡ false
  unfolding both_over halved_while_even
  not_over = rw (le-ltb limit 1 some)

  one_within : both_within one limit ≡ true
  unfolding both_within halved_while_even
  one_within = rw (le-leb 1 limit some)

  -- any number is below the infinite deviation of the widest
  below : {x : Float} → Within 144 144 x → lt x (upward (inf false)) ≡ true
  unfolding lt upward neg
  below (within_fin m e p l h) = refl

  one_nearer : lt (upward deviation_one) (upward (inf false)) ≡ true
  one_nearer = below (upward_within deviation_one (lit≤ tt) (over_within (lit≤ tt) (lit≤ tt) t (proper_within one one_proper)))

  improved_one : improved widest one deviation_one limit ≡ walk_of (fraction 0 1) (fraction 1 0) one deviation_one
  unfolding improved
  improved_one = rw (one_within, one_nearer)

  new : (mid : Fraction) → Proper mid → both_within mid limit ≡ true → Counted target limit mid (div binary64 target (float_of mid))
  new mid p e = record { proper = p; within = e; deviation = refl }

  at_one : State (Counted target limit) (walk_of (fraction 0 1) (fraction 1 0) one deviation_one)
  at_one = record { between = record { low = omega arith; high = omega arith }; held = record { low_numer = omega arith; low_denom = omega arith; high_numer = omega arith; high_denom = omega arith }; best = new one one_proper one_within }

  first : turn_of widest target limit ≡ passed (walk_of (fraction 0 1) (fraction 1 0) one deviation_one) one target
  unfolding turn_of turn_at
  first = rw (not_over, improved_one)

  counted_after : (k : ℕ) → State (Counted target limit) (walked (suc k) widest target limit)
  unfolding walked
  counted_after k =
      subst (λ (e : (ControlFlow Walk Walk)). State (Counted target limit) (end_of e (λ next. walked k next target limit))) (sym first)
      (go (passed (walk_of (fraction 0 1) (fraction 1 0) one deviation_one) one target) (past target limit (Counted target limit) new _ one at_one one_proper))
    where
      go : (e : (ControlFlow Walk Walk)) → State (Counted target limit) (after e) → State (Counted target limit) (end_of e (λ next. walked k next target limit))
      go (Continue next) h = state_rest target limit (Counted target limit) new k next h
      go (Break last) h = h

  pub counted : State (Counted target limit) (walked turns widest target limit)
  counted = counted_after (turns - 1)
