-- C ASKS FOR A POWER OR A LOGARITHM: telbijan_exp2 and telbijan_log2 answer 0 exactly for what E and L take, and what they then store is
-- near 2^x and log2 x (request W4). Assumes nothing.
use mathlib.Core.Path.{◌≡◌, refl, sym, ◌∙◌, ap}
use mathlib.Core.Logic.{◌↔◌}
use mathlib.Core.Bool.{Bool, true, false, true≢false}
use Prim.Native.Nat.{ℕ}
use native.Mathlib.Omega.{arith}
use lib.Ieee.{Float, binary64, fits}
use Rattle.base.specs.Said.{Said, gives, refuses, pick}
use Rattle.floats.specs.Ranges.{in_reach}
use Rattle.explog.specs.Rules.{E, L, in_powers, floor_of, power_of, log_of}
use Rattle.telbijan_answers.specs.Calls.{Stored}
use Rattle.telbijan_answers.specs.Interface.{result, kept}
use Rattle.accuracy.specs.Accuracy.{AccurateE, AccurateL}
use Rattle.accuracy.proofs.Theorems.{exp_accurate, log_accurate}

-- a call that answers v in its range, and 18 outside
stored : (s : Said Float) (v old : Float) (b : Bool) (r : ℕ) (new : Float)
    → s ≡ pick b (gives v) (refuses 18 0) → Stored s old r new
    → ((r ≡ 0) ↔ (b ≡ true)) × (r ≡ 0 → s ≡ gives new)
stored s v old true r new e c =
    (((λ z. refl), (λ t. c.0 ∙ ap result e)), (λ z. e ∙ ap gives (sym (c.1 ∙ ap (λ (s : Said Float). kept s old) e))))
stored s v old false r new e c =
    let is : r ≡ 18 = c.0 ∙ ap result e in
    (((λ z. absurd (omega arith)), (λ t. absurd (true≢false (sym t)))), (λ z. absurd (omega arith)))

module _ (x : Float) (fit : fits binary64 x ≡ true) (old : Float) (r : ℕ) (new : Float) where
  -- "E(x), -900 <= x <= 900": r / (1 + 2^-53) <= 2^x < r * (1 + 2^-51), of what is stored
  pub exp2_near : Stored (E x) old r new → ((r ≡ 0) ↔ (in_powers x ≡ true)) × (r ≡ 0 → AccurateE x new)
  unfolding E
  exp2_near c =
      let (taken, is) = stored (E x) (power_of (floor_of x)) old (in_powers x) r new refl c in
      (taken, (λ z. exp_accurate x new fit (is z)))

  -- "L(x), x in 2^-900..2^900": r - |r| * 2^-53 <= log2 x < r + |r| * 2^-53 + 2^-51, of what is stored
  pub log2_near : Stored (L x) old r new → ((r ≡ 0) ↔ (in_reach x ≡ true)) × (r ≡ 0 → AccurateL x new)
  unfolding L
  log2_near c =
      let (taken, is) = stored (L x) (log_of x) old (in_reach x) r new refl c in
      (taken, (λ z. log_accurate x new fit (is z)))
