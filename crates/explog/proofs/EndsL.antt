-- L from the parts of x: the value that B and the exponent make. Assumes nothing.
use Rattle.std.proofs.Common.{◌≡◌, ℕ, ◌+◌, ◌-◌, ◌*◌, ◌^◌, ◌<◌, ◌≤◌, Bool, true, false, not, T, leb, sym, ap, ◌∙◌, subst, le_trans, arith, lit≤, leb→le, le-leb}
use borrow.Author.Tests.{lt-leb}
use lib.Dec.{nleb→lt}
use lib.Ieee.{Float, binary64, round, neg, fits}
use Rattle.base.specs.Said.{gives, refuses, pick}
use Rattle.floats.specs.Ranges.{in_reach}
use Rattle.floats.specs.Units.{Unpacked}
use Rattle.floats.proofs.Sign.{round_neg}
use Rattle.floats.proofs.Units.{full_digits}
use Rattle.explog.specs.Log.{b_of}
use Rattle.explog.specs.Rules.{L}
use Rattle.explog.proofs.Plain.{plain_log, nearest_diff}
use Rattle.explog.proofs.LiteralL.{l_literal}
use Rattle.explog.proofs.Range.{l_range}

-- the nearest to (a - b) / c, by which is the larger
pub diff_up : (a b c : ℕ) → b ≤ a → round binary64 false (a - b) c ≡ nearest_diff a b c
unfolding nearest_diff
diff_up a b c h = ap (λ (t : Bool). pick t (round binary64 false (a - b) c) (round binary64 true (b - a) c)) (sym (le-leb b a h))

pub diff_down : (a b c : ℕ) → a < b → neg (round binary64 false (b - a) c) ≡ nearest_diff a b c
unfolding nearest_diff
diff_down a b c h = round_neg binary64 false (b - a) c ∙ ap (λ (t : Bool). pick t (round binary64 false (a - b) c) (round binary64 true (b - a) c)) (sym (lt-leb b a h))

-- the same by their distance
sided : (a b c : ℕ) (r : Float) → r ≡ round binary64 false (a - b + (b - a)) c → pick (leb b a) r (neg r) ≡ nearest_diff a b c
unfolding nearest_diff
sided a b c r q = go (leb b a) (leb→le b a) (nleb→lt b a)
  where
    go : (t : Bool) → (T t → b ≤ a) → (T (not t) → a < b) → pick t r (neg r) ≡ pick t (round binary64 false (a - b) c) (round binary64 true (b - a) c)
    go true f g = let h = f tt in let e : a - b + (b - a) ≡ a - b = omega arith in q ∙ ap (λ (z : ℕ). round binary64 false z c) e
    go false f g =
        let h = g tt in
        let e : a - b + (b - a) ≡ b - a = omega arith in
        ap neg (q ∙ ap (λ (z : ℕ). round binary64 false z c) e) ∙ round_neg binary64 false (b - a) c

-- an x that has a logarithm has 53 digits
pub digits_full : (x : Float) (s : Bool) (d k : ℕ) → Unpacked x s d k → in_reach x ≡ true → 2 ^ 52 ≤ d
digits_full x s d k p t = full_digits p (le_trans (lit≤ tt) (l_range x t).1)

module _ (x : Float) (s : Bool) (d k B : ℕ) (p : Unpacked x s d k) (t : in_reach x ≡ true) (f : fits binary64 x ≡ true) (e : B ≡ b_of (d * 2 ^ 10) 52) where
  log_is : (r : Float) → r ≡ nearest_diff (k * 2 ^ 52 + B) (1022 * 2 ^ 52) (2 ^ 52) → gives r ≡ L x
  unfolding plain_log L
  log_is r q =
      let h = l_range x t in
      rw t (ap gives (q ∙ ap (λ (z : ℕ). nearest_diff (k * 2 ^ 52 + z) (1022 * 2 ^ 52) (2 ^ 52)) e
      ∙ l_literal x d k (subst T (sym f) tt) h.0 p.is (digits_full x s d k p t) p.small))

  -- by the distance and the side
  pub log_side : (r : Float) → r ≡ round binary64 false (k * 2 ^ 52 + B - 1022 * 2 ^ 52 + (1022 * 2 ^ 52 - (k * 2 ^ 52 + B))) (2 ^ 52) → gives (pick (leb (1022 * 2 ^ 52) (k * 2 ^ 52 + B)) r (neg r)) ≡ L x
  log_side r q = log_is _ (sided (k * 2 ^ 52 + B) (1022 * 2 ^ 52) (2 ^ 52) r q)

pub log_refused : (x : Float) → in_reach x ≡ false → refuses 18 0 ≡ L x
unfolding L
log_refused x t = rw t
