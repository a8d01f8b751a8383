-- One step of the walk passes the fraction at hand. Assumes nothing.
use mathlib.Core.Path.{◌≡◌, refl, sym, subst}
use mathlib.Core.Bool.{Bool, true, false}
use Prim.Native.Nat.{ℕ, ◌*◌, ◌≤◌, ◌<◌}
use native.Mathlib.Omega.{arith}
use lib.Dec.{leb, ltb}
use borrow.Author.Tests.{leb-true, leb-false, ltb-true, ltb-false}
use Rattle.base.specs.Said.{pick}
use Rattle.best.specs.Walked.{PassedBy, Next, Held, Ready, Stepped, Up, On, candidate, walk_of}
use Rattle.best.specs.declared.Candidate.{Candidate}
use Rattle.best.specs.declared.Walk.{Walk}
use Rattle.best.proofs.Passing.{keep_low, take_low, keep_high, take_high}

module _ (A C limit : ℕ) (w : Walk) (s : Ready limit w) (n_held : w.here.numer ≤ 65535) (d-held : w.here.denom ≤ 65535) where
  here_held : Held w.here
  here_held = record { numer = n_held; denom = d-held }

  -- ---- below: the next numerator, m, and the best below as it is then
  up_to : (m : ℕ) (low : Candidate) → Next limit w.here.numer m → Held low →
      (PassedBy A C limit w → PassedBy A C limit (walk_of (candidate m w.here.denom) low w.high)) →
      Stepped A C limit w (walk_of (candidate m w.here.denom) low w.high)
  up_to m low next held passed = record {
    passed = passed;
    ready = record {
      numer_some = omega (arith, next.above);
      denom_some = s.denom_some;
      numer_most = next.most;
      denom_most = s.denom_most;
      numer_allowed = next.is_allowed;
      denom_allowed = s.denom_allowed;
      low = held;
      high = s.high;
    };
    longer = omega (arith, next.above);
  }

  pub up : (r : Walk) → leb (C * w.here.numer) (A * w.here.denom) ≡ true → Up limit w r → Stepped A C limit w r
  up r e u = subst (Stepped A C limit w) (sym u.is) (go (ltb (w.low.numer * w.here.denom) (w.here.numer * w.low.denom)) refl)
    where
      below : C * w.here.numer ≤ A * w.here.denom
      below = leb-true (C * w.here.numer) (A * w.here.denom) e

      go : (b : Bool) → ltb (w.low.numer * w.here.denom) (w.here.numer * w.low.denom) ≡ b →
          Stepped A C limit w (walk_of (candidate r.here.numer w.here.denom) (pick b w.here w.low) w.high)
      go true t = up_to r.here.numer w.here u.next here_held
          (λ p. take_low A C limit _ _ _ _ _ _ _ p u.next.first below (s.numer_allowed n_held) (s.denom_allowed d-held)
          (ltb-true _ _ t))
      go false t = up_to r.here.numer w.low u.next s.low
          (λ p. keep_low A C limit _ _ _ _ _ _ _ p u.next.first below (ltb-false _ _ t))

  -- ---- above: the next denominator, m, and the best above as it is then
  on_to : (m : ℕ) (high : Candidate) → Next limit w.here.denom m → Held high →
      (PassedBy A C limit w → PassedBy A C limit (walk_of (candidate w.here.numer m) w.low high)) →
      Stepped A C limit w (walk_of (candidate w.here.numer m) w.low high)
  on_to m high next held passed = record {
    passed = passed;
    ready = record {
      numer_some = s.numer_some;
      denom_some = omega (arith, next.above);
      numer_most = s.numer_most;
      denom_most = next.most;
      numer_allowed = s.numer_allowed;
      denom_allowed = next.is_allowed;
      low = s.low;
      high = held;
    };
    longer = omega (arith, next.above);
  }

  pub on : (r : Walk) → leb (C * w.here.numer) (A * w.here.denom) ≡ false → On limit w r → Stepped A C limit w r
  on r e u = subst (Stepped A C limit w) (sym u.is) (go (ltb (w.here.numer * w.high.denom) (w.high.numer * w.here.denom)) refl)
    where
      above : A * w.here.denom < C * w.here.numer
      above = leb-false (C * w.here.numer) (A * w.here.denom) e

      go : (b : Bool) → ltb (w.here.numer * w.high.denom) (w.high.numer * w.here.denom) ≡ b →
          Stepped A C limit w (walk_of (candidate w.here.numer r.here.denom) w.low (pick b w.here w.high))
      go true t = on_to r.here.denom w.here u.next here_held
          (λ p. take_high A C limit _ _ _ _ _ _ _ p u.next.above u.next.first above
          (s.numer_allowed n_held) (s.denom_allowed d-held) (ltb-true _ _ t))
      go false t = on_to r.here.denom w.high u.next s.high
          (λ p. keep_high A C limit _ _ _ _ _ _ _ p u.next.above u.next.first above (ltb-false _ _ t))
