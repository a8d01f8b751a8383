-- The walk over the fractions, as the code makes it: what it has passed, and what is left to choose from at its end. Inner definitions:
-- what they come to is Best.antt. A fraction below the ratio A / C is one that is at most that. Assumes nothing.
use Rattle.std.specs.Prelude.{◌≡◌, ◌⊎◌, Bool, true, false, ℕ, ◌+◌, ◌*◌, ◌≤◌, ◌<◌, ltb}
use Rattle.base.specs.Said.{pick}
use Rattle.best.specs.Best.{Allowed}
use Rattle.best.specs.declared.Candidate.{Candidate}
use Rattle.best.specs.declared.Walk.{Walk}

-- r is the next allowed number after n, or past 65,535 where there is none
pub record Next (limit n r : ℕ) : Type 0 where
  pub above : n < r
  pub first : (p : ℕ) → Allowed limit p → n < p → r ≤ p
  pub most : r ≤ 65536
  pub is_allowed : r ≤ 65535 → Allowed limit r

-- ---- what was met: the best below so far, n1 / d1 (0 / 1 for none), and the best above, n2 / d2 (1 / 0 for none)
abbrev pub BelowOrNone : ℕ → ℕ → ℕ → ℕ → ℕ → Type 0
BelowOrNone A C limit n d = (n ≡ 0) ⊎ (Allowed limit n × Allowed limit d × (C * n ≤ A * d))

abbrev pub AboveOrNone : ℕ → ℕ → ℕ → ℕ → ℕ → Type 0
AboveOrNone A C limit n d = (d ≡ 0) ⊎ (Allowed limit n × Allowed limit d × (A * d < C * n))

-- with denominators up to d
pub record Met (A C limit d n1 d1 n2 d2 : ℕ) : Type 0 where
  pub low_denom : 1 ≤ d1
  pub low_early : d1 ≤ d
  pub low_is : BelowOrNone A C limit n1 d1
  pub high_numer : 1 ≤ n2
  pub high_early : d2 ≤ d
  pub high_is : AboveOrNone A C limit n2 d2

-- p / q is no better than those on its side, and as good with no smaller denominator
pub record Seen (A C n1 d1 n2 d2 p q : ℕ) : Type 0 where
  pub low : C * p ≤ A * q → p * d1 ≤ n1 * q
  pub low_tie : C * p ≤ A * q → p * d1 ≡ n1 * q → d1 ≤ q
  pub high : A * q < C * p → n2 * q ≤ p * d2
  pub high_tie : A * q < C * p → n2 * q ≡ p * d2 → d2 ≤ q

-- at n / d: all with a smaller numerator or a smaller denominator is seen
pub record Passed (A C limit n d n1 d1 n2 d2 : ℕ) : Type 0 where
  pub met : Met A C limit d n1 d1 n2 d2
  pub seen : (p q : ℕ) → Allowed limit p → Allowed limit q → (p < n) ⊎ (q < d) → Seen A C n1 d1 n2 d2 p q

-- ---- the same of a walk
abbrev pub candidate : ℕ → ℕ → Candidate
candidate numer denom = record { numer = numer; denom = denom }

abbrev pub walk_of : Candidate → Candidate → Candidate → Walk
walk_of here low high = record { here = here; low = low; high = high }

abbrev pub PassedBy : ℕ → ℕ → ℕ → Walk → Type 0
PassedBy A C limit w =
    Passed A C limit w.here.numer w.here.denom w.low.numer w.low.denom w.high.numer w.high.denom

-- numbers of 16 bits
pub record Held (f : Candidate) : Type 0 where
  pub numer : f.numer ≤ 65535
  pub denom : f.denom ≤ 65535

-- the fraction at hand is allowed, or a number of it has left 16 bits and the walk is at its end
pub record Ready (limit : ℕ) (w : Walk) : Type 0 where
  pub numer_some : 1 ≤ w.here.numer
  pub denom_some : 1 ≤ w.here.denom
  pub numer_most : w.here.numer ≤ 65536
  pub denom_most : w.here.denom ≤ 65536
  pub numer_allowed : w.here.numer ≤ 65535 → Allowed limit w.here.numer
  pub denom_allowed : w.here.denom ≤ 65535 → Allowed limit w.here.denom
  pub low : Held w.low
  pub high : Held w.high

-- the next numerator; what was at hand is the best below where it is better
pub record Up (limit : ℕ) (w r : Walk) : Type 0 where
  pub next : Next limit w.here.numer r.here.numer
  pub is : r ≡ walk_of (candidate r.here.numer w.here.denom)
      (pick (ltb (w.low.numer * w.here.denom) (w.here.numer * w.low.denom)) w.here w.low) w.high

-- the next denominator; what was at hand is the best above where it is better
pub record On (limit : ℕ) (w r : Walk) : Type 0 where
  pub next : Next limit w.here.denom r.here.denom
  pub is : r ≡ walk_of (candidate w.here.numer r.here.denom) w.low
      (pick (ltb (w.here.numer * w.high.denom) (w.high.numer * w.here.denom)) w.here w.high)

-- one step: more is passed, and numerator and denominator together are larger
pub record Stepped (A C limit : ℕ) (w r : Walk) : Type 0 where
  pub passed : PassedBy A C limit w → PassedBy A C limit r
  pub ready : Ready limit r
  pub longer : w.here.numer + w.here.denom < r.here.numer + r.here.denom

-- the end: all is passed
pub record Finished (A C limit : ℕ) (w : Walk) : Type 0 where
  pub passed : PassedBy A C limit w
  pub ready : Ready limit w
  pub ended : (65535 < w.here.numer) ⊎ (65535 < w.here.denom)

-- ---- two fractions to choose from, of which one may be none
pub record Two (A C : ℕ) (low high : Candidate) : Type 0 where
  pub low_held : Held low
  pub high_held : Held high
  pub low_denom : 1 ≤ low.denom
  pub high_numer : 1 ≤ high.numer
  pub low_is : (low.numer ≡ 0) ⊎ (C * low.numer ≤ A * low.denom)
  pub high_is : (high.denom ≡ 0) ⊎ (A * high.denom < C * high.numer)
  pub some : (1 ≤ low.numer) ⊎ (1 ≤ high.denom)

-- the one below is nearer to A / C, or as near and of no larger denominator
abbrev pub LowWins : ℕ → ℕ → Candidate → Candidate → Type 0
LowWins A C low high =
    (A * low.denom * (A * high.denom) < C * low.numer * (C * high.numer))
    ⊎ ((A * low.denom * (A * high.denom) ≡ C * low.numer * (C * high.numer)) × (low.denom ≤ high.denom))

-- the one above is
abbrev pub HighWins : ℕ → ℕ → Candidate → Candidate → Type 0
HighWins A C low high =
    (C * low.numer * (C * high.numer) < A * low.denom * (A * high.denom))
    ⊎ ((C * low.numer * (C * high.numer) ≡ A * low.denom * (A * high.denom)) × (high.denom < low.denom))

-- which of the two is chosen
pub record Picks (A C : ℕ) (low high : Candidate) (r : Bool) : Type 0 where
  pub is_low : r ≡ true → LowWins A C low high
  pub is_high : r ≡ false → HighWins A C low high
