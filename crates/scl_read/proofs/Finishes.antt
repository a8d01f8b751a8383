-- The laws of what is said after the last line. Assumes nothing.
use mathlib.Core.Path.{◌≡◌}
use mathlib.Core.Bool.{Bool, true, false}
use Prim.Native.Nat.{ℕ, ◌≤◌, ◌<◌}
use borrow.Author.Tests.{lt-ltb, le-ltb, eq-eqb, ne_eqb}
use Rattle.base.specs.Numbers.{line_missing, too_large, inconsistent_count, beyond_reach}
use Rattle.base.specs.Said.{gives, refuses}
use Rattle.scl_tables.specs.Build.{is_beyond}
use Rattle.scl_read.specs.Reader.{which_of, finished}
use Rattle.scl_read.specs.declared.line.State.{State}

-- after the last line: w is the required line that is missing
module _ (s : State) {w : ℕ} (p : w ≡ which_of s.due) where
  pub finish_missing : 0 < w → refuses line_missing w ≡ finished s
  unfolding finished
  finish_missing h = rw (← p, lt-ltb 0 w h)

  module _ (h : w ≤ 0) where
    pub finish_large : 65535 < s.count → refuses too_large 0 ≡ finished s
    unfolding finished
    finish_large a = rw (← p, le-ltb 0 w h, lt-ltb 65535 s.count a)

    module _ (a : s.count ≤ 65535) where
      pub finish_count : (s.count ≡ s.declared → ⊥) → refuses inconsistent_count 0 ≡ finished s
      unfolding finished
      finish_count n = rw (← p, le-ltb 0 w h, le-ltb 65535 s.count a, ne_eqb s.count s.declared n)

      module _ (n : s.count ≡ s.declared) {b : Bool} (q : b ≡ is_beyond s.count s.last) where
        pub finish_beyond : b ≡ true → refuses beyond_reach 0 ≡ finished s
        unfolding finished
        finish_beyond t = rw (← p, le-ltb 0 w h, le-ltb 65535 s.count a, eq-eqb s.count s.declared n, ← q, t)

        pub finish_is : b ≡ false → gives s.count ≡ finished s
        unfolding finished
        finish_is f = rw (← p, le-ltb 0 w h, le-ltb 65535 s.count a, eq-eqb s.count s.declared n, ← q, f)
