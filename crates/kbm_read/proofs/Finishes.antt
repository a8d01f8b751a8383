-- The laws of what is said after the last line. Assumes nothing.
use mathlib.Core.Path.{◌≡◌}
use Prim.Native.Nat.{ℕ, ◌≤◌, ◌<◌}
use native.Mathlib.Omega.{arith}
use lib.IntN.{ℤ, ◌-ℤ◌}
use mir.Syntax.{w16, w32}
use mir.Val.{SFits}
use borrow.Author.Tests.{lt-ltb, le-ltb}
use Rattle.base.proofs.Integers.{mag_sub}
use Rattle.base.specs.Numbers.{line_missing, no_room, too_large, inconsistent_count}
use Rattle.base.specs.Said.{gives, refuses}
use Rattle.kbm_read.specs.Reader.{which_of, mapping_of, finished}
use Rattle.kbm_read.specs.declared.line.State.{State}

-- the difference of two keys of 16 bits has 32
pub offset_fits : (x y : ℤ) → SFits w16 x → SFits w16 y → SFits w32 (x -ℤ y)
offset_fits x y f g = record { sfits = omega (arith, mag_sub x y, f.sfits, g.sfits) }

-- after the last line: w is the required line that is missing
module _ (room : ℕ) (s : State) {w : ℕ} (p : w ≡ which_of s.due) where
  pub finish_missing : 0 < w → refuses line_missing w ≡ finished room s
  unfolding finished
  finish_missing h = rw (← p, lt-ltb 0 w h)

  module _ (h : w ≤ 0) where
    pub finish_room : room < s.head.size → refuses no_room 0 ≡ finished room s
    unfolding finished
    finish_room a = rw (← p, le-ltb 0 w h, lt-ltb room s.head.size a)

    module _ (a : s.head.size ≤ room) where
      pub finish_large : 65535 < s.count → refuses too_large 0 ≡ finished room s
      unfolding finished
      finish_large b = rw (← p, le-ltb 0 w h, le-ltb room s.head.size a, lt-ltb 65535 s.count b)

      module _ (b : s.count ≤ 65535) where
        pub finish_count : s.head.size < s.count → refuses inconsistent_count 0 ≡ finished room s
        unfolding finished
        finish_count d = rw (← p, le-ltb 0 w h, le-ltb room s.head.size a, le-ltb 65535 s.count b, lt-ltb s.head.size s.count d)

        pub finish_is : s.count ≤ s.head.size → gives (mapping_of s.head) ≡ finished room s
        unfolding finished
        finish_is d = rw (← p, le-ltb 0 w h, le-ltb room s.head.size a, le-ltb 65535 s.count b, le-ltb s.head.size s.count d)
