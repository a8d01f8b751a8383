-- What an arm of the code's table says: an entry of each quarter of the list `first_steps`. Assumes nothing.
use mathlib.Core.Path.{◌≡◌, ap, ◌∙◌}
use Prim.Native.Nat.{ℕ, ◌+◌, ◌/◌, ◌%◌, ◌^◌, ◌<◌}
use native.Mathlib.Omega.{arith}
use lib.Dec.{T, leb, leb→le}
use lib.ListN.{get_or}
use Rattle.powers.specs.Inner.{Power}
use Rattle.power_first.proofs.Rows.{first_steps, first_steps_at}

-- an entry of each quarter, as an arm has them
pub first_steps_quarters : (j k : ℕ) → j ≡ k → k < 256
    → ((b : ℕ) → b / 2 ^ 42 % 1024 ≡ j → Power b 10 (get_or first_steps k 0))
    × (((b : ℕ) → b / 2 ^ 42 % 1024 ≡ 256 + j → Power b 10 (get_or first_steps (256 + k) 0))
    × (((b : ℕ) → b / 2 ^ 42 % 1024 ≡ 512 + j → Power b 10 (get_or first_steps (512 + k) 0))
    × ((b : ℕ) → b / 2 ^ 42 % 1024 ≡ 768 + j → Power b 10 (get_or first_steps (768 + k) 0))))
first_steps_quarters j k e h =
    ((λ b q. first_steps_at b k (q ∙ e) (omega arith)), (from 256 tt, (from 512 tt, from 768 tt)))
  where
    from : (a : ℕ) → T (leb a 768) → ((b : ℕ) → b / 2 ^ 42 % 1024 ≡ a + j → Power b 10 (get_or first_steps (a + k) 0))
    from a t b q = first_steps_at b (a + k) (q ∙ ap (λ (x : ℕ). a + x) e) (omega (arith, leb→le a 768 t))
