-- Two results of one input are equal, for every public call. Assumes nothing.
use mathlib.Core.Path.{◌≡◌, sym, ◌∙◌}
use Prim.Native.Nat.{ℕ}
use Rattle.powers.specs.Inner.{IsFactor, Power, Bits}

pub entry_one : (k r s : ℕ) → IsFactor k r → IsFactor k s → r ≡ s
entry_one k r s p q = p.is ∙ sym q.is

-- from whatever step it goes on
pub power_steps_one : (b to r s : ℕ) → Power b to r → Power b to s → r ≡ s
power_steps_one b to r s p q = p.is ∙ sym q.is

pub log_bits_one : (y r s : ℕ) → Bits y r → Bits y s → r ≡ s
log_bits_one y r s p q = p.is ∙ sym q.is
