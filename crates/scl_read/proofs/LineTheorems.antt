-- Two results of one input are equal, for every public call on a line or on a token. Assumes nothing.
use mathlib.Core.List.{List}
use Prim.Native.Nat.{ℕ}
use Rattle.base.specs.Said.{One, outcome}
use Rattle.base.proofs.Said.{one_result, one_said}
use Rattle.text.specs.ReadLine.{shown}
use Rattle.text.specs.declared.line.LineSays.{LineSays}
use Rattle.scl_read.specs.Steps.{take_meaning, found_in}
use Rattle.scl_read.specs.Tokens.{item_in}
use Rattle.scl_read.specs.declared.line.State.{State}

pub read_item_one : (token : List ℕ) → One (λ r. r) (item_in token)
read_item_one token = one_result (item_in token)

module _ (text : List ℕ) (says : LineSays) where
  pub take_line_one : (line places : ℕ) (state : State) → One outcome (take_meaning places line (shown text says) state)
  take_line_one line places state = one_said (take_meaning places line (shown text says) state)

  pub found_in_one : (required : ℕ) → One (λ r. r) (found_in required (shown text says))
  found_in_one required = one_result (found_in required (shown text says))
