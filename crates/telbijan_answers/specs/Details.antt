-- Document 01, "Numbers that answer": "10 .. line, or 0 outside a text", "11 / 12 .. line, or 0", "Later numbers have detail 0 unless
-- said": what a call that reads no text can say. Assumes nothing.
use Rattle.std.specs.Prelude.{ℕ}
use Rattle.base.specs.Said.{Said, gives, refuses}

-- a value, or a refusal of detail 0
pub data Undetailed {A : Type 0} : Said A → Type 0 where
  value : (a : A) → Undetailed (gives a)
  number : {n : ℕ} → Undetailed (refuses n 0)
