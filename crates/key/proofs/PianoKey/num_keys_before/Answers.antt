-- `PianoKey::num_keys_before` meets its contract: the exact difference, where 32 bits hold it.
-- Assumes nothing.
use borrow.Author.Rules.{rules}
use lib.IntN.{◌-ℤ◌}
use Rattle.base.proofs.Machine.{told_held}
use Rattle.key.proofs.PianoKey.num_keys_before.Goals as goal

pub returns : goal.returns
returns c = told_held ◌-ℤ◌ c.args.other.0 c.args.self.0 (search rules) (search rules) (record { sfits = c.difference.type_inv }) c.difference.ensures c.to_i32.ensures
