-- `PianoKey::checked_midi_number` meets its contract: in 0..127 the cast loses nothing, and outside it is 16.
-- Assumes nothing.
use borrow.Author.Rules.{rules}
use Rattle.key.proofs.Keys.{midi_under, midi_over, midi_cast, midi_here}
use Rattle.key.proofs.PianoKey.checked_midi_number.Goals as goal

pub overflow_cast-result : goal.overflow_cast-result
overflow_cast-result c = midi_cast {k = c.args.self} (search rules) c.if-number-ge0.true c.if-number-le127.true

pub returns-then-number-le127 : goal.returns-then-number-le127
returns-then-number-le127 c = midi_here {k = c.args.self} (search rules) c.if-number-ge0.true c.if-number-le127.true

pub returns-else-number-le127 : goal.returns-else-number-le127
returns-else-number-le127 c = midi_over {k = c.args.self} (search rules) c.if-number-ge0.true c.if-number-le127.false

pub returns-else-number-ge0 : goal.returns-else-number-ge0
returns-else-number-ge0 c = midi_under {k = c.args.self} (search rules) c.if-number-ge0.false
