-- Since the loop began, the places that are passed have been written.
use Rattle.std.specs.Io.KnownBytes.{Appends}
use Rattle.say.specs.Said.{places_fields}
use Rattle.say.proofs.places.Given as goal

abbrev pub invariant-loop-k : goal.invariant-loop-k
invariant-loop-k g l = Appends (g.W.Write.contents l.initial.out) (g.W.Write.contents l.out) (places_fields l.columns.kind l.columns.cents l.columns.numer l.columns.denom l.columns.place l.columns.ratio l.columns.wraps l.k)
