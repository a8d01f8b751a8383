-- Since the loop began, the places that are passed have been written.
use Rattle.std.proofs.Common.{take}
use Rattle.std.specs.Io.KnownBytes.{Appends}
use Rattle.std.specs.List.{flat_map}
use Rattle.say.specs.Said.{int_field}
use Rattle.say.proofs.table.Given as goal

abbrev pub invariant-loop-z : goal.invariant-loop-z
invariant-loop-z g l = Appends (g.W.Write.contents l.initial.out) (g.W.Write.contents l.out) (flat_map int_field (take l.z-index l.map))
