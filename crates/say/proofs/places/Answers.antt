-- Each turn adds the fields of one place.
use Rattle.std.proofs.Common.{rules}
use Rattle.say.proofs.Placed.{places_step}
use Rattle.say.specs.Said.{places_fields}
use Rattle.say.proofs.places.Goals as goal

pub loop-k-init : goal.loop-k-init
unfolding places_fields
loop-k-init g c = search rules

pub loop-k-preserved : goal.loop-k-preserved
loop-k-preserved g c = places_step _ _ _ _ _ _ _ _ _ _ _ c.loop-k.invariant (search rules)
