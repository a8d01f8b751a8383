-- "the room for a scale is the shorter of this list and the item table" (document 01, "Scales and searches"): the shortest of the
-- seven columns, place 0 counted. Assumes nothing.
use Rattle.std.specs.Prelude.{ℕ, min, length}
use Rattle.sorted.specs.Lent.{ListTable}
use Rattle.scl.specs.Table.{ItemTable}

unfoldable pub room_of : ItemTable → ListTable → ℕ
room_of t l =
    min
    (min (min (length t.kinds) (length t.cents)) (min (length t.numers) (length t.denoms)))
    (min (min (length l.places) (length l.ratios)) (length l.wraps))
