-- The room of a scale's tables: the shortest column, from the lesser of two at a time. Assumes nothing.
use mathlib.Core.Path.{◌≡◌}
use Prim.Native.Nat.{ℕ, ◌≤◌, min}
use native.Mathlib.Omega.{arith}
use lib.ListN.{length}
use Rattle.sorted.specs.Lent.{ListTable}
use Rattle.scl.specs.Table.{ItemTable}
use Rattle.scl_tables.specs.Room.{room_of}

module _ (t : ItemTable) (l : ListTable) where
  pub room_is : {a b c d e r : ℕ} → a ≡ min (length t.kinds) (length t.cents) → b ≡ min (length t.numers) (length t.denoms) → c ≡ min a b
      → d ≡ min (length l.places) (length l.ratios) → e ≡ min d (length l.wraps) → r ≡ min c e → r ≡ room_of t l
  unfolding room_of
  room_is ea eb ec ed ee er = rw (er, ec, ea, eb, ee, ed)

  -- each column has so many places
  pub room_within : (room_of t l ≤ length t.kinds) × (room_of t l ≤ length t.cents) × (room_of t l ≤ length t.numers) × (room_of t l ≤ length t.denoms)
      × (room_of t l ≤ length l.places) × (room_of t l ≤ length l.ratios) × (room_of t l ≤ length l.wraps)
  unfolding room_of
  room_within = (omega arith, omega arith, omega arith, omega arith, omega arith, omega arith, omega arith)
