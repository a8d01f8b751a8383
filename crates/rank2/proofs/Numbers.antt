-- What the call says is a value or one of document 01's numbers. Assumes nothing.
use mathlib.Core.List.{List, [], ◌∷◌}
use Prim.Native.Nat.{ℕ, zero, suc}
use native.Mathlib.Omega.{arith}
use lib.Dec.{leb, eqb}
use lib.Ieee.{Float, binary64, div}
use Rattle.base.specs.Said.{Said, Numbered}
use Rattle.base.proofs.Said.{numbered_pick, numbered_then}
use Rattle.pitch.specs.Ratios.{cents_f}
use Rattle.pitch.proofs.Numbers.{as_cents_numbered, from_octaves_numbered}
use Rattle.sorted.specs.Lent.{ListTable}
use Rattle.scl.specs.Table.{ItemTable}
use Rattle.generate.specs.Generated.{counted_of}
use Rattle.generate.proofs.Numbers.{made_numbered, counted_numbered}
use Rattle.rank2.specs.Notes.{bounded_at, pitch_at, ratios_from, ascending}
use Rattle.rank2.specs.Rank2.{note_count, is_temperament, ascending_ratios, pushed_as, made_rank2}

pitch_numbered : (ratio generator period : Float) (positive i : ℕ) → Numbered (pitch_at ratio generator period positive i)
pitch_numbered ratio generator period positive i = numbered_pick (eqb i 0) (Numbered.value ratio) (from_octaves_numbered (div binary64 (bounded_at generator period positive i) cents_f))

ratios_numbered : (f : ℕ → Said Float) → ((i : ℕ) → Numbered (f i)) → (n k : ℕ) → Numbered (ratios_from f k n)
unfolding ratios_from
ratios_numbered f h zero k = Numbered.value []
ratios_numbered f h (suc n) k = numbered_then (h k) (λ r. numbered_then (ratios_numbered f h n (suc k)) (λ rs. Numbered.value (r ∷ rs)))

ascending_numbered : (f : ℕ → Said Float) → ((i : ℕ) → Numbered (f i)) → (n : ℕ) → Numbered (ascending_ratios f n)
unfolding ascending_ratios
ascending_numbered f h n = numbered_then (ratios_numbered f h n 0) (λ rs. Numbered.value (ascending rs))

pushed_numbered : (rs : List Float) → Numbered (pushed_as rs)
unfolding pushed_as
pushed_numbered [] = Numbered.value []
pushed_numbered (r ∷ rs) = numbered_then (as_cents_numbered r) (λ cents. numbered_then (pushed_numbered rs) (λ is. Numbered.value _))

pub create_rank2_temperament_scale_numbered : (t : ItemTable) (l : ListTable) (generator : Float) (positive negative : ℕ) (period : Float) → Numbered (counted_of (made_rank2 t l generator positive negative period))
unfolding made_rank2
create_rank2_temperament_scale_numbered t l generator positive negative period =
    counted_numbered
    (numbered_pick (leb (note_count positive negative) 65535)
    (numbered_pick (is_temperament generator period)
    (made_numbered t l (note_count positive negative)
    (numbered_then (as_cents_numbered generator) (λ g. numbered_then (as_cents_numbered period) (λ p. numbered_then (ascending_numbered (pitch_at period g p positive) (pitch_numbered period g p positive) (note_count positive negative)) pushed_numbered))))
    (Numbered.number (omega arith) (omega arith)))
    (Numbered.number (omega arith) (omega arith)))
