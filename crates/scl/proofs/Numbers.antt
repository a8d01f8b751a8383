-- A refusal of an item's ratio has one of 01's numbers. Assumes nothing.
use native.Mathlib.Omega.{arith}
use lib.Ieee.{binary64, div, of_int}
use lib.IntN.{pos}
use Rattle.base.specs.Said.{Numbered}
use Rattle.base.proofs.Said.{numbered_pick}
use Rattle.pitch.specs.Ratios.{cents_f}
use Rattle.pitch.proofs.Numbers.{computed_numbered, from_octaves_numbered}
use Rattle.scl.specs.Items.{is_usable, denom_of, ratio_of, given_ratio}
use Rattle.scl.specs.declared.Item.{Item}
use Rattle.scl.specs.declared.Item.TheVariants.{Cents, Fraction}

pub as_ratio_numbered : (i : Item) → Numbered (ratio_of i)
as_ratio_numbered (Cents c) = from_octaves_numbered (div binary64 c cents_f)
as_ratio_numbered (Fraction n d) = computed_numbered (div binary64 (of_int binary64 (pos n)) (of_int binary64 (pos (denom_of d))))

pub given_ratio_numbered : (i : Item) → Numbered (given_ratio i)
given_ratio_numbered i = numbered_pick (is_usable i) (as_ratio_numbered i) (Numbered.number (omega arith) (omega arith))
