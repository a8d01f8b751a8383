-- What the notes ask of a period: usable cents that are not 0. Assumes nothing.
use Rattle.std.specs.Prelude.{◌≡◌, true, false, Float}
use Rattle.std.specs.Float.Ieee.{eq}
use Rattle.floats.specs.Floats.{zero_f}
use Rattle.scl.specs.Items.{is_usable_cents}

pub record SomeCents (cents : Float) : Type 0 where
  pub usable : is_usable_cents cents ≡ true
  pub some : eq cents zero_f ≡ false
