-- The result is E x: the parts of x, f from them, and the f64 nearest to P * 2 ^ (n - 62).
-- No loop; each step is a law of EndsE.antt.
use Rattle.explog.proofs.Range.{e_range}
use Rattle.explog.proofs.EndsE.{size_under, exponent_under, whole_under, power_is}
use Rattle.explog.proofs.power.Goals as goal

pub unpack-parts-requires : goal.unpack-parts-requires
unpack-parts-requires c = (e_range _ c.requires).0

pub floor_sum-f-requires : goal.floor_sum-f-requires
floor_sum-f-requires c =
    record {
      few_digits = c.unpack-parts.ensures.small;
      within = size_under _ _ _ _ c.unpack-parts.ensures c.requires;
      shift = exponent_under _ _ _ _ c.unpack-parts.ensures c.requires;
    }

pub nearest_to_power-requires : goal.nearest_to_power-requires
nearest_to_power-requires c = whole_under _ _ _ _ c.unpack-parts.ensures c.requires _ c.floor_sum-f.ensures

pub returns : goal.returns
returns c =
    power_is _ _ _ _ c.unpack-parts.ensures c.requires _ c.floor_sum-f.ensures _ c.well_formed.0.1
    c.nearest_to_power.ensures
