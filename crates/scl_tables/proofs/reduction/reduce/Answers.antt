-- `reduce` meets its contract: no step refuses (Reaches.antt).
-- Assumes nothing.
use lib.Ieee.{binary64, fits}
use mathlib.Core.Path.{◌≡◌, sym, ◌∙◌}
use mathlib.Core.Bool.{true}
use Rattle.scl_tables.proofs.Reaches.{rem_in_powers, div_is_count}
use borrow.Author.Rules.{rules}
use Rattle.scl_tables.proofs.reduction.reduce.Goals as goal

pub ratio_of_octaves-rest-requires : goal.ratio_of_octaves-rest-requires
ratio_of_octaves-rest-requires c =
    let fp : fits binary64 c.args.period.ratio ≡ true = search rules in
    let fr : fits binary64 c.args.ratio ≡ true = search rules in
    let n = sym c.is_negligible.ensures ∙ c.if-is_negligible.false in
    rw c.rem_euclid.ensures (rem_in_powers c.args.period.ratio c.args.ratio _ _ fp fr c.requires.0.reach c.requires.1 n c.requires.0.octaves (sym c.octaves_of-octaves.ensures))

pub wraps_of-wraps-requires : goal.wraps_of-wraps-requires
wraps_of-wraps-requires c =
    let fp : fits binary64 c.args.period.ratio ≡ true = search rules in
    let fr : fits binary64 c.args.ratio ≡ true = search rules in
    let n = sym c.is_negligible.ensures ∙ c.if-is_negligible.false in
    rw c.div_euclid.ensures (div_is_count c.args.period.ratio c.args.ratio _ _ fp fr c.requires.0.reach c.requires.1 n c.requires.0.octaves (sym c.octaves_of-octaves.ensures))
