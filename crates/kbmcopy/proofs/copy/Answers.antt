-- What was read, printed and written is what is printed for all that the reader had.
use Rattle.std.proofs.Common.{rules}
use Rattle.std.proofs.lemmas.Result.{IfOk-at_ok, on_ok_weaker}
use Rattle.kbmcopy.proofs.Whole.{whole, value_kept}
use Rattle.kbmcopy.proofs.copy.Goals as goal

pub returns : goal.returns
returns g c =
    value_kept c.write_all.result c.map_err-2.result _ _ c.map_err-2.ensures.cases c.map_err-2.ensures.variant (on_ok_weaker c.write_all.result (λ grew.
    whole _ _ _ _ _ _ _ _ _ (search rules)
    (IfOk-at_ok _ c.in_ok-n.was (value_kept _ _ _ _ c.map_err.ensures.cases c.map_err.ensures.variant c.read_all.ensures.bound))
    (IfOk-at_ok _ c.in_ok-n.was (value_kept _ _ _ _ c.map_err.ensures.cases c.map_err.ensures.variant c.read_all.ensures.bytes))
    (IfOk-at_ok _ c.in_ok-n.was (value_kept _ _ _ _ c.map_err.ensures.cases c.map_err.ensures.variant c.read_all.ensures.end))
    c.print_copy-m.ensures.value.0 c.print_copy-m.ensures.out_after grew) c.write_all.ensures.bytes)
