-- `all` says whether the places before this one hold entries, and what is left decides with it.
use Rattle.kbm.proofs.Table.{Gone}
use Rattle.kbm.proofs.is_table.Given as goal

abbrev pub invariant-loop-z : goal.invariant-loop-z
invariant-loop-z l = Gone l.count l.map l.all l.z-index
