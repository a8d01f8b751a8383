-- `are_entries` meets its contract. The invariant: what `all`, `last` and `highest` say of the entries up to i decides with what is left.
use Rattle.sorted.proofs.Passes.{Passed}
use Rattle.sorted.proofs.are_entries.Given as goal

abbrev pub invariant-loop-i : goal.invariant-loop-i
invariant-loop-i l = Passed l.place l.ratio l.n l.count l.all l.last l.highest l.i
