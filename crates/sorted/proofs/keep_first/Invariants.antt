-- `keep_first` meets its contract. The invariant: the first k entries are done, and q is the last one kept (Keep.antt).
use Rattle.sorted.proofs.Keep.{Passed}
use Rattle.sorted.proofs.keep_first.Given as goal

abbrev pub invariant-loop-k : goal.invariant-loop-k
invariant-loop-k l = Passed l.initial.place l.initial.ratio l.initial.wraps l.q l.k l.place l.ratio l.wraps
