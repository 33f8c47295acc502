use Rattle.std.proofs.Common.{◌≡◌}
use Rattle.packed_line.specs.Pack.{lowered}
use Rattle.packed_line.proofs.store.lower_index.Given as goal

abbrev pub invariant-loop-k : goal.invariant-loop-k
invariant-loop-k l = l.area ≡ lowered l.initial.area l.total l.n l.k
