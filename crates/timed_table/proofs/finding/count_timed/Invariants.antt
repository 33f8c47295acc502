use Rattle.std.proofs.Common.{◌≡◌, ◌≤◌, take, count_by}
use Rattle.timed_table.specs.Table.{is_timed}
use Rattle.timed_table.proofs.finding.count_timed.Given as goal

abbrev pub invariant-loop-e : goal.invariant-loop-e
invariant-loop-e g l = (l.n ≤ l.e-index) × (l.n ≡ count_by is_timed (take l.e-index l.entries))
