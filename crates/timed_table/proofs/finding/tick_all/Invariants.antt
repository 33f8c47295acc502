use Rattle.std.proofs.Common.{◌≡◌, ◌≤◌, ◌++◌, map, take, drop, count_by}
use Rattle.timed_table.specs.Table.{ticked, lapses}
use Rattle.timed_table.proofs.finding.tick_all.Given as goal

abbrev pub invariant-loop-e : goal.invariant-loop-e
invariant-loop-e g l =
    (l.n ≤ l.e-index)
    × (l.n ≡ count_by lapses (take l.e-index l.initial.entries))
    × (l.entries ≡ map ticked (take l.e-index l.initial.entries) ++ drop l.e-index l.initial.entries)
