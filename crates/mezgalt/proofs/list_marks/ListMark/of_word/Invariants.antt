use Rattle.std.proofs.Common.{◌≡◌, ◌≤◌, length}
use Rattle.mezgalt.proofs.list_marks.ListMark.of_word.Given as goal

abbrev pub invariant-loop-part : goal.invariant-loop-part
invariant-loop-part l = (l.count ≤ 8) × (length l.numbers ≡ 8)
