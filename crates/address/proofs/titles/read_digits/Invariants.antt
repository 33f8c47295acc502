use Rattle.std.proofs.Common.{◌≡◌, ◌*◌, length, take}
use Rattle.address.specs.Title.{halves}
use Rattle.address.proofs.titles.read_digits.Given as goal

abbrev pub invariant-loop-i : goal.invariant-loop-i
invariant-loop-i l = (length l.values ≡ 56) × (take (2 * l.i) l.values ≡ halves (take l.i l.octets))
