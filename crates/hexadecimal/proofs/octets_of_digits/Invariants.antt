use Rattle.std.proofs.Common.{◌≡◌, [], length, vec_items}
use Rattle.hexadecimal.specs.Hexadecimal.{octets_on}
use Rattle.hexadecimal.proofs.octets_of_digits.Given as goal

abbrev pub invariant-loop-rest : goal.invariant-loop-rest
invariant-loop-rest l = octets_on (vec_items l.out) l.rest ≡ octets_on [] l.text

abbrev pub decreases-loop-rest : goal.decreases-loop-rest
decreases-loop-rest l = length l.rest
