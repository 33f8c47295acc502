use Rattle.std.proofs.Common.{◌≡◌, take, string_bytes}
use Rattle.hexadecimal.specs.Hexadecimal.{digits_of}
use Rattle.hexadecimal.proofs.text_of.Given as goal

abbrev pub invariant-loop-x : goal.invariant-loop-x
invariant-loop-x l = string_bytes l.out ≡ digits_of (take l.x-index l.octets)
