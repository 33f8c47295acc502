use Rattle.std.proofs.Common.{◌≡◌, length}
use Rattle.message.specs.Options.{segmentation_found}
use Rattle.message.proofs.parts_of_options.Options.segmentation.Given as goal

abbrev pub invariant-loop-s : goal.invariant-loop-s
invariant-loop-s l = segmentation_found l.self.octets.now ≡ segmentation_found l.fn.self.octets.now

abbrev pub decreases-loop-s : goal.decreases-loop-s
decreases-loop-s l = length l.self.octets.now
