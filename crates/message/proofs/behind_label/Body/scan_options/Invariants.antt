use Rattle.std.proofs.Common.{◌≡◌, ◌-◌, ◌≤◌, length}
use Rattle.message.specs.Options.{span_on, option_span}
use Rattle.message.proofs.behind_label.Body.scan_options.Given as goal

abbrev pub invariant-loop-offset : goal.invariant-loop-offset
invariant-loop-offset l =
    let m = l.self.octets.now in
    (l.start ≤ l.offset) × (l.offset ≤ length m) × (span_on l.start l.segmented m l.offset ≡ option_span m l.start)

abbrev pub decreases-loop-offset : goal.decreases-loop-offset
decreases-loop-offset l = length l.self.octets.now - l.offset
