use Rattle.std.proofs.Common.{◌+◌, ◌*◌, ◌≤◌, length, arith}
use Rattle.std.specs.Vec.{with_items}
use Rattle.std.proofs.lemmas.Bool.Decides.{nat_tests}
use Rattle.std.proofs.lemmas.Grind.{common_steps}
use Rattle.packed_line.specs.Lines.{Grown, grown, pack_length}
use Rattle.packed_line.proofs.packing.PackedLineLine.put.Goals.{After-write_entry}
use Rattle.packed_line.proofs.packing.PackedLineLine.put.Goals as goal

-- what the calls leave of the area
left : (c : After-write_entry) → Grown c.args.self.now.area.items (with_items (with_items c.args.self.now.area c.put.new.out) c.write_entry.new.area).items c.args.message.now c.args.self.now.total c.args.self.now.used c.args.self.now.count
left c =
    let s = c.args.self.now in
    let room : s.used + length c.args.message.now + 4 * (s.count + 1) ≤ s.total = grind (arith, nat_tests) in
    grown s.area.items _ c.args.message.now s.total s.used s.count (record { inside = omega arith; room = room; least = grind (arith, nat_tests); most = grind (arith, nat_tests); ends = s.ends; placed = s.placed; held = s.held }) (grind (arith, common_steps))

pub invariant_of-self : goal.invariant_of-self
invariant_of-self c =
    let s = c.args.self.now in
    let g = left (goal.at.invariant_of-self c).After-write_entry in
    record { whole = s.whole; enough = s.enough; room = grind (arith, nat_tests); counted = pack_length _ _ _; spent = g.spent; ends = g.ends; placed = g.placed; held = g.held }

pub returns-clause-messages : goal.returns-clause-messages
returns-clause-messages c = (left (goal.at.returns-clause-messages c).After-write_entry).after
