use Rattle.std.proofs.Common.{arith}
use Rattle.std.specs.Vec.{with_items}
use Rattle.std.proofs.lemmas.Bool.Decides.{nat_tests}
use Rattle.std.proofs.lemmas.Grind.{common_steps}
use Rattle.cell_line.specs.Rings.{Kept, kept}
use Rattle.cell_line.proofs.ring.CellLineLine.put.Goals.{After-write_cell}
use Rattle.cell_line.proofs.ring.CellLineLine.put.Goals as goal

-- what the calls leave of the area
left : (c : After-write_cell) → Kept c.args.self.now.area.items (with_items c.args.self.now.area c.write_cell.new.area).items c.args.message.now c.args.self.now.cells c.args.self.now.head c.args.self.now.count
left c =
    let s = c.args.self.now in
    kept s.area.items _ c.args.message.now s.cells s.head s.count (record { inside = omega arith; headin = s.headin; room = grind (arith, nat_tests); least = grind (arith, nat_tests); most = grind (arith, nat_tests); held = s.held }) (grind (arith, common_steps))

pub invariant_of-self-clause-held : goal.invariant_of-self-clause-held
invariant_of-self-clause-held c = (left (goal.at.invariant_of-self-clause-held c).After-write_cell).held

pub returns-clause-messages : goal.returns-clause-messages
returns-clause-messages c = (left (goal.at.returns-clause-messages c).After-write_cell).after
