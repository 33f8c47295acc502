use Rattle.std.proofs.Common.{◌<◌, length, ap, ◌∙◌, arith}
use Rattle.std.specs.Vec.{with_items}
use Rattle.std.proofs.lemmas.List.{with_items_is}
use Rattle.std.proofs.lemmas.Bool.Decides.{nat_tests}
use Rattle.packed_line.specs.Lines.{Shrunk, shrunk, above_moved, moved_lowered, oldest_length, pack_length}
use Rattle.packed_line.proofs.packing.PackedLineLine.take.Goals.{After-lower_index}
use Rattle.packed_line.proofs.packing.PackedLineLine.take.Goals as goal

pub lower_index-requires : goal.lower_index-requires
lower_index-requires c =
    let s = c.args.self.now in
    let some : 0 < s.count = grind (arith, nat_tests) in
    record {
      size = (some, (omega arith, omega arith));
      above = above_moved s.area.items _ _ s.total s.used s.count _ (omega arith) s.room (omega arith) c.copy_within.ensures.items c.deref_mut.ensures.value s.placed (ap length c.oldest-message.ensures.value ∙ oldest_length s.area.items s.total s.used s.count (omega arith) (omega arith) s.ends s.placed some);
    }

-- what the calls leave of the area
left : (c : After-lower_index) → Shrunk c.args.self.now.area.items (with_items c.copy_within.new.self c.lower_index.new.area).items c.args.self.now.total c.args.self.now.used c.args.self.now.count (length c.oldest-message.result.now)
left c =
    let s = c.args.self.now in
    let xs = s.area.items in
    let some : 0 < s.count = grind (arith, nat_tests) in
    shrunk xs _ s.total s.used s.count _
    (record { inside = omega arith; some = some; room = s.room; ends = s.ends; placed = s.placed; held = s.held; is = ap length c.oldest-message.ensures.value ∙ oldest_length xs s.total s.used s.count (omega arith) (omega arith) s.ends s.placed some })
    (with_items_is c.copy_within.new.self c.lower_index.new.area (omega (arith, c.lower_index.auto.area, c.deref_mut.ensures.len)) ∙ moved_lowered xs _ _ _ s.total s.used s.count _ (omega arith) (omega arith) c.copy_within.ensures.items c.deref_mut.ensures.value c.lower_index.ensures)

pub invariant_of-self : goal.invariant_of-self
invariant_of-self c =
    let s = c.args.self.now in
    let g = left (goal.at.invariant_of-self c).After-lower_index in
    record { whole = omega (arith, c.copy_within.ensures.len, s.whole); enough = s.enough; room = omega arith; counted = pack_length _ _ _; spent = g.spent; ends = g.ends; placed = g.placed; held = g.held }

pub returns-clause-messages : goal.returns-clause-messages
returns-clause-messages c = (left (goal.at.returns-clause-messages c).After-lower_index).after

pub returns-clause-area : goal.returns-clause-area
returns-clause-area c = (left (goal.at.returns-clause-area c).After-lower_index).area
